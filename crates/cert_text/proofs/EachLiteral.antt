-- The literals of a list, written one after the other.
use Rattle.std.proofs.Common.{◌≡◌, ℕ, ◌<◌, ◌+◌, List, ◌∷◌, ◌++◌, Some, length, drop, map, sym, ap, ◌∙◌, append_assoc}
use Rattle.std.specs.Prelude.{slice_get}
use Rattle.std.proofs.lemmas.List.{drop_more}
use Rattle.std.proofs.lemmas.Option.{get_or_from_slice_get}
use Rattle.smt_sexpr.specs.Printing.{text_of, text_behind}
use Rattle.smt_sexpr.specs.Shapes.{items_of}
use Rattle.stn_core.specs.declared.literal.Literal.{Literal}
use Rattle.cert_text.specs.Form.{literal_sexpr}

abbrev behind : List Literal → List ℕ
behind ls = text_behind (items_of (map literal_sexpr ls))

-- a literal more
pub each_more : (ls : List Literal) (k : ℕ) (x : Literal) (before after whole : List ℕ) → k < length ls → slice_get ls k ≡ Some x → after ≡ before ++ 32 ∷ text_of (literal_sexpr x) → before ++ text_behind (items_of (map literal_sexpr (drop k ls))) ≡ whole → after ++ text_behind (items_of (map literal_sexpr (drop (k + 1) ls))) ≡ whole
each_more ls k x before after whole lt at e h =
    let rest : List Literal = drop (k + 1) ls in
    let here : behind (drop k ls) ≡ behind (x ∷ rest) = ap behind (drop_more ls k x lt) ∙ ap (λ (y : Literal). behind (y ∷ rest)) (get_or_from_slice_get ls k x x at) in
    ap (λ (xs : List ℕ). xs ++ behind rest) e
    ∙ append_assoc before (32 ∷ text_of (literal_sexpr x)) (behind rest)
    ∙ sym (ap (λ (xs : List ℕ). before ++ xs) here)
    ∙ h
