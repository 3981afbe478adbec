-- The lines of entries of a minimize, in the pieces in which they are written.
use Rattle.std.proofs.Common.{◌≡◌, ◌∙◌, sym, ap, List, [], ◌∷◌, ◌++◌, ℕ, ℤ, map, append_assoc}
use Rattle.std.specs.Prelude.{codes}
use Rattle.smt_lex.specs.Bytes.{is_symbol_byte}
use Rattle.smt_sexpr.specs.Printing.{text_of, text_behind}
use Rattle.smt_sexpr.specs.Shapes.{form, items_of, list_of}
use Rattle.smt_sexpr.specs.Tree.{Sexpr}
use Rattle.stn_core.specs.declared.named.NamedValue.{NamedValue}
use Rattle.cert_text.specs.declared.entry.Entry.TheVariants.{Unbounded}
use Rattle.cert_text.specs.Form.{numeral, number_of_value, value_sexpr, values_sexpr, entry_sexpr, line_of}

three_pieces : (n v l : List ℕ) → (n ++ 32 ∷ (v ++ l)) ++ 10 ∷ [] ≡ (n ++ 32 ∷ []) ++ (v ++ (l ++ 10 ∷ []))
three_pieces n v l =
    append_assoc n (32 ∷ (v ++ l)) (10 ∷ [])
    ∙ ap (λ (xs : List ℕ). n ++ 32 ∷ xs) (append_assoc v l (10 ∷ []))
    ∙ sym (append_assoc n (32 ∷ []) (v ++ (l ++ 10 ∷ [])))

two_lists : (v p : List ℕ) → (v ++ 32 ∷ (p ++ 41 ∷ [])) ++ 10 ∷ [] ≡ v ++ 32 ∷ (p ++ 41 ∷ 10 ∷ [])
two_lists v p = append_assoc v (32 ∷ (p ++ 41 ∷ [])) (10 ∷ []) ∙ ap (λ (xs : List ℕ). v ++ 32 ∷ xs) (append_assoc p (41 ∷ []) (10 ∷ []))

pub best_line : (m : ℤ) (values : List NamedValue) (items : List Sexpr) → line_of (form (codes "best") (number_of_value m ∷ values_sexpr values ∷ items))
    ≡ (codes "(best " ++ (text_of (number_of_value m) ++ 32 ∷ [])) ++ (text_of (list_of (map value_sexpr values)) ++ (text_behind (items_of items) ++ 10 ∷ []))
unfolding is_symbol_byte
best_line m values items =
    ap (λ (xs : List ℕ). codes "(best " ++ xs) (three_pieces (text_of (number_of_value m)) (text_of (list_of (map value_sexpr values))) (text_behind (items_of items)))

pub unbounded_line : (values : List ℤ) (points : List ℕ) → line_of (entry_sexpr (Unbounded values points))
    ≡ codes "(unbounded " ++ (text_of (list_of (map number_of_value values)) ++ 32 ∷ (text_of (list_of (map numeral points)) ++ 41 ∷ 10 ∷ []))
unfolding is_symbol_byte
unbounded_line values points =
    ap (λ (xs : List ℕ). codes "(unbounded " ++ xs) (two_lists (text_of (list_of (map number_of_value values))) (text_of (list_of (map numeral points))))
