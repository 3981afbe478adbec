use Rattle.std.proofs.Common.{◌≡◌, ◌∙◌, sym, ap, subst, Option, Some, List, ℕ, codes, true, Bor}
use Rattle.std.specs.Prelude.{option_map}
use Rattle.std.specs.Str.{bytes_eq}
use Rattle.smt_sexpr.specs.Tree.{symbol_of}
use Rattle.smt_sexpr.specs.Shapes.{HeadIs}
use Rattle.smt_sexpr.proofs.Shapes.{one_of}
use Rattle.smt_script.proofs.Literals.{negated_is}
use Rattle.smt_script.proofs.assumption.literal_of.Goals as goal

pub symbol-requires-in-Some-default-len1 : goal.symbol-requires-in-Some-default-len1
symbol-requires-in-Some-default-len1 c =
    let t = c.args.sexprs.now in
    let h : HeadIs t c.requires.0 (Some (c.in-Some-default-len1.head.now, c.in-Some-default-len1.field-0-1.now)) =
    subst (λ (r : Option (Bor (List ℕ) × Bor (List ℕ))). HeadIs t c.requires.0 (option_map {U = List ℕ × List ℕ} (λ p. (p.0.now, p.1.now)) r)) c.in-Some-default-len1.is (c.headed.ensures c.requires.0 c.requires.1) in
    let p = one_of t c.in-Some-default-len1.field-0-1.now h.0 h.2 c.in-Some-default-len1.len_at_least c.in-Some-default-len1.len_below in
    (p.first, p.first_means)

pub returns-in_ok-name-in-Some-default-len1 : goal.returns-in_ok-name-in-Some-default-len1
returns-in_ok-name-in-Some-default-len1 c = λ x means.
    let t = c.args.sexprs.now in
    let h : HeadIs t x (Some (c.in-Some-default-len1.head.now, c.in-Some-default-len1.field-0-1.now)) =
    subst (λ (r : Option (Bor (List ℕ) × Bor (List ℕ))). HeadIs t x (option_map {U = List ℕ × List ℕ} (λ p. (p.0.now, p.1.now)) r)) c.in-Some-default-len1.is (c.headed.ensures x means) in
    let p = one_of t c.in-Some-default-len1.field-0-1.now h.0 h.2 c.in-Some-default-len1.len_at_least c.in-Some-default-len1.len_below in
    let named : symbol_of p.first ≡ Some c.in_ok-name-in-Some-default-len1.name.now =
    sym (c.symbol-in-Some-default-len1.ensures p.first p.first_means) ∙ ap (λ (r : Option (Bor (List ℕ))). option_map (λ (text : Bor (List ℕ)). text.now) r) c.in_ok-name-in-Some-default-len1.was in
    let not_ : bytes_eq c.in-Some-default-len1.head.now (codes "not") ≡ true = ap (bytes_eq c.in-Some-default-len1.head.now) (sym c.as_slice.ensures) ∙ sym c.if-eq.ensures in
    negated_is x p.first c.in-Some-default-len1.head.now c.in_ok-name-in-Some-default-len1.name.now h.0 h.1 p.is not_ named
