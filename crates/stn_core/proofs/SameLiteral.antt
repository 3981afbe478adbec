-- Literals that are the same in their parts are one.
use Rattle.std.proofs.Common.{ap, ◌∙◌, ◌≡◌, ℕ, true, ◌==◌, ◌&&◌, ℤ}
use Rattle.std.specs.Bool.{Decides}
use Rattle.std.specs.Ordering.{int_eq}
use Rattle.std.proofs.lemmas.Bool.{and_parts, and_from, eqb-true, eq-eqb}
use Rattle.std.proofs.lemmas.Bool.Decides.{Decides-int_eq}
use Rattle.stn_core.specs.declared.literal.Literal.{Literal}
use Rattle.stn_core.specs.Literal.{same_literal}

abbrev literal : ℕ → ℕ → ℤ → Literal
literal x y c = record { x = x; y = y; c = c }

pub literal_is : (l m : Literal) → l.x ≡ m.x → l.y ≡ m.y → l.c ≡ m.c → l ≡ m
literal_is l m e f g =
    ap (λ (a : ℕ). literal a l.y l.c) e ∙ ap (λ (b : ℕ). literal m.x b l.c) f ∙ ap (λ (c : ℤ). literal m.x m.y c) g

pub same_literal_decides : (l m : Literal) → Decides (same_literal l m) (l ≡ m)
same_literal_decides l m = (λ e. forth e, λ e. back e)
  where
    forth : same_literal l m ≡ true → l ≡ m
    forth e =
        let first = and_parts (l.x == m.x) (l.y == m.y && int_eq l.c m.c) e in
        let second = and_parts (l.y == m.y) (int_eq l.c m.c) first.1 in
        literal_is l m (eqb-true _ _ first.0) (eqb-true _ _ second.0) ((Decides-int_eq l.c m.c).0 second.1)

    back : l ≡ m → same_literal l m ≡ true
    back e =
        and_from (l.x == m.x) (l.y == m.y && int_eq l.c m.c) (eq-eqb _ _ (ap (λ (k : Literal). k.x) e))
        (and_from (l.y == m.y) (int_eq l.c m.c) (eq-eqb _ _ (ap (λ (k : Literal). k.y) e)) ((Decides-int_eq l.c m.c).1 (ap (λ (k : Literal). k.c) e)))
