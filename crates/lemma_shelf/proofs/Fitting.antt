-- Time points that a step needs, beside those that others need.
use Rattle.std.proofs.Common.{◌≡◌, List, ◌∷◌, Bool, true, false, refl, sym, ap, ◌∙◌}
use Rattle.std.specs.Prelude.{◌&&◌}
use Rattle.std.specs.List.{list_all}

pub and_assoc : (a b c : Bool) → ((a && b) && c) ≡ (a && (b && c))
and_assoc true b c = refl
and_assoc false b c = refl

pub fits_first : {X : Type 0} (fits : X → Bool) (a both : Bool) (x : X) (before after : List X) → before ≡ x ∷ after → both ≡ (a && fits x) → (both && list_all fits after) ≡ (a && list_all fits before)
fits_first fits a both x before after e is =
    ap (λ (b : Bool). b && list_all fits after) is ∙ and_assoc a (fits x) (list_all fits after) ∙ sym (ap (λ xs. a && list_all fits xs) e)
