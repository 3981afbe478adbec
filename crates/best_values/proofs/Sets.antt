-- Sets of points, as lists.
use Rattle.std.proofs.Common.{inl, inr, ◌⊎◌, ◌≡◌, ℕ, true, false, nat_eq, List, Contains}
use Rattle.std.specs.List.{list_any}
use Rattle.std.proofs.lemmas.Bool.{cases_Bool, eqb-true}
use Rattle.std.proofs.lemmas.Map.Views.{list_any-from_Contains, Contains-from_any}
use Rattle.std.proofs.lemmas.Cmp.{nat_eq_equiv}

-- a point is in the set, or it is not
pub record Inside (set : List ℕ) (p : ℕ) : Type 0 where
  pub test : list_any (nat_eq p) set ≡ true
  pub fact : Contains set p

pub record Outside (set : List ℕ) (p : ℕ) : Type 0 where
  pub test : list_any (nat_eq p) set ≡ false
  pub fact : Contains set p → ⊥

pub cases_set : (set : List ℕ) (p : ℕ) → Inside set p ⊎ Outside set p
cases_set set p =
    elim (cases_Bool (list_any (nat_eq p) set)) [
      | inl e ↦ inl (record { test = e; fact = Contains-from_any {eq = nat_eq} (λ a b h. eqb-true a b h) p set e })
      | inr e ↦ inr (record { test = e; fact = λ h. let t : list_any (nat_eq p) set ≡ true = list_any-from_Contains nat_eq_equiv p set h in absurd (cc) })
    ]
