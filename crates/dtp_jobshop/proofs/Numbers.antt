-- The whole numbers of a schedule.
use Rattle.std.proofs.Common.{refl, ap, ◌≡◌, List, [], ◌∷◌, ℤ}
use Rattle.script_law.specs.Ints.{whole_numbers}
use Rattle.dtp_jobshop.specs.code.Starts.{numbers_of}

pub numbers_back : (numbers : List ℤ) → numbers_of (whole_numbers numbers) ≡ numbers
numbers_back [] = refl
numbers_back (n ∷ ns) = ap (λ (l : List ℤ). n ∷ l) (numbers_back ns)
