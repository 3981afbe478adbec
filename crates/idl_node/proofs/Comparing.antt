-- A difference that is cut to what a `Value` can hold compares with a bound as the difference does.
use Rattle.std.proofs.Common.{arith, refl, ◌≡◌, ℤ, Bool, true, false, ◌≤ℤ◌, w64, FitsSigned}
use Rattle.std.specs.Bool.{IsTrue}
use Rattle.std.specs.Prelude.{int_le}
use Rattle.std.specs.Int.{w128, saturate_signed}
use Rattle.std.proofs.lemmas.Int.{ints}
use Rattle.stn_core.proofs.Saturating.{cut_holds, holds_cut}

same_truth : (a b : Bool) → (IsTrue a → IsTrue b) → (IsTrue b → IsTrue a) → a ≡ b
same_truth true true f g = refl
same_truth false false f g = refl
same_truth true false f g = let h : IsTrue false = f refl in cc
same_truth false true f g = let h : IsTrue false = g refl in cc

test_holds : (a b : ℤ) → IsTrue (int_le a b) → a ≤ℤ b
test_holds a b h = omega (arith, ints)

holds_test : (a b : ℤ) → a ≤ℤ b → IsTrue (int_le a b)
holds_test a b h = grind (arith, ints)

pub cut_test : (cut d b c : ℤ) → FitsSigned w64 c → cut ≡ saturate_signed w128 d → b ≡ c → int_le cut b ≡ int_le d c
cut_test cut d b c fits is_cut is_bound =
    same_truth (int_le cut b) (int_le d c)
    (λ h. holds_test d c (cut_holds cut d b c fits is_cut is_bound (test_holds cut b h)))
    (λ h. holds_test cut b (holds_cut cut d b c fits is_cut is_bound (test_holds d c h)))
