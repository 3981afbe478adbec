-- A difference that is cut to what a `Value` can hold compares with a bound as the difference does.
use Rattle.std.proofs.Common.{arith, ◌≡◌, ℤ, pos, negsuc, ◌≤ℤ◌, w64, FitsSigned}
use Rattle.std.proofs.lemmas.Int.{ints}
use Rattle.std.specs.Int.{w128, saturate_signed}

cut_within : (d c : ℤ) → FitsSigned w64 c → saturate_signed w128 d ≤ℤ c → d ≤ℤ c
cut_within (pos n) c fits h = omega (arith, ints)
cut_within (negsuc n) c fits h = omega (arith, ints)

within_cut : (d c : ℤ) → FitsSigned w64 c → d ≤ℤ c → saturate_signed w128 d ≤ℤ c
within_cut (pos n) c fits h = omega (arith, ints)
within_cut (negsuc n) c fits h = omega (arith, ints)

pub cut_holds : (cut d b c : ℤ) → FitsSigned w64 c → cut ≡ saturate_signed w128 d → b ≡ c → cut ≤ℤ b → d ≤ℤ c
cut_holds cut d b c fits is_cut is_bound h = cut_within d c fits (rw (← is_cut) (omega (arith, ints)))

pub holds_cut : (cut d b c : ℤ) → FitsSigned w64 c → cut ≡ saturate_signed w128 d → b ≡ c → d ≤ℤ c → cut ≤ℤ b
holds_cut cut d b c fits is_cut is_bound h = rw (is_cut, is_bound) (within_cut d c fits h)
