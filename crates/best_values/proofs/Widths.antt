-- How wide bounds are.
use Rattle.std.proofs.Common.{arith, ◌≡◌, ℕ, ◌≤◌, max, ℤ, pos, negsuc, ◌≤ℤ◌, unsigned_abs}
use Rattle.std.proofs.Math.Nat.{le-max_left, le-max_right, max-le}
use Rattle.std.proofs.lemmas.Int.{ints}

-- a whole number is at most its absolute value
pub le-abs : (z : ℤ) → z ≤ℤ pos (unsigned_abs z)
le-abs (pos n) = omega (arith, ints)
le-abs (negsuc n) = omega (arith, ints)
