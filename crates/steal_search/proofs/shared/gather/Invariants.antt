use Rattle.std.proofs.Common.{◌≡◌, ℕ, ◌<◌, ◌≤◌, ◌+◌, length, get_or, vec_len}
use Rattle.std.specs.Prelude.{IsSome}
use Rattle.book_lock.specs.Rules.{kept_of}
use Rattle.cube_pool.specs.Hands.{Doings}
use Rattle.steal_search.proofs.Staffing.{IsHandAt}
use Rattle.steal_search.specs.code.Staff.{AreHanded, AreSeated, IsFirst}
use Rattle.steal_search.proofs.shared.gather.Given as goal

abbrev pub invariant-staff : goal.invariant-staff
invariant-staff l = record {
  seat : IsFirst l.desk l.problem (vec_len l.fn.staff + 1) l.seat;
  seats : AreSeated l.desk l.staff.items;
  few : vec_len l.staff ≤ vec_len l.fn.staff;
  handed : AreHanded l.pool l.staff.items;
  count : length l.hands.items + length l.staff.items ≡ length l.pool;
  hands : (k : ℕ) (d : Doings) → k < length l.hands.items → IsHandAt l.pool k (get_or l.hands.items k d);
  kept : (n : ℕ) → vec_len l.staff < n → n < l.seat.view.seats → IsSome (kept_of n l.seat.view.kept);
}

abbrev pub decreases-staff : goal.decreases-staff
decreases-staff l = vec_len l.staff
