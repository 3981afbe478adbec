use Rattle.std.proofs.Common.{◌≡◌, ℕ, ◌<◌, ◌+◌, length, get_or, vec_len}
use Rattle.std.specs.Prelude.{IfSome}
use Rattle.steal_search.specs.declared.dealing.Pace.{Pace}
use Rattle.cube_pool.specs.Hands.{Doings}
use Rattle.steal_search.proofs.Staffing.{IsHandAt}
use Rattle.steal_search.specs.code.Staff.{AllMayWork, AreHanded, AreSeated, IsFirst}
use Rattle.steal_search.proofs.shared.staff_of.Given as goal

abbrev pub invariant-hands : goal.invariant-hands
invariant-hands l = record {
  seat : IsFirst l.desk l.problem (vec_len l.staff + 1) l.seat;
  count : vec_len l.staff + vec_len l.hands ≡ vec_len l.fn.hands;
  hands : (k : ℕ) (d : Doings) → k < length l.hands.items → IsHandAt l.pool k (get_or l.hands.items k d);
  handed : AreHanded l.pool l.staff.items;
  seats : AreSeated l.desk l.staff.items;
  work : AllMayWork l.desk l.problem l.pool l.staff.items;
  first : IfSome l.first (λ (pace : Pace). pace.tools ≡ l.problem.points);
}

abbrev pub decreases-hands : goal.decreases-hands
decreases-hands l = vec_len l.hands
