use Rattle.std.proofs.Common.{arith, ◌≡◌, ◌+◌, ◌∙◌, ℕ, List, length, vec_len, refl, Some, None, sym, subst}
use Rattle.std.specs.Prelude.{Option, IfSome}
use Rattle.cube_pool.specs.Hands.{Doings}
use Rattle.cube_pool.proofs.Lists.{first_of, last_of, length_pushed}
use Rattle.steal_search.specs.declared.dealing.Pace.{Pace}
use Rattle.steal_search.specs.declared.shared.Worker.{Worker}
use Rattle.steal_search.specs.code.Staff.{IsFirst}
use Rattle.steal_search.proofs.Staffing.{IsHandAt, first_split, seats_more, work_more, handed_more}
use Rattle.steal_search.proofs.shared.staff_of.Goals as goal

pub hands-preserved : goal.hands-preserved
hands-preserved c =
    let desk = c.args.desk.now in
    let problem = c.args.problem.now in
    let pool = c.args.pool.now in
    let all = c.hands.staff.items in
    let more = c.push.new.self.items in
    let w : Worker = record { seat = c.in_ok-seat.seat; hand = c.in-Some.hand; pace = c.take.result; number = c.len-in-Some.result } in
    let e = c.in_ok-push.ensures.items in
    let v = c.hands.invariant in
    let many : vec_len c.hands.staff ≡ length all = omega arith in
    let first : IsFirst desk problem (length all + 1) c.hands.seat = subst (λ (n : ℕ). IsFirst desk problem (n + 1) c.hands.seat) many v.seat in
    let popped : length c.hands.hands.items ≡ length c.pop.new.self.items + 1 = length_pushed c.hands.hands.items c.pop.new.self.items c.in-Some.hand c.in-Some.ensures.items in
    let longer : length more ≡ length all + 1 = length_pushed more all w e in
    let now : length more ≡ vec_len c.push.new.self = omega arith in
    let pace : IfSome c.take.result (λ (p : Pace). p.tools ≡ problem.points) = subst (λ (o : Option Pace). IfSome o (λ (p : Pace). p.tools ≡ problem.points)) (sym c.take.ensures.value) v.first in
    record {
      seat = subst (λ (n : ℕ). IsFirst desk problem (n + 1) c.split_seat.new.seat) now (first_split desk problem pool all more w e c.hands.seat c.split_seat.new.seat c.in_ok-seat.seat first c.in_ok-seat.ensures.seat c.in_ok-seat.ensures.ok refl);
      count = omega (arith, popped, longer, v.count);
      hands = first_of (IsHandAt pool) c.hands.hands.items c.pop.new.self.items c.in-Some.hand c.in-Some.ensures.items v.hands;
      handed = handed_more pool c.hands.hands.items c.pop.new.self.items c.in-Some.hand all more w c.in-Some.ensures.items e refl (omega (arith, many, c.requires.hands.0, v.count)) v.hands v.handed;
      seats = seats_more desk problem pool all more w e c.hands.seat c.split_seat.new.seat c.in_ok-seat.seat first c.in_ok-seat.ensures.seat c.in_ok-seat.ensures.ok refl v.seats;
      work = work_more desk problem pool all more w e c.hands.seat c.split_seat.new.seat c.in_ok-seat.seat first c.in_ok-seat.ensures.seat c.in_ok-seat.ensures.ok refl v.work (last_of (IsHandAt pool) c.hands.hands.items c.pop.new.self.items c.in-Some.hand c.in-Some.ensures.items v.hands).0 pace;
      first = subst (λ (o : Option Pace). IfSome o (λ (p : Pace). p.tools ≡ problem.points)) (sym c.take.ensures.after) tt;
    }
