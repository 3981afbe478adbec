use Rattle.std.proofs.Common.{arith, ◌≡◌, ◌+◌, length, vec_len}
use Rattle.steal_search.proofs.Staffing.{first_joined, seats_left, kept_more, handed_left, hands_more}
use Rattle.cube_pool.proofs.Lists.{length_pushed}
use Rattle.steal_search.proofs.shared.gather.Goals as goal

pub staff-preserved : goal.staff-preserved
staff-preserved c =
    let desk = c.args.desk.now in
    let problem = c.args.problem.now in
    let pool = c.args.pool.now in
    let n = vec_len c.args.staff + 1 in
    let s = c.staff.staff.items in
    let t = c.pop.new.self.items in
    let w = c.in-Some.worker in
    let e = c.in-Some.ensures.items in
    let f = c.in_ok-push.ensures.items in
    let v = c.staff.invariant in
    let popped : length s ≡ length t + 1 = length_pushed s t w e in
    let pushed : length c.push.new.self.items ≡ length c.staff.hands.items + 1 = length_pushed c.push.new.self.items c.staff.hands.items w.hand f in
    record {
      seat = first_joined desk problem n s t w e v.seats c.staff.seat c.join_seat.new.seat v.seat c.join_seat.ensures.seat;
      seats = seats_left desk problem n s t w e v.seats c.staff.seat c.join_seat.new.seat v.seat c.join_seat.ensures.seat;
      few = omega (arith, popped, v.few);
      kept = λ m low high. kept_more desk problem n s t w e v.seats c.staff.seat c.join_seat.new.seat v.seat c.join_seat.ensures.seat (λ i l h. v.kept i (omega (arith, l)) h) m (omega (arith, low)) high;
      handed = handed_left pool s t w e v.handed;
      count = omega (arith, popped, pushed, v.count);
      hands = hands_more pool s t w c.staff.hands.items c.push.new.self.items e f v.count v.handed v.hands;
    }

pub staff-preserved-in_ok-push : goal.staff-preserved-in_ok-push
staff-preserved-in_ok-push c =
    let desk = c.args.desk.now in
    let problem = c.args.problem.now in
    let pool = c.args.pool.now in
    let n = vec_len c.args.staff + 1 in
    let s = c.staff.staff.items in
    let t = c.pop.new.self.items in
    let w = c.in-Some.worker in
    let e = c.in-Some.ensures.items in
    let f = c.in_ok-push.ensures.items in
    let v = c.staff.invariant in
    let popped : length s ≡ length t + 1 = length_pushed s t w e in
    let pushed : length c.push.new.self.items ≡ length c.staff.hands.items + 1 = length_pushed c.push.new.self.items c.staff.hands.items w.hand f in
    record {
      seat = first_joined desk problem n s t w e v.seats c.staff.seat c.join_seat.new.seat v.seat c.join_seat.ensures.seat;
      seats = seats_left desk problem n s t w e v.seats c.staff.seat c.join_seat.new.seat v.seat c.join_seat.ensures.seat;
      few = omega (arith, popped, v.few);
      kept = λ m low high. kept_more desk problem n s t w e v.seats c.staff.seat c.join_seat.new.seat v.seat c.join_seat.ensures.seat (λ i l h. v.kept i (omega (arith, l)) h) m (omega (arith, low)) high;
      handed = handed_left pool s t w e v.handed;
      count = omega (arith, popped, pushed, v.count);
      hands = hands_more pool s t w c.staff.hands.items c.push.new.self.items e f v.count v.handed v.hands;
    }
