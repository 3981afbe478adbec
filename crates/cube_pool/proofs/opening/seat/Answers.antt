use Rattle.std.proofs.Common.{arith, ◌≡◌, ◌∙◌, ◌+◌, ◌-◌, ℕ, Some, ap, sym, length, refl}
use Rattle.std.specs.Prelude.{slice_get}
use Rattle.std.proofs.lemmas.List.{length-map}
use Rattle.crossbeam_deque.specs.Handles.{worker_deque, worker_view}
use Rattle.cube_pool.specs.Lanes.{whole}
use Rattle.cube_pool.specs.Hands.{Doings, newcomer}
use Rattle.cube_pool.specs.code.Closings.{Lane, Row, IsOpenWith, IsFreshRow, deques}
use Rattle.cube_pool.proofs.Lists.{first_of, last_of, length_pushed, gets_pushed}
use Rattle.cube_pool.proofs.Parts.{hand_of, seated, is_newcomer}
use Rattle.cube_pool.proofs.opening.seat.Goals as goal

pub invariant_of-push : goal.invariant_of-push
invariant_of-push c =
    let pool = deques c.args.lanes.items in
    let many : length pool ≡ length c.args.lanes.items = length-map c.args.lanes.items (λ (l : Lane). worker_deque l) in
    let P : ℕ → Lane → Type 0 = λ k l. IsOpenWith (whole - length pool) l × (slice_get pool (length pool - 1 - k) ≡ Some (worker_deque l)) in
    let Q : ℕ → Row → Type 0 = λ k r. IsFreshRow pool r.items in
    let v = c.lanes.invariant in
    let lane = last_of P c.lanes.lanes.items c.pop.new.self.items c.in-Some.lane c.in-Some.ensures.items v.lanes in
    let row = last_of Q c.lanes.rows.items c.pop-in-Some.new.self.items c.in-Some-pop.passes c.in-Some-pop.ensures.items v.rows in
    let popped : length c.lanes.lanes.items ≡ length c.pop.new.self.items + 1 = length_pushed c.lanes.lanes.items c.pop.new.self.items c.in-Some.lane c.in-Some.ensures.items in
    let place : length pool - 1 - length c.pop.new.self.items ≡ c.len-in-Some.result = omega (arith, many, popped, v.count, c.len-in-Some.ensures) in
    seated pool c.in-Some.lane c.in-Some-pop.passes.items c.len-in-Some.result (omega (arith, many, c.requires.few)) lane.0 (ap (slice_get pool) (sym place) ∙ lane.1) row

pub lanes-preserved : goal.lanes-preserved
lanes-preserved c =
    let pool = deques c.args.lanes.items in
    let many : length pool ≡ length c.args.lanes.items = length-map c.args.lanes.items (λ (l : Lane). worker_deque l) in
    let P : ℕ → Lane → Type 0 = λ k l. IsOpenWith (whole - length pool) l × (slice_get pool (length pool - 1 - k) ≡ Some (worker_deque l)) in
    let Q : ℕ → Row → Type 0 = λ k r. IsFreshRow pool r.items in
    let v = c.lanes.invariant in
    let lane = last_of P c.lanes.lanes.items c.pop.new.self.items c.in-Some.lane c.in-Some.ensures.items v.lanes in
    let row = last_of Q c.lanes.rows.items c.pop-in-Some.new.self.items c.in-Some-pop.passes c.in-Some-pop.ensures.items v.rows in
    let popped : length c.lanes.lanes.items ≡ length c.pop.new.self.items + 1 = length_pushed c.lanes.lanes.items c.pop.new.self.items c.in-Some.lane c.in-Some.ensures.items in
    let rows_popped : length c.lanes.rows.items ≡ length c.pop-in-Some.new.self.items + 1 = length_pushed c.lanes.rows.items c.pop-in-Some.new.self.items c.in-Some-pop.passes c.in-Some-pop.ensures.items in
    let place : length pool - 1 - length c.pop.new.self.items ≡ c.len-in-Some.result = omega (arith, many, popped, v.count, c.len-in-Some.ensures) in
    let hand : Doings = hand_of c.in-Some-pop.passes.items c.len-in-Some.result (worker_view c.in-Some.lane) in
    let new : hand ≡ newcomer pool c.len-in-Some.result =
    is_newcomer pool c.in-Some.lane c.in-Some-pop.passes.items c.len-in-Some.result (omega (arith, many, c.requires.few)) lane.0 (ap (slice_get pool) (sym place) ∙ lane.1) row hand refl in
    let longer : length c.push.new.self.items ≡ length c.lanes.hands.items + 1 = length_pushed c.push.new.self.items c.lanes.hands.items hand c.in_ok-push.ensures.items in
    let at_end : c.len-in-Some.result ≡ length c.lanes.hands.items = omega (arith, c.len-in-Some.ensures) in
    record {
      lanes = first_of P c.lanes.lanes.items c.pop.new.self.items c.in-Some.lane c.in-Some.ensures.items v.lanes;
      count = omega (arith, popped, longer, v.count);
      rows_left = omega (arith, popped, rows_popped, v.rows_left);
      rows = first_of Q c.lanes.rows.items c.pop-in-Some.new.self.items c.in-Some-pop.passes c.in-Some-pop.ensures.items v.rows;
      hands = gets_pushed (newcomer pool) c.push.new.self.items c.lanes.hands.items hand c.in_ok-push.ensures.items v.hands (new ∙ ap (newcomer pool) at_end);
    }
