use Rattle.std.proofs.Common.{arith, ◌≡◌, ◌<◌, ◌∙◌, ◌-◌, ap, List, Some, length, sym}
use Rattle.std.specs.Prelude.{slice_get}
use Rattle.crossbeam_deque.specs.Handles.{worker_deque}
use Rattle.cube_pool.specs.Lanes.{whole}
use Rattle.cube_pool.specs.Hands.{Deque}
use Rattle.cube_pool.specs.code.Closings.{deques}
use Rattle.cube_pool.proofs.Parts.{same_deques, split_more, row_more, takers_more, nothing_more, unknown_more, deque_there}
use Rattle.cube_pool.proofs.opening.open_row.Goals as goal

pub returns-in_err-push-clause-deques : goal.returns-in_err-push-clause-deques
returns-in_err-push-clause-deques c =
    let v = c.loop-place.invariant in
    same_deques (whole - c.args.made) c.loop-place.place c.loop-place.lanes.items v.split c.index_mut.result.now c.split-pass.new.lane c.index_mut.ensures.value (omega (arith, c.loop-place-test.true, c.len-place-end.ensures, v.count)) c.split-pass.ensures.same.0 c.split-pass.ensures.same.1 c.split-pass.ensures.views.0 ∙ v.same

pub loop-place-preserved : goal.loop-place-preserved
loop-place-preserved c =
    let v = c.loop-place.invariant in
    let within : c.loop-place.place < length c.loop-place.lanes.items = omega (arith, c.loop-place-test.true, c.len-place-end.ensures, v.count) in
    let pool = deques c.args.lanes.now.items in
    let at : slice_get pool c.loop-place.place ≡ Some (worker_deque c.index_mut.result.now) =
    ap (λ (p : List Deque). slice_get p c.loop-place.place) (sym v.same) ∙ deque_there c.loop-place.lanes.items c.loop-place.place c.index_mut.result.now c.index_mut.ensures.value within in
    record {
      count = v.count;
      same = same_deques (whole - c.args.made) c.loop-place.place c.loop-place.lanes.items v.split c.index_mut.result.now c.split-pass.new.lane c.index_mut.ensures.value within c.split-pass.ensures.same.0 c.split-pass.ensures.same.1 c.split-pass.ensures.views.0 ∙ v.same;
      split = split_more (whole - c.args.made) c.loop-place.place c.loop-place.lanes.items v.split c.index_mut.result.now c.split-pass.new.lane c.index_mut.ensures.value within c.split-pass.ensures.same.0 c.split-pass.ensures.same.1 c.split-pass.ensures.views.0;
      row = row_more pool c.loop-place.row.items c.push.new.self.items c.loop-place.place c.split-pass.result (worker_deque c.index_mut.result.now) c.in_ok-push.ensures.items at c.split-pass.ensures.same.2 c.split-pass.ensures.views.1 v.row;
      takers = takers_more pool c.loop-place.row.items c.push.new.self.items c.loop-place.place c.split-pass.result (worker_deque c.index_mut.result.now) c.in_ok-push.ensures.items at c.split-pass.ensures.same.2 c.split-pass.ensures.views.1 v.takers;
      nothing = nothing_more pool c.loop-place.row.items c.push.new.self.items c.loop-place.place c.split-pass.result (worker_deque c.index_mut.result.now) c.in_ok-push.ensures.items at c.split-pass.ensures.same.2 c.split-pass.ensures.views.1 v.nothing;
      unknown = unknown_more pool c.loop-place.row.items c.push.new.self.items c.loop-place.place c.split-pass.result (worker_deque c.index_mut.result.now) c.in_ok-push.ensures.items at c.split-pass.ensures.same.2 c.split-pass.ensures.views.1 v.unknown;
    }
