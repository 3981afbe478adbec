use Rattle.std.proofs.Common.{arith, ◌≡◌, ◌<◌, ◌∙◌, ap, sym, length, map}
use Rattle.std.proofs.lemmas.List.{length-map}
use Rattle.crossbeam_deque.specs.Handles.{stealer_deque, worker_view}
use Rattle.cube_pool.specs.Hands.{Doings, deque_of}
use Rattle.cube_pool.proofs.Lists.{match_option}
use Rattle.cube_pool.proofs.Parts.{fetches_there, hand_after, fetched_none, fetched_some}
use Rattle.cube_pool.proofs.pool.Pool.fetch_at.Goals as goal

pub fetch-requires-clause-pass : goal.fetch-requires-clause-pass
fetch-requires-clause-pass g c =
    let passes = c.hand.inside.passes.items in
    let mouths = c.self.inside.mouths.items in
    let pools : map deque_of passes ≡ map stealer_deque mouths = ap (λ (d : Doings). d.pool) c.hand.view_is ∙ (c.requires.pool ∙ sym c.self.view_is) in
    let within : c.args.place < length mouths = omega (arith, c.requires.place, length-map mouths stealer_deque, ap length c.self.view_is) in
    fetches_there passes mouths c.args.place c.index_mut.result.now c.index_mut.result.now c.index.result.now c.index_mut.ensures.value c.index.ensures pools within c.hand.invariant.takers

pub invariant_of-hand : goal.invariant_of-hand
invariant_of-hand g c =
    let passes = c.hand.inside.passes.items in
    let mouths = c.self.inside.mouths.items in
    let pools : map deque_of passes ≡ map stealer_deque mouths = ap (λ (d : Doings). d.pool) c.hand.view_is ∙ (c.requires.pool ∙ sym c.self.view_is) in
    let within : c.args.place < length mouths = omega (arith, c.requires.place, length-map mouths stealer_deque, ap length c.self.view_is) in
    hand_after passes mouths c.args.place c.index_mut.result.now c.fetch.new.pass c.index.result.now c.index_mut.ensures.value c.index.ensures pools within c.hand.invariant.takers c.fetch.result c.fetch.ensures.fetched c.fetch.ensures.same c.hand.invariant

pub returns : goal.returns
returns g c =
    let passes = c.hand.inside.passes.items in
    let mouths = c.self.inside.mouths.items in
    let pools : map deque_of passes ≡ map stealer_deque mouths = ap (λ (d : Doings). d.pool) c.hand.view_is ∙ (c.requires.pool ∙ sym c.self.view_is) in
    let within : c.args.place < length mouths = omega (arith, c.requires.place, length-map mouths stealer_deque, ap length c.self.view_is) in
    let v = worker_view c.hand.inside.lane in
    match_option c.fetch.result c.fetch.ensures.fetched
    (fetched_none passes mouths c.args.place c.index_mut.result.now c.fetch.new.pass c.index.result.now c.index_mut.ensures.value c.index.ensures pools within c.hand.invariant.takers c.hand.inside.number v c.args.hand.now c.fetch.ensures.same c.hand.view_is)
    (fetched_some passes mouths c.args.place c.index_mut.result.now c.fetch.new.pass c.index.result.now c.index_mut.ensures.value c.index.ensures pools within c.hand.invariant.takers c.hand.inside.number v c.args.hand.now c.fetch.ensures.same c.hand.view_is)
