use Rattle.std.proofs.Common.{arith, sym, subst, ◌∙◌, ◌≡◌, ◌<◌, ◌≤◌, ℕ, List, Option, ℤ, length, []}
use Rattle.std.specs.Option.{IfSome}
use Rattle.stn_core.specs.declared.literal.Literal.{Literal}
use Rattle.stn_core.specs.Literal.{value_at}
use Rattle.inc_paths.specs.code.Trails.{first_in}
use Rattle.inc_paths.specs.code.Work.{AreTraced, IsLowering, IsClosing}
use Rattle.inc_paths.proofs.Scans.{first_on, taken_there, popped_first, popped_lowering, popped_taken, popped_room, none_waits, settled}
use Rattle.inc_paths.proofs.relax.settle.Goals as goal
use Rattle.inc_paths.proofs.relax.settle.Goals.{In-Some}

there : (c : In-Some) → (c.queue.labels.start ≤ c.in-Some.place) × (c.in-Some.place < length c.queue.labels.trail)
there c = taken_there c.args.arcs.now.points c.args.arcs.now.literals c.args.new (first_in c.args.labels.now) c.queue.labels c.pop.new.self _ c.pop.ensures.values c.pop.ensures.trail c.pop.ensures.start c.in-Some.ensures.some c.queue.invariant.lowering

pub scan-requires-clause-lowering : goal.scan-requires-clause-lowering
scan-requires-clause-lowering c =
    let at = popped_lowering c.args.arcs.now.points c.args.arcs.now.literals c.args.new (first_in c.args.labels.now) c.queue.labels c.pop.new.self _ c.pop.ensures.values c.pop.ensures.trail c.pop.ensures.start c.in-Some.ensures.some c.queue.invariant.lowering in
    let first : first_in c.pop.new.self ≡ first_in c.args.labels.now = popped_first c.args.arcs.now.points c.args.arcs.now.literals c.args.new (first_in c.args.labels.now) c.queue.labels c.pop.new.self _ c.pop.ensures.values c.pop.ensures.trail c.pop.ensures.start c.in-Some.ensures.some ∙ first_on c.args.labels.now c.queue.labels c.queue.invariant.start c.queue.invariant.kept in
    subst (λ (vs : List ℤ). IsLowering c.args.arcs.now.points c.args.arcs.now.literals c.args.new vs c.pop.new.self) (sym first) at

pub scan-requires-clause-low : goal.scan-requires-clause-low
scan-requires-clause-low c = let t = there (goal.at.scan-requires-clause-low c).In-Some in let low = t.0 in omega (arith, c.pop.ensures.start, low)

pub scan-requires-clause-high : goal.scan-requires-clause-high
scan-requires-clause-high c = let t = there (goal.at.scan-requires-clause-high c).In-Some in rw c.pop.ensures.trail t.1

pub scan-requires-clause-taken : goal.scan-requires-clause-taken
scan-requires-clause-taken c = popped_taken c.args.arcs.now.points c.args.arcs.now.literals c.args.new (first_in c.args.labels.now) c.queue.labels c.pop.new.self _ c.pop.ensures.values c.pop.ensures.trail c.pop.ensures.start c.in-Some.ensures.some c.queue.invariant.pending

pub way_back-requires-clause-traced : goal.way_back-requires-clause-traced
way_back-requires-clause-traced c =
    let b = c.in_ok-last.ensures.lowering in
    let labels = c.scan.new.labels in
    let closing : IsClosing c.args.arcs.now.literals labels c.args.new.y c.in-Some.place c.in-Some-2.last = subst (λ (r : Option Literal). IfSome r (IsClosing c.args.arcs.now.literals labels c.args.new.y c.in-Some.place)) c.in-Some-2.is c.in_ok-last.ensures.some in
    let base : AreTraced c.args.arcs.now.literals c.args.new.y (value_at labels.values c.args.new.y) labels = subst (λ (z : ℤ). AreTraced c.args.arcs.now.literals c.args.new.y z labels) (sym b.between.kept) b.traced in
    subst (λ (p : ℕ). AreTraced c.args.arcs.now.literals p (value_at labels.values p) labels) (sym closing.x_is) base

pub way_back-requires-clause-low : goal.way_back-requires-clause-low
way_back-requires-clause-low c = let t = there (goal.at.way_back-requires-clause-low c).In-Some in let low = t.0 in omega (arith, c.scan.ensures.start, c.pop.ensures.start, low)

pub queue-smaller : goal.queue-smaller
queue-smaller c =
    let less = popped_room c.args.arcs.now.points c.args.arcs.now.literals c.args.new (first_in c.args.labels.now) c.queue.labels c.pop.new.self _ c.pop.ensures.values c.pop.ensures.trail c.pop.ensures.start c.in-Some.ensures.some in
    let more = c.in_ok-last.ensures.room in
    omega arith

pub returns-clause-none : goal.returns-clause-none
returns-clause-none c =
    let mid = c.queue.labels in
    let start = c.requires.start in
    let b = c.queue.invariant.lowering in
    let empty : mid.queue ≡ [] = c.in_default.ensures.none in
    rw c.pop.ensures.values (settled c.args.arcs.now.points c.args.arcs.now.literals c.args.new (first_in c.args.labels.now) mid.values start b.between (none_waits c.args.arcs.now.literals mid empty c.queue.invariant.pending))
