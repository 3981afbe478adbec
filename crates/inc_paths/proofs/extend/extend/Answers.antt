use Rattle.std.proofs.Common.{sym, ap, subst, ◌∙◌, ◌≡◌, List, Option, Some, None, ℤ, Bool, true, false, length, ◌+ℤ◌, ◌<ℤ◌}
use Rattle.stn_core.specs.Literal.{value_at, Holds}
use Rattle.std.specs.Option.{IfNone}
use Rattle.stn_core.specs.declared.literal.Literals.{Literals}
use Rattle.stn_core.specs.Answer.{IsBest}
use Rattle.stn_core.specs.Schedule.{IsGreatestSchedule}
use Rattle.inc_paths.specs.declared.labels.Lowering.{Lowering}
use Rattle.inc_paths.specs.code.Trails.{Labelled, fall_of}
use Rattle.inc_paths.specs.code.Trails.{first_in, older_in}
use Rattle.inc_paths.specs.code.Work.{IsKept, IsStart, IsLowering, IsPending}
use Rattle.inc_paths.proofs.Lowers.{holds_not}
use Rattle.inc_paths.proofs.Extends.{x_in, y_in, fits, best_more, loop_cycle, greatest_best, first_is, older_is, began_start, began_lowering, began_pending, kept_back}
use Rattle.inc_paths.proofs.extend.extend.Goals as goal
use Rattle.inc_paths.proofs.extend.extend.Goals.{In_ok-lower}

true_false : (b : Bool) → b ≡ true → b ≡ false → ⊥
true_false b t f = cc

pub returns-then-not-fails-clause-none : goal.returns-then-not-fails-clause-none
returns-then-not-fails-clause-none c =
    let same : c.begin.new.self.values ≡ c.args.labels.now.values = ap (λ (l : Labelled). l.values) c.begin.ensures in
    let not_bad : (value_at c.begin.new.self.values c.args.new.y +ℤ c.args.new.c) <ℤ value_at c.begin.new.self.values c.args.new.x → ⊥ = λ h. true_false c.fails.result (c.fails.ensures.1 h) c.if-not-fails.true in
    rw same (best_more c.args.arcs.now.points c.args.arcs.now.literals c.args.new c.args.labels.now.values c.requires.few c.requires.over c.requires.extending.0 c.requires.extending.1 c.requires.extending.2
    (subst (λ (vs : List ℤ). Holds vs c.args.new) same (holds_not c.begin.new.self.values c.args.new not_bad)))

pub returns-then-new-clause-some : goal.returns-then-new-clause-some
returns-then-new-clause-some c =
    let same : c.begin.new.self.values ≡ c.args.labels.now.values = ap (λ (l : Labelled). l.values) c.begin.ensures in
    let bad = subst (λ (vs : List ℤ). (value_at vs c.args.new.y +ℤ c.args.new.c) <ℤ value_at vs c.args.new.x) same (c.fails.ensures.0 c.if-not-fails.false) in
    rw c.in_ok-single.ensures (loop_cycle c.args.arcs.now.points c.args.arcs.now.literals c.args.new c.args.labels.now.values c.requires.few c.requires.over c.requires.extending.0 c.requires.extending.1 c.requires.extending.2 c.if-new.true bad)

pub lower-requires-clause-x_in : goal.lower-requires-clause-x_in
lower-requires-clause-x_in c = rw c.begin.ensures (x_in c.args.arcs.now.points c.args.arcs.now.literals c.args.new c.args.labels.now.values c.requires.few c.requires.over c.requires.extending.0 c.requires.extending.1 c.requires.extending.2)

pub lower-requires-clause-y_in : goal.lower-requires-clause-y_in
lower-requires-clause-y_in c = rw c.begin.ensures (y_in c.args.arcs.now.points c.args.arcs.now.literals c.args.new c.args.labels.now.values c.requires.few c.requires.over c.requires.extending.0 c.requires.extending.1 c.requires.extending.2)

pub lower-requires-clause-fits : goal.lower-requires-clause-fits
lower-requires-clause-fits c = rw c.begin.ensures (fits c.args.arcs.now.points c.args.arcs.now.literals c.args.new c.args.labels.now.values c.requires.few c.requires.over c.requires.extending.0 c.requires.extending.1 c.requires.extending.2)

bad : (c : In_ok-lower) → (value_at c.args.labels.now.values c.args.new.y +ℤ c.args.new.c) <ℤ value_at c.args.labels.now.values c.args.new.x
bad c = subst (λ (l : Labelled). (value_at l.values c.args.new.y +ℤ c.args.new.c) <ℤ value_at l.values c.args.new.x) c.begin.ensures (c.fails.ensures.0 c.if-not-fails.false)

first : (c : In_ok-lower) → first_in c.lower.new.self ≡ c.args.labels.now.values
first c = first_is c.args.arcs.now.points c.args.arcs.now.literals c.args.new c.args.labels.now.values c.requires.few c.requires.over c.requires.extending.0 c.requires.extending.1 c.requires.extending.2 c.if-new.false (bad c) c.begin.new.self c.lower.new.self (fall_of c.begin.new.self c.args.new) (ap (λ (l : Labelled). l.values) c.begin.ensures) (ap (λ (l : Labelled). l.start) c.begin.ensures ∙ sym (ap (λ (l : Labelled). length l.trail) c.begin.ensures)) (ap (λ (l : Labelled). l.queue) c.begin.ensures) c.in_ok-lower.ensures.values c.in_ok-lower.ensures.trail c.in_ok-lower.ensures.start c.in_ok-lower.ensures.queue

older : (c : In_ok-lower) → older_in c.lower.new.self ≡ c.args.labels.now.trail
older c = older_is c.args.arcs.now.points c.args.arcs.now.literals c.args.new c.args.labels.now.values c.requires.few c.requires.over c.requires.extending.0 c.requires.extending.1 c.requires.extending.2 c.if-new.false (bad c) c.begin.new.self c.lower.new.self (fall_of c.begin.new.self c.args.new) (ap (λ (l : Labelled). l.values) c.begin.ensures) (ap (λ (l : Labelled). l.start) c.begin.ensures ∙ sym (ap (λ (l : Labelled). length l.trail) c.begin.ensures)) (ap (λ (l : Labelled). l.queue) c.begin.ensures) c.in_ok-lower.ensures.values c.in_ok-lower.ensures.trail c.in_ok-lower.ensures.start c.in_ok-lower.ensures.queue ∙ ap (λ (l : Labelled). l.trail) c.begin.ensures

begin : (c : In_ok-lower) → IsStart c.args.arcs.now.points c.args.arcs.now.literals c.args.new (first_in c.lower.new.self)
begin c = began_start c.args.arcs.now.points c.args.arcs.now.literals c.args.new c.args.labels.now.values c.requires.few c.requires.over c.requires.extending.0 c.requires.extending.1 c.requires.extending.2 c.if-new.false (bad c) c.begin.new.self c.lower.new.self (fall_of c.begin.new.self c.args.new) (ap (λ (l : Labelled). l.values) c.begin.ensures) (ap (λ (l : Labelled). l.start) c.begin.ensures ∙ sym (ap (λ (l : Labelled). length l.trail) c.begin.ensures)) (ap (λ (l : Labelled). l.queue) c.begin.ensures) c.in_ok-lower.ensures.values c.in_ok-lower.ensures.trail c.in_ok-lower.ensures.start c.in_ok-lower.ensures.queue

lowering : (c : In_ok-lower) → IsLowering c.args.arcs.now.points c.args.arcs.now.literals c.args.new (first_in c.lower.new.self) c.lower.new.self
lowering c = began_lowering c.args.arcs.now.points c.args.arcs.now.literals c.args.new c.args.labels.now.values c.requires.few c.requires.over c.requires.extending.0 c.requires.extending.1 c.requires.extending.2 c.if-new.false (bad c) c.begin.new.self c.lower.new.self (fall_of c.begin.new.self c.args.new) (ap (λ (l : Labelled). l.values) c.begin.ensures) (ap (λ (l : Labelled). l.start) c.begin.ensures ∙ sym (ap (λ (l : Labelled). length l.trail) c.begin.ensures)) (ap (λ (l : Labelled). l.queue) c.begin.ensures) c.in_ok-lower.ensures.values c.in_ok-lower.ensures.trail c.in_ok-lower.ensures.start c.in_ok-lower.ensures.queue

pending : (c : In_ok-lower) → IsPending c.args.arcs.now.literals c.lower.new.self
pending c = began_pending c.args.arcs.now.points c.args.arcs.now.literals c.args.new c.args.labels.now.values c.requires.few c.requires.over c.requires.extending.0 c.requires.extending.1 c.requires.extending.2 c.if-new.false (bad c) c.begin.new.self c.lower.new.self (fall_of c.begin.new.self c.args.new) (ap (λ (l : Labelled). l.values) c.begin.ensures) (ap (λ (l : Labelled). l.start) c.begin.ensures ∙ sym (ap (λ (l : Labelled). length l.trail) c.begin.ensures)) (ap (λ (l : Labelled). l.queue) c.begin.ensures) c.in_ok-lower.ensures.values c.in_ok-lower.ensures.trail c.in_ok-lower.ensures.start c.in_ok-lower.ensures.queue

back : (c : In_ok-lower) (trail : List Lowering) (found : List ℤ) → IsKept c.lower.new.self.start (first_in c.lower.new.self) (older_in c.lower.new.self) trail found → IsKept (length c.args.labels.now.trail) c.args.labels.now.values c.args.labels.now.trail trail found
back c trail found = kept_back (length c.args.labels.now.trail) c.args.labels.now.values c.args.labels.now.trail c.lower.new.self trail found (c.in_ok-lower.ensures.start ∙ ap (λ (l : Labelled). l.start) c.begin.ensures) (first c) (older c)

pub settle-requires-clause-start : goal.settle-requires-clause-start
settle-requires-clause-start c = begin (goal.at.settle-requires-clause-start c).In_ok-lower

pub settle-requires-clause-lowering : goal.settle-requires-clause-lowering
settle-requires-clause-lowering c = lowering (goal.at.settle-requires-clause-lowering c).In_ok-lower

pub settle-requires-clause-pending : goal.settle-requires-clause-pending
settle-requires-clause-pending c = pending (goal.at.settle-requires-clause-pending c).In_ok-lower

pub returns-clause-kept : goal.returns-clause-kept
returns-clause-kept c = back (goal.at.returns-clause-kept c).In_ok-lower c.settle.new.labels.trail c.settle.new.labels.values c.settle.ensures.kept

pub returns-clause-none : goal.returns-clause-none
returns-clause-none c = by c.in_ok-cycle.cycle c.in_ok-cycle.ensures.none
  where
    by : (r : Option Literals) → IfNone r (IsGreatestSchedule c.args.arcs.now.points c.args.arcs.now.literals c.settle.new.labels.values) → IfNone r (IsBest c.args.arcs.now.points c.args.arcs.now.literals c.settle.new.labels.values)
    by None found = greatest_best c.args.arcs.now.points c.args.arcs.now.literals c.args.new c.args.labels.now.values c.requires.few c.requires.over c.requires.extending.0 c.requires.extending.1 c.requires.extending.2 c.settle.new.labels.values found
    by (Some cycle) found = tt

pub returns-in_err-cycle-clause-kept : goal.returns-in_err-cycle-clause-kept
returns-in_err-cycle-clause-kept c = back (goal.at.returns-in_err-cycle-clause-kept c).In_ok-lower c.settle.new.labels.trail c.settle.new.labels.values c.settle.ensures.kept
