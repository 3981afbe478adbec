use Rattle.std.proofs.Common.{arith, subst, ◌≡◌, ◌-◌, Bool, true, false, ◌+ℤ◌, ◌<ℤ◌}
use Rattle.stn_core.specs.declared.literal.Literal.{Literal}
use Rattle.stn_core.specs.Literal.{value_at, IsOver, literal_at}
use Rattle.inc_paths.specs.code.Trails.{first_in}
use Rattle.inc_paths.specs.code.Trails.{fall_of}
use Rattle.inc_paths.proofs.Lowers.{fits_sum, passed, holds_not, literal_over, looked, IsLooked}
use Rattle.inc_paths.proofs.relax.look.Goals as goal
use Rattle.inc_paths.proofs.relax.look.Goals.{Start}

true_false : (b : Bool) → b ≡ true → b ≡ false → ⊥
true_false b t f = cc

over : (c : Start) → IsOver c.args.arcs.now.points (literal_at c.args.arcs.now.literals (c.args.number - 1))
over c = let some = c.requires.some in let le = c.requires.number in literal_over c.args.arcs.now.points c.args.arcs.now.literals (c.args.number - 1) c.requires.start.over (omega arith)

pub fails-requires-clause-fits : goal.fails-requires-clause-fits
fails-requires-clause-fits c =
    let o = over (goal.at.fails-requires-clause-fits c).Start in
    rw c.at-literal.ensures (fits_sum c.args.arcs.now.points c.args.arcs.now.literals c.args.new (first_in c.args.labels.now) c.args.labels.now c.requires.start c.requires.lowering (literal_at c.args.arcs.now.literals (c.args.number - 1)).y (literal_at c.args.arcs.now.literals (c.args.number - 1)).c o.low o.high)

pub lower-requires-clause-fits : goal.lower-requires-clause-fits
lower-requires-clause-fits c =
    let o = over (goal.at.lower-requires-clause-fits c).Start in
    rw c.at-literal.ensures (fits_sum c.args.arcs.now.points c.args.arcs.now.literals c.args.new (first_in c.args.labels.now) c.args.labels.now c.requires.start c.requires.lowering (literal_at c.args.arcs.now.literals (c.args.number - 1)).y (literal_at c.args.arcs.now.literals (c.args.number - 1)).c o.low o.high)

pub returns-then-not-fails-clause-scanning : goal.returns-then-not-fails-clause-scanning
returns-then-not-fails-clause-scanning c =
    let l = literal_at c.args.arcs.now.literals (c.args.number - 1) in
    let not_bad : (value_at c.args.labels.now.values l.y +ℤ l.c) <ℤ value_at c.args.labels.now.values l.x → ⊥ =
    subst (λ (m : Literal). (value_at c.args.labels.now.values m.y +ℤ m.c) <ℤ value_at c.args.labels.now.values m.x → ⊥) c.at-literal.ensures (λ h. true_false c.fails.result (c.fails.ensures.1 h) c.if-not-fails.true) in
    λ e. passed c.args.arcs.now.literals c.args.labels.now _ c.args.number c.requires.some (holds_not c.args.labels.now.values l not_bad) c.requires.scanning

done : (c : goal.In_ok-lower) → IsLooked c.args.arcs.now.points c.args.arcs.now.literals c.args.new c.args.labels.now c.lower.new.self c.args.place c.args.number
done c =
    let bad = c.fails.ensures.0 c.if-not-fails.false in
    looked c.args.arcs.now.points c.args.arcs.now.literals c.args.new c.args.labels.now c.lower.new.self c.args.place c.args.number c.at-literal.result c.number-parent.result (fall_of c.args.labels.now c.at-literal.result)
    c.requires.start c.requires.within c.requires.lowering c.requires.some c.requires.number c.requires.place c.requires.point c.requires.scanning
    c.at-literal.ensures bad c.if-literal-new.false c.in_ok-lower.ensures.values c.in_ok-lower.ensures.trail c.in_ok-lower.ensures.start c.in_ok-lower.ensures.queue
    (omega (arith, c.number-parent.ensures))

pub returns-clause-kept : goal.returns-clause-kept
returns-clause-kept c = (done c).kept

pub returns-clause-lowering : goal.returns-clause-lowering
returns-clause-lowering c = (done c).lowering

pub returns-clause-place : goal.returns-clause-place
returns-clause-place c = (done c).at

pub returns-clause-scanning : goal.returns-clause-scanning
returns-clause-scanning c = λ e. (done c).scanning

pub returns-clause-room : goal.returns-clause-room
returns-clause-room c = (done c).less
