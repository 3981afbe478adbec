use Rattle.std.proofs.Common.{ap}
use Rattle.book_core.specs.Runs.{Ledger}
use Rattle.book_search.proofs.Waiting.{cube_taken, done_taken, taken_held, same_cube, same_opening, waiting_on, taken_less, unfound_taken, waiting_done, done_is}
use Rattle.book_search.proofs.solve.turn.Goals as goal

pub work-requires-clause-held : goal.work-requires-clause-held
work-requires-clause-held c =
    let t = cube_taken c.args.book.now c.take.new.self c.in_ok-id.field-0 c.in-Cube.id c.in-Cube.cube c.in-Cube.is c.in_ok-id.ensures.ok in
    taken_held c.args.book.now c.take.new.self c.in-Cube.id t.0.1 t.0.0.1

pub work-requires-clause-cube : goal.work-requires-clause-cube
work-requires-clause-cube c =
    let t = cube_taken c.args.book.now c.take.new.self c.in_ok-id.field-0 c.in-Cube.id c.in-Cube.cube c.in-Cube.is c.in_ok-id.ensures.ok in
    same_cube c.args.book.now c.take.new.self c.as_slice.result.now c.in-Cube.cube c.in-Cube.id c.as_slice.ensures t.1 t.0.1

pub returns-in_ok-divided-in-Cube-clause-waiting : goal.returns-in_ok-divided-in-Cube-clause-waiting
returns-in_ok-divided-in-Cube-clause-waiting c =
    let t = cube_taken c.args.book.now c.take.new.self c.in_ok-id.field-0 c.in-Cube.id c.in-Cube.cube c.in-Cube.is c.in_ok-id.ensures.ok in
    waiting_on c.args.problem.now c.args.book.now c.take.new.self c.work.new.book c.in-Cube.id c.requires.waiting t.0.1 t.0.0.1 c.in_ok-divided-in-Cube.ensures.delivered

pub returns-in_ok-divided-in-Cube-clause-advances : goal.returns-in_ok-divided-in-Cube-clause-advances
returns-in_ok-divided-in-Cube-clause-advances c =
    let t = cube_taken c.args.book.now c.take.new.self c.in_ok-id.field-0 c.in-Cube.id c.in-Cube.cube c.in-Cube.is c.in_ok-id.ensures.ok in
    taken_less c.ends_law.ensures.ends c.args.book.now c.take.new.self c.work.new.book c.in-Cube.id c.sound.ensures.opening c.sound.ensures.run t.0 c.in_ok-divided-in-Cube.ensures.less

pub work-requires-clause-unfound : goal.work-requires-clause-unfound
work-requires-clause-unfound c =
    let t = cube_taken c.args.book.now c.take.new.self c.in_ok-id.field-0 c.in-Cube.id c.in-Cube.cube c.in-Cube.is c.in_ok-id.ensures.ok in
    unfound_taken c.args.book.now c.take.new.self c.in-Cube.id t.0.1 t.0.0.0

pub returns-in-Done-clause-waiting : goal.returns-in-Done-clause-waiting
returns-in-Done-clause-waiting c =
    let t = done_taken c.args.book.now c.take.new.self c.in_ok-id.field-0 c.in-Done.is c.in_ok-id.ensures.ok in
    waiting_done c.args.problem.now c.args.book.now c.take.new.self c.requires.waiting t.1

pub returns-in-Done-clause-advances : goal.returns-in-Done-clause-advances
returns-in-Done-clause-advances c =
    let t = done_taken c.args.book.now c.take.new.self c.in_ok-id.field-0 c.in-Done.is c.in_ok-id.ensures.ok in
    done_is c.args.book.now c.take.new.self t

pub returns-in_ok-divided-in-Cube-clause-opening : goal.returns-in_ok-divided-in-Cube-clause-opening
returns-in_ok-divided-in-Cube-clause-opening c =
    let t = cube_taken c.args.book.now c.take.new.self c.in_ok-id.field-0 c.in-Cube.id c.in-Cube.cube c.in-Cube.is c.in_ok-id.ensures.ok in
    same_opening c.args.book.now c.take.new.self c.work.new.book c.in-Cube.id t.0.1 c.in_ok-divided-in-Cube.ensures.delivered

pub returns-in-Done-clause-opening : goal.returns-in-Done-clause-opening
returns-in-Done-clause-opening c =
    let t = done_taken c.args.book.now c.take.new.self c.in_ok-id.field-0 c.in-Done.is c.in_ok-id.ensures.ok in
    ap (λ (b : Ledger). b.opening) t.1
