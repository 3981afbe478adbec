use Rattle.book_judge.proofs.Takes.{cubes_kept, cube_answered}
use Rattle.book_judge.proofs.calls.take_cube.Goals as goal

pub returns-clause-cube : goal.returns-clause-cube
returns-clause-cube c = cube_answered c.args.book.now c.take.new.self c.args.seat c.in_ok-answer.answer c.in_ok-answer.ensures.ok

pub returns-clause-kept : goal.returns-clause-kept
returns-clause-kept c k = cubes_kept c.args.book.now c.take.new.self c.args.seat c.in_ok-answer.answer c.in_ok-answer.ensures.ok k
