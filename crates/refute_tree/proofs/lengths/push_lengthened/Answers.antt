use Rattle.refute_tree.proofs.Lengthened.{clash_added}
use Rattle.refute_tree.proofs.lengths.push_lengthened.Goals as goal

pub returns : goal.returns
returns c = clash_added c.args.problem.now.clauses c.args.step c.in-Clash.i c.in-Some.clause.now c.args.steps.now c.push_input.new.self c.push_pairs.new.steps c.in-Clash.is c.in-Some.ensures c.in_ok-push_input.ensures.ok c.in_ok-push_pairs.ensures
