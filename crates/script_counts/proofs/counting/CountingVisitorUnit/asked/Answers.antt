use Rattle.script_counts.proofs.Leading.{asked_between}
use Rattle.script_counts.proofs.counting.CountingVisitorUnit.asked.Goals as goal

pub returns-clause-ends : goal.returns-clause-ends
returns-clause-ends c = λ at. asked_between at.first.walk at.before.walk c.args.self.now.walk at.so_far c.args._id c.args._question at.comes
