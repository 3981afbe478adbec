use Rattle.script_counts.proofs.Leading.{failed_between}
use Rattle.script_counts.proofs.counting.CountingVisitorUnit.failed.Goals as goal

pub returns-clause-ends : goal.returns-clause-ends
returns-clause-ends c = λ at. failed_between at.first.walk at.before.walk c.args.self.now.walk at.so_far c.args._kind at.comes
