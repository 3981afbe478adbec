use Rattle.script_counts.proofs.Leading.{ended_between}
use Rattle.script_counts.proofs.counting.CountingVisitorUnit.ended.Goals as goal

pub returns-clause-ends : goal.returns-clause-ends
returns-clause-ends c = λ at. ended_between at.first.walk at.before.walk c.args.self.now.walk at.so_far at.comes
