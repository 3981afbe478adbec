use Rattle.script_walk.proofs.Visiting.{less_left}
use Rattle.script_walk.specs.declared.walk.Event.TheVariants.{Told}
use Rattle.script_counts.proofs.Leading.{told_between}
use Rattle.script_counts.proofs.counting.CountingVisitorUnit.told.Goals as goal

pub returns-clause-so_far : goal.returns-clause-so_far
returns-clause-so_far c = λ at. (
  told_between at.first.walk at.before.walk c.args.self.now.walk at.so_far c.args._id c.args._notice at.comes,
  less_left at.before.walk c.args.self.now.walk (Told c.args._id c.args._notice) tt at.comes,
)
