use Rattle.script_counts.proofs.Leading.{between_at_start}
use Rattle.script_counts.proofs.counting.CountingVisitorUnit.begin.Goals as goal

pub returns : goal.returns
returns c = record { so_far = between_at_start c.args.self.now.walk c.requires; breaks = tt }
