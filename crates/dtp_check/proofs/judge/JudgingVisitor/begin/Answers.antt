use Rattle.dtp_check.proofs.Visiting.{judging_begins}
use Rattle.dtp_check.proofs.judge.JudgingVisitor.begin.Goals as goal

pub returns-clause-so_far : goal.returns-clause-so_far
returns-clause-so_far g c =
    let n = c.args.self.now in
    let r = c.requires in
    judging_begins g.K.Keeps.leads g.K.Keeps.trees c.args._keeps.now n.walk n.made n.earlier n.entries r.0 r.1 r.2 r.3 r.4 r.5
