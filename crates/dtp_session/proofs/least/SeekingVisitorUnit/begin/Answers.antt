use Rattle.dtp_session.proofs.Visiting.{seeking_starts}
use Rattle.dtp_session.proofs.least.SeekingVisitorUnit.begin.Goals as goal

pub returns-clause-so_far : goal.returns-clause-so_far
returns-clause-so_far g c =
    let n = c.args.self.now in
    (seeking_starts n.session n.least c.requires.0 c.requires.1 c.requires.2, c.requires.3)
