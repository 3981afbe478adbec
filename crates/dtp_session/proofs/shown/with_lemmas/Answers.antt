use Rattle.dtp_session.proofs.Keeping.{formed_refutes}
use Rattle.dtp_session.proofs.shown.with_lemmas.Goals as goal

pub enter-requires : goal.enter-requires
enter-requires c =
    formed_refutes c.lengths_law.ensures.lengthened c.lengths_law.ensures.shortened c.in-Entry.version c.args.problem.points c.args.problem.clauses c.args.entry c.in_ok-formed-in-Entry.formed c.in_ok-formed-in-Entry.ensures c.requires
