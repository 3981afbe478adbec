use Rattle.relaxed_lemmas.proofs.relaxing.relaxed.Goals as goal

pub returns-in_default : goal.returns-in_default
returns-in_default c =
    let problem = c.args.problem.now in
    (c.in_ok-needed.ensures.refutes problem.points problem.clauses c.requires.0, c.in_ok-needed.ensures.over problem.points c.requires.1)

pub returns-in-None : goal.returns-in-None
returns-in-None c =
    let problem = c.args.problem.now in
    (c.in_ok-needed.ensures.refutes problem.points problem.clauses c.requires.0, c.in_ok-needed.ensures.over problem.points c.requires.1)
