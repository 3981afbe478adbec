use Rattle.std.proofs.Common.{rules}
use Rattle.net_batch.proofs.Parts.{part-more, cycle-part, risen-more}
use Rattle.net_batch.proofs.add.add_at.Goals as goal

pub returns-in-Yes-clause-part : goal.returns-in-Yes-clause-part
returns-in-Yes-clause-part g c = λ old h. search (rules, part-more old c.args.literals.now c.args.marks.now (g.N.Net.literals_of c.args.net.now) c.args.place (search rules) h)

pub returns-in-Cycle-clause-tried : goal.returns-in-Cycle-clause-tried
returns-in-Cycle-clause-tried g c = λ old h.
    cycle-part old c.args.literals.now (g.N.Net.literals_of c.args.net.now) c.in-Cycle.cycle c.args.place (search rules) h.longer.among
    (search rules)

pub returns-in-Yes-clause-risen : goal.returns-in-Yes-clause-risen
returns-in-Yes-clause-risen g c = λ old before h. search (rules, risen-more old c.args.literals.now before c.args.marks.now (g.N.Net.literals_of c.args.net.now) (g.N.Net.adds_of c.args.net.now) (g.N.Net.adds_of c.add.new.self) c.args.place (search rules) c.requires.count (search rules) (search rules) h)
