use Rattle.smt_sexpr.specs.Tree.{list}
use Rattle.smt_script.proofs.asked.items_of.Goals as goal

pub items-requires : goal.items-requires
items-requires c = (list c.requires.0, c.requires.1)

pub returns-in-Some : goal.returns-in-Some
returns-in-Some c = λ xs means. c.in-Some.ensures (list xs) means

pub returns-in-None : goal.returns-in-None
returns-in-None c = λ xs means. absurd (c.in-None.ensures (list xs) means)
