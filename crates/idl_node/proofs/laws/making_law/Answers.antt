use Rattle.stn_core.specs.Literal.{IsOver}
use Rattle.stn_core.proofs.Consequences.{IsOver-negation_of}
use Rattle.idl_node.proofs.Growing.{placed-made}
use Rattle.idl_node.proofs.Makers.{constant-made, falsehood-made, denied-made, equal-made, different-made, chosen-made}
use Rattle.idl_node.proofs.laws.making_law.Goals as goal

pub returns-clause-placed : goal.returns-clause-placed
returns-clause-placed c = λ points nodes node p table here e. placed-made (IsOver points) nodes table node here p e

pub returns-clause-always : goal.returns-clause-always
returns-clause-always c = λ points nodes p table e. constant-made (IsOver points) nodes table p e

pub returns-clause-never : goal.returns-clause-never
returns-clause-never c = λ points nodes p table e. falsehood-made (IsOver points) (IsOver-negation_of points) nodes p table e

pub returns-clause-negation : goal.returns-clause-negation
returns-clause-negation c = λ points nodes k p table in_k e. denied-made (IsOver points) (IsOver-negation_of points) nodes table k in_k p e

pub returns-clause-equality : goal.returns-clause-equality
returns-clause-equality c = λ points nodes a b p table in_a in_b e. equal-made (IsOver points) (IsOver-negation_of points) nodes table a b in_a in_b p e

pub returns-clause-difference : goal.returns-clause-difference
returns-clause-difference c = λ points nodes a b p table in_a in_b e. different-made (IsOver points) (IsOver-negation_of points) nodes table a b in_a in_b p e

pub returns-clause-choice : goal.returns-clause-choice
returns-clause-choice c = λ points nodes k a b p table in_k in_a in_b e. chosen-made (IsOver points) (IsOver-negation_of points) nodes table a b in_a in_b k p in_k e
