use Rattle.std.proofs.Common.{[]}
use Rattle.stn_core.specs.Literal.{IsOver}
use Rattle.stn_core.proofs.Consequences.{IsOver-negation_of}
use Rattle.idl_node.proofs.Makers.{conjoined-made, disjoined-made, exclusive-made, implied-made}
use Rattle.idl_node.proofs.Pairs.{all_equal-made, all_different-made}
use Rattle.idl_node.proofs.laws.list_making_law.Goals as goal

pub returns-clause-every : goal.returns-clause-every
returns-clause-every c = λ points nodes members p table there e. conjoined-made (IsOver points) nodes table members p there e

pub returns-clause-some : goal.returns-clause-some
returns-clause-some c = λ points nodes members p table there e. disjoined-made (IsOver points) nodes table members p there e

pub returns-clause-exclusion : goal.returns-clause-exclusion
returns-clause-exclusion c = λ points nodes a others p table in_a there e. exclusive-made (IsOver points) (IsOver-negation_of points) nodes a others p table in_a there e

pub returns-clause-implication : goal.returns-clause-implication
returns-clause-implication c = λ points nodes members p table there e. implied-made (IsOver points) (IsOver-negation_of points) nodes [] members p table tt there e

pub returns-clause-equality : goal.returns-clause-equality
returns-clause-equality c = λ points nodes members p table there e. all_equal-made (IsOver points) (IsOver-negation_of points) nodes table members there p e

pub returns-clause-difference : goal.returns-clause-difference
returns-clause-difference c = λ points nodes members p table there e. all_different-made (IsOver points) (IsOver-negation_of points) nodes table members there p e
