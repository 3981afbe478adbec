use Rattle.idl_value.proofs.Evaluating.{sum_fits, sum_found, sum_limited}
use Rattle.idl_value.proofs.evaluation.both_values.Goals as goal

pub overflow_add-result : goal.overflow_add-result
overflow_add-result c = sum_fits c.args.first c.args.second c.in-Some.a c.in-Some-second.b c.in-Some.is c.in-Some-second.is c.requires.first c.requires.second c.requires.sum

pub returns-clause-is : goal.returns-clause-is
returns-clause-is c = sum_found c.args.first c.args.second c.in-Some.a c.in-Some-second.b c.in-Some.is c.in-Some-second.is c.requires.first c.requires.second c.requires.sum

pub returns-clause-small : goal.returns-clause-small
returns-clause-small c = sum_limited c.args.first c.args.second c.in-Some.a c.in-Some-second.b c.in-Some.is c.in-Some-second.is c.requires.first c.requires.second c.requires.sum
