use Rattle.std.proofs.Common.{arith}
use Rattle.smt_answer.proofs.Fronts.{front_behind}
use Rattle.smt_answer.proofs.Pieces.{three}
use Rattle.smt_answer.proofs.values.write_definition.Goals as goal

pub returns-in_err-write_named-clause-front : goal.returns-in_err-write_named-clause-front
returns-in_err-write_named-clause-front c = front_behind _ _ _ _ _ _ (omega arith) (omega arith) c.in_ok-write_signature.ensures.ok c.in_err-write_named.ensures.front

pub returns-clause-ok : goal.returns-clause-ok
returns-clause-ok c = three _ _ _ _ _ _ _ c.in_ok-write_signature.ensures.ok c.in_ok-write_named.ensures.ok c.in_ok-push_str.ensures.ok
