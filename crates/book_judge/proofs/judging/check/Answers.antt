use Rattle.book_core.specs.Shared.{clauses_of}
use Rattle.book_judge.proofs.Judged.{unrefuted_by}
use Rattle.book_judge.proofs.judging.check.Goals as goal

pub returns-in-Err-Refused-clause-fault : goal.returns-in-Err-Refused-clause-fault
returns-in-Err-Refused-clause-fault c = unrefuted_by c.args.problem.now.points c.args.problem.now.clauses (clauses_of c.args.known.now) c.args.lemma.now c.in-Err-Refused.field-0 c.in-Err-Refused.flaw c.in-Err-Refused.field-0-is c.in-Err-Refused.ensures
