use Rattle.smt_script.proofs.Literals.{AreLiteralsTo}
use Rattle.smt_script.proofs.assumption.are_literals.Given as goal

abbrev pub invariant-loop-id : goal.invariant-loop-id
invariant-loop-id l = record { literals : AreLiteralsTo l.sexprs l.ids l.id-index }
