use Rattle.std.proofs.Common.{map}
use Rattle.smt_script.specs.code.Shapes.{shown_literal}
use Rattle.smt_script.proofs.Literals.{AreReadTo}
use Rattle.smt_script.proofs.assumption.literals_of.Given as goal

abbrev pub invariant-loop-id : goal.invariant-loop-id
invariant-loop-id l = record { read : AreReadTo l.sexprs l.ids (map shown_literal l.literals.items) l.id-index }
