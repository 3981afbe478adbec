use Rattle.std.proofs.Common.{take}
use Rattle.idl_scope.proofs.NamesKept.{texts}
use Rattle.idl_term.proofs.BindingNames.{SoFar}
use Rattle.idl_term.proofs.binding.bind_apart.Given as goal

abbrev pub invariant-loop-binding : goal.invariant-loop-binding
invariant-loop-binding l = SoFar l.sexprs (take l.binding-index l.bindings) (texts l.variables.keys)
