use Rattle.std.proofs.Common.{◌∙◌, ap, List}
use Rattle.idl_scope.specs.Scopes.{Binding}
use Rattle.idl_scope.specs.code.LocalNames.{without}
use Rattle.idl_scope.proofs.LocalsKept.{drop_twice}
use Rattle.idl_scope.proofs.locals.Locals.unbind.Goals as goal

pub loop-preserved : goal.loop-preserved
loop-preserved c = c.unbind_last.ensures ∙ ap (without 1) c.loop.invariant ∙ ap (λ (vs : List Binding). record c.args.self.now { variables = vs }) (drop_twice c.loop.counter c.args.self.now.variables)
