use Rattle.std.proofs.Common.{◌≡◌}
use Rattle.idl_scope.specs.code.LocalNames.{without}
use Rattle.idl_scope.proofs.locals.Locals.unbind.Given as goal

abbrev pub invariant-loop : goal.invariant-loop
invariant-loop l = l.self ≡ without l.counter l.fn.self
