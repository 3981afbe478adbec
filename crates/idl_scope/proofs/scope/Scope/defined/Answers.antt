use Rattle.std.proofs.Common.{arith, ◌≡◌, ◌∙◌, ap, sym, length}
use Rattle.idl_scope.specs.Scopes.{Scope}
use Rattle.idl_scope.proofs.NamesKept.{length-definitions}
use Rattle.idl_scope.proofs.scope.Scope.defined.Goals as goal

pub returns : goal.returns
returns c =
    let count : length c.args.self.now.bound ≡ length c.self.inside.terms.items = ap (λ (s : Scope). length s.bound) (sym c.self.view_is) ∙ length-definitions c.self.inside.defined.keys c.self.inside.terms.items c.self.invariant in
    omega (arith, count)
