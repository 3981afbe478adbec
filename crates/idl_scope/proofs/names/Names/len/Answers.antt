use Rattle.std.proofs.Common.{arith, ◌≡◌, ◌∙◌, ap, sym, List, length}
use Rattle.idl_scope.specs.Scopes.{Declaration}
use Rattle.idl_scope.proofs.NamesKept.{length-declarations}
use Rattle.idl_scope.proofs.names.Names.len.Goals as goal

pub returns : goal.returns
returns c =
    let count : length c.args.self.now ≡ length c.self.inside.sorts.items = ap (λ (ds : List Declaration). length ds) (sym c.self.view_is) ∙ length-declarations c.self.inside.set.keys c.self.inside.sorts.items c.self.invariant in
    omega (arith, count)
