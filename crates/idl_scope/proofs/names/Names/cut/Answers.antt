use Rattle.std.proofs.Common.{◌∙◌, ap, List, take}
use Rattle.idl_scope.specs.Scopes.{Declaration}
use Rattle.idl_scope.proofs.NamesKept.{take-declarations}
use Rattle.idl_scope.proofs.names.Names.cut.Goals as goal

pub returns : goal.returns
returns c =
    rw c.truncate.ensures.keys (rw c.truncate-2.ensures.items (take-declarations c.args.count c.self.inside.set.keys c.self.inside.sorts.items c.self.invariant))
    ∙ ap (λ (ds : List Declaration). take c.args.count ds) c.self.view_is
