use Rattle.std.proofs.Common.{◌∙◌, ap, sym, List}
use Rattle.idl_scope.specs.Scopes.{Declaration, sorts_of}
use Rattle.idl_scope.proofs.NamesKept.{sorts-declarations}
use Rattle.idl_scope.proofs.names.Names.sorts.Goals as goal

pub returns : goal.returns
returns c = c.deref.ensures.value ∙ sym (sorts-declarations c.self.inside.set.keys c.self.inside.sorts.items c.self.invariant) ∙ ap (λ (ds : List Declaration). sorts_of ds) c.self.view_is
