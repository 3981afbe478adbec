use Rattle.std.proofs.Common.{◌≡◌, ◌∙◌, ap, List, take}
use Rattle.idl_scope.specs.Scopes.{Scope, Declaration, Binding}
use Rattle.idl_scope.specs.code.Kept.{definitions_of}
use Rattle.idl_scope.proofs.NamesKept.{take-definitions, texts}
use Rattle.idl_scope.proofs.scope.Scope.cut.Goals as goal

pub returns : goal.returns
returns c =
    let bound : List Binding = definitions_of (texts c.self.inside.defined.keys) c.self.inside.terms.items in
    let kept : definitions_of (texts c.truncate.new.self.keys) c.truncate-2.new.self.items ≡ take c.args.defined bound =
    rw c.truncate.ensures.keys (rw c.truncate-2.ensures.items (take-definitions c.args.defined c.self.inside.defined.keys c.self.inside.terms.items c.self.invariant)) in
    ap (λ (ds : List Declaration). record { declared = ds; bound = definitions_of (texts c.truncate.new.self.keys) c.truncate-2.new.self.items }) c.cut.ensures
    ∙ ap (λ (bs : List Binding). record { declared = take c.args.names c.self.inside.names; bound = bs }) kept
    ∙ ap (λ (s : Scope). record { declared = take c.args.names s.declared; bound = take c.args.defined s.bound }) c.self.view_is
