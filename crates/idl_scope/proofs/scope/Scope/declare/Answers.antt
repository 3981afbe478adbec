use Rattle.std.proofs.Common.{arith, refl, ◌∙◌, ◌≡◌, ap, sym, subst, true, false}
use Rattle.idl_scope.specs.Scopes.{Scope, is_known}
use Rattle.idl_scope.specs.code.Kept.{Declares, definitions_of}
use Rattle.idl_scope.proofs.NamesFound.{among-defined, defined-absent, declares-by}
use Rattle.idl_scope.proofs.NamesKept.{is_among, texts}
use Rattle.idl_scope.proofs.scope.Scope.declare.Goals as goal

pub returns-then-is_some-clause-ok : goal.returns-then-is_some-clause-ok
returns-then-is_some-clause-ok c =
    let among : is_among c.args.name.now c.self.inside.defined.keys ≡ true = grind arith in (
      ap (λ (s : Scope). is_known s c.args.name.now) (sym c.self.view_is) ∙ among-defined c.args.name.now c.self.inside.defined.keys c.self.inside.terms.items c.self.inside.names c.self.invariant among,
      refl,
    )

pub returns-clause-ok : goal.returns-clause-ok
returns-clause-ok c =
    let old : Scope = record { declared = c.self.inside.names; bound = definitions_of (texts c.self.inside.defined.keys) c.self.inside.terms.items } in
    let absent : is_among c.args.name.now c.self.inside.defined.keys ≡ false = grind arith in
    let done = declares-by old c.add.new.self c.args.name.now c.args.sort c.in_ok-new.new (defined-absent c.args.name.now c.self.inside.defined.keys c.self.inside.terms.items c.self.inside.names absent) c.in_ok-new.ensures.ok in
    subst (λ (s : Scope). Declares s c.args.name.now c.args.sort c.in_ok-new.new (record { declared = c.add.new.self; bound = old.bound })) c.self.view_is done
