use Rattle.std.proofs.Common.{arith, refl, ◌∙◌, ◌≡◌, ap, sym, length, false}
use Rattle.std.proofs.lemmas.Option.{slice_get_read}
use Rattle.idl_scope.specs.Scopes.{Scope, found, stands_for, shown_term, declared_at, unknown}
use Rattle.idl_scope.proofs.NamesKept.{is_among}
use Rattle.idl_scope.proofs.NamesFound.{defined-absent, defined-first}
use Rattle.idl_scope.proofs.scope.Scope.find.Goals as goal

pub returns-in-Some-clause-found : goal.returns-in-Some-clause-found
returns-in-Some-clause-found c =
    let is : found c.args.self.now c.args.name.now ≡ stands_for (shown_term c.index.result.now) =
    ap (λ (s : Scope). found s c.args.name.now) (sym c.self.view_is)
    ∙ defined-first c.args.name.now c.args.name c.self.inside.names c.in-Some.place c.self.inside.defined.keys c.self.inside.terms.items c.index.result.now c.self.invariant (sym c.in-Some.ensures.index)
    (slice_get_read c.self.inside.terms.items (length c.self.inside.terms.items) c.in-Some.place c.index.result.now refl (omega (arith, c.self.invariant, c.in-Some.ensures.within)) c.index.ensures) in
    rw is refl

pub returns-in-Some-find-clause-found : goal.returns-in-Some-find-clause-found
returns-in-Some-find-clause-found c =
    let absent : is_among c.args.name.now c.self.inside.defined.keys ≡ false = sym c.in-None.ensures.found in
    let is : found c.args.self.now c.args.name.now ≡ declared_at c.in-Some-find.place c.in-Some-find.sort =
    ap (λ (s : Scope). found s c.args.name.now) (sym c.self.view_is)
    ∙ defined-absent c.args.name.now c.self.inside.defined.keys c.self.inside.terms.items c.self.inside.names absent
    ∙ c.in-Some-find.ensures.found in
    rw is (refl, refl)

pub returns-in-None-find-clause-found : goal.returns-in-None-find-clause-found
returns-in-None-find-clause-found c =
    let absent : is_among c.args.name.now c.self.inside.defined.keys ≡ false = sym c.in-None.ensures.found in
    let is : found c.args.self.now c.args.name.now ≡ unknown =
    ap (λ (s : Scope). found s c.args.name.now) (sym c.self.view_is)
    ∙ defined-absent c.args.name.now c.self.inside.defined.keys c.self.inside.terms.items c.self.inside.names absent
    ∙ c.in-None-find.ensures.found in
    rw is tt
