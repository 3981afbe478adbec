use Rattle.std.proofs.Common.{arith, ◌≡◌, ◌∙◌, refl, ap, sym, ◌<◌, length, reverse, Some, None}
use Rattle.std.proofs.lemmas.Option.{slice_get_read}
use Rattle.idl_scope.specs.code.LocalNames.{place_in, Inner, scope_in}
use Rattle.idl_scope.specs.Scopes.{found, stands_for, shown_term}
use Rattle.idl_scope.proofs.LocalsKept.{place_within, found_variable, found_outside}
use Rattle.idl_scope.proofs.locals.Locals.find.Goals as goal

pub index-requires : goal.index-requires
index-requires c =
    let place : place_in c.args.name.now (reverse c.self.inside.variables.items) ≡ Some c.in-Some.place.now = sym (c.self.invariant.places c.args.name) ∙ sym c.in-Some.ensures.value in
    let within : c.in-Some.place.now < length c.self.inside.variables.items = place_within c.args.name.now c.self.inside.variables.items c.in-Some.place.now place in
    omega (arith, within)

pub returns-in-Some-clause-is : goal.returns-in-Some-clause-is
returns-in-Some-clause-is c =
    let place : place_in c.args.name.now (reverse c.self.inside.variables.items) ≡ Some c.in-Some.place.now = sym (c.self.invariant.places c.args.name) ∙ sym c.in-Some.ensures.value in
    let within : c.in-Some.place.now < length c.self.inside.variables.items = place_within c.args.name.now c.self.inside.variables.items c.in-Some.place.now place in
    let is : found (scope_in c.args.self.now) c.args.name.now ≡ stands_for (shown_term c.index.result.now.term) =
    ap (λ (i : Inner). found (scope_in i) c.args.name.now) (sym c.self.view_is)
    ∙ found_variable c.args.name.now c.self.inside.variables.items c.self.inside.scope.now.bound c.self.inside.scope.now.declared c.in-Some.place.now c.index.result.now place
    (slice_get_read c.self.inside.variables.items (length c.self.inside.variables.items) c.in-Some.place.now c.index.result.now refl within c.index.ensures) in
    rw is refl

pub returns-in-None-clause-is : goal.returns-in-None-clause-is
returns-in-None-clause-is c =
    let none : place_in c.args.name.now (reverse c.self.inside.variables.items) ≡ None = sym (c.self.invariant.places c.args.name) ∙ sym c.in-None.ensures.value in
    let is : found (scope_in c.args.self.now) c.args.name.now ≡ found c.self.inside.scope.now c.args.name.now =
    ap (λ (i : Inner). found (scope_in i) c.args.name.now) (sym c.self.view_is)
    ∙ found_outside c.args.name.now c.self.inside.variables.items c.self.inside.scope.now.bound c.self.inside.scope.now.declared none in
    rw is c.find-in-None.ensures.found
