use Rattle.std.proofs.Common.{arith, refl, ◌∙◌, ◌≡◌, ap, sym, List, length, None, false}
use Rattle.std.proofs.lemmas.Option.{slice_get_read}
use Rattle.idl_scope.specs.Scopes.{Declaration, found_declared}
use Rattle.idl_scope.proofs.NamesKept.{length-declarations, is_among}
use Rattle.idl_scope.proofs.NamesFound.{declared-absent, declared-first}
use Rattle.idl_scope.proofs.names.Names.find.Goals as goal

pub returns-in_err-place-clause-found : goal.returns-in_err-place-clause-found
returns-in_err-place-clause-found c =
    let absent : is_among c.args.name.now c.self.inside.set.keys ≡ false = sym c.in_err-place.ensures.found in
    let none : c.from_residual.result ≡ None = c.from_residual.ensures in
    rw none (ap (λ (ds : List Declaration). found_declared c.args.name.now 0 ds) (sym c.self.view_is) ∙ declared-absent c.args.name.now 0 c.self.inside.set.keys c.self.inside.sorts.items absent)

pub returns-clause-found : goal.returns-clause-found
returns-clause-found c =
    ap (λ (ds : List Declaration). found_declared c.args.name.now 0 ds) (sym c.self.view_is)
    ∙ declared-first c.args.name.now c.args.name c.in_ok-place.place c.self.inside.set.keys c.self.inside.sorts.items c.index.result.now c.self.invariant (sym c.in_ok-place.ensures.index) (slice_get_read c.self.inside.sorts.items (length c.self.inside.sorts.items) c.in_ok-place.place c.index.result.now refl (omega (arith, c.self.invariant, c.in_ok-place.ensures.within)) c.index.ensures)

pub returns-clause-within : goal.returns-clause-within
returns-clause-within c =
    let count : length c.args.self.now ≡ length c.self.inside.set.keys = ap (λ (ds : List Declaration). length ds) (sym c.self.view_is) ∙ length-declarations c.self.inside.set.keys c.self.inside.sorts.items c.self.invariant ∙ sym c.self.invariant in
    omega (arith, count, c.in_ok-place.ensures.within)
