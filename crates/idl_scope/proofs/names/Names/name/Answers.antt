use Rattle.std.proofs.Common.{arith, Option, Some, Bor, ◌≡◌, ◌∙◌, ap, sym, List, ℕ, length, ◌<◌}
use Rattle.idl_scope.specs.code.Kept.{names_of}
use Rattle.idl_scope.specs.Scopes.{Declaration}
use Rattle.std.specs.Prelude.{slice_get}
use Rattle.std.specs.Option.{option_copied, option_map}
use Rattle.std.proofs.lemmas.Option.{slice_get-map}
use Rattle.idl_scope.proofs.NamesKept.{length-declarations, names-declarations}
use Rattle.idl_scope.proofs.names.Names.name.Goals as goal

pub unwrap-requires : goal.unwrap-requires
unwrap-requires c =
    let count : length c.args.self.now ≡ length c.self.inside.set.keys = ap (λ (ds : List Declaration). length ds) (sym c.self.view_is) ∙ length-declarations c.self.inside.set.keys c.self.inside.sorts.items c.self.invariant ∙ sym c.self.invariant in
    let here : c.args.place < length c.self.inside.set.keys = omega (arith, count, c.requires) in
    c.get_index.ensures.found.1 here

pub returns : goal.returns
returns c =
    let text : Bor (List ℕ) → List ℕ = λ k. k.now in
    let key : slice_get c.self.inside.set.keys c.args.place ≡ Some c.unwrap.result.now = sym c.get_index.ensures.key ∙ ap (λ (o : Option (Bor (Bor (List ℕ)))). option_copied o) c.unwrap.ensures in
    ap (λ (ds : List Declaration). slice_get (names_of ds) c.args.place) (sym c.self.view_is)
    ∙ ap (λ (ns : List (List ℕ)). slice_get ns c.args.place) (names-declarations c.self.inside.set.keys c.self.inside.sorts.items c.self.invariant)
    ∙ slice_get-map text c.self.inside.set.keys c.args.place
    ∙ ap (λ (o : Option (Bor (List ℕ))). option_map text o) key
    ∙ ap (λ (text : List ℕ). Some text) (sym c.name.ensures)
