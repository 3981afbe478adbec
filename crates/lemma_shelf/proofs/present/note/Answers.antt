use Rattle.std.proofs.Common.{◌≡◌, length, refl, sym, ap, ◌∙◌, Some, Contains}
use Rattle.std.specs.Prelude.{slice_get}
use Rattle.std.proofs.lemmas.Option.{slice_get_read}
use Rattle.lemma_shelf.proofs.Lists.{none_of}
use Rattle.lemma_shelf.proofs.Presence.{present_same, present_added}
use Rattle.lemma_shelf.proofs.present.note.Goals as goal

pub returns-in_ok-insert : goal.returns-in_ok-insert
returns-in_ok-insert c =
    let i = c.args.i in
    let here : slice_get c.args.clauses.now i ≡ Some c.as_slice.result.now = slice_get_read c.args.clauses.now (length c.args.clauses.now) i c.index-clauses-i.result refl c.requires.within c.index-clauses-i.is ∙ ap (λ x. Some x) (sym c.as_slice.ensures) in
    present_added c.args.book.now c.args.clauses.now i c.as_slice.result.now here _ c.requires.so_far c.in-Some.number _
    (λ n e. sym c.in-Some.is ∙ c.place.ensures.once n e) c.in-Some.ensures.found c.in_ok-insert.ensures.updates.0

pub returns-in_default : goal.returns-in_default
returns-in_default c =
    let i = c.args.i in
    let here : slice_get c.args.clauses.now i ≡ Some c.as_slice.result.now = slice_get_read c.args.clauses.now (length c.args.clauses.now) i c.index-clauses-i.result refl c.requires.within c.index-clauses-i.is ∙ ap (λ x. Some x) (sym c.as_slice.ensures) in
    present_same c.args.book.now c.args.clauses.now i c.as_slice.result.now here _ c.requires.so_far
    (none_of (Contains c.args.book.now c.as_slice.result.now → ⊥) c.place.result (λ n. slice_get c.args.book.now n ≡ Some c.as_slice.result.now) c.place.ensures.found c.in_default.not-Some)
