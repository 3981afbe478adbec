use Rattle.std.proofs.Common.{arith, length, refl, sym}
use Rattle.std.proofs.lemmas.Bool.{ltb-true}
use Rattle.std.proofs.lemmas.Option.{slice_get_read}
use Rattle.lemma_shelf.proofs.Keeping.{found_by}
use Rattle.lemma_shelf.proofs.check.find.Goals as goal

pub returns : goal.returns
returns c =
    found_by (λ n. n.items) c.args.entries.now c.args.kept c.in_ok-place.place c.in_ok-numbers.numbers.now c.deref.result.now c.number_at.result
    (omega (arith, c.in_ok-place.ensures))
    (slice_get_read c.args.entries.now (length c.args.entries.now) c.in_ok-place.place c.in_ok-numbers.numbers.now refl
    (ltb-true _ _ (sym c.in_ok-numbers.ensures.lookup.0)) c.in_ok-numbers.ensures.lookup.1)
    c.deref.ensures.value c.number_at.ensures
