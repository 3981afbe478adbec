use Rattle.std.proofs.Common.{ℕ, List, [], ◌∷◌, ◌++◌, take, get_or, sym, subst}
use Rattle.std.proofs.lemmas.Option.{slice_get-get_or}
use Rattle.refute_tree.specs.declared.lemma.Lemma.{Lemma}
use Rattle.lemma_shelf.specs.code.Walks.{places}
use Rattle.lemma_shelf.specs.code.WrittenOut.{AreWrittenOut}
use Rattle.lemma_shelf.proofs.Lists.{take_more}
use Rattle.lemma_shelf.proofs.Written.{written_more}
use Rattle.lemma_shelf.proofs.lowering.lowered_lemmas.Goals as goal

pub loop-i-preserved : goal.loop-i-preserved
loop-i-preserved c =
    let book = c.args.table.now.book in
    let lemmas = c.args.table.now.lemmas.items in
    let clauses = c.args.present.now.clauses.now in
    let numbers : List ℕ = c.args.numbers.now in
    let i = c.loop-i.i in
    let number = get_or numbers i 0 in
    let more = written_more book lemmas c.args.table.now.points.items c.requires.whole c.requires.trees clauses (places c.args.present.now) c.requires.present (take i numbers) c.loop-i.lemmas.items c.loop-i.invariant number c.in_ok-lemma.lemma c.in_ok-lemma.ensures in
    subst (λ (ns : List ℕ). AreWrittenOut clauses book lemmas ns c.push.new.self.items) (sym (take_more numbers i number (slice_get-get_or numbers i 0 c.loop-i-test.true)))
    (subst (λ (made : List Lemma). AreWrittenOut clauses book lemmas (take i numbers ++ number ∷ []) made) (sym c.in_ok-push.ensures.items) more)
