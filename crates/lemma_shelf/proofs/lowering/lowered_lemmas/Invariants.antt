use Rattle.std.proofs.Common.{take}
use Rattle.lemma_shelf.specs.code.WrittenOut.{AreWrittenOut}
use Rattle.lemma_shelf.proofs.lowering.lowered_lemmas.Given as goal

abbrev pub invariant-loop-i : goal.invariant-loop-i
invariant-loop-i l = AreWrittenOut l.present.clauses.now l.table.book l.table.lemmas.items (take l.i l.numbers) l.lemmas.items
