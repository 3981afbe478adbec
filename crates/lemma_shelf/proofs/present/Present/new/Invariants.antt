use Rattle.std.proofs.Common.{take, nat_eq}
use Rattle.indexmap.specs.IndexMap.{get}
use Rattle.lemma_shelf.specs.code.Tables.{IsPresent}
use Rattle.lemma_shelf.proofs.present.Present.new.Given as goal

abbrev pub invariant-loop-i : goal.invariant-loop-i
invariant-loop-i l = IsPresent l.book l.clauses (take l.i l.clauses) (get nat_eq l.map)
