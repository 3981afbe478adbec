use Rattle.std.proofs.Common.{◌≡◌, map, take}
use Rattle.lemma_shelf.specs.code.Tables.{own_item}
use Rattle.dtp_check.proofs.earlier.own_lemmas.Given as goal

abbrev pub invariant-loop-item : goal.invariant-loop-item
invariant-loop-item l = map own_item l.lemmas.items ≡ take l.item-index l.items
