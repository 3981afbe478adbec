use Rattle.std.proofs.Common.{◌≡◌, drop}
use Rattle.cert_read.specs.Parts.{ascends_from, ascends}
use Rattle.cert_read.proofs.lists.ascend.Given as goal

abbrev pub invariant-loop-number : goal.invariant-loop-number
invariant-loop-number l = ascends_from l.last (drop l.number-index l.rest) ≡ ascends l.numbers
