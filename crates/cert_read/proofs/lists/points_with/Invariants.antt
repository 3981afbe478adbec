use Rattle.std.proofs.Common.{◌≡◌, map, take}
use Rattle.cert_read.proofs.Ascending.{nearest}
use Rattle.cert_read.proofs.lists.points_with.Given as goal

abbrev pub invariant-loop-number : goal.invariant-loop-number
invariant-loop-number l = l.points.items ≡ map nearest (take l.number-index l.numbers)
