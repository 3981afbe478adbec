use Rattle.cert_read.proofs.EachItem.{IsReadUpTo}
use Rattle.cert_read.proofs.part.read_each.Given as goal

abbrev pub invariant-loop-id : goal.invariant-loop-id
invariant-loop-id g l = IsReadUpTo (g.T.Part.meant l.version) l.table l.ids l.id-index l.parts.items
