use Rattle.cert_read.specs.Parts.{step_of}
use Rattle.cert_read.proofs.EachItem.{IsReadUpTo}
use Rattle.cert_read.proofs.part.read_steps.Given as goal

abbrev pub invariant-loop-id : goal.invariant-loop-id
invariant-loop-id l = IsReadUpTo (step_of l.version) l.table l.ids l.id-index l.steps
