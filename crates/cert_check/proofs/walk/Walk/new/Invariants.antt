use Rattle.std.proofs.Common.{map, take}
use Rattle.stn_core.specs.Literal.{negation_of}
use Rattle.cert_check.specs.code.Walks.{IsAlike}
use Rattle.cert_check.proofs.walk.Walk.new.Given as goal

abbrev pub invariant-loop-literal : goal.invariant-loop-literal
invariant-loop-literal l = IsAlike l.assumed (map negation_of (take l.literal-index l.clause))
