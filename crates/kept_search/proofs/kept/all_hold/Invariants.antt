use Rattle.std.proofs.Common.{All, take}
use Rattle.stn_core.specs.Literal.{Holds}
use Rattle.kept_search.proofs.kept.all_hold.Given as goal

abbrev pub invariant-loop-literal : goal.invariant-loop-literal
invariant-loop-literal l = All (Holds l.values) (take l.literal-index l.cube)
