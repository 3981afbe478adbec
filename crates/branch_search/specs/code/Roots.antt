-- What a literal's negation is in conflict with.
use Rattle.std.specs.Prelude.{Option, Some, None}
use Rattle.stn_core.specs.declared.literal.Literal.{Literal}
use Rattle.conflict_analysis.specs.declared.entry.Reason.{Reason}
use Rattle.conflict_analysis.specs.declared.entry.Reason.TheVariants.{Given, Decision, Clause as ByClause}
use Rattle.conflict_analysis.specs.declared.entry.Reason.TheVariants.{Pair as ByPair, Cycle as ByCycle}
use Rattle.conflict_analysis.specs.declared.entry.Conflict.{Conflict}
use Rattle.conflict_analysis.specs.declared.entry.Conflict.TheVariants.{Clause as OfClause, Cycle as OfCycle}
use Rattle.conflict_analysis.specs.code.Trails.{pair_cycle}

-- the literal that has this reason can't fail where the reason's literals hold
abbrev pub denial_of : Literal → Reason → Option Conflict
denial_of l Given = None
denial_of l Decision = None
denial_of l (ByClause source place) = Some (OfClause source)
denial_of l (ByPair tighter) = Some (OfCycle (pair_cycle tighter l))
denial_of l (ByCycle cycle) = Some (OfCycle cycle)
