use Rattle.std.proofs.Common.{refl, sym}
use Rattle.conflict_analysis.proofs.Marks.{reason_is}
use Rattle.conflict_analysis.proofs.reading.reason_on.Goals as goal

pub returns : goal.returns
returns c = sym (reason_is c.args.entries.now c.args.k _ _ c.requires refl)
