use Rattle.conflict_analysis.proofs.Marks.{literal_is}
use Rattle.conflict_analysis.proofs.reading.literal_on.Goals as goal

pub returns : goal.returns
returns c = literal_is c.args.entries.now c.args.k _ c.requires
