use Rattle.neg_cycle.proofs.Cuts.{place_by, lacks_by}
use Rattle.neg_cycle.proofs.cut.place_of.Goals as goal

pub returns-clause-some : goal.returns-clause-some
returns-clause-some c = place_by c.args.points.now.keys c.args.point c.get_index_of.result c.get_index_of.ensures.index

pub returns-clause-none : goal.returns-clause-none
returns-clause-none c = lacks_by c.args.points.now.keys c.args.point c.get_index_of.result c.get_index_of.ensures.found
