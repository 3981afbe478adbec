use Rattle.std.proofs.Common.{arith, ◌<◌, get_or, length}
use Rattle.branch_search.proofs.Hits.{path_more, stands_at}
use Rattle.branch_search.proofs.distances.path_of.Goals as goal

pub edges-preserved : goal.edges-preserved
edges-preserved c =
    let place = get_or c.args.places.now c.edges.place-index 0 in
    let within : place < length c.args.entries.now = omega arith in
    path_more c.args.entries.now c.args.denied c.literal_on.result c.edges.path.items c.push-in-edges.new.self.items
    c.in_ok-push-2.ensures.items c.edges.invariant
    (stands_at c.args.entries.now place c.literal_on.result within c.literal_on.ensures)
