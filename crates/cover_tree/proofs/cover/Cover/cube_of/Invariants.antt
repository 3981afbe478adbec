use Rattle.std.proofs.Common.{◌≡◌, ◌<◌, ◌++◌, [], length, reverse, slice_index_or}
use Rattle.cover_tree.specs.code.Links.{paths_of}
use Rattle.cover_tree.proofs.cover.Cover.cube_of.Given as goal

abbrev pub invariant-loop-at : goal.invariant-loop-at
invariant-loop-at l = record {
  path : slice_index_or (paths_of l.self-inside.links.items) l.at [] ++ reverse l.cube.items ≡ slice_index_or (paths_of l.self-inside.links.items) l.id [];
  within : l.at < length l.self-inside.nodes.items;
}

abbrev pub decreases-loop-at : goal.decreases-loop-at
decreases-loop-at l = l.at
