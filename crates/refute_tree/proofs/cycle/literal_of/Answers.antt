use Rattle.std.proofs.Common.{rules, ◌≡◌, ◌∙◌, pos, w64, FitsSigned, slice_index_or}
use Rattle.std.specs.Int.{w32}
use Rattle.std.proofs.lemmas.Int.{to_z-of_z}
use Rattle.refute_tree.proofs.PathParts.{path_at_by}
use Rattle.refute_tree.proofs.cycle.literal_of.Goals as goal

pub returns : goal.returns
returns c =
    let bound_fits : FitsSigned w32 (slice_index_or c.args.bounds.now c.args.place (pos 0)) = search rules in
    let from_fits : FitsSigned w64 c.from-3.result = search rules in
    let bound : c.from-3.result ≡ slice_index_or c.args.bounds.now c.args.place (pos 0) = simp to_z-of_z at c.from-3.ensures in
    path_at_by _ _ _ _ _ _ c.requires.shape c.requires.place c.from.ensures c.from-2.ensures (to_z-of_z w64 c.from-3.result from_fits ∙ bound)
