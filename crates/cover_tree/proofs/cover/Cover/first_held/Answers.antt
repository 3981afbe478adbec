use Rattle.std.proofs.Common.{subst, arith, ◌<◌, length}
use Rattle.std.proofs.lemmas.Option.{slice_get_within}
use Rattle.cover_tree.specs.Covers.{NoneHeld}
use Rattle.cover_tree.proofs.Tables.{none_held, flagged_held}
use Rattle.cover_tree.proofs.cover.Cover.first_held.Goals as goal

pub index-requires : goal.index-requires
index-requires c = let lt : c.in-Some.k < length c.self.inside.nodes.items = slice_get_within _ _ _ (flagged_held _ _ _ _ _ c.self.invariant _ c.in-Some.ensures.some).1 in omega arith

pub returns-in-None-clause-none : goal.returns-in-None-clause-none
returns-in-None-clause-none c = subst NoneHeld c.self.view_is (none_held _ _ _ _ _ c.self.invariant c.in-None.ensures.none)
