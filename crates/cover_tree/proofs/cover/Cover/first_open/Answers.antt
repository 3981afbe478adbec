use Rattle.std.proofs.Common.{subst}
use Rattle.cover_tree.specs.Covers.{NoneFree}
use Rattle.cover_tree.proofs.Tables.{none_free}
use Rattle.cover_tree.proofs.cover.Cover.first_open.Goals as goal

pub returns-in-None-clause-none : goal.returns-in-None-clause-none
returns-in-None-clause-none c = subst NoneFree c.self.view_is (none_free _ _ _ _ _ c.self.invariant c.in-None.ensures.none)
