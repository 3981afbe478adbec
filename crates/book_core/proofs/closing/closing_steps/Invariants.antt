use Rattle.std.proofs.Common.{length, map}
use Rattle.std.specs.Arc.{arc_value}
use Rattle.refute_tree.specs.declared.lemma.Lemma.{Lemma as Stated}
use Rattle.refute_tree.specs.Trees.{stated}
use Rattle.book_core.proofs.ClosedTrees.{IsPending, weight_of}
use Rattle.book_core.proofs.closing.closing_steps.Given as goal

abbrev pub invariant-loop-k : goal.invariant-loop-k
invariant-loop-k l = IsPending l.points l.cover (map (λ a. stated (arc_value {X = Stated} a)) l.lemmas) l.waiting.items l.steps

abbrev pub decreases-loop-k : goal.decreases-loop-k
decreases-loop-k l = weight_of (length l.cover.nodes) l.waiting.items
