-- Steps as they are read.
use Rattle.std.specs.Prelude.{◌≡◌, List, []}
use Rattle.refute_tree.specs.declared.step.Step.{Step}
use Rattle.refute_tree.specs.declared.step.Step.TheVariants.{Cycle, Input, Lemma as Earlier, Clash, Either}
use Rattle.refute_tree.specs.declared.reader.StepView.{StepView}
use Rattle.refute_tree.specs.declared.reader.StepView.TheVariants.{Cycle as CycleView, Pair as PairView, Input as InputView, Lemma as LemmaView, Clash as ClashView, Either as EitherView}
use Rattle.stn_core.specs.declared.literal.Literal.{Literal}
use Rattle.refute_tree.specs.declared.cycle.Cycle.{Cycle as CycleSeen}
use Rattle.refute_tree.specs.declared.cycle.Cycle.TheVariants.{Literals, Path as AsPath}
use Rattle.refute_tree.specs.code.Paths.{path_of}
use Rattle.refute_tree.specs.Pairs.{pair_of}

-- the literals of a cycle that is read
abbrev pub literals_of : CycleSeen → List Literal
literals_of (Literals literals) = literals.now
literals_of (AsPath path) = path_of path.points.now path.bounds.now

-- the step that is read
abbrev pub step_seen : StepView → Step
step_seen (CycleView cycle) = Cycle (literals_of cycle)
step_seen (PairView l) = Cycle (pair_of l)
step_seen (InputView i) = Input i
step_seen (LemmaView j) = Earlier j
step_seen (ClashView i) = Clash i
step_seen (EitherView l) = Either l

-- there is nothing to read
pub record ReadsNone (before after : List Step) : Type 0 where
  pub none_before : before ≡ []
  pub none_after : after ≡ []
