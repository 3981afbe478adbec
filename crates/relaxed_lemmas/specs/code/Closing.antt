-- Of the code and not of the meaning: a lemma that ends a refutation.
use Rattle.std.specs.Prelude.{◌≡◌, ℕ, List, [], map, All}
use Rattle.stn_core.specs.declared.problem.Problem.{Problem}
use Rattle.refute_tree.specs.declared.step.Step.{Step}
use Rattle.refute_tree.specs.declared.lemma.Lemma.{Lemma}
use Rattle.refute_tree.specs.Trees.{IsRefuted, literals_named, stated}
use Rattle.refute_tree.specs.Batches.{LemmaIsOver}

-- the steps name no literals
abbrev pub NamesNone : List Step → Type 0
NamesNone steps = All (λ (step : Step). literals_named step ≡ []) steps

-- the lemma has no literals and is refuted over the problem and these lemmas
pub record Closes (problem : Problem) (lemmas : List Lemma) (last : Lemma) : Type 0 where
  pub refuted : IsRefuted problem.points problem.clauses (map stated lemmas) last
  pub over : LemmaIsOver problem.points last
  pub empty : last.clause ≡ []
