-- The lemmas that stand beside a verdict.
use Rattle.std.specs.Prelude.{◌≡◌, List, []}
use mathlib.Core.List.{IsPrefix}
use Rattle.refute_tree.specs.declared.lemma.Lemma.{Lemma}
use Rattle.book_core.specs.declared.verdict.Verdict.{Verdict}
use Rattle.book_core.specs.declared.verdict.Verdict.TheVariants.{Sat, Unsat}

-- beside a schedule all of these, and none beside a refutation, which has its own
abbrev pub learned_by : Verdict → List Lemma → List Lemma
learned_by (Sat values) lemmas = lemmas
learned_by (Unsat refutation) lemmas = []

-- beside a schedule those that the search opened with and further ones behind them, and none beside a refutation
abbrev pub BeginsWith : List Lemma → Verdict → List Lemma → Type 0
BeginsWith opening (Sat values) lemmas = IsPrefix opening lemmas
BeginsWith opening (Unsat refutation) lemmas = lemmas ≡ []
