-- The lemmas of an earlier problem that are carried over to a new one: exactly those whose support lies in the new problem and
-- whose time points are its points, in their order, with the new problem's numbers. That a learned clause stays usable as long as
-- the clauses that it was derived from are asserted is how incremental solvers keep lemmas (Een, Soerensson 2003, Temporal
-- induction by incremental SAT solving).
use Rattle.std.specs.Prelude.{◌≡◌, ◌≢◌, ◌↔◌, ◌<◌, ℕ, Bool, true, false, List, [], length, map, Contains, Option, Some, None, unwrap_or, slice_get, slice_index_or}
use Rattle.std.specs.List.{items_where_true}
use Rattle.stn_core.specs.declared.literal.Literal.{Literal}
use Rattle.refute_tree.specs.declared.step.Step.{Step}
use Rattle.refute_tree.specs.declared.step.Step.TheVariants.{Input, Lemma as Earlier, Clash}
use Rattle.refute_tree.specs.declared.lemma.Lemma.{Lemma}
use Rattle.refute_tree.specs.Batches.{LemmaBatch}
use Rattle.kept_lemmas.specs.declared.item.Item.TheVariants.{Own}
use Rattle.kept_lemmas.specs.Facts.{Fact, Facts, facts_of}
use Rattle.kept_lemmas.specs.Entries.{IsUsable}
use Rattle.trim_lemmas.specs.Trimming.{place}

-- what lemmas state and rest on, over the clauses of their problem, each with those before it
abbrev pub lemma_facts : List (List Literal) → List Lemma → Facts
lemma_facts clauses lemmas = facts_of [] clauses (map (λ (lemma : Lemma). Own lemma) lemmas)

-- the first clause that equals this one, literal for literal, has this number
pub record IsFirstEqual (clauses : List (List Literal)) (clause : List Literal) (n : ℕ) : Type 0 where
  pub at : slice_get clauses n ≡ Some clause
  pub first : (k : ℕ) → k < n → slice_get clauses k ≢ Some clause

abbrev pub IsEqualAt : List (List Literal) → List Literal → Option ℕ → Type 0
IsEqualAt clauses clause None = Contains clauses clause → ⊥
IsEqualAt clauses clause (Some n) = IsFirstEqual clauses clause n

-- for each old clause the number of the first new one that equals it, if one does
pub record AreEqualAt (old new : List (List Literal)) (numbers : List (Option ℕ)) : Type 0 where
  pub one_each : length numbers ≡ length old
  pub each : (i : ℕ) (clause : List Literal) → slice_get old i ≡ Some clause → IsEqualAt new clause (slice_index_or numbers i None)

-- for each lemma whether it is carried: exactly where what it states may be used in the new problem
pub record AreKept (points : ℕ) (clauses : List (List Literal)) (facts : Facts) (kept : List Bool) : Type 0 where
  pub one_each : length kept ≡ length facts
  pub right : (j : ℕ) (fact : Fact) → slice_get facts j ≡ Some fact → (slice_index_or kept j false ≡ true) ↔ IsUsable points clauses fact

-- the step by the new numbers: a clause's first place in the new problem, a lemma's place among the carried ones
abbrev pub carried_step : List (Option ℕ) → List Bool → Step → Step
carried_step numbers kept (Input i) = Input (unwrap_or (slice_index_or numbers i None) i)
carried_step numbers kept (Clash i) = Clash (unwrap_or (slice_index_or numbers i None) i)
carried_step numbers kept (Earlier j) = Earlier (place kept j)
carried_step numbers kept step = step

abbrev pub carried_lemma : List (Option ℕ) → List Bool → Lemma → Lemma
carried_lemma numbers kept lemma = record { clause = lemma.clause; steps = map (carried_step numbers kept) lemma.steps }

-- of these lemmas over the old clauses, those that a new problem of so many points and the new clauses takes, as a batch that is
-- made over no others
pub record IsCarried (old : List (List Literal)) (lemmas : List Lemma) (points : ℕ) (new : List (List Literal)) (batch : LemmaBatch) : Type 0 where
  pub numbers : List (Option ℕ)
  pub kept : List Bool
  pub equal : AreEqualAt old new numbers
  pub are : AreKept points new (lemma_facts old lemmas) kept
  pub seen : batch.seen ≡ 0
  pub lemmas_are : batch.lemmas ≡ map (carried_lemma numbers kept) (items_where_true kept lemmas)
