-- What the first flaw says, in the words of refutation trees.
use Rattle.std.specs.Prelude.{◌≡◌, ℕ, ◌<◌, ◌≤◌, ◌-◌, List, [], ◌∷◌, ◌++◌, length, map, take, All, Contains, Some, slice_get}
use Rattle.stn_core.specs.declared.literal.Literal.{Literal}
use Rattle.stn_core.specs.Literal.{negation_of}
use Rattle.stn_core.specs.Cycle.{IsNegativeCycle}
use Rattle.refute_tree.specs.declared.step.Step.{Step}
use Rattle.refute_tree.specs.declared.step.Step.TheVariants.{Cycle, Input, Lemma as Earlier, Clash, Either}
use Rattle.refute_tree.specs.declared.lemma.Lemma.{Lemma}
use Rattle.refute_tree.specs.Trees.{clause_of, Tree, IsDenied, IsOnPoints, IsRefuted, stated}
use Rattle.cert_check.specs.declared.flaw.FlawKind.{FlawKind}
use Rattle.cert_check.specs.declared.flaw.FlawKind.TheVariants.{NoSuchPoint, NoSuchClause, NotAssumed, NotACycle, NotDenied, StepsMissing, StepsLeftOver, LastLemmaNotEmpty}
use Rattle.cert_check.specs.declared.flaw.Flaw.{Flaw}

-- `Begun inputs lemmas assumed steps here`: the steps begin a tree under the assumptions, as far as they go, and what
-- comes next is a tree in the case whose assumptions are `here`
-- `ForestBegun inputs lemmas assumed clause steps here`: the same of one tree for each literal of the clause
mutual
  pub data Begun (inputs lemmas : List (List Literal)) : List Literal → List Step → List Literal → Type 0 where
    -- no step is there yet
    start : {assumed : List Literal} → Begun inputs lemmas assumed [] assumed
    -- a step with a clause, then some of the clause's cases
    goes_on : {assumed clause here : List Literal} {step : Step} {steps : List Step} → clause_of inputs lemmas step ≡ Some clause → ForestBegun inputs lemmas assumed clause steps here → Begun inputs lemmas assumed (step ∷ steps) here

  pub data ForestBegun (inputs lemmas : List (List Literal)) : List Literal → List Literal → List Step → List Literal → Type 0 where
    -- the first literal's tree is begun
    inside : {assumed clause here : List Literal} {l : Literal} {steps : List Step} → Begun inputs lemmas (assumed ++ l ∷ []) steps here → ForestBegun inputs lemmas assumed (l ∷ clause) steps here
    -- the first literal's tree is there, and one of a later literal is begun
    after : {assumed clause here : List Literal} {l : Literal} {steps others : List Step} → Tree inputs lemmas (assumed ++ l ∷ []) steps others → ForestBegun inputs lemmas (assumed ++ negation_of l ∷ []) clause others here → ForestBegun inputs lemmas assumed (l ∷ clause) steps here

-- a step can't stand first in a tree under the assumptions, for this reason
abbrev pub IsWrong : ℕ → List (List Literal) → List (List Literal) → List Literal → Step → FlawKind → Type 0
IsWrong points clauses earlier here (Cycle cycle) NotAssumed = ¬ All (Contains here) cycle
IsWrong points clauses earlier here (Cycle cycle) NotACycle = All (Contains here) cycle × ¬ IsNegativeCycle cycle
IsWrong points clauses earlier here (Input i) NoSuchClause = length clauses ≤ i
IsWrong points clauses earlier here (Earlier j) NoSuchClause = length earlier ≤ j
IsWrong points clauses earlier here (Clash i) NoSuchClause = length clauses ≤ i
IsWrong points clauses earlier here (Clash i) NotDenied = (clause : List Literal) × (slice_get clauses i ≡ Some clause) × ¬ IsDenied here clause
IsWrong points clauses earlier here (Either l) NoSuchPoint = ¬ IsOnPoints points l
IsWrong points clauses earlier here step kind = ⊥

-- `IsFlawOf points clauses earlier lemma step kind`: the steps before this one are right, and there the lemma, after
-- those that state the earlier clauses, is wrong in this way
pub data IsFlawOf (points : ℕ) (clauses earlier : List (List Literal)) (lemma : Lemma) : ℕ → FlawKind → Type 0 where
  -- a literal of the lemma's own clause
  own : ¬ All (IsOnPoints points) lemma.clause → IsFlawOf points clauses earlier lemma 0 NoSuchPoint
  -- a step, in a case of the tree that the steps before it begin
  at_step : {number : ℕ} {step : Step} {kind : FlawKind} {here : List Literal} → All (IsOnPoints points) lemma.clause → Begun clauses earlier (map negation_of lemma.clause) (take number lemma.steps) here → slice_get lemma.steps number ≡ Some step → IsWrong points clauses earlier here step kind → IsFlawOf points clauses earlier lemma number kind
  -- all steps begin a tree, and a case of it is still open
  missing : {here : List Literal} → All (IsOnPoints points) lemma.clause → Begun clauses earlier (map negation_of lemma.clause) lemma.steps here → IsFlawOf points clauses earlier lemma (length lemma.steps) StepsMissing
  -- the steps before this one are a whole tree
  left_over : {number : ℕ} → All (IsOnPoints points) lemma.clause → Tree clauses earlier (map negation_of lemma.clause) (take number lemma.steps) [] → number < length lemma.steps → IsFlawOf points clauses earlier lemma number StepsLeftOver

-- no lemma is left that could be flawed, and the last has a literal, or there is none
pub record IsFlawOfEnd (lemmas : List Lemma) (flaw : Flaw) : Type 0 where
  pub step : flaw.step ≡ 0
  pub kind : flaw.kind ≡ LastLemmaNotEmpty
  pub last : (lemma : Lemma) → slice_get lemmas (length lemmas - 1) ≡ Some lemma → ¬ (lemma.clause ≡ [])

-- the lemmas before the flaw are refuted; the one at the flaw isn't, and is wrong as the flaw says; or all are refuted
pub record IsFirstFlaw (points : ℕ) (clauses : List (List Literal)) (lemmas : List Lemma) (flaw : Flaw) : Type 0 where
  pub within : flaw.lemma ≤ length lemmas
  pub before : (j : ℕ) (lemma : Lemma) → j < flaw.lemma → slice_get lemmas j ≡ Some lemma → IsRefuted points clauses (map stated (take j lemmas)) lemma
  pub unrefuted : (lemma : Lemma) → slice_get lemmas flaw.lemma ≡ Some lemma → ¬ IsRefuted points clauses (map stated (take flaw.lemma lemmas)) lemma
  pub wrong : (lemma : Lemma) → slice_get lemmas flaw.lemma ≡ Some lemma → IsFlawOf points clauses (map stated (take flaw.lemma lemmas)) lemma flaw.step flaw.kind
  pub end : flaw.lemma ≡ length lemmas → IsFlawOfEnd lemmas flaw
