-- The first flaw of lemmas that are to be a refutation. Lemma goes after lemma, and in a lemma step after step; what is
-- kept on the way are the cases that are still to be read, each by its list of assumptions, the next one first.
use Rattle.std.specs.Prelude.{◌≡◌, ℕ, suc, List, [], ◌∷◌, ◌++◌, length, map, slice_get, Option, Some, None, Result, Ok, Err, Bool, false, ◌==◌, if◌then◌else◌}
use Rattle.std.specs.List.{list_all}
use Rattle.stn_core.specs.declared.literal.Literal.{Literal}
use Rattle.stn_core.specs.Literal.{negation_of}
use Rattle.refute_tree.specs.declared.step.Step.{Step}
use Rattle.refute_tree.specs.declared.step.Step.TheVariants.{Cycle, Input, Lemma as Earlier, Clash, Either}
use Rattle.refute_tree.specs.declared.lemma.Lemma.{Lemma}
use Rattle.cert_check.specs.declared.flaw.FlawKind.{FlawKind}
use Rattle.cert_check.specs.declared.flaw.FlawKind.TheVariants.{NoSuchPoint, NoSuchClause, NotAssumed, NotACycle, NotDenied, StepsMissing, StepsLeftOver, LastLemmaNotEmpty}
use Rattle.cert_check.specs.declared.flaw.Flaw.{Flaw}
use Rattle.cert_check.specs.declared.flaw.CheckError.{CheckError}
use Rattle.cert_check.specs.declared.flaw.CheckError.TheVariants.{OutOfMemory, Refused}
use Rattle.cert_check.specs.Tests.{is_assumed, is_on_points, is_negative_cycle}

-- the cases of a clause: in each a literal is assumed, and the negations of those before it
abbrev pub cases_of : List Literal → List Literal → List (List Literal)
cases_of assumed [] = []
cases_of assumed (l ∷ clause) = (assumed ++ l ∷ []) ∷ cases_of (assumed ++ negation_of l ∷ []) clause

abbrev pub cases_in : List Literal → Option (List Literal) → Result (List (List Literal)) FlawKind
cases_in assumed None = Err NoSuchClause
cases_in assumed (Some clause) = Ok (cases_of assumed clause)

-- a cycle opens no case
abbrev pub opened_by_cycle : List Literal → List Literal → Result (List (List Literal)) FlawKind
opened_by_cycle assumed cycle = if list_all (is_assumed assumed) cycle then (if is_negative_cycle cycle then Ok [] else Err NotACycle) else Err NotAssumed

-- nor does a clash
abbrev pub opened_by_clash : List Literal → Option (List Literal) → Result (List (List Literal)) FlawKind
opened_by_clash assumed None = Err NoSuchClause
opened_by_clash assumed (Some clause) = if list_all (is_assumed assumed) (map negation_of clause) then Ok [] else Err NotDenied

-- the cases that a step opens in a case, or what is wrong with it
abbrev pub opened : ℕ → List (List Literal) → List (List Literal) → List Literal → Step → Result (List (List Literal)) FlawKind
opened points clauses earlier assumed (Cycle cycle) = opened_by_cycle assumed cycle
opened points clauses earlier assumed (Input i) = cases_in assumed (slice_get clauses i)
opened points clauses earlier assumed (Earlier j) = cases_in assumed (slice_get earlier j)
opened points clauses earlier assumed (Clash i) = opened_by_clash assumed (slice_get clauses i)
opened points clauses earlier assumed (Either l) = if is_on_points points l then Ok (cases_of assumed (l ∷ negation_of l ∷ [])) else Err NoSuchPoint

-- a flaw of the lemma after these
abbrev pub flaw_at : List (List Literal) → ℕ → FlawKind → Option Flaw
flaw_at earlier step kind = Some (record { lemma = length earlier; step = step; kind = kind })

abbrev pub after_step : List (List Literal) → ℕ → (List (List Literal) → Option Flaw) → Result (List (List Literal)) FlawKind → Option Flaw
after_step earlier step others (Ok cases) = others cases
after_step earlier step others (Err kind) = flaw_at earlier step kind

-- the first flaw of the steps from one on, where these cases are to be read
abbrev pub steps_flaw : ℕ → List (List Literal) → List (List Literal) → List (List Literal) → ℕ → List Step → Option Flaw
steps_flaw points clauses earlier [] step [] = None
steps_flaw points clauses earlier [] step (s ∷ steps) = flaw_at earlier step StepsLeftOver
steps_flaw points clauses earlier (assumed ∷ others) step [] = flaw_at earlier step StepsMissing
steps_flaw points clauses earlier (assumed ∷ others) step (s ∷ steps) =
    after_step earlier step (λ cases. steps_flaw points clauses earlier (cases ++ others) (suc step) steps) (opened points clauses earlier assumed s)

-- the first flaw of the lemma's steps, of which the tree is to be made that refutes its denial
abbrev pub tree_flaw : ℕ → List (List Literal) → List (List Literal) → Lemma → Option Flaw
tree_flaw points clauses earlier lemma = steps_flaw points clauses earlier (map negation_of lemma.clause ∷ []) 0 lemma.steps

-- the first flaw of the lemma after those whose clauses are given
abbrev pub lemma_flaw : ℕ → List (List Literal) → List (List Literal) → Lemma → Option Flaw
lemma_flaw points clauses earlier lemma =
    if list_all (is_on_points points) lemma.clause then tree_flaw points clauses earlier lemma else flaw_at earlier 0 NoSuchPoint

-- the last clause has no literal, and there is one
abbrev pub ends_empty : List (List Literal) → Bool
ends_empty [] = false
ends_empty (clause ∷ []) = length clause == 0
ends_empty (clause ∷ next ∷ clauses) = ends_empty (next ∷ clauses)

abbrev pub first_of : Option Flaw → Option Flaw → Option Flaw
first_of None later = later
first_of (Some flaw) later = Some flaw

-- the first flaw of the lemmas after those whose clauses are given
abbrev pub lemmas_flaw : ℕ → List (List Literal) → List (List Literal) → List Lemma → Option Flaw
lemmas_flaw points clauses earlier [] = if ends_empty earlier then None else flaw_at earlier 0 LastLemmaNotEmpty
lemmas_flaw points clauses earlier (lemma ∷ lemmas) = first_of (lemma_flaw points clauses earlier lemma) (lemmas_flaw points clauses (earlier ++ lemma.clause ∷ []) lemmas)

-- the first flaw of lemmas that are to be a refutation of the problem with so many time points and these clauses
abbrev pub refutation_flaw : ℕ → List (List Literal) → List Lemma → Option Flaw
refutation_flaw points clauses lemmas = lemmas_flaw points clauses [] lemmas

-- an answer tells the first flaw, and that there is none
abbrev pub TellsFlaw : Option Flaw → Result (Unit {0}) CheckError → Type 0
TellsFlaw flaw (Ok _) = flaw ≡ None
TellsFlaw flaw (Err OutOfMemory) = Unit {0}
TellsFlaw flaw (Err (Refused f)) = flaw ≡ Some f
