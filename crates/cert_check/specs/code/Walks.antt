-- Of the code and not of the meaning: what the walk over the steps keeps. Contracts of private functions alone cite it.
use Rattle.std.specs.Prelude.{◌≡◌, ℕ, ◌<◌, ◌≤◌, ◌+◌, ◌-◌, List, [], ◌∷◌, ◌++◌, length, take, drop, Bool, true, false, if◌then◌else◌, Option, Result, Ok, Err}
use Rattle.std.specs.List.{AllZip}
use Rattle.stn_core.specs.declared.literal.Literal.{Literal}
use Rattle.stn_core.specs.Literal.{negation_of}
use Rattle.stn_core.specs.declared.problem.Problem.{Problem}
use Rattle.refute_tree.specs.declared.step.Step.{Step}
use Rattle.refute_tree.specs.declared.step.Step.TheVariants.{Cycle as CycleStep}
use Rattle.refute_tree.specs.Pairs.{pair_of}
use Rattle.refute_tree.specs.declared.lemma.Lemma.{Lemma}
use Rattle.cert_check.specs.declared.flaw.FlawKind.{FlawKind}
use Rattle.cert_check.specs.declared.cases.Cases.{Cases}
use Rattle.cert_check.specs.declared.cases.Cases.TheVariants.{Clause, Either}
use Rattle.cert_check.specs.declared.walk.Frame.{Frame}
use Rattle.cert_check.specs.declared.walk.Walk.{Walk}
use Rattle.cert_check.specs.declared.walk.WalkError.{WalkError}
use Rattle.cert_check.specs.declared.walk.WalkError.TheVariants.{OutOfMemory, Refused}
use Rattle.cert_check.specs.Tests.{is_assumed}
use Rattle.cert_check.specs.declared.flaw.Flaw.{Flaw}
use Rattle.cert_check.specs.Flaws.{cases_of, opened, steps_flaw, tree_flaw, lemma_flaw}

-- a literal that is assumed already isn't noted again
abbrev pub with_literal : List Literal → Literal → List Literal
with_literal assumed l = if is_assumed assumed l then assumed else assumed ++ l ∷ []

-- the same literals are assumed
abbrev pub IsAlike : List Literal → List Literal → Type 0
IsAlike few many = (l : Literal) → is_assumed few l ≡ is_assumed many l

abbrev pub AreAlike : List (List Literal) → List (List Literal) → Type 0
AreAlike ours theirs = AllZip IsAlike ours theirs

abbrev pub clause_in : Cases → List Literal
clause_in (Clause clause) = clause.now
clause_in (Either l) = l ∷ negation_of l ∷ []

-- the cases of the later literals
abbrev pub cases_after : Frame → List Literal → List (List Literal)
cases_after f assumed = drop 1 (cases_of (take f.base assumed) (drop f.place (clause_in f.cases)))

-- the cases that wait, where the frames stand from the first that was opened to the last
abbrev pub waiting : List Frame → List Literal → List (List Literal)
waiting [] assumed = []
waiting (f ∷ frames) assumed = waiting frames assumed ++ cases_after f assumed

abbrev pub open_cases : Bool → List Frame → List Literal → List (List Literal)
open_cases open_ frames assumed = if open_ then assumed ∷ waiting frames assumed else []

-- no frame has fewer assumptions than one below it
abbrev pub IsStack : ℕ → List Frame → ℕ → Type 0
IsStack low [] high = low ≤ high
IsStack low (f ∷ frames) high = (low ≤ f.base) × (f.place < length (clause_in f.cases)) × IsStack f.base frames high

-- the same of a walk
abbrev pub IsWalk : Walk → Type 0
IsWalk walk = IsStack 0 walk.frames.items (length walk.assumed)

abbrev pub cases_waiting : Walk → List (List Literal)
cases_waiting walk = waiting walk.frames.items walk.assumed

abbrev pub cases_open : Bool → Walk → List (List Literal)
cases_open open_ walk = open_cases open_ walk.frames.items walk.assumed

-- the step opens the cases of the clause
abbrev pub OpensCases : Problem → List (List Literal) → List Literal → Step → Cases → Type 0
OpensCases problem earlier assumed step cases =
    opened problem.points problem.clauses earlier assumed step ≡ Ok (cases_of assumed (clause_in cases))

-- or it is flawed in this way
abbrev pub IsFlawedBy : Problem → List (List Literal) → List Literal → Step → FlawKind → Type 0
IsFlawedBy problem earlier assumed step kind = opened problem.points problem.clauses earlier assumed step ≡ Err kind

-- the steps up to the rest were read, and left other cases: what is ahead has the same flaw, at the same number
pub record GoesOn (before : List (List Literal)) (steps : List Step) (after : List (List Literal)) (rest : List Step) : Type 0 where
  pub shorter : length rest ≤ length steps
  pub same :
      (points : ℕ) (clauses earlier : List (List Literal)) (number : ℕ)
      → steps_flaw points clauses earlier before number steps ≡ steps_flaw points clauses earlier after (number + (length steps - length rest)) rest

-- the next step is the leaf of the literal and its negation, which is assumed; or nothing was read
abbrev pub ClosesCase : List Literal → Literal → List Step → List Step → Bool → Type 0
ClosesCase assumed l steps rest true = (steps ≡ CycleStep (pair_of l) ∷ rest) × (is_assumed assumed (negation_of l) ≡ true)
ClosesCase assumed l steps rest false = rest ≡ steps

-- all of these are assumed there too
abbrev pub AreAmong : List Literal → List Literal → Type 0
AreAmong few many = (l : Literal) → is_assumed few l ≡ true → is_assumed many l ≡ true

-- the steps closed the cases of the clause from one place up to another, whatever is assumed beside these
abbrev pub ClosesCases : List Literal → List Literal → ℕ → ℕ → List Step → List Step → Type 0
ClosesCases assumed clause low high steps rest =
    (more : List Literal) (others : List (List Literal)) → AreAmong assumed more
    → GoesOn (cases_of more (drop low clause) ++ others) steps (cases_of more (drop high clause) ++ others) rest

-- the step was read, and steps behind it, and they left these cases
abbrev pub LeavesOpen : ℕ → List (List Literal) → List (List Literal) → List Literal → List (List Literal) → Step → List Step → List (List Literal) → List Step → Type 0
LeavesOpen points clauses earlier assumed others step steps now rest =
    (opening : List (List Literal)) × (opened points clauses earlier assumed step ≡ Ok opening) × GoesOn (opening ++ others) steps now rest

abbrev pub IsFaultOf : Result (List (List Literal)) FlawKind → WalkError → Type 0
IsFaultOf found OutOfMemory = Unit {0}
IsFaultOf found (Refused kind) = found ≡ Err kind

-- where a step is refused, this holds
abbrev pub WhereRefused : Type 0 → WalkError → Type 0
WhereRefused P OutOfMemory = Unit {0}
WhereRefused P (Refused kind) = P

-- the walk read the step, and those behind it up to the rest, and a case is open behind them
abbrev pub HasRead : Problem → List (List Literal) → Walk → Step → List Step → Walk → List Step → Bool → Type 0
HasRead problem earlier before step steps after rest open_ =
    LeavesOpen problem.points problem.clauses earlier before.assumed (cases_waiting before) step steps (cases_open open_ after) rest

-- or it can't, for this reason
abbrev pub HasFailed : Problem → List (List Literal) → Walk → Step → WalkError → Type 0
HasFailed problem earlier walk step error = IsFaultOf (opened problem.points problem.clauses earlier walk.assumed step) error

-- the first flaw of the lemma, and of its tree
abbrev pub flaw_of_tree : Problem → List (List Literal) → Lemma → Option Flaw
flaw_of_tree problem earlier lemma = tree_flaw problem.points problem.clauses earlier lemma

abbrev pub flaw_of : Problem → List (List Literal) → Lemma → Option Flaw
flaw_of problem earlier lemma = lemma_flaw problem.points problem.clauses earlier lemma
