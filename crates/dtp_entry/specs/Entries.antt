-- What a certificate holds for a question. For a check-sat it is a schedule that satisfies the assertions, or a refutation of
-- their problem. For a minimize it is such a refutation; or such a schedule, the value that it gives the term, and a refutation of
-- any less; or values of the problem's points with a set of points that can be lowered together without end.
-- The format is that of cert_text; what makes an entry right stands here.
use Rattle.std.specs.Prelude.{◌≡◌, ℕ, List, [], ◌∷◌, ◌++◌, All, ℤ, ◌-ℤ◌, Option, Some, None}
use Rattle.smt_sexpr.specs.Tree.{Sexpr}
use Rattle.stn_core.specs.declared.literal.Literal.{Literal}
use Rattle.stn_core.specs.declared.named.NamedValue.{NamedValue}
use Rattle.stn_core.specs.declared.problem.Problem.{Problem}
use Rattle.refute_tree.specs.declared.lemma.Lemma.{Lemma}
use Rattle.refute_tree.specs.Trees.{IsRefutation}
use Rattle.refute_tree.specs.Lengths.{shortened}
use Rattle.best_values.specs.Bests.{IsModel, IsFreeSet}
use Rattle.best_values.specs.Questions.{below}
use Rattle.best_values.specs.Widths.{IsWithinLimit}
use Rattle.cert_text.specs.declared.entry.Version.{Version}
use Rattle.cert_text.specs.declared.entry.Version.TheVariants.{One, Two}
use Rattle.cert_text.specs.declared.entry.Entry.{Entry}
use Rattle.cert_text.specs.declared.entry.Entry.TheVariants.{Sat, Unsat, Best, Unbounded}
use Rattle.cert_text.specs.Limits.{EntryFits}
use Rattle.idl_term.specs.Contexts.{Context}
use Rattle.smt_script.specs.declared.objective.Objective.{Objective}
use Rattle.smt_script.specs.declared.state.Question.{Question}
use Rattle.smt_script.specs.declared.state.Question.TheVariants.{CheckSat, Minimize}
use Rattle.smt_script.specs.declared.state.Satisfiability.{Satisfiability}
use Rattle.smt_script.specs.declared.state.Satisfiability.TheVariants as verdict
use Rattle.smt_script.specs.Commands.{minimized}
pub use Rattle.script_walk.specs.Questions.{points_of, problem_of}
use Rattle.dtp_entry.specs.Bests.{Satisfies, HasValue}

-- ---- what an objective asks of the assertions' problem

-- the value of the objective's difference of points where its term has this value
abbrev pub difference_at : Objective → ℤ → ℤ
difference_at o m = m -ℤ o.k

-- the clause form, and behind it the clause that the term is below the value
abbrev pub problem_below : Context → Objective → ℤ → List (List Literal)
problem_below c o m = problem_of c ++ (below o.x o.y (difference_at o m) ∷ []) ∷ []

-- the clause form as a problem
pub record IsProblemOf (c : Context) (problem : Problem) : Type 0 where
  pub points : problem.points ≡ points_of c
  pub clauses : problem.clauses ≡ problem_of c

-- ---- right entries

-- the schedule satisfies the assertions and gives the term the value, and no less is possible
pub record IsLeast (c : Context) (x : Sexpr) (o : Objective) (m : ℤ) (schedule : List NamedValue) (lemmas : List Lemma) : Type 0 where
  pub satisfies : Satisfies c schedule
  pub attained : HasValue c schedule (minimized x) m
  pub within : IsWithinLimit (difference_at o m)
  pub refuted : IsRefutation (points_of c) (problem_below c o m) lemmas

-- the problem holds on the values, and the points of the set, the objective's first among them and its second not, can be
-- lowered together
pub record IsUnbounded (c : Context) (o : Objective) (values : List ℤ) (set : List ℕ) : Type 0 where
  pub problem : Problem
  pub is_problem : IsProblemOf c problem
  pub model : IsModel problem values
  pub free : IsFreeSet problem o.x o.y values set

-- what is so of a check-sat alone, and of a minimize alone
abbrev pub AtCheckSat : Question → Type 0 → Type 0
AtCheckSat CheckSat holds = holds
AtCheckSat (Minimize o) holds = ⊥

abbrev pub AtMinimize : Question → (Objective → Type 0) → Type 0
AtMinimize CheckSat Holds = ⊥
AtMinimize (Minimize o) Holds = Holds o

-- an entry that shows what the question of command x comes to
abbrev pub IsRight : Question → Sexpr → Context → Entry → Type 0
IsRight question x c (Sat schedule) = AtCheckSat question (Satisfies c schedule)
IsRight question x c (Unsat lemmas) = IsRefutation (points_of c) (problem_of c) lemmas
IsRight question x c (Best m schedule lemmas) = AtMinimize question (λ o. IsLeast c x o m schedule lemmas)
IsRight question x c (Unbounded values set) = AtMinimize question (λ o. IsUnbounded c o values set)

-- what is so of the lemmas of an entry, where it has any, and of the clauses that they refute
abbrev pub OfRefuted : Question → Context → Entry → (List (List Literal) → List Lemma → Type 0) → Type 0
OfRefuted question c (Sat schedule) Holds = Unit {0}
OfRefuted question c (Unsat lemmas) Holds = Holds (problem_of c) lemmas
OfRefuted question c (Best m schedule lemmas) Holds = AtMinimize question (λ o. Holds (problem_below c o m) lemmas)
OfRefuted question c (Unbounded values set) Holds = Unit {0}

-- the clauses that its lemmas refute, where it has any
abbrev pub clauses_at_minimize : Question → (Objective → List (List Literal)) → Option (List (List Literal))
clauses_at_minimize CheckSat clauses = None
clauses_at_minimize (Minimize o) clauses = Some (clauses o)

abbrev pub refuted_clauses : Question → Context → Entry → Option (List (List Literal))
refuted_clauses question c (Sat schedule) = None
refuted_clauses question c (Unsat lemmas) = Some (problem_of c)
refuted_clauses question c (Best m schedule lemmas) = clauses_at_minimize question (λ o. problem_below c o m)
refuted_clauses question c (Unbounded values set) = None

-- no step of the lemma opens a clause whose cases are all closed by their literal and its negation: it would be a clash
abbrev pub IsShort : List (List Literal) → Lemma → Type 0
IsShort clauses lemma = shortened clauses lemma.steps ≡ lemma.steps

-- The form of a version: in the first each clash is written out, which its limits say; in the second each lemma is short.
abbrev pub IsInForm : Version → Question → Context → Entry → Type 0
IsInForm One question c entry = Unit {0}
IsInForm Two question c entry = OfRefuted question c entry (λ clauses lemmas. All (IsShort clauses) lemmas)

-- such an entry in the version's form, whose numbers are within the limits of the format
pub record IsEntryOf (version : Version) (question : Question) (x : Sexpr) (c : Context) (entry : Entry) : Type 0 where
  pub right : IsRight question x c entry
  pub fits : EntryFits version entry
  pub form : IsInForm version question c entry

-- what an entry says of the assertions
abbrev pub verdict_of : Entry → Satisfiability
verdict_of (Sat schedule) = verdict.Sat
verdict_of (Unsat lemmas) = verdict.Unsat
verdict_of (Best m schedule lemmas) = verdict.Sat
verdict_of (Unbounded values set) = verdict.Sat
