-- What a question is decided by. These are words of the code's inner contracts, and no part of the meaning.
use Rattle.std.specs.Prelude.{◌≡◌, ◌≤◌, List, [], ◌∷◌, ◌++◌, length, map, Option, Some, None, ℤ, ◌+ℤ◌}
use Rattle.smt_sexpr.specs.Tree.{Sexpr}
use Rattle.stn_core.specs.declared.literal.Literal.{Literal}
use Rattle.stn_core.specs.declared.named.NamedValue.{NamedValue}
use Rattle.stn_core.specs.declared.problem.Problem.{Problem}
use Rattle.stn_core.specs.Named.{AreWithinLimit}
use Rattle.refute_tree.specs.declared.lemma.Lemma.{Lemma}
use Rattle.trim_lemmas.specs.Trimming.{StaysRefutation, StaysOver}
use Rattle.refute_tree.specs.Trees.{IsRefutation}
use Rattle.kept_lemmas.specs.Facts.{Shelf}
use Rattle.best_values.specs.Questions.{below, Asks}
use Rattle.cert_text.specs.declared.entry.Version.{Version}
use Rattle.cert_text.specs.declared.entry.Entry.{Entry}
use Rattle.cert_text.specs.declared.entry.Entry.TheVariants.{Unsat, Best}
use Rattle.cert_text.specs.Limits.{limit}
use Rattle.idl_term.specs.Contexts.{Context}
use Rattle.smt_script.specs.declared.objective.Objective.{Objective}
use Rattle.smt_script.specs.declared.state.Question.{Question}
use Rattle.smt_script.specs.States.{State}
use Rattle.script_walk.specs.Questions.{refusal_of}
use Rattle.dtp_entry.specs.Bests.{Satisfies}
use Rattle.dtp_entry.specs.Entries.{IsProblemOf}
use Rattle.dtp_entry.specs.Transcripts.{schedule_in, Decides}
use Rattle.dtp_entry.specs.code.Asking.{IsAskedBy}
use Rattle.dtp_session.specs.declared.decision.Decision.{Decision}
use Rattle.dtp_session.specs.declared.shown.Shown.{Shown}
use Rattle.dtp_session.specs.code.Forms.{formed, schedule_shown}
use Rattle.dtp_session.specs.code.Keeping.{IsEntered, IsShownIn}

-- the question of command x is taken, and this is the problem of the assertions
pub record IsTaken (question : Question) (x : Sexpr) (s : State) (problem : Problem) : Type 0 where
  pub is_problem : IsProblemOf s.context problem
  pub asked : IsAskedBy question x s.context
  pub free : refusal_of question s x ≡ None

-- what is decided by, with the schedule that goes with it
pub record IsDecision (version : Version) (question : Question) (x : Sexpr) (c : Context) (found : Entry) (given : Option (List NamedValue)) : Type 0 where
  pub decides : Decides version question x c found
  pub same : schedule_shown given found ≡ schedule_in c found
  pub satisfies : (schedule : List NamedValue) → schedule_in c found ≡ Some schedule
      → Satisfies c schedule × AreWithinLimit schedule

-- and with the items that stand for its lemmas, behind entries that state what is on the first shelf
pub record IsDecidedBy (version : Version) (shelf : Shelf) (question : Question) (x : Sexpr) (c : Context) (decision : Decision) (now : Shelf) : Type 0 where
  pub decides : IsDecision version question x c decision.shown.found decision.given
  pub shows : IsShownIn version shelf question c decision.shown.found decision.shown.items now

-- lemmas that are kept of a refutation, with few enough of them and of clauses for an entry to name
pub record IsKeptOf (clauses : List (List Literal)) (lemmas kept : List Lemma) : Type 0 where
  pub refutes : StaysRefutation lemmas kept
  pub over : StaysOver lemmas kept
  pub few_clauses : length clauses ≤ limit
  pub few : length kept ≤ limit

-- the entry of a refutation of the problem
pub record IsShownRefuted (version : Version) (problem : Problem) (lemmas : List Lemma) (found : Entry) : Type 0 where
  pub kept : List Lemma
  pub is_kept : IsKeptOf problem.clauses lemmas kept
  pub shown : found ≡ Unsat (map (formed version problem.clauses) kept)

-- the entry of the least value of the points' difference, whose lemmas refute the problem that asks for less
pub record IsShownLeast (version : Version) (problem : Problem) (o : Objective) (schedule : List NamedValue) (difference : ℤ)
    (lemmas : List Lemma) (found : Entry) : Type 0 where
  pub question : Problem
  pub asks : Asks problem o.x o.y difference question
  pub kept : List Lemma
  pub is_kept : IsKeptOf question.clauses lemmas kept
  pub shown : found ≡ Best (difference +ℤ o.k) schedule (map (formed version question.clauses) kept)

-- the lemmas refute the problem with a value below the difference
abbrev pub RefutesLess : Problem → Objective → ℤ → List Lemma → Type 0
RefutesLess problem o difference lemmas =
    IsRefutation problem.points (problem.clauses ++ (below o.x o.y difference ∷ []) ∷ []) lemmas

-- the entry of a least value with its items
pub record IsLeastShown (version : Version) (shelf : Shelf) (problem : Problem) (o : Objective) (schedule : List NamedValue) (difference : ℤ)
    (lemmas : List Lemma) (shown : Shown) (now : Shelf) : Type 0 where
  pub least : IsShownLeast version problem o schedule difference lemmas shown.found
  pub question : Problem
  pub asks : Asks problem o.x o.y difference question
  pub entered : IsEntered version shelf question.points question.clauses shown.found shown.items now
