-- A question that was asked in a state that the code keeps.
-- These are words of the code's inner contracts, and no part of the meaning.
use Rattle.std.specs.Prelude.{◌≡◌, List, [], ◌∷◌, ◌++◌, Result, Ok, Err, Some, None, ℤ}
use Rattle.smt_sexpr.specs.Tree.{Sexpr}
use Rattle.stn_core.specs.declared.literal.Literal.{Literal}
use Rattle.stn_core.specs.declared.named.NamedValue.{NamedValue}
use Rattle.best_values.specs.Questions.{below}
use Rattle.best_values.specs.Widths.{IsWithinLimit}
use Rattle.idl_term.specs.Contexts.{Context}
use Rattle.smt_script.specs.code.Kept.{Kept}
use Rattle.smt_script.specs.declared.objective.Objective.{Objective}
use Rattle.smt_script.specs.declared.state.Effect.TheVariants.{Ask}
use Rattle.smt_script.specs.declared.state.Question.{Question}
use Rattle.smt_script.specs.States.{State, IsMadeState, after}
use Rattle.script_walk.specs.code.Standing.{Stands}
use Rattle.dtp_entry.specs.Entries.{problem_of, difference_at}
use Rattle.dtp_check.specs.declared.judgement.EntryFlaw.{EntryFlaw}
use Rattle.dtp_check.specs.Judged.{least_flaw}

-- command x asked the question, and led to a state that is kept so
pub record IsAsked (kept : Kept) (question : Question) (x : Sexpr) (s : State) : Type 0 where
  pub stands : Stands kept s
  pub before : State
  pub made : IsMadeState before
  pub asks : after before x ≡ Ok (record { state = s; effect = Ask question })

-- the clause form, and behind it the clause that the objective's difference is below this
abbrev pub asked_clauses : Context → Objective → ℤ → List (List Literal)
asked_clauses c o d = problem_of c ++ (below o.x o.y d ∷ []) ∷ []

-- what was found of a best entry's value and of its schedule: the value of the objective's difference, or what is wrong
abbrev pub IsLeastFound : Sexpr → Objective → Context → ℤ → List NamedValue → Result ℤ EntryFlaw → Type 0
IsLeastFound x o c m values (Ok d) = (least_flaw x o c m values ≡ None) × (d ≡ difference_at o m) × IsWithinLimit d
IsLeastFound x o c m values (Err flaw) = least_flaw x o c m values ≡ Some flaw
