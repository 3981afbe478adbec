-- What the code holds of the problem of a script's assertions, which is made once as long as nothing is changed.
-- These are words of the code's inner contracts, and no part of the meaning.
use Rattle.std.specs.Prelude.{◌≡◌, ◌≢◌, Option, IfSome}
use Rattle.stn_core.specs.declared.problem.Problem.{Problem}
use Rattle.smt_script.specs.declared.state.Mode.TheVariants as mode
use Rattle.smt_script.specs.code.Kept.{Kept}
use Rattle.smt_script.specs.States.{State}
use Rattle.script_walk.specs.code.Standing.{Stands}
use Rattle.dtp_entry.specs.Entries.{points_of, problem_of}
use Rattle.dtp_check.specs.declared.judge.Progress.{Progress}
use Rattle.dtp_check.specs.declared.judge.Progress.TheVariants.{Going, Judged}

-- the problem of what is asserted, in each state that the code keeps so
abbrev pub IsProblemOf : Kept → Problem → Type 0
IsProblemOf kept problem =
    (s : State) → Stands kept s → (problem.points ≡ points_of s.context) × (problem.clauses ≡ problem_of s.context)

-- what was made, if it was, is that problem
abbrev pub IsMadeOf : Kept → Option Problem → Type 0
IsMadeOf kept made = IfSome made (IsProblemOf kept)

-- it is so unless something was changed since the last question
abbrev pub IsMadeStill : Kept → Option Problem → Type 0
IsMadeStill kept made = kept.mode ≢ mode.Nothing → IsMadeOf kept made

-- the script goes on
abbrev pub GoesOn : Progress → Type 0
GoesOn Going = Unit {0}
GoesOn (Judged judgement) = ⊥
