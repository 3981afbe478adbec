-- What holds of the commands and states of every script.
use Rattle.std.specs.Prelude.{◌≡◌, ◌≢◌, ◌↔◌, ◌⊎◌, Ok, None, Some, true, false}
use Rattle.smt_sexpr.specs.Tree.{Sexpr}
use Rattle.idl_term.specs.Contexts.{scope_of}
use Rattle.smt_script.specs.Commands.{is_exit, asked_terms, asks_verdict, minimized}
use Rattle.smt_script.specs.Objectives.{IsObjectiveOf}
use Rattle.smt_script.specs.States.{State, start_state, Step, IsMadeState, after, terms_refusal, settled, asked_of}
use Rattle.smt_script.specs.declared.objective.Objective.{Objective}
use Rattle.smt_script.specs.declared.state.Effect.TheVariants.{Ask, Exit, Tell}
use Rattle.smt_script.specs.declared.state.Mode.TheVariants as mode
use Rattle.smt_script.specs.declared.state.Notice.TheVariants.{Model, Values, Proof, Core, Assumptions}
use Rattle.smt_script.specs.declared.state.Question.{Question}
use Rattle.smt_script.specs.declared.state.Question.TheVariants.{Minimize}
use Rattle.smt_script.specs.declared.state.Satisfiability.{Satisfiability}

-- What is active came about by declarations, definitions and assertions: at the start, behind each command, and behind
-- each verdict.
abbrev pub StartMade : Type 0
StartMade = IsMadeState start_state

abbrev pub StepMade : Type 0
StepMade =
    (s : State) (x : Sexpr) (step : Step) → IsMadeState s → after s x ≡ Ok step → IsMadeState step.state

abbrev pub SettledMade : Type 0
SettledMade = (s : State) (verdict : Satisfiability) → IsMadeState s → IsMadeState (settled verdict s)

-- a command that is carried out ends the script exactly where it is `(exit)`
abbrev pub OnlyExitEnds : Type 0
OnlyExitEnds =
    (s : State) (x : Sexpr) (step : Step) → after s x ≡ Ok step → (step.effect ≡ Exit ↔ is_exit x ≡ true)

-- `(exit)` is carried out in every state, and leaves it as it is
abbrev pub ExitIsCarriedOut : Type 0
ExitIsCarriedOut =
    (s : State) (x : Sexpr) → is_exit x ≡ true → after s x ≡ Ok (record { state = s; effect = Exit })

-- a command sets the mode to none, or it leaves mode, context and what was assumed as they are
abbrev pub ModeIsKept : Type 0
ModeIsKept =
    (s : State) (x : Sexpr) (step : Step) → after s x ≡ Ok step
    → (step.state.mode ≡ mode.Nothing) ⊎ ((step.state.mode ≡ s.mode) × (step.state.context ≡ s.context) × (step.state.assumed ≡ s.assumed))

-- a model is told behind a `sat` alone, and so are values, of terms that are all accepted; a proof is told behind an `unsat` alone,
-- and so is a core
abbrev pub ModelNeedsSat : Type 0
ModelNeedsSat =
    (s : State) (x : Sexpr) (step : Step) → after s x ≡ Ok step → step.effect ≡ Tell Model
    → step.state.mode ≡ mode.Sat

abbrev pub ValuesNeedSat : Type 0
ValuesNeedSat =
    (s : State) (x : Sexpr) (step : Step) → after s x ≡ Ok step → step.effect ≡ Tell Values
    → (step.state.mode ≡ mode.Sat)
    × (terms_refusal (scope_of step.state.context) step.state.context.nodes (asked_terms x) ≡ None)

abbrev pub ProofNeedsUnsat : Type 0
ProofNeedsUnsat =
    (s : State) (x : Sexpr) (step : Step) → after s x ≡ Ok step → step.effect ≡ Tell Proof
    → step.state.mode ≡ mode.Unsat

abbrev pub CoreNeedsUnsat : Type 0
CoreNeedsUnsat =
    (s : State) (x : Sexpr) (step : Step) → after s x ≡ Ok step → step.effect ≡ Tell Core
    → step.state.mode ≡ mode.Unsat

-- what was assumed is told behind the `unsat` of a check-sat-assuming alone
abbrev pub AssumptionsNeedUnsat : Type 0
AssumptionsNeedUnsat =
    (s : State) (x : Sexpr) (step : Step) → after s x ≡ Ok step → step.effect ≡ Tell Assumptions
    → (step.state.mode ≡ mode.Unsat) × (step.state.assumed ≢ None)

-- a question is of what is active, assumptions with the rest, and where there are any there is no mode
abbrev pub QuestionsOfActive : Type 0
QuestionsOfActive =
    (s : State) (x : Sexpr) (step : Step) (question : Question) → after s x ≡ Ok step → step.effect ≡ Ask question
    → (asked_of step.state ≡ step.state.context) × ((step.state.assumed ≡ None) ⊎ (step.state.mode ≡ mode.Nothing))

-- where the least value of an objective is asked for, the command is a `minimize`, and its term is worth the objective
abbrev pub MinimizedIsWorth : Type 0
MinimizedIsWorth =
    (s : State) (x : Sexpr) (step : Step) (o : Objective) → IsMadeState s → after s x ≡ Ok step → step.effect ≡ Ask (Minimize o)
    → (t : Sexpr) × (minimized x ≡ Some t) × IsObjectiveOf step.state.context t o

-- these are told of a command that asks for them, and of no other
abbrev pub AskedIsTold : Type 0
AskedIsTold =
    (s : State) (x : Sexpr) (step : Step) → after s x ≡ Ok step → asks_verdict x ≡ false
    → ¬ ((step.effect ≡ Tell Model) ⊎ ((step.effect ≡ Tell Values) ⊎ ((step.effect ≡ Tell Proof) ⊎ ((step.effect ≡ Tell Core) ⊎ (step.effect ≡ Tell Assumptions)))))
