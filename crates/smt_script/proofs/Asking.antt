-- What a `minimize` asks, by what is kept.
use Rattle.std.proofs.Common.{refl, ap, sym, subst, ◌∙◌, ◌≡◌, Option, Some, Result, Ok, Err, pos}
use Rattle.smt_sexpr.specs.Tree.{Sexpr}
use Rattle.idl_linear.specs.Differences.{difference_of}
use Rattle.idl_linear.specs.Linear.{LinearValue, number_alone}
use Rattle.idl_linear.specs.declared.difference.Difference.{Difference}
use Rattle.idl_linear.specs.declared.error.DifferenceRefusal.{DifferenceRefusal}
use Rattle.idl_apply.specs.Applied.{Made}
use Rattle.idl_apply.specs.Comparing.{refusal_of}
use Rattle.idl_term.specs.Lowered.{lowered}
use Rattle.idl_apply.specs.declared.error.TermError.{TermError}
use Rattle.idl_apply.specs.declared.error.TermRefusal.{TermRefusal}
use Rattle.smt_script.specs.Commands.{checking}
use Rattle.smt_script.specs.Objectives.{objective, objective_by, objective_of_linear, minimized_by}
use Rattle.smt_script.specs.States.{State, unassumed, asking_for, after_minimizing, after_command}
use Rattle.smt_script.specs.code.Kept.{Kept, StandsFor}
use Rattle.smt_script.specs.code.Shapes.{Agrees, ObjectiveIs}
use Rattle.smt_script.specs.declared.error.Refusal.{Refusal}
use Rattle.smt_script.specs.declared.error.Refusal.TheVariants.{Term}
use Rattle.smt_script.specs.declared.error.ScriptError.{ScriptError}
use Rattle.smt_script.specs.declared.error.ScriptError.TheVariants.{OutOfMemory, Refused}
use Rattle.smt_script.specs.declared.objective.Objective.{Objective}
use Rattle.smt_script.specs.declared.state.Effect.{Effect}
use Rattle.smt_script.specs.declared.state.Effect.TheVariants.{Ask}
use Rattle.smt_script.specs.declared.state.Question.TheVariants.{CheckSat, Minimize}
use Rattle.smt_script.proofs.Stepping.{term_same}

-- ---- a term without conditions, compared with 0

module _ (found : Option LinearValue) (l zero : LinearValue) (is : Some l ≡ found) (nothing : zero ≡ number_alone (pos 0)) where
  compared_as : (r : Result Difference DifferenceRefusal) → difference_of l zero ≡ r → objective_of_linear found ≡ objective_by r
  compared_as r e = ap objective_of_linear (sym is) ∙ ap (λ (z : LinearValue). objective_by (difference_of l z)) (sym nothing) ∙ ap objective_by e

  pub objective_found : (d : Difference) → difference_of l zero ≡ Ok d → objective_of_linear found ≡ Ok (objective d)
  objective_found d e = compared_as (Ok d) e

  pub objective_missing : (why : DifferenceRefusal) (error : ScriptError) → difference_of l zero ≡ Err why → error ≡ Refused (Term (refusal_of why)) → ObjectiveIs (objective_of_linear found) (Err error)
  objective_missing why error e from = subst (λ (w : ScriptError). ObjectiveIs (objective_of_linear found) (Err w)) (sym from) (compared_as (Err why) e)

-- ---- the term of a command

-- ---- `check-sat`

pub checking_asked : (s : State) (new : Kept) (effect : Effect) → effect ≡ Ask CheckSat → StandsFor new (unassumed s) → Agrees (after_command s checking) new (Ok effect)
checking_asked s new effect asks stands = subst (λ (answer : Effect). Agrees (after_command s checking) new (Ok answer)) (sym asks) (unassumed s, refl, stands)

-- ---- `minimize`

module _ (kept : Kept) (s : State) (h : StandsFor kept s) (t : Sexpr) where
  minimizing_is : (r : Result Objective Refusal) → minimized_by (lowered kept.scope kept.nodes t) ≡ r → after_minimizing s t ≡ asking_for s r
  minimizing_is r e = ap (λ (found : Result Made TermRefusal). asking_for s (minimized_by found)) (term_same kept s h t) ∙ ap (asking_for s) e

  pub minimum_asked : (new : Kept) (effect : Effect) (o : Objective) → effect ≡ Ask (Minimize o) → StandsFor new (unassumed s) → ObjectiveIs (minimized_by (lowered kept.scope kept.nodes t)) (Ok o)
      → Agrees (after_minimizing s t) new (Ok effect)
  minimum_asked new effect o asks stands e = subst (λ (answer : Effect). Agrees (after_minimizing s t) new (Ok answer)) (sym asks) (unassumed s, minimizing_is (Ok o) e, stands)

  pub minimum_refused : (error : ScriptError) → ObjectiveIs (minimized_by (lowered kept.scope kept.nodes t)) (Err error) → Agrees (after_minimizing s t) kept (Err error)
  minimum_refused OutOfMemory e = tt
  minimum_refused (Refused why) e = minimizing_is (Err why) e
