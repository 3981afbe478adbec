-- The script of a job shop asks once: what the least value of m is.
use Rattle.std.proofs.Common.{◌≡◌, ◌∙◌, refl, ap, arith, ℕ, ◌+◌, List, length, Option, None, Result, Ok, pos, neg_ℤ, ◌+ℤ◌}
use Rattle.std.specs.Prelude.{codes}
use Rattle.idl_linear.specs.declared.difference.Difference.{Difference}
use Rattle.idl_linear.specs.declared.error.DifferenceRefusal.{DifferenceRefusal}
use Rattle.idl_linear.specs.Linear.{point_alone}
use Rattle.idl_scope.specs.Scopes.{Declaration, Scope, linear_term}
use Rattle.idl_apply.specs.Applied.{Made}
use Rattle.idl_term.specs.Contexts.{scope_of}
use Rattle.idl_term.specs.Lowered.{lowered}
use Rattle.idl_apply.specs.declared.error.TermRefusal.{TermRefusal}
use Rattle.smt_script.specs.Commands.{command_of, naming_command, changing_command, asking_command}
use Rattle.smt_script.specs.Objectives.{objective, objective_by, minimized_by}
use Rattle.smt_script.specs.declared.objective.Objective.{Objective}
use Rattle.smt_script.specs.declared.state.Effect.TheVariants.{Ask}
use Rattle.smt_script.specs.declared.state.Question.TheVariants.{Minimize}
use Rattle.smt_script.specs.States.{State, Assumed, start_state, after, asking_for, without_assumptions}
use Rattle.script_walk.specs.Questions.{refusal_of}
use Rattle.job_shop.specs.Shops.{Shop, IsShop}
use Rattle.job_shop.specs.Scripts.{bound, terms_of, minimize, commands_before, script}
use Rattle.script_law.specs.Told.{step_of, AsksOnce}
use Rattle.script_law.proofs.Leading.{tells_of}
use Rattle.script_law.proofs.Lowering.{near_pos, point_number, point_short, short_difference}
use Rattle.script_law.proofs.States.{IsReady, ints_length, scope_is, scope_with}
use Rattle.shop_law.proofs.Accepted.{all_names, few_names, m_point, ready}
use Rattle.shop_law.proofs.Widths.{objective_fits}
use Rattle.shop_law.proofs.Writable.{lines}

-- the value of the name at this place
abbrev objective_at : ℕ → Objective
objective_at place =
    objective (record { x = (point_short (place + 1)).ends.0; y = (point_short (place + 1)).ends.1; n = neg_ℤ (pos 0 +ℤ (neg_ℤ (pos 0) +ℤ pos 0)) })

asks_by : (t : State) (place : ℕ) → lowered (scope_of t.context) t.context.nodes bound ≡ Ok (record { nodes = t.context.nodes; is = linear_term (point_alone (place + 1)) }) → t.assumed ≡ None
    → after t minimize ≡ Ok (step_of t (Ask (Minimize (objective_at place))))
unfolding after command_of naming_command changing_command asking_command
asks_by t place e alone =
    ap (λ (r : Result Made TermRefusal). asking_for t (minimized_by r)) e
    ∙ ap (λ (r : Result Difference DifferenceRefusal). asking_for t (objective_by r)) (short_difference (point_alone (place + 1)) (pos 0) (point_short (place + 1)) (near_pos 0 (omega arith)))
    ∙ ap (λ (a : Option Assumed). Ok (step_of (without_assumptions t a) (Ask (Minimize (objective_at place))))) alone

module _ (s : Shop) (is : IsShop s) where
  abbrev pub asked_in : State
  asked_in = (ready s is).t

  holds : IsReady (all_names s is) (terms_of s) 1000000 asked_in
  holds = (ready s is).holds

  bound_made : lowered (scope_of asked_in.context) asked_in.context.nodes bound ≡ Ok (record { nodes = asked_in.context.nodes; is = linear_term (point_alone ((m_point s is).at + 1)) })
  unfolding bound
  bound_made =
      ap (λ (names : Scope). lowered names asked_in.context.nodes bound) (scope_is (all_names s is) (terms_of s) 1000000 asked_in holds)
      ∙ point_number (scope_with (all_names s is)) asked_in.context.nodes (codes "m") (m_point s is).at (m_point s is).is

  abbrev pub objective_asked : Objective
  objective_asked = objective_at (m_point s is).at

  free : refusal_of (Minimize objective_asked) asked_in minimize ≡ None
  free =
      let names : length asked_in.context.declared ≡ length (all_names s is) = ap (λ (ds : List Declaration). length ds) holds.declared ∙ ints_length (all_names s is) in
      objective_fits asked_in.context holds.near (omega (arith, names, few_names s is)) (omega (arith, holds.few))

  pub asks_once : AsksOnce (script s) (commands_before s) minimize (Minimize objective_asked) asked_in
  unfolding script
  asks_once = record {
    text = refl;
    lines = lines s is;
    tells = tells_of (commands_before s) start_state (ready s is).t (ready s is).tells;
    asks = asks_by asked_in (m_point s is).at bound_made holds.alone;
    taken = free;
  }
