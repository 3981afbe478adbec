-- What is active came about by declarations, definitions and assertions, whatever the commands were.
use Rattle.std.proofs.Common.{refl, sym, subst, arith, ◌≡◌, ◌<◌, ◌+◌, ◌-◌, ◌++◌, ◌||◌, ℕ, zero, suc, List, [], ◌∷◌, length, take, replicate, get_or, Bool, true, false, Option, Some, None, Result, Ok, Err, nat_le, nat_lt}
use Rattle.std.specs.Prelude.{if◌then◌else◌}
use Rattle.std.specs.List.{AllByRecursion}
use Rattle.std.proofs.lemmas.Bool.Decides.{nat_tests}
use Rattle.idl_node.specs.Nodes.{NodeValue}
use Rattle.idl_node.specs.declared.sort.Sort.{Sort}
use Rattle.smt_sexpr.specs.Tree.{Sexpr, Items, none, more}
use Rattle.idl_apply.specs.Applied.{Made}
use Rattle.idl_term.specs.Contexts.{Context, scope_of, with_assertion, IsFree, IsContext, start, declares, defines, asserts, names}
use Rattle.idl_term.specs.Limits.{names_limit}
use Rattle.idl_term.specs.Lowered.{lowered}
use Rattle.idl_apply.specs.Operators.{is_reserved}
use Rattle.idl_term.specs.Scopes.{LoweredTerm, formula, numeric, is_known}
use Rattle.idl_apply.specs.declared.error.TermRefusal.{TermRefusal}
use Rattle.smt_script.specs.Commands
use Rattle.smt_script.specs.Commands.{Command, command_of}
use Rattle.smt_script.specs.Limits.{levels_limit}
use Rattle.smt_script.specs.Objectives.{minimized_by}
use Rattle.smt_script.specs.Options.{OptionEffect, printing_success, no_effect, not_supported, ill_formed_value, option_effect}
use Rattle.smt_script.specs.States.{State, Step, start_state, carried_out, is_of_sort, is_taken, sort_of, with_model, with_proof, with_core, telling, asking_for, valued_by, informed_by, after_logic, after_option, after_declaration, defined_by, after_definition, asserted, asserted_by, named_by, after_push, popped, after_pop, Assumed, without_assumptions, unassumed, assumed_by, with_assumptions, assuming_by, count_of, with_assumed, after_command, after_by, after, released, active_by, settled, IsMadeState}
use Rattle.smt_script.specs.Informing.{information_of}
use Rattle.smt_script.specs.declared.information.Information.{Information}
use Rattle.smt_script.specs.declared.objective.Objective.{Objective}
use Rattle.smt_script.specs.declared.state.Mode.{Mode}
use Rattle.smt_script.specs.declared.state.Notice.{Notice}
use Rattle.smt_script.specs.declared.error.Refusal.{Refusal}
use Rattle.smt_script.specs.declared.state.Effect.{Effect}
use Rattle.smt_script.specs.declared.state.Mode.TheVariants as mode
use Rattle.smt_script.specs.declared.state.Satisfiability.{Satisfiability}
use Rattle.smt_script.specs.declared.state.Satisfiability.TheVariants as verdict

-- a step that leads to a made state, where it leads to one
abbrev LeadsWell : Result Step Refusal → Type 0
LeadsWell result = (step : Step) → result ≡ Ok step → IsMadeState step.state

leads_to : (t : State) (effect : Effect) → IsMadeState t → LeadsWell (Ok (record { state = t; effect = effect }))
leads_to t effect h step e =
    let same : ◌≡◌ {A = Step} (record { state = t; effect = effect }) step = cc in
    subst (λ (k : Step). IsMadeState k.state) same h

refuses : (why : Refusal) → LeadsWell (Err why)
refuses why step e = absurd cc

leads_if : (test : Bool) (first second : Result Step Refusal) → (test ≡ true → LeadsWell first) → (test ≡ false → LeadsWell second) → LeadsWell (if test then first else second)
leads_if true first second h k = h refl
leads_if false first second h k = k refl

neither : (a b : Bool) → (a || b) ≡ false → (a ≡ false) × (b ≡ false)
neither true b e = absurd cc
neither false b e = (refl, e)

free_by : (c : Context) (name : List ℕ) → is_taken c name ≡ false → IsFree c name
free_by c name e = let n = neither (is_reserved name) (is_known (scope_of c) name) e in record { reserved = n.0; known = n.1 }

-- ---- levels

all_added : (n : ℕ) (c : Context) (below : List Context) → IsContext c → AllByRecursion IsContext below → AllByRecursion IsContext (below ++ replicate n c)
all_added zero c [] h all = tt
all_added (suc n) c [] h all = (h, all_added n c [] h tt)
all_added n c (d ∷ below) h all = (all.0, all_added n c below h all.1)

all_taken : (i : ℕ) (below : List Context) → AllByRecursion IsContext below → AllByRecursion IsContext (take i below)
all_taken zero below all = tt
all_taken (suc i) [] all = tt
all_taken (suc i) (d ∷ below) all = (all.0, all_taken i below all.1)

one_of_all : (i : ℕ) (c : Context) (below : List Context) → IsContext c → AllByRecursion IsContext below → IsContext (get_or below i c)
one_of_all i c [] h all = h
one_of_all zero c (d ∷ below) h all = all.0
one_of_all (suc i) c (d ∷ below) h all = one_of_all i c below h all.1

-- ---- assumptions

module _ (c : Context) (t : Sexpr) (ts : Items) (h : IsContext c) (others : (d : Context) → IsContext d → (asked : Context) → with_assumptions d ts ≡ Ok asked → IsContext asked) (asked : Context) where
  one_asked : (nodes : List NodeValue) (is : LoweredTerm) → lowered (scope_of c) c.nodes t ≡ Ok (record { nodes = nodes; is = is })
      → assumed_by c t (Ok (record { nodes = nodes; is = is })) (λ (next : Context). with_assumptions next ts) ≡ Ok asked → IsContext asked
  one_asked nodes (formula root) made e = others (with_assertion c t nodes root) (asserts c t nodes root h made) asked e
  one_asked nodes (numeric cases) made e = absurd cc

  first_asked : (found : Result Made TermRefusal) → lowered (scope_of c) c.nodes t ≡ found → assumed_by c t found (λ (next : Context). with_assumptions next ts) ≡ Ok asked → IsContext asked
  first_asked (Err why) made e = absurd cc
  first_asked (Ok m) made e = one_asked m.nodes m.is made e

asked_made : (c : Context) (ts : Items) → IsContext c → (asked : Context) → with_assumptions c ts ≡ Ok asked → IsContext asked
asked_made c none h asked e = let same : c ≡ asked = cc in subst IsContext same h
asked_made c (more t ts) h asked e = first_asked c t ts h (λ d k a f. asked_made d ts k a f) asked (lowered (scope_of c) c.nodes t) refl e

-- ---- commands

module _ (s : State) (h : IsMadeState s) where
  logic_made : (x : Sexpr) → LeadsWell (after_logic s x)
  logic_made x = leads_if _ _ _ (λ e. leads_to s _ h) (λ e. refuses _)

  option_made : (effect : OptionEffect) → LeadsWell (after_option s effect)
  option_made (printing_success on) = leads_to (record s { print_success = on }) _ (record { context = h.context; below = h.below; active = h.active })
  option_made no_effect = leads_to s _ h
  option_made not_supported = leads_to s _ h
  option_made ill_formed_value = refuses _

  asserted_made : (c : Context) (label : Option (List ℕ)) → IsContext c → LeadsWell (asserted s c label)
  asserted_made c label k = leads_to (record s { context = c; labels = s.labels ++ label ∷ []; mode = mode.Nothing; assumed = None }) _ (record { context = k; below = h.below; active = k })

  changed_made : (c : Context) → IsContext c → LeadsWell (carried_out (record s { context = c; mode = mode.Nothing; assumed = None }))
  changed_made c k = leads_to (record s { context = c; mode = mode.Nothing; assumed = None }) _ (record { context = k; below = h.below; active = k })

  declaration_made : (name : List ℕ) (parameters : Items) (found : Option Sort) → LeadsWell (after_declaration s name parameters found)
  declaration_made name (more x xs) found = refuses _
  declaration_made name none None = refuses _
  declaration_made name none (Some sort) =
      leads_if (is_taken s.context name) _ _ (λ e. refuses _) (λ free.
      leads_if (nat_lt (length s.context.declared) names_limit) _ _ (λ few.
      let room : length s.context.declared < names_limit = grind (arith, nat_tests, few) in
      changed_made _ (declares s.context name sort h.context (free_by s.context name free) room))
      (λ e. refuses _))

  defined_made : (name : List ℕ) (sort : Sort) (t : Sexpr) (made : Result Made TermRefusal) → lowered (scope_of s.context) s.context.nodes t ≡ made → is_taken s.context name ≡ false → LeadsWell (defined_by s name sort t made)
  defined_made name sort t (Err why) e free = refuses _
  defined_made name sort t (Ok made) e free = leads_if (is_of_sort sort made.is) _ _ (λ k. changed_made _ (defines s.context name t made h.context (free_by s.context name free) e)) (λ k. refuses _)

  definition_made : (name : List ℕ) (parameters : Items) (found : Option Sort) (t : Sexpr) → LeadsWell (after_definition s name parameters found t)
  definition_made name (more x xs) found t = refuses _
  definition_made name none None t = refuses _
  definition_made name none (Some sort) t = leads_if (is_taken s.context name) _ _ (λ e. refuses _) (λ free. defined_made name sort t _ refl free)

  assertion_by : (t : Sexpr) (nodes : List NodeValue) (is : LoweredTerm) → lowered (scope_of s.context) s.context.nodes t ≡ Ok (record { nodes = nodes; is = is }) → LeadsWell (asserted_by s t (Ok (record { nodes = nodes; is = is })))
  assertion_by t nodes (formula root) e = asserted_made _ None (asserts s.context t nodes root h.context e)
  assertion_by t nodes (numeric cases) e = refuses _

  assertion_made : (t : Sexpr) (made : Result Made TermRefusal) → lowered (scope_of s.context) s.context.nodes t ≡ made → LeadsWell (asserted_by s t made)
  assertion_made t (Err why) e = refuses _
  assertion_made t (Ok made) e = assertion_by t made.nodes made.is e

  naming_by : (t : Sexpr) (name : List ℕ) (nodes : List NodeValue) (is : LoweredTerm) → lowered (scope_of s.context) s.context.nodes t ≡ Ok (record { nodes = nodes; is = is }) → LeadsWell (named_by s t name (Ok (record { nodes = nodes; is = is })))
  naming_by t name nodes (formula root) e =
      leads_if (is_taken s.context name) _ _ (λ k. refuses _) (λ free. asserted_made _ (Some name) (names s.context name t nodes root h.context (free_by s.context name free) e))
  naming_by t name nodes (numeric cases) e = refuses _

  naming_made : (t : Sexpr) (name : List ℕ) (made : Result Made TermRefusal) → lowered (scope_of s.context) s.context.nodes t ≡ made → LeadsWell (named_by s t name made)
  naming_made t name (Err why) e = refuses _
  naming_made t name (Ok made) e = naming_by t name made.nodes made.is e

  push_made : (n : ℕ) → LeadsWell (after_push s n)
  push_made n = leads_if (nat_le (length s.below + n) levels_limit) _ _ (λ e. leads_to _ _ (record { context = h.context; below = all_added n s.context s.below h.context h.below; active = h.context })) (λ e. refuses _)

  pop_made : (n : ℕ) → LeadsWell (after_pop s n)
  pop_made n =
      leads_if (nat_le n (length s.below)) _ _
      (λ e. (
      let at = one_of_all (length s.below - n) s.context s.below h.context h.below in
      leads_to (popped s n) _ (record { context = at; below = all_taken (length s.below - n) s.below h.below; active = at })))
      (λ e. refuses _)

  telling_made : (notice : Notice) → LeadsWell (telling s notice)
  telling_made notice = leads_to s _ h

  model_made : (m : Mode) (found : Result Step Refusal) → LeadsWell found → LeadsWell (with_model m found)
  model_made mode.Sat found well = well
  model_made mode.Unsat found well = refuses _
  model_made mode.Nothing found well = refuses _

  proof_made : (m : Mode) (found : Result Step Refusal) → LeadsWell found → LeadsWell (with_proof m found)
  proof_made mode.Unsat found well = well
  proof_made mode.Sat found well = refuses _
  proof_made mode.Nothing found well = refuses _

  core_made : (m : Mode) (found : Result Step Refusal) → LeadsWell found → LeadsWell (with_core m found)
  core_made mode.Unsat found well = well
  core_made mode.Sat found well = refuses _
  core_made mode.Nothing found well = refuses _

  assumed_made : (m : Mode) (assumed : Option Assumed) (found : Result Step Refusal) → LeadsWell found → LeadsWell (with_assumed m assumed found)
  assumed_made mode.Unsat (Some assumed) found well = well
  assumed_made mode.Unsat None found well = refuses _
  assumed_made mode.Sat assumed found well = refuses _
  assumed_made mode.Nothing assumed found well = refuses _

  unassumed_by : (assumed : Option Assumed) → IsMadeState (without_assumptions s assumed)
  unassumed_by None = h
  unassumed_by (Some assumed) = record { context = h.context; below = h.below; active = h.context }

  unassumed_made : IsMadeState (unassumed s)
  unassumed_made = unassumed_by s.assumed

  assuming_made : (literals : Items) (found : Result Context Refusal) → with_assumptions s.context literals ≡ found → LeadsWell (assuming_by s literals found)
  assuming_made literals (Err why) e = refuses why
  assuming_made literals (Ok asked) e =
      leads_to
      (record s { context = asked; labels = s.labels ++ replicate (count_of literals) None; mode = mode.Nothing; assumed = Some (record { literals = literals; active = s.context; asked = asked }) })
      _ (record { context = asked_made s.context literals h.context asked e; below = h.below; active = h.context })

  asking_made : (found : Result Objective Refusal) → LeadsWell (asking_for s found)
  asking_made (Ok o) = leads_to (unassumed s) _ unassumed_made
  asking_made (Err why) = refuses why

  valued_made : (found : Option TermRefusal) → LeadsWell (valued_by s found)
  valued_made (Some why) = refuses _
  valued_made None = leads_to s _ h

  informed_made : (found : Option Information) → LeadsWell (informed_by s found)
  informed_made (Some information) = leads_to s _ h
  informed_made None = leads_to s _ h

  command_made : (command : Command) → LeadsWell (after_command s command)
  command_made (Commands.setting_logic logic) = logic_made logic
  command_made (Commands.setting_option keyword v) = option_made (option_effect keyword v)
  command_made Commands.informing = leads_to s _ h
  command_made (Commands.declaring name parameters sort) = declaration_made name parameters (sort_of sort)
  command_made (Commands.defining name parameters sort t) = definition_made name parameters (sort_of sort) t
  command_made (Commands.asserting t) = assertion_made t _ refl
  command_made (Commands.naming t name) = naming_made t name _ refl
  command_made (Commands.pushing n) = push_made n
  command_made (Commands.popping n) = pop_made n
  command_made Commands.checking = leads_to (unassumed s) _ unassumed_made
  command_made (Commands.assuming literals) = assuming_made literals _ refl
  command_made (Commands.minimizing t) = asking_made (minimized_by (lowered (scope_of s.context) s.context.nodes t))
  command_made Commands.asking_model = model_made s.mode _ (telling_made _)
  command_made (Commands.asking_values terms) = model_made s.mode _ (valued_made _)
  command_made Commands.asking_proof = proof_made s.mode _ (telling_made _)
  command_made Commands.asking_core = core_made s.mode _ (telling_made _)
  command_made Commands.asking_assumptions = assumed_made s.mode s.assumed _ (telling_made _)
  command_made (Commands.asking_information keyword) = informed_made (information_of keyword)
  command_made (Commands.echoing text) = telling_made _
  command_made Commands.resetting_assertions = leads_to _ _ (record { context = start; below = tt; active = start })
  command_made Commands.resetting = leads_to start_state _ (record { context = start; below = tt; active = start })
  command_made Commands.exiting = leads_to s _ h
  command_made Commands.unsupported = leads_to s _ h

  meant_made : (meant : Result Command Refusal) → LeadsWell (after_by s meant)
  meant_made (Ok command) = command_made command
  meant_made (Err why) = refuses why

pub start_made : IsMadeState start_state
start_made = record { context = start; below = tt; active = start }

pub step_made : (s : State) (x : Sexpr) (step : Step) → IsMadeState s → after s x ≡ Ok step → IsMadeState step.state
unfolding after
step_made s x step h e = meant_made s h (command_of x) step e

module _ (s : State) (h : IsMadeState s) (m : Mode) where
  settled_by : (assumed : Option Assumed) → s.assumed ≡ assumed → IsMadeState (record (released s assumed) { mode = m })
  settled_by None e = record { context = h.context; below = h.below; active = h.active }
  settled_by (Some assumed) e =
      let active : IsContext assumed.active = subst (λ (k : Option Assumed). IsContext (active_by s.context k)) e h.active in
      record { context = active; below = h.below; active = subst (λ (k : Option Assumed). IsContext (active_by assumed.active k)) (sym e) active }

pub settled_made : (s : State) (v : Satisfiability) → IsMadeState s → IsMadeState (settled v s)
settled_made s verdict.Sat h = settled_by s h mode.Sat s.assumed refl
settled_made s verdict.Unsat h = settled_by s h mode.Unsat s.assumed refl
