-- What a command leads to: it leaves the mode and what it stands for as they are, or sets the mode to none; what it may
-- tell; and it ends the script where it is `(exit)`, and nowhere else.
use Rattle.std.proofs.Common.{refl, sym, ap, subst, inl, inr, ◌∙◌, ◌≡◌, ◌≢◌, ◌+◌, ◌⊎◌, ℕ, List, length, Bool, true, false, Option, Some, None, Result, Ok, Err}
use Rattle.std.specs.Prelude.{if◌then◌else◌, nat_le, nat_lt, codes}
use Rattle.smt_sexpr.specs.Tree.{Sexpr, Items, none, more}
use Rattle.smt_sexpr.specs.Shapes.{is_symbol}
use Rattle.idl_node.specs.declared.sort.Sort.{Sort}
use Rattle.idl_apply.specs.Applied.{Made}
use Rattle.idl_term.specs.Contexts.{Context, scope_of}
use Rattle.idl_term.specs.Limits.{names_limit}
use Rattle.idl_term.specs.Lowered.{lowered}
use Rattle.idl_term.specs.Scopes.{LoweredTerm, formula, numeric}
use Rattle.idl_apply.specs.declared.error.TermRefusal.{TermRefusal}
use Rattle.smt_script.specs.Commands
use Rattle.smt_script.specs.Commands.{Command, command_of, is_exiting, terms_in, is_asking, asks_verdict, minimized_in, minimized}
use Rattle.smt_script.specs.Informing.{information_of}
use Rattle.smt_script.specs.Laws.{OnlyExitEnds, ExitIsCarriedOut, ModeIsKept, ModelNeedsSat, ValuesNeedSat, ProofNeedsUnsat, CoreNeedsUnsat, AssumptionsNeedUnsat, QuestionsOfActive, AskedIsTold}
use Rattle.smt_script.specs.Limits.{levels_limit}
use Rattle.smt_script.specs.Objectives.{minimized_by}
use Rattle.smt_script.specs.Options.{OptionEffect, printing_success, no_effect, not_supported, ill_formed_value, option_effect}
use Rattle.smt_script.specs.States.{State, Step, Assumed, asked_by, asked_of, without_assumptions, unassumed, with_assumptions, assuming_by, with_assumed, with_model, with_proof, with_core, telling, asking_for, valued_by, informed_by, terms_refusal, after_option, is_taken, sort_of, after_declaration, is_of_sort, defined_by, after_definition, asserted_by, named_by, levels_of, after_by, after}
use Rattle.smt_script.specs.declared.error.Refusal.{Refusal}
use Rattle.smt_script.specs.declared.error.Refusal.TheVariants.{AlreadyDeclared, LogicNotSupported, TooManyNames, TooManyLevels, PopBelowTheBottom}
use Rattle.smt_script.specs.declared.information.Information.{Information}
use Rattle.smt_script.specs.declared.state.Effect.{Effect}
use Rattle.smt_script.specs.declared.state.Effect.TheVariants.{Ask, Exit, Tell}
use Rattle.smt_script.specs.declared.state.Mode.{Mode}
use Rattle.smt_script.specs.declared.state.Mode.TheVariants as mode
use Rattle.smt_script.specs.declared.state.Notice.{Notice}
use Rattle.smt_script.specs.declared.state.Question.{Question}
use Rattle.smt_script.specs.declared.state.Question.TheVariants.{CheckSat, Minimize}
use Rattle.smt_script.specs.declared.objective.Objective.{Objective}
use Rattle.smt_script.specs.declared.state.Notice.TheVariants.{Success, Unsupported, Model, Values, Proof, Core, Assumptions, Inform, Echo}

-- what may be told in a state of this mode, of a command that asks this
record MayTell (s : State) (command : Command) (notice : Notice) : Type 0 where
  model : notice ≡ Model → s.mode ≡ mode.Sat
  values : notice ≡ Values → (s.mode ≡ mode.Sat) × (terms_refusal (scope_of s.context) s.context.nodes (terms_in (Ok command)) ≡ None)
  proof : notice ≡ Proof → s.mode ≡ mode.Unsat
  core : notice ≡ Core → s.mode ≡ mode.Unsat
  assumptions : notice ≡ Assumptions → (s.mode ≡ mode.Unsat) × (s.assumed ≢ None)
  asked : is_asking (Ok command) ≡ false → (notice ≢ Model) × ((notice ≢ Values) × ((notice ≢ Proof) × ((notice ≢ Core) × (notice ≢ Assumptions))))

abbrev MayAnswer : State → Command → Effect → Type 0
MayAnswer s command (Tell notice) = MayTell s command notice
MayAnswer s command (Ask CheckSat) = (asked_of s ≡ s.context) × ((s.assumed ≡ None) ⊎ (s.mode ≡ mode.Nothing))
MayAnswer s command (Ask (Minimize o)) =
    (s.assumed ≡ None) × ((term : Sexpr) × (command ≡ Commands.minimizing term) × (minimized_by (lowered (scope_of s.context) s.context.nodes term) ≡ Ok o))
MayAnswer s command Exit = is_exiting (Ok command) ≡ true

-- what a step leads to
record Keeps (s : State) (command : Command) (step : Step) : Type 0 where
  mode : (step.state.mode ≡ mode.Nothing) ⊎ ((step.state.mode ≡ s.mode) × (step.state.context ≡ s.context) × (step.state.assumed ≡ s.assumed))
  answer : MayAnswer step.state command step.effect

abbrev KeepsBy : State → Command → Result Step Refusal → Type 0
KeepsBy s command (Ok step) = Keeps s command step
KeepsBy s command (Err why) = Unit {0}

keeps : (s : State) (command : Command) (found : Result Step Refusal) (step : Step) → KeepsBy s command found → found ≡ Ok step → Keeps s command step
keeps s command found step h e = subst (KeepsBy s command) e h

module _ (s : State) (command : Command) where
  keeps_if : (test : Bool) (found : Result Step Refusal) (why : Refusal) → KeepsBy s command found → KeepsBy s command (if test then found else Err why)
  keeps_if true found why h = h
  keeps_if false found why h = tt

  keeps_unless : (test : Bool) (found : Result Step Refusal) (why : Refusal) → KeepsBy s command found → KeepsBy s command (if test then Err why else found)
  keeps_unless true found why h = tt
  keeps_unless false found why h = h

  success_told : (t : State) → MayTell t command Success
  success_told t = record { model = λ e. absurd cc; values = λ e. absurd cc; proof = λ e. absurd cc; core = λ e. absurd cc; assumptions = λ e. absurd cc; asked = λ e. ((λ f. absurd cc), (λ f. absurd cc, (λ f. absurd cc, (λ f. absurd cc, λ f. absurd cc)))) }

  unsupported_told : (t : State) → MayTell t command Unsupported
  unsupported_told t = record { model = λ e. absurd cc; values = λ e. absurd cc; proof = λ e. absurd cc; core = λ e. absurd cc; assumptions = λ e. absurd cc; asked = λ e. ((λ f. absurd cc), (λ f. absurd cc, (λ f. absurd cc, (λ f. absurd cc, λ f. absurd cc)))) }

  inform_told : (t : State) (information : Information) → MayTell t command (Inform information)
  inform_told t information = record { model = λ e. absurd cc; values = λ e. absurd cc; proof = λ e. absurd cc; core = λ e. absurd cc; assumptions = λ e. absurd cc; asked = λ e. ((λ f. absurd cc), (λ f. absurd cc, (λ f. absurd cc, (λ f. absurd cc, λ f. absurd cc)))) }

  echo_told : (t : State) → MayTell t command Echo
  echo_told t = record { model = λ e. absurd cc; values = λ e. absurd cc; proof = λ e. absurd cc; core = λ e. absurd cc; assumptions = λ e. absurd cc; asked = λ e. ((λ f. absurd cc), (λ f. absurd cc, (λ f. absurd cc, (λ f. absurd cc, λ f. absurd cc)))) }

  -- carried out, with no mode any more
  keeps_changed : (t : State) → t.mode ≡ mode.Nothing → KeepsBy s command (Ok (record { state = t; effect = Tell Success }))
  keeps_changed t e = record { mode = inl e; answer = success_told t }

  keeps_same : (t : State) → t.mode ≡ s.mode → t.context ≡ s.context → t.assumed ≡ s.assumed → KeepsBy s command (Ok (record { state = t; effect = Tell Success }))
  keeps_same t e f g = record { mode = inr (e, f, g); answer = success_told t }

  keeps_told : (notice : Notice) → MayTell s command notice → KeepsBy s command (telling s notice)
  keeps_told notice h = record { mode = inr (refl, refl, refl); answer = h }

  option_keeps : (effect : OptionEffect) → KeepsBy s command (after_option s effect)
  option_keeps (printing_success on) = keeps_same _ refl refl refl
  option_keeps no_effect = keeps_same s refl refl refl
  option_keeps not_supported = keeps_told Unsupported (unsupported_told s)
  option_keeps ill_formed_value = tt

  declaration_keeps : (name : List ℕ) (parameters : Items) (found : Option Sort) → KeepsBy s command (after_declaration s name parameters found)
  declaration_keeps name (more x xs) found = tt
  declaration_keeps name none None = tt
  declaration_keeps name none (Some sort) = keeps_unless (is_taken s.context name) _ AlreadyDeclared (keeps_if (nat_lt (length s.context.declared) names_limit) _ TooManyNames (keeps_changed _ refl))

  defined_keeps : (name : List ℕ) (sort : Sort) (term : Sexpr) (found : Result Made TermRefusal) → KeepsBy s command (defined_by s name sort term found)
  defined_keeps name sort term (Err why) = tt
  defined_keeps name sort term (Ok made) = keeps_if (is_of_sort sort made.is) _ _ (keeps_changed _ refl)

  definition_keeps : (name : List ℕ) (parameters : Items) (found : Option Sort) (term : Sexpr) → KeepsBy s command (after_definition s name parameters found term)
  definition_keeps name (more x xs) found term = tt
  definition_keeps name none None term = tt
  definition_keeps name none (Some sort) term = keeps_unless (is_taken s.context name) _ AlreadyDeclared (defined_keeps name sort term (lowered (scope_of s.context) s.context.nodes term))

  assertion_as : (term : Sexpr) (made : Made) (is : LoweredTerm) → made.is ≡ is → KeepsBy s command (asserted_by s term (Ok made))
  assertion_as term made (formula root) e = rw e (keeps_changed _ refl)
  assertion_as term made (numeric cases) e = rw e tt

  assertion_keeps : (term : Sexpr) (found : Result Made TermRefusal) → KeepsBy s command (asserted_by s term found)
  assertion_keeps term (Err why) = tt
  assertion_keeps term (Ok made) = assertion_as term made made.is refl

  naming_as : (term : Sexpr) (name : List ℕ) (made : Made) (is : LoweredTerm) → made.is ≡ is → KeepsBy s command (named_by s term name (Ok made))
  naming_as term name made (formula root) e = rw e (keeps_unless (is_taken s.context name) _ AlreadyDeclared (keeps_changed _ refl))
  naming_as term name made (numeric cases) e = rw e tt

  naming_keeps : (term : Sexpr) (name : List ℕ) (found : Result Made TermRefusal) → KeepsBy s command (named_by s term name found)
  naming_keeps term name (Err why) = tt
  naming_keeps term name (Ok made) = naming_as term name made made.is refl

  informed_keeps : (found : Option Information) → KeepsBy s command (informed_by s found)
  informed_keeps (Some information) = keeps_told (Inform information) (inform_told s information)
  informed_keeps None = keeps_told Unsupported (unsupported_told s)

  with_model_keeps : (m : Mode) (found : Result Step Refusal) → (m ≡ mode.Sat → KeepsBy s command found) → KeepsBy s command (with_model m found)
  with_model_keeps mode.Sat found h = h refl
  with_model_keeps mode.Unsat found h = tt
  with_model_keeps mode.Nothing found h = tt

  with_proof_keeps : (m : Mode) (found : Result Step Refusal) → (m ≡ mode.Unsat → KeepsBy s command found) → KeepsBy s command (with_proof m found)
  with_proof_keeps mode.Unsat found h = h refl
  with_proof_keeps mode.Sat found h = tt
  with_proof_keeps mode.Nothing found h = tt

  with_core_keeps : (m : Mode) (found : Result Step Refusal) → (m ≡ mode.Unsat → KeepsBy s command found) → KeepsBy s command (with_core m found)
  with_core_keeps mode.Unsat found h = h refl
  with_core_keeps mode.Sat found h = tt
  with_core_keeps mode.Nothing found h = tt

  with_assumed_keeps : (m : Mode) (assumed : Option Assumed) (found : Result Step Refusal) → (m ≡ mode.Unsat → assumed ≢ None → KeepsBy s command found) → KeepsBy s command (with_assumed m assumed found)
  with_assumed_keeps mode.Unsat (Some assumed) found h = h refl (λ e. absurd cc)
  with_assumed_keeps mode.Unsat None found h = tt
  with_assumed_keeps mode.Sat assumed found h = tt
  with_assumed_keeps mode.Nothing assumed found h = tt

  assuming_keeps : (literals : Items) (found : Result Context Refusal) → KeepsBy s command (assuming_by s literals found)
  assuming_keeps literals (Err why) = tt
  assuming_keeps literals (Ok asked) = record { mode = inl refl; answer = (refl, inr refl) }

-- what nothing is assumed for is asked of what is active
nothing_assumed : (s : State) → s.assumed ≡ None → asked_of s ≡ s.context
nothing_assumed s e = ap (asked_by s.context) e

-- a question of its own
module _ (s : State) where
  abbrev StaysBy : Option Assumed → Type 0
  StaysBy a =
      ((without_assumptions s a).mode ≡ mode.Nothing)
      ⊎ (((without_assumptions s a).mode ≡ s.mode) × ((without_assumptions s a).context ≡ s.context) × ((without_assumptions s a).assumed ≡ s.assumed))

  stays_by : (a : Option Assumed) → StaysBy a
  stays_by None = inr (refl, refl, refl)
  stays_by (Some assumed) = inl refl

  gone_by : (a : Option Assumed) → s.assumed ≡ a → (without_assumptions s a).assumed ≡ None
  gone_by None e = e
  gone_by (Some assumed) e = refl

  context_by : (a : Option Assumed) → (without_assumptions s a).context ≡ s.context
  context_by None = refl
  context_by (Some assumed) = refl

model_told : (s : State) → s.mode ≡ mode.Sat → MayTell s Commands.asking_model Model
model_told s e = record { model = λ f. e; values = λ f. absurd cc; proof = λ f. absurd cc; core = λ f. absurd cc; assumptions = λ f. absurd cc; asked = λ f. absurd cc }

proof_told : (s : State) → s.mode ≡ mode.Unsat → MayTell s Commands.asking_proof Proof
proof_told s e = record { model = λ f. absurd cc; values = λ f. absurd cc; proof = λ f. e; core = λ f. absurd cc; assumptions = λ f. absurd cc; asked = λ f. absurd cc }

core_told : (s : State) → s.mode ≡ mode.Unsat → MayTell s Commands.asking_core Core
core_told s e = record { model = λ f. absurd cc; values = λ f. absurd cc; proof = λ f. absurd cc; core = λ f. e; assumptions = λ f. absurd cc; asked = λ f. absurd cc }

assumptions_told : (s : State) → s.mode ≡ mode.Unsat → s.assumed ≢ None → MayTell s Commands.asking_assumptions Assumptions
assumptions_told s e some = record { model = λ f. absurd cc; values = λ f. absurd cc; proof = λ f. absurd cc; core = λ f. absurd cc; assumptions = λ f. (e, some); asked = λ f. absurd cc }

values_keep : (s : State) (terms : Items) (found : Option TermRefusal) → terms_refusal (scope_of s.context) s.context.nodes terms ≡ found → s.mode ≡ mode.Sat → KeepsBy s (Commands.asking_values terms) (valued_by s found)
values_keep s terms (Some why) e sat = tt
values_keep s terms None e sat =
    keeps_told s (Commands.asking_values terms) Values (record { model = λ f. absurd cc; values = λ f. (sat, e); proof = λ f. absurd cc; core = λ f. absurd cc; assumptions = λ f. absurd cc; asked = λ f. absurd cc })

minimizing_keeps : (s : State) (term : Sexpr) (found : Result Objective Refusal) → minimized_by (lowered (scope_of s.context) s.context.nodes term) ≡ found → KeepsBy s (Commands.minimizing term) (asking_for s found)
minimizing_keeps s term (Ok o) e = record {
  mode = stays_by s s.assumed;
  answer = (gone_by s s.assumed refl, (term, refl, ap (λ (c : Context). minimized_by (lowered (scope_of c) c.nodes term)) (context_by s s.assumed) ∙ e));
}
minimizing_keeps s term (Err why) e = tt

command_keeps : (s : State) (command : Command) → KeepsBy s command (after_by s (Ok command))
command_keeps s (Commands.setting_logic logic) = keeps_if s _ (is_symbol (codes "QF_IDL") logic) _ LogicNotSupported (keeps_same s _ s refl refl refl)
command_keeps s (Commands.setting_option keyword v) = option_keeps s _ (option_effect keyword v)
command_keeps s Commands.informing = keeps_same s _ s refl refl refl
command_keeps s (Commands.declaring name parameters sort) = declaration_keeps s _ name parameters (sort_of sort)
command_keeps s (Commands.defining name parameters sort term) = definition_keeps s _ name parameters (sort_of sort) term
command_keeps s (Commands.asserting term) = assertion_keeps s _ term (lowered (scope_of s.context) s.context.nodes term)
command_keeps s (Commands.naming term name) = naming_keeps s _ term name (lowered (scope_of s.context) s.context.nodes term)
command_keeps s (Commands.pushing n) = keeps_if s _ (nat_le (levels_of s + n) levels_limit) _ TooManyLevels (keeps_changed s _ _ refl)
command_keeps s (Commands.popping n) = keeps_if s _ (nat_le n (levels_of s)) _ PopBelowTheBottom (keeps_changed s _ _ refl)
command_keeps s Commands.checking = record { mode = stays_by s s.assumed; answer = (nothing_assumed (unassumed s) (gone_by s s.assumed refl), inl (gone_by s s.assumed refl)) }
command_keeps s (Commands.assuming literals) = assuming_keeps s _ literals (with_assumptions s.context literals)
command_keeps s (Commands.minimizing term) = minimizing_keeps s term _ refl
command_keeps s Commands.asking_model = with_model_keeps s _ s.mode _ (λ e. keeps_told s Commands.asking_model Model (model_told s e))
command_keeps s (Commands.asking_values terms) = with_model_keeps s _ s.mode _ (λ e. values_keep s terms _ refl e)
command_keeps s Commands.asking_proof = with_proof_keeps s _ s.mode _ (λ e. keeps_told s Commands.asking_proof Proof (proof_told s e))
command_keeps s Commands.asking_core = with_core_keeps s _ s.mode _ (λ e. keeps_told s Commands.asking_core Core (core_told s e))
command_keeps s Commands.asking_assumptions = with_assumed_keeps s _ s.mode s.assumed _ (λ e some. keeps_told s Commands.asking_assumptions Assumptions (assumptions_told s e some))
command_keeps s (Commands.asking_information keyword) = informed_keeps s _ (information_of keyword)
command_keeps s (Commands.echoing text) = keeps_told s _ Echo (echo_told s _ s)
command_keeps s Commands.resetting_assertions = keeps_changed s _ _ refl
command_keeps s Commands.resetting = keeps_changed s _ _ refl
command_keeps s Commands.exiting = record { mode = inr (refl, refl, refl); answer = refl }
command_keeps s Commands.unsupported = keeps_told s _ Unsupported (unsupported_told s _ s)

-- ---- by the s-expression

record Kept (s : State) (found : Result Command Refusal) (step : Step) : Type 0 where
  command : Command
  is : found ≡ Ok command
  keeps : Keeps s command step

kept_by : (s : State) (found : Result Command Refusal) (step : Step) → after_by s found ≡ Ok step → Kept s found step
kept_by s (Err why) step e = absurd cc
kept_by s (Ok command) step e = record { command = command; is = refl; keeps = keeps s command (after_by s (Ok command)) step (command_keeps s command) e }

kept : (s : State) (x : Sexpr) (step : Step) → after s x ≡ Ok step → Kept s (command_of x) step
unfolding after
kept s x step e = kept_by s (command_of x) step e

tells : (s : State) (command : Command) (step : Step) (notice : Notice) → Keeps s command step → step.effect ≡ Tell notice → MayTell step.state command notice
tells s command step notice h e = subst (MayAnswer step.state command) e h.answer

-- the term of a command that asks for the least value of an objective
pub minimizes : (s : State) (x : Sexpr) (step : Step) (o : Objective) → after s x ≡ Ok step → step.effect ≡ Ask (Minimize o)
    → (term : Sexpr) × (minimized x ≡ Some term) × (minimized_by (lowered (scope_of step.state.context) step.state.context.nodes term) ≡ Ok o)
minimizes s x step o e f =
    let k = kept s x step e in
    let asks : MayAnswer step.state k.command (Ask (Minimize o)) = subst (MayAnswer step.state k.command) f k.keeps.answer in
    (asks.1.0, ap minimized_in (k.is ∙ ap (λ (c : Command). Ok c) asks.1.1), asks.1.2)

pub mode_is_kept : ModeIsKept
mode_is_kept s x step e = (kept s x step e).keeps.mode

pub model_needs_sat : ModelNeedsSat
model_needs_sat s x step e f =
    let k = kept s x step e in
    (tells s k.command step Model k.keeps f).model refl

pub values_need_sat : ValuesNeedSat
values_need_sat s x step e f =
    let k = kept s x step e in
    let w = (tells s k.command step Values k.keeps f).values refl in
    (w.0, ap (λ (found : Result Command Refusal). terms_refusal (scope_of step.state.context) step.state.context.nodes (terms_in found)) k.is ∙ w.1)

pub proof_needs_unsat : ProofNeedsUnsat
proof_needs_unsat s x step e f =
    let k = kept s x step e in
    (tells s k.command step Proof k.keeps f).proof refl

pub core_needs_unsat : CoreNeedsUnsat
core_needs_unsat s x step e f =
    let k = kept s x step e in
    (tells s k.command step Core k.keeps f).core refl

pub assumptions_need_unsat : AssumptionsNeedUnsat
assumptions_need_unsat s x step e f =
    let k = kept s x step e in
    (tells s k.command step Assumptions k.keeps f).assumptions refl

asks_by : (t : State) (command : Command) (question : Question) → MayAnswer t command (Ask question) → (asked_of t ≡ t.context) × ((t.assumed ≡ None) ⊎ (t.mode ≡ mode.Nothing))
asks_by t command CheckSat h = h
asks_by t command (Minimize o) h = (nothing_assumed t h.0, inl h.0)

pub questions_of_active : QuestionsOfActive
questions_of_active s x step question e f =
    let k = kept s x step e in
    asks_by step.state k.command question (subst (MayAnswer step.state k.command) f k.keeps.answer)

module _ (s : State) (x : Sexpr) (step : Step) (k : Kept s (command_of x) step) (free : asks_verdict x ≡ false) where
  not_asking : is_asking (Ok k.command) ≡ false
  not_asking = sym (ap is_asking k.is) ∙ free

  told_not : (step.effect ≡ Tell Model) ⊎ ((step.effect ≡ Tell Values) ⊎ ((step.effect ≡ Tell Proof) ⊎ ((step.effect ≡ Tell Core) ⊎ (step.effect ≡ Tell Assumptions)))) → ⊥
  told_not (inl e) = ((tells s k.command step Model k.keeps e).asked not_asking).0 refl
  told_not (inr (inl e)) = ((tells s k.command step Values k.keeps e).asked not_asking).1.0 refl
  told_not (inr (inr (inl e))) = ((tells s k.command step Proof k.keeps e).asked not_asking).1.1.0 refl
  told_not (inr (inr (inr (inl e)))) = ((tells s k.command step Core k.keeps e).asked not_asking).1.1.1.0 refl
  told_not (inr (inr (inr (inr e)))) = ((tells s k.command step Assumptions k.keeps e).asked not_asking).1.1.1.1 refl

pub asked_is_told : AskedIsTold
asked_is_told s x step e free = told_not s x step (kept s x step e) free

-- ---- the end

exiting_is : (found : Result Command Refusal) → is_exiting found ≡ true → found ≡ Ok Commands.exiting
exiting_is (Ok Commands.exiting) e = refl
exiting_is _ e = absurd cc

carried_out_by : (s : State) (found : Result Command Refusal) → is_exiting found ≡ true → after_by s found ≡ Ok (record { state = s; effect = Exit })
carried_out_by s found e = ap (after_by s) (exiting_is found e)

pub exit_is_carried_out : ExitIsCarriedOut
unfolding after
exit_is_carried_out s x e = carried_out_by s (command_of x) e

same_step : (step other : Step) → ◌≡◌ {A = Result Step Refusal} (Ok step) (Ok other) → step ≡ other
same_step step other e = cc

pub only_exit_ends : OnlyExitEnds
only_exit_ends s x step e =
    let k = kept s x step e in (
      λ f. (let ends : is_exiting (Ok k.command) ≡ true = subst (MayAnswer step.state k.command) f k.keeps.answer in ap is_exiting k.is ∙ ends),
      λ f. ap (λ (q : Step). q.effect) (same_step step (record { state = s; effect = Exit }) (sym e ∙ exit_is_carried_out s x f)),
    )
