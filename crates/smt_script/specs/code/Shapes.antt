-- How the code sees commands: by the ids of their parts. These are words of the code's inner contracts, and no part of the
-- meaning.
use Rattle.std.specs.Prelude.{◌≡◌, ℕ, ◌≤◌, ◌^◌, List, [], ◌∷◌, ◌++◌, codes, Bool, true, false, if◌then◌else◌, Option, Some, None, option_map, Result, Ok, Err}
use Rattle.std.specs.Borrow.{Bor}
use Rattle.std.specs.Str.{bytes_eq}
use Rattle.smt_sexpr.specs.Tree.{Sexpr, Items, list, none, more, symbol_of, keyword_of}
use Rattle.smt_sexpr.specs.Table.{Table, Means, MeansEach}
use Rattle.idl_node.specs.Nodes.{NodeValue}
use Rattle.idl_node.specs.declared.sort.Sort.{Sort}
use Rattle.idl_apply.specs.Applied.{Made}
use Rattle.idl_term.specs.Scopes.{Scope, formula, numeric, shown_term}
use Rattle.idl_scope.specs.declared.lowered.Lowered.{Lowered}
use Rattle.idl_apply.specs.declared.error.TermRefusal.{TermRefusal}
use Rattle.idl_apply.specs.declared.error.TermRefusal.TheVariants.{WrongSort}
use Rattle.idl_apply.specs.declared.error.TermError.{TermError}
use Rattle.idl_apply.specs.declared.error.TermError.TheVariants as term
use Rattle.smt_script.specs.Attributes.{Named, unnamed, named}
use Rattle.smt_script.specs.Commands.{Command, setting_logic, setting_option, informing, declaring, defining, asserting, naming, pushing, popping, checking, assuming, minimizing, asking_model, asking_values, asking_proof, asking_core, asking_assumptions, asking_information, echoing, resetting_assertions, resetting, exiting, unsupported, is_literal, are_literals, function_command, definition_command}
use Rattle.smt_script.specs.code.Kept.{Kept, StandsFor, literal_sexpr}
use Rattle.smt_script.specs.declared.assumption.AssumedLiteral.{AssumedLiteral}
use Rattle.idl_term.specs.Contexts.{Context, scope_of}
use Rattle.smt_script.specs.Options
use Rattle.smt_script.specs.States.{State, Step, is_of_sort}
use Rattle.smt_script.specs.declared.attribute.Attributes.{Attributes as AttributesRead}
use Rattle.smt_script.specs.declared.attribute.Awaited.{Awaited}
use Rattle.smt_script.specs.declared.attribute.Awaited.TheVariants as awaited
use Rattle.smt_script.specs.declared.command.Request.{Request}
use Rattle.smt_script.specs.declared.command.Request.TheVariants.{SetLogic, SetOption, SetInfo, Declare, Define, Assert, AssertNamed, Push, Pop, CheckSat, CheckSatAssuming, Minimize, Model, Values, Proof, Core, Assumptions, Information, Echo, ResetAssertions, Reset, Exit, Unsupported}
use Rattle.smt_script.specs.declared.command.Signature.{Signature}
use Rattle.smt_script.specs.declared.error.Refusal.{Refusal}
use Rattle.smt_script.specs.declared.error.Refusal.TheVariants.{IllFormedCommand, LeftOut, Term}
use Rattle.smt_script.specs.declared.error.LeftOutCommand.TheVariants.{Parameters, Sort as SortLeftOut}
use Rattle.smt_script.specs.declared.error.ScriptError.{ScriptError}
use Rattle.smt_script.specs.declared.error.ScriptError.TheVariants.{OutOfMemory, Refused}
use Rattle.smt_script.specs.declared.state.Effect.{Effect}
use Rattle.smt_script.specs.declared.objective.Objective.{Objective}
use Rattle.smt_script.specs.declared.option.OptionEffect.{OptionEffect}
use Rattle.smt_script.specs.declared.option.OptionEffect.TheVariants.{PrintSuccess, Nothing, Unsupported as NotSupported, IllFormed}

abbrev pub error_of_term : TermError → ScriptError
error_of_term term.OutOfMemory = OutOfMemory
error_of_term (term.Refused why) = Refused (Term why)

-- ---- options

-- the id of a value, where there is one
abbrev pub ValueIs : Table → Option ℕ → Option Sexpr → Type 0
ValueIs t None None = Unit {0}
ValueIs t (Some id) (Some v) = Means t id v
ValueIs t _ _ = ⊥

abbrev pub HasValue : Table → Option ℕ → Type 0
HasValue t value = (v : Option Sexpr) × ValueIs t value v

abbrev pub shown_effect : OptionEffect → Options.OptionEffect
shown_effect (PrintSuccess on) = Options.printing_success on
shown_effect Nothing = Options.no_effect
shown_effect NotSupported = Options.not_supported
shown_effect IllFormed = Options.ill_formed_value

-- ---- attributes

abbrev pub shown_name : Option (Bor (List ℕ)) → Option (List ℕ)
shown_name name = option_map (λ (text : Bor (List ℕ)). text.now) name

abbrev pub named_as : Option (List ℕ) → Named
named_as None = unnamed
named_as (Some name) = named name

abbrev pub after_keyword : List ℕ → Awaited
after_keyword text = if bytes_eq text (codes ":named") then awaited.Name else awaited.Value

-- `:named` may not come again
abbrev pub may_come : Option (List ℕ) → Awaited → Option Awaited
may_come (Some name) awaited.Name = None
may_come given next = Some next

-- the name behind the items that are left, by what is awaited of them and the name so far
abbrev pub named_after : Awaited → Option (List ℕ) → Items → Option Named
named_after awaited.Name given none = None
named_after _ given none = Some (named_as given)
named_after awaited.Name given (more x xs) = elim (symbol_of x) [
  | None ↦ None
  | Some name ↦ named_after awaited.Keyword (Some name) xs
]
named_after awaited.Value given (more x xs) = elim (keyword_of x) [
  | None ↦ named_after awaited.Keyword given xs
  | Some text ↦ elim (may_come given (after_keyword text)) [
    | None ↦ None
    | Some next ↦ named_after next given xs
  ]
]
named_after awaited.Keyword given (more x xs) = elim (keyword_of x) [
  | None ↦ None
  | Some text ↦ elim (may_come given (after_keyword text)) [
    | None ↦ None
    | Some next ↦ named_after next given xs
  ]
]

abbrev pub left_after : AttributesRead → Items → Option Named
left_after read xs = named_after read.awaited (shown_name read.name) xs

-- one more item leads from these attributes to those
abbrev pub AttributeIs : AttributesRead → Sexpr → Result AttributesRead Refusal → Type 0
AttributeIs before x (Ok after) = (xs : Items) → left_after before (more x xs) ≡ left_after after xs
AttributeIs before x (Err why) =
    (why ≡ IllFormedCommand) × ((xs : Items) → left_after before (more x xs) ≡ None)

abbrev pub AttributesAre : Option Named → Result (Option (Bor (List ℕ))) Refusal → Type 0
AttributesAre found (Ok name) = found ≡ Some (named_as (shown_name name))
AttributesAre found (Err why) = (why ≡ IllFormedCommand) × (found ≡ None)

-- ---- commands

abbrev pub AnnotationIs : Table → Option Items → Option (Bor (List ℕ)) → Type 0
AnnotationIs t None None = Unit {0}
AnnotationIs t (Some xs) (Some ids) = MeansEach t ids.now xs
AnnotationIs t _ _ = ⊥

abbrev pub are_any : Items → Bool
are_any none = false
are_any (more _ _) = true

pub record IsSignature (t : Table) (signature : Signature) (parameters : Items) (s : Sexpr) : Type 0 where
  pub has_parameters : signature.has_parameters ≡ are_any parameters
  pub sort_means : Means t signature.sort s

-- n (..) S
abbrev pub SignatureIs : Table → Sexpr → Sexpr → Sexpr → Result Signature Refusal → Type 0
SignatureIs t n p s (Ok signature) =
    (parameters : Items) × (p ≡ list parameters) × (symbol_of n ≡ Some signature.name.now)
    × IsSignature t signature parameters s
SignatureIs t n p s (Err why) =
    (function_command (more n (more p (more s none))) ≡ Err why)
    × ((x : Sexpr) → definition_command (more n (more p (more s (more x none)))) ≡ Err why)

-- a number of levels; from 2^64 on it isn't known
abbrev pub CountIs : Option ℕ → ℕ → Type 0
CountIs (Some n) m = m ≡ n
CountIs None m = 2 ^ 64 ≤ m

abbrev pub LevelsAre : (ℕ → Command) → Result Command Refusal → Result (Option ℕ) Refusal → Type 0
LevelsAre make meant (Ok count) = (n : ℕ) × CountIs count n × (meant ≡ Ok (make n))
LevelsAre make meant (Err why) = meant ≡ Err why

-- a command, with the ids of its parts
abbrev pub CommandIs : Table → Request → Result Command Refusal → Type 0
CommandIs t (SetLogic id) meant = (logic : Sexpr) × Means t id logic × (meant ≡ Ok (setting_logic logic))
CommandIs t (SetOption keyword value) meant =
    (v : Option Sexpr) × ValueIs t value v × (meant ≡ Ok (setting_option keyword.now v))
CommandIs t SetInfo meant = meant ≡ Ok informing
CommandIs t (Declare signature) meant =
    (parameters : Items) × (sort : Sexpr) × IsSignature t signature parameters sort
    × (meant ≡ Ok (declaring signature.name.now parameters sort))
CommandIs t (Define signature id) meant =
    (parameters : Items) × (sort : Sexpr) × (x : Sexpr)
    × IsSignature t signature parameters sort × Means t id x
    × (meant ≡ Ok (defining signature.name.now parameters sort x))
CommandIs t (Assert id) meant = (x : Sexpr) × Means t id x × (meant ≡ Ok (asserting x))
CommandIs t (AssertNamed id name) meant = (x : Sexpr) × Means t id x × (meant ≡ Ok (naming x name.now))
CommandIs t (Push count) meant = (n : ℕ) × CountIs count n × (meant ≡ Ok (pushing n))
CommandIs t (Pop count) meant = (n : ℕ) × CountIs count n × (meant ≡ Ok (popping n))
CommandIs t CheckSat meant = meant ≡ Ok checking
CommandIs t (CheckSatAssuming id) meant = (literals : Items) × Means t id (list literals) × (are_literals literals ≡ true) × (meant ≡ Ok (assuming literals))
CommandIs t (Minimize id) meant = (x : Sexpr) × Means t id x × (meant ≡ Ok (minimizing x))
CommandIs t Model meant = meant ≡ Ok asking_model
CommandIs t (Values id) meant = (terms : Items) × Means t id (list terms) × (meant ≡ Ok (asking_values terms))
CommandIs t Proof meant = meant ≡ Ok asking_proof
CommandIs t Core meant = meant ≡ Ok asking_core
CommandIs t Assumptions meant = meant ≡ Ok asking_assumptions
CommandIs t (Information keyword) meant = meant ≡ Ok (asking_information keyword.now)
CommandIs t (Echo text) meant = meant ≡ Ok (echoing text.now)
CommandIs t ResetAssertions meant = meant ≡ Ok resetting_assertions
CommandIs t Reset meant = meant ≡ Ok resetting
CommandIs t Exit meant = meant ≡ Ok exiting
CommandIs t Unsupported meant = meant ≡ Ok unsupported

abbrev pub RequestIs : Table → Result Request Refusal → Result Command Refusal → Type 0
RequestIs t (Ok request) meant = CommandIs t request meant
RequestIs t (Err why) meant = meant ≡ Err why

-- a result that is what the items ask for
abbrev pub AsksFor : Table → List ℕ → (Items → Result Command Refusal) → Result Request Refusal → Type 0
AsksFor t ids meaning result = (xs : Items) → MeansEach t ids xs → RequestIs t result (meaning xs)

abbrev pub HasSignature : Table → Signature → Type 0
HasSignature t signature = (parameters : Items) × (sort : Sexpr) × IsSignature t signature parameters sort

-- ---- steps

-- a call's result, and what is kept behind it, are those of the step
abbrev pub Agrees : Result Step Refusal → Kept → Result Effect ScriptError → Type 0
Agrees step kept (Ok effect) =
    (state : State) × (step ≡ Ok (record { state = state; effect = effect })) × StandsFor kept state
Agrees step kept (Err (Refused why)) = step ≡ Err why
Agrees step kept (Err OutOfMemory) = Unit {0}

-- from each state that is kept, with what the request's part stands for, the call leads where the step does
abbrev pub Carries : {X : Type 0} → (X → Type 0) → (State → X → Result Step Refusal) → Kept → Kept
    → Result Effect ScriptError → Type 0
Carries {X} Is step old new result =
    (s : State) (x : X) → StandsFor old s → Is x → Agrees (step s x) new result

-- the sort of a function without parameters
abbrev pub signature_sort : Items → Option Sort → Result Sort Refusal
signature_sort (more _ _) found = Err (LeftOut Parameters)
signature_sort none None = Err (LeftOut SortLeftOut)
signature_sort none (Some found) = Ok found

-- a term of the sort, or a formula
abbrev pub only_of_sort : Sort → Result Made TermRefusal → Result Made Refusal
only_of_sort found (Err why) = Err (Term why)
only_of_sort found (Ok made) = if is_of_sort found made.is then Ok made else Err (Term WrongSort)

abbrev pub only_formula : Result Made TermRefusal → Result Made Refusal
only_formula (Err why) = Err (Term why)
only_formula (Ok made) = elim made.is [
  | formula root ↦ Ok made
  | numeric cases ↦ Err (Term WrongSort)
]

abbrev pub TermIs : List NodeValue → Result Made Refusal → Result Lowered ScriptError → Type 0
TermIs now made (Ok term) = made ≡ Ok (record { nodes = now; is = shown_term term })
TermIs now made (Err (Refused why)) = made ≡ Err why
TermIs now made (Err OutOfMemory) = Unit {0}

abbrev pub FormulaIs : List NodeValue → Result Made Refusal → Result ℕ ScriptError → Type 0
FormulaIs now made (Ok root) = made ≡ Ok (record { nodes = now; is = formula root })
FormulaIs now made (Err (Refused why)) = made ≡ Err why
FormulaIs now made (Err OutOfMemory) = Unit {0}

abbrev pub ObjectiveIs : Result Objective Refusal → Result Objective ScriptError → Type 0
ObjectiveIs found (Ok o) = found ≡ Ok o
ObjectiveIs found (Err (Refused why)) = found ≡ Err why
ObjectiveIs found (Err OutOfMemory) = Unit {0}

-- the terms are accepted, or this is the first refusal of one
abbrev pub IsTested : Option TermRefusal → Result (Unit {0}) ScriptError → Type 0
IsTested found (Ok done) = found ≡ None
IsTested found (Err (Refused why)) = option_map Term found ≡ Some why
IsTested found (Err OutOfMemory) = Unit {0}

-- the request is that of `(exit)`
abbrev pub asks_exit : Result Request Refusal → Bool
asks_exit (Ok Exit) = true
asks_exit _ = false

-- ---- assumptions

-- as it is kept
abbrev pub literal_pair : AssumedLiteral → List ℕ × Bool
literal_pair l = (l.name.now, l.is_negated)

abbrev pub shown_literal : AssumedLiteral → Sexpr
shown_literal l = literal_sexpr l.name.now l.is_negated

-- the context with the assumptions behind it is that of the table and the roots
pub record IsAsked (scope : Scope) (nodes : List NodeValue) (roots : List ℕ) (c : Context) : Type 0 where
  pub scope_is : scope_of c ≡ scope
  pub nodes_are : c.nodes ≡ nodes
  pub roots_are : c.roots ≡ roots

abbrev pub AreAssumed : Scope → List NodeValue → List ℕ → Result Context Refusal → Result (Unit {0}) ScriptError → Type 0
AreAssumed scope nodes roots found (Ok done) = (asked : Context) × (found ≡ Ok asked) × IsAsked scope nodes roots asked
AreAssumed scope nodes roots found (Err (Refused why)) = found ≡ Err why
AreAssumed scope nodes roots found (Err OutOfMemory) = Unit {0}

-- the literal that the s-expression is, or that it is none
abbrev pub LiteralIs : Sexpr → Option AssumedLiteral → Type 0
LiteralIs x (Some l) = (is_literal x ≡ true) × (shown_literal l ≡ x)
LiteralIs x None = is_literal x ≡ false

-- the formula's node is the last root, or why there is none
abbrev pub IsAssumedOne : Result Made Refusal → List NodeValue → List ℕ → List ℕ → Result (Unit {0}) ScriptError → Type 0
IsAssumedOne made now before after (Ok done) =
    (root : ℕ) × (made ≡ Ok (record { nodes = now; is = formula root })) × (after ≡ before ++ root ∷ [])
IsAssumedOne made now before after (Err (Refused why)) = made ≡ Err why
IsAssumedOne made now before after (Err OutOfMemory) = Unit {0}
