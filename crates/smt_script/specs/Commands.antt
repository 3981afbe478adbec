-- What a command asks for (SMT-LIB 2.6, section 3.9). First its name is looked at, then its shape.
use Rattle.std.specs.Prelude.{ℕ, List, [], codes, Bool, true, false, ◌&&◌, ◌||◌, if◌then◌else◌, Option, None, Some, Result, Ok, Err}
use Rattle.std.specs.Str.{bytes_eq}
use Rattle.smt_lex.specs.Numbers.{value_of}
use Rattle.smt_lex.specs.declared.token.TokenKind.TheVariants.{Symbol, Text}
use Rattle.smt_sexpr.specs.Tree.{Sexpr, Items, leaf, list, none, more, symbol_of, keyword_of, numeral_of}
use Rattle.smt_sexpr.specs.Shapes.{headed_of}
use Rattle.smt_script.specs.declared.command_name.CommandName.{CommandName}
use Rattle.smt_script.specs.declared.command_name.CommandName.TheVariants as name
use Rattle.smt_script.specs.declared.error.LeftOutCommand.{LeftOutCommand}
use Rattle.smt_script.specs.declared.error.LeftOutCommand.TheVariants as left_out
use Rattle.smt_script.specs.declared.error.Refusal.{Refusal}
use Rattle.smt_script.specs.declared.error.Refusal.TheVariants.{UnknownCommand, IllFormedCommand, LeftOut}
use Rattle.smt_script.specs.Attributes.{Named, unnamed, named, named_in}

pub data Command : Type 0 where
  -- (set-logic s)
  setting_logic : (logic : Sexpr) → Command
  -- (set-option k v), (set-option k)
  setting_option : (keyword : List ℕ) (value : Option Sexpr) → Command
  -- (set-info k v), (set-info k)
  informing : Command
  -- (declare-fun n (..) S), and (declare-const n S) without parameters
  declaring : (name : List ℕ) (parameters : Items) (sort : Sexpr) → Command
  -- (define-fun n (..) S t)
  defining : (name : List ℕ) (parameters : Items) (sort term : Sexpr) → Command
  -- (assert t)
  asserting : (term : Sexpr) → Command
  -- (assert (! t :named n ..)), where n is there
  naming : (term : Sexpr) (name : List ℕ) → Command
  -- (push n), (pop n)
  pushing : (count : ℕ) → Command
  popping : (count : ℕ) → Command
  checking : Command
  -- (check-sat-assuming (a ..))
  assuming : (literals : Items) → Command
  -- (minimize t)
  minimizing : (term : Sexpr) → Command
  -- (get-model), (get-proof)
  asking_model : Command
  asking_proof : Command
  -- (get-unsat-core)
  asking_core : Command
  -- (get-unsat-assumptions)
  asking_assumptions : Command
  -- (get-value (t ..))
  asking_values : (terms : Items) → Command
  -- (get-info k)
  asking_information : (keyword : List ℕ) → Command
  -- (echo text), the text in its quotation marks
  echoing : (text : List ℕ) → Command
  -- (reset-assertions), (reset)
  resetting_assertions : Command
  resetting : Command
  exiting : Command
  -- a command that answers `unsupported` whatever follows its name
  unsupported : Command

-- the commands that set and name
unfoldable pub naming_command : List ℕ → Option CommandName
naming_command text =
    if bytes_eq text (codes "set-logic") then Some name.SetLogic
    else (if bytes_eq text (codes "set-option") then Some name.SetOption
    else (if bytes_eq text (codes "set-info") then Some name.SetInfo
    else (if bytes_eq text (codes "declare-const") then Some name.DeclareConst
    else (if bytes_eq text (codes "declare-fun") then Some name.DeclareFun
    else (if bytes_eq text (codes "define-fun") then Some name.DefineFun
    else None)))))

-- the commands that change what is active, and `exit`
unfoldable pub changing_command : List ℕ → Option CommandName
changing_command text =
    if bytes_eq text (codes "assert") then Some name.Assert
    else (if bytes_eq text (codes "push") then Some name.Push
    else (if bytes_eq text (codes "pop") then Some name.Pop
    else (if bytes_eq text (codes "reset-assertions") then Some name.ResetAssertions
    else (if bytes_eq text (codes "reset") then Some name.Reset
    else (if bytes_eq text (codes "exit") then Some name.Exit
    else None)))))

-- the commands that ask
unfoldable pub asking_command : List ℕ → Option CommandName
asking_command text =
    if bytes_eq text (codes "check-sat") then Some name.CheckSat
    else (if bytes_eq text (codes "check-sat-assuming") then Some name.CheckSatAssuming
    else (if bytes_eq text (codes "minimize") then Some name.Minimize
    else (if bytes_eq text (codes "get-model") then Some name.GetModel
    else (if bytes_eq text (codes "get-value") then Some name.GetValue
    else (if bytes_eq text (codes "get-proof") then Some name.GetProof
    else (if bytes_eq text (codes "get-unsat-core") then Some name.GetUnsatCore
    else (if bytes_eq text (codes "get-unsat-assumptions") then Some name.GetUnsatAssumptions
    else (if bytes_eq text (codes "get-info") then Some name.GetInfo
    else (if bytes_eq text (codes "echo") then Some name.Echo
    else None)))))))))

abbrev pub or_else : Option CommandName → Option CommandName → Option CommandName
or_else (Some found) other = Some found
or_else None other = other

-- the commands that there are
abbrev pub command_name : List ℕ → Option CommandName
command_name text = or_else (naming_command text) (or_else (changing_command text) (asking_command text))

-- the commands that answer `unsupported`
unfoldable pub is_unsupported : List ℕ → Bool
is_unsupported text =
    if bytes_eq text (codes "get-assertions") then true
    else (if bytes_eq text (codes "get-assignment") then true
    else bytes_eq text (codes "get-option"))

-- the commands that are left out
unfoldable pub left_out_of : List ℕ → Option LeftOutCommand
left_out_of text =
    if bytes_eq text (codes "define-fun-rec") then Some left_out.DefineFunRec
    else (if bytes_eq text (codes "define-funs-rec") then Some left_out.DefineFunsRec
    else (if bytes_eq text (codes "define-sort") then Some left_out.DefineSort
    else (if bytes_eq text (codes "declare-sort") then Some left_out.DeclareSort
    else (if bytes_eq text (codes "declare-datatype") then Some left_out.DeclareDatatype
    else (if bytes_eq text (codes "declare-datatypes") then Some left_out.DeclareDatatypes
    else None)))))

abbrev pub ill_formed : Result Command Refusal
ill_formed = Err IllFormedCommand

-- ---- shapes, behind the command's name

-- a command without arguments
abbrev pub alone : Command → Items → Result Command Refusal
alone command none = Ok command
alone command (more _ _) = ill_formed

abbrev pub logic_command : Items → Result Command Refusal
logic_command (more logic none) = Ok (setting_logic logic)
logic_command _ = ill_formed

abbrev pub with_keyword : Option (List ℕ) → (List ℕ → Command) → Result Command Refusal
with_keyword (Some keyword) make = Ok (make keyword)
with_keyword None make = ill_formed

-- k, or k v
abbrev pub option_command : Items → Result Command Refusal
option_command (more k none) = with_keyword (keyword_of k) (λ keyword. setting_option keyword None)
option_command (more k (more v none)) =
    with_keyword (keyword_of k) (λ keyword. setting_option keyword (Some v))
option_command _ = ill_formed

abbrev pub info_command : Items → Result Command Refusal
info_command (more k none) = with_keyword (keyword_of k) (λ keyword. informing)
info_command (more k (more v none)) = with_keyword (keyword_of k) (λ keyword. informing)
info_command _ = ill_formed

abbrev pub with_name : Option (List ℕ) → (List ℕ → Command) → Result Command Refusal
with_name (Some text) make = Ok (make text)
with_name None make = ill_formed

-- n S
abbrev pub constant_command : Items → Result Command Refusal
constant_command (more n (more sort none)) = with_name (symbol_of n) (λ text. declaring text none sort)
constant_command _ = ill_formed

-- n (..) S
abbrev pub function_command : Items → Result Command Refusal
function_command (more n (more (list parameters) (more sort none))) =
    with_name (symbol_of n) (λ text. declaring text parameters sort)
function_command _ = ill_formed

-- n (..) S t
abbrev pub definition_command : Items → Result Command Refusal
definition_command (more n (more (list parameters) (more sort (more term none)))) =
    with_name (symbol_of n) (λ text. defining text parameters sort term)
definition_command _ = ill_formed

-- an annotated term: its name, where it has one
abbrev pub annotated : Sexpr → Option Named → Result Command Refusal
annotated term None = ill_formed
annotated term (Some unnamed) = Ok (asserting term)
annotated term (Some (named text)) = Ok (naming term text)

-- what stands behind a `!`: a term, and one or more attributes
abbrev pub annotation_command : Items → Result Command Refusal
annotation_command (more term (more first rest)) = annotated term (named_in (more first rest))
annotation_command _ = ill_formed

-- (! ..)
abbrev pub annotation_by : Option (List ℕ × Items) → Option Items
annotation_by (Some p) = if bytes_eq p.0 (codes "!") then Some p.1 else None
annotation_by None = None

abbrev pub annotation_in : Sexpr → Option Items
annotation_in x = annotation_by (headed_of x)

abbrev pub assertion_by : Sexpr → Option Items → Result Command Refusal
assertion_by term (Some rest) = annotation_command rest
assertion_by term None = Ok (asserting term)

abbrev pub assertion_command : Items → Result Command Refusal
assertion_command (more term none) = assertion_by term (annotation_in term)
assertion_command _ = ill_formed

abbrev pub with_count : Option (List ℕ) → (ℕ → Command) → Result Command Refusal
with_count (Some digits) make = Ok (make (value_of digits))
with_count None make = ill_formed

-- a numeral of any size, or 1 where none is given
abbrev pub level_command : (ℕ → Command) → Items → Result Command Refusal
level_command make none = Ok (make 1)
level_command make (more n none) = with_count (numeral_of n) make
level_command make _ = ill_formed

-- a symbol, or `(not symbol)`
abbrev pub is_name : Sexpr → Bool
is_name (leaf Symbol text) = true
is_name x = false

abbrev pub is_negated : Option (List ℕ × Items) → Bool
is_negated (Some (head, more s none)) = bytes_eq head (codes "not") && is_name s
is_negated _ = false

abbrev pub is_literal : Sexpr → Bool
is_literal x = is_name x || is_negated (headed_of x)

abbrev pub are_literals : Items → Bool
are_literals none = true
are_literals (more x xs) = is_literal x && are_literals xs

-- (a ..), each of which is a literal; perhaps none
abbrev pub assuming_command : Items → Result Command Refusal
assuming_command (more (list literals) none) = if are_literals literals then Ok (assuming literals) else ill_formed
assuming_command _ = ill_formed

-- t
abbrev pub minimize_command : Items → Result Command Refusal
minimize_command (more term none) = Ok (minimizing term)
minimize_command _ = ill_formed

-- (t ..), with one or more terms
abbrev pub values_of : Items → Result Command Refusal
values_of none = ill_formed
values_of (more t ts) = Ok (asking_values (more t ts))

abbrev pub values_command : Items → Result Command Refusal
values_command (more (list terms) none) = values_of terms
values_command _ = ill_formed

-- k
abbrev pub information_command : Items → Result Command Refusal
information_command (more k none) = with_keyword (keyword_of k) (λ keyword. asking_information keyword)
information_command _ = ill_formed

-- a text
abbrev pub echo_command : Items → Result Command Refusal
echo_command (more (leaf Text text) none) = Ok (echoing text)
echo_command _ = ill_formed

-- ---- commands

abbrev pub command_by : CommandName → Items → Result Command Refusal
command_by name.SetLogic arguments = logic_command arguments
command_by name.SetOption arguments = option_command arguments
command_by name.SetInfo arguments = info_command arguments
command_by name.DeclareConst arguments = constant_command arguments
command_by name.DeclareFun arguments = function_command arguments
command_by name.DefineFun arguments = definition_command arguments
command_by name.Assert arguments = assertion_command arguments
command_by name.Push arguments = level_command pushing arguments
command_by name.Pop arguments = level_command popping arguments
command_by name.CheckSat arguments = alone checking arguments
command_by name.CheckSatAssuming arguments = assuming_command arguments
command_by name.Minimize arguments = minimize_command arguments
command_by name.GetModel arguments = alone asking_model arguments
command_by name.GetValue arguments = values_command arguments
command_by name.GetProof arguments = alone asking_proof arguments
command_by name.GetUnsatCore arguments = alone asking_core arguments
command_by name.GetUnsatAssumptions arguments = alone asking_assumptions arguments
command_by name.GetInfo arguments = information_command arguments
command_by name.Echo arguments = echo_command arguments
command_by name.ResetAssertions arguments = alone resetting_assertions arguments
command_by name.Reset arguments = alone resetting arguments
command_by name.Exit arguments = alone exiting arguments

abbrev pub without_name : List ℕ → Result Command Refusal
without_name text =
    if is_unsupported text then Ok unsupported
    else elim (left_out_of text) [
      | Some c ↦ Err (LeftOut c)
      | None ↦ Err UnknownCommand
    ]

abbrev pub named_command : List ℕ → Items → Result Command Refusal
named_command text arguments = elim (command_name text) [
  | Some c ↦ command_by c arguments
  | None ↦ without_name text
]

abbrev pub command_in : Option (List ℕ × Items) → Result Command Refusal
command_in (Some p) = named_command p.0 p.1
command_in None = ill_formed

-- a command is a list whose first item is a symbol
unfoldable pub command_of : Sexpr → Result Command Refusal
command_of x = command_in (headed_of x)

abbrev pub is_exiting : Result Command Refusal → Bool
is_exiting (Ok exiting) = true
is_exiting _ = false

-- the command `(exit)`
abbrev pub is_exit : Sexpr → Bool
is_exit x = is_exiting (command_of x)

-- what is asked for, of a command that asks for it, and else nothing: the terms of a `get-value`, the text of an `echo`, and
-- the term that a `minimize` asks to be least
abbrev pub terms_in : Result Command Refusal → Items
terms_in (Ok (asking_values terms)) = terms
terms_in _ = none

abbrev pub text_in : Result Command Refusal → List ℕ
text_in (Ok (echoing text)) = text
text_in _ = []

abbrev pub asked_terms : Sexpr → Items
asked_terms x = terms_in (command_of x)

abbrev pub echoed_text : Sexpr → List ℕ
echoed_text x = text_in (command_of x)

abbrev pub minimized_in : Result Command Refusal → Option Sexpr
minimized_in (Ok (minimizing term)) = Some term
minimized_in _ = None

abbrev pub minimized : Sexpr → Option Sexpr
minimized x = minimized_in (command_of x)

abbrev pub is_asking : Result Command Refusal → Bool
is_asking (Ok asking_model) = true
is_asking (Ok (asking_values terms)) = true
is_asking (Ok asking_proof) = true
is_asking (Ok asking_core) = true
is_asking (Ok asking_assumptions) = true
is_asking _ = false

-- the command asks for a model, for values or for a proof
abbrev pub asks_verdict : Sexpr → Bool
asks_verdict x = is_asking (command_of x)
