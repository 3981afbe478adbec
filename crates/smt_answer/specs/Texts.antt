-- The texts of the answers. Each is a line (SMT-LIB 2.6, section 3.9: `success`, `unsupported`, `sat`, `unsat`, and `(error text)`
-- in general). What stands in the text of an error is this project's choice.
use Rattle.std.specs.Prelude.{ℕ, suc, ℤ, pos, negsuc, List, [], ◌∷◌, ◌++◌, codes, decimal, Bool, true, false, Option, Some}
use Rattle.smt_lex.specs.declared.token.TokenKind.TheVariants.{Symbol}
use Rattle.smt_sexpr.specs.Tree.{Sexpr, Items, list, none, more}
use Rattle.smt_sexpr.specs.Printing.{text_of, written}
use Rattle.stn_core.specs.declared.named.NamedValue.{NamedValue}
use Rattle.idl_node.specs.declared.sort.Sort.{Sort}
use Rattle.idl_node.specs.declared.sort.Sort.TheVariants as sort
use Rattle.idl_term.specs.Contexts.{value_of_named}
use Rattle.idl_term.specs.Scopes.{Declaration}
use Rattle.idl_term.specs.Values.{Value, whole, truth, nothing}
use Rattle.smt_script.specs.declared.information.Information.{Information}
use Rattle.smt_script.specs.declared.information.Information.TheVariants.{Name, Version, Authors, ErrorBehavior, AssertionStackLevels}
use Rattle.idl_apply.specs.declared.error.LeftOutTerm.{LeftOutTerm}
use Rattle.idl_apply.specs.declared.error.LeftOutTerm.TheVariants as term
use Rattle.smt_script.specs.declared.error.LeftOutCommand.{LeftOutCommand}
use Rattle.smt_script.specs.declared.error.LeftOutCommand.TheVariants as command
use Rattle.smt_answer.specs.declared.kind.Kind.{Kind}
use Rattle.smt_answer.specs.declared.kind.Kind.TheVariants.{BadByte, UnclosedString, UnclosedQuotedSymbol, LeadingZero, UnclosedList, StrayClose, Command}
use Rattle.idl_apply.specs.declared.error.TermRefusal.{TermRefusal}
use Rattle.idl_apply.specs.declared.error.TermRefusal.TheVariants as refused_term
use Rattle.smt_script.specs.declared.error.Refusal.{Refusal}
use Rattle.smt_script.specs.declared.error.Refusal.TheVariants as refused

abbrev pub verdict_line : Bool → List ℕ
verdict_line true = codes "sat\n"
verdict_line false = codes "unsat\n"

-- where nothing is less than what is minimized goes on to be, however far
abbrev pub unbounded_line : List ℕ
unbounded_line = codes "unbounded\n"

abbrev pub success_line : List ℕ
success_line = codes "success\n"

abbrev pub unsupported_line : List ℕ
unsupported_line = codes "unsupported\n"

-- what is left out of terms
abbrev pub term_text : LeftOutTerm → List ℕ
term_text term.Forall = codes "forall"
term_text term.Exists = codes "exists"
term_text term.Match = codes "match"
term_text term.As = codes "as"
term_text term.Underscore = codes "_"
term_text term.Annotation = codes "!"
term_text term.Times = codes "*"
term_text term.Div = codes "div"
term_text term.Mod = codes "mod"
term_text term.Abs = codes "abs"
term_text term.Decimal = codes "decimal"
term_text term.Hexadecimal = codes "hexadecimal"
term_text term.Binary = codes "binary"
term_text term.String = codes "string"

-- what is left out of commands
abbrev pub command_text : LeftOutCommand → List ℕ
command_text command.Parameters = codes "parameters"
command_text command.Sort = codes "sort"
command_text command.Ite = codes "ite"
command_text command.DefineFunRec = codes "define-fun-rec"
command_text command.DefineFunsRec = codes "define-funs-rec"
command_text command.DefineSort = codes "define-sort"
command_text command.DeclareSort = codes "declare-sort"
command_text command.DeclareDatatype = codes "declare-datatype"
command_text command.DeclareDatatypes = codes "declare-datatypes"

-- why a term is refused
abbrev pub term_refusal_text : TermRefusal → List ℕ
term_refusal_text refused_term.UnknownSymbol = codes "unknown symbol"
term_refusal_text refused_term.IllFormedTerm = codes "ill-formed term"
term_refusal_text refused_term.WrongCount = codes "wrong count of arguments"
term_refusal_text refused_term.WrongSort = codes "wrong sort"
term_refusal_text refused_term.TooManyCases = codes "too many cases"
term_refusal_text refused_term.NotADifference = codes "not a difference"
term_refusal_text refused_term.BoundTooLarge = codes "bound too large"
term_refusal_text refused_term.TooLarge = codes "too large"
term_refusal_text (refused_term.LeftOut c) = codes "left out: " ++ term_text c

-- why a command is refused
abbrev pub refusal_text : Refusal → List ℕ
refusal_text refused.UnknownCommand = codes "unknown command"
refusal_text refused.IllFormedCommand = codes "ill-formed command"
refusal_text refused.LogicNotSupported = codes "logic not supported"
refusal_text refused.AlreadyDeclared = codes "already declared"
refusal_text refused.TooManyNames = codes "too many names"
refusal_text refused.TooManyLevels = codes "too many levels"
refusal_text refused.PopBelowTheBottom = codes "pop below the bottom"
refusal_text refused.NoModel = codes "no model"
refusal_text refused.NoProof = codes "no proof"
refusal_text refused.NoCore = codes "no core"
refusal_text refused.NoAssumptions = codes "no assumptions"
refusal_text refused.ObjectiveTooLarge = codes "objective too large"
refusal_text (refused.LeftOut c) = codes "left out: " ++ command_text c
refusal_text (refused.Term why) = term_refusal_text why

abbrev pub kind_text : Kind → List ℕ
kind_text BadByte = codes "bad byte"
kind_text UnclosedString = codes "unclosed string"
kind_text UnclosedQuotedSymbol = codes "unclosed quoted symbol"
kind_text LeadingZero = codes "leading zero"
kind_text UnclosedList = codes "unclosed list"
kind_text StrayClose = codes "stray close"
kind_text (Command why) = refusal_text why

-- the commands are counted from 1 over all that are read
unfoldable pub error_line : ℕ → Kind → List ℕ
error_line command kind = codes "(error \"command " ++ (decimal command ++ (codes ": " ++ (kind_text kind ++ codes "\")\n")))

-- ---- models and values (SMT-LIB 2.6, sections 4.1.7 and 4.2.6)

-- a numeral, or `(- n)` below 0
abbrev pub number_text : ℤ → List ℕ
number_text (pos n) = decimal n
number_text (negsuc n) = codes "(- " ++ (decimal (suc n) ++ codes ")")

-- the least value of what is minimized
abbrev pub minimum_line : ℤ → List ℕ
minimum_line m = codes "(minimum " ++ (number_text m ++ codes ")\n")

abbrev pub truth_text : Bool → List ℕ
truth_text true = codes "true"
truth_text false = codes "false"

-- a term that is accepted has a value
abbrev pub value_text : Value → List ℕ
value_text (whole n) = number_text n
value_text (truth b) = truth_text b
value_text nothing = []

abbrev pub sort_text : Sort → List ℕ
sort_text sort.Int = codes "Int"
sort_text sort.Bool = codes "Bool"

-- what stands before a name's value; names are written as symbols are
abbrev pub signature_text : Declaration → List ℕ
signature_text d =
    codes "  (define-fun " ++ (written Symbol d.name ++ (codes " () " ++ (sort_text d.sort ++ codes " ")))

-- a name with its value
abbrev pub definition_line : Declaration → NamedValue → List ℕ
definition_line d v = signature_text d ++ (value_text (value_of_named v) ++ codes ")\n")

abbrev pub definition_lines : List Declaration → List NamedValue → List ℕ
definition_lines (d ∷ names) (v ∷ values) = definition_line d v ++ definition_lines names values
definition_lines _ _ = []

-- the names with their values, in order of declaration, a line of each
abbrev pub model_lines : List Declaration → List NamedValue → List ℕ
model_lines names values = codes "(\n" ++ (definition_lines names values ++ codes ")\n")

-- a term, as s-expressions are written, with its value
abbrev pub pair_text : Sexpr → Value → List ℕ
pair_text t v = codes "(" ++ (text_of t ++ (codes " " ++ (value_text v ++ codes ")")))

-- the pairs behind another, each behind a space, and what ends the line
abbrev pub pairs_behind : (Sexpr → Value) → Items → List ℕ
pairs_behind value_of none = codes ")\n"
pairs_behind value_of (more t ts) = codes " " ++ (pair_text t (value_of t) ++ pairs_behind value_of ts)

abbrev pub pairs_text : (Sexpr → Value) → Items → List ℕ
pairs_text value_of none = codes ")\n"
pairs_text value_of (more t ts) = pair_text t (value_of t) ++ pairs_behind value_of ts

-- the terms with their values, in order
abbrev pub values_line : (Sexpr → Value) → Items → List ℕ
values_line value_of ts = codes "(" ++ pairs_text value_of ts

-- ---- unsatisfiable cores (SMT-LIB 2.6, section 4.2.7)

-- a name in front of others, of an assertion that is cited and has one
abbrev pub with_name : Bool → Option (List ℕ) → List (List ℕ) → List (List ℕ)
with_name true (Some name) names = name ∷ names
with_name _ _ names = names

-- the names of the cited assertions, in order, where the first of the assertions has this number
abbrev pub cited_names : (ℕ → Bool) → ℕ → List (Option (List ℕ)) → List (List ℕ)
cited_names cited number [] = []
cited_names cited number (label ∷ labels) = with_name (cited number) label (cited_names cited (suc number) labels)

-- the names behind another, each behind a space, and what ends the line
abbrev pub names_behind : List (List ℕ) → List ℕ
names_behind [] = codes ")\n"
names_behind (name ∷ names) = codes " " ++ (written Symbol name ++ names_behind names)

abbrev pub names_text : List (List ℕ) → List ℕ
names_text [] = codes ")\n"
names_text (name ∷ names) = written Symbol name ++ names_behind names

-- names, written as symbols are
abbrev pub core_line : List (List ℕ) → List ℕ
core_line names = codes "(" ++ names_text names

-- the cited ones of these assumptions, in order, where the first one has this number
abbrev pub with_item : Bool → Sexpr → Items → Items
with_item true x xs = more x xs
with_item false x xs = xs

abbrev pub cited_items : (ℕ → Bool) → ℕ → Items → Items
cited_items cited number none = none
cited_items cited number (more x xs) = with_item (cited number) x (cited_items cited (suc number) xs)

-- a list, as s-expressions are written
abbrev pub assumptions_line : Items → List ℕ
assumptions_line literals = text_of (list literals) ++ codes "\n"

-- ---- information and echoes

-- so many levels are above the bottom
abbrev pub information_line : Information → ℕ → List ℕ
information_line Name levels = codes "(:name \"dtp\")\n"
information_line Version levels = codes "(:version \"1\")\n"
information_line Authors levels = codes "(:authors \"dtp\")\n"
information_line ErrorBehavior levels = codes "(:error-behavior immediate-exit)\n"
information_line AssertionStackLevels levels =
    codes "(:assertion-stack-levels " ++ (decimal levels ++ codes ")\n")

-- a text in its quotation marks
abbrev pub echo_line : List ℕ → List ℕ
echo_line text = text ++ codes "\n"
