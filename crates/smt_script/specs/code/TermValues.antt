-- What the code shows of a term's value, and which terms have one.
use Rattle.std.specs.Prelude.{◌≡◌, List, Ok, Err}
use Rattle.smt_sexpr.specs.Tree.{Sexpr}
use Rattle.stn_core.specs.declared.named.NamedValue.{NamedValue}
use Rattle.idl_apply.specs.Applied.{Made}
use Rattle.idl_term.specs.Contexts.{environment, scope_of}
use Rattle.idl_term.specs.Lowered.{lowered}
use Rattle.idl_term.specs.Values.{Value, whole, truth, value}
use Rattle.idl_apply.specs.declared.error.TermRefusal.{TermRefusal}
use Rattle.smt_script.specs.States.{State}
use Rattle.smt_script.specs.declared.value.TermValue.{TermValue}
use Rattle.smt_script.specs.declared.value.TermValue.TheVariants.{Int, Truth}

abbrev pub value_shown : TermValue → Value
value_shown (Int n) = whole n
value_shown (Truth b) = truth b

-- the term is one that may stand in a command in this state
abbrev pub IsAccepted : State → Sexpr → Type 0
IsAccepted s x = (made : Made) × (lowered (scope_of s.context) s.context.nodes x ≡ Ok made)

abbrev pub IsRefused : State → Sexpr → TermRefusal → Type 0
IsRefused s x why = lowered (scope_of s.context) s.context.nodes x ≡ Err why

-- the term's value, where the names have these values
abbrev pub IsValue : State → List NamedValue → Sexpr → TermValue → Type 0
IsValue s values x v = value (environment s.context values) x ≡ value_shown v
