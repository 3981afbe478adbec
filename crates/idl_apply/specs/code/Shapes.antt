-- What calls of the code give, by the definitions. These are words of the code's contracts, and no part of the meaning.
use Rattle.std.specs.Prelude.{◌≡◌, ℕ, List, Result, Ok, Err}
use Rattle.idl_node.specs.Nodes.{NodeValue, Placed}
use Rattle.idl_apply.specs.Applied.{Made}
use Rattle.idl_scope.specs.Scopes.{shown_term}
use Rattle.idl_apply.specs.declared.error.TermError.{TermError}
use Rattle.idl_apply.specs.declared.error.TermError.TheVariants.{OutOfMemory, Refused}
use Rattle.idl_apply.specs.declared.error.TermRefusal.{TermRefusal}
use Rattle.idl_scope.specs.declared.lowered.Lowered.{Lowered}

-- a call that makes a term leaves this table; want of memory says nothing
abbrev pub Lowers : List NodeValue → Result Made TermRefusal → Result Lowered TermError → Type 0
Lowers now made (Ok term) = made ≡ Ok (record { nodes = now; is = shown_term term })
Lowers now made (Err (Refused why)) = made ≡ Err why
Lowers now made (Err OutOfMemory) = Unit {0}

-- a call that makes a node
abbrev pub Places : List NodeValue → Result Placed TermRefusal → Result ℕ TermError → Type 0
Places now made (Ok number) = made ≡ Ok (record { nodes = now; number = number })
Places now made (Err (Refused why)) = made ≡ Err why
Places now made (Err OutOfMemory) = Unit {0}

-- a call after which what is made goes on like this; want of memory says nothing
abbrev pub GoesOn : Result Placed TermRefusal → Result Placed TermRefusal → Result (Unit {0}) TermError → Type 0
GoesOn before after (Ok _) = before ≡ after
GoesOn before after (Err (Refused why)) = before ≡ Err why
GoesOn before after (Err OutOfMemory) = Unit {0}
