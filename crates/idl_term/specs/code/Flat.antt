-- What is made of terms of few parts. These are words of the code, and no part of the meaning.
use Rattle.std.specs.Prelude.{◌≡◌, List, [], ◌∷◌, Option, Some, None, Result, Ok, Err}
use Rattle.idl_node.specs.Nodes.{NodeValue}
use Rattle.idl_scope.specs.Scopes.{shown_term}
use Rattle.idl_scope.specs.declared.lowered.Lowered.{Lowered}
use Rattle.idl_apply.specs.Applied.{Made, applied}
use Rattle.idl_apply.specs.Comparing.{follows}
use Rattle.idl_apply.specs.declared.error.TermError.{TermError}
use Rattle.idl_apply.specs.declared.error.TermError.TheVariants.{OutOfMemory, Refused}
use Rattle.idl_apply.specs.declared.error.TermRefusal.{TermRefusal}
use Rattle.idl_apply.specs.declared.operator.Operator.{Operator}

-- what an operator makes of one term, and of two of which the second is made over the table that the first leaves
abbrev pub made_of_one : Operator → Result Made TermRefusal → Result Made TermRefusal
made_of_one o first = follows first (λ a. applied o a.nodes (a.is ∷ []))

abbrev pub made_of_two : Operator → Result Made TermRefusal → (List NodeValue → Result Made TermRefusal) → Result Made TermRefusal
made_of_two o first second = follows first (λ a. follows (second a.nodes) (λ b. applied o b.nodes (a.is ∷ b.is ∷ [])))

-- a call that makes a term, or leaves the table as it was; want of memory says nothing
abbrev pub MayLower : List NodeValue → List NodeValue → Result Made TermRefusal → Result (Option Lowered) TermError → Type 0
MayLower before now made (Ok (Some term)) = made ≡ Ok (record { nodes = now; is = shown_term term })
MayLower before now made (Ok None) = now ≡ before
MayLower before now made (Err (Refused why)) = made ≡ Err why
MayLower before now made (Err OutOfMemory) = Unit {0}
