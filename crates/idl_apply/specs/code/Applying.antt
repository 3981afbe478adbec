-- What the code's own calls give on the way to an application. These are words of the code, and no part of the meaning.
use Rattle.std.specs.Prelude.{◌≡◌, ℕ, List, [], ◌∷◌, true, false, zero, suc, Option, Result, Ok, Err}
use Rattle.stn_core.specs.declared.literal.Literal.{Literal}
use Rattle.idl_linear.specs.declared.error.DifferenceRefusal.{DifferenceRefusal}
use Rattle.idl_linear.specs.declared.error.LinearError.{LinearError}
use Rattle.idl_linear.specs.declared.error.LinearError.TheVariants as linear
use Rattle.idl_linear.specs.Linear.{LinearValue, is_limited}
use Rattle.idl_node.specs.declared.error.NodeError.{NodeError}
use Rattle.idl_node.specs.declared.error.NodeError.TheVariants as node
use Rattle.idl_node.specs.declared.error.NodeRefusal.TheVariants as full
use Rattle.idl_node.specs.Making.{then}
use Rattle.idl_node.specs.Nodes.{NodeValue, atom, conjunction, disjunction, Placed, placed}
use Rattle.idl_cases.specs.Guarded.{CaseValue}
use Rattle.idl_apply.specs.Applied.{a_number, summed}
use Rattle.idl_apply.specs.Comparing.{refusal_of}
use Rattle.idl_apply.specs.declared.operator.Sign.{Sign}
use Rattle.idl_apply.specs.declared.operator.Sign.TheVariants as sign
use Rattle.idl_apply.specs.declared.error.TermError.{TermError}
use Rattle.idl_apply.specs.declared.error.TermError.TheVariants.{OutOfMemory, Refused}
use Rattle.idl_apply.specs.declared.error.TermRefusal.TheVariants.{TooLarge, BoundTooLarge}

-- the errors of what terms are made of, as errors of terms
abbrev pub of_node : NodeError → TermError
of_node node.OutOfMemory = OutOfMemory
of_node (node.Refused full.TooLarge) = Refused TooLarge

abbrev pub of_linear : LinearError → TermError
of_linear linear.OutOfMemory = OutOfMemory
of_linear linear.BoundTooLarge = Refused BoundTooLarge

abbrev pub of_difference : DifferenceRefusal → TermError
of_difference why = Refused (refusal_of why)

-- the sum, where it is within the limits; want of memory says nothing
abbrev pub Sums : LinearValue → Result LinearValue TermError → Type 0
Sums sum (Ok l) = (l ≡ sum) × (is_limited sum ≡ true)
Sums sum (Err (Refused why)) = (why ≡ BoundTooLarge) × (is_limited sum ≡ false)
Sums sum (Err OutOfMemory) = Unit {0}

-- both of two bounds, and one of them
abbrev pub both_atoms : List NodeValue → Literal → Literal → Option Placed
both_atoms nodes l m = then (placed nodes (atom l)) (λ p. then (placed p.nodes (atom m)) (λ q. placed q.nodes (conjunction (p.number ∷ q.number ∷ []))))

abbrev pub either_atom : List NodeValue → Literal → Literal → Option Placed
either_atom nodes l m = then (placed nodes (atom l)) (λ p. then (placed p.nodes (atom m)) (λ q. placed q.nodes (disjunction (p.number ∷ q.number ∷ []))))

-- how many terms there are that the others are taken from: of one term there is none
abbrev pub taken_from : Sign → ℕ → ℕ
taken_from sign.Plus count = count
taken_from sign.Minus zero = 0
taken_from sign.Minus (suc zero) = 0
taken_from sign.Minus (suc (suc count)) = 1

-- the sum of some terms, where it is within the limits; want of memory says nothing
abbrev pub SumsTerms : Sign → List (List CaseValue) → Result (List CaseValue) TermError → Type 0
SumsTerms s terms (Ok cs) = (nodes : List NodeValue) → summed s nodes terms ≡ Ok (a_number nodes cs)
SumsTerms s terms (Err (Refused why)) = (nodes : List NodeValue) → summed s nodes terms ≡ Err why
SumsTerms s terms (Err OutOfMemory) = Unit {0}
