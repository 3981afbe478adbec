-- What was made of a pair of Int terms before. These are words of the code, and no part of the meaning.
use Rattle.std.specs.Prelude.{◌≡◌, ℕ, ◌<◌, List, [], length, slice_index_or, Ok}
use Rattle.idl_node.specs.Nodes.{NodeValue}
use Rattle.idl_node.specs.code.Repeats.{IsFront}
use Rattle.idl_cases.specs.Guarded.{CaseValue}
use Rattle.idl_cases.specs.code.GuardBounds.{AreGuardsBelow}
use Rattle.idl_apply.specs.Comparing.{cases_compared}
use Rattle.idl_apply.specs.declared.comparing.Relation.{Relation}

abbrev pub term_at : List (List CaseValue) → ℕ → List CaseValue
term_at terms place = slice_index_or terms place []

-- comparing the two gives this number, and no node more, in each table that begins with this one
abbrev pub AreCompared : Relation → List NodeValue → List CaseValue → List CaseValue → ℕ → Type 0
AreCompared relation nodes a b number = (later : List NodeValue) → IsFront nodes later → cases_compared relation later a b ≡ Ok (record { nodes = later; number = number })

-- the guards of all terms are among the first nodes, so many
abbrev pub AreGuarded : ℕ → List (List CaseValue) → Type 0
AreGuarded count terms = (k : ℕ) → k < length terms → AreGuardsBelow count (term_at terms k)
