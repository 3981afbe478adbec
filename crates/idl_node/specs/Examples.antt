-- The tables of the worked examples.
use Rattle.std.specs.Prelude.{ℕ, List, [], ◌∷◌, ℤ, pos, negsuc}
use Rattle.stn_core.specs.declared.literal.Literal.{Literal}
use Rattle.idl_node.specs.Nodes.{NodeValue, atom, conjunction, disjunction}

abbrev pub literal : ℕ → ℕ → ℤ → Literal
literal x y c = record { x = x; y = y; c = c }

-- the first name's point is at most 4, and the second's at most 0
abbrev pub two_atoms : List NodeValue
two_atoms = atom (literal 1 0 (pos 4)) ∷ atom (literal 2 0 (pos 0)) ∷ []

-- one of the two
abbrev pub with_or : List NodeValue
with_or = atom (literal 1 0 (pos 4)) ∷ atom (literal 2 0 (pos 0)) ∷ disjunction (0 ∷ 1 ∷ []) ∷ []

-- exactly one of the two: the first and not the second, or not the first and the second
abbrev pub with_xor : List NodeValue
with_xor =
    atom (literal 1 0 (pos 4)) ∷ atom (literal 2 0 (pos 0)) ∷ atom (literal 0 2 (negsuc 0)) ∷ conjunction (0 ∷ 2 ∷ [])
    ∷ atom (literal 0 1 (negsuc 4)) ∷ conjunction (4 ∷ 1 ∷ []) ∷ disjunction (3 ∷ 5 ∷ []) ∷ []
