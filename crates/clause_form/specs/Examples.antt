-- Small tables for the examples.
use Rattle.std.specs.Prelude.{ℕ, List, [], ◌∷◌, ℤ, pos, negsuc}
use Rattle.stn_core.specs.declared.literal.Literal.{Literal}
use Rattle.idl_node.specs.Nodes.{NodeValue, atom, denial, conjunction, disjunction}

abbrev pub literal : ℕ → ℕ → ℤ → Literal
literal x y c = record { x = x; y = y; c = c }

-- point p is at most the zero point, or isn't
abbrev pub yes : ℕ → Literal
yes p = literal p 0 (pos 0)

abbrev pub no : ℕ → Literal
no p = literal 0 p (negsuc 0)

-- over the names p, q of sort Bool and x of sort Int: (or (and p q) (< x 0)), (not p), (>= x 0)
abbrev pub either_nodes : List NodeValue
either_nodes =
    atom (yes 1) ∷ atom (yes 2) ∷ conjunction (0 ∷ 1 ∷ []) ∷ atom (literal 3 0 (negsuc 0)) ∷ disjunction (2 ∷ 3 ∷ []) ∷ atom (no 1) ∷ atom (literal 0 3 (pos 0)) ∷ []

-- over the names p and q: (not (or p q)), (or (not (or p q)) (and p q)), (and p q)
abbrev pub mixed_nodes : List NodeValue
mixed_nodes = atom (yes 1) ∷ atom (yes 2) ∷ disjunction (0 ∷ 1 ∷ []) ∷ denial 2 ∷ conjunction (0 ∷ 1 ∷ []) ∷ disjunction (3 ∷ 4 ∷ []) ∷ []
