-- Two worked refutations, made by hand.
use Rattle.std.specs.Prelude.{ℕ, ℤ, pos, negsuc, List, [], ◌∷◌}
use Rattle.stn_core.specs.declared.literal.Literal.{Literal}
use Rattle.refute_tree.specs.declared.step.Step.TheVariants.{Cycle, Input}
use Rattle.refute_tree.specs.declared.lemma.Lemma.{Lemma}

abbrev pub literal : ℕ → ℕ → ℤ → Literal
literal x y c = record { x = x; y = y; c = c }

-- the bound -1
abbrev pub less : ℤ
less = negsuc 0

-- x < y and y < x, where x is point 1 and y is point 2
abbrev pub two_orders : List (List Literal)
two_orders = (literal 1 2 less ∷ []) ∷ (literal 2 1 less ∷ []) ∷ []

abbrev pub two_orders_refutation : List Lemma
two_orders_refutation = record {
  clause = [];
  steps = Input 0 ∷ Input 1 ∷ Cycle (literal 1 2 less ∷ literal 2 1 less ∷ []) ∷ [];
} ∷ []

-- p and q, or x < 0; not p; x >= 0. Point 0 is zero, and a Boolean is true where its point is at most zero: p is
-- point 1, q is point 2, x is point 3, and point 4 stands for p and q, with the first three clauses
abbrev pub two_ways : List (List Literal)
two_ways =
    (literal 0 4 less ∷ literal 1 0 (pos 0) ∷ [])
    ∷ (literal 0 4 less ∷ literal 2 0 (pos 0) ∷ [])
    ∷ (literal 4 0 (pos 0) ∷ literal 0 1 less ∷ literal 0 2 less ∷ [])
    ∷ (literal 4 0 (pos 0) ∷ literal 3 0 less ∷ [])
    ∷ (literal 0 1 less ∷ [])
    ∷ (literal 0 3 (pos 0) ∷ [])
    ∷ []

abbrev pub two_ways_refutation : List Lemma
two_ways_refutation = record {
  clause = [];
  steps =
      Input 4
      ∷ Input 5
      ∷ Input 3
      ∷ Input 0
      ∷ Cycle (literal 4 0 (pos 0) ∷ literal 0 4 less ∷ [])
      ∷ Cycle (literal 1 0 (pos 0) ∷ literal 0 1 less ∷ [])
      ∷ Cycle (literal 3 0 less ∷ literal 0 3 (pos 0) ∷ [])
      ∷ [];
} ∷ []
