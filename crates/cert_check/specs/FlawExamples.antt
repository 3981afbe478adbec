-- Worked flaws of the refutation of x < y with y < x.
use Rattle.std.specs.Prelude.{ℕ, pos, List, [], ◌∷◌, Option, Some}
use Rattle.stn_core.specs.declared.literal.Literal.{Literal}
use Rattle.refute_tree.specs.declared.step.Step.TheVariants.{Cycle, Input, Clash}
use Rattle.refute_tree.specs.declared.lemma.Lemma.{Lemma}
use Rattle.refute_tree.specs.Examples.{literal, less}
use Rattle.cert_check.specs.declared.flaw.FlawKind.{FlawKind}
use Rattle.cert_check.specs.declared.flaw.Flaw.{Flaw}

-- x < y alone
abbrev pub one_order : List (List Literal)
one_order = (literal 1 2 less ∷ []) ∷ []

-- x <= y and y <= x
abbrev pub two_weak_orders : List (List Literal)
two_weak_orders = (literal 1 2 (pos 0) ∷ []) ∷ (literal 2 1 (pos 0) ∷ []) ∷ []

-- both orders are assumed, and nothing follows
abbrev pub without_leaf : List Lemma
without_leaf = record { clause = []; steps = Input 0 ∷ Input 1 ∷ [] } ∷ []

-- the leaf has a literal that follows from an assumed one
abbrev pub with_weaker_leaf : List Lemma
with_weaker_leaf = record {
  clause = [];
  steps = Input 0 ∷ Input 1 ∷ Cycle (literal 1 2 less ∷ literal 2 1 (pos 0) ∷ []) ∷ [];
} ∷ []

-- the leaf of the two weak orders, whose sum is 0
abbrev pub with_zero_leaf : List Lemma
with_zero_leaf = record {
  clause = [];
  steps = Input 0 ∷ Input 1 ∷ Cycle (literal 1 2 (pos 0) ∷ literal 2 1 (pos 0) ∷ []) ∷ [];
} ∷ []

-- a clash in place of the second input step and its leaf
abbrev pub with_clash : List Lemma
with_clash = record { clause = []; steps = Input 0 ∷ Clash 1 ∷ [] } ∷ []

-- p and not p, where p is point 1, true where it is at most zero
abbrev pub both_truths : List (List Literal)
both_truths = (literal 1 0 (pos 0) ∷ []) ∷ (literal 0 1 less ∷ []) ∷ []

-- at a step of the first lemma
abbrev pub at_step : ℕ → FlawKind → Option Flaw
at_step step kind = Some (record { lemma = 0; step = step; kind = kind })
