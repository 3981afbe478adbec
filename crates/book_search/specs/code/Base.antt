-- Of the code and not of the meaning: the literals of the clauses with one literal.
use Rattle.std.specs.Prelude.{◌≡◌, ℕ, if◌then◌else◌, List, [], ◌∷◌, ◌++◌, length, flat_map, Option, Some, None, slice_get, slice_index, option_map, All}
use Rattle.std.specs.List.{position, list_any}
use Rattle.stn_core.specs.declared.literal.Literal.{Literal}
use Rattle.stn_core.specs.Literal.{IsOver, same_literal}
use Rattle.refute_tree.specs.declared.step.Step.{Step}
use Rattle.refute_tree.specs.declared.step.Step.TheVariants.{Cycle, Input}

-- different literals, and beside each the number of a clause
pub record Base : Type 0 where
  pub literals : List Literal
  pub numbers : List ℕ

-- the clause with a literal's number has that literal alone
pub record IsBase (clauses : List (List Literal)) (base : Base) : Type 0 where
  pub count : length base.numbers ≡ length base.literals
  pub each : (k : ℕ) (l : Literal) → slice_get base.literals k ≡ Some l
      → slice_get clauses (slice_index base.numbers k) ≡ Some (l ∷ [])

-- the number of a literal's clause, if the literal is one of them
abbrev pub number_of : Base → Literal → Option ℕ
number_of base l = option_map (λ k. slice_index base.numbers k) (position (same_literal l) base.literals)

-- the step that assumes a literal of a unit clause, and none for another literal
abbrev pub steps_of : Option ℕ → List Step
steps_of None = []
steps_of (Some number) = Input number ∷ []

abbrev pub unit_steps : Base → Literal → List Step
unit_steps base l = steps_of (number_of base l)

-- the literals of unit clauses are assumed one after the other, and then the cycle closes the case
abbrev pub cycle_steps : Base → List Literal → List Step
cycle_steps base cycle = flat_map (λ (l : Literal). unit_steps base l) cycle ++ Cycle cycle ∷ []

-- the literal stands at the end with the number, unless it was there before
abbrev pub with_unit : Base → Literal → ℕ → Base
with_unit base l number =
    if list_any (same_literal l) base.literals then base
    else record { literals = base.literals ++ l ∷ []; numbers = base.numbers ++ number ∷ [] }

-- its literals are within the limits where those of the clauses are
abbrev pub BaseIsOver : List (List Literal) → Base → Type 0
BaseIsOver clauses base =
    (points : ℕ) → All (λ (c : List Literal). All (IsOver points) c) clauses
    → All (IsOver points) base.literals
