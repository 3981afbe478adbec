-- Of the code and not of the meaning: lists of summands as trees hold them.
use Rattle.std.specs.Prelude.{◌≡◌, true, ℕ, ◌≤◌, ◌<◌, ◌==◌, nat_le, List, [], ◌∷◌, map, Bool, if◌then◌else◌, Option, Some, None, ℤ, pos, ◌+ℤ◌}
use Rattle.std.specs.Borrow.{Bor}
use Rattle.std.specs.List.{AllByRecursion, filter}
use Rattle.idl_linear.specs.declared.summand.Summand.{Summand}
use Rattle.idl_linear.specs.Limits.{points_limit}
use Rattle.idl_linear.specs.Linear.{negative_summand, is_within}
use Rattle.idl_linear.specs.code.Steps.{IsRest}

-- what a tree holds, and a number that is larger than those of its parts
pub record TreeValue : Type 0 where
  pub summands : List Summand
  pub height : ℕ

-- the summands, or their negatives
abbrev pub signed : Bool → List Summand → List Summand
signed negated summands = if negated then map negative_summand summands else summands

-- those from a time point on
abbrev pub since : ℕ → List Summand → List Summand
since from summands = filter (λ (s : Summand). nat_le from s.point) summands

abbrev pub AllFrom : ℕ → List Summand → Type 0
AllFrom from summands = AllByRecursion (λ (s : Summand). from ≤ s.point) summands

abbrev pub AllUpTo : ℕ → List Summand → Type 0
AllUpTo end summands = AllByRecursion (λ (s : Summand). s.point < end) summands

-- no coefficient is beyond this in its absolute value
abbrev pub AllWithin : ℕ → List Summand → Type 0
AllWithin greatest summands = AllByRecursion (λ (s : Summand). is_within greatest s.coefficient ≡ true) summands

-- how much there is of a time point
abbrev pub part_at : ℕ → Summand → ℤ
part_at p s = if s.point == p then s.coefficient else pos 0

abbrev pub coefficient_at : ℕ → List Summand → ℤ
coefficient_at p [] = pos 0
coefficient_at p (s ∷ rest) = part_at p s +ℤ coefficient_at p rest

abbrev pub tree_list : Option (Bor TreeValue) → List Summand
tree_list None = []
tree_list (Some t) = t.now.summands

-- what is left of a walk, and the tree that it goes over
pub record IsWalk (left tree : List Summand) (next : ℕ) : Type 0 where
  pub left_rest : IsRest left
  pub tree_rest : IsRest tree
  pub order : next ≤ points_limit
