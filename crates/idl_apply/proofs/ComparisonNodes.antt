-- What is made of pairs, one after another.
use Rattle.std.proofs.Common.{refl, sym, ap, subst, arith, ◌∙◌, ◌≡◌, ◌≤◌, ℕ, List, [], ◌∷◌, length, Bool, true, false, Option, Some, None, pos, neg_ℤ, ℤ, ◌≤ℤ◌}
use Rattle.std.specs.Prelude.{Result, Ok, Err, if◌then◌else◌}
use Rattle.std.proofs.lemmas.Int.{ints}
use Rattle.stn_core.specs.declared.literal.Literal.{Literal}
use Rattle.idl_linear.specs.declared.difference.Difference.{Difference}
use Rattle.idl_linear.specs.declared.error.DifferenceRefusal.{DifferenceRefusal}
use Rattle.idl_linear.specs.declared.error.DifferenceRefusal.TheVariants.{BoundTooLarge}
use Rattle.idl_linear.specs.Differences.{difference_by, difference_in, difference_of, ends_of}
use Rattle.idl_linear.specs.Limits.{number_limit}
use Rattle.idl_linear.specs.Linear.{LinearValue, is_within, sum_of, negative_of}
use Rattle.idl_node.specs.declared.error.NodeError.{NodeError}
use Rattle.idl_node.specs.code.Made.{Makes}
use Rattle.idl_node.specs.Making.{then, neighbours}
use Rattle.idl_node.specs.Nodes.{NodeValue, atom, conjunction, disjunction, Placed, placed}
use Rattle.idl_apply.specs.declared.comparing.Relation.{Relation}
use Rattle.idl_apply.specs.declared.comparing.Relation.TheVariants.{Equal, Distinct}
use Rattle.idl_apply.specs.code.Applying.{both_atoms, either_atom}
use Rattle.idl_apply.specs.Comparing.{at_most, below, at_least, above, related}

-- ---- a difference's number

abbrev number_or : Result Difference DifferenceRefusal → ℤ
number_or (Ok d) = d.n
number_or (Err why) = pos 0

tested : (x y : ℕ) (n : ℤ) (b : Bool) (d : Difference) → is_within number_limit n ≡ b → (if b then Ok (record { x = x; y = y; n = n }) else Err BoundTooLarge) ≡ Ok d → is_within number_limit d.n ≡ true
tested x y n true d e f = ap (is_within number_limit) (sym (ap number_or f)) ∙ e
tested x y n false d e f = ap (λ r. is_within number_limit (number_or r)) (sym f) ∙ refl

by_ends : (ends : Option (ℕ × ℕ)) (constant : ℤ) (d : Difference) → difference_by ends constant ≡ Ok d → is_within number_limit d.n ≡ true
by_ends None constant d e = cc
by_ends (Some p) constant d e = tested p.0 p.1 (neg_ℤ constant) (is_within number_limit (neg_ℤ constant)) d refl e

-- a comparison's number is within its limit
pub number_is_within : (l : LinearValue) (d : Difference) → difference_in l ≡ Ok d → is_within number_limit d.n ≡ true
number_is_within l d e = by_ends (ends_of l.summands) l.constant d e

pub number_low : (l : LinearValue) (d : Difference) → difference_in l ≡ Ok d → neg_ℤ (pos number_limit) ≤ℤ d.n
number_low l d e = let h = number_is_within l d e in grind (arith, ints, h)

pub number_high : (l : LinearValue) (d : Difference) → difference_in l ≡ Ok d → d.n ≤ℤ pos number_limit
number_high l d e = let h = number_is_within l d e in grind (arith, ints, h)

pub difference_low : (a b : LinearValue) (d : Difference) → difference_of a b ≡ Ok d → neg_ℤ (pos number_limit) ≤ℤ d.n
unfolding difference_of
difference_low a b d e = number_low (sum_of (a ∷ negative_of b ∷ [])) d e

pub difference_high : (a b : LinearValue) (d : Difference) → difference_of a b ≡ Ok d → d.n ≤ℤ pos number_limit
unfolding difference_of
difference_high a b d e = number_high (sum_of (a ∷ negative_of b ∷ [])) d e

-- ---- a relation

module _ (nodes now : List NodeValue) (relation : Relation) (d : Difference) (l : Literal) (result : Result ℕ NodeError) (made : Makes now (placed nodes (atom l)) result) where
  pub related_one : (r : Relation) (m : Literal) → relation ≡ r → l ≡ m → placed nodes (atom m) ≡ related nodes r d → Makes now (related nodes relation d) result
  related_one r m e f g = subst (λ (o : Option Placed). Makes now o result) (ap (λ (k : Literal). placed nodes (atom k)) f ∙ g ∙ ap (λ (s : Relation). related nodes s d) (sym e)) made

pub related_both : (nodes now : List NodeValue) (relation : Relation) (d : Difference) (l m : Literal) (result : Result ℕ NodeError) → relation ≡ Equal → l ≡ at_most d → m ≡ at_least d → Makes now (both_atoms nodes l m) result → Makes now (related nodes relation d) result
related_both nodes now relation d l m result e f g made =
    subst (λ (o : Option Placed). Makes now o result) (ap (λ (k : Literal). both_atoms nodes k m) f ∙ ap (both_atoms nodes (at_most d)) g ∙ ap (λ (s : Relation). related nodes s d) (sym e)) made

pub related_either : (nodes now : List NodeValue) (relation : Relation) (d : Difference) (l m : Literal) (result : Result ℕ NodeError) → relation ≡ Distinct → l ≡ below d → m ≡ above d → Makes now (either_atom nodes l m) result → Makes now (related nodes relation d) result
related_either nodes now relation d l m result e f g made =
    subst (λ (o : Option Placed). Makes now o result) (ap (λ (k : Literal). either_atom nodes k m) f ∙ ap (either_atom nodes (below d)) g ∙ ap (λ (s : Relation). related nodes s d) (sym e)) made

module _ (nodes middle later now : List NodeValue) (l m : Literal) (first second : ℕ) (members : List ℕ) (result : Result ℕ NodeError)
    (one : placed nodes (atom l) ≡ Some (record { nodes = middle; number = first })) (two : placed middle (atom m) ≡ Some (record { nodes = later; number = second })) (are : members ≡ first ∷ second ∷ []) where
  pub both_made : Makes now (placed later (conjunction members)) result → Makes now (both_atoms nodes l m) result
  both_made h = subst (λ (o : Option Placed). Makes now o result)
      (sym (ap (λ (o : Option Placed). (then) o (λ p. (then) (placed p.nodes (atom m)) (λ q. placed q.nodes (conjunction (p.number ∷ q.number ∷ []))))) one
      ∙ ap (λ (o : Option Placed). (then) o (λ q. placed q.nodes (conjunction (first ∷ q.number ∷ [])))) two
      ∙ ap (λ (ms : List ℕ). placed later (conjunction ms)) (sym are))) h

  pub either_made : Makes now (placed later (disjunction members)) result → Makes now (either_atom nodes l m) result
  either_made h = subst (λ (o : Option Placed). Makes now o result)
      (sym (ap (λ (o : Option Placed). (then) o (λ p. (then) (placed p.nodes (atom m)) (λ q. placed q.nodes (disjunction (p.number ∷ q.number ∷ []))))) one
      ∙ ap (λ (o : Option Placed). (then) o (λ q. placed q.nodes (disjunction (first ∷ q.number ∷ [])))) two
      ∙ ap (λ (ms : List ℕ). placed later (disjunction ms)) (sym are))) h

-- ---- neighbours

-- one term has no neighbour
pub neighbours_none : {A : Type 0} (ls : List A) → length ls ≤ 1 → neighbours ls ≡ []
neighbours_none [] h = refl
neighbours_none (a ∷ []) h = refl
neighbours_none (a ∷ b ∷ rest) h = absurd (omega arith)
