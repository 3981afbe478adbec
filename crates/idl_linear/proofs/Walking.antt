-- Walks over summands or their negatives.
use Rattle.std.proofs.Common.{refl, ap, sym, subst, ◌∙◌, arith, ◌≡◌, ℕ, ◌≤◌, List, [], ◌∷◌, ◌++◌, map, Bool, true, false, ℤ, neg_ℤ}
use mathlib.Core.Bool.{not, beq}
use Rattle.std.proofs.lemmas.Int.{ints}
use Rattle.idl_linear.specs.declared.summand.Summand.{Summand}
use Rattle.idl_linear.specs.Limits.{points_limit}
use Rattle.idl_linear.specs.Linear.{negative_summand}
use Rattle.idl_linear.specs.code.Steps.{IsRest}
use Rattle.idl_linear.specs.code.Trees.{since, signed, IsWalk}
use Rattle.idl_linear.proofs.Coefficients.{summand}
use Rattle.idl_linear.proofs.Merging.{rest_of}
use Rattle.idl_linear.proofs.Parts.{since-all, from-weaker, from_ascending}
use Rattle.idl_linear.proofs.Putting.{rest-signed}

-- a tree's first piece, and what is behind it, are all of it
pub walk_whole : (tree part : List Summand) (next : ℕ) → IsRest tree → since 0 tree ≡ part ++ since next tree → part ++ since next tree ≡ tree
walk_whole tree part next r e = sym e ∙ since-all 0 tree (from-weaker 0 1 tree (omega arith) (from_ascending 0 tree r.ascends))

pub walk_starts : (tree part : List Summand) (next : ℕ) → IsRest tree → next ≤ points_limit → since 0 tree ≡ part ++ since next tree → IsWalk (part ++ since next tree) tree next
walk_starts tree part next r le e = record {
  left_rest = subst (λ (l : List Summand). IsRest l) (sym (walk_whole tree part next r e)) r;
  tree_rest = r;
  order = le;
}

-- one step
pub walk_goes_on : (whole items rest tree : List Summand) (s : Summand) (old next : ℕ) → IsWalk whole tree old → whole ≡ items ++ since next tree → items ≡ s ∷ rest → next ≤ points_limit
    → IsWalk (rest ++ since next tree) tree next
walk_goes_on whole items rest tree s old next h e f le = record {
  left_rest = rest_of whole s (rest ++ since next tree) (e ∙ ap (λ (l : List Summand). l ++ since next tree) f) h.left_rest;
  tree_rest = h.tree_rest;
  order = le;
}

-- ---- negatives of negatives

negative_twice : (n : ℤ) → neg_ℤ (neg_ℤ n) ≡ n
negative_twice n = omega (arith, ints)

negatives_twice : (xs : List Summand) → map negative_summand (map negative_summand xs) ≡ xs
negatives_twice [] = refl
negatives_twice (x ∷ xs) =
    ap (λ (c : ℤ). summand x.point c ∷ map negative_summand (map negative_summand xs)) (negative_twice x.coefficient)
    ∙ ap (λ (l : List Summand). x ∷ l) (negatives_twice xs)

pub signed-signed : (a b : Bool) (xs : List Summand) → signed (not (beq a b)) xs ≡ signed b (signed a xs)
signed-signed true true xs = sym (negatives_twice xs)
signed-signed true false xs = refl
signed-signed false true xs = refl
signed-signed false false xs = refl

pub rest-unsigned : (a : Bool) (xs : List Summand) → IsRest (signed a xs) → IsRest xs
rest-unsigned true xs r = subst (λ (l : List Summand). IsRest l) (negatives_twice xs) (rest-signed true (map negative_summand xs) r)
rest-unsigned false xs r = r
