-- The guards of branches are those of their cases, and one more each; those of sums are those of what is added.
use Rattle.std.proofs.Common.{subst, sym, ◌≡◌, ◌<◌, ℕ, List, [], ◌∷◌, ◌++◌, map, Bool, true, false}
use Rattle.std.specs.List.{AllByRecursion}
use Rattle.idl_linear.specs.Linear.{LinearValue}
use Rattle.idl_cases.specs.Guarded.{CaseValue, guarded, branched, plain}
use Rattle.idl_cases.specs.code.CaseSums.{added, added_each, moved, negated_case, signed_cases}
use Rattle.idl_cases.specs.code.GuardBounds.{AreGuardsBelow, IsCaseBelow}

branch_below : (count g : ℕ) (a b : List CaseValue) → g < count → AreGuardsBelow count a → AreGuardsBelow count b → AreGuardsBelow count (map (guarded g) a ++ b)
branch_below count g [] b lt h k = k
branch_below count g (c ∷ a) b lt h k = ((lt, h.0), branch_below count g a b lt h.1 k)

only_branch : (count g : ℕ) (a : List CaseValue) → g < count → AreGuardsBelow count a → AreGuardsBelow count (map (guarded g) a)
only_branch count g [] lt h = tt
only_branch count g (c ∷ a) lt h = ((lt, h.0), only_branch count g a lt h.1)

negated_below : (count : ℕ) (xs : List CaseValue) → AreGuardsBelow count xs → AreGuardsBelow count (map negated_case xs)
negated_below count [] h = tt
negated_below count (x ∷ xs) h = (h.0, negated_below count xs h.1)

signed_below : (count : ℕ) (s : Bool) (xs : List CaseValue) → AreGuardsBelow count xs → AreGuardsBelow count (signed_cases s xs)
signed_below count true xs h = negated_below count xs h
signed_below count false xs h = h

both_below : (count : ℕ) (gs hs : List ℕ) → AllByRecursion (λ g. g < count) gs → AllByRecursion (λ g. g < count) hs → AllByRecursion (λ g. g < count) (gs ++ hs)
both_below count [] hs h k = k
both_below count (g ∷ gs) hs h k = (h.0, both_below count gs hs h.1 k)

joined_below : (count : ℕ) (xs ys : List CaseValue) → AreGuardsBelow count xs → AreGuardsBelow count ys → AreGuardsBelow count (xs ++ ys)
joined_below count [] ys h k = k
joined_below count (x ∷ xs) ys h k = (h.0, joined_below count xs ys h.1 k)

one_below : (count : ℕ) (x : CaseValue) (ys : List CaseValue) → IsCaseBelow count x → AreGuardsBelow count ys → AreGuardsBelow count (map (added x) ys)
one_below count x [] h k = tt
one_below count x (y ∷ ys) h k = (both_below count x.guards y.guards h k.0, one_below count x ys h k.1)

each_below : (count : ℕ) (xs ys : List CaseValue) → AreGuardsBelow count xs → AreGuardsBelow count ys → AreGuardsBelow count (added_each xs ys)
each_below count [] ys h k = tt
each_below count (x ∷ xs) ys h k = joined_below count (map (added x) ys) (added_each xs ys) (one_below count x ys h.0 k) (each_below count xs ys h.1 k)

more_below : (count : ℕ) (by : LinearValue) (xs : List CaseValue) → AreGuardsBelow count xs → AreGuardsBelow count (map (moved by) xs)
more_below count by [] h = tt
more_below count by (x ∷ xs) h = (h.0, more_below count by xs h.1)

pub same_below : (count : ℕ) (xs cases : List CaseValue) → cases ≡ xs → AreGuardsBelow count xs → AreGuardsBelow count cases
same_below count xs cases e h = subst (λ (cs : List CaseValue). AreGuardsBelow count cs) (sym e) h

pub plain_below : (count : ℕ) (l : LinearValue) (cases : List CaseValue) → cases ≡ plain l → AreGuardsBelow count cases
plain_below count l cases e = same_below count (plain l) cases e (tt, tt)

pub moved_below : (count : ℕ) (by : LinearValue) (xs cases : List CaseValue) → cases ≡ map (moved by) xs → AreGuardsBelow count xs → AreGuardsBelow count cases
moved_below count by xs cases e h = same_below count (map (moved by) xs) cases e (more_below count by xs h)

pub branched_below : (count condition denial : ℕ) (s : Bool) (cases a b : List CaseValue) → cases ≡ signed_cases s (branched condition denial a b) → condition < count → denial < count → AreGuardsBelow count a → AreGuardsBelow count b → AreGuardsBelow count cases
branched_below count condition denial s cases a b e c d h k =
    same_below count (signed_cases s (branched condition denial a b)) cases e (signed_below count s (branched condition denial a b) (branch_below count condition a (map (guarded denial) b) c h (only_branch count denial b d k)))

pub sum_below : (count : ℕ) (s : Bool) (cases a b : List CaseValue) → cases ≡ signed_cases s (added_each a b) → AreGuardsBelow count a → AreGuardsBelow count b → AreGuardsBelow count cases
sum_below count s cases a b e h k = same_below count (signed_cases s (added_each a b)) cases e (signed_below count s (added_each a b) (each_below count a b h k))

pub listed_below : (count : ℕ) (s : Bool) (cases xs : List CaseValue) → cases ≡ signed_cases s xs → AreGuardsBelow count xs → AreGuardsBelow count cases
listed_below count s cases xs e h = same_below count (signed_cases s xs) cases e (signed_below count s xs h)
