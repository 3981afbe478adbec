-- What keeps a tree a tree.
use Rattle.std.proofs.Common.{◌≡◌, ℕ, zero, suc, inl, inr, List, [], ◌∷◌, ◌++◌, map, Some, Contains}
use Rattle.std.specs.Prelude.{slice_get}
use Rattle.std.proofs.lemmas.List.Elements.{All-weaker, Contains-append_left, Contains-append_right, Contains-append_cases}
use Rattle.stn_core.specs.declared.literal.Literal.{Literal}
use Rattle.stn_core.specs.Literal.{negation_of}
use Rattle.stn_core.specs.Answer.{IsCycleAmong}
use Rattle.refute_tree.specs.declared.step.Step.{Step}
use Rattle.refute_tree.specs.declared.step.Step.TheVariants.{Cycle, Input, Lemma as Earlier, Clash, Either}
use Rattle.refute_tree.specs.Trees.{clause_of, Tree, Forest, IsDenied, leaf, clash, cases, none, more}

-- each literal of the one list is in the other
abbrev pub AreIn : List Literal → List Literal → Type 0
AreIn fewer many = (l : Literal) → Contains fewer l → Contains many l

AreIn-push : (fewer many : List Literal) (m : Literal) → AreIn fewer many → AreIn (fewer ++ m ∷ []) (many ++ m ∷ [])
AreIn-push fewer many m in_ l h = elim (Contains-append_cases fewer (m ∷ []) l h) [
  | inl a ↦ Contains-append_left many (m ∷ []) l (in_ l a)
  | inr b ↦ Contains-append_right many (m ∷ []) l b
]

pub IsCycleAmong-more : (fewer many cycle : List Literal) → AreIn fewer many → IsCycleAmong fewer cycle → IsCycleAmong many cycle
IsCycleAmong-more fewer many cycle in_ h = record {
  negative = h.negative;
  given = All-weaker (Contains fewer) (Contains many) in_ cycle h.given;
}

pub IsDenied-more : (fewer many clause : List Literal) → AreIn fewer many → IsDenied fewer clause → IsDenied many clause
IsDenied-more fewer many clause in_ h = All-weaker (Contains fewer) (Contains many) in_ (map negation_of clause) h

-- other clauses, among which each step that opens a clause opens the same
module _ (inputs lemmas inputs_new lemmas_new : List (List Literal))
    (kept : (i : ℕ) (clause : List Literal) → slice_get inputs i ≡ Some clause → slice_get inputs_new i ≡ Some clause)
    (same : (s : Step) (clause : List Literal) → clause_of inputs lemmas s ≡ Some clause → clause_of inputs_new lemmas_new s ≡ Some clause) where
  mutual
    pub tree_kept : {fewer : List Literal} {steps rest : List Step} → (many : List Literal) → AreIn fewer many → Tree inputs lemmas fewer steps rest → Tree inputs_new lemmas_new many steps rest
    tree_kept many in_ (leaf {assumed = fewer} {cycle = cycle} h) = leaf (IsCycleAmong-more fewer many cycle in_ h)
    tree_kept many in_ (clash {assumed = fewer} {clause = clause} {i = i} e h) = clash (kept i clause e) (IsDenied-more fewer many clause in_ h)
    tree_kept many in_ (cases {clause = clause} {step = step} e f) = cases (same step clause e) (forest_kept many in_ f)

    forest_kept : {fewer clause : List Literal} {steps rest : List Step} → (many : List Literal) → AreIn fewer many → Forest inputs lemmas fewer clause steps rest → Forest inputs_new lemmas_new many clause steps rest
    forest_kept many in_ none = none
    forest_kept many in_ (more {assumed = fewer} {l = l} t f) =
        more (tree_kept (many ++ l ∷ []) (AreIn-push fewer many l in_) t) (forest_kept (many ++ negation_of l ∷ []) (AreIn-push fewer many (negation_of l) in_) f)

slice_get-longer : (xs ys : List (List Literal)) (j : ℕ) (x : List Literal) → slice_get xs j ≡ Some x → slice_get (xs ++ ys) j ≡ Some x
slice_get-longer [] ys j x e = absurd (cc)
slice_get-longer (y ∷ xs) ys zero x e = e
slice_get-longer (y ∷ xs) ys (suc j) x e = slice_get-longer xs ys j x e

pub tree_assuming_more : (inputs lemmas : List (List Literal)) (fewer many : List Literal) (steps rest : List Step) → Tree inputs lemmas fewer steps rest → AreIn fewer many → Tree inputs lemmas many steps rest
tree_assuming_more inputs lemmas fewer many steps rest t in_ = tree_kept inputs lemmas inputs lemmas (λ i clause e. e) (λ s clause e. e) many in_ t

-- other steps may follow
module _ (inputs lemmas : List (List Literal)) (after : List Step) where
  mutual
    tree_then : {assumed : List Literal} {steps rest : List Step} → Tree inputs lemmas assumed steps rest → Tree inputs lemmas assumed (steps ++ after) (rest ++ after)
    tree_then (leaf h) = leaf h
    tree_then (clash e h) = clash e h
    tree_then (cases e f) = cases e (forest_then f)

    forest_then : {assumed clause : List Literal} {steps rest : List Step} → Forest inputs lemmas assumed clause steps rest → Forest inputs lemmas assumed clause (steps ++ after) (rest ++ after)
    forest_then none = none
    forest_then (more t f) = more (tree_then t) (forest_then f)

pub tree_followed : (inputs lemmas : List (List Literal)) (assumed : List Literal) (steps rest after : List Step) → Tree inputs lemmas assumed steps rest → Tree inputs lemmas assumed (steps ++ after) (rest ++ after)
tree_followed inputs lemmas assumed steps rest after t = tree_then inputs lemmas after t
