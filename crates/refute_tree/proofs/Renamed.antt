-- Steps under new names: where each step opens over the new lemmas what it opened over the old, trees stay trees.
use Rattle.std.proofs.Common.{◌≡◌, ℕ, List, ◌∷◌, Some, map, subst, sym}
use Rattle.stn_core.specs.declared.literal.Literal.{Literal}
use Rattle.refute_tree.specs.declared.step.Step.{Step}
use Rattle.refute_tree.specs.declared.step.Step.TheVariants.{Cycle, Clash}
use Rattle.refute_tree.specs.Trees.{clause_of, Tree, Forest, leaf, clash, cases, none, more}

module _ (inputs lemmas lemmas_new : List (List Literal)) (named : Step → Step)
    (cycle_kept : (cycle : List Literal) → named (Cycle cycle) ≡ Cycle cycle)
    (clash_kept : (i : ℕ) → named (Clash i) ≡ Clash i)
    (same : (s : Step) (clause : List Literal) → clause_of inputs lemmas s ≡ Some clause → clause_of inputs lemmas_new (named s) ≡ Some clause) where
  mutual
    pub tree_named : {assumed : List Literal} {steps rest : List Step} → Tree inputs lemmas assumed steps rest → Tree inputs lemmas_new assumed (map named steps) (map named rest)
    tree_named (leaf {assumed = assumed} {cycle = cycle} {rest = rest} h) = subst (λ (s : Step). Tree inputs lemmas_new assumed (s ∷ map named rest) (map named rest)) (sym (cycle_kept cycle)) (leaf h)
    tree_named (clash {assumed = assumed} {i = i} {rest = rest} e h) = subst (λ (s : Step). Tree inputs lemmas_new assumed (s ∷ map named rest) (map named rest)) (sym (clash_kept i)) (clash e h)
    tree_named (cases {clause = clause} {step = step} e f) = cases (same step clause e) (forest_named f)

    pub forest_named : {assumed clause : List Literal} {steps rest : List Step} → Forest inputs lemmas assumed clause steps rest → Forest inputs lemmas_new assumed clause (map named steps) (map named rest)
    forest_named none = none
    forest_named (more t f) = more (tree_named t) (forest_named f)
