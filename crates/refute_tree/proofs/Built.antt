-- What the builders build.
use Rattle.std.proofs.Common.{arith, ◌≡◌, ℕ, List, [], ◌∷◌, ◌++◌, Some, length, append-nil, subst, sym, ◌∙◌}
use Rattle.std.specs.Prelude.{slice_get}
use Rattle.stn_core.specs.declared.literal.Literal.{Literal}
use Rattle.stn_core.specs.Literal.{negation_of}
use Rattle.stn_core.specs.Answer.{IsCycleAmong}
use Rattle.refute_tree.specs.declared.step.Step.{Step}
use Rattle.refute_tree.specs.declared.step.Step.TheVariants.{Cycle, Clash}
use Rattle.refute_tree.specs.Trees.{clause_of, Tree, Forest, AreTrees, IsDenied, joined, leaf, clash, cases, none, more}
use Rattle.refute_tree.proofs.Kept.{tree_followed}

forest_of_trees : (inputs lemmas : List (List Literal)) (assumed clause : List Literal) (children : List (List Step)) → AreTrees inputs lemmas assumed clause children → Forest inputs lemmas assumed clause (joined children) []
forest_of_trees inputs lemmas assumed [] [] h = none
forest_of_trees inputs lemmas assumed [] (child ∷ children) h = absurd h
forest_of_trees inputs lemmas assumed (l ∷ clause) [] h = absurd h
forest_of_trees inputs lemmas assumed (l ∷ clause) (child ∷ children) h =
    more (tree_followed inputs lemmas (assumed ++ l ∷ []) child [] (joined children) h.0) (forest_of_trees inputs lemmas (assumed ++ negation_of l ∷ []) clause children h.1)

pub built_leaf : (inputs lemmas : List (List Literal)) (assumed cycle : List Literal) (steps : List Step) → steps ≡ Cycle cycle ∷ [] → IsCycleAmong assumed cycle → Tree inputs lemmas assumed steps []
built_leaf inputs lemmas assumed cycle steps e h = subst (λ (s : List Step). Tree inputs lemmas assumed s []) (sym e) (leaf h)

pub built_clash : (inputs lemmas : List (List Literal)) (assumed clause : List Literal) (i : ℕ) (steps : List Step) → steps ≡ Clash i ∷ [] → slice_get inputs i ≡ Some clause → IsDenied assumed clause → Tree inputs lemmas assumed steps []
built_clash inputs lemmas assumed clause i steps e is h = subst (λ (s : List Step). Tree inputs lemmas assumed s []) (sym e) (clash is h)

pub built_cases : (inputs lemmas : List (List Literal)) (assumed clause : List Literal) (step : Step) (children : List (List Step)) (steps : List Step) → steps ≡ step ∷ joined children → clause_of inputs lemmas step ≡ Some clause → AreTrees inputs lemmas assumed clause children → Tree inputs lemmas assumed steps []
built_cases inputs lemmas assumed clause step children steps e is h = subst (λ (s : List Step). Tree inputs lemmas assumed s []) (sym e) (cases is (forest_of_trees inputs lemmas assumed clause children h))
