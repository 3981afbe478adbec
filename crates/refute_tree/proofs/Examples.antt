-- The worked refutations are ones.
use Rattle.std.proofs.Common.{arith, ◌≡◌, ℕ, List, [], ◌∷◌, All, Contains, pos, ◌+ℤ◌, ◌<ℤ◌, refl}
use Rattle.std.proofs.lemmas.Int.{ints}
use Rattle.std.proofs.lemmas.List.Elements.{All-nil, All-cons, All-same}
use Rattle.stn_core.specs.declared.literal.Literal.{Literal}
use Rattle.stn_core.specs.Answer.{IsCycleAmong}
use Rattle.refute_tree.specs.declared.step.Step.{Step}
use Rattle.refute_tree.specs.declared.step.Step.TheVariants.{Cycle, Input}
use Rattle.refute_tree.specs.Trees.{Tree, leaf, cases, none, more, IsOnPoints, literals_named, NamesPoints, IsRefutation}
use Rattle.refute_tree.specs.Examples.{literal, less, two_orders, two_orders_refutation, two_ways, two_ways_refutation}
use Rattle.refute_tree.proofs.Alone.{alone}

abbrev NameNone : List Step → Type 0
NameNone [] = Unit {0}
NameNone (step ∷ steps) = (literals_named step ≡ []) × NameNone steps

names_none : (points : ℕ) (steps : List Step) → NameNone steps → All (NamesPoints points) steps
names_none points [] h = All-nil (NamesPoints points)
names_none points (step ∷ steps) h = All-cons (NamesPoints points) step steps (All-same (IsOnPoints points) (literals_named step) [] h.0 (All-nil (IsOnPoints points))) (names_none points steps h.1)

-- two literals that lead back
two_cycle : (assumed : List Literal) (a b : Literal) → Contains assumed a → Contains assumed b → b.x ≡ a.y → b.y ≡ a.x → (a.c +ℤ (b.c +ℤ pos 0)) <ℤ pos 0 → IsCycleAmong assumed (a ∷ b ∷ [])
two_cycle assumed a b in_a in_b there back below = record {
  negative = record { some = omega arith; closed = (a.x, (refl, (there, back))); negative = below };
  given = All-cons (Contains assumed) a (b ∷ []) in_a (All-cons (Contains assumed) b [] in_b (All-nil (Contains assumed)));
}

abbrev two_orders_steps : List Step
two_orders_steps = Input 0 ∷ Input 1 ∷ Cycle (literal 1 2 less ∷ literal 2 1 less ∷ []) ∷ []

-- each leaf names the places at which its two literals are assumed
two_orders_tree : Tree two_orders [] [] two_orders_steps []
two_orders_tree =
    cases refl (more (cases refl (more (leaf (two_cycle _ _ _ (0, omega arith, refl) (1, omega arith, refl) refl refl (omega (arith, ints)))) none)) none)

two_orders_on_points : All (NamesPoints 3) two_orders_steps
two_orders_on_points = names_none 3 two_orders_steps (refl, (refl, (refl, tt)))

pub two_orders_refuted : IsRefutation 3 two_orders two_orders_refutation
two_orders_refuted = alone 3 two_orders _ refl (record { clause = All-nil (IsOnPoints 3); steps = two_orders_on_points; tree = two_orders_tree })

abbrev two_ways_steps : List Step
two_ways_steps =
    Input 4
    ∷ Input 5
    ∷ Input 3
    ∷ Input 0
    ∷ Cycle (literal 4 0 (pos 0) ∷ literal 0 4 less ∷ [])
    ∷ Cycle (literal 1 0 (pos 0) ∷ literal 0 1 less ∷ [])
    ∷ Cycle (literal 3 0 less ∷ literal 0 3 (pos 0) ∷ [])
    ∷ []

two_ways_tree : Tree two_ways [] [] two_ways_steps []
two_ways_tree =
    cases refl (more (cases refl (more (cases refl
    (more (cases refl
    (more (leaf (two_cycle _ _ _ (2, omega arith, refl) (3, omega arith, refl) refl refl (omega (arith, ints))))
    (more (leaf (two_cycle _ _ _ (4, omega arith, refl) (0, omega arith, refl) refl refl (omega (arith, ints)))) none)))
    (more (leaf (two_cycle _ _ _ (3, omega arith, refl) (1, omega arith, refl) refl refl (omega (arith, ints)))) none))) none)) none)

two_ways_on_points : All (NamesPoints 5) two_ways_steps
two_ways_on_points = names_none 5 two_ways_steps (refl, (refl, (refl, (refl, (refl, (refl, (refl, tt)))))))

pub two_ways_refuted : IsRefutation 5 two_ways two_ways_refutation
two_ways_refuted = alone 5 two_ways _ refl (record { clause = All-nil (IsOnPoints 5); steps = two_ways_on_points; tree = two_ways_tree })
