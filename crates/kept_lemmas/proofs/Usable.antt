-- What right items state may be used in their problem.
use Rattle.std.proofs.Common.{arith, ◌≡◌, ℕ, zero, suc, ◌<◌, List, [], ◌∷◌, ◌++◌, length, map, flat_map, take, Option, Some, None, All, Contains, refl, subst}
use Rattle.std.specs.Prelude.{slice_get}
use Rattle.std.proofs.lemmas.List.Elements.{All-nil, All-cons, All-append, All-head, All-tail}
use Rattle.stn_core.specs.declared.literal.Literal.{Literal}
use Rattle.refute_tree.specs.declared.step.Step.{Step}
use Rattle.refute_tree.specs.declared.step.Step.TheVariants.{Cycle, Input, Lemma as Earlier, Clash, Either}
use Rattle.refute_tree.specs.declared.lemma.Lemma.{Lemma}
use Rattle.refute_tree.specs.Trees.{IsOnPoints, NamesPoints, IsRefuted}
use Rattle.kept_lemmas.specs.declared.item.Item.{Item}
use Rattle.kept_lemmas.specs.declared.item.Item.TheVariants.{Own, Keep}
use Rattle.kept_lemmas.specs.Facts.{Fact, Facts, Shelf, stated_by, support_of_clause, support_of_fact, named_by_fact, step_support, step_named, own_fact, kept_fact, fact_or_none, item_fact, facts_from, facts_of}
use Rattle.kept_lemmas.specs.Entries.{IsUsable, IsItemRight, AreRight}
use Rattle.kept_lemmas.proofs.FactLists.{all_at, facts-each}

pub all_flat : {X Y : Type 0} (P : Y → Type 0) (f : X → List Y) (xs : List X) → All (λ (x : X). All P (f x)) xs → All P (flat_map f xs)
all_flat P f [] all = All-nil P
all_flat {X} P f (x ∷ xs) all =
    let Q : X → Type 0 = λ (z : X). All P (f z) in
    All-append P (f x) (flat_map f xs) (All-head Q x xs all) (all_flat P f xs (All-tail Q x xs all))

pub at_contained : {X : Type 0} (xs : List X) (k : ℕ) (x : X) → slice_get xs k ≡ Some x → Contains xs x
at_contained [] k x e = absurd (cc)
at_contained (y ∷ ys) zero x e = let s : y ≡ x = cc in (0, omega arith, s)
at_contained (y ∷ ys) (suc k) x e = let h = at_contained ys k x e in (suc h.0, omega (arith, h.1), h.2)

module _ (shelf : Shelf) (points : ℕ) (clauses : List (List Literal)) where
  abbrev Usable : Fact → Type 0
  Usable fact = IsUsable points clauses fact

  clause_active : (i : ℕ) (found : Option (List Literal)) → slice_get clauses i ≡ found → All (Contains clauses) (support_of_clause found)
  clause_active i None e = All-nil (Contains clauses)
  clause_active i (Some clause) e = All-cons (Contains clauses) clause [] (at_contained clauses i clause e) (All-nil (Contains clauses))

  fact_active : (facts : Facts) (j : ℕ) (found : Option Fact) → All Usable facts → slice_get facts j ≡ found → All (Contains clauses) (support_of_fact found)
  fact_active facts j None all e = All-nil (Contains clauses)
  fact_active facts j (Some fact) all e = (all_at Usable facts j fact all e).active

  step_active : (facts : Facts) → All Usable facts → (s : Step) → All (Contains clauses) (step_support clauses facts s)
  step_active facts all (Cycle cycle) = All-nil (Contains clauses)
  step_active facts all (Input i) = clause_active i (slice_get clauses i) refl
  step_active facts all (Earlier j) = fact_active facts j (slice_get facts j) all refl
  step_active facts all (Clash i) = clause_active i (slice_get clauses i) refl
  step_active facts all (Either l) = All-nil (Contains clauses)

  fact_on_points : (facts : Facts) (j : ℕ) (found : Option Fact) → All Usable facts → slice_get facts j ≡ found → All (IsOnPoints points) (named_by_fact found)
  fact_on_points facts j None all e = All-nil (IsOnPoints points)
  fact_on_points facts j (Some fact) all e = (all_at Usable facts j fact all e).on_points

  step_on_points : (facts : Facts) → All Usable facts → (s : Step) → NamesPoints points s → All (IsOnPoints points) (step_named facts s)
  step_on_points facts all (Cycle cycle) h = h
  step_on_points facts all (Input i) h = h
  step_on_points facts all (Earlier j) h = fact_on_points facts j (slice_get facts j) all refl
  step_on_points facts all (Clash i) h = h
  step_on_points facts all (Either l) h = h

  all_active : (facts : Facts) → All Usable facts → (steps : List Step) → All (Contains clauses) (flat_map (step_support clauses facts) steps)
  all_active facts all [] = All-nil (Contains clauses)
  all_active facts all (s ∷ steps) = All-append (Contains clauses) (step_support clauses facts s) (flat_map (step_support clauses facts) steps) (step_active facts all s) (all_active facts all steps)

  all_on_points : (facts : Facts) → All Usable facts → (steps : List Step) → All (NamesPoints points) steps → All (IsOnPoints points) (flat_map (step_named facts) steps)
  all_on_points facts all [] h = All-nil (IsOnPoints points)
  all_on_points facts all (s ∷ steps) h =
      All-append (IsOnPoints points) (step_named facts s) (flat_map (step_named facts) steps) (step_on_points facts all s (All-head (NamesPoints points) s steps h)) (all_on_points facts all steps (All-tail (NamesPoints points) s steps h))

  pub own_usable : (facts : Facts) (lemma : Lemma) → All Usable facts → IsRefuted points clauses (map stated_by facts) lemma → Usable (own_fact clauses facts lemma)
  own_usable facts lemma all r = record {
    on_points = All-append (IsOnPoints points) lemma.clause (flat_map (step_named facts) lemma.steps) r.clause (all_on_points facts all lemma.steps r.steps);
    active = all_active facts all lemma.steps;
  }

  pub item_usable : (facts : Facts) (item : Item) → All Usable facts → IsItemRight shelf points clauses facts item → Usable (item_fact shelf clauses facts item)
  item_usable facts (Own lemma) all h = own_usable facts lemma all h
  item_usable facts (Keep kept) all h =
      let there = h.there in
      rw there (h.usable)

  pub usable : (items : List Item) → AreRight shelf points clauses items → All Usable (facts_of shelf clauses items)
  usable items r = facts-each shelf clauses Usable [] items (All-nil Usable) (λ j item is all. item_usable (facts_of shelf clauses (take j items)) item all (r.each j item is))
