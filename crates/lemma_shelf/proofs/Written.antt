-- Lemmas written out, one after the other.
use Rattle.std.proofs.Common.{arith, ◌≡◌, ℕ, zero, suc, ◌<◌, ◌≤◌, inl, inr, List, [], ◌∷◌, ◌++◌, length, map, take, Option, Some, All, Contains, refl, sym, ap, subst, ◌∙◌, length-append}
use Rattle.std.specs.Prelude.{slice_get, option_map, MatchOption}
use Rattle.std.specs.List.{AllZip}
use Rattle.std.proofs.lemmas.List.{map-append, length-map, length-take-le}
use Rattle.std.proofs.lemmas.List.Elements.{All-head, All-tail}
use Rattle.std.proofs.lemmas.Option.{slice_get-map, slice_get_within, same_Some}
use Rattle.stn_core.specs.declared.literal.Literal.{Literal}
use Rattle.stn_core.specs.Literal.{negation_of}
use Rattle.refute_tree.specs.declared.step.Step.{Step}
use Rattle.refute_tree.specs.declared.step.Step.TheVariants.{Lemma as Earlier}
use Rattle.refute_tree.specs.declared.lemma.Lemma.{Lemma}
use Rattle.refute_tree.specs.Trees.{Tree, stated}
use Rattle.kept_lemmas.specs.declared.item.Item.{Item}
use Rattle.kept_lemmas.specs.Facts.{Fact, Facts, stated_by, own_fact, facts_of}
use Rattle.kept_lemmas.proofs.FactLists.{facts-append}
use Rattle.lemma_shelf.specs.code.Tables.{own_item, table_facts, fact_at, facts_at, IsKnownStep, IsTable, HaveTrees, IsPresent, steps_at}
use Rattle.lemma_shelf.specs.code.WrittenOut.{IsPlaced, placed_input, placed_clash, placed_earlier, stays_cycle, stays_either, ArePlaced, IsPlacedLemma, AreWrittenOut}
use Rattle.lemma_shelf.proofs.Lists.{some_there, get_longer, get_parts, get_last, take_before, take_front, at_contained, contained_at}
use Rattle.lemma_shelf.proofs.TableFacts.{table_length, table_stated, table_fact, table_taken, fact_is}
use Rattle.lemma_shelf.proofs.Walking.{steps_are}
use Rattle.lemma_shelf.proofs.Alike.{Alike, same_input, same_clash, same_earlier, same_cycle, same_either, tree_moved, fact_same}

pub written_none : (clauses book : List (List Literal)) (lemmas : List Lemma) → AreWrittenOut clauses book lemmas [] []
written_none clauses book lemmas = record { facts = refl; tree = λ j lemma is. absurd (cc); cites = λ k n m lemma is at c. absurd (cc) }

-- ---- what is cited

place_cited : (place : ℕ → Option ℕ) (before : List ℕ) (s t : Step) (m : ℕ) → s ≡ Earlier m → IsPlaced place before s t → (i : ℕ) × (slice_get before i ≡ Some m) × (t ≡ Earlier i)
place_cited place before s t m e (placed_input p) = absurd (cc)
place_cited place before s t m e (placed_clash p) = absurd (cc)
place_cited place before s t m e (placed_earlier {n = n} {j = j} p) = let same : n ≡ m = cc in (j, p ∙ ap (λ (k : ℕ). Some k) same, refl)
place_cited place before s t m e stays_cycle = absurd (cc)
place_cited place before s t m e stays_either = absurd (cc)

places_cited : (place : ℕ → Option ℕ) (before : List ℕ) (steps others : List Step) (m k : ℕ) → ArePlaced place before steps others → slice_get steps k ≡ Some (Earlier m) → (i : ℕ) × (slice_get before i ≡ Some m) × Contains others (Earlier i)
places_cited place before [] others m k h is = absurd (cc)
places_cited place before (s ∷ steps) [] m k h is = elim h [ ]
places_cited place before (s ∷ steps) (t ∷ others) m zero h is =
    let w = place_cited place before s t m (same_Some s (Earlier m) is) h.0 in
    (w.0, w.1, at_contained (t ∷ others) 0 (Earlier w.0) (ap (λ (u : Step). Some u) w.2))
places_cited place before (s ∷ steps) (t ∷ others) m (suc k) h is =
    let w = places_cited place before steps others m k h.1 is in
    let there = contained_at others (Earlier w.0) w.2 in
    (w.0, w.1, at_contained (t ∷ others) (suc there.0) (Earlier w.0) there.1)

module _ (book : List (List Literal)) (lemmas : List Lemma) (points : List ℕ) (table : IsTable book lemmas points) (trees : HaveTrees book lemmas)
    (clauses : List (List Literal)) (place : ℕ → Option ℕ) (present : IsPresent book clauses clauses place) where
  place_there : (n i : ℕ) → n < length book → place n ≡ Some i → (clause : List Literal) × (slice_get book n ≡ Some clause) × (slice_get clauses i ≡ Some clause)
  place_there n i lt e =
      let there = some_there book n lt in
      (there.0, there.1, subst (λ (o : Option ℕ). MatchOption o (Contains clauses there.0 → ⊥) (λ k. slice_get clauses k ≡ Some there.0)) e (present n there.0 there.1))

  module _ (before : List ℕ) (made : List Lemma) (so_far : AreWrittenOut clauses book lemmas before made) (n : ℕ) where
    step_alike : n ≤ length lemmas → (s t : Step) → IsKnownStep (length book) n s → IsPlaced place before s t → Alike book (table_facts book (take n lemmas)) clauses (table_facts clauses made) s t
    step_alike le s t k (placed_input {n = m} {i = i} e) = let there = place_there m i k e in same_input there.1 there.2
    step_alike le s t k (placed_clash {n = m} {i = i} e) = let there = place_there m i k e in same_clash there.1 there.2
    step_alike le s t k (placed_earlier {n = m} {j = j} e) =
        let long = table_length book (take n lemmas) in
        let taken = length-take-le n lemmas le in
        let there = some_there (table_facts book (take n lemmas)) m (omega (arith, long, taken, k)) in
        let here : fact_at (table_facts book lemmas) m ≡ there.0 = fact_is book lemmas m there.0 (table_taken book lemmas n m there.0 there.1) in
        let is : slice_get (table_facts clauses made) j ≡ Some there.0 =
        ap (λ (facts : Facts). slice_get facts j) so_far.facts
        ∙ slice_get-map (fact_at (table_facts book lemmas)) before j
        ∙ ap (option_map (fact_at (table_facts book lemmas))) e
        ∙ ap (λ (f : Fact). Some f) here in
        same_earlier there.1 is
    step_alike le s t k stays_cycle = same_cycle
    step_alike le s t k stays_either = same_either

    steps_alike : n ≤ length lemmas → (steps others : List Step) → All (IsKnownStep (length book) n) steps → ArePlaced place before steps others → AllZip (Alike book (table_facts book (take n lemmas)) clauses (table_facts clauses made)) steps others
    steps_alike le [] [] k h = h
    steps_alike le [] (t ∷ others) k h = elim h [ ]
    steps_alike le (s ∷ steps) [] k h = elim h [ ]
    steps_alike le (s ∷ steps) (t ∷ others) k h =
        (step_alike le s t (All-head (IsKnownStep (length book) n) s steps k) h.0, steps_alike le steps others (All-tail (IsKnownStep (length book) n) s steps k) h.1)

    module _ (other : Lemma) (h : IsPlacedLemma lemmas place before n other) where
      within : n ≤ length lemmas
      within = let lt = slice_get_within lemmas n h.lemma h.at in omega (arith, lt)

      alike : AllZip (Alike book (table_facts book (take n lemmas)) clauses (table_facts clauses made)) h.lemma.steps other.steps
      alike = steps_alike within h.lemma.steps other.steps (table.each n h.lemma h.at).known h.steps

      same_fact : own_fact clauses (table_facts clauses made) other ≡ fact_at (table_facts book lemmas) n
      same_fact =
          ap (λ (c : List Literal). own_fact clauses (table_facts clauses made) (record { clause = c; steps = other.steps })) h.clause
          ∙ sym (fact_same book (table_facts book (take n lemmas)) clauses (table_facts clauses made) h.lemma.clause h.lemma.steps other.steps alike)
          ∙ sym (fact_is book lemmas n (own_fact book (table_facts book (take n lemmas)) h.lemma) (table_fact book lemmas n h.lemma h.at))

      facts_more : table_facts clauses (made ++ other ∷ []) ≡ facts_at (table_facts book lemmas) (before ++ n ∷ [])
      facts_more =
          ap (λ (items : List Item). facts_of [] clauses items) (map-append own_item made (other ∷ []))
          ∙ facts-append [] clauses [] (map own_item made) (own_item other ∷ [])
          ∙ ap (λ (f : Fact). table_facts clauses made ++ f ∷ []) same_fact
          ∙ ap (λ (facts : Facts). facts ++ fact_at (table_facts book lemmas) n ∷ []) so_far.facts
          ∙ sym (map-append (fact_at (table_facts book lemmas)) before (n ∷ []))

      tree_more : Tree clauses (map stated (take (length made) (made ++ other ∷ []))) (map negation_of other.clause) other.steps []
      tree_more =
          let was = trees n h.lemma h.at in
          let tree : Tree book (map stated_by (table_facts book (take n lemmas))) (map negation_of h.lemma.clause) h.lemma.steps [] =
          subst (λ (xs : List (List Literal)). Tree book xs (map negation_of h.lemma.clause) h.lemma.steps []) (sym (table_stated book (take n lemmas))) was in
          let moved = tree_moved book (table_facts book (take n lemmas)) clauses (table_facts clauses made) (map negation_of h.lemma.clause) h.lemma.steps other.steps tree alike in
          subst (λ (xs : List (List Literal)). Tree clauses xs (map negation_of other.clause) other.steps []) (table_stated clauses made ∙ ap (map stated) (sym (take_front made (other ∷ []))))
          (subst (λ (c : List Literal). Tree clauses (map stated_by (table_facts clauses made)) (map negation_of c) other.steps []) (sym h.clause) moved)

      tree_each : (j : ℕ) (l : Lemma) → slice_get (made ++ other ∷ []) j ≡ Some l → Tree clauses (map stated (take j (made ++ other ∷ []))) (map negation_of l.clause) l.steps []
      tree_each j l is = elim (get_parts made (other ∷ []) j l is) [
        | inl p ↦
            let lt = p.0 in
            subst (λ (ls : List Lemma). Tree clauses (map stated ls) (map negation_of l.clause) l.steps []) (sym (take_before j made (other ∷ []) (omega (arith, lt)))) (so_far.tree j l p.1)
        | inr p ↦
            let lt = slice_get_within (made ++ other ∷ []) j l is in
            let le = p.0 in
            let long = length-append made (other ∷ []) in
            let at : length made ≡ j = omega (arith, lt, long, le) in
            let here : other ≡ l = same_Some other l (sym (get_last made other) ∙ ap (slice_get (made ++ other ∷ [])) at ∙ is) in
            subst (λ (k : ℕ). Tree clauses (map stated (take k (made ++ other ∷ []))) (map negation_of l.clause) l.steps []) at
            (subst (λ (x : Lemma). Tree clauses (map stated (take (length made) (made ++ other ∷ []))) (map negation_of x.clause) x.steps []) here tree_more)
      ]

      as_many : length made ≡ length before
      as_many = sym (table_length clauses made) ∙ ap (λ (fs : Facts). length fs) so_far.facts ∙ length-map before (fact_at (table_facts book lemmas))

      cites_more : (k p m : ℕ) (l : Lemma) → slice_get (made ++ other ∷ []) k ≡ Some l → slice_get (before ++ n ∷ []) k ≡ Some p → Contains (steps_at lemmas p) (Earlier m) → (i : ℕ) × (slice_get (before ++ n ∷ []) i ≡ Some m) × Contains l.steps (Earlier i)
      cites_more k p m l is at c = elim (get_parts made (other ∷ []) k l is) [
        | inl there ↦
            let lt = there.0 in
            let many = as_many in
            let found = some_there before k (omega (arith, lt, many)) in
            let same : found.0 ≡ p = same_Some found.0 p (sym (get_longer before (n ∷ []) k found.0 found.1) ∙ at) in
            let w = so_far.cites k p m l there.1 (found.1 ∙ ap (λ (q : ℕ). Some q) same) c in
            (w.0, get_longer before (n ∷ []) w.0 m w.1, w.2)
        | inr behind ↦
            let le = behind.0 in
            let many = as_many in
            let lt = slice_get_within (made ++ other ∷ []) k l is in
            let long = length-append made (other ∷ []) in
            let here : length made ≡ k = omega (arith, lt, long, le) in
            let there : length before ≡ k = omega (arith, here, many) in
            let last : other ≡ l = same_Some other l (sym (get_last made other) ∙ ap (slice_get (made ++ other ∷ [])) here ∙ is) in
            let number : n ≡ p = same_Some n p (sym (get_last before n) ∙ ap (slice_get (before ++ n ∷ [])) there ∙ at) in
            let steps : steps_at lemmas p ≡ h.lemma.steps = ap (λ (q : ℕ). steps_at lemmas q) (sym number) ∙ sym (steps_are lemmas n h.lemma h.lemma.steps h.at refl) in
            let cited = contained_at h.lemma.steps (Earlier m) (subst (λ (ss : List Step). Contains ss (Earlier m)) steps c) in
            let w = places_cited place before h.lemma.steps other.steps m cited.0 h.steps cited.1 in
            (w.0, get_longer before (n ∷ []) w.0 m w.1, subst (λ (x : Lemma). Contains x.steps (Earlier w.0)) last w.2)
      ]

      pub written_more : AreWrittenOut clauses book lemmas (before ++ n ∷ []) (made ++ other ∷ [])
      written_more = record { facts = facts_more; tree = tree_each; cites = cites_more }
