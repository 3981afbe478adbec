-- One more lemma on the table.
use Rattle.std.proofs.Common.{arith, ◌≡◌, ℕ, suc, ◌<◌, inl, inr, List, [], ◌∷◌, ◌++◌, length, map, flat_map, take, Option, Some, Bool, true, false, All, refl, sym, ap, subst, ◌∙◌, length-append}
use Rattle.std.specs.Prelude.{slice_get, slice_index_or, nat_le, ◌&&◌}
use Rattle.std.specs.List.{list_all, AllZip}
use Rattle.std.proofs.lemmas.List.{length-take-le}
use Rattle.std.proofs.lemmas.List.Elements.{All-nil, All-cons, All-head, All-tail, All-weaker}
use Rattle.std.proofs.lemmas.Option.{slice_get_within, get_or_from_slice_get, same_Some, slice_get-get_or}
use Rattle.stn_core.specs.declared.literal.Literal.{Literal}
use Rattle.stn_core.specs.Literal.{negation_of}
use Rattle.refute_tree.specs.declared.step.Step.{Step}
use Rattle.refute_tree.specs.declared.step.Step.TheVariants.{Cycle, Input, Lemma as Earlier, Clash, Either}
use Rattle.refute_tree.specs.declared.lemma.Lemma.{Lemma}
use Rattle.refute_tree.specs.Trees.{Tree, IsRefuted, stated}
use Rattle.cert_check.specs.Tests.{is_on_points}
use Rattle.kept_lemmas.specs.Facts.{Fact, Facts, stated_by, no_fact, support_of_clause, named_by_fact, step_support, step_named, own_fact, facts_from}
use Rattle.kept_lemmas.proofs.FactLists.{all_at}
use Rattle.lemma_shelf.specs.declared.trees.Trees.{Trees}
use Rattle.lemma_shelf.specs.declared.trees.Trees.TheVariants.{Held}
use Rattle.lemma_shelf.specs.code.Tables.{own_item, table_facts, fact_at, facts_at, IsKnownStep, IsOnTable, IsTable, HaveTrees, steps_held, IsRenumbered, to_input, to_clash, to_earlier, keeps_cycle, keeps_either, AreRenumbered, step_fits, NeedsOf, CitesBelow}
use Rattle.lemma_shelf.proofs.Lists.{get_longer, get_last, get_parts, some_there, take_front, take_before}
use Rattle.lemma_shelf.proofs.TableFacts.{table_length, table_stated, table_fact, table_longer, fact_is}
use Rattle.lemma_shelf.proofs.Alike.{Alike, same_input, same_clash, same_earlier, same_cycle, same_either, tree_moved, fact_same, are_alike}
use Rattle.lemma_shelf.proofs.Fitting.{and_assoc}
use Rattle.lemma_shelf.proofs.HeldSteps.{fact_held, all_held}

-- ---- the book grows

module _ (book more_ : List (List Literal)) where
  get_same : (i : ℕ) → i < length book → slice_get (book ++ more_) i ≡ slice_get book i
  get_same i lt = let there = some_there book i lt in get_longer book more_ i there.0 there.1 ∙ sym there.1

  step_grown : (k : ℕ) (facts : Facts) (s : Step) → IsKnownStep (length book) k s → step_support (book ++ more_) facts s ≡ step_support book facts s
  step_grown k facts (Cycle cycle) h = refl
  step_grown k facts (Input i) h = ap support_of_clause (get_same i h)
  step_grown k facts (Earlier j) h = refl
  step_grown k facts (Clash i) h = ap support_of_clause (get_same i h)
  step_grown k facts (Either l) h = refl

  steps_grown : (k : ℕ) (facts : Facts) (steps : List Step) → All (IsKnownStep (length book) k) steps → flat_map (step_support (book ++ more_) facts) steps ≡ flat_map (step_support book facts) steps
  steps_grown k facts [] all = refl
  steps_grown k facts (s ∷ steps) all =
      ap (λ (xs : List (List Literal)). xs ++ flat_map (step_support (book ++ more_) facts) steps) (step_grown k facts s (All-head (IsKnownStep (length book) k) s steps all))
      ∙ ap (λ (xs : List (List Literal)). step_support book facts s ++ xs) (steps_grown k facts steps (All-tail (IsKnownStep (length book) k) s steps all))

  own_grown : (k : ℕ) (facts : Facts) (l : Lemma) → All (IsKnownStep (length book) k) l.steps → own_fact (book ++ more_) facts l ≡ own_fact book facts l
  own_grown k facts l all =
      ap (λ (support : List (List Literal)). record { clause = l.clause; support = support; named = l.clause ++ flat_map (step_named facts) l.steps }) (steps_grown k facts l.steps all)

  facts_grown : (facts : Facts) (ls : List Lemma) → ((j : ℕ) (l : Lemma) → slice_get ls j ≡ Some l → (k : ℕ) × All (IsKnownStep (length book) k) l.steps) → facts_from [] (book ++ more_) facts (map own_item ls) ≡ facts_from [] book facts (map own_item ls)
  facts_grown facts [] h = refl
  facts_grown facts (l ∷ ls) h =
      let here = h 0 l refl in
      ap (λ (f : Fact). facts_from [] (book ++ more_) (facts ++ f ∷ []) (map own_item ls)) (own_grown here.0 facts l here.1)
      ∙ facts_grown (facts ++ own_fact book facts l ∷ []) ls (λ j m is. h (suc j) m is)

  known_grown : (k : ℕ) (s : Step) → IsKnownStep (length book) k s → IsKnownStep (length (book ++ more_)) k s
  known_grown k (Cycle cycle) h = h
  known_grown k (Input i) h = let long = length-append book more_ in omega (arith, long, h)
  known_grown k (Earlier j) h = h
  known_grown k (Clash i) h = let long = length-append book more_ in omega (arith, long, h)
  known_grown k (Either l) h = h

  -- a step that names what is there is the same over a longer book
  itself : (facts : Facts) (s : Step) → IsKnownStep (length book) (length facts) s → Alike book facts (book ++ more_) facts s s
  itself facts (Cycle cycle) h = same_cycle
  itself facts (Input i) h = let there = some_there book i h in same_input there.1 (get_longer book more_ i there.0 there.1)
  itself facts (Earlier j) h = let there = some_there facts j h in same_earlier there.1 there.1
  itself facts (Clash i) h = let there = some_there book i h in same_clash there.1 (get_longer book more_ i there.0 there.1)
  itself facts (Either l) h = same_either

  all_itself : (facts : Facts) (steps : List Step) → All (IsKnownStep (length book) (length facts)) steps → AllZip (Alike book facts (book ++ more_) facts) steps steps
  all_itself facts [] all = tt
  all_itself facts (s ∷ steps) all =
      (itself facts s (All-head (IsKnownStep (length book) (length facts)) s steps all), all_itself facts steps (All-tail (IsKnownStep (length book) (length facts)) s steps all))

-- ---- what renumbered steps name is there

renumbered_known : (clauses : List (List Literal)) (numbers : List ℕ) (book : List (List Literal)) (count : ℕ) → All (λ (n : ℕ). n < count) numbers → (s t : Step) → IsRenumbered clauses numbers book s t → IsKnownStep (length book) count t
renumbered_known clauses numbers book count within s t (to_input {n = n} {clause = c} a b) = slice_get_within book n c b
renumbered_known clauses numbers book count within s t (to_clash {n = n} {clause = c} a b) = slice_get_within book n c b
renumbered_known clauses numbers book count within s t (to_earlier {j = j} {n = n} a) = all_at (λ (m : ℕ). m < count) numbers j n within a
renumbered_known clauses numbers book count within s t keeps_cycle = tt
renumbered_known clauses numbers book count within s t keeps_either = tt

pub all_renumbered_known : (clauses : List (List Literal)) (numbers : List ℕ) (book : List (List Literal)) (count : ℕ) → All (λ (n : ℕ). n < count) numbers → (steps others : List Step) → AreRenumbered clauses numbers book steps others → All (IsKnownStep (length book) count) others
all_renumbered_known clauses numbers book count within [] [] h = All-nil (IsKnownStep (length book) count)
all_renumbered_known clauses numbers book count within [] (t ∷ others) h = elim h [ ]
all_renumbered_known clauses numbers book count within (s ∷ steps) [] h = elim h [ ]
all_renumbered_known clauses numbers book count within (s ∷ steps) (t ∷ others) h =
    All-cons (IsKnownStep (length book) count) t others (renumbered_known clauses numbers book count within s t h.0) (all_renumbered_known clauses numbers book count within steps others h.1)

cites : (clauses count : ℕ) (s : Step) → IsKnownStep clauses count s → CitesBelow count s
cites clauses count (Cycle cycle) h = tt
cites clauses count (Input i) h = tt
cites clauses count (Earlier j) h = h
cites clauses count (Clash i) h = tt
cites clauses count (Either l) h = tt

pub all_cite : (clauses count : ℕ) (steps : List Step) → All (IsKnownStep clauses count) steps → All (CitesBelow count) steps
all_cite clauses count steps all = All-weaker (IsKnownStep clauses count) (CitesBelow count) (cites clauses count) steps all

-- ---- time points

all_both : (p : Literal → Bool) (xs ys : List Literal) → list_all p (xs ++ ys) ≡ (list_all p xs && list_all p ys)
all_both p [] ys = refl
all_both p (x ∷ xs) ys = ap (λ (b : Bool). p x && b) (all_both p xs ys) ∙ sym (and_assoc (p x) (list_all p xs) (list_all p ys))

and_true : (b : Bool) → (b && true) ≡ b
and_true true = refl
and_true false = refl

module _ (book : List (List Literal)) (lemmas : List Lemma) (points : List ℕ) (table : IsTable book lemmas points) (count : ℕ) where
  abbrev on : Literal → Bool
  on l = is_on_points count l

  step_named_fits : (s : Step) → CitesBelow (length lemmas) s → list_all (is_on_points count) (step_named (table_facts book lemmas) s) ≡ step_fits points count s
  step_named_fits (Cycle cycle) h = refl
  step_named_fits (Input i) h = refl
  step_named_fits (Clash i) h = refl
  step_named_fits (Either l) h = and_true (is_on_points count l)
  step_named_fits (Earlier j) h =
      let long = table_length book lemmas in
      let lt : j < length (table_facts book lemmas) = omega (arith, long, h) in
      let there = some_there lemmas j h in
      ap (λ (o : Option Fact). list_all (is_on_points count) (named_by_fact o)) (slice_get-get_or (table_facts book lemmas) j no_fact lt)
      ∙ (table.each j there.0 there.1).needs count

  steps_named_fit : (steps : List Step) → All (CitesBelow (length lemmas)) steps → list_all (is_on_points count) (flat_map (step_named (table_facts book lemmas)) steps) ≡ list_all (step_fits points count) steps
  steps_named_fit [] all = refl
  steps_named_fit (s ∷ steps) all =
      all_both (is_on_points count) (step_named (table_facts book lemmas) s) (flat_map (step_named (table_facts book lemmas)) steps)
      ∙ ap (λ (b : Bool). b && list_all (is_on_points count) (flat_map (step_named (table_facts book lemmas)) steps)) (step_named_fits s (All-head (CitesBelow (length lemmas)) s steps all))
      ∙ ap (λ (b : Bool). step_fits points count s && b) (steps_named_fit steps (All-tail (CitesBelow (length lemmas)) s steps all))

  named_fits : (clause : List Literal) (steps : List Step) → All (CitesBelow (length lemmas)) steps → list_all (is_on_points count) (own_fact book (table_facts book lemmas) (record { clause = clause; steps = steps })).named ≡ (list_all (is_on_points count) clause && list_all (step_fits points count) steps)
  named_fits clause steps all =
      all_both (is_on_points count) clause (flat_map (step_named (table_facts book lemmas)) steps) ∙ ap (λ (b : Bool). list_all (is_on_points count) clause && b) (steps_named_fit steps all)

-- ---- the table with one more

module _ (book more_ : List (List Literal)) (lemmas : List Lemma) (points : List ℕ) (table : IsTable book lemmas points)
    (clauses : List (List Literal)) (numbers : List ℕ) (within : All (λ (n : ℕ). n < length lemmas) numbers)
    (count : ℕ) (lemma : Lemma) (refuted : IsRefuted count clauses (map stated_by (facts_at (table_facts book lemmas) numbers)) lemma)
    (trees : Trees) (others : List Step) (same : AreRenumbered clauses numbers (book ++ more_) (steps_held trees lemma.steps) others)
    (needs : ℕ) (least : NeedsOf needs (λ (c : ℕ). list_all (is_on_points c) lemma.clause && list_all (step_fits points c) others)) where
  abbrev Now : List (List Literal)
  Now = book ++ more_

  abbrev T : Facts
  T = table_facts book lemmas

  abbrev other : Lemma
  other = record { clause = lemma.clause; steps = others }

  table_same : table_facts (book ++ more_) lemmas ≡ table_facts book lemmas
  table_same = facts_grown book more_ [] lemmas (λ j l is. (j, (table.each j l is).known))

  numbers_in : All (λ (n : ℕ). n < length (table_facts book lemmas)) numbers
  numbers_in = let long = table_length book lemmas in All-weaker (λ (n : ℕ). n < length lemmas) (λ (n : ℕ). n < length (table_facts book lemmas)) (λ n lt. omega (arith, long, lt)) numbers within

  alike : AllZip (Alike clauses (facts_at (table_facts book lemmas) numbers) (book ++ more_) (table_facts book lemmas)) (steps_held trees lemma.steps) others
  alike = are_alike clauses numbers (book ++ more_) (table_facts book lemmas) numbers_in (steps_held trees lemma.steps) others same

  known : All (IsKnownStep (length (book ++ more_)) (length lemmas)) others
  known = all_renumbered_known clauses numbers (book ++ more_) (length lemmas) within (steps_held trees lemma.steps) others same

  cited : All (CitesBelow (length lemmas)) others
  cited = all_cite (length (book ++ more_)) (length lemmas) others known

  -- what stands on the grown table
  fact_kept : (n : ℕ) → n < length lemmas → slice_get (table_facts (book ++ more_) (lemmas ++ other ∷ [])) n ≡ Some (fact_at (table_facts book lemmas) n)
  fact_kept n lt =
      let long = table_length book lemmas in
      let within_table : n < length (table_facts book lemmas) = omega (arith, long, lt) in
      table_longer (book ++ more_) lemmas (other ∷ []) n (fact_at (table_facts book lemmas) n)
      (ap (λ (facts : Facts). slice_get facts n) table_same ∙ slice_get-get_or (table_facts book lemmas) n no_fact within_table)

  fact_new : slice_get (table_facts (book ++ more_) (lemmas ++ other ∷ [])) (length lemmas) ≡ Some (own_fact (book ++ more_) (table_facts book lemmas) other)
  fact_new =
      table_fact (book ++ more_) (lemmas ++ other ∷ []) (length lemmas) other (get_last lemmas other)
      ∙ ap (λ (ls : List Lemma). Some (own_fact (book ++ more_) (table_facts (book ++ more_) ls) other)) (take_front lemmas (other ∷ []))
      ∙ ap (λ (facts : Facts). Some (own_fact (book ++ more_) facts other)) table_same

  pub kept_at : (n : ℕ) → n < length lemmas → fact_at (table_facts (book ++ more_) (lemmas ++ other ∷ [])) n ≡ fact_at (table_facts book lemmas) n
  kept_at n lt = fact_is (book ++ more_) (lemmas ++ other ∷ []) n (fact_at (table_facts book lemmas) n) (fact_kept n lt)

  pub new_at : fact_at (table_facts (book ++ more_) (lemmas ++ other ∷ [])) (length lemmas) ≡ own_fact clauses (facts_at (table_facts book lemmas) numbers) lemma
  new_at =
      fact_is (book ++ more_) (lemmas ++ other ∷ []) (length lemmas) (own_fact (book ++ more_) (table_facts book lemmas) other) fact_new
      ∙ sym (fact_same clauses (facts_at (table_facts book lemmas) numbers) (book ++ more_) (table_facts book lemmas) lemma.clause (steps_held trees lemma.steps) others alike)
      ∙ fact_held clauses (facts_at (table_facts book lemmas) numbers) trees lemma

  old_on_table : (n : ℕ) (l : Lemma) → n < length lemmas → slice_get lemmas n ≡ Some l → IsOnTable (book ++ more_) (lemmas ++ other ∷ []) (points ++ needs ∷ []) n l
  old_on_table n l lt is =
      let was = table.each n l is in
      let point = slice_get-get_or points n 0 (omega (arith, lt, table.one_each)) in
      record {
        known = All-weaker (IsKnownStep (length book) n) (IsKnownStep (length (book ++ more_)) n) (known_grown book more_ n) l.steps was.known;
        needs = λ c.
            ap (λ (f : Fact). list_all (is_on_points c) f.named) (kept_at n lt) ∙ was.needs c
            ∙ ap (λ (m : ℕ). nat_le m c) (sym (get_or_from_slice_get (points ++ needs ∷ []) n (slice_index_or points n 0) 0 (get_longer points (needs ∷ []) n (slice_index_or points n 0) point)));
      }

  new_on_table : IsOnTable (book ++ more_) (lemmas ++ other ∷ []) (points ++ needs ∷ []) (length lemmas) other
  new_on_table =
      let point : slice_get (points ++ needs ∷ []) (length lemmas) ≡ Some needs = ap (λ (k : ℕ). slice_get (points ++ needs ∷ []) k) (sym table.one_each) ∙ get_last points needs in
      record {
        known = known;
        needs = λ c.
            ap (λ (f : Fact). list_all (is_on_points c) f.named) (fact_is (book ++ more_) (lemmas ++ other ∷ []) (length lemmas) (own_fact (book ++ more_) (table_facts book lemmas) other) fact_new)
            ∙ named_fits book lemmas points table c lemma.clause others cited
            ∙ sym (least c)
            ∙ ap (λ (m : ℕ). nat_le m c) (sym (get_or_from_slice_get (points ++ needs ∷ []) (length lemmas) needs 0 point));
      }

  pub one_more : IsTable (book ++ more_) (lemmas ++ other ∷ []) (points ++ needs ∷ [])
  one_more = record {
    each = λ n l is. each n l is;
    one_each =
        let a = length-append points (needs ∷ []) in
        let b = length-append lemmas (other ∷ []) in
        omega (arith, a, b, table.one_each);
  }
    where
      each : (n : ℕ) (l : Lemma) → slice_get (lemmas ++ other ∷ []) n ≡ Some l → IsOnTable (book ++ more_) (lemmas ++ other ∷ []) (points ++ needs ∷ []) n l
      each n l is = elim (get_parts lemmas (other ∷ []) n l is) [
        | inl h ↦ old_on_table n l h.0 h.1
        | inr h ↦
            let lt = slice_get_within (lemmas ++ other ∷ []) n l is in
            let long = length-append lemmas (other ∷ []) in
            let at : length lemmas ≡ n = omega (arith, lt, long, h.0) in
            let here : other ≡ l = same_Some other l (sym (get_last lemmas other) ∙ ap (slice_get (lemmas ++ other ∷ [])) at ∙ is) in
            subst (λ (k : ℕ). IsOnTable (book ++ more_) (lemmas ++ other ∷ []) (points ++ needs ∷ []) k l) at (subst (IsOnTable (book ++ more_) (lemmas ++ other ∷ []) (points ++ needs ∷ []) (length lemmas)) here new_on_table)
      ]

  -- ---- and its tree, where trees are held

  old_tree : HaveTrees book lemmas → (n : ℕ) (l : Lemma) → n < length lemmas → slice_get lemmas n ≡ Some l → Tree (book ++ more_) (map stated (take n (lemmas ++ other ∷ []))) (map negation_of l.clause) l.steps []
  old_tree there n l lt is =
      let first : take n (lemmas ++ other ∷ []) ≡ take n lemmas = take_before n lemmas (other ∷ []) (omega (arith, lt)) in
      let facts : Facts = table_facts book (take n lemmas) in
      let long : length facts ≡ n = table_length book (take n lemmas) ∙ length-take-le n lemmas (omega (arith, lt)) in
      let known_there : All (IsKnownStep (length book) (length facts)) l.steps = subst (λ (k : ℕ). All (IsKnownStep (length book) k) l.steps) (sym long) (table.each n l is).known in
      let tree : Tree book (map stated_by facts) (map negation_of l.clause) l.steps [] = subst (λ (xs : List (List Literal)). Tree book xs (map negation_of l.clause) l.steps []) (sym (table_stated book (take n lemmas))) (there n l is) in
      let moved = tree_moved book facts (book ++ more_) facts (map negation_of l.clause) l.steps l.steps tree (all_itself book more_ facts l.steps known_there) in
      subst (λ (xs : List (List Literal)). Tree (book ++ more_) xs (map negation_of l.clause) l.steps []) (table_stated book (take n lemmas) ∙ ap (map stated) (sym first)) moved

  new_tree : trees ≡ Held → Tree (book ++ more_) (map stated (take (length lemmas) (lemmas ++ other ∷ []))) (map negation_of lemma.clause) others []
  new_tree held =
      let all : steps_held trees lemma.steps ≡ lemma.steps = ap (λ (t : Trees). steps_held t lemma.steps) held ∙ all_held lemma.steps in
      let here : AllZip (Alike clauses (facts_at (table_facts book lemmas) numbers) (book ++ more_) (table_facts book lemmas)) lemma.steps others =
      subst (λ (steps : List Step). AllZip (Alike clauses (facts_at (table_facts book lemmas) numbers) (book ++ more_) (table_facts book lemmas)) steps others) all alike in
      let tree = tree_moved clauses (facts_at (table_facts book lemmas) numbers) (book ++ more_) (table_facts book lemmas) (map negation_of lemma.clause) lemma.steps others refuted.tree here in
      subst (λ (xs : List (List Literal)). Tree (book ++ more_) xs (map negation_of lemma.clause) others []) (table_stated book lemmas ∙ ap (map stated) (sym (take_front lemmas (other ∷ [])))) tree

  pub tree_more : trees ≡ Held → HaveTrees book lemmas → HaveTrees (book ++ more_) (lemmas ++ other ∷ [])
  tree_more held there n l is = elim (get_parts lemmas (other ∷ []) n l is) [
    | inl h ↦ old_tree there n l h.0 h.1
    | inr h ↦
        let lt = slice_get_within (lemmas ++ other ∷ []) n l is in
        let long = length-append lemmas (other ∷ []) in
        let at : length lemmas ≡ n = omega (arith, lt, long, h.0) in
        let here : other ≡ l = same_Some other l (sym (get_last lemmas other) ∙ ap (slice_get (lemmas ++ other ∷ [])) at ∙ is) in
        subst (λ (k : ℕ). Tree (book ++ more_) (map stated (take k (lemmas ++ other ∷ []))) (map negation_of l.clause) l.steps []) at
        (subst (λ (m : Lemma). Tree (book ++ more_) (map stated (take (length lemmas) (lemmas ++ other ∷ []))) (map negation_of m.clause) m.steps []) here (new_tree held))
  ]
