-- What is written out stands on the shelf, and what is cited behind it.
use Rattle.std.proofs.Common.{arith, ◌≡◌, ℕ, ◌<◌, ◌+◌, ◌-◌, List, [], ◌∷◌, ◌++◌, length, map, flat_map, take, drop, get_or, Option, Some, None, All, Contains, refl, sym, ap, subst, ◌∙◌}
use Rattle.std.specs.Prelude.{slice_get, option_and_then}
use Rattle.std.proofs.lemmas.Grind.{flat_map-append}
use Rattle.std.proofs.lemmas.List.{length-map, take-append-drop, take-map, map-append}
use Rattle.std.proofs.lemmas.List.Elements.{All-weaker}
use Rattle.std.proofs.lemmas.Option.{slice_get_within, get_or_from_slice_get}
use Rattle.stn_core.specs.declared.literal.Literal.{Literal}
use Rattle.refute_tree.specs.declared.step.Step.TheVariants.{Lemma as Earlier}
use Rattle.refute_tree.specs.declared.lemma.Lemma.{Lemma}
use Rattle.kept_lemmas.specs.Facts.{Facts, Shelf}
use Rattle.kept_lemmas.proofs.FactLists.{all_at}
use Rattle.lemma_shelf.specs.Lowering.{IsSublist, in_order, AreOfShelf, AreCited}
use Rattle.lemma_shelf.specs.code.Tables.{table_facts, fact_at, facts_at, shelf_by, CountsTo, IsTable}
use Rattle.lemma_shelf.specs.code.WrittenOut.{RestsOn, itself, cited, IsLowered, last_of}
use Rattle.lemma_shelf.proofs.Counting.{counts_apart, counts_below, numbers_among, sublist_map, one_place, place_before}
use Rattle.lemma_shelf.proofs.Lists.{some_there, get_take, all_parts, contained_at}
use Rattle.lemma_shelf.proofs.TableFacts.{table_length}
use Rattle.lemma_shelf.proofs.Placing.{cited_below, rests_below}

abbrev flat : List (List ℕ) → List ℕ
flat entries = flat_map (λ (numbers : List ℕ). numbers) entries

flat_facts : (table : Facts) (entries : List (List ℕ)) → in_order (map (facts_at table) entries) ≡ map (fact_at table) (flat entries)
flat_facts table [] = refl
flat_facts table (ns ∷ entries) =
    ap (λ (fs : Facts). facts_at table ns ++ fs) (flat_facts table entries) ∙ sym (map-append (fact_at table) ns (flat entries))

-- ---- the numbers up to an entry

last_there : (root : ℕ) (found : Option (List ℕ)) → option_and_then (λ (numbers : List ℕ). slice_get numbers (length numbers - 1)) found ≡ Some root → (numbers : List ℕ) × (found ≡ Some numbers) × (slice_get numbers (length numbers - 1) ≡ Some root)
last_there root None e = absurd (cc)
last_there root (Some numbers) e = (numbers, refl, e)

-- so many lemmas came up to the entry, its last one among them
counted_there : (entries : List (List ℕ)) (count entry root : ℕ) → CountsTo 0 (flat entries) count → last_of entries entry ≡ Some root → (high : ℕ) × CountsTo 0 (flat (take (entry + 1) entries)) high × (root < high)
counted_there entries count entry root counted is =
    let first : List (List ℕ) = take (entry + 1) entries in
    let split : flat entries ≡ flat first ++ flat (drop (entry + 1) entries) =
    ap flat (sym (take-append-drop (entry + 1) entries)) ∙ flat_map-append (λ (numbers : List ℕ). numbers) first (drop (entry + 1) entries) in
    let parts = counts_apart (flat first) (flat (drop (entry + 1) entries)) 0 count (subst (λ (xs : List ℕ). CountsTo 0 xs count) split counted) in
    let high : ℕ = parts.0 in
    let P : ℕ → Type 0 = λ n. n < high in
    let found = last_there root (slice_get entries entry) is in
    let at : slice_get first entry ≡ Some found.0 = get_take (entry + 1) entries entry (omega arith) ∙ found.1 in
    let each = all_parts P (λ (numbers : List ℕ). numbers) first (counts_below (flat first) 0 high parts.1) in
    let here = all_at (λ (numbers : List ℕ). All P numbers) first entry found.0 each at in
    (high, parts.1, all_at P found.0 (length found.0 - 1) root here found.2)

-- ---- what is written out

module _ (book : List (List Literal)) (lemmas : List Lemma) (points : List ℕ) (table : IsTable book lemmas points) (root : ℕ) (within : root < length lemmas)
    (clauses : List (List Literal)) (made : List Lemma) (low : IsLowered clauses book lemmas root made) where
  abbrev T : Facts
  T = table_facts book lemmas

  pub of_shelf : (entries : List (List ℕ)) (shelf : Shelf) (entry : ℕ) → shelf_by book lemmas entries ≡ shelf → CountsTo 0 (flat entries) (length lemmas) → last_of entries entry ≡ Some root → AreOfShelf (take (entry + 1) shelf) clauses made
  of_shelf entries shelf entry same counted is =
      let first : List (List ℕ) = take (entry + 1) entries in
      let there = counted_there entries (length lemmas) entry root counted is in
      let below = there.2 in
      let all : All (λ (n : ℕ). n < there.0) low.numbers =
      All-weaker (RestsOn lemmas root) (λ (n : ℕ). n < there.0) (λ n h. (let le = rests_below book lemmas points table root n within h in omega (arith, le, below))) low.numbers low.rests in
      let picked = sublist_map (fact_at T) (numbers_among low.numbers (flat first) there.0 low.mounts all there.1) in
      let whole : map (fact_at T) (flat first) ≡ in_order (take (entry + 1) shelf) =
      sym (flat_facts T first) ∙ ap in_order (sym (take-map (facts_at T) (entry + 1) entries)) ∙ ap (λ (s : Shelf). in_order (take (entry + 1) s)) same in
      subst (λ (fs : Facts). IsSublist fs (in_order (take (entry + 1) shelf))) (sym low.written.facts) (subst (IsSublist (facts_at T low.numbers)) whole picked)

  as_many : length made ≡ length low.numbers
  as_many = sym (table_length clauses made) ∙ ap (λ (fs : Facts). length fs) low.written.facts ∙ length-map low.numbers (fact_at T)

  number_at : (k n : ℕ) → slice_get low.numbers k ≡ Some n → (k < length low.numbers) × (get_or low.numbers k 0 ≡ n)
  number_at k n is = (slice_get_within low.numbers k n is, get_or_from_slice_get low.numbers k n 0 is)

  -- what a lemma rests on is the root's, or is cited behind it
  cited_by : (j : ℕ) → j + 1 < length made → (n : ℕ) → RestsOn lemmas root n → slice_get low.numbers j ≡ Some n → (k : ℕ) × (lemma : Lemma) × (j < k) × (slice_get made k ≡ Some lemma) × Contains lemma.steps (Earlier j)
  cited_by j lt n itself is =
      let many = as_many in
      let here = number_at j root is in
      let last = number_at (length low.numbers - 1) root low.last in
      let above = low.mounts j (length low.numbers - 1) (omega (arith, lt, many)) last.0 in
      let a = here.1 in
      let b = last.1 in
      absurd (omega (arith, above, a, b))
  cited_by j lt n (cited {n = m} {j = q} h c) is =
      let many = as_many in
      let place = contained_at low.numbers m (low.whole m h) in
      let k : ℕ = place.0 in
      let there = number_at k m place.1 in
      let here = number_at j q is in
      let far = there.0 in
      let found = some_there made k (omega (arith, far, many)) in
      let cites = low.written.cites k m q found.0 found.1 place.1 c in
      let again = number_at cites.0 q cites.1 in
      let same : cites.0 ≡ j = one_place low.numbers low.mounts cites.0 j q again.0 here.0 again.1 here.1 in
      let le = rests_below book lemmas points table root m within h in
      let less : q < m = cited_below book lemmas points table m q (omega (arith, le, within)) c in
      let a = here.1 in
      let b = there.1 in
      let below : get_or low.numbers j 0 < get_or low.numbers k 0 = omega (arith, less, a, b) in
      (k, found.0, place_before low.numbers low.mounts j k here.0 there.0 below, found.1, subst (λ (i : ℕ). Contains found.0.steps (Earlier i)) same cites.2)

  pub are_cited : AreCited made
  are_cited j lt =
      let many = as_many in
      let found = some_there low.numbers j (omega (arith, lt, many)) in
      cited_by j lt found.0 (all_at (RestsOn lemmas root) low.numbers j found.0 low.rests found.1) found.1
