-- What the lemmas of the table state.
use Rattle.std.proofs.Common.{arith, ◌≡◌, ℕ, zero, suc, ◌+◌, List, [], ◌∷◌, ◌++◌, length, map, take, drop, Some, sym, ap, ◌∙◌, length-append}
use Rattle.std.specs.Prelude.{slice_get, option_map}
use Rattle.std.proofs.lemmas.List.{take-map, map-append, length-map, take-append-drop}
use Rattle.std.proofs.lemmas.Option.{slice_get-map, get_or_from_slice_get}
use Rattle.stn_core.specs.declared.literal.Literal.{Literal}
use Rattle.refute_tree.specs.declared.lemma.Lemma.{Lemma}
use Rattle.refute_tree.specs.Trees.{stated}
use Rattle.kept_lemmas.specs.declared.item.Item.{Item}
use Rattle.kept_lemmas.specs.Facts.{Fact, Facts, Shelf, stated_by, no_fact, own_fact, item_fact, facts_from, facts_of}
use Rattle.kept_lemmas.proofs.FactLists.{facts-append, facts-length}
use Rattle.kept_lemmas.proofs.Owned.{owned_stated}
use Rattle.lemma_shelf.specs.code.Tables.{own_item, table_facts, fact_at}
use Rattle.lemma_shelf.proofs.Lists.{get_longer, get_last}

module _ (shelf : Shelf) (clauses : List (List Literal)) where
  pub front_kept : (facts : Facts) (items : List Item) (j : ℕ) (fact : Fact) → slice_get facts j ≡ Some fact → slice_get (facts_from shelf clauses facts items) j ≡ Some fact
  front_kept facts [] j fact e = e
  front_kept facts (x ∷ xs) j fact e = front_kept (facts ++ item_fact shelf clauses facts x ∷ []) xs j fact (get_longer facts (item_fact shelf clauses facts x ∷ []) j fact e)

  -- what an item states stands at its place
  pub fact_made : (facts : Facts) (items : List Item) (n : ℕ) (item : Item) → slice_get items n ≡ Some item → slice_get (facts_from shelf clauses facts items) (length facts + n) ≡ Some (item_fact shelf clauses (facts_from shelf clauses facts (take n items)) item)
  fact_made facts [] n item e = absurd (cc)
  fact_made facts (x ∷ xs) zero item e =
      let s : x ≡ item = cc in
      let fact : Fact = item_fact shelf clauses facts x in
      let k : length facts + zero ≡ length facts = omega arith in
      ap (λ (i : ℕ). slice_get (facts_from shelf clauses (facts ++ fact ∷ []) xs) i) k
      ∙ front_kept (facts ++ fact ∷ []) xs (length facts) fact (get_last facts fact)
      ∙ ap (λ (y : Item). Some (item_fact shelf clauses facts y)) s
  fact_made facts (x ∷ xs) (suc n) item e =
      let fact : Fact = item_fact shelf clauses facts x in
      let long = length-append facts (fact ∷ []) in
      let k : length facts + suc n ≡ length (facts ++ fact ∷ []) + n = omega (arith, long) in
      ap (λ (i : ℕ). slice_get (facts_from shelf clauses (facts ++ fact ∷ []) xs) i) k ∙ fact_made (facts ++ fact ∷ []) xs n item e

module _ (book : List (List Literal)) where
  pub table_length : (lemmas : List Lemma) → length (table_facts book lemmas) ≡ length lemmas
  table_length lemmas =
      let made = facts-length [] book [] (map own_item lemmas) in
      let same = length-map lemmas own_item in
      omega (arith, made, same)

  pub table_stated : (lemmas : List Lemma) → map stated_by (table_facts book lemmas) ≡ map stated lemmas
  table_stated lemmas = owned_stated [] book [] lemmas

  pub table_fact : (lemmas : List Lemma) (n : ℕ) (lemma : Lemma) → slice_get lemmas n ≡ Some lemma → slice_get (table_facts book lemmas) n ≡ Some (own_fact book (table_facts book (take n lemmas)) lemma)
  table_fact lemmas n lemma e =
      let at : slice_get (map own_item lemmas) n ≡ Some (own_item lemma) = slice_get-map own_item lemmas n ∙ ap (option_map own_item) e in
      let k : n ≡ 0 + n = omega arith in
      ap (λ (i : ℕ). slice_get (table_facts book lemmas) i) k
      ∙ fact_made [] book [] (map own_item lemmas) n (own_item lemma) at
      ∙ ap (λ (items : List Item). Some (own_fact book (facts_of [] book items) lemma)) (take-map own_item n lemmas)

  pub table_longer : (lemmas more : List Lemma) (j : ℕ) (fact : Fact) → slice_get (table_facts book lemmas) j ≡ Some fact → slice_get (table_facts book (lemmas ++ more)) j ≡ Some fact
  table_longer lemmas more j fact e =
      ap (λ (items : List Item). slice_get (facts_of [] book items) j) (map-append own_item lemmas more)
      ∙ ap (λ (facts : Facts). slice_get facts j) (facts-append [] book [] (map own_item lemmas) (map own_item more))
      ∙ front_kept [] book (table_facts book lemmas) (map own_item more) j fact e

  pub table_taken : (lemmas : List Lemma) (n j : ℕ) (fact : Fact) → slice_get (table_facts book (take n lemmas)) j ≡ Some fact → slice_get (table_facts book lemmas) j ≡ Some fact
  table_taken lemmas n j fact e =
      ap (λ (ls : List Lemma). slice_get (table_facts book ls) j) (sym (take-append-drop n lemmas)) ∙ table_longer (take n lemmas) (drop n lemmas) j fact e

  pub fact_is : (lemmas : List Lemma) (n : ℕ) (fact : Fact) → slice_get (table_facts book lemmas) n ≡ Some fact → fact_at (table_facts book lemmas) n ≡ fact
  fact_is lemmas n fact e = get_or_from_slice_get (table_facts book lemmas) n fact no_fact e
