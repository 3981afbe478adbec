-- Items have no flaw exactly where they are right.
use Rattle.std.proofs.Common.{arith, ◌≡◌, ◌<◌, ◌-◌, ℕ, zero, suc, List, [], ◌∷◌, ◌++◌, length, map, take, Option, Some, None, Bool, true, false, refl, sym, ap, ◌∙◌, subst}
use Rattle.std.specs.Prelude.{slice_get, if◌then◌else◌}
use Rattle.std.specs.List.{list_all}
use Rattle.std.proofs.lemmas.Bool.{eqb-true, eq-eqb}
use Rattle.std.proofs.lemmas.List.{map-append}
use Rattle.stn_core.specs.declared.literal.Literal.{Literal}
use Rattle.refute_tree.specs.declared.lemma.Lemma.{Lemma}
use Rattle.cert_check.specs.declared.flaw.FlawKind.{FlawKind}
use Rattle.cert_check.specs.declared.flaw.FlawKind.TheVariants.{NoSuchPoint, NotActive, LastLemmaNotEmpty}
use Rattle.cert_check.specs.declared.flaw.Flaw.{Flaw}
use Rattle.cert_check.specs.Tests.{is_on_points}
use Rattle.cert_check.specs.Flaws.{flaw_at, lemma_flaw, ends_empty, first_of, lemmas_flaw}
use Rattle.cert_check.proofs.Decided.{all_on_points_decides}
use Rattle.cert_check.proofs.Reading.{unflawed_lemma, refuted_lemma}
use Rattle.kept_lemmas.specs.declared.item.Kept.{Kept}
use Rattle.kept_lemmas.specs.declared.item.Item.{Item}
use Rattle.kept_lemmas.specs.declared.item.Item.TheVariants.{Own, Keep}
use Rattle.kept_lemmas.specs.Facts.{Fact, Facts, Shelf, stated_by, kept_fact, item_fact, facts_from, facts_of}
use Rattle.kept_lemmas.specs.Entries.{IsUsable, IsKeptRightly, IsItemRight, AreRight}
use Rattle.kept_lemmas.proofs.FactLists.{facts-length}
use Rattle.lemma_shelf.specs.Clauses.{is_clause_of}
use Rattle.lemma_shelf.specs.ItemFlaws.{fact_flaw, kept_flaw, flaw_there, item_clause, item_flaw, items_flaw_from, items_flaw}
use Rattle.lemma_shelf.proofs.Tested.{all_clauses_decide}

-- of two, the first and then the other
pub both_none : (a b : Option Flaw) → first_of a b ≡ None → (a ≡ None) × (b ≡ None)
both_none None b e = (refl, e)
both_none (Some flaw) b e = absurd (cc)

no_literal : (clause : List Literal) → length clause ≡ 0 → clause ≡ []
no_literal [] e = refl
no_literal (l ∷ clause) e = absurd (omega arith)

-- ---- the last fact

last_index : (m n : Fact) (facts : Facts) → slice_get (m ∷ n ∷ facts) (length (m ∷ n ∷ facts) - 1) ≡ slice_get (n ∷ facts) (length (n ∷ facts) - 1)
last_index m n facts =
    let k : length (m ∷ n ∷ facts) - 1 ≡ suc (length (n ∷ facts) - 1) = omega arith in
    ap (λ (i : ℕ). slice_get (m ∷ n ∷ facts) i) k

last_forth : (facts : Facts) → ends_empty (map stated_by facts) ≡ true → (fact : Fact) → slice_get facts (length facts - 1) ≡ Some fact → fact.clause ≡ []
last_forth [] e fact is = absurd (cc)
last_forth (m ∷ []) e fact is = let s : m ≡ fact = cc in subst (λ (t : Fact). t.clause ≡ []) s (no_literal m.clause (eqb-true _ _ e))
last_forth (m ∷ n ∷ facts) e fact is = last_forth (n ∷ facts) e fact (sym (last_index m n facts) ∙ is)

some_forth : (facts : Facts) → ends_empty (map stated_by facts) ≡ true → 0 < length facts
some_forth [] e = absurd (cc)
some_forth (m ∷ facts) e = omega arith

last_back : (facts : Facts) → 0 < length facts → ((fact : Fact) → slice_get facts (length facts - 1) ≡ Some fact → fact.clause ≡ []) → ends_empty (map stated_by facts) ≡ true
last_back [] some last = absurd (omega arith)
last_back (m ∷ []) some last = eq-eqb _ _ (ap (λ (c : List Literal). length c) (last m refl))
last_back (m ∷ n ∷ facts) some last = last_back (n ∷ facts) (omega arith) (λ fact is. last fact (last_index m n facts ∙ is))

-- ---- an item

module _ (shelf : Shelf) (points : ℕ) (clauses : List (List Literal)) where
  fact_by : (fact : Fact) (a b : Bool) → list_all (is_on_points points) fact.named ≡ a → list_all (is_clause_of clauses) fact.support ≡ b → (if a then (if b then None else Some NotActive) else Some NoSuchPoint) ≡ None → IsUsable points clauses fact
  fact_by fact true true e f h = record { on_points = (all_on_points_decides points fact.named).0 e; active = (all_clauses_decide clauses fact.support).0 f }
  fact_by fact true false e f h = absurd (cc)
  fact_by fact false b e f h = absurd (cc)

  pub unflawed_fact : (fact : Fact) → fact_flaw points clauses fact ≡ None → IsUsable points clauses fact
  unflawed_fact fact h = fact_by fact (list_all (is_on_points points) fact.named) (list_all (is_clause_of clauses) fact.support) refl refl h

  pub usable_fact : (fact : Fact) → IsUsable points clauses fact → fact_flaw points clauses fact ≡ None
  usable_fact fact u =
      let on = (all_on_points_decides points fact.named).1 u.on_points in
      let active = (all_clauses_decide clauses fact.support).1 u.active in
      rw on (rw active refl)

  kept_by : (earlier : List (List Literal)) (found : Option Fact) → flaw_there earlier (kept_flaw points clauses found) ≡ None → (fact : Fact) × (found ≡ Some fact) × IsUsable points clauses fact
  kept_by earlier None h = absurd (cc)
  kept_by earlier (Some fact) h = (fact, refl, unflawed_fact fact (there (fact_flaw points clauses fact) h))
    where
      there : (o : Option FlawKind) → flaw_there earlier o ≡ None → o ≡ None
      there None e = refl
      there (Some kind) e = absurd (cc)

  -- a kept item has no flaw exactly where it is kept rightly
  pub kept_rightly : (kept : Kept) → kept_flaw points clauses (kept_fact shelf kept) ≡ None → IsKeptRightly shelf points clauses kept
  kept_rightly kept h =
      let found = kept_by [] (kept_fact shelf kept) (ap (flaw_there []) h) in
      record { fact = found.0; there = found.1; usable = found.2 }

  pub kept_unflawed : (kept : Kept) → IsKeptRightly shelf points clauses kept → kept_flaw points clauses (kept_fact shelf kept) ≡ None
  kept_unflawed kept h = ap (kept_flaw points clauses) h.there ∙ usable_fact h.fact h.usable

  unflawed_item : (facts : Facts) (item : Item) → item_flaw shelf points clauses (map stated_by facts) item ≡ None → IsItemRight shelf points clauses facts item
  unflawed_item facts (Own lemma) h = unflawed_lemma points clauses (map stated_by facts) lemma h
  unflawed_item facts (Keep kept) h =
      let found = kept_by (map stated_by facts) (kept_fact shelf kept) h in
      record { fact = found.0; there = found.1; usable = found.2 }

  right_item : (facts : Facts) (item : Item) → IsItemRight shelf points clauses facts item → item_flaw shelf points clauses (map stated_by facts) item ≡ None
  right_item facts (Own lemma) h = refuted_lemma points clauses (map stated_by facts) lemma h
  right_item facts (Keep kept) h =
      ap (λ (o : Option Fact). flaw_there (map stated_by facts) (kept_flaw points clauses o)) h.there
      ∙ ap (flaw_there (map stated_by facts)) (usable_fact h.fact h.usable)

  -- what an item states is its fact's clause
  item_states : (facts : Facts) (item : Item) → item_clause shelf item ≡ (item_fact shelf clauses facts item).clause
  item_states facts (Own lemma) = refl
  item_states facts (Keep kept) = refl

  -- and is stated behind the others
  stated_more : (facts : Facts) (item : Item) → map stated_by facts ++ item_clause shelf item ∷ [] ≡ map stated_by (facts ++ item_fact shelf clauses facts item ∷ [])
  stated_more facts item =
      ap (λ (c : List Literal). map stated_by facts ++ c ∷ []) (item_states facts item)
      ∙ sym (map-append stated_by facts (item_fact shelf clauses facts item ∷ []))

  -- ---- all items

  record IsRest (facts : Facts) (items : List Item) : Type 0 where
    each : (j : ℕ) (item : Item) → slice_get items j ≡ Some item → IsItemRight shelf points clauses (facts_from shelf clauses facts (take j items)) item
    last : ends_empty (map stated_by (facts_from shelf clauses facts items)) ≡ true

  ends_by : (earlier : List (List Literal)) (b : Bool) → ends_empty earlier ≡ b → (if b then None else flaw_at earlier 0 LastLemmaNotEmpty) ≡ None → ends_empty earlier ≡ true
  ends_by earlier true e h = e
  ends_by earlier false e h = absurd (cc)

  abbrev RestFlaw : List Item → List (List Literal) → Option Flaw
  RestFlaw items earlier = items_flaw_from shelf points clauses earlier items

  unflawed_rest : (facts : Facts) (items : List Item) → RestFlaw items (map stated_by facts) ≡ None → IsRest facts items
  unflawed_rest facts [] h = record {
    each = λ j item is. absurd (cc);
    last = ends_by (map stated_by facts) (ends_empty (map stated_by facts)) refl h;
  }
  unflawed_rest facts (item ∷ items) h =
      let next : Facts = facts ++ item_fact shelf clauses facts item ∷ [] in
      let parts = both_none (item_flaw shelf points clauses (map stated_by facts) item) (RestFlaw items (map stated_by facts ++ item_clause shelf item ∷ [])) h in
      let here = unflawed_item facts item parts.0 in
      let rest = unflawed_rest next items (sym (ap (RestFlaw items) (stated_more facts item)) ∙ parts.1) in
      record { each = each here rest.each; last = rest.last }
    where
      each : IsItemRight shelf points clauses facts item → ((j : ℕ) (other : Item) → slice_get items j ≡ Some other → IsItemRight shelf points clauses (facts_from shelf clauses (facts ++ item_fact shelf clauses facts item ∷ []) (take j items)) other) → (j : ℕ) (other : Item) → slice_get (item ∷ items) j ≡ Some other → IsItemRight shelf points clauses (facts_from shelf clauses facts (take j (item ∷ items))) other
      each here rest zero other is = let s : item ≡ other = cc in subst (IsItemRight shelf points clauses facts) s here
      each here rest (suc j) other is = rest j other is

  rest_unflawed : (facts : Facts) (items : List Item) → IsRest facts items → RestFlaw items (map stated_by facts) ≡ None
  rest_unflawed facts [] r = ap (λ (b : Bool). if b then None else flaw_at (map stated_by facts) 0 LastLemmaNotEmpty) r.last
  rest_unflawed facts (item ∷ items) r =
      let here : item_flaw shelf points clauses (map stated_by facts) item ≡ None = right_item facts item (r.each 0 item refl) in
      let rest : IsRest (facts ++ item_fact shelf clauses facts item ∷ []) items = record { each = λ j other is. r.each (suc j) other is; last = r.last } in
      ap (λ (f : Option Flaw). first_of f (RestFlaw items (map stated_by facts ++ item_clause shelf item ∷ []))) here
      ∙ ap (RestFlaw items) (stated_more facts item)
      ∙ rest_unflawed (facts ++ item_fact shelf clauses facts item ∷ []) items rest

  module _ (items : List Item) where
    long : length (facts_of shelf clauses items) ≡ length items
    long = facts-length shelf clauses [] items ∙ omega arith

    pub unflawed_items : items_flaw shelf points clauses items ≡ None → AreRight shelf points clauses items
    unflawed_items h =
        let r = unflawed_rest [] items h in
        let facts : Facts = facts_of shelf clauses items in
        record {
          some = subst (λ (n : ℕ). 0 < n) long (some_forth facts r.last);
          each = r.each;
          last = λ fact is. last_forth facts r.last fact (ap (λ (n : ℕ). slice_get facts (n - 1)) long ∙ is);
        }

    pub right_items : AreRight shelf points clauses items → items_flaw shelf points clauses items ≡ None
    right_items r =
        let facts : Facts = facts_of shelf clauses items in
        rest_unflawed [] items (record {
          each = r.each;
          last = last_back facts (subst (λ (n : ℕ). 0 < n) (sym long) r.some) (λ fact is. r.last fact (sym (ap (λ (n : ℕ). slice_get facts (n - 1)) long) ∙ is));
        })

  -- ---- own lemmas

  abbrev own : Lemma → Item
  own lemma = Own lemma

  pub own_flaw : (earlier : List (List Literal)) (lemmas : List Lemma) → items_flaw_from shelf points clauses earlier (map own lemmas) ≡ lemmas_flaw points clauses earlier lemmas
  own_flaw earlier [] = refl
  own_flaw earlier (lemma ∷ lemmas) = ap (first_of (lemma_flaw points clauses earlier lemma)) (own_flaw (earlier ++ lemma.clause ∷ []) lemmas)
