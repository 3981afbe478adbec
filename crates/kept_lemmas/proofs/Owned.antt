-- Own lemmas are right exactly where they are a refutation.
use Rattle.std.proofs.Common.{arith, ◌≡◌, ◌↔◌, ℕ, zero, suc, ◌<◌, ◌-◌, List, [], ◌∷◌, ◌++◌, length, map, take, Option, Some, None, refl, sym, ap, subst, ◌∙◌, append-nil, append_assoc}
use Rattle.std.specs.Prelude.{slice_get, slice_index_or, option_map}
use Rattle.std.proofs.lemmas.List.{take-map, length-map, map-append}
use Rattle.std.proofs.lemmas.Option.{slice_get-map, slice_get-get_or, same_Some}
use Rattle.stn_core.specs.declared.literal.Literal.{Literal}
use Rattle.refute_tree.specs.declared.lemma.Lemma.{Lemma}
use Rattle.refute_tree.specs.Trees.{IsRefuted, IsRefutation, stated}
use Rattle.kept_lemmas.specs.declared.item.Item.{Item}
use Rattle.kept_lemmas.specs.declared.item.Item.TheVariants.{Own, Keep}
use Rattle.kept_lemmas.specs.Facts.{Fact, Facts, Shelf, stated_by, own_fact, item_fact, facts_from, facts_of}
use Rattle.kept_lemmas.specs.Entries.{IsItemRight, AreRight}

abbrev own : Lemma → Item
own lemma = Own lemma

module _ (shelf : Shelf) (clauses : List (List Literal)) where
  pub owned_stated : (facts : Facts) (lemmas : List Lemma) → map stated_by (facts_from shelf clauses facts (map own lemmas)) ≡ map stated_by facts ++ map stated lemmas
  owned_stated facts [] = sym (append-nil (map stated_by facts))
  owned_stated facts (lemma ∷ lemmas) =
      let fact : Fact = own_fact clauses facts lemma in
      owned_stated (facts ++ fact ∷ []) lemmas
      ∙ ap (λ (xs : List (List Literal)). xs ++ map stated lemmas) (map-append stated_by facts (fact ∷ []))
      ∙ append_assoc (map stated_by facts) (lemma.clause ∷ []) (map stated lemmas)

  first_stated : (lemmas : List Lemma) (j : ℕ) → map stated_by (facts_of shelf clauses (take j (map own lemmas))) ≡ map stated (take j lemmas)
  first_stated lemmas j = ap (λ (items : List Item). map stated_by (facts_of shelf clauses items)) (take-map own j lemmas) ∙ owned_stated [] (take j lemmas)

  module _ (points : ℕ) (lemmas : List Lemma) where
    own_at : (j : ℕ) (lemma : Lemma) → slice_get lemmas j ≡ Some lemma → slice_get (map own lemmas) j ≡ Some (Own lemma)
    own_at j lemma is = slice_get-map own lemmas j ∙ ap (option_map own) is

    abbrev RefutedBy : Lemma → List (List Literal) → Type 0
    RefutedBy lemma earlier = IsRefuted points clauses earlier lemma

    -- the fact at a place and the lemma there state the same
    fact_at : (k : ℕ) (fact : Fact) (lemma : Lemma) → slice_get (facts_of shelf clauses (map own lemmas)) k ≡ Some fact → slice_get lemmas k ≡ Some lemma → fact.clause ≡ lemma.clause
    fact_at k fact lemma at is =
        let left : slice_get (map stated_by (facts_of shelf clauses (map own lemmas))) k ≡ Some fact.clause = slice_get-map stated_by (facts_of shelf clauses (map own lemmas)) k ∙ ap (option_map stated_by) at in
        let right : slice_get (map stated lemmas) k ≡ Some lemma.clause = slice_get-map stated lemmas k ∙ ap (option_map stated) is in
        same_Some fact.clause lemma.clause (sym left ∙ ap (λ (xs : List (List Literal)). slice_get xs k) (owned_stated [] lemmas) ∙ right)

    some_fact : (k : ℕ) (lemma : Lemma) (found : Option Fact) → slice_get (facts_of shelf clauses (map own lemmas)) k ≡ found → slice_get lemmas k ≡ Some lemma → (fact : Fact) × (found ≡ Some fact)
    some_fact k lemma None at is =
        let left : slice_get (map stated_by (facts_of shelf clauses (map own lemmas))) k ≡ None = slice_get-map stated_by (facts_of shelf clauses (map own lemmas)) k ∙ ap (option_map stated_by) at in
        let right : slice_get (map stated lemmas) k ≡ Some lemma.clause = slice_get-map stated lemmas k ∙ ap (option_map stated) is in
        let both : Some lemma.clause ≡ None = sym right ∙ sym (ap (λ (xs : List (List Literal)). slice_get xs k) (owned_stated [] lemmas)) ∙ left in
        absurd (cc)
    some_fact k lemma (Some fact) at is = (fact, refl)

    forth : AreRight shelf points clauses (map own lemmas) → IsRefutation points clauses lemmas
    forth r = record {
      some = let some = r.some in let long = length-map lemmas own in omega (arith, some, long);
      each = λ j lemma is. subst (RefutedBy lemma) (first_stated lemmas j) (r.each j (Own lemma) (own_at j lemma is));
      last = λ lemma is. last lemma is;
    }
      where
        last : (lemma : Lemma) → slice_get lemmas (length lemmas - 1) ≡ Some lemma → lemma.clause ≡ []
        last lemma is =
            let k : ℕ = length lemmas - 1 in
            let fact = some_fact k lemma (slice_get (facts_of shelf clauses (map own lemmas)) k) refl is in
            let same : k ≡ length (map own lemmas) - 1 = ap (λ (n : ℕ). n - 1) (sym (length-map lemmas own)) in
            sym (fact_at k fact.0 lemma fact.1 is) ∙ r.last fact.0 (subst (λ (n : ℕ). slice_get (facts_of shelf clauses (map own lemmas)) n ≡ Some fact.0) same fact.1)

    lemma_there : (j : ℕ) (item : Item) (found : Option Lemma) → slice_get lemmas j ≡ found → slice_get (map own lemmas) j ≡ Some item → (lemma : Lemma) × (found ≡ Some lemma) × (Own lemma ≡ item)
    lemma_there j item None e is =
        let n : slice_get (map own lemmas) j ≡ None = slice_get-map own lemmas j ∙ ap (option_map own) e in
        absurd (let both : Some item ≡ None = sym is ∙ n in cc)
    lemma_there j item (Some lemma) e is =
        (lemma, refl, same_Some (Own lemma) item (sym (own_at j lemma e) ∙ is))

    back : IsRefutation points clauses lemmas → AreRight shelf points clauses (map own lemmas)
    back r = record {
      some = let some = r.some in let long = length-map lemmas own in omega (arith, some, long);
      each = λ j item is. each j item is;
      last = λ fact at. last fact at;
    }
      where
        each : (j : ℕ) (item : Item) → slice_get (map own lemmas) j ≡ Some item → IsItemRight shelf points clauses (facts_of shelf clauses (take j (map own lemmas))) item
        each j item is =
            let found = lemma_there j item (slice_get lemmas j) refl is in
            let lemma : Lemma = found.0 in
            subst (IsItemRight shelf points clauses (facts_of shelf clauses (take j (map own lemmas)))) found.2 (subst (RefutedBy lemma) (sym (first_stated lemmas j)) (r.each j lemma found.1))

        last : (fact : Fact) → slice_get (facts_of shelf clauses (map own lemmas)) (length (map own lemmas) - 1) ≡ Some fact → fact.clause ≡ []
        last fact at =
            let k : ℕ = length lemmas - 1 in
            let same : length (map own lemmas) - 1 ≡ k = ap (λ (n : ℕ). n - 1) (length-map lemmas own) in
            let some = r.some in
            let lt : k < length lemmas = omega (arith, some) in
            let lemma : Lemma = slice_index_or lemmas k (record { clause = []; steps = [] }) in
            let is : slice_get lemmas k ≡ Some lemma = slice_get-get_or lemmas k _ lt in
            fact_at k fact lemma (subst (λ (n : ℕ). slice_get (facts_of shelf clauses (map own lemmas)) n ≡ Some fact) same at) is ∙ r.last lemma is

    pub owned : AreRight shelf points clauses (map own lemmas) ↔ IsRefutation points clauses lemmas
    owned = (forth, back)
