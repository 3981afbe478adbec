-- Clauses found by hash.
use Rattle.std.proofs.Common.{arith, ◌≡◌, ℕ, zero, suc, ◌<◌, inl, inr, List, [], ◌∷◌, ◌++◌, length, map, get_or, Option, Some, None, Bool, true, false, Contains, refl, sym, ap, subst, ◌∙◌, append-nil}
use Rattle.std.specs.Prelude.{slice_get, position, MatchOption, is_some, if◌then◌else◌, option_map}
use Rattle.std.specs.List.{list_any, IsDistinct}
use Rattle.std.proofs.lemmas.Bool.{or_left, or_right, both_ways, cases_lt}
use Rattle.std.proofs.lemmas.List.{map-append}
use Rattle.std.proofs.lemmas.List.Quantifiers.{position-Some}
use Rattle.std.proofs.lemmas.Map.Keys.{apart_from_distinct}
use Rattle.std.proofs.lemmas.Option.{slice_get-map, slice_get-get_or, slice_get_within, get_or_from_slice_get, same_Some}
use lib.Pointwise.{pointwise}
use Rattle.stn_core.specs.declared.literal.Literal.{Literal}
use Rattle.stn_core.specs.Literal.{same_literal}
use Rattle.stn_core.proofs.SameLiteral.{same_literal_decides}
use Rattle.std.proofs.lemmas.Bool.{and_parts, and_from}
use Rattle.lemma_shelf.specs.code.Tables.{HasClause}

abbrev alike : List Literal → List Literal → Bool
alike ls ms = pointwise same_literal ls ms

pub alike_forth : (ls ms : List Literal) → alike ls ms ≡ true → ls ≡ ms
alike_forth [] [] e = refl
alike_forth [] (m ∷ ms) e = absurd (cc)
alike_forth (l ∷ ls) [] e = absurd (cc)
alike_forth (l ∷ ls) (m ∷ ms) e =
    let parts = and_parts (same_literal l m) (alike ls ms) e in
    let first : l ≡ m = (same_literal_decides l m).0 parts.0 in
    let rest : ls ≡ ms = alike_forth ls ms parts.1 in
    cc

alike_itself : (ls : List Literal) → alike ls ls ≡ true
alike_itself [] = refl
alike_itself (l ∷ ls) = and_from (same_literal l l) (alike ls ls) ((same_literal_decides l l).1 refl) (alike_itself ls)

pub alike_back : (ls ms : List Literal) → ls ≡ ms → alike ls ms ≡ true
alike_back ls ms e = subst (λ (x : List Literal). alike ls x ≡ true) e (alike_itself ls)

module _ {V : Type 0} (items : V → List Literal) (clause : List Literal) where
  abbrev is_it : V → Bool
  is_it v = alike clause (items v)

  any_back : (keys : List V) (k : ℕ) → slice_get (map items keys) k ≡ Some clause → list_any is_it keys ≡ true
  any_back [] k e = absurd (cc)
  any_back (v ∷ keys) zero e = let s : items v ≡ clause = cc in or_left (is_it v) (list_any is_it keys) (alike_back clause (items v) (sym s))
  any_back (v ∷ keys) (suc k) e = or_right (is_it v) (list_any is_it keys) (any_back keys k e)

  contained_place : (xs : List (List Literal)) → Contains xs clause → (k : ℕ) × (slice_get xs k ≡ Some clause)
  contained_place xs h = (h.0, slice_get-get_or xs h.0 clause h.1 ∙ ap (λ (z : List Literal). Some z) h.2)

  there : (keys : List V) (n : ℕ) → position is_it keys ≡ Some n → slice_get (map items keys) n ≡ Some clause
  there [] n e = absurd (cc)
  there (v ∷ keys) n e =
      let found = position-Some is_it (v ∷ keys) n v e in
      let same : clause ≡ items (get_or (v ∷ keys) n v) = alike_forth clause _ found.1 in
      slice_get-map items (v ∷ keys) n ∙ ap (option_map items) (slice_get-get_or (v ∷ keys) n v found.0) ∙ ap (λ (z : List Literal). Some z) (sym same)

  pub place_found : (keys : List V) (found : Option ℕ) → found ≡ position is_it keys → is_some found ≡ list_any is_it keys → MatchOption found (Contains (map items keys) clause → ⊥) (λ n. slice_get (map items keys) n ≡ Some clause)
  place_found keys None e any = λ h. (let at = contained_place (map items keys) h in let yes = any_back keys at.0 at.1 in absurd (cc))
  place_found keys (Some n) e any = there keys n (sym e)

  pub place_once : (keys : List V) (found : Option ℕ) → IsDistinct (λ v w. alike (items v) (items w)) keys → found ≡ position is_it keys → is_some found ≡ list_any is_it keys → (n : ℕ) → slice_get (map items keys) n ≡ Some clause → found ≡ Some n
  place_once keys None distinct e any n at = absurd (let yes = any_back keys n at in cc)
  place_once [] (Some m) distinct e any n at = absurd (cc)
  place_once (v ∷ keys) (Some m) distinct e any n at = ap (λ (k : ℕ). Some k) same
    where
      all : List V
      all = v ∷ keys

      key_is : (k : ℕ) → slice_get (map items all) k ≡ Some clause → (k < length all) × (items (get_or all k v) ≡ clause)
      key_is k is = by (slice_get all k) refl (sym (slice_get-map items all k) ∙ is)
        where
          by : (o : Option V) → slice_get all k ≡ o → option_map items o ≡ Some clause → (k < length all) × (items (get_or all k v) ≡ clause)
          by None g h = absurd (cc)
          by (Some w) g h =
              (slice_get_within all k w g, ap items (get_or_from_slice_get all k w v g) ∙ same_Some (items w) clause h)

      apart : V → V → Bool
      apart a b = alike (items a) (items b)

      not_before : (i j : ℕ) → slice_get (map items all) i ≡ Some clause → slice_get (map items all) j ≡ Some clause → i < j → ⊥
      not_before i j a b lt =
          let first = key_is i a in
          let second = key_is j b in
          let far = apart_from_distinct apart all i j v distinct lt second.0 in
          let near = alike_back (items (get_or all i v)) (items (get_or all j v)) (first.1 ∙ sym second.1) in
          both_ways (alike (items (get_or all i v)) (items (get_or all j v))) far near

      same : m ≡ n
      same =
          let here = there all m (sym e) in
          elim (cases_lt m n) [
            | inl lt ↦ absurd (not_before m n here at lt)
            | inr le ↦ elim (cases_lt n m) [
              | inl lt ↦ absurd (not_before n m at here lt)
              | inr ge ↦ omega (arith, le, ge)
            ]
          ]

  pub added : (keys now : List V) (value : V) (n : ℕ) → items value ≡ clause → now ≡ (if list_any (λ v. alike (items value) (items v)) keys then keys else keys ++ value ∷ []) → (k : V) × (slice_get now n ≡ Some k) × (alike (items value) (items k) ≡ true) → HasClause (map items keys) clause n (map items now)
  added keys now value n is e stored =
      let longer = by (list_any (λ v. alike (items value) (items v)) keys) e in
      record {
        more = longer.0;
        longer = longer.1;
        at = slice_get-map items now n ∙ ap (option_map items) stored.1 ∙ ap (λ (z : List Literal). Some z) (sym (alike_forth (items value) (items stored.0) stored.2) ∙ is);
      }
    where
      by : (b : Bool) → now ≡ (if b then keys else keys ++ value ∷ []) → (more : List (List Literal)) × (map items now ≡ map items keys ++ more)
      by true f = ([], ap (map items) f ∙ sym (append-nil (map items keys)))
      by false f = (items value ∷ [], ap (map items) f ∙ map-append items keys (value ∷ []))
