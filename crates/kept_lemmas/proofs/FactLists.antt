-- What items state, one after the other.
use Rattle.std.proofs.Common.{arith, ◌≡◌, ℕ, zero, suc, ◌<◌, ◌+◌, List, [], ◌∷◌, ◌++◌, length, take, Some, All, subst, refl, length-append}
use Rattle.std.specs.Prelude.{slice_get}
use Rattle.std.proofs.lemmas.List.Elements.{All-head, All-tail, All-push}
use Rattle.stn_core.specs.declared.literal.Literal.{Literal}
use Rattle.kept_lemmas.specs.declared.item.Item.{Item}
use Rattle.kept_lemmas.specs.Facts.{Fact, Facts, Shelf, item_fact, facts_from}

-- what holds of each holds of the one at a place
pub all_at : {X : Type 0} (P : X → Type 0) (xs : List X) (k : ℕ) (x : X) → All P xs → slice_get xs k ≡ Some x → P x
all_at P [] k x all e = absurd (cc)
all_at P (y ∷ ys) zero x all e = let s : y ≡ x = cc in subst P s (All-head P y ys all)
all_at P (y ∷ ys) (suc k) x all e = all_at P ys k x (All-tail P y ys all) e

module _ (shelf : Shelf) (clauses : List (List Literal)) where
  pub facts-append : (facts : Facts) (xs ys : List Item) → facts_from shelf clauses facts (xs ++ ys) ≡ facts_from shelf clauses (facts_from shelf clauses facts xs) ys
  facts-append facts [] ys = refl
  facts-append facts (x ∷ xs) ys = facts-append (facts ++ item_fact shelf clauses facts x ∷ []) xs ys

  pub facts-length : (facts : Facts) (items : List Item) → length (facts_from shelf clauses facts items) ≡ length facts + length items
  facts-length facts [] = omega arith
  facts-length facts (x ∷ xs) =
      let rest = facts-length (facts ++ item_fact shelf clauses facts x ∷ []) xs in
      let more = length-append facts (item_fact shelf clauses facts x ∷ []) in
      omega (arith, rest, more)

  -- what holds of each fact, if it holds of what an item states behind facts of which it holds
  pub facts-each : (P : Fact → Type 0) (facts : Facts) (items : List Item) → All P facts → ((j : ℕ) (item : Item) → slice_get items j ≡ Some item → All P (facts_from shelf clauses facts (take j items)) → P (item_fact shelf clauses (facts_from shelf clauses facts (take j items)) item)) → All P (facts_from shelf clauses facts items)
  facts-each P facts [] all step = all
  facts-each P facts (x ∷ xs) all step =
      facts-each P (facts ++ item_fact shelf clauses facts x ∷ []) xs (All-push P facts (item_fact shelf clauses facts x) all (step 0 x refl all)) (λ j item is. step (suc j) item is)
