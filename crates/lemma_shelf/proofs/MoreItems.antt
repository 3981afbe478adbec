-- Items that come to the table.
use Rattle.std.proofs.Common.{arith, ◌≡◌, ℕ, ◌<◌, ◌+◌, List, [], ◌∷◌, ◌++◌, length, take, Option, Some, None, All, refl, sym, ap, subst, ◌∙◌}
use Rattle.std.specs.Prelude.{slice_get, option_map}
use Rattle.std.proofs.lemmas.List.{map-append}
use Rattle.std.proofs.lemmas.List.Elements.{All-nil, All-head, All-tail, All-push, All-weaker}
use Rattle.stn_core.specs.declared.literal.Literal.{Literal}
use Rattle.kept_lemmas.specs.declared.item.Item.{Item}
use Rattle.kept_lemmas.specs.Facts.{Fact, Facts, Shelf, item_fact, facts_of}
use Rattle.kept_lemmas.specs.Entries.{IsItemRight, AreRight}
use Rattle.kept_lemmas.proofs.FactLists.{facts-append}
use Rattle.lemma_shelf.specs.declared.table.Table.{Table}
use Rattle.lemma_shelf.specs.code.Tables.{fact_at, facts_at, CountsTo}
use Rattle.lemma_shelf.specs.code.Walks.{facts_in, shelf_in, IsWhole, AreWithin, AreCounted}
use Rattle.lemma_shelf.specs.code.Additions.{GoesOn, AddsItem, HasItems}
use Rattle.lemma_shelf.proofs.Counting.{counts_on, counted_longer}
use Rattle.lemma_shelf.proofs.Lists.{take_more}

module _ (before now : Table) (goes : GoesOn before now) where
  abbrev In : ℕ → Type 0
  In n = n < length before.lemmas.items

  pub facts_kept : (numbers : List ℕ) → All (λ (n : ℕ). n < length before.lemmas.items) numbers → facts_at (facts_in now) numbers ≡ facts_at (facts_in before) numbers
  facts_kept [] all = refl
  facts_kept (n ∷ numbers) all =
      ap (λ (f : Fact). f ∷ facts_at (facts_in now) numbers) (goes.kept n (All-head In n numbers all))
      ∙ ap (λ (fs : Facts). fact_at (facts_in before) n ∷ fs) (facts_kept numbers (All-tail In n numbers all))

  pub shelf_kept : (entries : List (List ℕ)) → AreWithin before entries → shelf_in now entries ≡ shelf_in before entries
  shelf_kept [] all = refl
  shelf_kept (ns ∷ entries) all =
      let P : List ℕ → Type 0 = λ xs. All (λ (n : ℕ). n < length before.lemmas.items) xs in
      ap (λ (fs : Facts). fs ∷ shelf_in now entries) (facts_kept ns (All-head P ns entries all))
      ∙ ap (λ (shelf : Shelf). facts_at (facts_in before) ns ∷ shelf) (shelf_kept entries (All-tail P ns entries all))

  pub within_kept : (numbers : List ℕ) → All (λ (n : ℕ). n < length before.lemmas.items) numbers → All (λ (n : ℕ). n < length now.lemmas.items) numbers
  within_kept numbers all = let longer = goes.longer in All-weaker In (λ (n : ℕ). n < length now.lemmas.items) (λ n lt. omega (arith, longer, lt)) numbers all

  pub entries_kept : (entries : List (List ℕ)) → AreWithin before entries → AreWithin now entries
  entries_kept entries all = All-weaker (λ (ns : List ℕ). All In ns) (λ (ns : List ℕ). All (λ (n : ℕ). n < length now.lemmas.items) ns) within_kept entries all

pub goes_nowhere : (table : Table) → IsWhole table → GoesOn table table
goes_nowhere table whole = record { whole = whole; longer = omega arith; kept = λ n lt. refl }

pub goes_further : (a b c : Table) → GoesOn a b → GoesOn b c → GoesOn a c
goes_further a b c g h =
    let one = g.longer in
    let two = h.longer in
    record { whole = h.whole; longer = omega (arith, one, two); kept = λ n lt. h.kept n (omega (arith, one, lt)) ∙ g.kept n lt }

-- one more item of an entry
module _ (first before now : Table) (shelf : Shelf) (clauses : List (List Literal)) (items : List Item) (i : ℕ) (item : Item) (numbers : List ℕ) (number : ℕ) (more : List ℕ)
    (at : slice_get items i ≡ Some item) (so_far : HasItems first shelf clauses (take i items) before numbers)
    (adds : AddsItem before shelf clauses numbers item now number) (pushed : more ≡ numbers ++ number ∷ []) where
  pub next_items : HasItems first shelf clauses (take (i + 1) items) now more
  next_items = record {
    goes_on = goes_further first before now so_far.goes_on adds.goes_on;
    within = subst (All (λ (n : ℕ). n < length now.lemmas.items)) (sym pushed) (All-push (λ (n : ℕ). n < length now.lemmas.items) numbers number (within_kept before now adds.goes_on numbers so_far.within) adds.within);
    counted =
        subst (λ (ns : List ℕ). CountsTo (length first.lemmas.items) ns (length now.lemmas.items)) (sym pushed)
        (counts_on numbers (number ∷ []) (length first.lemmas.items) (length before.lemmas.items) (length now.lemmas.items) so_far.counted adds.counted);
    facts =
        ap (facts_at (facts_in now)) pushed
        ∙ map-append (fact_at (facts_in now)) numbers (number ∷ [])
        ∙ ap (λ (fs : Facts). fs ++ fact_at (facts_in now) number ∷ []) (facts_kept before now adds.goes_on numbers so_far.within)
        ∙ ap (λ (f : Fact). facts_at (facts_in before) numbers ++ f ∷ []) adds.fact
        ∙ ap (λ (fs : Facts). fs ++ item_fact shelf clauses fs item ∷ []) so_far.facts
        ∙ sym (facts-append shelf clauses [] (take i items) (item ∷ []))
        ∙ sym (ap (facts_of shelf clauses) (take_more items i item at));
  }

pub number_found : (table : Facts) (found : Option ℕ) (fact : Fact) → option_map (fact_at table) found ≡ Some fact → (n : ℕ) × (found ≡ Some n)
number_found table None fact e = absurd (cc)
number_found table (Some n) fact e = (n, refl)

-- ---- over the entry

module _ (first before : Table) (entries : List (List ℕ)) (points : ℕ) (clauses : List (List Literal)) (items : List Item) (i : ℕ) (item : Item) (numbers : List ℕ)
    (within : AreWithin first entries) (at : slice_get items i ≡ Some item) (right : AreRight (shelf_in first entries) points clauses items)
    (so_far : HasItems first (shelf_in first entries) clauses (take i items) before numbers) where
  pub right_now : IsItemRight (shelf_in before entries) points clauses (facts_at (facts_in before) numbers) item
  right_now =
      subst (λ (shelf : Shelf). IsItemRight shelf points clauses (facts_at (facts_in before) numbers) item) (sym (shelf_kept first before so_far.goes_on entries within))
      (subst (λ (facts : Facts). IsItemRight (shelf_in first entries) points clauses facts item) (sym so_far.facts) (right.each i item at))

  pub added_items : (now : Table) (number : ℕ) (more : List ℕ) → AddsItem before (shelf_in before entries) clauses numbers item now number → more ≡ numbers ++ number ∷ [] → HasItems first (shelf_in first entries) clauses (take (i + 1) items) now more
  added_items now number more adds pushed =
      next_items first before now (shelf_in first entries) clauses items i item numbers number more at so_far
      (subst (λ (shelf : Shelf). AddsItem before shelf clauses numbers item now number) (shelf_kept first before so_far.goes_on entries within) adds) pushed

pub no_items : (table : Table) (shelf : Shelf) (clauses : List (List Literal)) → IsWhole table → HasItems table shelf clauses [] table []
no_items table shelf clauses whole = record { goes_on = goes_nowhere table whole; within = All-nil (λ (n : ℕ). n < length table.lemmas.items); counted = refl; facts = refl }

-- ---- the shelf with one more entry

pub shelf_longer : (before now : Table) (shelf : Shelf) (clauses : List (List Literal)) (items : List Item) (entries all : List (List ℕ)) (numbers : List ℕ) → AreWithin before entries → HasItems before (shelf_in before entries) clauses items now numbers → all ≡ entries ++ numbers ∷ [] → shelf_in before entries ≡ shelf → (shelf_in now all ≡ shelf ++ facts_of shelf clauses items ∷ []) × AreWithin now all
shelf_longer before now shelf clauses items entries all numbers within has e is = (
  ap (shelf_in now) e ∙ map-append (facts_at (facts_in now)) entries (numbers ∷ [])
      ∙ ap (λ (fs : Facts). shelf_in now entries ++ fs ∷ []) has.facts
      ∙ ap (λ (s : Shelf). s ++ facts_of (shelf_in before entries) clauses items ∷ []) (shelf_kept before now has.goes_on entries within)
      ∙ ap (λ (s : Shelf). s ++ facts_of s clauses items ∷ []) is,
  subst (AreWithin now) (sym e) (All-push (λ (ns : List ℕ). All (λ (n : ℕ). n < length now.lemmas.items) ns) entries numbers (entries_kept before now has.goes_on entries within) has.within),
)

pub shelf_counted : (before now : Table) (shelf : Shelf) (clauses : List (List Literal)) (items : List Item) (entries all : List (List ℕ)) (numbers : List ℕ) → AreCounted before entries → HasItems before shelf clauses items now numbers → all ≡ entries ++ numbers ∷ [] → AreCounted now all
shelf_counted before now shelf clauses items entries all numbers counted has e =
    subst (AreCounted now) (sym e) (counted_longer entries numbers (length before.lemmas.items) (length now.lemmas.items) counted has.counted)
