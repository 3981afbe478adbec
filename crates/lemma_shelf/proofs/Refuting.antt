-- The entry that was put on the shelf refutes its problem.
use Rattle.std.proofs.Common.{arith, ◌≡◌, ℕ, zero, suc, ◌<◌, ◌-◌, List, [], ◌∷◌, ◌++◌, length, take, Option, Some, All, sym, ap, subst, ◌∙◌, length-append}
use Rattle.std.specs.Prelude.{slice_get, slice_index_or, option_and_then}
use Rattle.std.proofs.lemmas.Option.{slice_get-get_or}
use Rattle.stn_core.specs.declared.literal.Literal.{Literal}
use Rattle.kept_lemmas.specs.declared.item.Kept.{Kept}
use Rattle.kept_lemmas.specs.declared.item.Item.{Item}
use Rattle.kept_lemmas.specs.declared.item.Item.TheVariants.{Keep}
use Rattle.kept_lemmas.specs.Facts.{Fact, Facts, Shelf, kept_fact, entry_numbered, fact_or_none, no_fact, facts_of}
use Rattle.kept_lemmas.specs.Entries.{IsUsable, IsKeptRightly, IsItemRight, AreRight}
use Rattle.kept_lemmas.proofs.FactLists.{all_at, facts-length}
use Rattle.kept_lemmas.proofs.Usable.{usable}
use Rattle.lemma_shelf.specs.Lowering.{Refutes}
use Rattle.lemma_shelf.proofs.Lists.{get_last}

pub refutes : (shelf now : Shelf) (points : ℕ) (clauses : List (List Literal)) (items : List Item) → AreRight shelf points clauses items → All (IsUsable points clauses) (facts_of shelf clauses items) → now ≡ shelf ++ facts_of shelf clauses items ∷ [] → Refutes now (length shelf) points clauses
refutes shelf now points clauses items right usable e =
    let facts : Facts = facts_of shelf clauses items in
    let made = facts-length shelf clauses [] items in
    let some = right.some in
    let long : length facts ≡ length items = omega (arith, made) in
    let lt : length facts - 1 < length facts = omega (arith, long, some) in
    let fact : Fact = slice_index_or facts (length facts - 1) no_fact in
    let is : slice_get facts (length facts - 1) ≡ Some fact = slice_get-get_or facts (length facts - 1) no_fact lt in
    record {
      facts = facts;
      there = ap (λ (s : Shelf). slice_get s (length shelf)) e ∙ get_last shelf facts;
      fact = fact;
      last = is;
      empty = right.last fact (ap (λ (n : ℕ). slice_get facts (n - 1)) (sym long) ∙ is);
      usable = all_at (IsUsable points clauses) facts (length facts - 1) fact usable is;
    }

-- an item that states the clause without literals refutes each problem in which it may be used
kept_right : (shelf : Shelf) (points : ℕ) (clauses : List (List Literal)) (kept : Kept) (fact : Fact) → kept_fact shelf kept ≡ Some fact → IsUsable points clauses fact → fact.clause ≡ [] → AreRight shelf points clauses (Keep kept ∷ [])
kept_right shelf points clauses kept fact there usable empty = record {
  some = omega arith;
  each = λ j item is. each j item is;
  last = λ f is. (let same : fact_or_none (kept_fact shelf kept) ≡ f = some_fact is in
      ap (λ (g : Fact). g.clause) (sym same) ∙ ap (λ (o : Option Fact). (fact_or_none o).clause) there ∙ empty);
}
  where
    some_fact : {f g : Fact} → Some f ≡ Some g → f ≡ g
    some_fact e = cc

    each : (j : ℕ) (item : Item) → slice_get (Keep kept ∷ []) j ≡ Some item → IsItemRight shelf points clauses (facts_of shelf clauses (take j (Keep kept ∷ []))) item
    each zero item is =
        let same : Keep kept ≡ item = cc in
        let right : IsKeptRightly shelf points clauses kept = record { fact = fact; there = there; usable = usable } in
        subst (λ (i : Item). IsItemRight shelf points clauses [] i) same right
    each (suc j) item is = absurd (cc)

-- the last item of an entry may be kept behind it, where the problem is the same
pub again_right : (shelf now : Shelf) (points : ℕ) (clauses : List (List Literal)) (items : List Item) (place : Kept) → AreRight shelf points clauses items → now ≡ shelf ++ facts_of shelf clauses items ∷ []
    → place.entry ≡ length now → place.item ≡ length items - 1 → AreRight now points clauses (Keep place ∷ [])
again_right shelf now points clauses items place right e entry item =
    let facts : Facts = facts_of shelf clauses items in
    let made = facts-length shelf clauses [] items in
    let some = right.some in
    let long : length facts ≡ length items = omega (arith, made) in
    let lt : length facts - 1 < length facts = omega (arith, long, some) in
    let fact : Fact = slice_index_or facts (length facts - 1) no_fact in
    let is : slice_get facts (length facts - 1) ≡ Some fact = slice_get-get_or facts (length facts - 1) no_fact lt in
    let count : length now ≡ suc (length shelf) = ap (λ (s : Shelf). length s) e ∙ length-append shelf (facts ∷ []) ∙ omega arith in
    let there : kept_fact now place ≡ Some fact =
    ap (λ (n : ℕ). option_and_then (λ (fs : Facts). slice_get fs place.item) (entry_numbered now n)) (entry ∙ count)
    ∙ ap (option_and_then (λ (fs : Facts). slice_get fs place.item)) (ap (λ (s : Shelf). slice_get s (length shelf)) e ∙ get_last shelf facts)
    ∙ ap (slice_get facts) (item ∙ ap (λ (n : ℕ). n - 1) (sym long)) ∙ is in
    kept_right now points clauses place fact there (all_at (IsUsable points clauses) facts (length facts - 1) fact (usable shelf points clauses items right) is)
    (right.last fact (ap (λ (n : ℕ). slice_get facts (n - 1)) (sym long) ∙ is))
