-- The lemmas that stand for an entry.
use Rattle.std.proofs.Common.{arith, ◌≡◌, ℕ, ◌+◌, ◌-◌, List, [], ◌∷◌, ◌++◌, length, map, take, Some, refl, sym, ap, subst, ◌∙◌, length-append, append-nil}
use Rattle.std.specs.Prelude.{All, slice_get, IsTrue, ◌↔◌, Bool, true, false}
use Rattle.std.proofs.lemmas.Grind.{flat_map-append}
use Rattle.std.proofs.lemmas.List.{take_all}
use Rattle.std.proofs.lemmas.Option.{same_Some}
use Rattle.stn_core.specs.declared.literal.Literal.{Literal}
use Rattle.refute_tree.specs.declared.lemma.Lemma.{Lemma}
use Rattle.kept_lemmas.specs.declared.item.Item.{Item}
use Rattle.kept_lemmas.specs.Facts.{Facts, Shelf, own_fact, facts_from, facts_of}
use Rattle.kept_lemmas.specs.Entries.{IsOwn, Placed, shelf_of}
use Rattle.kept_lemmas.proofs.Going.{shelf_goes_on}
use Rattle.lemma_shelf.specs.code.Tables.{own_item}
use Rattle.lemma_shelf.specs.Lowering.{last_fact, own_facts, StatesLast, IsSublist, none, takes, passes, in_order, AreOfShelf, AreCited, StandFor}
use Rattle.lemma_shelf.proofs.Lists.{get_last}
use Rattle.dtp_check.specs.declared.earlier.Earlier.{Earlier}
use Rattle.dtp_check.specs.declared.earlier.Earlier.TheVariants.{WithTrees}
use Rattle.dtp_check.specs.code.Earlier.{Holds}

-- ---- an entry that keeps none

-- what own lemmas state is the same behind any entries
owned_alike : (shelf other : Shelf) (clauses : List (List Literal)) (facts : Facts) (lemmas : List Lemma) → facts_from shelf clauses facts (map own_item lemmas) ≡ facts_from other clauses facts (map own_item lemmas)
owned_alike shelf other clauses facts [] = refl
owned_alike shelf other clauses facts (l ∷ lemmas) = owned_alike shelf other clauses (facts ++ own_fact clauses facts l ∷ []) lemmas

sublist_itself : {A : Type 0} (xs : List A) → IsSublist xs xs
sublist_itself [] = none
sublist_itself (x ∷ xs) = takes (sublist_itself xs)

sublist_behind : {A : Type 0} (xs ys : List A) → IsSublist ys (xs ++ ys)
sublist_behind [] ys = sublist_itself ys
sublist_behind (x ∷ xs) ys = passes (sublist_behind xs ys)

-- what all items state, those of one more entry behind the others
in_order_more : (before : List Placed) (entry : Placed) → in_order (shelf_of (before ++ entry ∷ [])) ≡ in_order (shelf_of before) ++ facts_of (shelf_of before) entry.clauses entry.items
in_order_more before entry =
    let facts : Facts = facts_of (shelf_of before) entry.clauses entry.items in
    ap in_order (shelf_goes_on [] before entry)
    ∙ flat_map-append (λ (fs : Facts). fs) (shelf_of before) (facts ∷ [])
    ∙ ap (λ (fs : Facts). in_order (shelf_of before) ++ fs) (append-nil facts)

pub own_stand : (before : List Placed) (entry : Placed) (lemmas : List Lemma) → All IsOwn entry.items → map own_item lemmas ≡ entry.items → StandFor before entry lemmas
own_stand before entry lemmas all same =
    let facts : Facts = facts_of (shelf_of before) entry.clauses entry.items in
    let alike : own_facts entry.clauses lemmas ≡ facts = owned_alike [] (shelf_of before) entry.clauses [] lemmas ∙ ap (facts_of (shelf_of before) entry.clauses) same in
    record {
      own = λ _. same;
      last = ap last_fact alike;
      there = subst (λ (fs : Facts). IsSublist fs (in_order (shelf_of (before ++ entry ∷ [])))) (sym alike) (subst (IsSublist facts) (sym (in_order_more before entry)) (sublist_behind (in_order (shelf_of before)) facts));
      cited = λ kept. absurd (kept all);
    }

-- ---- an entry that keeps some

pub kept_stand : (before : List Placed) (entry : Placed) (lemmas : List Lemma) (shelf : Shelf) → shelf ≡ shelf_of (before ++ entry ∷ []) → (All IsOwn entry.items → ⊥)
    → StatesLast shelf (length shelf - 1) entry.clauses lemmas → AreOfShelf (take (length shelf - 1 + 1) shelf) entry.clauses lemmas → AreCited lemmas → StandFor before entry lemmas
kept_stand before entry lemmas shelf held kept states there cited =
    let facts : Facts = facts_of (shelf_of before) entry.clauses entry.items in
    let now : shelf ≡ shelf_of before ++ facts ∷ [] = held ∙ shelf_goes_on [] before entry in
    let long : length shelf ≡ length (shelf_of before ++ facts ∷ []) = ap (λ (s : Shelf). length s) now in
    let more = length-append (shelf_of before) (facts ∷ []) in
    let last : length shelf - 1 ≡ length (shelf_of before) = omega (arith, long, more) in
    let all : length shelf - 1 + 1 ≡ length shelf = omega (arith, long, more) in
    let at : slice_get shelf (length shelf - 1) ≡ Some facts = ap (λ (s : Shelf). slice_get s (length shelf - 1)) now ∙ ap (slice_get (shelf_of before ++ facts ∷ [])) last ∙ get_last (shelf_of before) facts in
    let same : states.facts ≡ facts = same_Some states.facts facts (sym states.there ∙ at) in
    let whole : take (length shelf - 1 + 1) shelf ≡ shelf_of (before ++ entry ∷ []) = ap (λ (n : ℕ). take n shelf) all ∙ take_all (length shelf) shelf (omega arith) ∙ held in
    record {
      own = λ own. absurd (kept own);
      last = states.same ∙ ap last_fact same;
      there = subst (λ (s : Shelf). AreOfShelf s entry.clauses lemmas) whole there;
      cited = λ _. cited;
    }

-- what is held of these entries
pub shelf_held : (earlier : Earlier) (shelf : Shelf) (before : List Placed) → earlier ≡ WithTrees shelf → Holds earlier before → shelf ≡ shelf_of before
shelf_held earlier shelf before e h = subst (λ (x : Earlier). Holds x before) e h

pub not_own : (items : List Item) (test : Bool) → IsTrue test ↔ All IsOwn items → test ≡ false → All IsOwn items → ⊥
not_own items test is denied all = let held : test ≡ true = is.1 all in absurd (cc)
