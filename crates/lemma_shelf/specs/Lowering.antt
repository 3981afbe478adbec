-- When an entry on a shelf refutes a problem, and what stands for it without kept items.
use Rattle.std.specs.Prelude.{◌≡◌, ℕ, ◌+◌, ◌-◌, ◌<◌, List, [], ◌∷◌, ◌++◌, length, map, flat_map, All, Contains, Option, Some, slice_get}
use Rattle.stn_core.specs.declared.literal.Literal.{Literal}
use Rattle.refute_tree.specs.declared.step.Step.TheVariants.{Lemma as Earlier}
use Rattle.refute_tree.specs.declared.lemma.Lemma.{Lemma}
use Rattle.kept_lemmas.specs.declared.item.Item.TheVariants.{Own}
use Rattle.kept_lemmas.specs.Facts.{Fact, Facts, Shelf, facts_of}
use Rattle.kept_lemmas.specs.Entries.{IsUsable, IsOwn, Placed, shelf_of}

-- the entry of this number, from 0, has items, the last of which states the clause without literals, names points of the
-- problem alone, and rests on clauses of it alone
pub record Refutes (shelf : Shelf) (entry : ℕ) (points : ℕ) (clauses : List (List Literal)) : Type 0 where
  pub facts : Facts
  pub there : slice_get shelf entry ≡ Some facts
  pub fact : Fact
  pub last : slice_get facts (length facts - 1) ≡ Some fact
  pub empty : fact.clause ≡ []
  pub usable : IsUsable points clauses fact

abbrev pub last_fact : Facts → Option Fact
last_fact facts = slice_get facts (length facts - 1)

-- what lemmas that are an entry's own state over its problem's clauses
abbrev pub own_facts : List (List Literal) → List Lemma → Facts
own_facts clauses lemmas = facts_of [] clauses (map (λ (lemma : Lemma). Own lemma) lemmas)

-- the last of these lemmas states over the problem's clauses what the entry's last item does, and it and those that it
-- cites rest on the same clauses and name the same points, literal for literal and in the same order
pub record StatesLast (shelf : Shelf) (entry : ℕ) (clauses : List (List Literal)) (lemmas : List Lemma) : Type 0 where
  pub facts : Facts
  pub there : slice_get shelf entry ≡ Some facts
  pub same : last_fact (own_facts clauses lemmas) ≡ last_fact facts

-- the second list has the members of the first in their order, and perhaps others between them
pub data IsSublist {A : Type 0} : List A → List A → Type 0 where
  none : IsSublist [] []
  takes : {x : A} {xs ys : List A} → IsSublist xs ys → IsSublist (x ∷ xs) (x ∷ ys)
  passes : {y : A} {xs ys : List A} → IsSublist xs ys → IsSublist xs (y ∷ ys)

-- what the items of the entries state, entry after entry
abbrev pub in_order : Shelf → Facts
in_order shelf = flat_map (λ (facts : Facts). facts) shelf

-- Each of these lemmas states over the problem's clauses what an item on the shelf states: its clause, which rests on the
-- same clauses of the problem and names the same points, literal for literal. They stand in the order of those items, and
-- of no item twice.
abbrev pub AreOfShelf : Shelf → List (List Literal) → List Lemma → Type 0
AreOfShelf shelf clauses lemmas = IsSublist (own_facts clauses lemmas) (in_order shelf)

-- each of these lemmas but the last is cited by one behind it
abbrev pub AreCited : List Lemma → Type 0
AreCited lemmas =
    (j : ℕ) → j + 1 < length lemmas
    → (k : ℕ) × (lemma : Lemma) × (j < k) × (slice_get lemmas k ≡ Some lemma) × Contains lemma.steps (Earlier j)

-- What lemmas stand for an entry behind these entries, so that it keeps none of them. Where it keeps none, its own do, all
-- of them in their order. Else the last states what the entry's last item states, and the others are cited; each is of this
-- entry or of one before.
pub record StandFor (before : List Placed) (entry : Placed) (lemmas : List Lemma) : Type 0 where
  pub own : All IsOwn entry.items → map (λ (lemma : Lemma). Own lemma) lemmas ≡ entry.items
  pub last : last_fact (own_facts entry.clauses lemmas) ≡ last_fact (facts_of (shelf_of before) entry.clauses entry.items)
  pub there : AreOfShelf (shelf_of (before ++ entry ∷ [])) entry.clauses lemmas
  pub cited : (All IsOwn entry.items → ⊥) → AreCited lemmas
