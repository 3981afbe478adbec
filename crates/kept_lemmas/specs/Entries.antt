-- When the items of an entry refute a problem, over the earlier entries.
use Rattle.std.specs.Prelude.{◌≡◌, ◌⊎◌, ℕ, ◌<◌, ◌-◌, List, [], ◌∷◌, ◌++◌, length, map, take, All, Contains, Some, slice_get}
use Rattle.stn_core.specs.declared.literal.Literal.{Literal}
use Rattle.refute_tree.specs.Trees.{IsOnPoints, IsRefuted}
use Rattle.kept_lemmas.specs.declared.item.Kept.{Kept}
use Rattle.kept_lemmas.specs.declared.item.Item.{Item}
use Rattle.kept_lemmas.specs.declared.item.Item.TheVariants.{Own, Keep}
use Rattle.kept_lemmas.specs.Facts.{Fact, Facts, Shelf, stated_by, kept_fact, facts_of}

-- what an item states may be used in a problem of so many points and these clauses: the time points that it names are
-- points of the problem, and each clause of its support is, literal for literal, a clause of the problem
pub record IsUsable (points : ℕ) (clauses : List (List Literal)) (fact : Fact) : Type 0 where
  pub on_points : All (IsOnPoints points) fact.named
  pub active : All (Contains clauses) fact.support

-- a kept item is there, and usable
pub record IsKeptRightly (shelf : Shelf) (points : ℕ) (clauses : List (List Literal)) (kept : Kept) : Type 0 where
  pub fact : Fact
  pub there : kept_fact shelf kept ≡ Some fact
  pub usable : IsUsable points clauses fact

-- the item is a lemma of the entry's own
abbrev pub IsOwn : Item → Type 0
IsOwn (Own lemma) = Unit {0}
IsOwn (Keep kept) = ⊥

-- an item behind those that state these facts
abbrev pub IsItemRight : Shelf → ℕ → List (List Literal) → Facts → Item → Type 0
IsItemRight shelf points clauses facts (Own lemma) = IsRefuted points clauses (map stated_by facts) lemma
IsItemRight shelf points clauses facts (Keep kept) = IsKeptRightly shelf points clauses kept

-- The items refute the problem: there is one at least, each is right over the problem, the earlier entries and the items
-- before it, and the last states the clause without literals.
pub record AreRight (shelf : Shelf) (points : ℕ) (clauses : List (List Literal)) (items : List Item) : Type 0 where
  pub some : 0 < length items
  pub each : (j : ℕ) (item : Item) → slice_get items j ≡ Some item → IsItemRight shelf points clauses (facts_of shelf clauses (take j items)) item
  pub last : (fact : Fact) → slice_get (facts_of shelf clauses items) (length items - 1) ≡ Some fact → fact.clause ≡ []

-- an entry where it stands: the points and clauses of its problem, and its items (none where it answers sat)
pub record Placed : Type 0 where
  pub points : ℕ
  pub clauses : List (List Literal)
  pub items : List Item

-- an entry that answers sat, whose problem isn't looked at again
abbrev pub without_items : Placed
without_items = record { points = 0; clauses = []; items = [] }

-- no items, or items that refute the entry's problem
abbrev pub IsEntryRight : Shelf → Placed → Type 0
IsEntryRight shelf p = (p.items ≡ []) ⊎ AreRight shelf p.points p.clauses p.items

-- what the entries behind these state, entry after entry
abbrev pub shelf_behind : Shelf → List Placed → Shelf
shelf_behind shelf [] = shelf
shelf_behind shelf (p ∷ entries) = shelf_behind (shelf ++ facts_of shelf p.clauses p.items ∷ []) entries

abbrev pub shelf_of : List Placed → Shelf
shelf_of entries = shelf_behind [] entries

-- each entry is right over those before it
pub record AreEntriesRight (entries : List Placed) : Type 0 where
  pub each : (k : ℕ) (p : Placed) → slice_get entries k ≡ Some p → IsEntryRight (shelf_of (take k entries)) p
