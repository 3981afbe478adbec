-- The laws of entries that keep lemmas.
use Rattle.std.specs.Prelude.{◌≡◌, ◌↔◌, ℕ, ℤ, List, [], ◌∷◌, ◌++◌, map, All}
use Rattle.stn_core.specs.declared.literal.Literal.{Literal}
use Rattle.stn_core.specs.Problem.{ProblemHolds}
use Rattle.refute_tree.specs.declared.lemma.Lemma.{Lemma}
use Rattle.refute_tree.specs.Trees.{IsRefutation}
use Rattle.kept_lemmas.specs.declared.item.Item.{Item}
use Rattle.kept_lemmas.specs.declared.item.Item.TheVariants.{Own}
use Rattle.kept_lemmas.specs.Facts.{Shelf, facts_of}
use Rattle.kept_lemmas.specs.Entries.{IsUsable, AreRight, Placed, IsEntryRight, shelf_of, AreEntriesRight}

-- a problem that items refute over entries that are right holds on no values of its points
abbrev pub ItemsLaw : Type 0
ItemsLaw =
    (entries : List Placed) (points : ℕ) (clauses : List (List Literal)) (items : List Item)
    → AreEntriesRight entries → AreRight (shelf_of entries) points clauses items
    → (values : List ℤ) → ProblemHolds values clauses → ⊥

-- right entries, and one more that is right over them
abbrev pub EntriesGoOn : Type 0
EntriesGoOn =
    (entries : List Placed) (p : Placed)
    → AreEntriesRight entries → IsEntryRight (shelf_of entries) p → AreEntriesRight (entries ++ p ∷ [])

-- what one more entry puts on the shelf
abbrev pub ShelfGoesOn : Type 0
ShelfGoesOn =
    (entries : List Placed) (p : Placed)
    → shelf_of (entries ++ p ∷ []) ≡ shelf_of entries ++ facts_of (shelf_of entries) p.clauses p.items ∷ []

-- what right items state may be used in their problem
abbrev pub UsableLaw : Type 0
UsableLaw =
    (shelf : Shelf) (points : ℕ) (clauses : List (List Literal)) (items : List Item)
    → AreRight shelf points clauses items → All (IsUsable points clauses) (facts_of shelf clauses items)

-- lemmas of an entry's own are right exactly where they are a refutation, whatever the earlier entries are
abbrev pub OwnLaw : Type 0
OwnLaw =
    (shelf : Shelf) (points : ℕ) (clauses : List (List Literal)) (lemmas : List Lemma)
    → AreRight shelf points clauses (map (λ (lemma : Lemma). Own lemma) lemmas) ↔ IsRefutation points clauses lemmas
