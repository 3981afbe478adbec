-- Of the code and not of the meaning: items that come to the table.
use Rattle.std.specs.Prelude.{◌≡◌, ℕ, ◌<◌, ◌≤◌, List, [], ◌∷◌, length, All}
use Rattle.stn_core.specs.declared.literal.Literal.{Literal}
use Rattle.kept_lemmas.specs.declared.item.Item.{Item}
use Rattle.kept_lemmas.specs.Facts.{Shelf, item_fact, facts_of}
use Rattle.lemma_shelf.specs.declared.table.Table.{Table}
use Rattle.lemma_shelf.specs.code.Tables.{fact_at, facts_at, CountsTo}
use Rattle.lemma_shelf.specs.code.Walks.{facts_in, IsWhole}

-- the table goes on: it has at least as many lemmas, and the first ones state what they stated
pub record GoesOn (before now : Table) : Type 0 where
  pub whole : IsWhole now
  pub longer : length before.lemmas.items ≤ length now.lemmas.items
  pub kept : (n : ℕ) → n < length before.lemmas.items → fact_at (facts_in now) n ≡ fact_at (facts_in before) n

-- the item's lemma has this number, and states there what the item states
pub record AddsItem (before : Table) (shelf : Shelf) (clauses : List (List Literal)) (numbers : List ℕ) (item : Item) (now : Table) (number : ℕ) : Type 0 where
  pub goes_on : GoesOn before now
  pub within : number < length now.lemmas.items
  pub counted : CountsTo (length before.lemmas.items) (number ∷ []) (length now.lemmas.items)
  pub fact : fact_at (facts_in now) number ≡ item_fact shelf clauses (facts_at (facts_in before) numbers) item

-- the same of all items of an entry
pub record HasItems (before : Table) (shelf : Shelf) (clauses : List (List Literal)) (items : List Item) (now : Table) (numbers : List ℕ) : Type 0 where
  pub goes_on : GoesOn before now
  pub within : All (λ n. n < length now.lemmas.items) numbers
  pub counted : CountsTo (length before.lemmas.items) numbers (length now.lemmas.items)
  pub facts : facts_at (facts_in now) numbers ≡ facts_of shelf clauses items
