-- Items in the place of a refutation's lemmas, one for each.
use Rattle.std.specs.Prelude.{◌≡◌, ℕ, List, Option, Some, None}
use Rattle.stn_core.specs.declared.literal.Literal.{Literal}
use Rattle.refute_tree.specs.declared.lemma.Lemma.{Lemma}
use Rattle.kept_lemmas.specs.declared.item.Kept.{Kept}
use Rattle.kept_lemmas.specs.declared.item.Item.{Item}
use Rattle.kept_lemmas.specs.declared.item.Item.TheVariants.{Own, Keep}
use Rattle.kept_lemmas.specs.Entries.{IsKeptRightly}
use Rattle.kept_lemmas.specs.Facts.{Shelf}
use Rattle.lemma_shelf.specs.ItemFlaws.{item_clause}

-- the item is the lemma, or it keeps one that states the same clause
abbrev pub StandsInPlace : Shelf → Lemma → Item → Type 0
StandsInPlace shelf lemma (Own own) = own ≡ lemma
StandsInPlace shelf lemma (Keep kept) = item_clause shelf (Keep kept) ≡ lemma.clause

-- the item at the place may be used in the problem, and states the lemma's clause
abbrev pub MayStand : Shelf → ℕ → List (List Literal) → Lemma → Kept → Type 0
MayStand shelf points clauses lemma kept = IsKeptRightly shelf points clauses kept × (item_clause shelf (Keep kept) ≡ lemma.clause)

-- the item at the place that is named for the lemma exactly where it may stand for it, and else the lemma itself
abbrev pub IsPicked : Shelf → ℕ → List (List Literal) → Lemma → Option Kept → Item → Type 0
IsPicked shelf points clauses lemma None item = item ≡ Own lemma
IsPicked shelf points clauses lemma (Some kept) item =
    (MayStand shelf points clauses lemma kept → item ≡ Keep kept) × ((MayStand shelf points clauses lemma kept → ⊥) → item ≡ Own lemma)
