-- Of the code and not of the meaning: items in the place of a refutation's lemmas.
use Rattle.std.specs.Prelude.{◌≡◌, ℕ, List, Option, Some, None}
use Rattle.stn_core.specs.declared.literal.Literal.{Literal}
use Rattle.refute_tree.specs.declared.lemma.Lemma.{Lemma}
use Rattle.kept_lemmas.specs.declared.item.Kept.{Kept}
use Rattle.kept_lemmas.specs.declared.item.Item.{Item}
use Rattle.kept_lemmas.specs.declared.item.Item.TheVariants.{Own, Keep}
use Rattle.kept_lemmas.specs.Facts.{Shelf, kept_fact}
use Rattle.lemma_shelf.specs.ItemFlaws.{kept_flaw, item_clause}

-- what the place keeps may be used in the problem, and states the clause
abbrev pub States : Shelf → ℕ → List (List Literal) → List Literal → Kept → Type 0
States shelf points clauses clause kept =
    (kept_flaw points clauses (kept_fact shelf kept) ≡ None) × (item_clause shelf (Keep kept) ≡ clause)

-- the item is the lemma, or it keeps one that may be used in the problem and states the same clause
abbrev pub StandsFor : Shelf → ℕ → List (List Literal) → Lemma → Item → Type 0
StandsFor shelf points clauses lemma (Own own) = own ≡ lemma
StandsFor shelf points clauses lemma (Keep kept) = States shelf points clauses lemma.clause kept

-- the place that is named for the lemma exactly where it states the lemma's clause in the problem, and else the lemma
abbrev pub IsPickedBy : Shelf → ℕ → List (List Literal) → Lemma → Option Kept → Item → Type 0
IsPickedBy shelf points clauses lemma None item = item ≡ Own lemma
IsPickedBy shelf points clauses lemma (Some kept) item =
    (States shelf points clauses lemma.clause kept → item ≡ Keep kept) × ((States shelf points clauses lemma.clause kept → ⊥) → item ≡ Own lemma)
