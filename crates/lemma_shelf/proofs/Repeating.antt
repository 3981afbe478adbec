-- An entry that keeps one item.
use Rattle.std.proofs.Common.{◌≡◌, ◌<◌, ℕ, List, [], ◌∷◌, length, Option, Some, All, inl, refl, sym, ap, ◌∙◌}
use Rattle.std.proofs.lemmas.List.Elements.{All-nil, All-cons}
use Rattle.stn_core.specs.declared.literal.Literal.{Literal}
use Rattle.kept_lemmas.specs.declared.item.Kept.{Kept}
use Rattle.kept_lemmas.specs.declared.item.Item.TheVariants.{Keep}
use Rattle.kept_lemmas.specs.Entries.{AreRight}
use Rattle.kept_lemmas.specs.Facts.{Fact, Facts, Shelf, kept_fact, fact_or_none}
use Rattle.lemma_shelf.specs.declared.table.Table.{Table}
use Rattle.lemma_shelf.specs.code.Tables.{number_of}
use Rattle.lemma_shelf.specs.code.Walks.{facts_in, shelf_in, IsWhole, AreWithin}
use Rattle.lemma_shelf.specs.code.Additions.{HasItems}
use Rattle.lemma_shelf.proofs.Keeping.{by_entry, kept_is, number_holds}
use Rattle.lemma_shelf.proofs.MoreItems.{goes_nowhere, number_found}

-- an item that is right is there
pub kept_there : (table : Table) (entries : List (List ℕ)) (shelf : Shelf) (points : ℕ) (clauses : List (List Literal)) (kept : Kept) → shelf_in table entries ≡ shelf → AreRight shelf points clauses (Keep kept ∷ [])
    → (number : ℕ) × (number_of entries kept ≡ Some number)
kept_there table entries shelf points clauses kept same right =
    let there = right.each 0 (Keep kept) refl in
    number_found (facts_in table) (number_of entries kept) there.fact (sym (by_entry (facts_in table) entries kept.entry kept.item) ∙ ap (λ (s : Shelf). kept_fact s kept) same ∙ there.there)

pub has_kept : (table : Table) (entries : List (List ℕ)) (clauses : List (List Literal)) (kept : Kept) (number : ℕ) → IsWhole table → AreWithin table entries → number_of entries kept ≡ Some number
    → HasItems table (shelf_in table entries) clauses (Keep kept ∷ []) table (number ∷ [])
has_kept table entries clauses kept number whole within is =
    let P : ℕ → Type 0 = λ n. n < length table.lemmas.items in
    let below : P number = number_holds (facts_in table) entries P kept.entry kept.item number within is in
    record {
      goes_on = goes_nowhere table whole;
      within = All-cons P number [] below (All-nil P);
      counted = inl (below, refl);
      facts = ap (λ (f : Option Fact). fact_or_none f ∷ []) (sym (kept_is (facts_in table) entries kept number is));
    }
