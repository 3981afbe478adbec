-- One more entry.
use Rattle.std.proofs.Common.{◌≡◌, ℕ, zero, suc, List, [], ◌∷◌, ◌++◌, take, Some, refl, subst}
use Rattle.std.specs.Prelude.{slice_get}
use Rattle.kept_lemmas.specs.Facts.{Shelf, facts_of}
use Rattle.kept_lemmas.specs.Entries.{Placed, IsEntryRight, shelf_behind, shelf_of, AreEntriesRight}

pub shelf_goes_on : (shelf : Shelf) (entries : List Placed) (p : Placed) → shelf_behind shelf (entries ++ p ∷ []) ≡ shelf_behind shelf entries ++ facts_of (shelf_behind shelf entries) p.clauses p.items ∷ []
shelf_goes_on shelf [] p = refl
shelf_goes_on shelf (e ∷ entries) p = shelf_goes_on (shelf ++ facts_of shelf e.clauses e.items ∷ []) entries p

abbrev EachRight : Shelf → List Placed → Type 0
EachRight shelf entries = (k : ℕ) (p : Placed) → slice_get entries k ≡ Some p → IsEntryRight (shelf_behind shelf (take k entries)) p

each_goes_on : (shelf : Shelf) (entries : List Placed) (p : Placed) → EachRight shelf entries → IsEntryRight (shelf_behind shelf entries) p → EachRight shelf (entries ++ p ∷ [])
each_goes_on shelf [] p each r zero q is = let s : p ≡ q = cc in subst (IsEntryRight shelf) s r
each_goes_on shelf [] p each r (suc k) q is = absurd (cc)
each_goes_on shelf (e ∷ entries) p each r zero q is = each zero q is
each_goes_on shelf (e ∷ entries) p each r (suc k) q is =
    each_goes_on (shelf ++ facts_of shelf e.clauses e.items ∷ []) entries p (λ j o at. each (suc j) o at) r k q is

pub entries_go_on : (entries : List Placed) (p : Placed) → AreEntriesRight entries → IsEntryRight (shelf_of entries) p → AreEntriesRight (entries ++ p ∷ [])
entries_go_on entries p right r = record { each = each_goes_on [] entries p right.each r }
