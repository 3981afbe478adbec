-- Of the code and not of the meaning: marks that are set one after the other.
use Rattle.std.specs.Prelude.{◌≡◌, ◌||◌, ◌&&◌, ◌<◌, ℕ, suc, nat_eq, Bool, true, false, List, [], ◌∷◌, length, slice_index_or, Option, Some, None}

-- the numbers that were marked, and those that pass the test
abbrev pub MarksMore : (ℕ → Bool) → List Bool → List Bool → Type 0
MarksMore test old new = (i : ℕ) → slice_index_or new i false ≡ (test i || slice_index_or old i false)

-- the same of marks whose count stays
abbrev pub MarksWithin : (ℕ → Bool) → List Bool → List Bool → Type 0
MarksWithin test old new =
    (length new ≡ length old)
    × ((i : ℕ) → i < length old → slice_index_or new i false ≡ (test i || slice_index_or old i false))

-- the places that are true, where the first one has this number
abbrev pub true_places : ℕ → List Bool → List ℕ
true_places number [] = []
true_places number (true ∷ marks) = number ∷ true_places (suc number) marks
true_places number (false ∷ marks) = true_places (suc number) marks

-- a clause of this source, which is cited or not, comes from root r
abbrev pub comes_from : Option ℕ → Bool → ℕ → Bool
comes_from None is_cited r = false
comes_from (Some k) is_cited r = nat_eq r k && is_cited
