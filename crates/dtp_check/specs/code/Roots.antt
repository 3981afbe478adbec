-- How the code finds the first false assertion, by the truth of the assertions' nodes.
-- These are words of the code's inner contracts, and no part of the meaning.
use Rattle.std.specs.Prelude.{ℕ, ◌+◌, List, [], ◌∷◌, Bool, false, if◌then◌else◌, Option, Some, None, slice_index_or}

-- the first root that isn't marked; the roots are numbered from k on
abbrev pub first_unmarked : List Bool → ℕ → List ℕ → Option ℕ
first_unmarked marks k [] = None
first_unmarked marks k (root ∷ roots) =
    if slice_index_or marks root false then first_unmarked marks (k + 1) roots else Some k
