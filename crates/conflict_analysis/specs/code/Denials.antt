-- Which literals of a clause the trail denies.
use Rattle.std.specs.Prelude.{◌≢◌, ℕ, ◌<◌, List, length}
use Rattle.stn_core.specs.declared.literal.Literal.{Literal}
use Rattle.stn_core.specs.Literal.{negation_of, literal_at}
use Rattle.conflict_analysis.specs.declared.entry.Entry.{Entry}
use Rattle.conflict_analysis.specs.code.Trails.{Stands}

-- the negations of the clause's literals but the one at the place stand on the trail
abbrev pub AreDenied : List Entry → List Literal → ℕ → Type 0
AreDenied entries clause place =
    (q : ℕ) → q < length clause → q ≢ place
    → Stands entries (length entries) (negation_of (literal_at clause q))
