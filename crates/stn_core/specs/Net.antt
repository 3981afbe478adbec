use Rattle.std.specs.Prelude.{ℕ, ◌≡◌, List, [], ◌∷◌, ◌++◌, ℤ}
use Rattle.stn_core.specs.declared.literal.Literal.{Literal}
use Rattle.stn_core.specs.declared.net.Added.{Added}
use Rattle.stn_core.specs.declared.net.Added.TheVariants.{Yes, Cycle}
use Rattle.stn_core.specs.Answer.{IsCycleAmong}
use Rattle.stn_core.specs.Schedule.{IsSchedule}

-- some schedule is there (Dechter, Meiri, Pearl 1991, section 3)
abbrev pub IsConsistent : ℕ → List Literal → Type 0
IsConsistent points literals = (values : List ℤ) × IsSchedule points literals values

-- what an answer to `add` says of the net's literals before and after it: the literal stands at the end, and they are
-- consistent with it; or they are as before, and it closes a negative cycle with some of them
abbrev pub IsAdded : ℕ → List Literal → Literal → List Literal → Added → Type 0
IsAdded points old l new Yes = (new ≡ old ++ l ∷ []) × IsConsistent points new
IsAdded points old l new (Cycle cycle) = (new ≡ old) × IsCycleAmong (old ++ l ∷ []) cycle
