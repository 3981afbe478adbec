-- What explains a literal that follows by distances.
use Rattle.std.specs.Prelude.{◌≡◌, ◌⊎◌, List, length}
use Rattle.stn_core.specs.declared.literal.Literal.{Literal}
use Rattle.conflict_analysis.specs.declared.entry.Entry.{Entry}
use Rattle.conflict_analysis.specs.code.Trails.{Stands}

-- the literal is the one that is denied, or stands on the trail
abbrev pub IsOnPath : List Entry → Literal → Literal → Type 0
IsOnPath entries denied l = (l ≡ denied) ⊎ Stands entries (length entries) l
