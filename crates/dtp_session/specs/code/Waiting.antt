-- Items of an entry that isn't on the shelf yet.
-- These are words of the code's inner contracts, and no part of the meaning.
use Rattle.std.specs.Prelude.{List, [], ◌∷◌, ◌++◌, Option, Some, None}
use Rattle.kept_lemmas.specs.Entries.{AreRight}
use Rattle.kept_lemmas.specs.Facts.{Shelf, facts_of}
use Rattle.dtp_session.specs.declared.waiting.Waiting.{Waiting}

-- its items refute its problem over what earlier entries state
abbrev pub IsRightOver : Shelf → Waiting → Type 0
IsRightOver shelf w = AreRight shelf w.problem.points w.problem.clauses w.items

-- what the entries state, with the one that waits
abbrev pub shelf_with : Shelf → Option Waiting → Shelf
shelf_with shelf None = shelf
shelf_with shelf (Some w) = shelf ++ facts_of shelf w.problem.clauses w.items ∷ []
