-- How the reading of all that a source has ends, where it doesn't end well.
use Rattle.std.specs.Prelude.{◌≡◌, ℕ, List, Option}
use Rattle.dtp_io.specs.Faults.{Rose, TookWithin, TookMore}
use Rattle.dtp_io.specs.declared.all.ReadError.{ReadError}
use Rattle.dtp_io.specs.declared.all.ReadError.TheVariants.{OutOfMemory, ReadFault, TooLong}

-- What was taken by then from what was left, old before and new now, and whether the count of faults rose.
abbrev pub Stops : (limit : ℕ) → Option (List ℕ) → Option (List ℕ) → (before now : ℕ) → ReadError → Type 0
Stops limit old new before now OutOfMemory = TookWithin old new limit × (now ≡ before)
Stops limit old new before now ReadFault = TookWithin old new limit × Rose before now
Stops limit old new before now TooLong = TookMore old new limit × (now ≡ before)
