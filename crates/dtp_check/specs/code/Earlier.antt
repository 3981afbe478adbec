-- What the code holds of the entries that were found right, for those that come.
-- These are words of the code's inner contracts, and no part of the meaning.
use Rattle.std.specs.Prelude.{◌≡◌, ◌<◌, ◌-◌, ℕ, Bool, false, List, length, All, Option, Some, None}
use Rattle.std.specs.List.{AllByRecursion}
use Rattle.cert_text.specs.declared.entry.FileEntry.{FileEntry}
use Rattle.cert_read.specs.Certificates.{HoldsEntries}
use Rattle.cert_read.specs.code.Entries.{EntriesFrom, KeepsNone}
use Rattle.stn_core.specs.declared.literal.Literal.{Literal}
use Rattle.cert_check.specs.declared.flaw.Flaw.{Flaw}
use Rattle.cert_check.specs.declared.flaw.CheckError.{CheckError}
use Rattle.cert_check.specs.declared.flaw.CheckError.TheVariants.{OutOfMemory, Refused}
use Rattle.kept_lemmas.specs.declared.item.Item.{Item}
use Rattle.kept_lemmas.specs.Facts.{Shelf}
use Rattle.kept_lemmas.specs.Entries.{Placed, shelf_of, IsOwn}
use Rattle.lemma_shelf.specs.ItemFlaws.{items_flaw}
use Rattle.lemma_shelf.specs.Lowering.{Refutes}
use Rattle.dtp_check.specs.declared.earlier.Earlier.{Earlier}
use Rattle.dtp_check.specs.declared.earlier.Earlier.TheVariants.{Unkept, Shelved, WithTrees}

-- what is held is what these entries state
abbrev pub Holds : Earlier → List Placed → Type 0
Holds Unkept before = Unit {0}
Holds (Shelved shelf) before = shelf ≡ shelf_of before
Holds (WithTrees shelf) before = shelf ≡ shelf_of before

-- where trees are wanted, what is held of an entry can be written out
abbrev pub HoldsTrees : Bool → Earlier → Type 0
HoldsTrees wanted Unkept = Unit {0}
HoldsTrees wanted (Shelved shelf) = wanted ≡ false
HoldsTrees wanted (WithTrees shelf) = Unit {0}

-- where nothing is held, none of these entries keeps a lemma
abbrev pub Suffices : Earlier → List FileEntry → Type 0
Suffices Unkept entries = AllByRecursion KeepsNone entries
Suffices (Shelved shelf) entries = Unit {0}
Suffices (WithTrees shelf) entries = Unit {0}

-- the same of one entry
abbrev pub SufficesFor : Earlier → FileEntry → Type 0
SufficesFor Unkept entry = KeepsNone entry
SufficesFor (Shelved shelf) entry = Unit {0}
SufficesFor (WithTrees shelf) entry = Unit {0}

-- the same of all entries from here on, as far as they are read
abbrev pub SufficesFrom : Earlier → EntriesFrom → Type 0
SufficesFrom earlier e =
    (entries : List FileEntry) (here : ℕ) → HoldsEntries e.version e.bytes e.place entries here → Suffices earlier entries

-- the last entry that is held refutes the problem: where nothing is held, its items are own lemmas that do
abbrev pub LastRefutes : Earlier → ℕ → List (List Literal) → List Item → Type 0
LastRefutes Unkept points clauses items = (shelf : Shelf) → items_flaw shelf points clauses items ≡ None
LastRefutes (Shelved shelf) points clauses items = (0 < length shelf) × Refutes shelf (length shelf - 1) points clauses
LastRefutes (WithTrees shelf) points clauses items = (0 < length shelf) × Refutes shelf (length shelf - 1) points clauses

-- an error is the first flaw, or want of memory
abbrev pub RefusesBy : Option Flaw → CheckError → Type 0
RefusesBy flaw OutOfMemory = Unit {0}
RefusesBy flaw (Refused f) = flaw ≡ Some f
