-- What the laws of the format say.
use Rattle.std.specs.Prelude.{◌≡◌, ℕ, ◌+◌, List, ◌++◌, length}
use Rattle.smt_sexpr.specs.Printing.{IsWritable, text_of}
use Rattle.smt_sexpr.specs.Reading.{Spells}
use Rattle.smt_sexpr.specs.Tree.{Sexpr}
use Rattle.cert_text.specs.declared.entry.Version.{Version}
use Rattle.cert_text.specs.declared.entry.Entry.{Entry}
use Rattle.cert_text.specs.declared.entry.FileEntry.{FileEntry}
use Rattle.cert_text.specs.Form.{header_sexpr, entry_sexpr, file_entry_sexpr, file_entry_of, line_of}
use Rattle.cert_text.specs.Limits.{EntryFits, IsPlain, FileEntryFits, IsPlainFileEntry}

-- each leaf of a header's s-expression, and of an entry's, is a token
abbrev pub HeaderIsWritable : Type 0
HeaderIsWritable = (version : Version) → IsWritable (header_sexpr version)

abbrev pub EntryIsWritable : Type 0
EntryIsWritable = (entry : Entry) → IsWritable (entry_sexpr entry)

abbrev pub FileEntryIsWritable : Type 0
FileEntryIsWritable = (entry : FileEntry) → IsWritable (file_entry_sexpr entry)

-- the line of the s-expression is read again as this one, whatever stands before it and behind it
abbrev pub LineReadsBack : Sexpr → Type 0
LineReadsBack x = (before after : List ℕ)
    → Spells (before ++ (line_of x ++ after)) (length before) x (length before + length (text_of x))

abbrev pub HeaderReadsBack : Type 0
HeaderReadsBack = (version : Version) → LineReadsBack (header_sexpr version)

abbrev pub EntryReadsBack : Type 0
EntryReadsBack = (entry : Entry) → LineReadsBack (entry_sexpr entry)

abbrev pub FileEntryReadsBack : Type 0
FileEntryReadsBack = (entry : FileEntry) → LineReadsBack (file_entry_sexpr entry)

-- no two versions have the same header
abbrev pub OneHeader : Type 0
OneHeader = (v w : Version) → header_sexpr v ≡ header_sexpr w → v ≡ w

-- no two entries have the same s-expression
abbrev pub OneEntry : Type 0
OneEntry = (e f : Entry) → entry_sexpr e ≡ entry_sexpr f → e ≡ f

abbrev pub OneFileEntry : Type 0
OneFileEntry = (e f : FileEntry) → file_entry_sexpr e ≡ file_entry_sexpr f → e ≡ f

-- no two entries have the same line
abbrev pub OneLine : Type 0
OneLine = (e f : Entry) → line_of (entry_sexpr e) ≡ line_of (entry_sexpr f) → e ≡ f

abbrev pub OneFileLine : Type 0
OneFileLine = (e f : FileEntry) → line_of (file_entry_sexpr e) ≡ line_of (file_entry_sexpr f) → e ≡ f

-- an entry that keeps no lemmas is written as what decides its check
abbrev pub OwnText : Type 0
OwnText = (entry : Entry) → file_entry_sexpr (file_entry_of entry) ≡ entry_sexpr entry

-- and it has the same numbers
abbrev pub OwnFits : Type 0
OwnFits = (version : Version) (entry : Entry) → EntryFits version entry → FileEntryFits version (file_entry_of entry)

abbrev pub OwnPlain : Type 0
OwnPlain = (version : Version) (entry : Entry) → IsPlain version entry → IsPlainFileEntry version (file_entry_of entry)
