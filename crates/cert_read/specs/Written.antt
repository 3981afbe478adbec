-- The text of a whole certificate as it is written.
use Rattle.std.specs.Prelude.{◌≡◌, ℕ, List, [], ◌∷◌, ◌++◌, false}
use Rattle.smt_lex.specs.Grammar.{is_gap}
use Rattle.cert_text.specs.declared.entry.Version.{Version}
use Rattle.cert_text.specs.declared.entry.FileEntry.{FileEntry}
use Rattle.cert_text.specs.Form.{header_sexpr, file_entry_sexpr, end_sexpr, line_of}
pub use Rattle.cert_text.specs.Limits.{NumberFits, LiteralWithin, StepWithin, LemmaWithin, ItemWithin, ValueFits, FileEntryWithin, FileEntryFits, IsPlainFileEntry}

-- ---- the text

abbrev pub entries_text : List FileEntry → List ℕ
entries_text [] = []
entries_text (e ∷ es) = line_of (file_entry_sexpr e) ++ entries_text es

abbrev pub certificate_text : Version → List FileEntry → List ℕ
certificate_text version es = line_of (header_sexpr version) ++ (entries_text es ++ line_of end_sexpr)

-- white space and comments, all of whose comments are ended: what follows isn't in one
abbrev pub IsClosedGap : List ℕ → Type 0
IsClosedGap gap = (rest : List ℕ) → is_gap false (gap ++ rest) ≡ is_gap false rest
