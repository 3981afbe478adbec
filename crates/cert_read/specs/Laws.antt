-- What the laws of reading a certificate say.
use Rattle.std.specs.Prelude.{◌≡◌, ℕ, min, All, drop, map, List, ◌++◌, Some}
use Rattle.std.specs.List.Sorted.{IsStrictlyIncreasing}
use Rattle.smt_lex.specs.declared.token.TokenKind.TheVariants.{Numeral}
use Rattle.smt_lex.specs.Grammar.{IsToken}
use Rattle.smt_lex.specs.Numbers.{value_of}
use Rattle.smt_sexpr.specs.Printing.{IsWritable}
use Rattle.smt_sexpr.specs.Tree.{Sexpr}
use Rattle.cert_text.specs.declared.entry.Version.{Version}
use Rattle.cert_text.specs.declared.entry.FileEntry.{FileEntry}
use Rattle.cert_text.specs.declared.entry.FileEntry.TheVariants.{Sat, Unsat, Best, Unbounded}
use Rattle.cert_text.specs.Form.{file_entry_sexpr, numeral_text}
use Rattle.cert_text.specs.Limits.{WholeFits, FileEntryFits, IsPlainFileEntry}
use Rattle.cert_read.specs.Certificates.{CertificateOutcome, ReadsCertificate, ReadsEntries, certificate}
use Rattle.cert_read.specs.Parts.{entry_of}
use Rattle.cert_read.specs.Written.{IsClosedGap, certificate_text}

-- a text is one thing at most, as a certificate
abbrev pub OneCertificate : Type 0
OneCertificate = (bytes : List ℕ) (place : ℕ) (o p : CertificateOutcome)
    → ReadsCertificate bytes place o → ReadsCertificate bytes place p → o ≡ p

-- and as what stands behind a header
abbrev pub OneRest : Type 0
OneRest = (version : Version) (bytes : List ℕ) (place : ℕ) (o p : CertificateOutcome)
    → ReadsEntries version bytes place o → ReadsEntries version bytes place p → o ≡ p

-- a certificate that is written behind a gap, up to the end of the text, is read as the entries that were written
abbrev pub CertificateReadsBack : Type 0
CertificateReadsBack = (version : Version) (entries : List FileEntry) (bytes gap : List ℕ) (place : ℕ)
    → All (FileEntryFits version) entries → IsClosedGap gap
    → drop place bytes ≡ gap ++ certificate_text version entries → ReadsCertificate bytes place (certificate version entries)

-- the s-expression of an entry within the limits stands for this entry
abbrev pub EntryIsItsForm : Type 0
EntryIsItsForm = (version : Version) (entry : FileEntry)
    → FileEntryFits version entry → entry_of version (file_entry_sexpr entry) ≡ Some entry

-- within the limits; of points, the numerals that are written ascend, and those from the greatest point on are read as it
abbrev pub IsReadWithin : Version → FileEntry → Type 0
IsReadWithin version (Sat values) = FileEntryFits version (Sat values)
IsReadWithin version (Unsat items) = FileEntryFits version (Unsat items)
IsReadWithin version (Best m values items) = FileEntryFits version (Best m values items)
IsReadWithin version (Unbounded values set) = All WholeFits values
    × ((numbers : List ℕ) × IsStrictlyIncreasing numbers × (set ≡ map (λ n. min n 4294967295) numbers))

-- what is read as an entry is within the limits
abbrev pub ReadEntryFits : Type 0
ReadEntryFits = (version : Version) (x : Sexpr) (entry : FileEntry)
    → IsWritable x → entry_of version x ≡ Some entry → IsReadWithin version entry

-- and has the entry's own form, where no point in it is the greatest one
abbrev pub ReadEntryIsForm : Type 0
ReadEntryIsForm = (version : Version) (x : Sexpr) (entry : FileEntry)
    → IsWritable x → entry_of version x ≡ Some entry → IsPlainFileEntry version entry → x ≡ file_entry_sexpr entry

-- a numeral's digits are those of its value
abbrev pub TextOfValue : Type 0
TextOfValue = (text : List ℕ) → IsToken Numeral text → numeral_text (value_of text) ≡ text

-- the digits of a number have it as their value
abbrev pub ValueOfText : Type 0
ValueOfText = (n : ℕ) → value_of (numeral_text n) ≡ n
