-- The text of a certificate: the header, the entries, the end, and nothing behind it but white space and comments. What
-- isn't such a text is refused for the first thing that shows it.
use Rattle.std.specs.Prelude.{◌≡◌, ◌≢◌, ℕ, ◌+◌, List, [], ◌∷◌, length, Option, Some, None, Result, Ok}
use Rattle.smt_lex.specs.declared.token.Token.{Token}
use Rattle.smt_lex.specs.declared.token.LexError.{LexError}
use Rattle.smt_lex.specs.Grammar.{Reads}
use Rattle.smt_sexpr.specs.Tree.{Sexpr}
use Rattle.smt_sexpr.specs.Reading.{Spells, Outcome, expression, finished, refused, Outcomes}
use Rattle.cert_text.specs.declared.entry.Version.{Version}
use Rattle.cert_text.specs.declared.entry.FileEntry.{FileEntry}
use Rattle.cert_text.specs.Form.{header_sexpr, end_sexpr}
use Rattle.cert_read.specs.Parts.{entry_of}
use Rattle.cert_read.specs.declared.error.CertReadError.{CertReadError}
use Rattle.cert_read.specs.declared.error.CertReadError.TheVariants.{Refused, OutOfMemory}
use Rattle.cert_read.specs.declared.error.CertificateRefusal.{CertificateRefusal}
use Rattle.cert_read.specs.declared.error.CertificateRefusal.TheVariants.{NoHeader, IllFormed, NoEnd, TextAfterEnd}

-- a text is a certificate of this version with these entries, or none, for this reason
pub data CertificateOutcome : Type 0 where
  certificate : (version : Version) (entries : List FileEntry) → CertificateOutcome
  no_certificate : (why : CertificateRefusal) → CertificateOutcome

-- from the place up to here the bytes hold these entries, one behind the other
abbrev pub HoldsEntries : Version → List ℕ → ℕ → List FileEntry → ℕ → Type 0
HoldsEntries version bytes place [] here = place ≡ here
HoldsEntries version bytes place (e ∷ es) here =
    (x : Sexpr) × (mid : ℕ) × Spells bytes place x mid × (entry_of version x ≡ Some e) × HoldsEntries version bytes mid es here

-- what stands at the place is an s-expression that is neither an entry nor the end, or it can't be read
abbrev pub IsStrange : Version → Outcome → Type 0
IsStrange version (expression x) = (entry_of version x ≡ None) × (x ≢ end_sexpr)
IsStrange version finished = ⊥
IsStrange version (refused why) = Unit {0}

-- something that is no white space and no comment follows the place, or what follows can't be read
abbrev pub HasMore : List ℕ → ℕ → Type 0
HasMore bytes place = (result : Result (Option Token) LexError) × (after : ℕ) × Reads bytes place result after × (result ≢ Ok None)

-- behind the header, and so many entries, the text is refused for this
abbrev pub RefusesBehind : Version → List ℕ → ℕ → ℕ → CertificateRefusal → Type 0
RefusesBehind version bytes count here NoHeader = ⊥
RefusesBehind version bytes count here (IllFormed k) =
    (o : Outcome) × (after : ℕ) × Outcomes bytes here o after × IsStrange version o × (k ≡ count + 1)
RefusesBehind version bytes count here NoEnd = (after : ℕ) × Outcomes bytes here finished after
RefusesBehind version bytes count here TextAfterEnd = (mid : ℕ) × Spells bytes here end_sexpr mid × HasMore bytes mid

-- what stands behind the header of this version, from the place on
abbrev pub ReadsEntries : Version → List ℕ → ℕ → CertificateOutcome → Type 0
ReadsEntries version bytes place (certificate of entries) =
    (of ≡ version) × (here : ℕ) × (mid : ℕ) × (after : ℕ)
    × HoldsEntries version bytes place entries here × Spells bytes here end_sexpr mid × Reads bytes mid (Ok None) after
ReadsEntries version bytes place (no_certificate why) =
    (entries : List FileEntry) × (here : ℕ)
    × HoldsEntries version bytes place entries here × RefusesBehind version bytes (length entries) here why

-- what stands at the place isn't the header of any version
abbrev pub LacksHeader : List ℕ → ℕ → Type 0
LacksHeader bytes place =
    (o : Outcome) × (after : ℕ) × Outcomes bytes place o after × ((version : Version) → o ≢ expression (header_sexpr version))

-- what the text from the place on is, as a certificate
abbrev pub ReadsCertificate : List ℕ → ℕ → CertificateOutcome → Type 0
ReadsCertificate bytes place (no_certificate NoHeader) = LacksHeader bytes place
ReadsCertificate bytes place outcome =
    (version : Version) × (mid : ℕ) × Spells bytes place (header_sexpr version) mid × ReadsEntries version bytes mid outcome

-- what an error says: that the text is refused for this; want of memory says nothing
abbrev pub ErrorSays : (CertificateRefusal → Type 0) → CertReadError → Type 0
ErrorSays IsRefused (Refused why) = IsRefused why
ErrorSays IsRefused OutOfMemory = Unit {0}
