-- How the code reads a certificate entry by entry.
-- These are words of the code's contracts, and no part of the meaning.
use Rattle.std.specs.Prelude.{◌≡◌, ◌≤◌, ◌<◌, ◌^◌, ℕ, ◌+◌, List, length, All, None, IfSome}
use Rattle.smt_lex.specs.code.Lexing.{Lexing}
use Rattle.smt_sexpr.specs.Table.{Table}
use Rattle.kept_lemmas.specs.Entries.{IsOwn}
use Rattle.cert_text.specs.declared.entry.Version.{Version}
use Rattle.cert_text.specs.declared.entry.FileEntry.{FileEntry}
use Rattle.cert_text.specs.Form.{items_in}
use Rattle.cert_read.specs.declared.error.CertificateRefusal.{CertificateRefusal}
use Rattle.cert_read.specs.Certificates.{CertificateOutcome, certificate, HoldsEntries, RefusesBehind, ReadsEntries}

-- a certificate of this version from a place in the text on, before which so many entries stand
pub record EntriesFrom : Type 0 where
  pub version : Version
  pub bytes : List ℕ
  pub place : ℕ
  pub count : ℕ

-- what it is read by is ready to read on
pub record IsReady (lexer : Lexing) (table : Table) (count : ℕ) : Type 0 where
  pub fresh : lexer.failed ≡ None
  pub same : lexer.bytes ≡ table.bytes
  pub within : lexer.place ≤ length lexer.bytes
  pub counted : count ≤ lexer.place
  pub few : length lexer.bytes < 2 ^ 63

-- these entries stand between the two places
pub record IsReadTo (old new : EntriesFrom) (entries : List FileEntry) : Type 0 where
  pub version : new.version ≡ old.version
  pub bytes : new.bytes ≡ old.bytes
  pub holds : HoldsEntries old.version old.bytes old.place entries new.place
  pub count : new.count ≡ old.count + length entries

-- what is left, as a certificate
abbrev pub RestIs : EntriesFrom → CertificateOutcome → Type 0
RestIs e outcome = ReadsEntries e.version e.bytes e.place outcome

-- these entries are left, and behind them the end
abbrev pub AreAllLeft : EntriesFrom → List FileEntry → Type 0
AreAllLeft e entries = RestIs e (certificate e.version entries)

-- behind some of the entries that are left the text is refused for this
abbrev pub IsRefusedFrom : EntriesFrom → CertificateRefusal → Type 0
IsRefusedFrom e why =
    (entries : List FileEntry) × (here : EntriesFrom) × IsReadTo e here entries
    × RefusesBehind here.version here.bytes here.count here.place why

-- the entry keeps no lemma
abbrev pub KeepsNone : FileEntry → Type 0
KeepsNone entry = IfSome (items_in entry) (λ items. All IsOwn items)
