-- Entries that are read one behind the other.
use Rattle.std.proofs.Common.{refl, sym, subst, arith, ◌∙◌, ◌≡◌, ℕ, List, [], ◌∷◌, ◌++◌, length-append, Bool, true, false, Option, Some, None, Ok}
use Rattle.std.specs.Prelude.{IfSome, IsTrue, is_some}
use Rattle.smt_lex.specs.Grammar.{Reads}
use Rattle.smt_sexpr.specs.Reading.{Spells}
use Rattle.cert_text.specs.declared.entry.Version.{Version}
use Rattle.cert_text.specs.declared.entry.FileEntry.{FileEntry}
use Rattle.cert_text.specs.Form.{end_sexpr}
use Rattle.cert_read.specs.declared.error.CertReadError.{CertReadError}
use Rattle.cert_read.specs.declared.error.CertReadError.TheVariants.{Refused, OutOfMemory}
use Rattle.cert_read.specs.Certificates.{HoldsEntries, RefusesBehind, ErrorSays}
use Rattle.cert_read.specs.code.Entries.{EntriesFrom, IsReadTo, AreAllLeft, IsRefusedFrom}

pub holds_on : (version : Version) (bytes : List ℕ) (place mid here : ℕ) (es fs : List FileEntry) → HoldsEntries version bytes place es mid → HoldsEntries version bytes mid fs here → HoldsEntries version bytes place (es ++ fs) here
holds_on version bytes place mid here [] fs h k = subst (λ (p : ℕ). HoldsEntries version bytes p fs here) (sym h) k
holds_on version bytes place mid here (e ∷ es) fs (x, next, spells, is, rest) k = (x, next, spells, is, holds_on version bytes next mid here es fs rest k)

-- some entries were read so far
abbrev pub IsReadOn : EntriesFrom → EntriesFrom → Type 0
IsReadOn old new = (entries : List FileEntry) × IsReadTo old new entries

pub read_none : (e : EntriesFrom) → IsReadTo e e []
read_none e = record { version = refl; bytes = refl; holds = refl; count = omega arith }

module _ (old mid : EntriesFrom) (es : List FileEntry) (h : IsReadTo old mid es) where
  pub read_more : (new : EntriesFrom) (fs : List FileEntry) → IsReadTo mid new fs → IsReadTo old new (es ++ fs)
  read_more new fs k =
      let second = subst (λ (v : Version). HoldsEntries v mid.bytes mid.place fs new.place) h.version k.holds in
      let third = subst (λ (b : List ℕ). HoldsEntries old.version b mid.place fs new.place) h.bytes second in
      let counted = h.count in
      let more = k.count in
      let long = length-append es fs in
      record {
        version = k.version ∙ h.version;
        bytes = k.bytes ∙ h.bytes;
        holds = holds_on old.version old.bytes old.place mid.place new.place es fs h.holds third;
        count = omega (arith, counted, more, long);
      }

  pub all_left : (fs : List FileEntry) → AreAllLeft mid fs → AreAllLeft old (es ++ fs)
  all_left fs (same, here, next, after, holds, ends, rest) =
      let second = subst (λ (v : Version). HoldsEntries v mid.bytes mid.place fs here) h.version holds in
      let third = subst (λ (b : List ℕ). HoldsEntries old.version b mid.place fs here) h.bytes second in (
        refl,
        here,
        next,
        after,
        holds_on old.version old.bytes old.place mid.place here es fs h.holds third,
        subst (λ (b : List ℕ). Spells b here end_sexpr next) h.bytes ends,
        subst (λ (b : List ℕ). Reads b next (Ok None) after) h.bytes rest,
      )

  pub refused_on : (error : CertReadError) → ErrorSays (RefusesBehind mid.version mid.bytes mid.count mid.place) error → ErrorSays (IsRefusedFrom old) error
  refused_on (Refused why) says = (es, mid, h, says)
  refused_on OutOfMemory says = tt

pub found : (P : FileEntry → Type 0) (o : Option FileEntry) (test : Bool) → IfSome o P → test ≡ is_some o → IsTrue test → (e : FileEntry) × P e
found P (Some e) test h is some = (e, h)
found P None test h is some = let both : false ≡ true = sym is ∙ some in absurd cc
