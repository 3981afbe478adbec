-- A certificate from its header on.
use Rattle.std.proofs.Common.{subst, arith, ◌∙◌, ◌≡◌, ℕ, List, [], ◌∷◌, length, Option, Some}
use Rattle.std.specs.Prelude.{IfSome}
use Rattle.smt_sexpr.specs.Reading.{Spells}
use Rattle.cert_text.specs.declared.entry.Version.{Version}
use Rattle.cert_text.specs.declared.entry.FileEntry.{FileEntry}
use Rattle.cert_text.specs.Form.{header_sexpr}
use Rattle.cert_read.specs.declared.error.CertReadError.{CertReadError}
use Rattle.cert_read.specs.declared.error.CertReadError.TheVariants.{Refused, OutOfMemory}
use Rattle.cert_read.specs.declared.error.CertificateRefusal.{CertificateRefusal}
use Rattle.cert_read.specs.declared.error.CertificateRefusal.TheVariants.{NoHeader, IllFormed, NoEnd, TextAfterEnd}
use Rattle.cert_read.specs.Certificates.{certificate, no_certificate, HoldsEntries, RefusesBehind, ReadsEntries, ReadsCertificate, ErrorSays}
use Rattle.cert_read.specs.code.Entries.{EntriesFrom, IsReadTo, AreAllLeft, IsRefusedFrom}

module _ (bytes : List ℕ) (place : ℕ) (e : EntriesFrom) (header : Spells bytes place (header_sexpr e.version) e.place) (same : e.bytes ≡ bytes) where
  pub whole_read : (entries : List FileEntry) → AreAllLeft e entries → (version : Version) × ReadsCertificate bytes place (certificate version entries)
  whole_read entries left =
      let behind = subst (λ (b : List ℕ). ReadsEntries e.version b e.place (certificate e.version entries)) same left in
      (e.version, (e.version, e.place, header, behind))

  module _ (none : e.count ≡ 0) where
    refused_by : (why : CertificateRefusal) → IsRefusedFrom e why → ReadsEntries e.version bytes e.place (no_certificate why)
    refused_by why (entries, here, read, says) =
        let count = read.count in
        let counted : here.count ≡ length entries = omega (arith, count, none) in
        let of_version = subst (λ (v : Version). RefusesBehind v here.bytes here.count here.place why) read.version says in
        let of_bytes = subst (λ (b : List ℕ). RefusesBehind e.version b here.count here.place why) (read.bytes ∙ same) of_version in
        let of_count = subst (λ (n : ℕ). RefusesBehind e.version bytes n here.place why) counted of_bytes in
        (entries, here.place, subst (λ (b : List ℕ). HoldsEntries e.version b e.place entries here.place) same read.holds, of_count)

    behind_header : (why : CertificateRefusal) → ReadsEntries e.version bytes e.place (no_certificate why) → ReadsCertificate bytes place (no_certificate why)
    behind_header NoHeader reads = absurd reads.3
    behind_header (IllFormed k) reads = (e.version, e.place, header, reads)
    behind_header NoEnd reads = (e.version, e.place, header, reads)
    behind_header TextAfterEnd reads = (e.version, e.place, header, reads)

    pub whole_refused : (error : CertReadError) → ErrorSays (IsRefusedFrom e) error → ErrorSays (λ why. ReadsCertificate bytes place (no_certificate why)) error
    whole_refused (Refused why) says = behind_header why (refused_by why says)
    whole_refused OutOfMemory says = tt

-- the entry that was found was read
pub some_read : (old new : EntriesFrom) (o : Option FileEntry) (e : FileEntry) → IfSome o (λ x. IsReadTo old new (x ∷ [])) → o ≡ Some e → IsReadTo old new (e ∷ [])
some_read old new o e h is = subst (λ (p : Option FileEntry). IfSome p (λ x. IsReadTo old new (x ∷ []))) is h
