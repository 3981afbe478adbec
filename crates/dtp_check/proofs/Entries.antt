-- The entries of a certificate as they are read, and what is so of all of them.
use Rattle.std.proofs.Common.{refl, sym, ap, subst, arith, ◌∙◌, ◌≡◌, ◌+◌, ℕ, List, [], ◌∷◌, ◌++◌, length, append_assoc, Option, Some}
use Rattle.std.specs.Prelude.{IfSome}
use Rattle.cert_text.specs.declared.entry.Version.{Version}
use Rattle.cert_text.specs.declared.entry.FileEntry.{FileEntry}
use Rattle.cert_read.specs.Certificates.{CertificateOutcome, certificate, no_certificate, HoldsEntries, RefusesBehind, ReadsEntries}
use Rattle.cert_read.specs.Laws.{OneRest}
use Rattle.cert_read.specs.code.Entries.{EntriesFrom, IsReadTo, AreAllLeft, RestIs, IsRefusedFrom}
use Rattle.cert_read.specs.declared.error.CertificateRefusal.{CertificateRefusal}
use Rattle.cert_read.specs.declared.error.CertificateRefusal.TheVariants.{NoHeader, IllFormed, NoEnd, TextAfterEnd}
use Rattle.cert_read.proofs.ReadOn.{holds_on, read_none, read_more, all_left}
use Rattle.dtp_check.specs.declared.earlier.Earlier.{Earlier}
use Rattle.dtp_check.specs.declared.earlier.Earlier.TheVariants.{Unkept, Shelved, WithTrees}
use Rattle.dtp_check.specs.code.Earlier.{Suffices, SufficesFrom}
use Rattle.dtp_check.specs.declared.judgement.Judgement.{Judgement}
use Rattle.dtp_check.specs.declared.judgement.Judgement.TheVariants.{Certificate}
use Rattle.dtp_check.specs.code.Turns.{Leads, IsSoOfAll, ScriptComesTo, IsJudgedBy}

-- ---- what is so of all entries

-- whichever they are
pub of_all : (e : EntriesFrom) (Says : List FileEntry → Type 0) → ((all : List FileEntry) → Says all) → IsSoOfAll e e Says
of_all e Says h = record { taken = []; takes = read_none e; says = λ left are. h left }

pub so_also : (old new : EntriesFrom) (Says Tells : List FileEntry → Type 0) → ((all : List FileEntry) → Says all → Tells all) → IsSoOfAll old new Says → IsSoOfAll old new Tells
so_also old new Says Tells h so = record { taken = so.taken; takes = so.takes; says = λ left are. h (so.taken ++ left) (so.says left are) }

-- behind the first of them
pub so_behind : (start old new : EntriesFrom) (es : List FileEntry) (Says : List FileEntry → Type 0) → IsReadTo start old es → IsSoOfAll old new (λ all. Says (es ++ all)) → IsSoOfAll start new Says
so_behind start old new es Says reads so = record {
  taken = es ++ so.taken;
  takes = read_more start old es reads new so.taken so.takes;
  says = λ left are. subst Says (sym (append_assoc es so.taken left)) (so.says left are);
}

pub behind_one : (old new : EntriesFrom) (entry : FileEntry) (Says : List FileEntry → Type 0) → IsReadTo old new (entry ∷ []) → ((left : List FileEntry) → Says (entry ∷ left)) → IsSoOfAll old new Says
behind_one old new entry Says reads h = record { taken = entry ∷ []; takes = reads; says = λ left are. h left }

-- where nothing is read
stayed : (old new : EntriesFrom) (Says : List FileEntry → Type 0) → new ≡ old → ((left : List FileEntry) → AreAllLeft old left → Says left) → IsSoOfAll old new Says
stayed old new Says same h = subst (λ (e : EntriesFrom). IsSoOfAll old e Says) (sym same) (record { taken = []; takes = read_none old; says = h })

module _ (one : OneRest) (old new : EntriesFrom) (Says : List FileEntry → Type 0) (same : new ≡ old) where
  certificates_alike : (version : Version) (es fs : List FileEntry) → ◌≡◌ {A = CertificateOutcome} (certificate version es) (certificate version fs) → es ≡ fs
  certificates_alike version es fs e = cc

  -- at the end
  pub so_at_end : AreAllLeft old [] → Says [] → IsSoOfAll old new Says
  so_at_end ends says = stayed old new Says same (λ left are.
      let alike = certificates_alike old.version left [] (one old.version old.bytes old.place (certificate old.version left) (certificate old.version []) are ends) in
      subst Says (sym alike) says)

  apart : (version : Version) (es : List FileEntry) (why : CertificateRefusal) → ◌≡◌ {A = CertificateOutcome} (certificate version es) (no_certificate why) → ⊥
  apart version es why e = cc

  refused_here : (version : Version) (bytes : List ℕ) (count place : ℕ) (why : CertificateRefusal) → RefusesBehind version bytes count place why → (w : CertificateRefusal) × ReadsEntries version bytes place (no_certificate w)
  refused_here version bytes count place NoHeader h = absurd h
  refused_here version bytes count place (IllFormed k) (o, after, is, strange, counted) = (IllFormed 1, ([], place, refl, (o, after, is, strange, refl)))
  refused_here version bytes count place NoEnd h = (NoEnd, ([], place, refl, h))
  refused_here version bytes count place TextAfterEnd h = (TextAfterEnd, ([], place, refl, h))

  -- where the text has a fault
  pub so_at_fault : (why : CertificateRefusal) → RefusesBehind old.version old.bytes old.count old.place why → IsSoOfAll old new Says
  so_at_fault why h = stayed old new Says same (λ left are.
      let w = refused_here old.version old.bytes old.count old.place why h in
      absurd (apart old.version left w.0 (one old.version old.bytes old.place (certificate old.version left) (no_certificate w.0) are w.1)))

-- ---- what was read

pub one_read : (old new : EntriesFrom) (o : Option FileEntry) (entry : FileEntry) → o ≡ Some entry → IfSome o (λ e. IsReadTo old new (e ∷ [])) → IsReadTo old new (entry ∷ [])
one_read old new o entry is h = subst (λ (p : Option FileEntry). IfSome p (λ e. IsReadTo old new (e ∷ []))) is h

-- ---- what is held for them

-- for the one that was read
pub suffices_here : (earlier : Earlier) (old new : EntriesFrom) (entry : FileEntry) → SufficesFrom earlier old → IsReadTo old new (entry ∷ []) → Suffices earlier (entry ∷ [])
suffices_here earlier old new entry h reads = h (entry ∷ []) new.place reads.holds

behind_first : (earlier : Earlier) (entry : FileEntry) (es : List FileEntry) → Suffices earlier (entry ∷ es) → Suffices earlier es
behind_first Unkept entry es h = h.1
behind_first (Shelved shelf) entry es h = tt
behind_first (WithTrees shelf) entry es h = tt

-- and for those behind it
pub suffices_behind : (earlier later : Earlier) (old new : EntriesFrom) (entry : FileEntry) → SufficesFrom earlier old → IsReadTo old new (entry ∷ []) → ((es : List FileEntry) → Suffices earlier es → Suffices later es) → SufficesFrom later new
suffices_behind earlier later old new entry h reads on = λ es here holds.
    let second = subst (λ (v : Version). HoldsEntries v new.bytes new.place es here) reads.version holds in
    let third = subst (λ (b : List ℕ). HoldsEntries old.version b new.place es here) reads.bytes second in
    on es (behind_first earlier entry es (h (entry ∷ es) here (holds_on old.version old.bytes old.place new.place here (entry ∷ []) es reads.holds third)))

-- ---- what the script comes to

module _ {K : Type 0} (leads : Leads K) (first last : K) (bytes : List ℕ) (old new : EntriesFrom) (judgement : Judgement) (so : IsSoOfAll old new (ScriptComesTo leads first last bytes judgement)) where
  -- where what is left is read to the end
  pub judged_by_all : (left : List FileEntry) → AreAllLeft new left → IsJudgedBy leads first last bytes old judgement
  judged_by_all left are = record { outcome = certificate old.version (so.taken ++ left); rest = all_left old new so.taken so.takes left are; comes = so.says left are }

  refused_rest : (why : CertificateRefusal) → old.count ≡ 0 → (here : EntriesFrom) (es : List FileEntry) → IsReadTo old here es → RefusesBehind here.version here.bytes here.count here.place why → RestIs old (no_certificate why)
  refused_rest why none here es reads h =
      let counts = reads.count in
      let count : here.count ≡ length es = omega (arith, counts, none) in
      let second = subst (λ (v : Version). RefusesBehind v here.bytes here.count here.place why) reads.version h in
      let third = subst (λ (b : List ℕ). RefusesBehind old.version b here.count here.place why) reads.bytes second in
      (es, here.place, reads.holds, subst (λ (n : ℕ). RefusesBehind old.version old.bytes n here.place why) count third)

  -- where it has a fault
  pub judged_by_fault : (why : CertificateRefusal) → old.count ≡ 0 → IsRefusedFrom new why → IsJudgedBy leads first last bytes old (Certificate why)
  judged_by_fault why none (es, here, reads, h) = record {
    outcome = no_certificate why;
    rest = refused_rest why none here (so.taken ++ es) (read_more old new so.taken so.takes here es reads) h;
    comes = refl;
  }
