-- What stands behind the script, and the whole.
use Rattle.std.proofs.Common.{refl, sym, subst, ◌∙◌, ◌≡◌, ◌+◌, ℕ, List, [], length, Option, inl, inr}
use Rattle.smt_sexpr.specs.Reading.{Spells}
use Rattle.cert_text.specs.Form.{header_sexpr}
use Rattle.smt_sexpr.specs.Tree.{Sexpr}
use Rattle.cert_text.specs.declared.entry.Version.{Version}
use Rattle.cert_read.specs.Certificates.{CertificateOutcome, certificate, no_certificate, ReadsEntries, ReadsCertificate, ErrorSays}
use Rattle.cert_read.specs.code.Entries.{EntriesFrom}
use Rattle.cert_read.specs.declared.error.CertReadError.{CertReadError}
use Rattle.cert_read.specs.declared.error.CertReadError.TheVariants.{Refused}
use Rattle.cert_read.specs.declared.error.CertificateRefusal.{CertificateRefusal}
use Rattle.cert_read.specs.declared.error.CertificateRefusal.TheVariants.{NoHeader, IllFormed, NoEnd, TextAfterEnd}
use Rattle.smt_answer.specs.declared.kind.Kind.{Kind}
use Rattle.dtp_entry.specs.Written.{IsFront}
use Rattle.dtp_entry.specs.Written.{Writes}
use Rattle.dtp_entry.proofs.Written.{appends_nothing}
use Rattle.dtp_check.specs.Answered.{checked_of, IsAnswerPart}
use Rattle.dtp_check.specs.Texts.{judgement_line}
use Rattle.dtp_check.specs.declared.certificate_behind.Behind.{Behind as Found}
use Rattle.dtp_check.specs.declared.certificate_behind.Behind.TheVariants as kinds
use Rattle.dtp_check.specs.declared.judgement.Judgement.{Judgement}
use Rattle.dtp_check.specs.declared.judgement.Judgement.TheVariants.{Script, Certificate}
use Rattle.dtp_check.specs.declared.script_part.PartEnd.{PartEnd}
use Rattle.dtp_check.specs.declared.script_part.PartEnd.TheVariants as part
use Rattle.dtp_check.specs.code.Behind.{IsBehind}
use Rattle.dtp_check.specs.Judged.{ScriptPart, CertificateBehind, judged_with, IsJudged}
use Rattle.dtp_check.specs.code.Turns.{Leads, ScriptComesWith}
use Rattle.dtp_check.specs.code.Parts.{IsReadable}

-- an error that is a refusal says so
pub refusal_told : (IsRefused : CertificateRefusal → Type 0) (error : CertReadError) (why : CertificateRefusal) → error ≡ Refused why → ErrorSays IsRefused error → IsRefused why
refusal_told IsRefused error why e h = subst (λ (error : CertReadError). ErrorSays IsRefused error) e h

-- ---- the whole

module _ (bytes : List ℕ) (xs : List Sexpr) (behind : ℕ) where
  pub judged_outcome : (end : PartEnd) (outcome : CertificateOutcome) (judgement : Judgement) → ScriptPart bytes 0 xs end behind → IsReadable end → CertificateBehind bytes end behind outcome → judgement ≡ judged_with xs outcome → IsJudged bytes judgement
  judged_outcome part.Exit outcome judgement h r b e = record { commands = xs; end = part.Exit; behind = behind; script = h; judged_part = (outcome, b, e) }
  judged_outcome (part.Header v) outcome judgement h r b e = record { commands = xs; end = part.Header v; behind = behind; script = h; judged_part = (outcome, b, e) }
  judged_outcome part.End outcome judgement h r b e = record { commands = xs; end = part.End; behind = behind; script = h; judged_part = (outcome, b, e) }
  judged_outcome (part.Unread kind) outcome judgement h r b e = absurd r

  pub judged_unreadable : (kind : Kind) → ScriptPart bytes 0 xs (part.Unread kind) behind → IsJudged bytes (Script (length xs + 1) kind)
  judged_unreadable kind h = record { commands = xs; end = part.Unread kind; behind = behind; script = h; judged_part = refl }

pub readable_by : (end : PartEnd) → ((kind : Kind) → end ≡ part.Unread kind → ⊥) → IsReadable end
readable_by part.Exit h = tt
readable_by (part.Header v) h = tt
readable_by part.End h = tt
readable_by (part.Unread kind) h = h kind refl

-- the same, as the code has it: over the bytes of lexers that are the source's
module _ (bytes first second : List ℕ) (behind : ℕ) (end : PartEnd) (found : Found) (same_first : first ≡ bytes) (same_second : second ≡ first) (readable : IsReadable end) (is_behind : IsBehind second end behind found) where
  pub stands : (other : Found) → found ≡ other → IsBehind bytes end behind other
  stands other e = subst (λ (f : Found). IsBehind bytes end behind f) e (subst (λ (b : List ℕ). IsBehind b end behind found) (same_second ∙ same_first) is_behind)

  pub found_refusal : (why : CertificateRefusal) (xs : List Sexpr) → ScriptPart first 0 xs end behind → found ≡ kinds.Refused why → IsJudged bytes (Certificate why)
  found_refusal why xs p e =
      judged_outcome bytes xs behind end (no_certificate why) (Certificate why) (subst (λ (b : List ℕ). ScriptPart b 0 xs end behind) same_first p) readable (stands (kinds.Refused why) e) refl

-- what the script comes to with what stands behind it
pub comes_with : {K : Type 0} (leads : Leads K) (first last : K) (bytes : List ℕ) (judgement : Judgement) (outcome : CertificateOutcome) → ScriptComesWith leads first last bytes judgement outcome
    → (xs : List Sexpr) (end : PartEnd) (behind : ℕ) → ScriptPart bytes 0 xs end behind → IsReadable end → judgement ≡ judged_with xs outcome
comes_with leads first last bytes judgement (certificate version entries) h xs end behind part_of readable = sym (h xs end behind part_of readable).judged
comes_with leads first last bytes judgement (no_certificate why) h xs end behind part_of readable = h

-- ---- a certificate whose header was read

pub with_header : (bytes : List ℕ) (place mid : ℕ) (version : Version) → Spells bytes place (header_sexpr version) mid → (outcome : CertificateOutcome) → ReadsEntries version bytes mid outcome → ReadsCertificate bytes place outcome
with_header bytes place mid version h (certificate v entries) reads = (version, mid, h, reads)
with_header bytes place mid version h (no_certificate NoHeader) (es, here, held, refused) = absurd refused
with_header bytes place mid version h (no_certificate (IllFormed k)) reads = (version, mid, h, reads)
with_header bytes place mid version h (no_certificate NoEnd) reads = (version, mid, h, reads)
with_header bytes place mid version h (no_certificate TextAfterEnd) reads = (version, mid, h, reads)

pub opened : (bytes : List ℕ) (end : PartEnd) (place : ℕ) (e : EntriesFrom) → end ≡ part.Exit → e.count ≡ 0 → e.bytes ≡ bytes → Spells bytes place (header_sexpr e.version) e.place → IsBehind bytes end place (kinds.Opened e)
opened bytes end place e is none same header = (
  none,
  λ outcome rest.
      let reads = with_header bytes place e.place e.version header outcome (subst (λ (b : List ℕ). ReadsEntries e.version b e.place outcome) same rest) in
      subst (λ (f : PartEnd). CertificateBehind bytes f place outcome) (sym is) reads,
)

-- ---- the line

pub nothing_written : (bytes : List ℕ) (held : Option (List ℕ)) → Writes held held (IsAnswerPart bytes)
nothing_written bytes held = ([], appends_nothing held, inl refl)

pub line_cut : (bytes line : List ℕ) (before now : Option (List ℕ)) (judgement : Judgement) → IsJudged bytes judgement → line ≡ judgement_line judgement → Writes before now (λ added. IsFront added line) → Writes before now (IsAnswerPart bytes)
line_cut bytes line before now judgement h e w = (w.0, w.1, inr (line, checked_of judgement, (judgement, h, e, refl), w.2))
