-- What the call writes.
use Rattle.std.proofs.Common.{refl, sym, ◌∙◌, ◌≡◌, subst, List, ℕ, Result, Err, inl, inr}
use Rattle.std.specs.Prelude.{OnErr}
use Rattle.cert_text.specs.declared.entry.Version.{Version}
use Rattle.cert_text.specs.declared.entry.FileEntry.{FileEntry}
use Rattle.cert_read.specs.Certificates.{CertificateOutcome, certificate, no_certificate}
use Rattle.cert_read.specs.declared.error.CertificateRefusal.{CertificateRefusal}
use Rattle.dtp_entry.specs.declared.error.SessionError.{SessionError}
use Rattle.dtp_entry.specs.Written.{IsFront, IsPartOf}
use Rattle.dtp_check.specs.declared.check.Checked.{Checked}
use Rattle.dtp_check.specs.code.Turns.{Leads, ScriptComesTo, ScriptComesWith}
use Rattle.dtp_check.specs.declared.judgement.Judgement.{Judgement}
use Rattle.dtp_check.specs.declared.judgement.Judgement.TheVariants.{Accepted, Certificate}
use Rattle.dtp_convert.specs.Converted.{IsConversion, IsConversionPart}

pub certificate_apart : (why : CertificateRefusal) → Certificate why ≡ Accepted → ⊥
certificate_apart why e = absurd cc

-- what is accepted has entries, and the script comes to that with them
pub record AreAccepted {K : Type 0} (leads : Leads K) (first last : K) (bytes : List ℕ) (judgement : Judgement) (outcome : CertificateOutcome) : Type 0 where
  pub version : Version
  pub entries : List FileEntry
  pub is : outcome ≡ certificate version entries
  pub come : ScriptComesTo leads first last bytes judgement entries

pub accepted_entries : {K : Type 0} (leads : Leads K) (first last : K) (bytes : List ℕ) (judgement : Judgement) (outcome : CertificateOutcome) → ScriptComesWith leads first last bytes judgement outcome → judgement ≡ Accepted → AreAccepted leads first last bytes judgement outcome
accepted_entries leads first last bytes judgement (certificate version entries) h is = record { version = version; entries = entries; is = refl; come = h }
accepted_entries leads first last bytes judgement (no_certificate why) h is = absurd (certificate_apart why (sym h ∙ is))

pub failed : (r : Result (Unit {0}) SessionError) (why : SessionError) (P : Type 0) → r ≡ Err why → OnErr r P → P
failed r why P e h = subst (λ (q : Result (Unit {0}) SessionError). OnErr q P) e h

-- a front of what is to be written
pub conversion_cut : (bytes text : List ℕ) (checked : Checked) → IsConversion bytes text checked → (written : List ℕ) → IsPartOf (λ t. t ≡ text) written → IsConversionPart bytes written
conversion_cut bytes text checked h written (inl e) = inl e
conversion_cut bytes text checked h written (inr (whole, is, front)) = inr (text, checked, h, subst (λ (t : List ℕ). IsFront written t) is front)
