-- How the code reads what stands behind the script's part of a source.
-- These are words of the code's inner contracts, and no part of the meaning.
use Rattle.std.specs.Prelude.{◌≡◌, ℕ, List}
use Rattle.cert_read.specs.Certificates.{CertificateOutcome, no_certificate}
use Rattle.cert_read.specs.code.Entries.{RestIs}
use Rattle.dtp_check.specs.declared.certificate_behind.Behind.{Behind as Found}
use Rattle.dtp_check.specs.declared.certificate_behind.Behind.TheVariants.{Opened, Refused}
use Rattle.dtp_check.specs.declared.script_part.PartEnd.{PartEnd}
use Rattle.dtp_check.specs.Judged.{CertificateBehind}

-- what was found is what stands there: behind a header that was read it is what the rest of the text is
abbrev pub IsBehind : List ℕ → PartEnd → ℕ → Found → Type 0
IsBehind bytes end place (Opened entries) =
    (entries.count ≡ 0) × ((outcome : CertificateOutcome) → RestIs entries outcome → CertificateBehind bytes end place outcome)
IsBehind bytes end place (Refused why) = CertificateBehind bytes end place (no_certificate why)
