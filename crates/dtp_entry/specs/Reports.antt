-- The version that each report writes its entries in.
use Rattle.cert_text.specs.declared.entry.Version.{Version}
use Rattle.cert_text.specs.declared.entry.Version.TheVariants.{One}
use Rattle.dtp_entry.specs.declared.report.Report.{Report}
use Rattle.dtp_entry.specs.declared.report.Report.TheVariants.{Verdicts, Certificate}

-- a proof that a transcript shows has the form of the first version
abbrev pub version_of : Report → Version
version_of Verdicts = One
version_of (Certificate version) = version
