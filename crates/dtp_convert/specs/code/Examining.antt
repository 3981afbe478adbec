-- What was found of a source.
use Rattle.std.specs.Prelude.{◌≢◌, ℕ, List}
use Rattle.cert_text.specs.declared.entry.Version.TheVariants.{One}
use Rattle.cert_stream.specs.code.Streams.{whole_text}
use Rattle.dtp_check.specs.declared.judgement.Judgement.TheVariants.{Accepted}
use Rattle.dtp_check.specs.Judged.{IsJudged}
use Rattle.dtp_convert.specs.declared.convert.Examined.{Examined}
use Rattle.dtp_convert.specs.declared.convert.Examined.TheVariants.{Converted, Refused}
use Rattle.dtp_convert.specs.Converted.{IsConverted}

-- what the code found of the source
abbrev pub IsExamined : List ℕ → Examined → Type 0
IsExamined bytes (Converted entries) = IsJudged bytes Accepted × IsConverted bytes (whole_text One entries.items)
IsExamined bytes (Refused judgement) = IsJudged bytes judgement × (judgement ≢ Accepted)
