-- Of the code and not of the meaning: a script with its certificate behind it.
use Rattle.std.specs.Prelude.{◌≡◌, ℕ, List, ◌++◌, string_bytes}
use Rattle.cert_text.specs.declared.entry.Version.TheVariants.{One}
use Rattle.cert_text.specs.declared.entry.Entry.{Entry}
use Rattle.dtp_entry.specs.declared.report.Report.TheVariants.{Certificate}
use Rattle.dtp_entry.specs.Transcripts.{IsReport}
use Rattle.smt_script.specs.declared.state.Satisfiability.{Satisfiability}
use Rattle.dtp_entry.specs.Entries.{verdict_of}
use Rattle.dtp_bench.specs.Benches.{IsDecidedBy}
use Rattle.dtp_bench.specs.Lines.{verdict_line, accepted_line}
use Rattle.dtp_bench.specs.declared.run.Lines.{Lines}

-- the script, and behind it its whole certificate
abbrev pub IsPair : List ℕ → List ℕ → Type 0
IsPair script pair = (certificate : List ℕ) × (pair ≡ script ++ certificate) × IsReport (Certificate One) script certificate 0

-- the certificate has one entry, with this verdict
abbrev pub HasVerdict : List ℕ → List ℕ → Satisfiability → Type 0
HasVerdict script certificate verdict = (entry : Entry) × IsDecidedBy script certificate entry × (verdict ≡ verdict_of entry)

-- the lines, one behind the other
abbrev pub lines_text : Lines → List ℕ
lines_text l =
    string_bytes l.plan ++ (string_bytes l.names ++ (string_bytes l.clauses ++ (verdict_line l.verdict ++ accepted_line)))
