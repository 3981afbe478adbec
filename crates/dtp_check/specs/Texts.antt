-- The line that answers a script with its certificate. Its words are this project's own.
use Rattle.std.specs.Prelude.{ℕ, List, ◌++◌, codes, decimal}
use Rattle.cert_check.specs.declared.flaw.FlawKind.{FlawKind}
use Rattle.cert_check.specs.declared.flaw.FlawKind.TheVariants.{NoSuchPoint, NoSuchClause, NotAssumed, NotACycle, NotDenied, StepsMissing, StepsLeftOver, NoSuchKeptLemma, NotActive, LastLemmaNotEmpty}
use Rattle.smt_answer.specs.Texts.{kind_text}
use Rattle.cert_read.specs.declared.error.CertificateRefusal.{CertificateRefusal}
use Rattle.cert_read.specs.declared.error.CertificateRefusal.TheVariants.{NoHeader, IllFormed, NoEnd, TextAfterEnd}
use Rattle.dtp_check.specs.declared.judgement.EntryFlaw.{EntryFlaw}
use Rattle.dtp_check.specs.declared.judgement.EntryFlaw.TheVariants.{WrongKind, WrongCount, WrongSort, FalseAssertion, NotAttained, OutOfRange, NoSuchPoint as OutsidePoint, NotOfObjective, NotKept, Flawed}
use Rattle.dtp_check.specs.declared.judgement.Judgement.{Judgement}
use Rattle.dtp_check.specs.declared.judgement.Judgement.TheVariants.{Accepted, Script, Certificate, Missing, Entry, Surplus}

abbrev pub flaw_text : FlawKind → List ℕ
flaw_text NoSuchPoint = codes "no such point"
flaw_text NoSuchClause = codes "no such clause"
flaw_text NotAssumed = codes "not assumed"
flaw_text NotACycle = codes "not a cycle"
flaw_text NotDenied = codes "not denied"
flaw_text StepsMissing = codes "steps missing"
flaw_text StepsLeftOver = codes "steps left over"
flaw_text NoSuchKeptLemma = codes "no such kept lemma"
flaw_text NotActive = codes "not active"
flaw_text LastLemmaNotEmpty = codes "last lemma not empty"

abbrev pub certificate_line : CertificateRefusal → List ℕ
certificate_line NoHeader = codes "refused: certificate: no header\n"
certificate_line (IllFormed entry) =
    codes "refused: certificate: entry " ++ (decimal entry ++ codes " is ill-formed\n")
certificate_line NoEnd = codes "refused: certificate: no end\n"
certificate_line TextAfterEnd = codes "refused: certificate: text after the end\n"

abbrev pub step_line : ℕ → ℕ → ℕ → List ℕ → List ℕ
step_line entry lemma step text =
    codes "refused: entry " ++ (decimal entry ++ (codes ": lemma " ++ (decimal lemma
    ++ (codes ": step " ++ (decimal step ++ (codes ": " ++ (text ++ codes "\n")))))))

-- the last kind is of all lemmas together
abbrev pub lemma_line : ℕ → ℕ → ℕ → FlawKind → List ℕ
lemma_line entry lemma step LastLemmaNotEmpty =
    codes "refused: entry " ++ (decimal entry ++ codes ": last lemma not empty\n")
lemma_line entry lemma step kind = step_line entry lemma step (flaw_text kind)

abbrev pub entry_line : ℕ → EntryFlaw → List ℕ
entry_line entry WrongKind = codes "refused: entry " ++ (decimal entry ++ codes ": wrong kind of entry\n")
entry_line entry WrongCount = codes "refused: entry " ++ (decimal entry ++ codes ": wrong count of values\n")
entry_line entry (WrongSort k) =
    codes "refused: entry "
    ++ (decimal entry ++ (codes ": value " ++ (decimal k ++ codes " has the wrong sort\n")))
entry_line entry (FalseAssertion k) =
    codes "refused: entry " ++ (decimal entry ++ (codes ": assertion " ++ (decimal k ++ codes " is false\n")))
entry_line entry NotAttained = codes "refused: entry " ++ (decimal entry ++ codes ": value is not attained\n")
entry_line entry OutOfRange = codes "refused: entry " ++ (decimal entry ++ codes ": value is out of range\n")
entry_line entry OutsidePoint = codes "refused: entry " ++ (decimal entry ++ codes ": no such point\n")
entry_line entry NotOfObjective =
    codes "refused: entry " ++ (decimal entry ++ codes ": set is not of the objective\n")
entry_line entry (NotKept i) =
    codes "refused: entry " ++ (decimal entry ++ (codes ": clause " ++ (decimal i ++ codes " is not kept\n")))
entry_line entry (Flawed flaw) = lemma_line entry flaw.lemma flaw.step flaw.kind

unfoldable pub judgement_line : Judgement → List ℕ
judgement_line Accepted = codes "accepted\n"
judgement_line (Script command kind) =
    codes "refused: script: command " ++ (decimal command ++ (codes ": " ++ (kind_text kind ++ codes "\n")))
judgement_line (Certificate why) = certificate_line why
judgement_line (Missing entry) = codes "refused: entry " ++ (decimal entry ++ codes ": missing\n")
judgement_line (Entry entry flaw) = entry_line entry flaw
judgement_line (Surplus entry) = codes "refused: entry " ++ (decimal entry ++ codes ": surplus\n")
