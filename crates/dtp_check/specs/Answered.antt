-- The answer to a script with its certificate: a line, and whether it accepts.
use Rattle.std.specs.Prelude.{◌≡◌, ◌⊎◌, List, [], ℕ}
use Rattle.dtp_entry.specs.Written.{IsFront}
use Rattle.dtp_check.specs.declared.check.Checked.{Checked}
use Rattle.dtp_check.specs.declared.check.Checked.TheVariants as checked
use Rattle.dtp_check.specs.declared.judgement.Judgement.{Judgement}
use Rattle.dtp_check.specs.declared.judgement.Judgement.TheVariants.{Accepted}
use Rattle.dtp_check.specs.Judged.{IsJudged}
use Rattle.dtp_check.specs.Texts.{judgement_line}

abbrev pub checked_of : Judgement → Checked
checked_of Accepted = checked.Accepted
checked_of _ = checked.NotAccepted

-- the line of what the source comes to
abbrev pub IsAnswer : List ℕ → List ℕ → Checked → Type 0
IsAnswer bytes line checked =
    (judgement : Judgement) × IsJudged bytes judgement
    × (line ≡ judgement_line judgement) × (checked ≡ checked_of judgement)

-- nothing, or a front of that line
abbrev pub IsAnswerPart : List ℕ → List ℕ → Type 0
IsAnswerPart bytes written =
    (written ≡ [])
    ⊎ ((line : List ℕ) × (checked : Checked) × IsAnswer bytes line checked × IsFront written line)
