-- What holds of every conversion.
use Rattle.std.specs.Prelude.{◌++◌, List, ℕ}
use Rattle.smt_sexpr.specs.Tree.{Sexpr}
use Rattle.dtp_check.specs.declared.judgement.Judgement.TheVariants.{Accepted}
use Rattle.dtp_check.specs.declared.script_part.PartEnd.{PartEnd}
use Rattle.dtp_check.specs.Judged.{ScriptPart, IsJudged}
use Rattle.dtp_check.specs.Whole.{IsWholeFrom}
use Rattle.dtp_convert.specs.Converted.{IsConverted}

-- The script has the commands of the source's script part. It is cut behind its `(exit)`, where it has one, and doesn't end
-- in a comment.
pub record IsScriptOf (source script : List ℕ) : Type 0 where
  pub commands : List Sexpr
  pub end : PartEnd
  pub behind : ℕ
  pub part : ScriptPart source 0 commands end behind
  pub whole : IsWholeFrom script 0 commands

-- such a script is accepted with what the source is converted to
abbrev pub ConvertedIsAccepted : Type 0
ConvertedIsAccepted =
    (source script text : List ℕ) → IsConverted source text → IsScriptOf source script → IsJudged (script ++ text) Accepted
