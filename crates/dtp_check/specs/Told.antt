-- What the entries of a certificate say of a script's questions.
use Rattle.std.specs.Prelude.{ℕ, List}
use Rattle.smt_sexpr.specs.Tree.{Sexpr}
use Rattle.cert_text.specs.declared.entry.Version.{Version}
use Rattle.cert_text.specs.declared.entry.FileEntry.{FileEntry}
use Rattle.cert_text.specs.declared.entry.FileEntry.TheVariants.{Sat, Unsat, Best, Unbounded}
use Rattle.idl_term.specs.Contexts.{Context, IsSatisfiable}
use Rattle.smt_script.specs.Commands.{minimized}
use Rattle.smt_script.specs.declared.state.Question.{Question}
use Rattle.cert_read.specs.Certificates.{certificate}
use Rattle.smt_script.specs.States.{State}
use Rattle.script_walk.specs.Course.{AreAnswered}
use Rattle.dtp_entry.specs.Bests.{IsBestFor, HasNoBest}
use Rattle.dtp_check.specs.declared.script_part.PartEnd.{PartEnd}
use Rattle.dtp_check.specs.Judged.{ScriptPart, CertificateBehind, turns_with}

-- A sat entry says that some schedule satisfies the assertions, an unsat entry that none does; a best entry, that its value is
-- the best one of the term that command x minimizes; an unbounded entry, that some schedule satisfies the assertions and no
-- value is best.
abbrev pub Tells : Sexpr → Context → FileEntry → Type 0
Tells x c (Sat values) = IsSatisfiable c
Tells x c (Unsat items) = ¬ IsSatisfiable c
Tells x c (Best m values items) = IsBestFor c (minimized x) m
Tells x c (Unbounded values set) = HasNoBest c (minimized x)

abbrev pub TellsIn : Question → Sexpr → State → FileEntry → Type 0
TellsIn question x s entry = Tells x s.context entry

-- no command is refused, and each question has an entry that says what is so, in order
abbrev pub IsTold : List Sexpr → List FileEntry → Type 0
IsTold xs entries = AreAnswered TellsIn (turns_with entries xs) entries

-- The entries of the certificate behind the script say what is so at its questions, one for each, in order, and no command
-- of the script is refused.
pub record SaysNothingFalse (bytes : List ℕ) : Type 0 where
  pub commands : List Sexpr
  pub end : PartEnd
  pub behind : ℕ
  pub version : Version
  pub entries : List FileEntry
  pub script : ScriptPart bytes 0 commands end behind
  pub stands : CertificateBehind bytes end behind (certificate version entries)
  pub told : IsTold commands entries
