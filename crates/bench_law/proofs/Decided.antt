-- What is written of a plan's script.
use Rattle.cert_text.specs.declared.entry.Version.TheVariants.{One}
use Rattle.smt_script.specs.declared.state.Question.TheVariants.{CheckSat}
use Rattle.dtp_gen.specs.Scripts.{script}
use Rattle.script_law.specs.Laws as script_law
use Rattle.bench_law.specs.Laws.{CertificateIsAccepted, ScriptHasNoError}
use Rattle.bench_law.proofs.Commands.{check, told}
use Rattle.bench_law.proofs.Asking.{ready, asks_once}

pub no_error : script_law.OneQuestionIsDecided → ScriptHasNoError
no_error law p jobs some machines deadline report out h =
    let d = law (script p) (told p) check CheckSat (ready p jobs some machines deadline).t (asks_once p jobs some machines deadline) report out h in
    record { status = d.status; found = (d.entry, d.found) }

pub accepted : script_law.CertificateIsAccepted → CertificateIsAccepted
accepted law p jobs some machines deadline certificate status h =
    law (script p) (told p) check CheckSat (ready p jobs some machines deadline).t (asks_once p jobs some machines deadline) One certificate status h
