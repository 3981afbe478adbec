use Rattle.std.proofs.Common.{rules, map, refl, string_bytes}
use Rattle.clap.specs.Words.{app_of}
use Rattle.command_line.proofs.Faults.{line_found, no_line}
use Rattle.command_line.proofs.line.matches_of.Goals as goal

pub returns-clause-found : goal.returns-clause-found
returns-clause-found c =
    line_found (app_of c.in_ok-dtp.field-0) _ (map string_bytes c.args.words.now) c.in_ok-dtp.ensures.app refl
    c.in-Ok.matches c.in-Ok.ensures.kinds c.in-Ok.ensures.matches

pub returns-in-Err-2-clause-refused : goal.returns-in-Err-2-clause-refused
returns-in-Err-2-clause-refused c = λ h.
    no_line (app_of c.in_ok-dtp.field-0) _ (map string_bytes c.args.words.now) c.in_ok-dtp.ensures.app refl
    c.in-Err.error c.in-Err.ensures.kinds (λ memory. search rules)
