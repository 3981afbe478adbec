use Rattle.std.proofs.Common.{sym, subst}
use Rattle.dtp_check.specs.code.Parts.{IsBefore}
use Rattle.dtp_check.proofs.Telling.{opened}
use Rattle.dtp_check.proofs.certificate_behind.open_behind.Goals as goal

pub returns-in-Ok : goal.returns-in-Ok
returns-in-Ok c = λ readable.
    let lexer = c.args.lexer in
    let fresh = c.requires.fresh (subst IsBefore (sym c.in-Exit.is) tt) in
    rw c.in-Ok.entries-is (opened lexer.bytes c.args.end lexer.place c.in-Ok.entries c.in-Exit.is c.in-Ok.ensures.count c.in-Ok.ensures.bytes (c.in-Ok.ensures.header fresh))
