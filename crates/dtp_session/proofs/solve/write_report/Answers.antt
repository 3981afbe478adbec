use Rattle.dtp_session.proofs.Solving.{solved_as}
use Rattle.dtp_session.proofs.Visiting.{solved_by}
use Rattle.dtp_session.proofs.solve.write_report.Goals as goal

pub returns : goal.returns
returns g c =
    let session = c.new.result in
    record {
      solved = solved_as c.args.report session.report c.args.bytes.now session.walk.lexer.bytes _ _ _ _ c.go_through.result c.new.ensures.report c.new.ensures.bytes
          (solved_by session _ _ _ _ c.go_through.result c.go_through.ensures.ends c.go_through.ensures.breaks);
    }
