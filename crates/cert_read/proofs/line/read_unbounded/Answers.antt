use Rattle.std.proofs.Common.{◌∙◌, rules}
use Rattle.cert_read.proofs.OpenedObjectives.{unbounded_left, unbounded_lacks_values, unbounded_lacks_points, unbounded_has_more}
use Rattle.cert_read.proofs.line.read_unbounded.Goals as goal

pub returns-in_err-values-clause-err : goal.returns-in_err-values-clause-err
returns-in_err-values-clause-err c =
    search (rules, unbounded_lacks_values c.args.lexer.now.bytes c.args.lexer.now.place _ c.in_err-values.ensures.err)

pub returns-in_err-points-clause-err : goal.returns-in_err-points-clause-err
returns-in_err-points-clause-err c =
    search (rules, unbounded_lacks_points c.args.lexer.now.bytes c.args.lexer.now.place c.read_part.new.lexer.place c.in_ok-values.values _ c.in_ok-values.ensures.ok (rw c.read_part.ensures.lexer_bytes at c.in_err-points.ensures.err))

pub returns-in_err-read_close-clause-err : goal.returns-in_err-read_close-clause-err
returns-in_err-read_close-clause-err c =
    let same = c.read_part-2.ensures.lexer_bytes ∙ c.read_part.ensures.lexer_bytes in
    search (
      rules,
      unbounded_has_more c.args.lexer.now.bytes c.args.lexer.now.place c.read_part.new.lexer.place c.read_part-2.new.lexer.place c.in_ok-values.values c.in_ok-points.points _
          c.in_ok-values.ensures.ok (rw c.read_part.ensures.lexer_bytes at c.in_ok-points.ensures.ok) (rw same at c.in_err-read_close.ensures.err),
    )

pub returns-clause-ok : goal.returns-clause-ok
returns-clause-ok c =
    let same = c.read_part-2.ensures.lexer_bytes ∙ c.read_part.ensures.lexer_bytes in
    unbounded_left c.args.lexer.now.bytes c.args.lexer.now.place c.read_part.new.lexer.place c.read_part-2.new.lexer.place c.read_close.new.lexer.place c.in_ok-values.values c.in_ok-points.points
    c.in_ok-values.ensures.ok (rw c.read_part.ensures.lexer_bytes at c.in_ok-points.ensures.ok) (rw same at c.in_ok-read_close.ensures.ok)
