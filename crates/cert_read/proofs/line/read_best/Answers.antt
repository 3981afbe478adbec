use Rattle.std.proofs.Common.{◌∙◌, ◌≡◌, rules, arith, to_z, of_z}
use Rattle.std.specs.Int.{w128}
use Rattle.std.proofs.lemmas.Int.{ints}
use Rattle.cert_read.proofs.OpenedObjectives.{best_left, best_lacks_value, best_lacks_values, best_lacks_items}
use Rattle.cert_read.proofs.line.read_best.Goals as goal

pub returns-in_err-least-clause-err : goal.returns-in_err-least-clause-err
returns-in_err-least-clause-err c =
    search (rules, best_lacks_value c.args.lexer.now.bytes c.args.version c.args.lexer.now.place _ c.in_err-least.ensures.err)

pub returns-in_err-values-clause-err : goal.returns-in_err-values-clause-err
returns-in_err-values-clause-err c =
    search (rules, best_lacks_values c.args.lexer.now.bytes c.args.version c.args.lexer.now.place c.read_part.new.lexer.place c.in_ok-least.least _ c.in_ok-least.ensures.ok (rw c.read_part.ensures.lexer_bytes at c.in_err-values.ensures.err))

pub returns-in_err-items-clause-err : goal.returns-in_err-items-clause-err
returns-in_err-items-clause-err c =
    let same = c.read_part-2.ensures.lexer_bytes ∙ c.read_part.ensures.lexer_bytes in
    search (
      rules,
      best_lacks_items c.args.lexer.now.bytes c.args.version c.args.lexer.now.place c.read_part.new.lexer.place c.read_part-2.new.lexer.place c.in_ok-least.least c.in_ok-values.values _
          c.in_ok-least.ensures.ok (rw c.read_part.ensures.lexer_bytes at c.in_ok-values.ensures.ok) (rw same at c.in_err-items.ensures.err),
    )

pub returns-clause-ok : goal.returns-clause-ok
returns-clause-ok c =
    let same = c.read_part-2.ensures.lexer_bytes ∙ c.read_part.ensures.lexer_bytes in
    let least : to_z w128 (of_z w128 c.in_ok-least.least) ≡ c.in_ok-least.least = omega (arith, ints) in
    rw (least, c.new.ensures)
    (best_left c.args.lexer.now.bytes c.args.version c.args.lexer.now.place c.read_part.new.lexer.place c.read_part-2.new.lexer.place c.read_items.new.lexer.place c.in_ok-least.least c.in_ok-values.values c.in_ok-items.items.items
    c.in_ok-least.ensures.ok (rw c.read_part.ensures.lexer_bytes at c.in_ok-values.ensures.ok) (rw same at c.in_ok-items.ensures.ok))
