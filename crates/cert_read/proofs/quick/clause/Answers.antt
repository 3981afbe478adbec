use Rattle.cert_read.proofs.QuickTexts.{clause_text}
use Rattle.cert_read.proofs.quick.clause.Goals as goal

pub returns-in-Some-2 : goal.returns-in-Some-2
returns-in-Some-2 c =
    let first = c.in-Some-first_literal.ensures in
    let added = rw c.in-Some-2.is at c.in_ok-rest.ensures in
    let others = rw (c.in_ok-push.ensures.items, c.new-literals.ensures.items) at added in
    rw c.new-in-Some-2.ensures (clause_text c.in-Some-first_literal.first c.literals_behind.new.literals.items c.args.bytes.now c.in-Some-first_literal.rest.now c.in-Some-2.rest.now first others)
