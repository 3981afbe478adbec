use Rattle.std.proofs.Common.{ap, arith}
use Rattle.std.specs.Prelude.{is_some}
use Rattle.cert_read.specs.Certificates.{RefusesBehind}
use Rattle.dtp_check.proofs.Entries.{one_read, suffices_here, suffices_behind}
use Rattle.dtp_check.proofs.Judging.{answer_right, answer_flawed, answer_missing, answer_unread}
use Rattle.dtp_check.proofs.Telling.{refusal_told}
use Rattle.dtp_check.proofs.judge.judge_answer.Goals as goal

pub judge_entry-requires-clause-suffices : goal.judge_entry-requires-clause-suffices
judge_entry-requires-clause-suffices g c =
    let reads = one_read c.args.entries.now c.next.new.self _ c.in-Ok-Some.entry c.in-Ok-Some.field-0-is c.in-Ok-Some.ensures.entry in
    suffices_here c.args.earlier.now c.args.entries.now c.next.new.self c.in-Ok-Some.entry c.requires.suffices reads

pub returns-in-Ok-Some-clause-turn : goal.returns-in-Ok-Some-clause-turn
returns-in-Ok-Some-clause-turn g c = λ s x before asked held.
    let reads = one_read c.args.entries.now c.next.new.self _ c.in-Ok-Some.entry c.in-Ok-Some.field-0-is c.in-Ok-Some.ensures.entry in
    let judged = c.in_ok-flaw-in-Ok-Some.ensures in
    (c.in-Ok-Some.entry, reads, judged.right c.in-None.is s x before asked held, judged.number c.in-None.is)

pub returns-in-Ok-Some-clause-suffices : goal.returns-in-Ok-Some-clause-suffices
returns-in-Ok-Some-clause-suffices g c = λ more.
    let reads = one_read c.args.entries.now c.next.new.self _ c.in-Ok-Some.entry c.in-Ok-Some.field-0-is c.in-Ok-Some.ensures.entry in
    suffices_behind c.args.earlier.now c.judge_entry.new.earlier c.args.entries.now c.next.new.self c.in-Ok-Some.entry c.requires.suffices reads c.in_ok-flaw-in-Ok-Some.ensures.suffices

pub overflow_add-result : goal.overflow_add-result
overflow_add-result g c = let few = c.count-in-Ok-None.ensures.few in omega (arith, few)

pub returns-in-Ok-None-clause-turn : goal.returns-in-Ok-None-clause-turn
returns-in-Ok-None-clause-turn g c = λ s x before asked held.
    let walk = c.args.walk.now in
    let none = ap is_some c.in-Ok-None.field-0-is in
    answer_missing g.K.Keeps.leads c.args.keeps.now c.args.keeps.now c.args.question x s walk.number before c.args.entries.now c.next.new.self walk.number walk.state c.args.earlier.now
    c.one_certificate.ensures.entries (c.in-Ok-None.ensures.stays none) c.count-in-Ok-None.result (c.in-Ok-None.ensures.end none) c.count-in-Ok-None.ensures.count

pub returns-in-Err-Refused-clause-turn : goal.returns-in-Err-Refused-clause-turn
returns-in-Err-Refused-clause-turn g c = λ s x before asked held.
    let walk = c.args.walk.now in
    let old = c.args.entries.now in
    let why = c.in-Err-Refused.why in
    let refused = refusal_told (RefusesBehind old.version old.bytes old.count old.place) c.in-Err-Refused.field-0 why c.in-Err-Refused.field-0-is c.in-Err-Refused.ensures.refused in
    rw c.in-Err-Refused.why-is (answer_unread g.K.Keeps.leads c.args.keeps.now c.args.keeps.now c.args.question x s walk.number before old c.next.new.self walk.number walk.state c.args.earlier.now
    c.one_certificate.ensures.entries c.in-Err-Refused.ensures.err why refused)
