use Rattle.std.proofs.Common.{subst, List, ℕ}
use Rattle.cert_read.specs.code.Entries.{IsRefusedFrom}
use Rattle.dtp_check.specs.code.Turns.{IsSoOfAll, ScriptComesTo}
use Rattle.dtp_check.proofs.Entries.{judged_by_all, judged_by_fault}
use Rattle.dtp_check.proofs.Telling.{refusal_told}
use Rattle.dtp_check.proofs.judge.judge_script.Goals as goal

pub returns-in-Ok : goal.returns-in-Ok
returns-in-Ok g c =
    let rest = c.in-Ok.ensures.ok in
    let last = c.go_through.new.visitor in
    let comes = subst (λ (b : List ℕ). IsSoOfAll c.args.entries last.entries (ScriptComesTo g.K.Keeps.leads c.args.keeps.now c.go_through.new.lent b c.in_ok-judgement.judgement)) c.new.ensures.bytes c.in_ok-judgement.ensures.ends in
    judged_by_all g.K.Keeps.leads c.args.keeps.now c.go_through.new.lent c.args.bytes.now c.args.entries last.entries c.in_ok-judgement.judgement comes rest.0 rest.1

pub returns-in-Err-Refused : goal.returns-in-Err-Refused
returns-in-Err-Refused g c =
    let last = c.go_through.new.visitor in
    let why = c.in-Err-Refused.why in
    let refused = refusal_told (IsRefusedFrom last.entries) c.in-Err-Refused.field-0 why c.in-Err-Refused.field-0-is c.in-Err-Refused.ensures.refused in
    let comes = subst (λ (b : List ℕ). IsSoOfAll c.args.entries last.entries (ScriptComesTo g.K.Keeps.leads c.args.keeps.now c.go_through.new.lent b c.in_ok-judgement.judgement)) c.new.ensures.bytes c.in_ok-judgement.ensures.ends in
    rw c.in-Err-Refused.field-0-is (judged_by_fault g.K.Keeps.leads c.args.keeps.now c.go_through.new.lent c.args.bytes.now c.args.entries last.entries c.in_ok-judgement.judgement comes why c.requires refused)
