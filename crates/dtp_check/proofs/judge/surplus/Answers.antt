use Rattle.std.proofs.Common.{refl, ◌≡◌, ◌+◌, List}
use Rattle.cert_text.specs.declared.entry.FileEntry.{FileEntry as Shown}
use Rattle.cert_read.specs.Certificates.{RefusesBehind}
use Rattle.dtp_check.specs.Judged.{surplus_of}
use Rattle.dtp_check.specs.declared.judgement.Judgement.{Judgement}
use Rattle.dtp_check.specs.declared.judgement.Judgement.TheVariants.{Accepted, Certificate}
use Rattle.dtp_check.proofs.Entries.{so_at_end, so_at_fault}
use Rattle.dtp_check.proofs.Telling.{refusal_told}
use Rattle.dtp_check.proofs.judge.surplus.Goals as goal

pub returns-in-Ok-false : goal.returns-in-Ok-false
returns-in-Ok-false c =
    let old = c.args.entries.now in
    so_at_end c.one_certificate.ensures.entries old c.skip.new.self (λ (all : List Shown). Accepted ≡ surplus_of (old.count + 1) all)
    (c.in-Ok-false.ensures.stays c.in-Ok-false.field-0-test) (c.in-Ok-false.ensures.end c.in-Ok-false.field-0-test) refl

pub returns-in-Err-Refused : goal.returns-in-Err-Refused
returns-in-Err-Refused c =
    let old = c.args.entries.now in
    let why = c.in-Err-Refused.why in
    let refused = refusal_told (RefusesBehind old.version old.bytes old.count old.place) c.in-Err-Refused.field-0 why c.in-Err-Refused.field-0-is c.in-Err-Refused.ensures.refused in
    so_at_fault c.one_certificate.ensures.entries old c.skip.new.self (λ (all : List Shown). Certificate why ≡ surplus_of (old.count + 1) all) c.in-Err-Refused.ensures.err why refused
