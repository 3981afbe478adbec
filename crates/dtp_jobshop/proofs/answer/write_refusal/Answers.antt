use Rattle.std.proofs.Common.{◌∙◌, ◌≡◌, ℕ, List}
use Rattle.job_shop.specs.Instances.{refusal_line}
use Rattle.dtp_jobshop.proofs.Writing.{wrote_one}
use Rattle.dtp_jobshop.proofs.answer.write_refusal.Goals as goal

pub returns : goal.returns
returns g c =
    let wrote = c.write_text.ensures in
    wrote_one (λ (text : List ℕ). text ≡ refusal_line c.args.refusal) c.deref.result.now (c.deref.ensures.value ∙ c.in_ok-line.ensures) _ _ _ _ c.write_text.result
    wrote.ok wrote.err wrote.cause wrote.fault wrote.quiet wrote.later
