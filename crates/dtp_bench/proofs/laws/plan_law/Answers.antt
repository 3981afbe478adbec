use Rattle.std.proofs.Common.{rules, ◌<◌, ◌^◌}
use Rattle.dtp_bench.specs.Benches.{plan_of}
use Rattle.dtp_bench.proofs.laws.plan_law.Goals as goal

pub returns-clause-ends : goal.returns-clause-ends
returns-clause-ends c =
    let deadline : c.args.plan.deadline < 2 ^ 32 = search rules in
    λ report out h. c.script_has_no_error.ensures (plan_of c.args.plan) c.args.plan.jobs_in.1 c.args.plan.machines_in.0 c.args.plan.machines_in.1 deadline report out h

pub returns-clause-accepted : goal.returns-clause-accepted
returns-clause-accepted c =
    let deadline : c.args.plan.deadline < 2 ^ 32 = search rules in
    λ certificate status h. c.certificate_is_accepted.ensures (plan_of c.args.plan) c.args.plan.jobs_in.1 c.args.plan.machines_in.0 c.args.plan.machines_in.1 deadline certificate status h
