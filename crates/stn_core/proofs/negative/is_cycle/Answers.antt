use Rattle.std.proofs.Common.{rules, arith, ◌≡◌, ◌≢◌, ◌<◌, length, List, refl, subst, take, get_or, pos, FitsSigned, w64}
use Rattle.std.proofs.lemmas.Int.{ints}
use Rattle.std.proofs.lemmas.List.{take_all}
use Rattle.stn_core.specs.declared.literal.Literal.{Literal}
use Rattle.stn_core.specs.Cycle.{Leads}
use Rattle.stn_core.proofs.Cycles.{breaks, Leads-more, weight_of-more, one_end, from_first}
use Rattle.stn_core.proofs.negative.is_cycle.Goals as goal

abbrev none : Literal
none = record { x = 0; y = 0; c = pos 0 }

pub returns-then-literal-point : goal.returns-then-literal-point
returns-then-literal-point c =
    let i_in : c.steps.literal-index < length c.args.literals.now = omega arith in
    let ne : (get_or c.args.literals.now c.steps.literal-index none).x ≢ c.steps.point = search rules in
    (λ h. cc, λ n. absurd (breaks c.args.literals.now (get_or c.args.literals.now 0 none).x c.steps.literal-index c.steps.point none i_in refl c.steps.invariant.leads ne n))

pub steps-preserved : goal.steps-preserved
steps-preserved c =
    let i_in : c.steps.literal-index < length c.args.literals.now = omega arith in
    let w = weight_of-more c.args.literals.now c.steps.literal-index none i_in in
    let fits : FitsSigned w64 (get_or c.args.literals.now c.steps.literal-index none).c = search rules in
    let inv = c.steps.invariant in
    let here : (get_or c.args.literals.now c.steps.literal-index none).x ≡ c.steps.point = search rules in
    record {
      leads = Leads-more (get_or c.args.literals.now 0 none).x c.args.literals.now c.steps.literal-index c.steps.point none i_in inv.leads here;
      sum_is = omega (arith, ints);
      low = omega (arith, ints);
      high = omega (arith, ints);
    }

pub returns-else-point-start : goal.returns-else-point-start
returns-else-point-start c =
    let all : take c.steps.literal-index c.args.literals.now ≡ c.args.literals.now = take_all c.steps.literal-index c.args.literals.now (omega arith) in
    let whole : Leads (get_or c.args.literals.now 0 none).x c.args.literals.now c.steps.point =
    subst (λ (ls : List Literal). Leads (get_or c.args.literals.now 0 none).x ls c.steps.point) all c.steps.invariant.leads in
    let apart : c.steps.point ≢ (get_or c.args.literals.now 0 none).x = c.if-point-start.false in (
      λ h. let same : c.steps.point ≡ (get_or c.args.literals.now 0 none).x = search rules in absurd (apart same),
      λ n. absurd (apart (one_end (get_or c.args.literals.now 0 none).x c.args.literals.now c.steps.point (get_or c.args.literals.now 0 none).x whole (from_first c.args.literals.now (get_or c.args.literals.now 0 none).x none n refl))),
    )
