use Rattle.std.proofs.Common.{ap, sym, subst, ◌∙◌, List, length, drop, ℤ}
use Rattle.stn_core.specs.declared.named.NamedValue.{NamedValue}
use Rattle.job_shop.specs.PlanTexts.{plan_text}
use Rattle.job_shop.specs.Plans.{IsLeastPlan}
use Rattle.dtp_jobshop.specs.code.Starts.{numbers_of}
use Rattle.dtp_jobshop.proofs.Least.{found_is, never_none, plan_found}
use Rattle.dtp_jobshop.proofs.plan.least_plan.Goals as goal

pub unreachable-requires : goal.unreachable-requires
unreachable-requires g c =
    never_none c.args.jobs.now c.in_ok-minimum.field-0
    (found_is c.shop_is_answered.ensures c.args.jobs.now c.requires c.deref.result.now (c.deref.ensures.value ∙ c.in_ok-script.ensures) c.in_ok-minimum.field-0 c.in_ok-minimum.ensures) c.in_default.is

pub tight_starts-requires : goal.tight_starts-requires
tight_starts-requires g c =
    let h = found_is c.shop_is_answered.ensures c.args.jobs.now c.requires c.deref.result.now (c.deref.ensures.value ∙ c.in_ok-script.ensures) c.in_ok-minimum.field-0 c.in_ok-minimum.ensures in
    subst (λ (starts : List ℤ). IsLeastPlan c.args.jobs.now starts c.in-Some.minimum.value) (sym c.deref-2.ensures.value)
    (plan_found c.args.jobs.now c.in_ok-minimum.field-0 h c.in-Some.minimum c.in-Some.is c.in_ok-found.found.items
    (c.in_ok-found.ensures ∙ ap numbers_of (c.behind_first.ensures ∙ ap (λ (l : List NamedValue). drop 1 l) c.as_slice.ensures)))

pub text_of-requires : goal.text_of-requires
text_of-requires g c = ap (λ (l : List ℤ). length l) c.deref-3.ensures.value ∙ c.in_ok-starts.ensures.least.plan.many

pub returns : goal.returns
returns g c = (
  c.in_ok-starts.starts.items,
  c.in-Some.minimum.value,
  c.in_ok-starts.ensures.least,
  c.in_ok-starts.ensures.tight,
  c.in_ok-text.ensures ∙ ap (plan_text c.args.jobs.now c.in-Some.minimum.value) c.deref-3.ensures.value,
)
