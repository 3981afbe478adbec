use Rattle.std.proofs.Common.{ap, sym, ◌∙◌, ◌*◌, ◌-◌, ◌+◌, ◌^◌, min, ℕ}
use Rattle.idl_cases.specs.Limits.{cases_limit}
use Rattle.idl_apply.proofs.CaseSteps.{count_taken}
use Rattle.idl_apply.proofs.choices.are_few.Goals as goal

pub loop-term-preserved : goal.loop-term-preserved
loop-term-preserved c =
    c.loop-term.invariant
    ∙ count_taken c.args.terms.now c.loop-term.term-index c.loop-term.count c.min-count.result c.term-item.result c.loop-term-test.true (sym c.term-item.is)
    (c.min-count.ensures ∙ ap (λ (n : ℕ). min n (cases_limit + 1)) (c.saturating_mul.ensures ∙ ap (λ (n : ℕ). min (c.loop-term.count * n) (2 ^ 64 - 1)) c.len.ensures.count))
