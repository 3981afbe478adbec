use Rattle.std.proofs.Common.{subst, Option, Some, ◌≡◌, ◌+◌, ◌-◌, ◌≤◌, ℕ, suc, ◌∷◌, ap, ◌∙◌, sym, length, List, true, arith}
use Rattle.std.specs.Prelude.{Err}
use Rattle.stn_core.specs.declared.literal.Literal.{Literal}
use Rattle.refute_tree.specs.declared.step.Step.{Step}
use Rattle.refute_tree.specs.code.Views.{step_seen}
use Rattle.cert_check.specs.declared.flaw.Flaw.{Flaw}
use Rattle.cert_check.specs.declared.flaw.FlawKind.TheVariants.{StepsMissing, StepsLeftOver}
use Rattle.cert_check.specs.Flaws.{opened, steps_flaw, TellsFlaw}
use Rattle.cert_check.specs.code.Walks.{open_cases, WhereRefused, IsFaultOf}
use Rattle.cert_check.proofs.Steps.{begun, turned, flawed_step, left_over, missing, ended}
use Rattle.cert_check.proofs.check.check_steps.Goals as goal

pub steps-init : goal.steps-init
steps-init g c =
    let all : length c.reader-reader.result ≡ c.len-count.result = ap length c.reader-reader.ensures ∙ sym c.len-count.ensures in
    record {
      stack = c.in-Ok.ensures.stack;
      within = omega (arith, all);
      same = λ at e.
          let first : at ≡ 0 = omega (arith, all, e) in
          ap (λ (k : ℕ). steps_flaw c.args.problem.now.points c.args.problem.now.clauses (g.E.Earlier.clauses c.args.earlier.now) (open_cases true c.in-Ok.walk.frames.items c.in-Ok.walk.assumed) k c.reader-reader.result) first
          ∙ ap (λ (steps : List Step). steps_flaw c.args.problem.now.points c.args.problem.now.clauses (g.E.Earlier.clauses c.args.earlier.now) (open_cases true c.in-Ok.walk.frames.items c.in-Ok.walk.assumed) 0 steps) c.reader-reader.ensures
          ∙ begun c.args.problem.now.points c.args.problem.now.clauses (g.E.Earlier.clauses c.args.earlier.now) _ _ c.in-Ok.walk.frames.items c.in-Ok.walk.assumed c.args.lemma.now.steps c.as_slice.ensures c.in-Ok.ensures.cases;
    }

pub steps-preserved : goal.steps-preserved
steps-preserved g c =
    let now : List (List Literal) = open_cases c.in-Ok-read.open c.read.new.self.frames.items c.read.new.self.assumed in
    let here : c.steps.reader ≡ step_seen c.in-Some.step ∷ c.next.new.self = c.in-Some.ensures in
    let longer : length c.steps.reader ≡ suc (length c.next.new.self) = ap length here in
    let read = c.in-Ok-read.ensures.cases in
    let shorter : length c.read.new.reader ≤ length c.next.new.self = read.2.shorter in
    let before : ℕ = c.len-count.result - length c.steps.reader in
    record {
      stack = c.in-Ok-read.ensures.stack;
      within = omega (arith, c.steps.invariant.within, longer, shorter);
      same = λ at e.
          let number : at ≡ suc before + (length c.next.new.self - length c.read.new.reader) = omega (arith, e, c.steps.invariant.within, longer, shorter) in
          ap (λ (k : ℕ). steps_flaw c.args.problem.now.points c.args.problem.now.clauses (g.E.Earlier.clauses c.args.earlier.now) now k c.read.new.reader) number
          ∙ turned _ _ _ (step_seen c.in-Some.step) c.steps.reader c.next.new.self before here c.steps.walk.frames.items c.steps.walk.assumed c.steps.open now c.read.new.reader c.if-not-open.false read
          ∙ c.steps.invariant.same before (omega (arith, c.steps.invariant.within));
    }

pub returns-then-not-open : goal.returns-then-not-open
returns-then-not-open g c =
    let longer : length c.steps.reader ≡ suc (length c.next.new.self) = ap length c.in-Some.ensures in
    let at : ℕ = c.last_read-at.result in
    subst (λ (f : Option Flaw). TellsFlaw f c.flawed.result)
    (ap (λ (n : ℕ). Some (record { lemma = n; step = at; kind = StepsLeftOver })) c.count-number.ensures
    ∙ sym (left_over c.args.problem.now.points c.args.problem.now.clauses (g.E.Earlier.clauses c.args.earlier.now) (step_seen c.in-Some.step) c.steps.reader c.next.new.self at c.in-Some.ensures c.steps.walk.frames.items c.steps.walk.assumed c.steps.open c.if-not-open.true)
    ∙ c.steps.invariant.same at (omega (arith, longer, c.last_read-at.ensures)))
    c.flawed.ensures

pub returns-in-Err-Refused : goal.returns-in-Err-Refused
returns-in-Err-Refused g c =
    let longer : length c.steps.reader ≡ suc (length c.next.new.self) = ap length c.in-Some.ensures in
    let left : c.read.new.reader ≡ c.next.new.self = subst (WhereRefused (c.read.new.reader ≡ c.next.new.self)) c.in-Err-Refused.field-0-is c.in-Err-Refused.ensures.left in
    let fault : opened c.args.problem.now.points c.args.problem.now.clauses (g.E.Earlier.clauses c.args.earlier.now) c.steps.walk.assumed (step_seen c.in-Some.step) ≡ Err c.in-Err-Refused.kind =
    subst (IsFaultOf (opened c.args.problem.now.points c.args.problem.now.clauses (g.E.Earlier.clauses c.args.earlier.now) c.steps.walk.assumed (step_seen c.in-Some.step))) c.in-Err-Refused.field-0-is c.in-Err-Refused.ensures.fault in
    let same : length c.read.new.reader ≡ length c.next.new.self = ap length left in
    let at : ℕ = c.last_read-at-in-Err-Refused.result in
    subst (λ (f : Option Flaw). TellsFlaw f c.flawed-in-Err-Refused.result)
    (ap (λ (n : ℕ). Some (record { lemma = n; step = at; kind = c.in-Err-Refused.kind })) c.count-number.ensures
    ∙ sym (flawed_step c.args.problem.now.points c.args.problem.now.clauses (g.E.Earlier.clauses c.args.earlier.now) (step_seen c.in-Some.step) c.steps.reader c.next.new.self at c.in-Some.ensures c.steps.walk.frames.items c.steps.walk.assumed c.steps.open c.in-Err-Refused.kind c.if-not-open.false fault)
    ∙ c.steps.invariant.same at (omega (arith, longer, same, c.last_read-at-in-Err-Refused.ensures)))
    c.flawed-in-Err-Refused.ensures

pub returns-then-open : goal.returns-then-open
returns-then-open g c =
    let none : length c.steps.reader ≡ 0 = ap length c.in_default-next.ensures.none_before in
    let at : ℕ = c.len-count.result in
    subst (λ (f : Option Flaw). TellsFlaw f c.flawed-then-open.result)
    (ap (λ (n : ℕ). Some (record { lemma = n; step = at; kind = StepsMissing })) c.count-number.ensures
    ∙ sym (missing c.args.problem.now.points c.args.problem.now.clauses (g.E.Earlier.clauses c.args.earlier.now) c.steps.reader at c.steps.walk.frames.items c.steps.walk.assumed c.steps.open c.in_default-next.ensures.none_before c.if-open.true)
    ∙ c.steps.invariant.same at (omega (arith, none)))
    c.flawed-then-open.ensures

pub returns : goal.returns
returns g c =
    let none : length c.steps.reader ≡ 0 = ap length c.in_default-next.ensures.none_before in
    let at : ℕ = c.len-count.result in
    sym (c.steps.invariant.same at (omega (arith, none)))
    ∙ ended c.args.problem.now.points c.args.problem.now.clauses (g.E.Earlier.clauses c.args.earlier.now) c.steps.reader at c.steps.walk.frames.items c.steps.walk.assumed c.steps.open c.in_default-next.ensures.none_before c.if-open.false
