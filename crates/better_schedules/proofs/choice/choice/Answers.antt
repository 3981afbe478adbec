use Rattle.std.proofs.Common.{arith, ◌≡◌, ◌∙◌, sym, subst, List, [], length, slice_index_or}
use Rattle.std.proofs.lemmas.Grind.{common_steps}
use Rattle.std.proofs.lemmas.List.{get_or_default}
use Rattle.stn_core.specs.declared.literal.Literal.{Literal}
use Rattle.stn_core.specs.Problem.{ClauseHolds}
use Rattle.better_schedules.specs.code.Choices.{IsTrueOf}
use Rattle.better_schedules.proofs.Choosing.{choice_push}
use Rattle.better_schedules.proofs.choice.choice.Goals as goal

pub unreachable-requires : goal.unreachable-requires
unreachable-requires c =
    let holds : ClauseHolds c.args.values.now c.as_slice.result.now = subst (ClauseHolds c.args.values.now) (sym (c.as_slice.ensures ∙ c.clause-item.is)) (c.requires.holds c.loop-clause.clause-index c.clause-item.result c.loop-clause-test.true) in
    c.in-None.ensures.none holds

pub loop-clause-preserved : goal.loop-clause-preserved
loop-clause-preserved c =
    let clause_is : c.as_slice.result.now ≡ slice_index_or c.args.clauses.now c.loop-clause.clause-index [] = c.as_slice.ensures ∙ (c.clause-item.is ∙ get_or_default c.args.clauses.now c.loop-clause.clause-index c.clause-item.result [] c.loop-clause-test.true) in
    let at : IsTrueOf c.args.values.now (slice_index_or c.args.clauses.now c.loop-clause.clause-index []) c.in-Some.literal = subst (λ (clause : List Literal). IsTrueOf c.args.values.now clause c.in-Some.literal) clause_is c.in-Some.ensures.some in
    record {
      count = grind (arith, common_steps, c.in_ok-push-in-Some.ensures.items);
      each = choice_push c.args.values.now c.args.clauses.now c.loop-clause.chosen.items c.push.new.self.items c.in-Some.literal c.loop-clause.clause-index c.in_ok-push-in-Some.ensures.items c.loop-clause.invariant.count c.loop-clause.invariant.each at;
    }

pub returns : goal.returns
returns c =
    let end : c.loop-clause.clause-index ≡ length c.args.clauses.now = omega (arith, c.loop-clause-test.false, c.loop-clause.auto.clause-index-end) in
    record {
      count = c.loop-clause.invariant.count ∙ end;
      each = λ k h. c.loop-clause.invariant.each k (omega (arith, end, h));
    }
