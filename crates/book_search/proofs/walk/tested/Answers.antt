use Rattle.std.proofs.Common.{sym, subst, rules, List, ℤ}
use Rattle.stn_core.specs.declared.literal.Literal.{Literal}
use Rattle.stn_core.specs.Problem.{ProblemHolds}
use Rattle.stn_core.specs.Solution.{IsSolution}
use Rattle.book_search.proofs.walk.tested.Goals as goal

pub returns : goal.returns
returns c = subst (λ (values : List ℤ). IsSolution c.args.problem.now values) (sym c.new.ensures) (record {
  count = search rules;
  range = search rules;
  holds = subst (λ (clauses : List (List Literal)). ProblemHolds c.args.values.items clauses) c.as_slice-2.ensures
      (subst (λ (values : List ℤ). ProblemHolds values c.as_slice-2.result.now) c.as_slice-3.ensures.value (c.all_hold.ensures c.if-not-all_hold.false));
})
