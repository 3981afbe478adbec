use Rattle.std.specs.Prelude.{IfSome}
use Rattle.better_schedules.specs.code.Descents.{IsDescent, left_to_ask}
use Rattle.kept_search.specs.Kept.{IsSearchOf}
use Rattle.best_bound.proofs.questions.best_by.Given as goal

abbrev pub decreases-questions : goal.decreases-questions
decreases-questions g l = left_to_ask l.problem l.descent

abbrev pub invariant-questions : goal.invariant-questions
invariant-questions g l = record {
  descent : IsDescent l.problem l.x l.y l.descent;
  search : IfSome l.search (IsSearchOf l.problem);
}
