use Rattle.shop_law.proofs.Plans.{schedules_are_plans}
use Rattle.shop_law.proofs.Schedules.{schedules_are_starts}
use Rattle.shop_law.proofs.Meaning.{script_means_plans}
use Rattle.shop_law.proofs.Least.{best_is_least_makespan}
use Rattle.shop_law.proofs.Serial.{script_is_satisfiable, objective_is_bounded}
use Rattle.shop_law.proofs.Answered.{shop_is_answered}
use Rattle.shop_law.proofs.laws.shop_is_answered.Goals as goal

pub returns : goal.returns
returns c =
    let means = script_means_plans schedules_are_plans schedules_are_starts in
    shop_is_answered means schedules_are_starts (script_is_satisfiable schedules_are_plans) (objective_is_bounded means schedules_are_starts)
    (best_is_least_makespan means schedules_are_starts) c.one_question_is_decided.ensures
