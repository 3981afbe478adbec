-- What the answers say of the best value.
use Rattle.std.proofs.Common.{ℕ, ◌<◌, List, ℤ}
use Rattle.stn_core.specs.declared.problem.Problem.{Problem}
use Rattle.stn_core.specs.Solution.{IsSolution}
use Rattle.refute_tree.specs.Laws.{RefutationLaw}
use Rattle.best_values.specs.Bests.{IsModel}
use Rattle.best_values.specs.Laws.{BestLaw, UnboundedLaw}
use Rattle.best_values.specs.Questions.{clauses_below}
use Rattle.best_bound.specs.declared.answer.Best.{Best}
use Rattle.best_bound.specs.declared.answer.Best.TheVariants.{Nothing, Least, Unbounded}
use Rattle.best_bound.specs.Answers.{IsBestAnswer, Tells}

model_of : (problem : Problem) (values : List ℤ) → IsSolution problem values → IsModel problem values
model_of problem values s = record { count = s.count; holds = s.holds }

pub told : RefutationLaw → BestLaw → UnboundedLaw → (problem : Problem) (x y : ℕ) (best : Best) → x < problem.points → y < problem.points → IsBestAnswer problem x y best → Tells problem x y best
told refutes best_is none problem x y (Nothing lemmas) x_in y_in h = λ values model. refutes problem.points problem.clauses lemmas h.0 values model.holds
told refutes best_is none problem x y (Least values m lemmas) x_in y_in h =
    best_is problem x y m values (model_of problem values h.solution) h.attained (λ others low. refutes problem.points (clauses_below problem x y m) lemmas h.refuted others low)
told refutes best_is none problem x y (Unbounded values set) x_in y_in h =
    (model_of problem values h.solution, λ m. none problem x y values set x_in y_in h.solution.count h.free m)
