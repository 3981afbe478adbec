-- The last question has no answer: the best schedule's value is the least.
use Rattle.std.proofs.Common.{sym, subst, ◌≡◌, ℕ, List, All, ℤ}
use Rattle.stn_core.specs.declared.literal.Literal.{Literal}
use Rattle.stn_core.specs.declared.problem.Problem.{Problem}
use Rattle.refute_tree.specs.declared.lemma.Lemma.{Lemma}
use Rattle.refute_tree.specs.Trees.{IsRefutation}
use Rattle.refute_tree.specs.Batches.{LemmaIsOver}
use Rattle.best_values.specs.Questions.{Asks, clauses_below}
use Rattle.best_values.specs.Widths.{IsWithinLimit}
use Rattle.better_schedules.specs.declared.incumbent.Incumbent.{Incumbent}
use Rattle.better_schedules.specs.code.Incumbents.{IsIncumbent}
use Rattle.best_bound.specs.Answers.{IsLeast}

pub least_is : (problem asked : Problem) (x y : ℕ) (best : Incumbent) (bound : ℤ) (lemmas : List Lemma) → IsIncumbent problem x y best → IsWithinLimit best.value → Asks problem x y bound asked → bound ≡ best.value → IsRefutation asked.points asked.clauses lemmas → All (LemmaIsOver asked.points) lemmas → IsLeast problem x y best.schedule best.value lemmas
least_is problem asked x y best bound lemmas incumbent within asks same r over =
    let is : Asks problem x y best.value asked = subst (λ (m : ℤ). Asks problem x y m asked) same asks in
    record {
      solution = incumbent.solution;
      attained = sym incumbent.value;
      within = within;
      refuted = subst (λ (n : ℕ). IsRefutation n (clauses_below problem x y best.value) lemmas) is.points (subst (λ (cs : List (List Literal)). IsRefutation asked.points cs lemmas) is.clauses r);
      over = subst (λ (n : ℕ). All (LemmaIsOver n) lemmas) is.points over;
    }
