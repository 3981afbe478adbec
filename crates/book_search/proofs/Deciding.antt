-- What the clauses of one literal decide.
use Rattle.std.proofs.Common.{◌≡◌, ℕ, ℤ, Bool, true, List, [], ◌∷◌, ◌++◌, flat_map, Option, Some, None, All, append-nil, subst, sym, ap, ◌∙◌}
use Rattle.std.proofs.lemmas.List.Elements.{All-nil, All-cons, All-append}
use Rattle.stn_core.specs.declared.literal.Literal.{Literal}
use Rattle.stn_core.specs.declared.problem.Problem.{Problem}
use Rattle.stn_core.specs.declared.schedule.Greatest.{Greatest}
use Rattle.stn_core.specs.declared.schedule.Greatest.TheVariants.{Greatest as AsGreatest, Negative}
use Rattle.stn_core.specs.Answer.{IsBest, IsAnswer, IsCycleAmong}
use Rattle.stn_core.specs.Literal.{IsOver}
use Rattle.stn_core.specs.Problem.{ProblemHolds}
use Rattle.refute_tree.specs.declared.step.Step.{Step}
use Rattle.refute_tree.specs.declared.step.Step.TheVariants.{Cycle, Input}
use Rattle.refute_tree.specs.declared.lemma.Lemma.{Lemma}
use Rattle.refute_tree.specs.Trees.{Tree}
use Rattle.refute_tree.specs.Batches.{NamesOver, LemmaIsOver}
use Rattle.book_core.specs.declared.verdict.Verdict.TheVariants.{Unsat}
use Rattle.stn_core.specs.Solution.{IsSolution}
use Rattle.book_core.specs.Verdicts.{IsRight, last_lemma}
use Rattle.book_core.proofs.Concluding.{closed_refutation}
use Rattle.book_search.specs.code.Base.{Base, IsBase, BaseIsOver, steps_of, unit_steps, cycle_steps}
use Rattle.book_search.proofs.Bases.{leaf_closes}

pub units_over : (problem : Problem) (given : List (List Literal)) (base : Base) (shown : List Literal) → given ≡ problem.clauses → BaseIsOver given base → shown ≡ base.literals → All (IsOver problem.points) shown
units_over problem given base shown same over e =
    subst (All (IsOver problem.points)) (sym e) (over problem.points (subst (All (λ (clause : List Literal). All (IsOver problem.points) clause)) (sym same) problem.over))

pub unit_solution : (problem : Problem) (literals : List Literal) (schedule values : List ℤ) (given : List (List Literal)) (answer : Greatest) (test : Bool) → IsAnswer problem.points literals answer → answer ≡ AsGreatest schedule → values ≡ schedule → given ≡ problem.clauses → (test ≡ true → ProblemHolds values given) → test ≡ true → IsSolution problem schedule
unit_solution problem literals schedule values given answer test a is same lent holds t =
    let best : IsBest problem.points literals schedule = subst (IsAnswer problem.points literals) is a in
    record {
      count = best.greatest.schedule.count;
      range = best.range;
      holds = subst (λ (vs : List ℤ). ProblemHolds vs problem.clauses) same (subst (ProblemHolds values) lent (holds t));
    }

step_named : (points : ℕ) (number : Option ℕ) → All (NamesOver points) (steps_of number)
step_named points None = All-nil (NamesOver points)
step_named points (Some number) = All-cons (NamesOver points) (Input number) [] (All-nil (IsOver points)) (All-nil (NamesOver points))

units_named : (points : ℕ) (base : Base) (cycle : List Literal) → All (NamesOver points) (flat_map (λ (l : Literal). unit_steps base l) cycle)
units_named points base [] = All-nil (NamesOver points)
units_named points base (l ∷ cycle) = All-append (NamesOver points) (unit_steps base l) (flat_map (λ (m : Literal). unit_steps base m) cycle) (step_named points _) (units_named points base cycle)

leaf_named : (points : ℕ) (base : Base) (cycle : List Literal) → All (NamesOver points) (cycle_steps base cycle)
leaf_named points base cycle = All-append (NamesOver points) (flat_map (λ (l : Literal). unit_steps base l) cycle) (Cycle cycle ∷ []) (units_named points base cycle) (All-cons (NamesOver points) (Cycle cycle) [] (All-nil (IsOver points)) (All-nil (NamesOver points)))

leaf_right : (problem : Problem) (base : Base) (cycle : List Literal) → IsBase problem.clauses base → IsCycleAmong base.literals cycle → IsRight problem (Unsat (last_lemma (cycle_steps base cycle) ∷ []))
leaf_right problem base cycle b among =
    let wide : IsCycleAmong (base.literals ++ []) cycle = subst (λ (ls : List Literal). IsCycleAmong ls cycle) (sym (append-nil base.literals)) among in
    let longer : Tree problem.clauses [] [] (cycle_steps base cycle ++ []) [] = leaf_closes problem.clauses base [] cycle [] b wide in
    let tree : Tree problem.clauses [] [] (cycle_steps base cycle) [] = subst (λ (s : List Step). Tree problem.clauses [] [] s []) (append-nil (cycle_steps base cycle)) longer in
    let named = leaf_named problem.points base cycle in
    let over : LemmaIsOver problem.points (last_lemma (cycle_steps base cycle)) = record { clause = All-nil (IsOver problem.points); steps = named } in (
      closed_refutation problem [] (cycle_steps base cycle) tt tree named,
      All-cons (LemmaIsOver problem.points) (last_lemma (cycle_steps base cycle)) [] over (All-nil (LemmaIsOver problem.points)),
    )

-- the one lemma of a refutation by a cycle
pub one_lemma : (base : Base) (cycle clause : List Literal) (steps : List Step) (lemmas res : List Lemma) → steps ≡ cycle_steps base cycle → clause ≡ [] → lemmas ≡ record { clause = clause; steps = steps } ∷ [] → res ≡ lemmas → res ≡ last_lemma (cycle_steps base cycle) ∷ []
one_lemma base cycle clause steps lemmas res es ec el er =
    let lemma_is : record { clause = clause; steps = steps } ≡ last_lemma (cycle_steps base cycle) = ap (λ (c : List Literal). record { clause = c; steps = steps }) ec ∙ ap last_lemma es in
    er ∙ (el ∙ ap (λ (l : Lemma). l ∷ []) lemma_is)

pub units_refuted : (problem : Problem) (given : List (List Literal)) (base : Base) (shown cycle items : List Literal) (answer : Greatest) (res : List Lemma) → given ≡ problem.clauses → IsBase given base → shown ≡ base.literals → IsAnswer problem.points shown answer → answer ≡ Negative cycle → items ≡ cycle → res ≡ last_lemma (cycle_steps base items) ∷ [] → IsRight problem (Unsat res)
units_refuted problem given base shown cycle items answer res same b e a is ei er =
    let among : IsCycleAmong base.literals cycle = subst (λ (ls : List Literal). IsCycleAmong ls cycle) e (subst (IsAnswer problem.points shown) is a) in
    let base_right : IsBase problem.clauses base = subst (λ (cs : List (List Literal)). IsBase cs base) same b in
    let all : res ≡ last_lemma (cycle_steps base cycle) ∷ [] = er ∙ ap (λ (ls : List Literal). last_lemma (cycle_steps base ls) ∷ []) ei in
    subst (λ (ls : List Lemma). IsRight problem (Unsat ls)) (sym all) (leaf_right problem base cycle base_right among)
