-- What a right entry says is so.
use Rattle.std.proofs.Common.{arith, refl, sym, ap, subst, inl, inr, ◌∙◌, ◌≡◌, ◌<◌, ◌≤◌, ◌+◌, ℕ, zero, suc, List, [], ◌∷◌, map, length, Option, Some, slice_get, Ok, ℤ, ◌+ℤ◌, ◌-ℤ◌, ◌≤ℤ◌}
use Rattle.std.proofs.lemmas.Int.{ints}
use Rattle.std.proofs.lemmas.List.Elements.{All-nil, All-cons, All-append}
use Rattle.smt_sexpr.specs.Tree.{Sexpr}
use Rattle.stn_core.specs.declared.literal.Literal.{Literal}
use Rattle.stn_core.specs.declared.named.NamedValue.{NamedValue}
use Rattle.stn_core.specs.declared.problem.Problem.{Problem}
use Rattle.stn_core.specs.Literal.{value_at, Holds, negation_of}
use Rattle.stn_core.specs.Problem.{ClauseHolds, ProblemHolds}
use Rattle.stn_core.proofs.Consequences.{either}
use Rattle.refute_tree.specs.declared.lemma.Lemma.{Lemma}
use Rattle.refute_tree.specs.Laws.{RefutationLaw}
use Rattle.best_values.specs.Bests.{objective, IsBestValue}
use Rattle.best_values.specs.Laws.{UnboundedLaw}
use Rattle.best_values.specs.Questions.{below}
use Rattle.cert_text.specs.declared.entry.Entry.{Entry}
use Rattle.cert_text.specs.declared.entry.Entry.TheVariants.{Sat, Unsat, Best, Unbounded}
use Rattle.clause_form.specs.ClauseForm as clause_form
use Rattle.clause_form.specs.Laws.{ProblemFollows, ScheduleFollows, PointsGrow}
use Rattle.clause_form.specs.Restricting.{named_value, restricted_by, restricted}
use Rattle.idl_node.specs.declared.sort.Sort.{Sort}
use Rattle.idl_node.specs.declared.sort.Sort.TheVariants as sort
use Rattle.idl_node.specs.Sorts.{IsIntPoint}
use Rattle.idl_node.specs.Truth.{point_value, point_values}
use Rattle.idl_term.specs.Contexts.{Context, IsContext, IsScheduleFor, environment}
use Rattle.idl_term.specs.Laws.{ContextsHaveScopes, RootsAreNodes, RootsAreExact}
use Rattle.idl_term.specs.Scopes.{sorts_of}
use Rattle.idl_term.specs.Values.{whole, value}
use Rattle.smt_script.specs.declared.objective.Objective.{Objective}
use Rattle.smt_script.specs.declared.state.Question.{Question}
use Rattle.smt_script.specs.declared.state.Question.TheVariants.{CheckSat, Minimize}
use Rattle.smt_script.specs.Commands.{minimized}
use Rattle.smt_script.specs.Objectives.{IsObjectiveOf}
use Rattle.smt_script.specs.declared.state.Effect.TheVariants.{Ask}
use Rattle.smt_script.specs.Laws.{StepMade, MinimizedIsWorth}
use Rattle.smt_script.specs.States.{Step, State, IsMadeState, after}
use Rattle.dtp_entry.specs.Bests.{Satisfies, HasValue, IsBestFor, HasNoBest}
use Rattle.dtp_entry.specs.Entries.{points_of, problem_of, difference_at, problem_below, IsProblemOf, IsLeast, IsUnbounded, IsRight}
use Rattle.dtp_entry.specs.Laws.{RightIsSo}
use Rattle.dtp_entry.specs.Transcripts.{IsSo}
use Rattle.dtp_entry.specs.code.Asking.{IsAskedBy}
use Rattle.dtp_entry.proofs.Roots.{roots_true, assertions_true}
use Rattle.unsat_cores.specs.Laws.{CoreLaw}
use Rattle.dtp_entry.proofs.Verdicts.{sorts_count, refuted_unsatisfiable, none_together}

-- ---- an Int name's value on the schedule that values of the points give

point_at : (z : ℤ) (sorts : List Sort) (vs : List ℤ) (k : ℕ) → length sorts ≤ length vs → slice_get sorts k ≡ Some sort.Int → value_at (map point_value (restricted_by z sorts vs)) k ≡ value_at vs k -ℤ z
point_at z [] vs k h e = absurd cc
point_at z (t ∷ sorts) [] k h e = absurd (omega arith)
point_at z (t ∷ sorts) (v ∷ vs) zero h e = let is : t ≡ sort.Int = cc in ap (λ (u : Sort). point_value (named_value u (v -ℤ z))) is
point_at z (t ∷ sorts) (v ∷ vs) (suc k) h e = point_at z sorts vs k (omega arith) e

int_point : (sorts : List Sort) (values : List ℤ) (p : ℕ) → length sorts < length values → IsIntPoint sorts p → value_at (point_values (restricted sorts values)) p ≡ value_at values p -ℤ value_at values 0
int_point sorts [] p h i = absurd (omega arith)
int_point sorts (z ∷ vs) zero h i = omega (arith, ints)
int_point sorts (z ∷ vs) (suc k) h i = point_at z sorts vs k (omega arith) i

-- the difference of two of them is that of the points
difference_restricted : (sorts : List Sort) (values : List ℤ) (x y : ℕ) → length sorts < length values → IsIntPoint sorts x → IsIntPoint sorts y
    → objective x y (point_values (restricted sorts values)) ≡ objective x y values
difference_restricted sorts values x y h i j =
    let ex = int_point sorts values x h i in
    let ey = int_point sorts values y h j in
    omega (arith, ints, ex, ey)

same_whole : (m n : ℤ) → whole m ≡ whole n → m ≡ n
same_whole m n e = cc

-- ---- the laws that all of it stands on

pub record Laws : Type 0 where
  pub scope : ContextsHaveScopes
  pub roots : RootsAreNodes
  pub exact : RootsAreExact
  pub holds : ProblemFollows
  pub schedule : ScheduleFollows
  pub some : PointsGrow
  pub refutes : RefutationLaw
  pub unbounded : UnboundedLaw
  pub core : CoreLaw

module _ (laws : Laws) (c : Context) (context : IsContext c) where
  -- a solution of the problem is a schedule that satisfies the assertions
  pub solution_schedule : (values : List ℤ) → length values ≡ points_of c → ProblemHolds values (problem_of c) → Satisfies c (restricted (sorts_of c.declared) values)
  solution_schedule values counted holds =
      let sorts = sorts_of c.declared in
      let count = sorts_count c.declared in
      let w = laws.schedule sorts c.nodes c.roots values (laws.scope c context).table (laws.roots c context) (counted ∙ ap (λ (n : ℕ). clause_form.points_of (n + 1) c.nodes c.roots) (sym count))
      (subst (λ (n : ℕ). ProblemHolds values (clause_form.clauses_of (n + 1) c.nodes c.roots)) (sym count) holds) in
      (w.0, assertions_true c (restricted sorts values) c.assertions c.roots (laws.exact c (restricted sorts values) context w.0) w.1)

  -- values of the points on which the problem holds and which give the schedule
  pub record Solves (schedule : List NamedValue) (values : List ℤ) : Type 0 where
    pub count : length values ≡ points_of c
    pub gives : restricted (sorts_of c.declared) values ≡ schedule
    pub holds : ProblemHolds values (problem_of c)

  -- each schedule that satisfies the assertions comes from such values
  pub schedule_solution : (schedule : List NamedValue) → Satisfies c schedule → (values : List ℤ) × Solves schedule values
  schedule_solution schedule sat =
      let sorts = sorts_of c.declared in
      let count = sorts_count c.declared in
      let w = laws.holds sorts c.nodes c.roots schedule (laws.scope c context).table (laws.roots c context) sat.0 (roots_true c schedule c.assertions c.roots (laws.exact c schedule context sat.0) sat.1) in
      let solves : Solves schedule w.0 = record {
        count = w.1 ∙ ap (λ (n : ℕ). clause_form.points_of (n + 1) c.nodes c.roots) count;
        gives = w.2;
        holds = subst (λ (n : ℕ). ProblemHolds w.0 (clause_form.clauses_of (n + 1) c.nodes c.roots)) count w.3;
      } in
      (w.0, solves)

  -- the names have points of their own
  pub names_below : (values : List ℤ) → length values ≡ points_of c → length (sorts_of c.declared) < length values
  names_below values counted =
      let some = laws.some (length c.declared + 1) c.nodes c.roots in
      let count = sorts_count c.declared in
      omega (arith, some, count, counted)

  module _ (x t : Sexpr) (o : Objective) (is : minimized x ≡ Some t) (asked : IsObjectiveOf c t o) where
    -- the term's value on a schedule
    value_is : (schedule : List NamedValue) (m : ℤ) → IsScheduleFor c schedule → HasValue c schedule (minimized x) m → m ≡ objective o.x o.y (point_values schedule) +ℤ o.k
    value_is schedule m fits h =
        let of_term : value (environment c schedule) t ≡ whole m = subst (λ (w : Option Sexpr). HasValue c schedule w m) is h in
        same_whole _ _ (sym of_term ∙ asked.worth schedule fits)

    has_value : (schedule : List NamedValue) (m : ℤ) → IsScheduleFor c schedule → objective o.x o.y (point_values schedule) +ℤ o.k ≡ m → HasValue c schedule (minimized x) m
    has_value schedule m fits e =
        subst (λ (w : Option Sexpr). HasValue c schedule w m) (sym is) (asked.worth schedule fits ∙ ap whole e)

    -- by the values that give the schedule
    pub value_solved : (schedule : List NamedValue) (values : List ℤ) (m : ℤ) → Satisfies c schedule → Solves schedule values → HasValue c schedule (minimized x) m → objective o.x o.y values ≡ difference_at o m
    value_solved schedule values m sat solves h =
        let e = value_is schedule m sat.0 h in
        let same = difference_restricted (sorts_of c.declared) values o.x o.y (names_below values solves.count) asked.x_in asked.y_in in
        let given : objective o.x o.y (point_values (restricted (sorts_of c.declared) values)) ≡ objective o.x o.y (point_values schedule) = ap (λ (s : List NamedValue). objective o.x o.y (point_values s)) solves.gives in
        omega (arith, ints, e, same, given)

    pub value_restricted : (values : List ℤ) (m : ℤ) → length values ≡ points_of c → IsScheduleFor c (restricted (sorts_of c.declared) values) → objective o.x o.y values +ℤ o.k ≡ m → HasValue c (restricted (sorts_of c.declared) values) (minimized x) m
    value_restricted values m counted fits e =
        has_value (restricted (sorts_of c.declared) values) m fits
        (ap (λ (d : ℤ). d +ℤ o.k) (difference_restricted (sorts_of c.declared) values o.x o.y (names_below values counted) asked.x_in asked.y_in) ∙ e)

    -- ---- the least

    below_holds : (m : ℤ) (values : List ℤ) → ProblemHolds values (problem_of c) → Holds values (below o.x o.y (difference_at o m)) → ProblemHolds values (problem_below c o m)
    below_holds m values holds low =
        let last : List Literal = below o.x o.y (difference_at o m) ∷ [] in
        let clause : ClauseHolds values last = (below o.x o.y (difference_at o m), (0, omega arith, refl), low) in
        All-append (ClauseHolds values) (problem_of c) (last ∷ []) holds (All-cons (ClauseHolds values) last [] clause (All-nil (ClauseHolds values)))

    -- where the problem with the last clause holds on no values, no schedule gives less
    pub none_less : (m : ℤ) → ((values : List ℤ) → ProblemHolds values (problem_below c o m) → ⊥)
        → (other : List NamedValue) (n : ℤ) → Satisfies c other → HasValue c other (minimized x) n → m ≤ℤ n
    none_less m never other n sat h =
        let found = schedule_solution other sat in
        let values : List ℤ = found.0 in
        let e = value_solved other values n sat found.1 h in
        elim (either values (below o.x o.y (difference_at o m))) [
          | inl low ↦ absurd (never values (below_holds m values found.1.holds low))
          | inr high ↦ let not_below : Holds values (negation_of (below o.x o.y (difference_at o m))) = high in omega (arith, ints, e, not_below)
        ]

    least_is_best : (m : ℤ) (schedule : List NamedValue) (lemmas : List Lemma) → IsLeast c x o m schedule lemmas → IsBestFor c (minimized x) m
    least_is_best m schedule lemmas h = record {
      schedule = schedule;
      satisfies = h.satisfies;
      attained = h.attained;
      least = none_less m (λ values holds. laws.refutes (points_of c) (problem_below c o m) lemmas h.refuted values holds);
    }

    -- ---- none is best

    -- a best value of the term is one of the difference
    best_difference : (problem : Problem) → IsProblemOf c problem → (m : ℤ) → IsBestFor c (minimized x) m → IsBestValue problem o.x o.y (difference_at o m)
    best_difference problem is_problem m best =
        let found = schedule_solution best.schedule best.satisfies in
        let values : List ℤ = found.0 in
        record {
          values = values;
          model = record {
            count = found.1.count ∙ sym is_problem.points;
            holds = subst (λ (cs : List (List Literal)). ProblemHolds values cs) (sym is_problem.clauses) found.1.holds;
          };
          attained = value_solved best.schedule values m best.satisfies found.1 best.attained;
          least = λ others model.
              let counted = model.count ∙ is_problem.points in
              let sat = solution_schedule others counted (subst (λ (cs : List (List Literal)). ProblemHolds others cs) is_problem.clauses model.holds) in
              let less = best.least (restricted (sorts_of c.declared) others) (objective o.x o.y others +ℤ o.k) sat (value_restricted others (objective o.x o.y others +ℤ o.k) counted sat.0 refl) in
              omega (arith, ints, less);
        }

    point_below : (problem : Problem) → IsProblemOf c problem → (p : ℕ) → p < length c.declared + 1 → p < problem.points
    point_below problem is_problem p h =
        let some = laws.some (length c.declared + 1) c.nodes c.roots in
        let points = is_problem.points in
        omega (arith, some, points, h)

    unbounded_has_none : (values : List ℤ) (set : List ℕ) → IsUnbounded c o values set → HasNoBest c (minimized x)
    unbounded_has_none values set h =
        let problem = h.problem in
        let sat = solution_schedule values (h.model.count ∙ h.is_problem.points) (subst (λ (cs : List (List Literal)). ProblemHolds values cs) h.is_problem.clauses h.model.holds) in
        record {
          satisfiable = (restricted (sorts_of c.declared) values, sat.0, sat.1);
          none_best = λ m best.
              laws.unbounded problem o.x o.y values set (point_below problem h.is_problem o.x asked.x_below) (point_below problem h.is_problem o.y asked.y_below) h.model.count h.free
              (difference_at o m) (best_difference problem h.is_problem m best);
        }

  -- what a right entry says is so
  pub right_is_so : (question : Question) (x : Sexpr) (entry : Entry) → IsAskedBy question x c → IsRight question x c entry → IsSo x c entry
  right_is_so CheckSat x (Sat schedule) asked h = (schedule, h.0, h.1)
  right_is_so (Minimize o) x (Sat schedule) asked h = absurd h
  right_is_so question x (Unsat lemmas) asked h =
      (refuted_unsatisfiable c context laws.scope laws.roots laws.exact laws.holds laws.refutes lemmas h, none_together c context laws.scope laws.exact laws.core lemmas h)
  right_is_so CheckSat x (Best m schedule lemmas) asked h = absurd h
  right_is_so (Minimize o) x (Best m schedule lemmas) asked h = least_is_best x asked.0 o asked.1 asked.2 m schedule lemmas h
  right_is_so CheckSat x (Unbounded values set) asked h = absurd h
  right_is_so (Minimize o) x (Unbounded values set) asked h = unbounded_has_none x asked.0 o asked.1 asked.2 values set h

-- of a command that asks the question
pub asked_by : MinimizedIsWorth → (s : State) (x : Sexpr) (step : Step) (question : Question) → IsMadeState s → after s x ≡ Ok step → step.effect ≡ Ask question → IsAskedBy question x step.state.context
asked_by worth s x step CheckSat made leads effect = tt
asked_by worth s x step (Minimize o) made leads effect = worth s x step o made leads effect

pub right_of_command : Laws → MinimizedIsWorth → StepMade → RightIsSo
right_of_command laws worth made s x step question entry before leads effect right =
    right_is_so laws step.state.context (made s x step before leads).context question x entry (asked_by worth s x step question before leads effect) right
