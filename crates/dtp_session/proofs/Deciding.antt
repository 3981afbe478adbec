-- What decides a question.
use Rattle.std.proofs.Common.{arith, refl, sym, ap, subst, ◌∙◌, ◌≡◌, ◌<◌, ◌≤◌, ◌+◌, ◌*◌, ◌^◌, ℕ, Bool, true, false, if◌then◌else◌, nat_le, List, [], ◌∷◌, ◌++◌, length, map, Option, Some, None, ℤ, ◌+ℤ◌, ◌-ℤ◌}
use Rattle.std.specs.Prelude.{All}
use Rattle.std.proofs.lemmas.Bool.{leb-true}
use Rattle.std.proofs.lemmas.Int.{ints}
use Rattle.std.proofs.lemmas.List.{length-map}
use Rattle.std.proofs.lemmas.List.Elements.{All-weaker}
use Rattle.smt_sexpr.specs.Tree.{Sexpr}
use Rattle.stn_core.specs.declared.literal.Literal.{Literal}
use Rattle.stn_core.specs.declared.named.NamedValue.{NamedValue}
use Rattle.stn_core.specs.declared.problem.Problem.{Problem}
use Rattle.stn_core.specs.Laws.{NegationKept}
use Rattle.stn_core.specs.Named.{AreWithinLimit}
use Rattle.stn_core.specs.Problem.{ProblemHolds}
use Rattle.stn_core.specs.Schedule.{IsInRange}
use Rattle.stn_core.specs.Solution.{IsSolution}
use Rattle.refute_tree.specs.declared.lemma.Lemma.{Lemma}
use Rattle.refute_tree.specs.Batches.{LemmaIsOver}
use Rattle.refute_tree.specs.Laws.{LengthenedPlain, RefutationStays, RefutationLaw}
use Rattle.refute_tree.specs.Lengths.{lengthened_lemma, shortened_lemma}
use Rattle.refute_tree.specs.Trees.{IsRefutation}
use Rattle.book_core.specs.declared.verdict.Verdict.{Verdict}
use Rattle.book_core.specs.Verdicts.{IsRight}
use Rattle.best_values.specs.Laws.{UnboundedLaw}
use Rattle.best_values.specs.Questions.{below, Asks}
use Rattle.best_values.specs.Widths.{width_of, objective_limit, Fits, IsWithinLimit}
use Rattle.best_bound.specs.declared.answer.Best.{Best as Answer}
use Rattle.best_bound.specs.Answers as answer
use Rattle.cert_text.specs.declared.entry.Version.{Version}
use Rattle.cert_text.specs.declared.entry.Version.TheVariants.{One, Two}
use Rattle.cert_text.specs.declared.entry.Entry.{Entry}
use Rattle.cert_text.specs.declared.entry.Entry.TheVariants.{Sat, Unsat, Best, Unbounded}
use Rattle.cert_text.specs.Limits.{limit, LemmaWithin, WholeFits}
use Rattle.clause_form.specs.Laws.{ProblemFollows, ScheduleFollows, PointsGrow}
use Rattle.clause_form.specs.Restricting.{restricted}
use Rattle.idl_term.specs.Contexts.{Context, IsContext}
use Rattle.idl_term.specs.Laws.{ContextsHaveScopes, RootsAreNodes, RootsAreExact}
use Rattle.unsat_cores.specs.Laws.{CoreLaw}
use Rattle.idl_term.specs.Scopes.{sorts_of}
use Rattle.smt_script.specs.declared.objective.Objective.{Objective}
use Rattle.smt_script.specs.declared.state.Question.{Question}
use Rattle.smt_script.specs.declared.state.Question.TheVariants.{CheckSat, Minimize}
use Rattle.smt_script.specs.Objectives.{IsObjectiveOf}
use Rattle.smt_script.specs.States.{State}
use Rattle.smt_answer.specs.declared.kind.Kind.{Kind}
use Rattle.smt_script.specs.Commands.{minimized}
use Rattle.dtp_entry.specs.Bests.{Satisfies, HasValue}
use Rattle.dtp_entry.specs.Entries.{points_of, problem_of, problem_below, IsProblemOf, IsLeast, IsUnbounded, IsShort, IsInForm}
use Rattle.dtp_entry.specs.Transcripts.{Decides, schedule_in}
use Rattle.dtp_entry.specs.code.Asking.{IsAskedBy}
use Rattle.dtp_entry.proofs.Bests.{Laws, solution_schedule, value_restricted, right_is_so}
use Rattle.dtp_session.specs.code.Forms.{formed, schedule_shown}
use Rattle.dtp_session.specs.code.Decisions.{IsTaken, IsDecision, IsKeptOf, IsShownRefuted, IsShownLeast, RefutesLess}
use Rattle.dtp_session.specs.code.Keeping.{IsProblemFor}
use Rattle.dtp_session.proofs.Fitting.{IsFormed, refutation_within, written_lemmas_over, written_without_clash}
use Rattle.dtp_session.proofs.Shortening.{short_lemmas_over, lemmas_short, formed_second}

-- what was found
pub as_found : (problem : Problem) (found other : Verdict) → found ≡ other → IsRight problem found → IsRight problem other
as_found problem found other e h = subst (IsRight problem) e h

pub as_answered : (problem : Problem) (x y : ℕ) (found other : Answer) → found ≡ other → answer.IsBestAnswer problem x y found → answer.IsBestAnswer problem x y other
as_answered problem x y found other e h = subst (answer.IsBestAnswer problem x y) e h

-- in the words of the assertions' problem
pub holds_as : (clauses q : List (List Literal)) (values : List ℤ) → clauses ≡ q → ProblemHolds values clauses → ProblemHolds values q
holds_as clauses q values e h = subst (λ (cs : List (List Literal)). ProblemHolds values cs) e h

refuted_as : (points p : ℕ) (clauses q : List (List Literal)) (lemmas : List Lemma) → points ≡ p → clauses ≡ q → IsRefutation points clauses lemmas → IsRefutation p q lemmas
refuted_as points p clauses q lemmas e f h =
    subst (λ (n : ℕ). IsRefutation n q lemmas) e (subst (λ (cs : List (List Literal)). IsRefutation points cs lemmas) f h)

-- ---- the problem of a question that is taken

free_by : (b : Bool) (kind : Kind) → ◌≡◌ {A = Option Kind} (if b then None else Some kind) None → b ≡ true
free_by true kind e = refl
free_by false kind e = absurd cc

pub problem_fits : (problem : Problem) (s : State) (x : Sexpr) (o : Objective) → IsTaken (Minimize o) x s problem → Fits problem
problem_fits problem s x o taken =
    let points = points_of s.context in
    let clauses = problem_of s.context in
    let test : nat_le (points * (width_of clauses + 1)) objective_limit ≡ true = free_by _ _ taken.free in
    let fits : points * (width_of clauses + 1) ≤ objective_limit = leb-true _ _ test in
    subst (λ (n : ℕ). n * (width_of problem.clauses + 1) ≤ objective_limit) (sym taken.is_problem.points)
    (subst (λ (cs : List (List Literal)). points * (width_of cs + 1) ≤ objective_limit) (sym taken.is_problem.clauses) fits)

pub point_in : PointsGrow → (problem : Problem) (c : Context) → IsProblemOf c problem → (p : ℕ) → p < length c.declared + 1 → p < problem.points
point_in some problem c is p h =
    let grow = some (length c.declared + 1) c.nodes c.roots in
    let points = is.points in
    omega (arith, grow, points, h)

-- ---- lemmas in a version's form

-- the laws of clauses and contexts, as the calls of them give each
pub laws_by : ContextsHaveScopes → RootsAreNodes → RootsAreExact → ProblemFollows → ScheduleFollows → PointsGrow → RefutationLaw → UnboundedLaw → CoreLaw → Laws
laws_by scope roots exact holds schedule some refutes unbounded core = record {
  scope = scope;
  roots = roots;
  exact = exact;
  holds = holds;
  schedule = schedule;
  some = some;
  refutes = refutes;
  unbounded = unbounded;
  core = core;
}

pub record FormLaws : Type 0 where
  pub negation : NegationKept
  pub plain : LengthenedPlain
  pub longer : RefutationStays lengthened_lemma
  pub shorter : RefutationStays shortened_lemma

-- what is shown is the refutation that was found, each lemma in the version's form
module _ (laws : FormLaws) (problem : Problem) (found : List Lemma) (h : IsRefutation problem.points problem.clauses found) (all : All (LemmaIsOver problem.points) found) where
  abbrev pub shown : Version → List Lemma
  shown version = map (formed version problem.clauses) found

  shown_over : (version : Version) → All (LemmaIsOver problem.points) (shown version)
  shown_over One = written_lemmas_over problem.points problem.clauses found all
  shown_over Two = short_lemmas_over problem.clauses problem.points found all

  shown_formed : (version : Version) → All (IsFormed version) (shown version)
  shown_formed One = written_without_clash problem.points problem.clauses laws.plain found h
  shown_formed Two = formed_second (shown Two)

  pub shown_stays : (version : Version) → IsRefutation problem.points problem.clauses (shown version)
  shown_stays One = laws.longer problem.points problem.clauses found h
  shown_stays Two = laws.shorter problem.points problem.clauses found h

  pub shown_short : All (IsShort problem.clauses) (shown Two)
  shown_short = lemmas_short problem.clauses found

  few_points : problem.points ≤ 2 ^ 32
  few_points = let few = problem.few in omega (arith, few)

  pub shown_within : (version : Version) → length problem.clauses ≤ limit → length found ≤ limit → All (LemmaWithin version (2 ^ 32)) (shown version)
  shown_within version few_clauses few_lemmas =
      let count : length (shown version) ≤ limit = omega (arith, length-map found (formed version problem.clauses), few_lemmas) in
      refutation_within version problem.points laws.negation few_points problem.clauses few_clauses problem.over (shown version) count
      (shown_stays version) (shown_over version) (shown_formed version)

-- the entry of a least value, by the numbers as the code has them
pub least_shown : (version : Version) (problem question : Problem) (o : Objective) (schedule : List NamedValue) (d e m : ℤ) (lemmas kept : List Lemma) (found : Entry) → Asks problem o.x o.y e question → e ≡ d → IsKeptOf question.clauses lemmas kept
    → found ≡ Best m schedule (map (formed version question.clauses) kept) → m ≡ d +ℤ o.k → IsShownLeast version problem o schedule d lemmas found
least_shown version problem question o schedule d e m lemmas kept found asks same is_kept shown sum = record {
  question = question;
  asks = subst (λ (z : ℤ). Asks problem o.x o.y z question) same asks;
  kept = kept;
  is_kept = is_kept;
  shown = shown ∙ ap (λ (z : ℤ). Best z schedule (map (formed version question.clauses) kept)) sum;
}

-- what is kept refutes the question
pub less_refuted : (problem question : Problem) (o : Objective) (d e : ℤ) (lemmas kept : List Lemma) → Asks problem o.x o.y e question → e ≡ d → IsKeptOf question.clauses lemmas kept → RefutesLess problem o d lemmas → IsRefutation question.points question.clauses kept
less_refuted problem question o d e lemmas kept asks same is_kept refuted =
    let here : Asks problem o.x o.y d question = subst (λ (z : ℤ). Asks problem o.x o.y z question) same asks in
    is_kept.refutes question.points question.clauses (refuted_as problem.points question.points _ question.clauses lemmas (sym here.points) (sym here.clauses) refuted)

-- ---- decisions

same_schedule : (a b : List NamedValue) → ◌≡◌ {A = Option (List NamedValue)} (Some a) (Some b) → a ≡ b
same_schedule a b e = cc

module _ (c : Context) where
  -- a decision by an entry with this schedule
  with_schedule : (version : Version) (question : Question) (x : Sexpr) (entry : Entry) (schedule : List NamedValue) (given : Option (List NamedValue))
      → Decides version question x c entry → (same : schedule_shown given entry ≡ schedule_in c entry) → schedule_in c entry ≡ Some schedule → Satisfies c schedule → AreWithinLimit schedule
      → IsDecision version question x c entry given
  with_schedule version question x entry schedule given decides same is satisfies within = record {
    decides = decides;
    same = same;
    satisfies = λ other e. subst (λ (s : List NamedValue). Satisfies c s × AreWithinLimit s) (same_schedule schedule other (sym is ∙ e)) (satisfies, within);
  }

  sat_in_form : (version : Version) (named : List NamedValue) → IsInForm version CheckSat c (Sat named)
  sat_in_form One named = tt
  sat_in_form Two named = tt

  pub sat_decides : (version : Version) (x : Sexpr) (named : List NamedValue) → Satisfies c named → AreWithinLimit named → Decides version CheckSat x c (Sat named)
  sat_decides version x named satisfies within =
      record { right = record { right = satisfies; fits = within; form = sat_in_form version named }; so = (named, satisfies.0, satisfies.1) }

  -- a schedule decides a check-sat
  pub schedule_decides : (version : Version) (x : Sexpr) (named : List NamedValue) → Satisfies c named → AreWithinLimit named → IsDecision version CheckSat x c (Sat named) None
  schedule_decides version x named satisfies within =
      with_schedule version CheckSat x (Sat named) named None (sat_decides version x named satisfies within) refl refl satisfies within

module _ (laws : Laws) (c : Context) (context : IsContext c) where
  decision_as : (version : Version) (question : Question) (x : Sexpr) (entry found : Entry) (given : Option (List NamedValue)) → found ≡ entry
      → IsDecision version question x c entry given → IsDecision version question x c found given
  decision_as version question x entry found given e h = subst (λ (f : Entry). IsDecision version question x c f given) (sym e) h

  -- what the values give
  given_satisfies : (values : List ℤ) (named : List NamedValue) → length values ≡ points_of c → ProblemHolds values (problem_of c) → named ≡ restricted (sorts_of c.declared) values → Satisfies c named
  given_satisfies values named counted holds e = subst (λ (found : List NamedValue). Satisfies c found) (sym e) (solution_schedule laws c context values counted holds)

  module _ (problem : Problem) (is : IsProblemOf c problem) where
    solution_satisfies : (values : List ℤ) (named : List NamedValue) → IsSolution problem values → named ≡ restricted (sorts_of c.declared) values → Satisfies c named
    solution_satisfies values named solution e = given_satisfies values named (solution.count ∙ is.points) (holds_as problem.clauses (problem_of c) values is.clauses solution.holds) e

    -- ---- a schedule

    pub sat_decision : (version : Version) (x : Sexpr) (values : List ℤ) (named : List NamedValue) (found : Entry) → IsSolution problem values → named ≡ restricted (sorts_of c.declared) values → AreWithinLimit named → found ≡ Sat named
        → IsDecision version CheckSat x c found None
    sat_decision version x values named found solution e within is_found =
        let satisfies = solution_satisfies values named solution e in
        decision_as version CheckSat x (Sat named) found None is_found
        (with_schedule c version CheckSat x (Sat named) named None (sat_decides c version x named satisfies within) refl refl satisfies within)

    -- ---- a refutation

    unsat_in_form : (version : Version) (question : Question) (form_laws : FormLaws) (kept : List Lemma) (h : IsRefutation problem.points problem.clauses kept) (all : All (LemmaIsOver problem.points) kept)
        → IsInForm version question c (Unsat (map (formed version problem.clauses) kept))
    unsat_in_form One question form_laws kept h all = tt
    unsat_in_form Two question form_laws kept h all =
        subst (λ (cs : List (List Literal)). All (IsShort cs) (map (formed Two problem.clauses) kept)) is.clauses (shown_short form_laws problem kept h all)

    pub unsat_decision : (form_laws : FormLaws) (version : Version) (question : Question) (x : Sexpr) (lemmas : List Lemma) (found : Entry) → IsAskedBy question x c → answer.IsNothing problem lemmas → IsShownRefuted version problem lemmas found
        → IsDecision version question x c found None
    unsat_decision form_laws version question x lemmas found asked h s =
        let kept = s.kept in
        let refuted = s.is_kept.refutes problem.points problem.clauses h.0 in
        let over = s.is_kept.over problem.points h.1 in
        let entry : List Lemma = map (formed version problem.clauses) kept in
        let right : IsRefutation (points_of c) (problem_of c) entry = refuted_as problem.points (points_of c) problem.clauses (problem_of c) entry is.points is.clauses (shown_stays form_laws problem kept refuted over version) in
        let decides : Decides version question x c (Unsat entry) = record {
          right = record {
            right = right;
            fits = shown_within form_laws problem kept refuted over version s.is_kept.few_clauses s.is_kept.few;
            form = unsat_in_form version question form_laws kept refuted over;
          };
          so = right_is_so laws c context question x (Unsat entry) asked right;
        } in
        decision_as version question x (Unsat entry) found None s.shown (record { decides = decides; same = refl; satisfies = λ schedule e. absurd cc })

    -- over this problem
    pub refuted_for : (version : Version) (question : Question) (lemmas : List Lemma) (found : Entry) → IsShownRefuted version problem lemmas found → IsProblemFor question c problem.points problem.clauses found
    refuted_for version question lemmas found s = subst (λ (e : Entry). IsProblemFor question c problem.points problem.clauses e) (sym s.shown) (is.points, is.clauses)

    -- ---- a least value

    module _ (o : Objective) (x : Sexpr) (asked : IsAskedBy (Minimize o) x c) where
      back : (d k : ℤ) → (d +ℤ k) -ℤ k ≡ d
      back d k = omega (arith, ints)

      -- the question in the words of the assertions
      question_is : (difference : ℤ) (question : Problem) → question.clauses ≡ problem.clauses ++ (below o.x o.y difference ∷ []) ∷ [] → question.clauses ≡ problem_below c o (difference +ℤ o.k)
      question_is difference question e =
          e ∙ ap (λ (cs : List (List Literal)). cs ++ (below o.x o.y difference ∷ []) ∷ []) is.clauses
          ∙ ap (λ (d : ℤ). problem_of c ++ (below o.x o.y d ∷ []) ∷ []) (sym (back difference o.k))

      pub least_for : (version : Version) (schedule : List NamedValue) (difference : ℤ) (lemmas : List Lemma) (found : Entry) (question : Problem) → Asks problem o.x o.y difference question → IsShownLeast version problem o schedule difference lemmas found
          → IsProblemFor (Minimize o) c question.points question.clauses found
      least_for version schedule difference lemmas found question asks s =
          subst (λ (e : Entry). IsProblemFor (Minimize o) c question.points question.clauses e) (sym s.shown) (asks.points ∙ is.points, question_is difference question asks.clauses)

      least_in_form : (version : Version) (difference : ℤ) (schedule : List NamedValue) (question : Problem) → question.clauses ≡ problem_below c o (difference +ℤ o.k)
          → (form_laws : FormLaws) (kept : List Lemma) (h : IsRefutation question.points question.clauses kept) (all : All (LemmaIsOver question.points) kept)
          → IsInForm version (Minimize o) c (Best (difference +ℤ o.k) schedule (map (formed version question.clauses) kept))
      least_in_form One difference schedule question e form_laws kept h all = tt
      least_in_form Two difference schedule question e form_laws kept h all =
          subst (λ (cs : List (List Literal)). All (IsShort cs) (map (formed Two question.clauses) kept)) e (shown_short form_laws question kept h all)

      minimum_fits : (difference : ℤ) → IsWithinLimit difference → IsObjectiveOf c asked.0 o → WholeFits (difference +ℤ o.k)
      minimum_fits difference within objective_of =
          let low = within.low in
          let high = within.high in
          let least = objective_of.low in
          let most = objective_of.high in
          (omega (arith, ints, low, least), omega (arith, ints, high, most))

      pub least_decision : (form_laws : FormLaws) (version : Version) (values : List ℤ) (schedule : List NamedValue) (difference : ℤ) (lemmas : List Lemma) (found : Entry)
          → answer.IsLeast problem o.x o.y values difference lemmas → schedule ≡ restricted (sorts_of c.declared) values → AreWithinLimit schedule → IsShownLeast version problem o schedule difference lemmas found
          → IsDecision version (Minimize o) x c found None
      least_decision form_laws version values schedule difference lemmas found h e within s =
          let m : ℤ = difference +ℤ o.k in
          let question = s.question in
          let kept = s.kept in
          let refuted = s.is_kept.refutes question.points question.clauses (refuted_as problem.points question.points _ question.clauses lemmas (sym s.asks.points) (sym s.asks.clauses) h.refuted) in
          let over = s.is_kept.over question.points (subst (λ (n : ℕ). All (LemmaIsOver n) lemmas) (sym s.asks.points) h.over) in
          let entry : List Lemma = map (formed version question.clauses) kept in
          let clauses = question_is difference question s.asks.clauses in
          let satisfies = solution_satisfies values schedule h.solution e in
          let value = value_restricted laws c context x asked.0 o asked.1 asked.2 values m (h.solution.count ∙ is.points) (solution_satisfies values (restricted (sorts_of c.declared) values) h.solution refl).0 (ap (λ (d : ℤ). d +ℤ o.k) h.attained) in
          let right : IsLeast c x o m schedule entry = record {
            satisfies = satisfies;
            attained = subst (λ (named : List NamedValue). HasValue c named (minimized x) m) (sym e) value;
            within = subst (λ (d : ℤ). IsWithinLimit d) (sym (back difference o.k)) h.within;
            refuted = refuted_as question.points (points_of c) question.clauses (problem_below c o m) entry (s.asks.points ∙ is.points) clauses (shown_stays form_laws question kept refuted over version);
          } in
          let decides : Decides version (Minimize o) x c (Best m schedule entry) = record {
            right = record {
              right = right;
              fits = (minimum_fits difference h.within asked.2, within, shown_within form_laws question kept refuted over version s.is_kept.few_clauses s.is_kept.few);
              form = least_in_form version difference schedule question clauses form_laws kept refuted over;
            };
            so = right_is_so laws c context (Minimize o) x (Best m schedule entry) asked right;
          } in
          decision_as version (Minimize o) x (Best m schedule entry) found None s.shown
          (with_schedule c version (Minimize o) x (Best m schedule entry) schedule None decides refl refl satisfies within)

      -- ---- no least value

      unbounded_in_form : (version : Version) (values : List ℤ) (set : List ℕ) → IsInForm version (Minimize o) c (Unbounded values set)
      unbounded_in_form One values set = tt
      unbounded_in_form Two values set = tt

      value_fits : (v : ℤ) → IsInRange v → WholeFits v
      value_fits v range =
          let low = range.low in
          let high = range.high in
          (omega (arith, ints, low), omega (arith, ints, high))

      pub unbounded_decision : (version : Version) (values : List ℤ) (set : List ℕ) (schedule : List NamedValue) (found : Entry)
          → answer.IsUnbounded problem o.x o.y values set → schedule ≡ restricted (sorts_of c.declared) values → AreWithinLimit schedule → found ≡ Unbounded values set
          → IsDecision version (Minimize o) x c found (Some schedule)
      unbounded_decision version values set schedule found h e within is_found =
          let few = problem.few in
          let right : IsUnbounded c o values set = record {
            problem = problem;
            is_problem = is;
            model = record { count = h.solution.count; holds = h.solution.holds };
            free = h.free;
          } in
          let decides : Decides version (Minimize o) x c (Unbounded values set) = record {
            right = record {
              right = right;
              fits = record {
                all_fit = All-weaker IsInRange WholeFits value_fits values h.solution.range;
                below = All-weaker (λ (p : ℕ). p < problem.points) (λ (p : ℕ). p < 2 ^ 32) (λ p lt. omega (arith, lt, few)) set h.free.among;
                ascending = h.free.ascending;
              };
              form = unbounded_in_form version values set;
            };
            so = right_is_so laws c context (Minimize o) x (Unbounded values set) asked right;
          } in
          decision_as version (Minimize o) x (Unbounded values set) found (Some schedule) is_found
          (with_schedule c version (Minimize o) x (Unbounded values set) schedule (Some schedule) decides (ap Some e) (ap Some (sym e)) (solution_satisfies values schedule h.solution e) within)
