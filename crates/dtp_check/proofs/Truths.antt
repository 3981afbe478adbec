-- What is accepted is so.
use Rattle.std.proofs.Common.{refl, sym, ap, subst, arith, inl, inr, ◌∙◌, ◌≡◌, ◌≤◌, ◌+◌, ◌==◌, ℕ, ℤ, get_or, List, [], ◌∷◌, ◌++◌, length, Bool, true, false, Option, Some, None, Result, Ok, Err}
use Rattle.std.specs.Prelude.{All, if◌then◌else◌, option_map}
use Rattle.std.specs.List.{AllByRecursion}
use Rattle.std.proofs.lemmas.Bool.{eqb-true}
use Rattle.smt_sexpr.specs.Tree.{Sexpr}
use Rattle.smt_sexpr.specs.Commands.{ended}
use Rattle.stn_core.specs.declared.literal.Literal.{Literal}
use Rattle.stn_core.specs.declared.named.NamedValue.{NamedValue}
use Rattle.stn_core.specs.declared.problem.Problem.{Problem}
use Rattle.stn_core.specs.Literal.{IsOver}
use Rattle.stn_core.specs.Problem.{ClauseHolds, ProblemHolds}
use Rattle.best_values.specs.Bests.{ClauseIsKept}
use Rattle.cert_text.specs.declared.entry.FileEntry.{FileEntry}
use Rattle.cert_text.specs.declared.entry.FileEntry.TheVariants as file
use Rattle.cert_text.specs.declared.entry.Entry.TheVariants.{Unbounded}
use Rattle.cert_check.specs.declared.flaw.Flaw.{Flaw}
use Rattle.kept_lemmas.specs.Entries.{Placed, shelf_of, AreEntriesRight, AreRight}
use Rattle.kept_lemmas.specs.Laws.{ItemsLaw, EntriesGoOn}
use Rattle.lemma_shelf.specs.ItemFlaws.{items_flaw}
use Rattle.lemma_shelf.specs.Laws.{ItemsFlawLaw}
use Rattle.cert_read.specs.Certificates.{CertificateOutcome, certificate, no_certificate}
use Rattle.clause_form.specs.ClauseForm as clause_form
use Rattle.clause_form.specs.Laws.{LiteralsAreOver, PointsAreFew, PointsGrow}
use Rattle.idl_node.specs.Limits.{nodes_limit}
use Rattle.idl_term.specs.Contexts.{Context, IsContext, environment}
use Rattle.idl_term.specs.Laws.{ContextsHaveScopes, RootsAreNodes}
use Rattle.idl_term.specs.Limits.{names_limit}
use Rattle.idl_term.specs.Scopes.{sorts_of}
use Rattle.idl_term.specs.Values.{Value, whole, truth, nothing, Named, value}
use Rattle.smt_script.specs.declared.error.Refusal.{Refusal}
use Rattle.smt_script.specs.declared.state.Effect.{Effect}
use Rattle.smt_script.specs.declared.state.Effect.TheVariants.{Ask, Exit, Tell}
use Rattle.smt_script.specs.declared.objective.Objective.{Objective}
use Rattle.smt_script.specs.declared.state.Question.{Question}
use Rattle.smt_script.specs.declared.state.Question.TheVariants.{CheckSat, Minimize}
use Rattle.smt_script.specs.Commands.{minimized}
use Rattle.smt_script.specs.Objectives.{IsObjectiveOf}
use Rattle.smt_script.specs.States.{State, Step, IsMadeState, after}
use Rattle.smt_answer.specs.declared.kind.Kind.{Kind}
use Rattle.script_walk.specs.Questions.{refusal_of}
use Rattle.script_walk.specs.Course.{Place, start_with, Turn, behind_told, behind_answer, asked, taken, by_effect, by_command, course, AreAnswered}
use Rattle.dtp_entry.specs.Bests.{Satisfies, IsBestFor, HasNoBest}
use Rattle.dtp_entry.specs.Entries.{points_of, problem_of, problem_below, IsProblemOf, IsUnbounded}
use Rattle.dtp_entry.specs.code.Asking.{IsAskedBy}
use Rattle.dtp_entry.proofs.Bests.{Laws, none_less, right_is_so, asked_by}
use Rattle.smt_script.specs.Laws.{StartMade, StepMade, SettledMade, MinimizedIsWorth}
use Rattle.dtp_entry.proofs.Verdicts.{unsolvable_unsatisfiable, sorts_count}
use Rattle.dtp_check.specs.declared.judgement.EntryFlaw.{EntryFlaw}
use Rattle.dtp_check.specs.declared.judgement.EntryFlaw.TheVariants.{WrongKind, WrongCount, WrongSort, FalseAssertion, Flawed}
use Rattle.dtp_check.specs.declared.judgement.Judgement.{Judgement}
use Rattle.dtp_check.specs.declared.judgement.Judgement.TheVariants.{Accepted}
use Rattle.dtp_check.specs.declared.script_part.PartEnd.{PartEnd}
use Rattle.dtp_check.specs.declared.script_part.PartEnd.TheVariants as part
use Rattle.kept_lemmas.specs.declared.item.Item.{Item}
use Rattle.dtp_check.specs.MinimizeFlaws.{unbounded_flaw}
use Rattle.dtp_check.specs.Judged.{first_of_wrong_sort, is_true, first_false, first_of_two, values_flaw, refutation_flaw, least_flaw, entry_flaw, placed, told_by, surplus_of, judged_entry, judged_turns, judged_with, ScriptPart, CertificateBehind, JudgedPart}
use Rattle.dtp_check.specs.Laws.{NothingFalseIsAccepted}
use Rattle.dtp_check.specs.Told.{Tells, TellsIn, SaysNothingFalse}
use Rattle.dtp_check.proofs.FreeSets.{IsSetRight, set_right, free_set}
use Rattle.dtp_check.proofs.Judging.{are_of_sorts}
use Rattle.dtp_check.proofs.Leasts.{neither, least_right}

-- ---- an entry without a flaw

-- an assertion that is found true has the value true
is_true_of : (v : Value) → is_true v ≡ true → v ≡ truth true
is_true_of (truth b) e = ap truth e
is_true_of (whole n) e = absurd cc
is_true_of nothing e = absurd cc

abbrev AreTrueIn : List Named → List Sexpr → Type 0
AreTrueIn env ts = AllByRecursion (λ (t : Sexpr). value env t ≡ truth true) ts

none_false_by : (env : List Named) (k : ℕ) (t : Sexpr) (ts : List Sexpr) (b : Bool) → is_true (value env t) ≡ b → (if b then first_false env (k + 1) ts else Some k) ≡ None → (first_false env (k + 1) ts ≡ None → AreTrueIn env ts) → AreTrueIn env (t ∷ ts)
none_false_by env k t ts true e f rest = (is_true_of (value env t) e, rest f)
none_false_by env k t ts false e f rest = absurd cc

none_false : (env : List Named) (k : ℕ) (ts : List Sexpr) → first_false env k ts ≡ None → AreTrueIn env ts
none_false env k [] e = tt
none_false env k (t ∷ ts) e = none_false_by env k t ts (is_true (value env t)) refl e (λ f. none_false env (k + 1) ts f)

no_flaws : (a b : Option ℕ) → first_of_two (option_map WrongSort a) (option_map FalseAssertion b) ≡ None → (a ≡ None) × (b ≡ None)
no_flaws None None e = (refl, refl)
no_flaws None (Some k) e = absurd cc
no_flaws (Some k) b e = absurd cc

values_right_by : (c : Context) (values : List NamedValue) (test : Bool) → (length values == length c.declared) ≡ test
    → (if test then first_of_two (option_map WrongSort (first_of_wrong_sort 1 (sorts_of c.declared) values)) (option_map FalseAssertion (first_false (environment c values) 1 c.assertions)) else Some WrongCount) ≡ None → Satisfies c values
values_right_by c values false e f = absurd cc
values_right_by c values true e f =
    let none = no_flaws (first_of_wrong_sort 1 (sorts_of c.declared) values) (first_false (environment c values) 1 c.assertions) f in
    (are_of_sorts 1 (sorts_of c.declared) values (eqb-true _ _ e ∙ sym (sorts_count c.declared)) none.0, none_false (environment c values) 1 c.assertions none.1)

pub values_right : (c : Context) (values : List NamedValue) → values_flaw c values ≡ None → Satisfies c values
values_right c values e = values_right_by c values (length values == length c.declared) refl e

no_flaw : (f : Option Flaw) → option_map Flawed f ≡ None → f ≡ None
no_flaw None e = refl
no_flaw (Some f) e = absurd cc

-- a clause that is kept holds
clause_holds : (values : List ℤ) (set : List ℕ) (clause : List Literal) → ClauseIsKept values set clause → ClauseHolds values clause
clause_holds values set clause h = (h.0, h.1, h.2.0)

-- the clause form of what is asserted is a problem
module _ (c : Context) (context : IsContext c) (scope : ContextsHaveScopes) (roots : RootsAreNodes) (over : LiteralsAreOver) (few : PointsAreFew) (some : PointsGrow) where
  problem_there : (p : Problem) × IsProblemOf c p
  problem_there =
      let within = scope c context in
      let names : length c.declared ≤ names_limit = within.few in
      let nodes : length c.nodes ≤ nodes_limit = within.room in
      let least = some (length c.declared + 1) c.nodes c.roots in
      let most = few (length c.declared + 1) c.nodes c.roots in
      let of_sorts : All (λ (clause : List Literal). All (IsOver (clause_form.points_of (length (sorts_of c.declared) + 1) c.nodes c.roots)) clause) (clause_form.clauses_of (length (sorts_of c.declared) + 1) c.nodes c.roots) =
      over (sorts_of c.declared) c.nodes c.roots within.table (roots c context) in
      let problem : Problem = record {
        points = points_of c;
        clauses = problem_of c;
        some = omega (arith, least);
        few = omega (arith, names, nodes, most);
        over = subst (λ (n : ℕ). All (λ (clause : List Literal). All (IsOver (clause_form.points_of (n + 1) c.nodes c.roots)) clause) (clause_form.clauses_of (n + 1) c.nodes c.roots)) (sorts_count c.declared) of_sorts;
      } in
      (problem, record { points = refl; clauses = refl })

  -- where nothing is wrong with an unbounded entry, it is right with its set in ascending order
  unbounded_by : (o : Objective) (values : List ℤ) (set : List ℕ) (w : (p : Problem) × IsProblemOf c p) → IsSetRight o (points_of c) (problem_of c) values set → (out : List ℕ) × IsUnbounded c o values out
  unbounded_by o values set (problem, is) right =
      let at_points : IsSetRight o problem.points (problem_of c) values set = subst (λ (n : ℕ). IsSetRight o n (problem_of c) values set) (sym is.points) right in
      let here : IsSetRight o problem.points problem.clauses values set = subst (λ (cs : List (List Literal)). IsSetRight o problem.points cs values set) (sym is.clauses) at_points in
      let free = free_set problem o values set here in (
        free.0,
        record {
          problem = problem;
          is_problem = is;
          model = record { count = here.count; holds = λ k d lt. clause_holds values set (get_or problem.clauses k d) (here.kept k d lt) };
          free = free.1;
        },
      )

  pub unbounded_right : (o : Objective) (values : List ℤ) (set : List ℕ) → unbounded_flaw o (points_of c) (problem_of c) values set ≡ None → (out : List ℕ) × IsUnbounded c o values out
  unbounded_right o values set e = unbounded_by o values set problem_there (set_right o (points_of c) (problem_of c) values set e)

module _ (flaws : ItemsFlawLaw) (refutes : ItemsLaw) (goes_on : EntriesGoOn) (laws : Laws) (over : LiteralsAreOver) (few : PointsAreFew) (worth : MinimizedIsWorth) (step_made : StepMade) (settled_made : SettledMade) where
  items_right : (before : List Placed) (c : Context) (clauses : List (List Literal)) (items : List Item) → refutation_flaw before c clauses items ≡ None → AreRight (shelf_of before) (points_of c) clauses items
  items_right before c clauses items e =
      let shelf = shelf_of before in
      (flaws shelf (points_of c) clauses items).0 (no_flaw (items_flaw shelf (points_of c) clauses items) e)

  -- items without a flaw behind right entries: the problem holds on no values
  never_holds : (before : List Placed) (c : Context) (clauses : List (List Literal)) (items : List Item) → AreEntriesRight before → refutation_flaw before c clauses items ≡ None → (values : List ℤ) → ProblemHolds values clauses → ⊥
  never_holds before c clauses items right e values = refutes before (points_of c) clauses items right (items_right before c clauses items e) values

  best_right : (before : List Placed) (c : Context) (x t : Sexpr) (o : Objective) (m : ℤ) (values : List NamedValue) (items : List Item) → AreEntriesRight before → IsContext c → minimized x ≡ Some t → IsObjectiveOf c t o
      → first_of_two (least_flaw x o c m values) (refutation_flaw before c (problem_below c o m) items) ≡ None → IsBestFor c (minimized x) m
  best_right before c x t o m values items right context is asked e =
      let w = neither (least_flaw x o c m values) (refutation_flaw before c (problem_below c o m) items) e in
      let least = least_right x o c m values w.0 in
      record {
        schedule = values;
        satisfies = values_right c values least.values_none;
        attained = least.attains;
        least = none_less laws c context x t o is asked m (never_holds before c (problem_below c o m) items right w.1);
      }

  unbounded_so : (c : Context) (x : Sexpr) (o : Objective) (values : List ℤ) (set : List ℕ) → IsContext c → IsAskedBy (Minimize o) x c → unbounded_flaw o (points_of c) (problem_of c) values set ≡ None → HasNoBest c (minimized x)
  unbounded_so c x o values set context asked e =
      let w = unbounded_right c context laws.scope laws.roots over few laws.some o values set e in
      right_is_so laws c context (Minimize o) x (Unbounded values w.0) asked w.1

  wrong_kind : Some WrongKind ≡ None → ⊥
  wrong_kind e = absurd cc

  entry_right : (before : List Placed) (question : Question) (x : Sexpr) (c : Context) (entry : FileEntry) → AreEntriesRight before → IsContext c → IsAskedBy question x c → entry_flaw before question x c entry ≡ None → Tells x c entry
  entry_right before CheckSat x c (file.Sat values) right made asked e = let w = values_right c values e in (values, w.0, w.1)
  entry_right before (Minimize o) x c (file.Sat values) right made asked e = absurd (wrong_kind e)
  entry_right before question x c (file.Unsat items) right made asked e =
      unsolvable_unsatisfiable c made laws.scope laws.roots laws.exact laws.holds (never_holds before c (problem_of c) items right e)
  entry_right before CheckSat x c (file.Best m values items) right made asked e = absurd (wrong_kind e)
  entry_right before (Minimize o) x c (file.Best m values items) right made asked e = best_right before c x asked.0 o m values items right made asked.1 asked.2 e
  entry_right before CheckSat x c (file.Unbounded values set) right made asked e = absurd (wrong_kind e)
  entry_right before (Minimize o) x c (file.Unbounded values set) right made asked e = unbounded_so c x o values set made asked e

  -- such an entry is right behind those that are
  right_behind : (before : List Placed) (question : Question) (x : Sexpr) (c : Context) (entry : FileEntry) → AreEntriesRight before → entry_flaw before question x c entry ≡ None → AreEntriesRight (before ++ placed question c entry ∷ [])
  right_behind before question x c (file.Sat values) right e = goes_on before (placed question c (file.Sat values)) right (inl refl)
  right_behind before question x c (file.Unsat items) right e = goes_on before (placed question c (file.Unsat items)) right (inr (items_right before c (problem_of c) items e))
  right_behind before CheckSat x c (file.Best m values items) right e = absurd (wrong_kind e)
  right_behind before (Minimize o) x c (file.Best m values items) right e =
      let w = neither (least_flaw x o c m values) (refutation_flaw before c (problem_below c o m) items) e in
      goes_on before (placed (Minimize o) c (file.Best m values items)) right (inr (items_right before c (problem_below c o m) items w.1))
  right_behind before question x c (file.Unbounded values set) right e = goes_on before (placed question c (file.Unbounded values set)) right (inl refl)

  -- ---- the commands

  none_left : (n : ℕ) (entries : List FileEntry) → surplus_of n entries ≡ Accepted → entries ≡ []
  none_left n [] e = refl
  none_left n (entry ∷ entries) e = absurd cc

  accepted_entry : (n : ℕ) (f : Option EntryFlaw) (others : Judgement) → judged_entry n f others ≡ Accepted → (f ≡ None) × (others ≡ Accepted)
  accepted_entry n None others e = (refl, e)
  accepted_entry n (Some flaw) others e = absurd cc

  abbrev Make : Type 0
  Make = Place FileEntry → List (Turn FileEntry)

  -- what follows says what is so, from each place
  abbrev FollowsSo : Make → Type 0
  FollowsSo make = (q : Place FileEntry) (sofar : List Placed) → IsMadeState q.state → AreEntriesRight sofar → judged_turns sofar (make q) ≡ Accepted → AreAnswered TellsIn (make q) q.left

  module _ (p : Place FileEntry) (x : Sexpr) (before : List Placed) (right : AreEntriesRight before) (make : Make) (rest : FollowsSo make) where
    told_asked : (s : State) (question : Question) (left : List FileEntry) → IsMadeState s → IsAskedBy question x s.context → judged_turns before (asked told_by p s question x left make) ≡ Accepted → AreAnswered TellsIn (asked told_by p s question x left make) left
    told_asked s question [] made by e = absurd cc
    told_asked s question (entry ∷ left) made by e =
        let q = behind_answer told_by p s entry left in
        let sofar = before ++ placed question s.context entry ∷ [] in
        let w = accepted_entry (length before + 1) (entry_flaw before question x s.context entry) (judged_turns sofar (make q)) e in
        let told = rest q sofar (settled_made s (told_by entry) made) (right_behind before question x s.context entry right w.0) w.1 in
        record { fit = (entry_right before question x s.context entry right made.context by w.0, told.fit); over = told.over; used = ap (λ (es : List FileEntry). entry ∷ es) told.used }

    told_taken : (s : State) (question : Question) (why : Option Kind) → IsMadeState s → IsAskedBy question x s.context → judged_turns before (taken told_by p s question x why make) ≡ Accepted → AreAnswered TellsIn (taken told_by p s question x why make) p.left
    told_taken s question (Some kind) made by e = absurd cc
    told_taken s question None made by e = told_asked s question p.left made by e

    told_effect : (effect : Effect) (s : State) → IsMadeState p.state → after p.state x ≡ Ok (record { state = s; effect = effect }) → IsMadeState s → judged_turns before (by_effect told_by p s x effect make) ≡ Accepted → AreAnswered TellsIn (by_effect told_by p s x effect make) p.left
    told_effect (Tell notice) s start is made e =
        let told = rest (behind_told p s) before made right e in
        record { fit = (tt, told.fit); over = told.over; used = told.used }
    told_effect (Ask question) s start is made e = told_taken s question (refusal_of question s x) made (asked_by worth p.state x (record { state = s; effect = Ask question }) question start is refl) e
    told_effect Exit s start is made e = record { fit = (tt, tt); over = refl; used = sym (none_left (length before + 1) p.left e) }

    told_after : (found : Result Step Refusal) → after p.state x ≡ found → IsMadeState p.state → judged_turns before (by_command told_by p x found make) ≡ Accepted → AreAnswered TellsIn (by_command told_by p x found make) p.left
    told_after (Err why) is made e = absurd cc
    told_after (Ok step) is made e = told_effect step.effect step.state made is (step_made p.state x step made is) e

  told : (xs : List Sexpr) (p : Place FileEntry) (before : List Placed) → IsMadeState p.state → AreEntriesRight before → judged_turns before (course told_by p xs ended) ≡ Accepted → AreAnswered TellsIn (course told_by p xs ended) p.left
  unfolding course
  told [] p before made right e = record { fit = (tt, tt); over = refl; used = sym (none_left (length before + 1) p.left e) }
  told (x ∷ xs) p before made right e =
      told_after p x before right (λ next. course told_by next xs ended) (λ q sofar there of_all g. told xs q sofar there of_all g) (after p.state x) refl made e

  -- ---- the source

  none_before : AreEntriesRight []
  none_before = record { each = λ k p e. absurd cc }

  module _ (start_made : StartMade) where
    told_with : (bytes : List ℕ) (xs : List Sexpr) (end : PartEnd) (behind : ℕ) (outcome : CertificateOutcome) → ScriptPart bytes 0 xs end behind → CertificateBehind bytes end behind outcome → Accepted ≡ judged_with xs outcome → SaysNothingFalse bytes
    told_with bytes xs end behind (certificate version entries) p is e =
        record { commands = xs; end = end; behind = behind; version = version; entries = entries; script = p; stands = is; told = told xs (start_with entries) [] start_made none_before (sym e) }
    told_with bytes xs end behind (no_certificate why) p is e = absurd cc

    told_part : (bytes : List ℕ) (xs : List Sexpr) (end : PartEnd) (behind : ℕ) → ScriptPart bytes 0 xs end behind → JudgedPart bytes xs end behind Accepted → SaysNothingFalse bytes
    told_part bytes xs part.Exit behind p j = told_with bytes xs part.Exit behind j.0 p j.1 j.2
    told_part bytes xs (part.Header version) behind p j = told_with bytes xs (part.Header version) behind j.0 p j.1 j.2
    told_part bytes xs part.End behind p j = told_with bytes xs part.End behind j.0 p j.1 j.2
    told_part bytes xs (part.Unread kind) behind p j = absurd cc

    pub accepted_told : NothingFalseIsAccepted
    accepted_told bytes j = told_part bytes j.commands j.end j.behind j.script j.judged_part
