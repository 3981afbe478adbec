-- A converted entry decides its question.
use Rattle.std.proofs.Common.{arith, refl, sym, ap, subst, ◌∙◌, ◌≡◌, ◌+◌, ◌==◌, ◌^◌, ℕ, ◌<◌, List, [], ◌∷◌, ◌++◌, length, Option, Some, None, Result, Ok, Err, ℤ}
use Rattle.std.specs.Prelude.{All, option_map}
use Rattle.smt_sexpr.specs.Tree.{Sexpr}
use Rattle.stn_core.specs.declared.literal.Literal.{Literal}
use Rattle.stn_core.specs.declared.named.NamedValue.{NamedValue}
use Rattle.stn_core.specs.declared.problem.Problem.{Problem}
use Rattle.stn_core.specs.Named.{AreWithinLimit}
use Rattle.stn_core.specs.Problem.{ClauseHolds, ProblemHolds}
use Rattle.refute_tree.specs.declared.lemma.Lemma.{Lemma}
use Rattle.best_values.specs.Bests.{ClauseIsKept, IsFreeSet}
use Rattle.cert_text.specs.declared.entry.Version.TheVariants.{One}
use Rattle.cert_text.specs.declared.entry.Entry.{Entry}
use Rattle.cert_text.specs.declared.entry.Entry.TheVariants.{Sat, Unsat, Best, Unbounded}
use Rattle.cert_text.specs.declared.entry.FileEntry.{FileEntry}
use Rattle.cert_text.specs.declared.entry.FileEntry.TheVariants as file
use Rattle.cert_text.specs.Limits.{WholeFits, UnboundedWithin, EntryFits}
use Rattle.kept_lemmas.specs.declared.item.Item.{Item}
use Rattle.kept_lemmas.specs.Entries.{Placed}
use Rattle.clause_form.specs.Laws.{PointsGrow}
use Rattle.idl_term.specs.Contexts.{Context}
use Rattle.idl_term.specs.Values.{value}
use Rattle.smt_script.specs.code.Kept.{Kept}
use Rattle.smt_script.specs.declared.objective.Objective.{Objective}
use Rattle.smt_script.specs.declared.state.Effect.TheVariants.{Ask}
use Rattle.smt_script.specs.declared.state.Question.{Question}
use Rattle.smt_script.specs.declared.state.Question.TheVariants.{CheckSat, Minimize}
use Rattle.smt_script.specs.Laws.{MinimizedIsWorth}
use Rattle.smt_script.specs.States.{State}
use Rattle.dtp_entry.specs.Entries.{points_of, problem_of, problem_below, IsProblemOf, IsLeast, IsRight}
use Rattle.dtp_entry.specs.Laws.{RightIsSo}
use Rattle.dtp_entry.specs.Transcripts.{Decides}
use Rattle.dtp_check.specs.declared.judgement.EntryFlaw.{EntryFlaw}
use Rattle.dtp_check.specs.declared.judgement.EntryFlaw.TheVariants.{Flawed}
use Rattle.dtp_check.specs.Judged.{first_of_two, values_flaw, refutation_flaw, least_flaw, at_check_sat, entry_flaw}
use Rattle.dtp_check.specs.declared.earlier.Earlier.{Earlier}
use Rattle.dtp_check.specs.code.Asked.{IsAsked, IsLeastFound, asked_clauses}
use Rattle.dtp_check.specs.code.Earlier.{Holds}
use Rattle.dtp_check.proofs.FreeSets.{set_right}
use Rattle.dtp_check.proofs.Leasts.{none_of_two, least_right}
use Rattle.dtp_check.proofs.Truths.{values_right as satisfied}
use Rattle.dtp_convert.specs.code.Shown.{AreItemsShown, IsAdded, IsShown}

-- ---- values without a flaw

values_right : (question : Question) (x : Sexpr) (c : Context) (values : List NamedValue) → at_check_sat question (values_flaw c values) ≡ None → IsRight question x c (Sat values)
values_right CheckSat x c values e = satisfied c values e
values_right (Minimize o) x c values e = absurd cc

-- ---- items over the problem that the code has

pub items_over : (before : List Placed) (points p : ℕ) (clauses q : List (List Literal)) (items : List Item) (found : Result (List Lemma) EntryFlaw) → points ≡ p → clauses ≡ q → AreItemsShown before points clauses items found → AreItemsShown before p q items found
items_over before points p clauses q items found e f h =
    subst (λ (n : ℕ). AreItemsShown before n q items found) e (subst (λ (cs : List (List Literal)). AreItemsShown before points cs items found) f h)

-- and what is held of them
pub held_over : (later : Earlier) (before : List Placed) (points p : ℕ) (clauses q : List (List Literal)) (items : List Item) → points ≡ p → clauses ≡ q
    → Holds later (before ++ record { points = points; clauses = clauses; items = items } ∷ []) → Holds later (before ++ record { points = p; clauses = q; items = items } ∷ [])
held_over later before points p clauses q items e f h =
    let last : ℕ → List (List Literal) → Placed = λ n cs. record { points = n; clauses = cs; items = items } in
    subst (λ (n : ℕ). Holds later (before ++ last n q ∷ [])) e (subst (λ (cs : List (List Literal)). Holds later (before ++ last points cs ∷ [])) f h)

-- ---- values and a set without a flaw

clause_holds : (values : List ℤ) (set : List ℕ) (clause : List Literal) → ClauseIsKept values set clause → ClauseHolds values clause
clause_holds values set clause (l, there, kept) = (l, there, kept.0)

all_hold : (values : List ℤ) (set : List ℕ) (clauses : List (List Literal)) → All (ClauseIsKept values set) clauses → ProblemHolds values clauses
all_hold values set clauses all = λ k d lt. clause_holds values set _ (all k d lt)

unbounded_right : (before : List Placed) (question : Question) (x : Sexpr) (c : Context) (values : List ℤ) (set : List ℕ) (problem : Problem) → IsProblemOf c problem → UnboundedWithin (2 ^ 32) values set
    → entry_flaw before question x c (file.Unbounded values set) ≡ None → IsRight question x c (Unbounded values set)
unbounded_right before CheckSat x c values set problem is within e = absurd cc
unbounded_right before (Minimize o) x c values set problem is within e =
    let right = set_right o (points_of c) (problem_of c) values set e in
    let kept : All (ClauseIsKept values set) problem.clauses = subst (All (ClauseIsKept values set)) (sym is.clauses) right.kept in
    let free : IsFreeSet problem o.x o.y values set = record {
      among = subst (λ (n : ℕ). All (λ (p : ℕ). p < n) set) (sym is.points) right.within;
      ascending = within.ascending;
      x_in = right.x_in;
      y_out = right.y_out;
      kept = kept;
    } in
    record {
      problem = problem;
      is_problem = is;
      model = record { count = right.count ∙ sym is.points; holds = all_hold values set problem.clauses kept };
      free = free;
    }

-- ---- what is shown

module _ (law : RightIsSo) (kept : Kept) (question : Question) (x : Sexpr) (s : State) (asked : IsAsked kept question x s) (before : List Placed) where
  -- a right entry within the limits of the first version decides the question
  decided : (entry : Entry) → IsRight question x s.context entry → EntryFits One entry → Decides One question x s.context entry
  decided entry right fits = record {
    right = record { right = right; fits = fits; form = tt };
    so = law asked.before x (record { state = s; effect = Ask question }) question entry asked.made asked.asks refl right;
  }

  pub values_shown : (values shown : List NamedValue) → entry_flaw before question x s.context (file.Sat values) ≡ None → shown ≡ values → AreWithinLimit values → IsShown before question x s.context (file.Sat values) (Ok (Sat shown))
  values_shown values shown none same within =
      let done : IsShown before question x s.context (file.Sat values) (Ok (Sat values)) = (none, (decided (Sat values) (values_right question x s.context values none) within, refl, refl)) in
      subst (λ (vs : List NamedValue). IsShown before question x s.context (file.Sat values) (Ok (Sat vs))) (sym same) done

  pub items_shown : (items : List Item) (lemmas : List Lemma) → AreItemsShown before (points_of s.context) (problem_of s.context) items (Ok lemmas) → IsShown before question x s.context (file.Unsat items) (Ok (Unsat lemmas))
  items_shown items lemmas h = (
    ap (option_map Flawed) h.0,
    (decided (Unsat lemmas) h.1.refutes h.1.within, refl, (lemmas, refl, h.1.stay)),
  )

  pub set_shown : (values : List ℤ) (set : List ℕ) (shown : Entry) (problem : Problem) → IsProblemOf s.context problem → UnboundedWithin (2 ^ 32) values set
      → entry_flaw before question x s.context (file.Unbounded values set) ≡ None → shown ≡ Unbounded values set → IsShown before question x s.context (file.Unbounded values set) (Ok shown)
  set_shown values set shown problem is within none same =
      let right = unbounded_right before question x s.context values set problem is within none in
      let done : IsShown before question x s.context (file.Unbounded values set) (Ok (Unbounded values set)) = (none, (decided (Unbounded values set) right within, refl, refl)) in
      subst (λ (e : Entry). IsShown before question x s.context (file.Unbounded values set) (Ok e)) (sym same) done

module _ (law : RightIsSo) (kept : Kept) (o : Objective) (x : Sexpr) (s : State) (asked : IsAsked kept (Minimize o) x s) (before : List Placed) (m : ℤ) (values : List NamedValue) (items : List Item) where
  -- a value, or values, with a flaw
  pub least_flawed : (flaw : EntryFlaw) → IsLeastFound x o s.context m values (Err flaw) → IsShown before (Minimize o) x s.context (file.Best m values items) (Err flaw)
  least_flawed flaw e = ap (λ (f : Option EntryFlaw). first_of_two f (refutation_flaw before s.context (problem_below s.context o m) items)) e

  module _ (d : ℤ) (least : IsLeastFound x o s.context m values (Ok d)) where
    below : (found : Result (List Lemma) EntryFlaw) → AreItemsShown before (points_of s.context) (asked_clauses s.context o d) items found → AreItemsShown before (points_of s.context) (problem_below s.context o m) items found
    below found h = subst (λ (e : ℤ). AreItemsShown before (points_of s.context) (asked_clauses s.context o e) items found) least.1 h

    pub best_flawed : (flaw : EntryFlaw) → AreItemsShown before (points_of s.context) (asked_clauses s.context o d) items (Err flaw) → IsShown before (Minimize o) x s.context (file.Best m values items) (Err flaw)
    best_flawed flaw h =
        ap (λ (f : Option EntryFlaw). first_of_two f (refutation_flaw before s.context (problem_below s.context o m) items)) least.0 ∙ below (Err flaw) h

    pub best_shown : (shown : List NamedValue) (lemmas : List Lemma) → AreItemsShown before (points_of s.context) (asked_clauses s.context o d) items (Ok lemmas) → WholeFits m → shown ≡ values → AreWithinLimit values
        → IsShown before (Minimize o) x s.context (file.Best m values items) (Ok (Best m shown lemmas))
    best_shown shown lemmas h fits same within =
        let c = s.context in
        let here = below (Ok lemmas) h in
        let none : entry_flaw before (Minimize o) x c (file.Best m values items) ≡ None = none_of_two (least_flaw x o c m values) (refutation_flaw before c (problem_below c o m) items) least.0 (ap (option_map Flawed) here.0) in
        let found = least_right x o c m values least.0 in
        let right : IsLeast c x o m values lemmas = record {
          satisfies = satisfied c values found.values_none;
          attained = found.attains;
          within = found.in_limit;
          refuted = here.1.refutes;
        } in
        let done : IsShown before (Minimize o) x c (file.Best m values items) (Ok (Best m values lemmas)) = (
          none,
          (decided law kept (Minimize o) x s asked before (Best m values lemmas) right (fits, within, here.1.within), refl, (lemmas, refl, here.1.stay)),
        ) in
        subst (λ (vs : List NamedValue). IsShown before (Minimize o) x c (file.Best m values items) (Ok (Best m vs lemmas))) (sym same) done

-- the points of an objective that was asked are points of the problem
pub points_below : PointsGrow → MinimizedIsWorth → (kept : Kept) (o : Objective) (x : Sexpr) (s : State) → IsAsked kept (Minimize o) x s → (points : ℕ) → points ≡ points_of s.context → (o.x < points) × (o.y < points)
points_below grow worth kept o x s asked points e =
    let found = worth asked.before x (record { state = s; effect = Ask (Minimize o) }) o asked.made asked.asks refl in
    let some = grow (length s.context.declared + 1) s.context.nodes s.context.roots in
    let first = found.2.x_below in
    let second = found.2.y_below in
    (omega (arith, e, some, first), omega (arith, e, some, second))

-- an entry that was added to those before it
pub added : (placed : List Placed) (question : Question) (x : Sexpr) (c : Context) (entry : FileEntry) (found : Result Entry EntryFlaw) (shown : Entry) (first now : List Entry) → found ≡ Ok shown → IsShown placed question x c entry found → now ≡ first ++ shown ∷ []
    → IsAdded first now placed question x c entry
added placed question x c entry found shown first now e h more =
    let w : IsShown placed question x c entry (Ok shown) = subst (λ (r : Result Entry EntryFlaw). IsShown placed question x c entry r) e h in
    (shown, w.1, more)

-- what is wrong with an entry, by what it came to
module _ (placed : List Placed) (question : Question) (x : Sexpr) (c : Context) (entry : FileEntry) (found : Result Entry EntryFlaw) (h : IsShown placed question x c entry found) where
  pub without_flaw : (shown : Entry) → found ≡ Ok shown → None ≡ entry_flaw placed question x c entry
  without_flaw shown e =
      let w : IsShown placed question x c entry (Ok shown) = subst (λ (r : Result Entry EntryFlaw). IsShown placed question x c entry r) e h in
      sym w.0

  pub with_flaw : (flaw : EntryFlaw) → found ≡ Err flaw → Some flaw ≡ entry_flaw placed question x c entry
  with_flaw flaw e =
      let w : IsShown placed question x c entry (Err flaw) = subst (λ (r : Result Entry EntryFlaw). IsShown placed question x c entry r) e h in
      sym w
