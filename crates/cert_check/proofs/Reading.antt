-- The steps have no flaw exactly where they are one tree for each case that is to be read, in their order.
use Rattle.std.proofs.Common.{◌≡◌, ℕ, suc, List, [], ◌∷◌, ◌++◌, Option, Some, None, Bool, true, false, All, refl, sym, ap, ◌∙◌, subst, map}
use Rattle.std.specs.Prelude.{slice_get, Result, Ok, Err, if◌then◌else◌, IsTrue, ◌↔◌}
use Rattle.std.specs.List.{list_all}
use Rattle.std.proofs.lemmas.Bool.{both_ways, false_from_ne_true}
use Rattle.std.proofs.lemmas.List.Elements.{All-nil, All-cons, All-head, All-tail}
use Rattle.stn_core.specs.declared.literal.Literal.{Literal}
use Rattle.stn_core.specs.Literal.{negation_of}
use Rattle.stn_core.specs.Cycle.{IsNegativeCycle}
use Rattle.stn_core.specs.Answer.{IsCycleAmong}
use Rattle.refute_tree.specs.declared.step.Step.{Step}
use Rattle.refute_tree.specs.declared.step.Step.TheVariants.{Cycle, Input, Lemma as Earlier, Clash, Either}
use Rattle.refute_tree.specs.declared.lemma.Lemma.{Lemma}
use Rattle.refute_tree.specs.Trees.{clause_of, Tree, Forest, IsDenied, leaf, clash, cases, none, more, IsOnPoints, NamesPoints, IsRefuted}
use Rattle.cert_check.specs.declared.flaw.FlawKind.{FlawKind}
use Rattle.cert_check.specs.declared.flaw.FlawKind.TheVariants.{NoSuchPoint, NotAssumed, NotACycle, NotDenied}
use Rattle.cert_check.specs.Tests.{is_assumed, is_on_points, is_negative_cycle}
use Rattle.cert_check.specs.Flaws.{cases_of, cases_in, opened_by_cycle, opened_by_clash, opened, flaw_at, after_step, steps_flaw, lemma_flaw}
use Rattle.cert_check.proofs.Decided.{all_assumed_decides, is_on_points_decides, all_on_points_decides, is_negative_cycle_decides}

-- the test of a leaf
abbrev pub leaf_opened : Bool → Bool → Result (List (List Literal)) FlawKind
leaf_opened assumed negative = if assumed then (if negative then Ok [] else Err NotACycle) else Err NotAssumed

-- the test of a clash
abbrev pub clash_opened : Bool → Result (List (List Literal)) FlawKind
clash_opened denied = if denied then Ok [] else Err NotDenied

-- what the code finds of a leaf
pub leaf_passes : (assumed cycle : List Literal) (a b : Bool) → a ≡ list_all (is_assumed assumed) cycle → (IsTrue b ↔ IsNegativeCycle cycle) → a ≡ true → b ≡ true → opened_by_cycle assumed cycle ≡ Ok []
leaf_passes assumed cycle a b all exact e f =
    ap (λ (x : Bool). leaf_opened x (is_negative_cycle cycle)) (sym all ∙ e) ∙ ap (leaf_opened true) ((is_negative_cycle_decides cycle).1 (exact.0 f))

pub leaf_no_cycle : (assumed cycle : List Literal) (a b : Bool) → a ≡ list_all (is_assumed assumed) cycle → (IsTrue b ↔ IsNegativeCycle cycle) → a ≡ true → b ≡ false → opened_by_cycle assumed cycle ≡ Err NotACycle
leaf_no_cycle assumed cycle a b all exact e f =
    let t = is_negative_cycle_decides cycle in
    let no : is_negative_cycle cycle ≡ false = false_from_ne_true (is_negative_cycle cycle) (λ h. (let g = exact.1 (t.0 h) in both_ways b f g)) in
    ap (λ (x : Bool). leaf_opened x (is_negative_cycle cycle)) (sym all ∙ e) ∙ ap (leaf_opened true) no

module _ (points : ℕ) (clauses earlier : List (List Literal)) where
  -- the steps are one tree for each case, in order
  abbrev pub Reads : List (List Literal) → List Step → Type 0
  Reads [] steps = steps ≡ []
  Reads (assumed ∷ others) steps = (rest : List Step) × Tree clauses earlier assumed steps rest × Reads others rest

  abbrev OnPoints : List Step → Type 0
  OnPoints steps = All (NamesPoints points) steps

  -- a step that opens these cases
  pub data Opens (assumed : List Literal) : Step → List (List Literal) → Type 0 where
    as_leaf : {cycle : List Literal} → IsCycleAmong assumed cycle → Opens assumed (Cycle cycle) []
    as_clash : {i : ℕ} {clause : List Literal} → slice_get clauses i ≡ Some clause → IsDenied assumed clause → Opens assumed (Clash i) []
    as_cases : {step : Step} {clause : List Literal} → clause_of clauses earlier step ≡ Some clause → NamesPoints points step → Opens assumed step (cases_of assumed clause)

  abbrev pub OpensBy : List Literal → Step → Result (List (List Literal)) FlawKind → Type 0
  OpensBy assumed step found = (opening : List (List Literal)) → found ≡ Ok opening → Opens assumed step opening

  leaf_opens : (assumed cycle : List Literal) (a b : Bool) → list_all (is_assumed assumed) cycle ≡ a → is_negative_cycle cycle ≡ b → OpensBy assumed (Cycle cycle) (leaf_opened a b)
  leaf_opens assumed cycle true true e f opening is =
      let s : [] ≡ opening = cc in
      subst (Opens assumed (Cycle cycle)) s (as_leaf (record { negative = (is_negative_cycle_decides cycle).0 f; given = (all_assumed_decides assumed cycle).0 e }))
  leaf_opens assumed cycle true false e f opening is = absurd (cc)
  leaf_opens assumed cycle false b e f opening is = absurd (cc)

  clash_opens_by : (assumed : List Literal) (i : ℕ) (clause : List Literal) (b : Bool) → slice_get clauses i ≡ Some clause → list_all (is_assumed assumed) (map negation_of clause) ≡ b → OpensBy assumed (Clash i) (clash_opened b)
  clash_opens_by assumed i clause true e f opening is =
      let s : [] ≡ opening = cc in
      subst (Opens assumed (Clash i)) s (as_clash e ((all_assumed_decides assumed (map negation_of clause)).0 f))
  clash_opens_by assumed i clause false e f opening is = absurd (cc)

  clash_opens : (assumed : List Literal) (i : ℕ) (found : Option (List Literal)) → slice_get clauses i ≡ found → OpensBy assumed (Clash i) (opened_by_clash assumed found)
  clash_opens assumed i None e opening is = absurd (cc)
  clash_opens assumed i (Some clause) e opening is = clash_opens_by assumed i clause (list_all (is_assumed assumed) (map negation_of clause)) e refl opening is

  clause_opens : (assumed : List Literal) (step : Step) (found : Option (List Literal)) → clause_of clauses earlier step ≡ found → NamesPoints points step → OpensBy assumed step (cases_in assumed found)
  clause_opens assumed step None e p opening is = absurd (cc)
  clause_opens assumed step (Some clause) e p opening is =
      let s : cases_of assumed clause ≡ opening = cc in
      subst (Opens assumed step) s (as_cases e p)

  either_opens : (assumed : List Literal) (l : Literal) (b : Bool) → is_on_points points l ≡ b → OpensBy assumed (Either l) (if b then Ok (cases_of assumed (l ∷ negation_of l ∷ [])) else Err NoSuchPoint)
  either_opens assumed l true e opening is =
      let s : cases_of assumed (l ∷ negation_of l ∷ []) ≡ opening = cc in
      subst (Opens assumed (Either l)) s (as_cases refl (All-cons (IsOnPoints points) l [] ((is_on_points_decides points l).0 e) (All-nil (IsOnPoints points))))
  either_opens assumed l false e opening is = absurd (cc)

  pub step_opens : (assumed : List Literal) (step : Step) → OpensBy assumed step (opened points clauses earlier assumed step)
  step_opens assumed (Cycle cycle) = leaf_opens assumed cycle (list_all (is_assumed assumed) cycle) (is_negative_cycle cycle) refl refl
  step_opens assumed (Input i) = clause_opens assumed (Input i) (slice_get clauses i) refl (All-nil (IsOnPoints points))
  step_opens assumed (Earlier j) = clause_opens assumed (Earlier j) (slice_get earlier j) refl (All-nil (IsOnPoints points))
  step_opens assumed (Clash i) = clash_opens assumed i (slice_get clauses i) refl
  step_opens assumed (Either l) = either_opens assumed l (is_on_points points l) refl

  pub leaf_is_opened : (assumed cycle : List Literal) → IsCycleAmong assumed cycle → opened points clauses earlier assumed (Cycle cycle) ≡ Ok []
  leaf_is_opened assumed cycle h =
      ap (λ (a : Bool). leaf_opened a (is_negative_cycle cycle)) ((all_assumed_decides assumed cycle).1 h.given)
      ∙ ap (leaf_opened true) ((is_negative_cycle_decides cycle).1 h.negative)

  clash_is_opened : (assumed : List Literal) (i : ℕ) (clause : List Literal) → slice_get clauses i ≡ Some clause → IsDenied assumed clause → opened points clauses earlier assumed (Clash i) ≡ Ok []
  clash_is_opened assumed i clause e h = ap (opened_by_clash assumed) e ∙ ap clash_opened ((all_assumed_decides assumed (map negation_of clause)).1 h)

  case_is_opened : (assumed : List Literal) (step : Step) (clause : List Literal) → clause_of clauses earlier step ≡ Some clause → NamesPoints points step → opened points clauses earlier assumed step ≡ Ok (cases_of assumed clause)
  case_is_opened assumed (Cycle cycle) clause e p = absurd (cc)
  case_is_opened assumed (Input i) clause e p = ap (cases_in assumed) e
  case_is_opened assumed (Earlier j) clause e p = ap (cases_in assumed) e
  case_is_opened assumed (Clash i) clause e p = absurd (cc)
  case_is_opened assumed (Either l) clause e p =
      let s : (l ∷ negation_of l ∷ []) ≡ clause = cc in
      ap (λ (b : Bool). if b then Ok (cases_of assumed (l ∷ negation_of l ∷ [])) else Err NoSuchPoint) ((is_on_points_decides points l).1 (All-head (IsOnPoints points) l [] p))
      ∙ ap (λ (c : List Literal). Ok (cases_of assumed c)) s

  pub gathers : (assumed clause : List Literal) (others : List (List Literal)) (steps : List Step) → Reads (cases_of assumed clause ++ others) steps → (rest : List Step) × Forest clauses earlier assumed clause steps rest × Reads others rest
  gathers assumed [] others steps r = (steps, none, r)
  gathers assumed (l ∷ clause) others steps r = let t = gathers (assumed ++ negation_of l ∷ []) clause others r.0 r.2 in (t.0, more r.1 t.1, t.2)

  -- what is read after the step makes what is read with it
  reads_on : (assumed : List Literal) (step : Step) (opening others : List (List Literal)) (steps : List Step) → Opens assumed step opening → Reads (opening ++ others) steps × OnPoints steps → Reads (assumed ∷ others) (step ∷ steps) × OnPoints (step ∷ steps)
  reads_on assumed step opening others steps (as_leaf {cycle = cycle} h) r = ((steps, leaf h, r.0), All-cons (NamesPoints points) (Cycle cycle) steps (All-nil (IsOnPoints points)) r.1)
  reads_on assumed step opening others steps (as_clash {i = i} e h) r = ((steps, clash e h, r.0), All-cons (NamesPoints points) (Clash i) steps (All-nil (IsOnPoints points)) r.1)
  reads_on assumed step opening others steps (as_cases {clause = clause} e p) r =
      let t = gathers assumed clause others steps r.0 in
      ((t.0, cases e t.1, t.2), All-cons (NamesPoints points) step steps p r.1)

  unflawed_by : (assumed : List Literal) (step : Step) (others : List (List Literal)) (number : ℕ) (steps : List Step) (found : Result (List (List Literal)) FlawKind) → OpensBy assumed step found
      → ((opening : List (List Literal)) → steps_flaw points clauses earlier opening (suc number) steps ≡ None → Reads opening steps × OnPoints steps)
      → after_step earlier number (λ opening. steps_flaw points clauses earlier (opening ++ others) (suc number) steps) found ≡ None → Reads (assumed ∷ others) (step ∷ steps) × OnPoints (step ∷ steps)
  unflawed_by assumed step others number steps (Ok opening) opens ih h = reads_on assumed step opening others steps (opens opening refl) (ih (opening ++ others) h)
  unflawed_by assumed step others number steps (Err kind) opens ih h = absurd (cc)

  pub unflawed : (steps : List Step) (open_ : List (List Literal)) (number : ℕ) → steps_flaw points clauses earlier open_ number steps ≡ None → Reads open_ steps × OnPoints steps
  unflawed [] [] number h = (refl, All-nil (NamesPoints points))
  unflawed [] (assumed ∷ others) number h = absurd (cc)
  unflawed (step ∷ steps) [] number h = absurd (cc)
  unflawed (step ∷ steps) (assumed ∷ others) number h =
      unflawed_by assumed step others number steps (opened points clauses earlier assumed step) (step_opens assumed step) (λ opening e. unflawed steps opening (suc number) e) h

  -- what is read is behind, and the same flaw is ahead
  record Goes (before : List (List Literal)) (number : ℕ) (steps : List Step) (after : List (List Literal)) (rest : List Step) : Type 0 where
    later : ℕ
    same : steps_flaw points clauses earlier before number steps ≡ steps_flaw points clauses earlier after later rest
    on_points : OnPoints rest

  after_opening : (assumed : List Literal) (step : Step) (opening others : List (List Literal)) (number : ℕ) (steps : List Step) → opened points clauses earlier assumed step ≡ Ok opening
      → steps_flaw points clauses earlier (assumed ∷ others) number (step ∷ steps) ≡ steps_flaw points clauses earlier (opening ++ others) (suc number) steps
  after_opening assumed step opening others number steps e = ap (after_step earlier number (λ more. steps_flaw points clauses earlier (more ++ others) (suc number) steps)) e

  mutual
    tree_goes : (others : List (List Literal)) (number : ℕ) {assumed : List Literal} {steps rest : List Step} → Tree clauses earlier assumed steps rest → OnPoints steps → Goes (assumed ∷ others) number steps others rest
    tree_goes others number (leaf {assumed = assumed} {cycle = cycle} {rest = rest} h) p = record {
      later = suc number;
      same = after_opening assumed (Cycle cycle) [] others number rest (leaf_is_opened assumed cycle h);
      on_points = All-tail (NamesPoints points) (Cycle cycle) rest p;
    }
    tree_goes others number (clash {assumed = assumed} {clause = clause} {i = i} {rest = rest} e h) p = record {
      later = suc number;
      same = after_opening assumed (Clash i) [] others number rest (clash_is_opened assumed i clause e h);
      on_points = All-tail (NamesPoints points) (Clash i) rest p;
    }
    tree_goes others number (cases {assumed = assumed} {clause = clause} {step = step} {steps = steps} e f) p =
        let t = forest_goes others (suc number) f (All-tail (NamesPoints points) step steps p) in
        record {
          later = t.later;
          same = after_opening assumed step (cases_of assumed clause) others number steps (case_is_opened assumed step clause e (All-head (NamesPoints points) step steps p)) ∙ t.same;
          on_points = t.on_points;
        }

    forest_goes : (others : List (List Literal)) (number : ℕ) {assumed clause : List Literal} {steps rest : List Step} → Forest clauses earlier assumed clause steps rest → OnPoints steps → Goes (cases_of assumed clause ++ others) number steps others rest
    forest_goes others number none p = record { later = number; same = refl; on_points = p }
    forest_goes others number (more {assumed = assumed} {clause = clause} {l = l} t f) p =
        let x = tree_goes (cases_of (assumed ++ negation_of l ∷ []) clause ++ others) number t p in
        let y = forest_goes others x.later f x.on_points in
        record { later = y.later; same = x.same ∙ y.same; on_points = y.on_points }

  -- one lemma
  lemma_by : (lemma : Lemma) (b : Bool) → list_all (is_on_points points) lemma.clause ≡ b
      → (if b then steps_flaw points clauses earlier (map negation_of lemma.clause ∷ []) 0 lemma.steps else flaw_at earlier 0 NoSuchPoint) ≡ None → IsRefuted points clauses earlier lemma
  lemma_by lemma true e h =
      let r = unflawed lemma.steps (map negation_of lemma.clause ∷ []) 0 h in
      record {
        clause = (all_on_points_decides points lemma.clause).0 e;
        steps = r.1;
        tree = subst (Tree clauses earlier (map negation_of lemma.clause) lemma.steps) r.0.2 r.0.1;
      }
  lemma_by lemma false e h = absurd (cc)

  pub unflawed_lemma : (lemma : Lemma) → lemma_flaw points clauses earlier lemma ≡ None → IsRefuted points clauses earlier lemma
  unflawed_lemma lemma h = lemma_by lemma (list_all (is_on_points points) lemma.clause) refl h

  pub refuted_lemma : (lemma : Lemma) → IsRefuted points clauses earlier lemma → lemma_flaw points clauses earlier lemma ≡ None
  refuted_lemma lemma r =
      let start : List (List Literal) = map negation_of lemma.clause ∷ [] in
      let t = tree_goes [] 0 r.tree r.steps in
      ap (λ (b : Bool). if b then steps_flaw points clauses earlier start 0 lemma.steps else flaw_at earlier 0 NoSuchPoint) ((all_on_points_decides points lemma.clause).1 r.clause) ∙ t.same
