-- What the first flaw says of the tree that the steps before it begin.
use Rattle.std.proofs.Common.{arith, ◌≡◌, ◌<◌, ◌≤◌, ◌+◌, ◌⊎◌, inl, inr, ℕ, suc, List, [], ◌∷◌, ◌++◌, length, map, take, Option, Some, None, Bool, true, false, All, refl, ap, subst}
use Rattle.std.specs.Prelude.{slice_get, Result, Ok, Err, if◌then◌else◌}
use Rattle.std.specs.List.{list_all}
use Rattle.std.proofs.lemmas.Bool.{both_ways}
use Rattle.std.proofs.lemmas.Option.{same_Some, slice_get_cases}
use Rattle.stn_core.specs.declared.literal.Literal.{Literal}
use Rattle.stn_core.specs.Literal.{negation_of}
use Rattle.refute_tree.specs.declared.step.Step.{Step}
use Rattle.refute_tree.specs.declared.step.Step.TheVariants.{Cycle, Input, Lemma as Earlier, Clash, Either}
use Rattle.refute_tree.specs.declared.lemma.Lemma.{Lemma}
use Rattle.refute_tree.specs.Trees.{Tree, Forest, leaf, clash, cases, none, more, IsOnPoints, stated}
use Rattle.cert_check.specs.declared.flaw.FlawKind.{FlawKind}
use Rattle.cert_check.specs.declared.flaw.FlawKind.TheVariants.{NoSuchPoint, NoSuchClause, NotAssumed, NotACycle, NotDenied, StepsMissing, StepsLeftOver}
use Rattle.cert_check.specs.declared.flaw.Flaw.{Flaw}
use Rattle.cert_check.specs.Tests.{is_assumed, is_on_points, is_negative_cycle}
use Rattle.cert_check.specs.Flaws.{cases_of, cases_in, opened_by_clash, opened, flaw_at, after_step, steps_flaw, lemma_flaw, refutation_flaw}
use Rattle.cert_check.specs.FirstFlaws.{Begun, ForestBegun, start, goes_on, inside, after, IsWrong, IsFlawOf, own, at_step, missing, left_over, IsFirstFlaw}
use Rattle.cert_check.proofs.Decided.{all_assumed_decides, is_on_points_decides, all_on_points_decides, is_negative_cycle_decides}
use Rattle.cert_check.proofs.Reading.{leaf_opened, clash_opened, Reads, Opens, as_leaf, as_clash, as_cases, OpensBy, step_opens, gathers, refuted_lemma}
use Rattle.cert_check.proofs.Places.{first_flaw_at, last_flaw_at}

same_flaw_at : (earlier : List (List Literal)) (number : ℕ) (kind : FlawKind) (flaw : Flaw) → flaw_at earlier number kind ≡ Some flaw → (number ≡ flaw.step) × (kind ≡ flaw.kind)
same_flaw_at earlier number kind flaw e =
    let same = same_Some (record { lemma = length earlier; step = number; kind = kind }) flaw e in
    (ap (λ (f : Flaw). f.step) same, ap (λ (f : Flaw). f.kind) same)

module _ (points : ℕ) (clauses earlier : List (List Literal)) where
  abbrev WrongIn : List Literal → Step → FlawKind → Type 0
  WrongIn here step kind = IsWrong points clauses earlier here step kind

  -- why a step opens no cases
  leaf_wrong : (here cycle : List Literal) (a b : Bool) → list_all (is_assumed here) cycle ≡ a → is_negative_cycle cycle ≡ b → (kind : FlawKind) → leaf_opened a b ≡ Err kind → WrongIn here (Cycle cycle) kind
  leaf_wrong here cycle true true e f kind is = absurd (cc)
  leaf_wrong here cycle true false e f kind is =
      let s : NotACycle ≡ kind = cc in
      subst (WrongIn here (Cycle cycle)) s ((all_assumed_decides here cycle).0 e, λ h. both_ways (is_negative_cycle cycle) f ((is_negative_cycle_decides cycle).1 h))
  leaf_wrong here cycle false b e f kind is =
      let s : NotAssumed ≡ kind = cc in
      subst (WrongIn here (Cycle cycle)) s (λ h. both_ways (list_all (is_assumed here) cycle) e ((all_assumed_decides here cycle).1 h))

  past : (xs : List (List Literal)) (i : ℕ) (here : List Literal) (kind : FlawKind) → cases_in here (slice_get xs i) ≡ Err kind → (length xs ≤ i) × (NoSuchClause ≡ kind)
  past xs i here kind is = by (slice_get xs i) refl is
    where
      by : (found : Option (List Literal)) → slice_get xs i ≡ found → cases_in here found ≡ Err kind → (length xs ≤ i) × (NoSuchClause ≡ kind)
      by None at e = elim ((slice_get_cases xs i).1) [
        | inl x ↦ absurd (let there = x.2 in cc)
        | inr beyond ↦ (beyond.0, cc)
      ]
      by (Some clause) at e = absurd (cc)

  denied_wrong : (here : List Literal) (i : ℕ) (clause : List Literal) (b : Bool) → slice_get clauses i ≡ Some clause → list_all (is_assumed here) (map negation_of clause) ≡ b → (kind : FlawKind) → clash_opened b ≡ Err kind → WrongIn here (Clash i) kind
  denied_wrong here i clause true at e kind is = absurd (cc)
  denied_wrong here i clause false at e kind is =
      let s : NotDenied ≡ kind = cc in
      subst (WrongIn here (Clash i)) s (clause, at, λ h. both_ways (list_all (is_assumed here) (map negation_of clause)) e ((all_assumed_decides here (map negation_of clause)).1 h))

  clash_wrong : (here : List Literal) (i : ℕ) (kind : FlawKind) → opened_by_clash here (slice_get clauses i) ≡ Err kind → WrongIn here (Clash i) kind
  clash_wrong here i kind is = by (slice_get clauses i) refl is
    where
      by : (found : Option (List Literal)) → slice_get clauses i ≡ found → opened_by_clash here found ≡ Err kind → WrongIn here (Clash i) kind
      by None at e = elim ((slice_get_cases clauses i).1) [
        | inl x ↦ absurd (let there = x.2 in cc)
        | inr beyond ↦ (let s : NoSuchClause ≡ kind = cc in subst (WrongIn here (Clash i)) s beyond.0)
      ]
      by (Some clause) at e = denied_wrong here i clause (list_all (is_assumed here) (map negation_of clause)) at refl kind e

  either_wrong : (here : List Literal) (l : Literal) (b : Bool) → is_on_points points l ≡ b → (kind : FlawKind) → (if b then Ok (cases_of here (l ∷ negation_of l ∷ [])) else Err NoSuchPoint) ≡ Err kind → WrongIn here (Either l) kind
  either_wrong here l true e kind is = absurd (cc)
  either_wrong here l false e kind is =
      let s : NoSuchPoint ≡ kind = cc in
      subst (WrongIn here (Either l)) s (λ h. both_ways (is_on_points points l) e ((is_on_points_decides points l).1 h))

  step_wrong : (here : List Literal) (step : Step) (kind : FlawKind) → opened points clauses earlier here step ≡ Err kind → WrongIn here step kind
  step_wrong here (Cycle cycle) kind e = leaf_wrong here cycle (list_all (is_assumed here) cycle) (is_negative_cycle cycle) refl refl kind e
  step_wrong here (Input i) kind e = let p = past clauses i here kind e in subst (WrongIn here (Input i)) p.1 p.0
  step_wrong here (Earlier j) kind e = let p = past earlier j here kind e in subst (WrongIn here (Earlier j)) p.1 p.0
  step_wrong here (Clash i) kind e = clash_wrong here i kind e
  step_wrong here (Either l) kind e = either_wrong here l (is_on_points points l) refl kind e

  -- the steps are trees for the first cases, and begin one for the next
  data Row : List (List Literal) → List Step → List Literal → Type 0 where
    now : {assumed here : List Literal} {others : List (List Literal)} {steps : List Step} → Begun clauses earlier assumed steps here → Row (assumed ∷ others) steps here
    later : {assumed here : List Literal} {others : List (List Literal)} {steps rest : List Step} → Tree clauses earlier assumed steps rest → Row others rest here → Row (assumed ∷ others) steps here

  gathered : (assumed clause : List Literal) (others : List (List Literal)) (steps : List Step) (here : List Literal) → Row (cases_of assumed clause ++ others) steps here → ForestBegun clauses earlier assumed clause steps here ⊎ ((rest : List Step) × Forest clauses earlier assumed clause steps rest × Row others rest here)
  gathered assumed [] others steps here r = inr (steps, none, r)
  gathered assumed (l ∷ clause) others steps here (now b) = inl (inside b)
  gathered assumed (l ∷ clause) others steps here (later {rest = rest} t r) = elim (gathered (assumed ++ negation_of l ∷ []) clause others rest here r) [
    | inl f ↦ inl (after t f)
    | inr x ↦ inr (x.0, more t x.1, x.2)
  ]

  row_on : (assumed : List Literal) (step : Step) (opening others : List (List Literal)) (steps : List Step) (here : List Literal) → Opens points clauses earlier assumed step opening → Row (opening ++ others) steps here → Row (assumed ∷ others) (step ∷ steps) here
  row_on assumed step opening others steps here (as_leaf h) r = later (leaf h) r
  row_on assumed step opening others steps here (as_clash e h) r = later (clash e h) r
  row_on assumed step opening others steps here (as_cases {clause = clause} e p) r = elim (gathered assumed clause others steps here r) [
    | inl f ↦ now (goes_on e f)
    | inr x ↦ later (cases e x.1) x.2
  ]

  reads_opened : (assumed : List Literal) (step : Step) (opening others : List (List Literal)) (steps : List Step) → Opens points clauses earlier assumed step opening → Reads points clauses earlier (opening ++ others) steps → Reads points clauses earlier (assumed ∷ others) (step ∷ steps)
  reads_opened assumed step opening others steps (as_leaf h) r = (steps, leaf h, r)
  reads_opened assumed step opening others steps (as_clash e h) r = (steps, clash e h, r)
  reads_opened assumed step opening others steps (as_cases {clause = clause} e p) r =
      let t = gathers points clauses earlier assumed clause others steps r in
      (t.0, cases e t.1, t.2)

  -- what is wrong with steps that are to be trees for these cases
  data RowFlaw (open_ : List (List Literal)) (steps : List Step) : ℕ → FlawKind → Type 0 where
    row_wrong : {number : ℕ} {step : Step} {kind : FlawKind} {here : List Literal} → Row open_ (take number steps) here → slice_get steps number ≡ Some step → WrongIn here step kind → RowFlaw open_ steps number kind
    row_missing : {here : List Literal} → Row open_ steps here → RowFlaw open_ steps (length steps) StepsMissing
    row_over : {number : ℕ} → Reads points clauses earlier open_ (take number steps) → number < length steps → RowFlaw open_ steps number StepsLeftOver

  flaw_on : (assumed : List Literal) (step : Step) (opening others : List (List Literal)) (steps : List Step) → Opens points clauses earlier assumed step opening → (number : ℕ) (kind : FlawKind) → RowFlaw (opening ++ others) steps number kind → RowFlaw (assumed ∷ others) (step ∷ steps) (suc number) kind
  flaw_on assumed step opening others steps o number kind (row_wrong {here = here} r at w) = row_wrong (row_on assumed step opening others (take number steps) here o r) at w
  flaw_on assumed step opening others steps o number kind (row_missing {here = here} r) = row_missing (row_on assumed step opening others steps here o r)
  flaw_on assumed step opening others steps o number kind (row_over r lt) = row_over (reads_opened assumed step opening others (take number steps) o r) (omega arith)

  abbrev FlawFrom : List (List Literal) → List Step → ℕ → Flaw → Type 0
  FlawFrom open_ steps number flaw = (k : ℕ) × (number + k ≡ flaw.step) × RowFlaw open_ steps k flaw.kind

  row_flaw : (steps : List Step) (open_ : List (List Literal)) (number : ℕ) (flaw : Flaw) → steps_flaw points clauses earlier open_ number steps ≡ Some flaw → FlawFrom open_ steps number flaw
  row_flaw [] [] number flaw e = absurd (cc)
  row_flaw [] (assumed ∷ others) number flaw e =
      let same = same_flaw_at earlier number StepsMissing flaw e in
      let at = same.0 in
      (0, omega arith, subst (RowFlaw (assumed ∷ others) [] 0) same.1 (row_missing (now start)))
  row_flaw (step ∷ steps) [] number flaw e =
      let same = same_flaw_at earlier number StepsLeftOver flaw e in
      let at = same.0 in
      (0, omega arith, subst (RowFlaw [] (step ∷ steps) 0) same.1 (row_over refl (omega arith)))
  row_flaw (step ∷ steps) (assumed ∷ others) number flaw e =
      by (opened points clauses earlier assumed step) (step_opens points clauses earlier assumed step) (λ kind is. step_wrong assumed step kind is) (λ open_ is. row_flaw steps open_ (suc number) flaw is) e
    where
      by : (found : Result (List (List Literal)) FlawKind) → OpensBy points clauses earlier assumed step found → ((kind : FlawKind) → found ≡ Err kind → WrongIn assumed step kind)
          → ((open_ : List (List Literal)) → steps_flaw points clauses earlier open_ (suc number) steps ≡ Some flaw → FlawFrom open_ steps (suc number) flaw)
          → after_step earlier number (λ opening. steps_flaw points clauses earlier (opening ++ others) (suc number) steps) found ≡ Some flaw → FlawFrom (assumed ∷ others) (step ∷ steps) number flaw
      by (Ok opening) opens wrong ih is =
          let rest = ih (opening ++ others) is in
          let at = rest.1 in
          (suc rest.0, omega arith, flaw_on assumed step opening others steps (opens opening refl) rest.0 flaw.kind rest.2)
      by (Err kind) opens wrong ih is =
          let same = same_flaw_at earlier number kind flaw is in
          let at = same.0 in
          let why : WrongIn assumed step kind = wrong kind refl in
          (0, omega arith, subst (RowFlaw (assumed ∷ others) (step ∷ steps) 0) same.1 (row_wrong (now start) refl why))

  -- the tree of a lemma
  one_begun : (assumed : List Literal) (steps : List Step) (here : List Literal) → Row (assumed ∷ []) steps here → Begun clauses earlier assumed steps here
  one_begun assumed steps here (now b) = b
  one_begun assumed steps here (later t r) = absurd (no_row _ here r)
    where
      no_row : (rest : List Step) (here : List Literal) → Row [] rest here → ⊥
      no_row rest here r = elim r [ ]

  lemma_row : (lemma : Lemma) → All (IsOnPoints points) lemma.clause → (number : ℕ) (kind : FlawKind) → RowFlaw (map negation_of lemma.clause ∷ []) lemma.steps number kind → IsFlawOf points clauses earlier lemma number kind
  lemma_row lemma on number kind (row_wrong {here = here} r at w) = at_step on (one_begun (map negation_of lemma.clause) (take number lemma.steps) here r) at w
  lemma_row lemma on number kind (row_missing {here = here} r) = missing on (one_begun (map negation_of lemma.clause) lemma.steps here r)
  lemma_row lemma on number kind (row_over r lt) = left_over on (subst (Tree clauses earlier (map negation_of lemma.clause) (take number lemma.steps)) r.2 r.1) lt

  pub flaw_of_lemma : (lemma : Lemma) (flaw : Flaw) → lemma_flaw points clauses earlier lemma ≡ Some flaw → IsFlawOf points clauses earlier lemma flaw.step flaw.kind
  flaw_of_lemma lemma flaw e = by (list_all (is_on_points points) lemma.clause) refl e
    where
      by : (b : Bool) → list_all (is_on_points points) lemma.clause ≡ b
          → (if b then steps_flaw points clauses earlier (map negation_of lemma.clause ∷ []) 0 lemma.steps else flaw_at earlier 0 NoSuchPoint) ≡ Some flaw → IsFlawOf points clauses earlier lemma flaw.step flaw.kind
      by true on is =
          let r = row_flaw lemma.steps (map negation_of lemma.clause ∷ []) 0 flaw is in
          let at = r.1 in
          let same : r.0 ≡ flaw.step = omega arith in
          subst (λ (k : ℕ). IsFlawOf points clauses earlier lemma k flaw.kind) same (lemma_row lemma ((all_on_points_decides points lemma.clause).0 on) r.0 flaw.kind r.2)
      by false on is =
          let same = same_flaw_at earlier 0 NoSuchPoint flaw is in
          let here : IsFlawOf points clauses earlier lemma 0 NoSuchPoint = own (λ h. both_ways (list_all (is_on_points points) lemma.clause) on ((all_on_points_decides points lemma.clause).1 h)) in
          subst (IsFlawOf points clauses earlier lemma flaw.step) same.1 (subst (λ (k : ℕ). IsFlawOf points clauses earlier lemma k NoSuchPoint) same.0 here)

pub first_flaw : (points : ℕ) (clauses : List (List Literal)) (lemmas : List Lemma) (flaw : Flaw) → refutation_flaw points clauses lemmas ≡ Some flaw → IsFirstFlaw points clauses lemmas flaw
first_flaw points clauses lemmas flaw e = record {
  within = (last_flaw_at points clauses lemmas flaw e).0;
  before = λ j lemma lt is. (first_flaw_at points clauses lemmas flaw e j lemma is).0 lt;
  unrefuted = λ lemma is r. (let found = at lemma is in let no = refuted_lemma points clauses (map stated (take flaw.lemma lemmas)) lemma r in absurd (cc));
  wrong = λ lemma is. flaw_of_lemma points clauses (map stated (take flaw.lemma lemmas)) lemma flaw (at lemma is);
  end = (last_flaw_at points clauses lemmas flaw e).1;
}
  where
    at : (lemma : Lemma) → slice_get lemmas flaw.lemma ≡ Some lemma → lemma_flaw points clauses (map stated (take flaw.lemma lemmas)) lemma ≡ Some flaw
    at lemma is = (first_flaw_at points clauses lemmas flaw e flaw.lemma lemma is).1 refl
