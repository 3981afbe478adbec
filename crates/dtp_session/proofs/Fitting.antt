-- The numbers of a refutation that is shown are within the limits of the format.
use Rattle.std.proofs.Common.{subst, arith, ◌≡◌, ◌≤◌, ◌^◌, ℕ, List, [], ◌∷◌, length, map, take, Option, Some, None, ℤ, pos, negsuc, neg_ℤ, ◌≤ℤ◌, get_or, length-take}
use Rattle.std.specs.Prelude.{All, Contains, slice_get}
use Rattle.std.specs.List.{AllByRecursion}
use Rattle.std.proofs.lemmas.Int.{ints}
use Rattle.std.proofs.lemmas.List.{length-map}
use Rattle.std.proofs.lemmas.List.Elements.{All-contains, All-get_or, All-from_get_or, All-map, All-take, All-push, All-nil, All-cons, All-head, All-tail, All-append, recursion_from_All, All-from_recursion}
use Rattle.std.proofs.lemmas.Option.{slice_get_within, get_or_from_slice_get, slice_get-get_or}
use Rattle.stn_core.specs.declared.literal.Literal.{Literal}
use Rattle.stn_core.specs.Laws.{NegationKept}
use Rattle.stn_core.specs.Literal.{negation_of, IsOver}
use Rattle.refute_tree.specs.declared.step.Step.{Step}
use Rattle.refute_tree.specs.declared.step.Step.TheVariants.{Cycle, Input, Lemma as Earlier, Clash, Either}
use Rattle.refute_tree.specs.declared.lemma.Lemma.{Lemma}
use Rattle.refute_tree.specs.Batches.{NamesOver, LemmaIsOver}
use Rattle.refute_tree.specs.Laws.{LengthenedPlain}
use Rattle.refute_tree.specs.Lengths.{pair_step, written_out, lengthened_step, lengthened, lengthened_lemma, IsNoClash}
use Rattle.refute_tree.specs.Trees.{Tree, Forest, leaf, clash, cases, none, more, stated, IsRefutation}
use Rattle.cert_text.specs.declared.entry.Version.{Version}
use Rattle.cert_text.specs.declared.entry.Version.TheVariants.{One, Two}
use Rattle.cert_text.specs.Limits.{limit, NumberFits, LiteralWithin, OnlyInTwo, StepWithin, LemmaWithin}

-- ---- numbers

number_within : (n : ℤ) → neg_ℤ (pos limit) ≤ℤ n → n ≤ℤ pos limit → NumberFits n
number_within (pos k) low high = omega (arith, ints)
number_within (negsuc k) low high = omega (arith, ints)

literal_within : (points : ℕ) (l : Literal) → points ≤ 2 ^ 32 → IsOver points l → LiteralWithin (2 ^ 32) l
literal_within points l few h =
    let x = h.x_in in
    let y = h.y_in in
    let low = h.low in
    let high = h.high in
    record { x = omega arith; y = omega arith; c = number_within l.c (omega (arith, ints)) (omega (arith, ints)) }

-- ---- refutations

-- a clash stands in the second version alone
abbrev pub MayStand : Version → Step → Type 0
MayStand One s = IsNoClash s
MayStand Two s = Unit {0}

abbrev pub IsFormed : Version → Lemma → Type 0
IsFormed version lemma = All (MayStand version) lemma.steps

clash_within : (version : Version) (i : ℕ) → MayStand version (Clash i) → i ≤ limit → OnlyInTwo version (i ≤ limit)
clash_within One i h few = absurd h
clash_within Two i h few = few

module _ (version : Version) (points : ℕ) where
  abbrev Within : Step → Type 0
  Within s = StepWithin version (2 ^ 32) s

  -- what a step names is within the problem's limits, and it may stand in the version
  abbrev IsShown : Step → Type 0
  IsShown s = NamesOver points s × MayStand version s

  are_shown : (steps : List Step) → AllByRecursion (NamesOver points) steps → AllByRecursion (MayStand version) steps → AllByRecursion IsShown steps
  are_shown [] over plain = tt
  are_shown (s ∷ steps) over plain = ((over.0, plain.0), are_shown steps over.1 plain.1)

  -- the steps of a tree are within the limits where those behind it are, and those behind it are shown
  abbrev Continues : List Step → List Step → Type 0
  Continues steps rest = (AllByRecursion Within rest → AllByRecursion Within steps) × AllByRecursion IsShown rest

  module _ (kept : NegationKept) (few_points : points ≤ 2 ^ 32) (clauses : List (List Literal)) (few : length clauses ≤ limit) (over : All (λ (clause : List Literal). All (IsOver points) clause) clauses) where
    abbrev AreOver : List Literal → Type 0
    AreOver literals = All (IsOver points) literals

    literals_within : (literals : List Literal) → AllByRecursion (IsOver points) literals → AllByRecursion (LiteralWithin (2 ^ 32)) literals
    literals_within [] h = tt
    literals_within (l ∷ ls) h = (literal_within points l few_points h.0, literals_within ls h.1)

    negations_over : (literals : List Literal) → AllByRecursion (IsOver points) literals → AllByRecursion (IsOver points) (map negation_of literals)
    negations_over [] h = tt
    negations_over (l ∷ ls) h = (kept points l h.0, negations_over ls h.1)

    given_over : (assumed cycle : List Literal) → AreOver assumed → AllByRecursion (Contains assumed) cycle → AllByRecursion (IsOver points) cycle
    given_over assumed [] all given = tt
    given_over assumed (l ∷ ls) all given = (All-contains (IsOver points) assumed l all given.0, given_over assumed ls all given.1)

    cycle_within : (assumed cycle : List Literal) → AreOver assumed → All (Contains assumed) cycle → All (LiteralWithin (2 ^ 32)) cycle
    cycle_within assumed cycle all given =
        All-from_recursion (LiteralWithin (2 ^ 32)) cycle (literals_within cycle (given_over assumed cycle all (recursion_from_All (Contains assumed) cycle given)))

    found_over : (cs : List (List Literal)) (i : ℕ) (clause : List Literal) → All AreOver cs → slice_get cs i ≡ Some clause → AllByRecursion (IsOver points) clause
    found_over cs i clause all e =
        recursion_from_All (IsOver points) clause (subst AreOver (get_or_from_slice_get cs i clause [] e) (All-get_or AreOver cs i [] (slice_get_within cs i clause e) all))

    either_over : (l : Literal) (clause : List Literal) → Some (l ∷ negation_of l ∷ []) ≡ Some clause → IsOver points l → AllByRecursion (IsOver points) clause
    either_over l clause e h =
        let same : l ∷ negation_of l ∷ [] ≡ clause = cc in
        subst (AllByRecursion (IsOver points)) same (h, (kept points l h, tt))

    module _ (earlier : List (List Literal)) (count : length earlier ≤ limit) (earlier_over : All AreOver earlier) where
      mutual
        tree_within : {assumed : List Literal} {steps rest : List Step} → Tree clauses earlier assumed steps rest → AreOver assumed → AllByRecursion IsShown steps → Continues steps rest
        tree_within {assumed = assumed} (leaf {cycle = cycle} among) all shown = (λ h. (cycle_within assumed cycle all among.given, h), shown.1)
        tree_within (clash {clause = clause} {i = i} e denied) all shown = (λ h. (clash_within version i shown.0.1 (omega (arith, slice_get_within clauses i clause e, few)), h), shown.1)
        tree_within (cases {step = Cycle cycle} e forest) all shown = absurd cc
        tree_within (cases {clause = clause} {step = Input i} e forest) all shown =
            let r = forest_within forest all (found_over clauses i clause over e) shown.1 in
            (λ h. (omega (arith, slice_get_within clauses i clause e, few), r.0 h), r.1)
        tree_within (cases {clause = clause} {step = Earlier j} e forest) all shown =
            let r = forest_within forest all (found_over earlier j clause earlier_over e) shown.1 in
            (λ h. (omega (arith, slice_get_within earlier j clause e, count), r.0 h), r.1)
        tree_within (cases {step = Clash i} e forest) all shown = absurd cc
        tree_within (cases {clause = clause} {step = Either l} e forest) all shown =
            let named : IsOver points l = All-head (IsOver points) l [] shown.0.0 in
            let r = forest_within forest all (either_over l clause e named) shown.1 in
            (λ h. (literal_within points l few_points named, r.0 h), r.1)

        forest_within : {assumed clause : List Literal} {steps rest : List Step} → Forest clauses earlier assumed clause steps rest → AreOver assumed → AllByRecursion (IsOver points) clause → AllByRecursion IsShown steps → Continues steps rest
        forest_within none all given shown = (λ h. h, shown)
        forest_within {assumed = assumed} (more {l = l} tree forest) all given shown =
            let first = tree_within tree (All-push (IsOver points) assumed l all given.0) shown in
            let others = forest_within forest (All-push (IsOver points) assumed (negation_of l) all (kept points l given.0)) given.1 first.1 in
            (λ h. first.0 (others.0 h), others.1)

      lemma_within : (lemma : Lemma) → LemmaIsOver points lemma → IsFormed version lemma → Tree clauses earlier (map negation_of lemma.clause) lemma.steps [] → LemmaWithin version (2 ^ 32) lemma
      lemma_within lemma h plain tree =
          let clause = recursion_from_All (IsOver points) lemma.clause h.clause in
          let assumed = All-from_recursion (IsOver points) (map negation_of lemma.clause) (negations_over lemma.clause clause) in
          let shown = are_shown lemma.steps (recursion_from_All (NamesOver points) lemma.steps h.steps) (recursion_from_All (MayStand version) lemma.steps plain) in
          let r = tree_within tree assumed shown in
          record {
            clause = All-from_recursion (LiteralWithin (2 ^ 32)) lemma.clause (literals_within lemma.clause clause);
            steps = All-from_recursion Within lemma.steps (r.0 tt);
          }

    stated_over : (lemmas : List Lemma) → AllByRecursion (LemmaIsOver points) lemmas → AllByRecursion AreOver (map stated lemmas)
    stated_over [] h = tt
    stated_over (lemma ∷ lemmas) h = (h.0.clause, stated_over lemmas h.1)

    pub refutation_within : (lemmas : List Lemma) → length lemmas ≤ limit → IsRefutation points clauses lemmas → All (LemmaIsOver points) lemmas → All (IsFormed version) lemmas → All (LemmaWithin version (2 ^ 32)) lemmas
    refutation_within lemmas count h all plain =
        let nothing : Lemma = record { clause = []; steps = [] } in
        All-from_get_or (LemmaWithin version (2 ^ 32)) lemmas nothing (λ j lt.
        let lemma = get_or lemmas j nothing in
        let before = take j lemmas in
        let refuted = h.each j lemma (slice_get-get_or lemmas j nothing lt) in
        let few_before : length (map stated before) ≤ limit = omega (arith, length-map before stated, length-take j lemmas, count) in
        let before_over = All-from_recursion AreOver (map stated before) (stated_over before (recursion_from_All (LemmaIsOver points) before (All-take (LemmaIsOver points) j lemmas all))) in
        lemma_within (map stated before) few_before before_over lemma (All-get_or (LemmaIsOver points) lemmas j nothing lt all) (All-get_or (IsFormed version) lemmas j nothing lt plain) refuted.tree)

-- ---- lemmas that are written out

module _ (points : ℕ) (clauses : List (List Literal)) where
  pairs_over : (clause : List Literal) → All (NamesOver points) (map pair_step clause)
  pairs_over [] = All-nil (NamesOver points)
  pairs_over (l ∷ clause) = All-cons (NamesOver points) (pair_step l) (map pair_step clause) (All-nil (IsOver points)) (pairs_over clause)

  written_over : (i : ℕ) (found : Option (List Literal)) → All (NamesOver points) (written_out i found)
  written_over i None = All-cons (NamesOver points) (Clash i) [] (All-nil (IsOver points)) (All-nil (NamesOver points))
  written_over i (Some clause) = All-cons (NamesOver points) (Input i) (map pair_step clause) (All-nil (IsOver points)) (pairs_over clause)

  step_over : (step : Step) → NamesOver points step → All (NamesOver points) (lengthened_step clauses step)
  step_over (Cycle cycle) h = All-cons (NamesOver points) (Cycle cycle) [] h (All-nil (NamesOver points))
  step_over (Input i) h = All-cons (NamesOver points) (Input i) [] h (All-nil (NamesOver points))
  step_over (Earlier j) h = All-cons (NamesOver points) (Earlier j) [] h (All-nil (NamesOver points))
  step_over (Clash i) h = written_over i (slice_get clauses i)
  step_over (Either l) h = All-cons (NamesOver points) (Either l) [] h (All-nil (NamesOver points))

  steps_over : (steps : List Step) → All (NamesOver points) steps → All (NamesOver points) (lengthened clauses steps)
  steps_over [] h = All-nil (NamesOver points)
  steps_over (step ∷ steps) h =
      All-append (NamesOver points) (lengthened_step clauses step) (lengthened clauses steps)
      (step_over step (All-head (NamesOver points) step steps h)) (steps_over steps (All-tail (NamesOver points) step steps h))

  lemmas_over : (lemmas : List Lemma) → AllByRecursion (LemmaIsOver points) lemmas → AllByRecursion (LemmaIsOver points) (map (lengthened_lemma clauses) lemmas)
  lemmas_over [] h = tt
  lemmas_over (lemma ∷ lemmas) h = (record { clause = h.0.clause; steps = steps_over lemma.steps h.0.steps }, lemmas_over lemmas h.1)

  pub written_lemmas_over : (lemmas : List Lemma) → All (LemmaIsOver points) lemmas → All (LemmaIsOver points) (map (lengthened_lemma clauses) lemmas)
  written_lemmas_over lemmas h =
      All-from_recursion (LemmaIsOver points) (map (lengthened_lemma clauses) lemmas) (lemmas_over lemmas (recursion_from_All (LemmaIsOver points) lemmas h))

  pub written_without_clash : LengthenedPlain → (lemmas : List Lemma) → IsRefutation points clauses lemmas → All (IsFormed One) (map (lengthened_lemma clauses) lemmas)
  written_without_clash law lemmas h =
      let nothing : Lemma = record { clause = []; steps = [] } in
      All-map (IsFormed One) (lengthened_lemma clauses) lemmas (All-from_get_or (λ (lemma : Lemma). IsFormed One (lengthened_lemma clauses lemma)) lemmas nothing (λ j lt.
      let lemma = get_or lemmas j nothing in
      law points clauses (map stated (take j lemmas)) lemma (h.each j lemma (slice_get-get_or lemmas j nothing lt))))
