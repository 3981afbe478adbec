-- What the steps of a lemma name stands before it.
use Rattle.std.proofs.Common.{arith, ◌≡◌, ℕ, ◌<◌, ◌≤◌, ◌-◌, inl, inr, List, [], ◌∷◌, length, take, get_or, Some, All, Contains, Option, refl, sym, ap, subst, ◌∙◌}
use Rattle.std.specs.Prelude.{slice_get, IsPermutation, IsSorted, nat_eq}
use Rattle.std.specs.List.{IsDistinct}
use Rattle.std.specs.Ordering.{nat_cmp}
use Rattle.std.proofs.lemmas.Bool.{cases_lt}
use Rattle.std.proofs.lemmas.Bool.Decides.{nat_tests}
use Rattle.std.proofs.lemmas.List.{length-take-le, get_or-take, get_or_default}
use Rattle.std.proofs.lemmas.List.Elements.{All-nil, All-cons, All-head, All-tail, All-contains, All-weaker}
use Rattle.std.proofs.lemmas.List.Sorted.{All-permutation, Contains-permutation, IsNonDecreasingBy-from_sort}
use Rattle.std.proofs.lemmas.Map.Keys.{IsDistinct-IsPermutation}
use Rattle.std.proofs.lemmas.Option.{slice_get-get_or}
use Rattle.stn_core.specs.declared.literal.Literal.{Literal}
use Rattle.refute_tree.specs.declared.step.Step.{Step}
use Rattle.refute_tree.specs.declared.step.Step.TheVariants.{Cycle, Input, Lemma as Earlier, Clash, Either}
use Rattle.refute_tree.specs.declared.lemma.Lemma.{Lemma}
use Rattle.kept_lemmas.proofs.FactLists.{all_at}
use Rattle.lemma_shelf.specs.code.Tables.{IsKnownStep, IsTable, steps_at, StepIsClosed, IsClosed, AreClosed}
use Rattle.lemma_shelf.specs.code.WrittenOut.{RestsOn, itself, cited, Rises, AreWrittenOut, IsLowered}
use Rattle.lemma_shelf.proofs.Counting.{mounts_distinct}
use Rattle.lemma_shelf.proofs.Lists.{some_there}
use Rattle.lemma_shelf.proofs.Walking.{steps_are}

-- ---- numbers in order

pub rises_sorted : (xs : List ℕ) → IsSorted nat_cmp xs → Rises xs
rises_sorted xs sorted i j le lt = IsNonDecreasingBy-from_sort (λ (x : ℕ). x) xs sorted i j 0 le lt

-- a number below the one at a place stands before it
pub stands_before : (xs : List ℕ) (i n : ℕ) → Rises xs → i < length xs → Contains xs n → n < get_or xs i 0 → Contains (take i xs) n
stands_before xs i n up lt (k, in_, e) below = elim (cases_lt k i) [
  | inl p ↦
      let long = length-take-le i xs (omega (arith, lt)) in
      (k, omega (arith, long, p), get_or-take i xs k n p ∙ e)
  | inr p ↦
      let far = up i k p in_ in
      let same : get_or xs k 0 ≡ n = get_or_default xs k 0 n in_ ∙ e in
      absurd (omega (arith, far, same, below))
]

pub last_greatest : (xs : List ℕ) (root : ℕ) → Rises xs → Contains xs root → All (λ (n : ℕ). n ≤ root) xs → slice_get xs (length xs - 1) ≡ Some root
last_greatest xs root up (k, in_, e) all =
    let lt : length xs - 1 < length xs = omega (arith, in_) in
    let same : get_or xs k 0 ≡ root = get_or_default xs k 0 root in_ ∙ e in
    let far : get_or xs k 0 ≤ get_or xs (length xs - 1) 0 = up k (length xs - 1) (omega (arith, in_)) lt in
    let is : slice_get xs (length xs - 1) ≡ Some (get_or xs (length xs - 1) 0) = slice_get-get_or xs (length xs - 1) 0 lt in
    let most : get_or xs (length xs - 1) 0 ≤ root = all_at (λ (n : ℕ). n ≤ root) xs (length xs - 1) (get_or xs (length xs - 1) 0) all is in
    let here : get_or xs (length xs - 1) 0 ≡ root = omega (arith, same, far, most) in
    is ∙ ap (λ (n : ℕ). Some n) here

-- ---- what a lemma names

module _ (book : List (List Literal)) (lemmas : List Lemma) (points : List ℕ) (table : IsTable book lemmas points) where
  -- what a lemma on the table cites stands below it
  pub cited_below : (n j : ℕ) → n < length lemmas → Contains (steps_at lemmas n) (Earlier j) → j < n
  cited_below n j lt h =
      let found = some_there lemmas n lt in
      let same = steps_are lemmas n found.0 found.0.steps found.1 refl in
      All-contains (IsKnownStep (length book) n) found.0.steps (Earlier j) (table.each n found.0 found.1).known (subst (λ (steps : List Step). Contains steps (Earlier j)) (sym same) h)

  pub rests_below : (root n : ℕ) → root < length lemmas → RestsOn lemmas root n → n ≤ root
  rests_below root n lt itself = omega arith
  rests_below root n lt (cited {n = m} {j = j} h c) =
      let le = rests_below root m lt h in
      let below = cited_below m j (omega (arith, le, lt)) c in
      omega (arith, le, below)

  module _ (place : ℕ → Option ℕ) (numbers : List ℕ) (up : Rises numbers) (i : ℕ) (lt : i < length numbers) where
    step_before : (s : Step) → IsKnownStep (length book) (get_or numbers i 0) s → StepIsClosed place numbers s → StepIsClosed place (take i numbers) s
    step_before (Cycle cycle) k h = h
    step_before (Input m) k h = h
    step_before (Earlier j) k h = stands_before numbers i j up lt h k
    step_before (Clash m) k h = h
    step_before (Either l) k h = h

    steps_before : (steps : List Step) → All (IsKnownStep (length book) (get_or numbers i 0)) steps → All (StepIsClosed place numbers) steps → All (StepIsClosed place (take i numbers)) steps
    steps_before [] k h = All-nil (StepIsClosed place (take i numbers))
    steps_before (s ∷ steps) k h =
        All-cons (StepIsClosed place (take i numbers)) s steps (step_before s (All-head (IsKnownStep (length book) (get_or numbers i 0)) s steps k) (All-head (StepIsClosed place numbers) s steps h))
        (steps_before steps (All-tail (IsKnownStep (length book) (get_or numbers i 0)) s steps k) (All-tail (StepIsClosed place numbers) s steps h))

    pub closed_before : (lemma : Lemma) → AreClosed lemmas place numbers → slice_get lemmas (get_or numbers i 0) ≡ Some lemma → All (StepIsClosed place (take i numbers)) lemma.steps
    closed_before lemma c is =
        let at : slice_get numbers i ≡ Some (get_or numbers i 0) = slice_get-get_or numbers i 0 lt in
        let here : All (StepIsClosed place numbers) (steps_at lemmas (get_or numbers i 0)) = all_at (IsClosed lemmas place numbers) numbers i (get_or numbers i 0) c.closed at in
        let same = steps_are lemmas (get_or numbers i 0) lemma lemma.steps is refl in
        steps_before lemma.steps (table.each (get_or numbers i 0) lemma is).known (subst (All (StepIsClosed place numbers)) (sym same) here)

    pub number_within : AreClosed lemmas place numbers → get_or numbers i 0 < length lemmas
    number_within c = all_at (λ (n : ℕ). n < length lemmas) numbers i (get_or numbers i 0) c.within (slice_get-get_or numbers i 0 lt)

-- ---- the same numbers in another order

closed_step : (place : ℕ → Option ℕ) (xs ys : List ℕ) → IsPermutation xs ys → (s : Step) → StepIsClosed place xs s → StepIsClosed place ys s
closed_step place xs ys same (Cycle cycle) h = h
closed_step place xs ys same (Input i) h = h
closed_step place xs ys same (Earlier j) h = Contains-permutation xs ys j same h
closed_step place xs ys same (Clash i) h = h
closed_step place xs ys same (Either l) h = h

pub closed_permuted : (lemmas : List Lemma) (place : ℕ → Option ℕ) (xs ys : List ℕ) → IsPermutation xs ys → AreClosed lemmas place xs → AreClosed lemmas place ys
closed_permuted lemmas place xs ys same c = record {
  within = All-permutation (λ (n : ℕ). n < length lemmas) xs ys same c.within;
  closed = All-permutation (IsClosed lemmas place ys) xs ys same
      (All-weaker (IsClosed lemmas place xs) (IsClosed lemmas place ys) (λ n h. All-weaker (StepIsClosed place xs) (StepIsClosed place ys) (closed_step place xs ys same) (steps_at lemmas n) h) xs c.closed);
}

-- ---- what a walk has come to, in order

-- what a reached lemma rests on is reached
all_reached : (lemmas : List Lemma) (place : ℕ → Option ℕ) (numbers : List ℕ) → AreClosed lemmas place numbers → (root : ℕ) → Contains numbers root → (n : ℕ) → RestsOn lemmas root n → Contains numbers n
all_reached lemmas place numbers c root there n itself = there
all_reached lemmas place numbers c root there n (cited {n = m} {j = j} h e) =
    let in_ = all_reached lemmas place numbers c root there m h in
    All-contains (StepIsClosed place numbers) (steps_at lemmas m) (Earlier j) (All-contains (IsClosed lemmas place numbers) numbers m c.closed in_) e

module _ (book : List (List Literal)) (lemmas : List Lemma) (points : List ℕ) (table : IsTable book lemmas points) (clauses : List (List Literal)) (root : ℕ) (within : root < length lemmas)
    (reached copied numbers : List ℕ) (same : copied ≡ reached) (shuffled : IsPermutation copied numbers) (there : Contains reached root) (rests : All (RestsOn lemmas root) reached) where
  numbers_rest : All (RestsOn lemmas root) numbers
  numbers_rest = All-permutation (RestsOn lemmas root) copied numbers shuffled (subst (All (RestsOn lemmas root)) (sym same) rests)

  root_there : Contains numbers root
  root_there = Contains-permutation copied numbers root shuffled (subst (λ (xs : List ℕ). Contains xs root) (sym same) there)

  root_last : Rises numbers → slice_get numbers (length numbers - 1) ≡ Some root
  root_last up =
      last_greatest numbers root up root_there
      (All-weaker (RestsOn lemmas root) (λ (n : ℕ). n ≤ root) (λ n h. rests_below book lemmas points table root n within h) numbers numbers_rest)

  pub as_lowered : (place : ℕ → Option ℕ) (made : List Lemma) → Rises numbers → IsDistinct nat_eq copied → AreClosed lemmas place numbers → AreWrittenOut clauses book lemmas numbers made → IsLowered clauses book lemmas root made
  as_lowered place made up distinct closed written = record {
    numbers = numbers;
    last = root_last up;
    rests = numbers_rest;
    whole = all_reached lemmas place numbers closed root root_there;
    mounts = mounts_distinct numbers up (IsDistinct-IsPermutation nat_eq (λ x y. grind (arith, nat_tests)) copied numbers shuffled distinct);
    written = written;
  }
