-- Steps by the problem's numbers, one after the other.
use Rattle.std.proofs.Common.{arith, ◌≡◌, ℕ, ◌<◌, ◌≤◌, inl, inr, List, [], ◌∷◌, ◌++◌, length, get_or, Option, Some, Contains, refl, sym, ap, subst, ◌∙◌, append_assoc}
use Rattle.std.specs.Prelude.{slice_get, Result, Ok, Err, OnOk, MatchResult}
use Rattle.std.specs.Result.{IsOk}
use Rattle.std.specs.Ordering.{nat_cmp}
use Rattle.std.specs.List.Sorted.{IsBinarySearchResult}
use Rattle.std.proofs.lemmas.Bool.{cases_lt}
use Rattle.std.proofs.lemmas.List.{get_or_default}
use Rattle.std.proofs.lemmas.List.Elements.{AllZip-push}
use Rattle.std.proofs.lemmas.List.Sorted.{searched}
use Rattle.std.proofs.lemmas.Option.{slice_get-get_or}
use Rattle.refute_tree.specs.declared.step.Step.{Step}
use Rattle.refute_tree.specs.declared.step.Step.TheVariants.{Input, Lemma as Earlier, Clash}
use Rattle.lemma_shelf.specs.code.Tables.{StepIsClosed}
use Rattle.lemma_shelf.specs.code.WrittenOut.{IsPlaced, placed_input, placed_clash, placed_earlier, ArePlaced, AddsPlaced, Rises}

on_ok : {A E : Type 0} {P Q : Type 0} (r : Result A E) → (P → Q) → OnOk r P → OnOk r Q
on_ok (Ok x) f h = f h
on_ok (Err e) f h = h

-- what a search finds, and that it finds it
found_result : (xs : List ℕ) (n : ℕ) (r : Result ℕ ℕ) → MatchResult r (λ (i : ℕ). (i < length xs) × (get_or xs i 0 ≡ n)) (λ (i : ℕ). (i ≤ length xs) × ((k : ℕ) → k < i → get_or xs k 0 < n) × ((k : ℕ) → i ≤ k → k < length xs → n < get_or xs k 0)) → Contains xs n → (i : ℕ) × (r ≡ Ok i) × (slice_get xs i ≡ Some n)
found_result xs n (Ok i) h in_ = (i, refl, slice_get-get_or xs i 0 h.0 ∙ ap (λ (m : ℕ). Some m) h.1)
found_result xs n (Err i) h (k, lt, e) =
    let same : get_or xs k 0 ≡ n = get_or_default xs k 0 n lt ∙ e in
    elim (cases_lt k i) [
      | inl p ↦ let below = h.1 k p in absurd (omega (arith, below, same))
      | inr p ↦ let above = h.2 k p lt in absurd (omega (arith, above, same))
    ]

pub number_found : (xs : List ℕ) (n : ℕ) (r : Result ℕ ℕ) → Rises xs → Contains xs n → IsBinarySearchResult (λ y. nat_cmp y n) xs r → (i : ℕ) × (r ≡ Ok i) × (slice_get xs i ≡ Some n)
number_found xs n r up in_ h = found_result xs n r (searched xs n r h up) in_

pub number_ok : (xs : List ℕ) (n : ℕ) (r : Result ℕ ℕ) → Rises xs → Contains xs n → IsBinarySearchResult (λ y. nat_cmp y n) xs r → IsOk r
number_ok xs n r up in_ h = let found = number_found xs n r up in_ h in subst (λ (x : Result ℕ ℕ). IsOk x) (sym found.1) refl

pub number_at : (xs : List ℕ) (n : ℕ) (r : Result ℕ ℕ) (j : ℕ) → Rises xs → Contains xs n → IsBinarySearchResult (λ y. nat_cmp y n) xs r → r ≡ Ok j → slice_get xs j ≡ Some n
number_at xs n r j up in_ h is =
    let found = number_found xs n r up in_ h in
    let both : Ok found.0 ≡ Ok j = sym found.1 ∙ is in
    let same : found.0 ≡ j = cc in
    subst (λ (i : ℕ). slice_get xs i ≡ Some n) same found.2

module _ (place : ℕ → Option ℕ) (before : List ℕ) (step : Step) where
  pub lemma_is_before : (n : ℕ) → StepIsClosed place before step → step ≡ Earlier n → Contains before n
  lemma_is_before n h e = subst (StepIsClosed place before) e h

  module _ (made next : List Step) where
    pub adds_input : {A E : Type 0} (r : Result A E) (n i : ℕ) → step ≡ Input n → place n ≡ Some i → OnOk r (next ≡ made ++ Input i ∷ []) → OnOk r (AddsPlaced place before step made next)
    adds_input r n i e is h = on_ok r (λ g. (Input i, g, subst (λ (s : Step). IsPlaced place before s (Input i)) (sym e) (placed_input is))) h

    pub adds_clash : {A E : Type 0} (r : Result A E) (n i : ℕ) → step ≡ Clash n → place n ≡ Some i → OnOk r (next ≡ made ++ Clash i ∷ []) → OnOk r (AddsPlaced place before step made next)
    adds_clash r n i e is h = on_ok r (λ g. (Clash i, g, subst (λ (s : Step). IsPlaced place before s (Clash i)) (sym e) (placed_clash is))) h

    pub adds_lemma : {A E : Type 0} (r : Result A E) (n j : ℕ) → step ≡ Earlier n → slice_get before j ≡ Some n → OnOk r (next ≡ made ++ Earlier j ∷ []) → OnOk r (AddsPlaced place before step made next)
    adds_lemma r n j e is h = on_ok r (λ g. (Earlier j, g, subst (λ (s : Step). IsPlaced place before s (Earlier j)) (sym e) (placed_earlier is))) h

    pub adds_itself : {A E : Type 0} (r : Result A E) → IsPlaced place before step step → OnOk r (next ≡ made ++ step ∷ []) → OnOk r (AddsPlaced place before step made next)
    adds_itself r is h = on_ok r (λ g. (step, g, is)) h

pub next_done : (place : ℕ → Option ℕ) (numbers : List ℕ) (all before after : List Step) (s : Step) (made next : List Step) → before ≡ s ∷ after → ((done : List Step) × (all ≡ done ++ before) × ArePlaced place numbers done made) → AddsPlaced place numbers s made next → (done : List Step) × (all ≡ done ++ after) × ArePlaced place numbers done next
next_done place numbers all before after s made next e done adds = (
  done.0 ++ s ∷ [],
  done.1 ∙ ap (λ (xs : List Step). done.0 ++ xs) e ∙ sym (append_assoc done.0 (s ∷ []) after),
  subst (ArePlaced place numbers (done.0 ++ s ∷ [])) (sym adds.1) (AllZip-push (IsPlaced place numbers) done.0 made s adds.0 done.2 adds.2),
)
