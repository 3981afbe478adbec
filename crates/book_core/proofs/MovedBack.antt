-- A batch that was moved, and is moved back.
use Rattle.std.proofs.Common.{arith, ◌≡◌, ℕ, ◌<◌, ◌≤◌, ◌+◌, ◌-◌, inl, inr, List, [], ◌∷◌, length, map, Bool, true, false, All, refl, sym, ap, ◌∙◌, subst}
use Rattle.std.specs.Prelude.{nat_lt, if◌then◌else◌}
use Rattle.std.proofs.lemmas.Bool.{cases_lt}
use Rattle.std.proofs.lemmas.Bool.Decides.{nat_tests}
use Rattle.std.proofs.lemmas.List.{length-map}
use Rattle.std.proofs.lemmas.List.Elements.{All-map, All-weaker}
use Rattle.refute_tree.specs.declared.step.Step.{Step}
use Rattle.refute_tree.specs.declared.step.Step.TheVariants.{Cycle, Input, Lemma as Earlier, Clash, Either}
use Rattle.refute_tree.specs.declared.lemma.Lemma.{Lemma}
use Rattle.refute_tree.specs.Limits.{lemmas_limit}
use Rattle.refute_tree.specs.Moves.{moved_number, moved_step}
use Rattle.refute_tree.specs.Batches.{LemmaBatch, moved, moved_lemma, RefersBelow, LemmaRefersBelow}
use Rattle.book_core.specs.code.Handed.{handed_in, IsMovable}

number_low : (seen base j : ℕ) → j < seen → moved_number seen base j ≡ j
number_low seen base j lt = let t : nat_lt j seen ≡ true = grind (arith, nat_tests) in ap (λ (b : Bool). if b then j else (j - seen) + base) t

number_high : (seen base j : ℕ) → seen ≤ j → moved_number seen base j ≡ (j - seen) + base
number_high seen base j le = let t : nat_lt j seen ≡ false = grind (arith, nat_tests) in ap (λ (b : Bool). if b then j else (j - seen) + base) t

number_back : (seen base j : ℕ) → seen ≤ base → moved_number base seen (moved_number seen base j) ≡ j
number_back seen base j le = elim (cases_lt j seen) [
  | inl low ↦ ap (moved_number base seen) (number_low seen base j low) ∙ number_low base seen j (omega arith)
  | inr high ↦ ap (moved_number base seen) (number_high seen base j high) ∙ (number_high base seen ((j - seen) + base) (omega arith) ∙ omega arith)
]

number_below : (seen base count j : ℕ) → seen ≤ base → j < seen + count → moved_number seen base j < base + count
number_below seen base count j le lt = elim (cases_lt j seen) [
  | inl low ↦ omega (arith, number_low seen base j low)
  | inr high ↦ omega (arith, number_high seen base j high)
]

module _ (seen base : ℕ) (le : seen ≤ base) where
  step_back : (s : Step) → moved_step base seen (moved_step seen base s) ≡ s
  step_back (Cycle cycle) = refl
  step_back (Input i) = refl
  step_back (Earlier j) = ap (λ (n : ℕ). Earlier n) (number_back seen base j le)
  step_back (Clash i) = refl
  step_back (Either l) = refl

  steps_back : (steps : List Step) → map (moved_step base seen) (map (moved_step seen base) steps) ≡ steps
  steps_back [] = refl
  steps_back (s ∷ steps) =
      ap (λ (t : Step). t ∷ map (moved_step base seen) (map (moved_step seen base) steps)) (step_back s) ∙ ap (λ (ts : List Step). s ∷ ts) (steps_back steps)

  lemma_back : (lemma : Lemma) → moved_lemma base seen (moved_lemma seen base lemma) ≡ lemma
  lemma_back lemma = ap (λ (ss : List Step). record { clause = lemma.clause; steps = ss }) (steps_back lemma.steps)

  lemmas_back : (lemmas : List Lemma) → map (moved_lemma base seen) (map (moved_lemma seen base) lemmas) ≡ lemmas
  lemmas_back [] = refl
  lemmas_back (l ∷ lemmas) =
      ap (λ (m : Lemma). m ∷ map (moved_lemma base seen) (map (moved_lemma seen base) lemmas)) (lemma_back l) ∙ ap (λ (ms : List Lemma). l ∷ ms) (lemmas_back lemmas)

  step_below : (count : ℕ) (s : Step) → RefersBelow (seen + count) s → RefersBelow (base + count) (moved_step seen base s)
  step_below count (Cycle cycle) h = tt
  step_below count (Input i) h = tt
  step_below count (Earlier j) h = number_below seen base count j le h
  step_below count (Clash i) h = tt
  step_below count (Either l) h = tt

  lemma_below : (count : ℕ) (lemma : Lemma) → LemmaRefersBelow (seen + count) lemma → LemmaRefersBelow (base + count) (moved_lemma seen base lemma)
  lemma_below count lemma h =
      All-map (RefersBelow (base + count)) (moved_step seen base) lemma.steps
      (All-weaker (RefersBelow (seen + count)) (λ (s : Step). RefersBelow (base + count) (moved_step seen base s)) (step_below count) lemma.steps h)

-- the published lemmas, moved back, are the batch's
pub moved_back : (batch : LemmaBatch) (base : ℕ) (published : List Lemma) → batch.seen ≤ base → published ≡ (moved base batch).lemmas → handed_in batch.seen base published ≡ batch
moved_back batch base published le e =
    ap (λ (ls : List Lemma). handed_in batch.seen base ls) e ∙ ap (λ (ls : List Lemma). record { seen = batch.seen; lemmas = ls }) (lemmas_back batch.seen base le batch.lemmas)

pub movable : (batch : LemmaBatch) (base : ℕ) (published : List Lemma) → batch.seen ≤ base → All (LemmaRefersBelow (batch.seen + length batch.lemmas)) batch.lemmas → base + length batch.lemmas ≤ lemmas_limit → published ≡ (moved base batch).lemmas → IsMovable batch.seen base published
movable batch base published le below small e =
    let n : ℕ = length batch.lemmas in
    let count : length published ≡ n = ap (λ (ls : List Lemma). length ls) e ∙ length-map batch.lemmas (moved_lemma batch.seen base) in
    let there : All (LemmaRefersBelow (base + n)) (map (moved_lemma batch.seen base) batch.lemmas) =
    All-map (LemmaRefersBelow (base + n)) (moved_lemma batch.seen base) batch.lemmas
    (All-weaker (LemmaRefersBelow (batch.seen + n)) (λ (l : Lemma). LemmaRefersBelow (base + n) (moved_lemma batch.seen base l)) (lemma_below batch.seen base le n) batch.lemmas below) in
    record {
      below = subst (λ (k : ℕ). All (LemmaRefersBelow (base + k)) published) (sym count) (subst (All (LemmaRefersBelow (base + n))) (sym e) there);
      fits = omega (arith, count);
    }
