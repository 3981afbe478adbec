-- Places among the marked ones.
use Rattle.std.proofs.Common.{arith, inl, inr, ◌≡◌, ◌<◌, ◌≤◌, ◌+◌, ◌-◌, ℕ, zero, suc, Bool, true, false, List, [], ◌∷◌, ◌++◌, length, map, refl, sym, ap, subst, ◌∙◌, get_or}
use Rattle.std.specs.Prelude.{nat_lt, if◌then◌else◌}
use Rattle.std.proofs.lemmas.Bool.{cases_lt}
use Rattle.std.proofs.lemmas.Bool.Decides.{nat_tests}
use Rattle.refute_tree.specs.declared.step.Step.{Step}
use Rattle.refute_tree.specs.declared.step.Step.TheVariants.{Cycle, Input, Lemma as Earlier, Clash, Either}
use Rattle.refute_tree.specs.declared.lemma.Lemma.{Lemma}
use Rattle.refute_tree.specs.Moves.{NoneGrows}
use Rattle.trim_lemmas.specs.declared.places.Places.{Places}
use Rattle.trim_lemmas.specs.Trimming.{place, renumbered_number, renumbered_step, renumbered}
use Rattle.trim_lemmas.specs.code.Marks.{ArePlaces, number_by, step_by, lemma_by}

pub place_zero : (bs : List Bool) → place bs 0 ≡ 0
place_zero [] = refl
place_zero (true ∷ bs) = refl
place_zero (false ∷ bs) = refl

pub place_within : (bs : List Bool) (j : ℕ) → place bs j ≤ j
place_within [] j = omega arith
place_within (true ∷ bs) zero = omega arith
place_within (false ∷ bs) zero = omega arith
place_within (true ∷ bs) (suc j) = let h = place_within bs j in omega arith
place_within (false ∷ bs) (suc j) = let h = place_within bs j in omega arith

abbrev pub count_if : Bool → ℕ
count_if true = 1
count_if false = 0

place_suc : (bs : List Bool) (j : ℕ) → place bs (suc j) ≡ place bs j + count_if (get_or bs j false)
place_suc [] j = refl
place_suc (true ∷ []) zero = refl
place_suc (false ∷ []) zero = refl
place_suc (true ∷ b ∷ bs) zero = refl
place_suc (false ∷ b ∷ bs) zero = refl
place_suc (true ∷ bs) (suc j) = let h = place_suc bs j in omega arith
place_suc (false ∷ bs) (suc j) = place_suc bs j

pub place_more : (bs : List Bool) (j : ℕ) (b : Bool) → get_or bs j false ≡ b → place bs (j + 1) ≡ place bs j + count_if b
place_more bs j b e =
    let next : suc j ≡ j + 1 = omega arith in
    subst (λ (n : ℕ). place bs n ≡ place bs j + count_if b) next (place_suc bs j ∙ ap (λ c. place bs j + count_if c) e)

place_past : (bs : List Bool) (j : ℕ) → length bs ≤ j → place bs j ≡ place bs (length bs)
place_past [] j le = refl
place_past (true ∷ bs) zero le = absurd (omega arith)
place_past (false ∷ bs) zero le = absurd (omega arith)
place_past (true ∷ bs) (suc j) le = ap suc (place_past bs j (omega arith))
place_past (false ∷ bs) (suc j) le = place_past bs j (omega arith)

get_beyond : (xs : List ℕ) (j d : ℕ) → length xs ≤ j → get_or xs j d ≡ d
get_beyond [] j d le = refl
get_beyond (x ∷ xs) zero d le = absurd (omega arith)
get_beyond (x ∷ xs) (suc j) d le = get_beyond xs j d (omega arith)

get_within : (xs : List ℕ) (j d e : ℕ) → j < length xs → get_or xs j d ≡ get_or xs j e
get_within [] j d e lt = absurd (omega arith)
get_within (x ∷ xs) zero d e lt = refl
get_within (x ∷ xs) (suc j) d e lt = get_within xs j d e (omega arith)

get_at : (xs : List ℕ) (x j : ℕ) → j ≡ length xs → get_or (xs ++ x ∷ []) j 0 ≡ x
get_at [] x zero e = refl
get_at [] x (suc j) e = absurd (omega arith)
get_at (y ∷ xs) x zero e = absurd (omega arith)
get_at (y ∷ xs) x (suc j) e = get_at xs x j (omega arith)

get_front : (xs ys : List ℕ) (j : ℕ) → j < length xs → get_or (xs ++ ys) j 0 ≡ get_or xs j 0
get_front [] ys j lt = absurd (omega arith)
get_front (x ∷ xs) ys zero lt = refl
get_front (x ∷ xs) ys (suc j) lt = get_front xs ys j (omega arith)

pub are_places : (seen : ℕ) (bs : List Bool) (numbers : List ℕ) (end : ℕ) → length numbers ≡ length bs → ((j : ℕ) → j < length bs → get_or numbers j 0 ≡ seen + place bs j) → end ≡ seen + place bs (length bs)
    → (j : ℕ) → get_or numbers j end ≡ seen + place bs j
are_places seen bs numbers end long each all j = elim (cases_lt j (length bs)) [
  | inl lt ↦ get_within numbers j end 0 (omega (arith, long)) ∙ each j lt
  | inr ge ↦ get_beyond numbers j end (omega (arith, long)) ∙ (all ∙ ap (λ n. seen + n) (sym (place_past bs j ge)))
]

-- a turn of the loop that makes the table
pub get_pushed : (seen : ℕ) (bs : List Bool) (numbers : List ℕ) (i end : ℕ) → length numbers ≡ i → end ≡ seen + place bs i → ((j : ℕ) → j < i → get_or numbers j 0 ≡ seen + place bs j)
    → (j : ℕ) → j < i + 1 → get_or (numbers ++ end ∷ []) j 0 ≡ seen + place bs j
get_pushed seen bs numbers i end long all each j lt = elim (cases_lt j i) [
  | inl below ↦ get_front numbers (end ∷ []) j (omega (arith, long)) ∙ each j below
  | inr above ↦ (let same : j ≡ i = omega arith in get_at numbers end j (omega (arith, long)) ∙ (all ∙ ap (λ n. seen + place bs n) (sym same)))
]

renumbered_within : (seen : ℕ) (bs : List Bool) (j : ℕ) (b : Bool) → nat_lt j seen ≡ b → (if b then j else seen + place bs (j - seen)) ≤ j
renumbered_within seen bs j true is = omega arith
renumbered_within seen bs j false is =
    let ge : seen ≤ j = grind (arith, nat_tests) in
    let h = place_within bs (j - seen) in omega arith

-- what the table renumbers is renumbered by the places
module _ (seen : ℕ) (bs : List Bool) (places : Places) (h : ArePlaces seen bs places) where
  number_same : (j : ℕ) → number_by places j ≡ renumbered_number seen bs j
  number_same j =
      ap (λ (n : ℕ). if nat_lt j n then j else get_or places.numbers.items (j - n) places.end) h.0
      ∙ ap (λ (n : ℕ). if nat_lt j seen then j else n) (h.1 (j - seen))

  pub none_grows : NoneGrows (number_by places)
  none_grows j = subst (λ (n : ℕ). n ≤ j) (sym (number_same j)) (renumbered_within seen bs j (nat_lt j seen) refl)

  step_same : (s : Step) → step_by places s ≡ renumbered_step seen bs s
  step_same (Cycle cycle) = refl
  step_same (Input i) = refl
  step_same (Earlier j) = ap Earlier (number_same j)
  step_same (Clash i) = refl
  step_same (Either l) = refl

  steps_same : (steps : List Step) → map (step_by places) steps ≡ map (renumbered_step seen bs) steps
  steps_same [] = refl
  steps_same (s ∷ steps) = ap (λ t. t ∷ map (step_by places) steps) (step_same s) ∙ ap (λ ts. renumbered_step seen bs s ∷ ts) (steps_same steps)

  pub lemmas_same : (lemmas : List Lemma) → map (lemma_by places) lemmas ≡ map (renumbered seen bs) lemmas
  lemmas_same [] = refl
  lemmas_same (lemma ∷ lemmas) =
      ap (λ (steps : List Step). record { clause = lemma.clause; steps = steps } ∷ map (lemma_by places) lemmas) (steps_same lemma.steps)
      ∙ ap (λ ls. renumbered seen bs lemma ∷ ls) (lemmas_same lemmas)
