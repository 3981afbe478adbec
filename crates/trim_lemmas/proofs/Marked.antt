-- The lemmas that are marked are the needed ones.
use Rattle.std.proofs.Common.{arith, ◌≡◌, ◌<◌, ◌≤◌, ◌+◌, ◌-◌, ◌⊎◌, inl, inr, ℕ, zero, suc, Bool, true, false, List, [], ◌∷◌, length, All, Contains, refl, sym, ap, subst, ◌∙◌, get_or, set, replicate}
use Rattle.std.specs.Prelude.{nat_lt, if◌then◌else◌}
use Rattle.std.proofs.lemmas.Bool.{cases_lt}
use Rattle.std.proofs.lemmas.Bool.Decides.{nat_tests}
use Rattle.std.proofs.lemmas.Option.{slice_get-get_or, get_or_from_slice_get}
use Rattle.std.proofs.lemmas.List.{get_or-set_same, length-set, length-replicate}
use Rattle.refute_tree.specs.declared.step.Step.{Step}
use Rattle.refute_tree.specs.declared.step.Step.TheVariants.{Cycle, Input, Lemma as Earlier, Clash, Either}
use Rattle.refute_tree.specs.declared.lemma.Lemma.{Lemma}
use Rattle.trim_lemmas.specs.Trimming.{Cites, IsNeeded, root, cited, AreNeeded, IsLast, IsWanted}
use Rattle.trim_lemmas.specs.code.Marks.{marked_number, marked_step, marked, steps_at, marked_by, swept, with_last}

abbrev IsMarked : List Bool → ℕ → Type 0
IsMarked bs j = get_or bs j false ≡ true

set_keeps : (bs : List Bool) (i j : ℕ) → IsMarked bs j → IsMarked (set bs i true) j
set_keeps [] i j h = h
set_keeps (b ∷ bs) zero zero h = refl
set_keeps (b ∷ bs) zero (suc j) h = h
set_keeps (b ∷ bs) (suc i) zero h = h
set_keeps (b ∷ bs) (suc i) (suc j) h = set_keeps bs i j h

set_sound : (bs : List Bool) (i j : ℕ) → IsMarked (set bs i true) j → IsMarked bs j ⊎ ((j ≡ i) × (i < length bs))
set_sound [] i j h = inl h
set_sound (b ∷ bs) zero zero h = inr (refl, omega arith)
set_sound (b ∷ bs) zero (suc j) h = inl h
set_sound (b ∷ bs) (suc i) zero h = inl h
set_sound (b ∷ bs) (suc i) (suc j) h = elim (set_sound bs i j h) [ inl a ↦ inl a | inr b ↦ inr (omega (arith, b.0), omega (arith, b.1)) ]

pub marked_within : (bs : List Bool) (j : ℕ) → IsMarked bs j → j < length bs
marked_within [] j h = absurd (cc)
marked_within (b ∷ bs) zero h = omega arith
marked_within (b ∷ bs) (suc j) h = let less = marked_within bs j h in omega arith

-- ---- a step

length_number : (b : Bool) (bs : List Bool) (j : ℕ) → length (if b then set bs j true else bs) ≡ length bs
length_number true bs j = length-set bs j true
length_number false bs j = refl

length_if : (number : ℕ) (b : Bool) (bs : List Bool) (j : ℕ) → length (if b then bs else marked_number number j bs) ≡ length bs
length_if number true bs j = refl
length_if number false bs j = length_number (nat_lt j number) bs j

length_step : (seen number : ℕ) (s : Step) (bs : List Bool) → length (marked_step seen number s bs) ≡ length bs
length_step seen number (Cycle cycle) bs = refl
length_step seen number (Input i) bs = refl
length_step seen number (Earlier j) bs = length_if number (nat_lt j seen) bs (j - seen)
length_step seen number (Clash i) bs = refl
length_step seen number (Either l) bs = refl

keeps_number : (b : Bool) (bs : List Bool) (i j : ℕ) → IsMarked bs j → IsMarked (if b then set bs i true else bs) j
keeps_number true bs i j h = set_keeps bs i j h
keeps_number false bs i j h = h

keeps_if : (number : ℕ) (b : Bool) (bs : List Bool) (i j : ℕ) → IsMarked bs j → IsMarked (if b then bs else marked_number number i bs) j
keeps_if number true bs i j h = h
keeps_if number false bs i j h = keeps_number (nat_lt i number) bs i j h

step_keeps : (seen number : ℕ) (s : Step) (bs : List Bool) (j : ℕ) → IsMarked bs j → IsMarked (marked_step seen number s bs) j
step_keeps seen number (Cycle cycle) bs j h = h
step_keeps seen number (Input i) bs j h = h
step_keeps seen number (Earlier i) bs j h = keeps_if number (nat_lt i seen) bs (i - seen) j h
step_keeps seen number (Clash i) bs j h = h
step_keeps seen number (Either l) bs j h = h

sound_number : (number : ℕ) (b : Bool) (bs : List Bool) (i j : ℕ) → nat_lt i number ≡ b → IsMarked (if b then set bs i true else bs) j → IsMarked bs j ⊎ ((j < number) × (j ≡ i))
sound_number number true bs i j e h = elim (set_sound bs i j h) [
  | inl a ↦ inl a
  | inr b ↦ inr ((let lt : i < number = grind (arith, nat_tests) in omega (arith, b.0)), b.0)
]
sound_number number false bs i j e h = inl h

sound_if : (seen number : ℕ) (b : Bool) (bs : List Bool) (i j : ℕ) → nat_lt i seen ≡ b → IsMarked (if b then bs else marked_number number (i - seen) bs) j → IsMarked bs j ⊎ ((j < number) × (Earlier i ≡ Earlier (seen + j)))
sound_if seen number true bs i j e h = inl h
sound_if seen number false bs i j e h = elim (sound_number number (nat_lt (i - seen) number) bs (i - seen) j refl h) [
  | inl a ↦ inl a
  | inr b ↦ (let above : seen ≤ i = grind (arith, nat_tests) in inr (b.0, ap Earlier (omega (arith, b.1))))
]

step_sound : (seen number : ℕ) (s : Step) (bs : List Bool) (j : ℕ) → IsMarked (marked_step seen number s bs) j → IsMarked bs j ⊎ ((j < number) × (s ≡ Earlier (seen + j)))
step_sound seen number (Cycle cycle) bs j h = inl h
step_sound seen number (Input i) bs j h = inl h
step_sound seen number (Earlier i) bs j h = sound_if seen number (nat_lt i seen) bs i j refl h
step_sound seen number (Clash i) bs j h = inl h
step_sound seen number (Either l) bs j h = inl h

marks_number : (number : ℕ) (b : Bool) (bs : List Bool) (j : ℕ) → nat_lt j number ≡ b → j < number → j < length bs → IsMarked (if b then set bs j true else bs) j
marks_number number true bs j e lt in_ = get_or-set_same bs j true false in_
marks_number number false bs j e lt in_ = absurd (grind (arith, nat_tests))

marks_if : (seen number : ℕ) (b : Bool) (bs : List Bool) (j : ℕ) → nat_lt (seen + j) seen ≡ b → j < number → j < length bs → IsMarked (if b then bs else marked_number number ((seen + j) - seen) bs) j
marks_if seen number true bs j e lt in_ = (let below : seen + j < seen = grind (arith, nat_tests) in absurd (omega (arith, below)))
marks_if seen number false bs j e lt in_ =
    let same : j ≡ (seen + j) - seen = omega arith in
    subst (λ (i : ℕ). IsMarked (marked_number number i bs) j) same (marks_number number (nat_lt j number) bs j refl lt in_)

-- ---- the steps of a lemma

pub length_marked : (seen number : ℕ) (steps : List Step) (bs : List Bool) → length (marked seen number steps bs) ≡ length bs
length_marked seen number [] bs = refl
length_marked seen number (s ∷ steps) bs = length_marked seen number steps (marked_step seen number s bs) ∙ length_step seen number s bs

marked_keeps : (seen number : ℕ) (steps : List Step) (bs : List Bool) (j : ℕ) → IsMarked bs j → IsMarked (marked seen number steps bs) j
marked_keeps seen number [] bs j h = h
marked_keeps seen number (s ∷ steps) bs j h = marked_keeps seen number steps (marked_step seen number s bs) j (step_keeps seen number s bs j h)

contains_more : (s : Step) (steps : List Step) (x : Step) → Contains steps x → Contains (s ∷ steps) x
contains_more s steps x (k, lt, e) = (suc k, omega (arith, lt), e)

marked_sound : (seen number : ℕ) (steps : List Step) (bs : List Bool) (j : ℕ) → IsMarked (marked seen number steps bs) j → IsMarked bs j ⊎ ((j < number) × Contains steps (Earlier (seen + j)))
marked_sound seen number [] bs j h = inl h
marked_sound seen number (s ∷ steps) bs j h = elim (marked_sound seen number steps (marked_step seen number s bs) j h) [
  | inl a ↦ elim (step_sound seen number s bs j a) [
    | inl c ↦ inl c
    | inr c ↦ inr (c.0, (0, omega arith, c.1))
  ]
  | inr b ↦ inr (b.0, contains_more s steps (Earlier (seen + j)) b.1)
]

marked_cited : (seen number : ℕ) (steps : List Step) (bs : List Bool) (j n : ℕ) → n < length steps → get_or steps n (Earlier (seen + j)) ≡ Earlier (seen + j) → j < number → j < length bs → IsMarked (marked seen number steps bs) j
marked_cited seen number [] bs j n lt e below in_ = absurd (omega (arith, lt))
marked_cited seen number (s ∷ steps) bs j zero lt e below in_ =
    let here : IsMarked (marked_step seen number s bs) j = subst (λ (t : Step). IsMarked (marked_step seen number t bs) j) (sym e) (marks_if seen number (nat_lt (seen + j) seen) bs j refl below in_) in
    marked_keeps seen number steps (marked_step seen number s bs) j here
marked_cited seen number (s ∷ steps) bs j (suc n) lt e below in_ = marked_cited seen number steps (marked_step seen number s bs) j n (omega (arith, lt)) e below (omega (arith, length_step seen number s bs))

-- ---- all lemmas

module _ (seen : ℕ) (lemmas : List Lemma) where
  by_length : (k : ℕ) (b : Bool) (bs : List Bool) → length (if b then marked seen k (steps_at lemmas k) bs else bs) ≡ length bs
  by_length k true bs = length_marked seen k (steps_at lemmas k) bs
  by_length k false bs = refl

  pub length_by : (k : ℕ) (bs : List Bool) → length (marked_by seen lemmas k bs) ≡ length bs
  length_by k bs = by_length k (get_or bs k false) bs

  by_keeps : (k : ℕ) (b : Bool) (bs : List Bool) (j : ℕ) → IsMarked bs j → IsMarked (if b then marked seen k (steps_at lemmas k) bs else bs) j
  by_keeps k true bs j h = marked_keeps seen k (steps_at lemmas k) bs j h
  by_keeps k false bs j h = h

  by_sound : (k : ℕ) (b : Bool) (bs : List Bool) (j : ℕ) → get_or bs k false ≡ b → IsMarked (if b then marked seen k (steps_at lemmas k) bs else bs) j
      → IsMarked bs j ⊎ (IsMarked bs k × (j < k) × Contains (steps_at lemmas k) (Earlier (seen + j)))
  by_sound k true bs j e h = elim (marked_sound seen k (steps_at lemmas k) bs j h) [ inl a ↦ inl a | inr b ↦ inr (e, b.0, b.1) ]
  by_sound k false bs j e h = inl h

  swept_keeps : (k : ℕ) (bs : List Bool) (j : ℕ) → IsMarked bs j → IsMarked (swept seen k lemmas bs) j
  swept_keeps zero bs j h = h
  swept_keeps (suc k) bs j h = swept_keeps k (marked_by seen lemmas k bs) j (by_keeps k (get_or bs k false) bs j h)

  swept_above : (k : ℕ) (bs : List Bool) (j : ℕ) → k ≤ j → IsMarked (swept seen k lemmas bs) j → IsMarked bs j
  swept_above zero bs j le h = h
  swept_above (suc k) bs j le h = elim (by_sound k (get_or bs k false) bs j refl (swept_above k (marked_by seen lemmas k bs) j (omega arith) h)) [
    | inl a ↦ a
    | inr b ↦ absurd (omega (arith, b.1))
  ]

  no_lemma : Lemma
  no_lemma = record { clause = []; steps = [] }

  cites_at : (k j : ℕ) → k < length lemmas → j < k → Contains (steps_at lemmas k) (Earlier (seen + j)) → Cites seen lemmas k j
  cites_at k j in_ lt c = record { lemma = get_or lemmas k (record { clause = []; steps = [] }); at = slice_get-get_or lemmas k (record { clause = []; steps = [] }) in_; before = lt; cited = c }

  swept_sound : (Root : ℕ → Type 0) (k : ℕ) (bs : List Bool) → k ≤ length lemmas → ((j : ℕ) → IsMarked bs j → IsNeeded Root seen lemmas j) → (j : ℕ) → IsMarked (swept seen k lemmas bs) j → IsNeeded Root seen lemmas j
  swept_sound Root zero bs le h j m = h j m
  swept_sound Root (suc k) bs le h j m = swept_sound Root k (marked_by seen lemmas k bs) (omega arith) step j m
    where
      step : (i : ℕ) → IsMarked (marked_by seen lemmas k bs) i → IsNeeded Root seen lemmas i
      step i n = elim (by_sound k (get_or bs k false) bs i refl n) [
        | inl a ↦ h i a
        | inr b ↦ cited (h k b.0) (cites_at k i (omega arith) b.1 b.2)
      ]

  steps_of : (k j : ℕ) → (c : Cites seen lemmas k j) → Contains (steps_at lemmas k) (Earlier (seen + j))
  steps_of k j c =
      let same : get_or lemmas k (record { clause = []; steps = [] }) ≡ c.lemma = get_or_from_slice_get lemmas k c.lemma (record { clause = []; steps = [] }) c.at in
      subst (λ (l : Lemma). Contains l.steps (Earlier (seen + j))) (sym same) c.cited

  at_number : (k : ℕ) (bs : List Bool) (b : Bool) → get_or bs k false ≡ b → length bs ≡ length lemmas → k < length lemmas → (j : ℕ)
      → IsMarked (if b then marked seen k (steps_at lemmas k) bs else bs) k → Cites seen lemmas k j → IsMarked (if b then marked seen k (steps_at lemmas k) bs else bs) j
  at_number k bs true e long lt j m c =
      let h = steps_of k j c in
      marked_cited seen k (steps_at lemmas k) bs j h.0 h.1 h.2 c.before (omega (arith, c.before, long))
  at_number k bs false e long lt j m c = absurd (cc)

  swept_closed : (k : ℕ) (bs : List Bool) → length bs ≡ length lemmas → k ≤ length lemmas → (i j : ℕ) → i < k → IsMarked (swept seen k lemmas bs) i → Cites seen lemmas i j → IsMarked (swept seen k lemmas bs) j
  swept_closed zero bs long le i j lt m c = absurd (omega arith)
  swept_closed (suc k) bs long le i j lt m c = elim (cases_lt i k) [
    | inl below ↦ swept_closed k (marked_by seen lemmas k bs) (length_by k bs ∙ long) (omega arith) i j below m c
    | inr above ↦
        let same : i ≡ k = omega arith in
        let m_k : IsMarked (swept seen k lemmas (marked_by seen lemmas k bs)) k = subst (IsMarked (swept seen k lemmas (marked_by seen lemmas k bs))) same m in
        let c_k : Cites seen lemmas k j = subst (λ (n : ℕ). Cites seen lemmas n j) same c in
        swept_keeps k (marked_by seen lemmas k bs) j (at_number k bs (get_or bs k false) refl long (omega arith) j (swept_above k (marked_by seen lemmas k bs) k (omega arith) m_k) c_k)
  ]

  pub length_swept : (k : ℕ) (bs : List Bool) → length (swept seen k lemmas bs) ≡ length bs
  length_swept zero bs = refl
  length_swept (suc k) bs = length_swept k (marked_by seen lemmas k bs) ∙ length_by k bs

  needed_below : (Root : ℕ → Type 0) (j : ℕ) → IsNeeded Root seen lemmas j → j < length lemmas
  needed_below Root j (root lt r) = lt
  needed_below Root j (cited {k = k} n c) = let h = needed_below Root k n in omega (arith, c.before)

  -- what is marked at last is what the first marks need
  module _ (wanted : List Bool) (each : length wanted ≡ length lemmas) where
    wanted_sound : (j : ℕ) → IsMarked wanted j → IsNeeded (IsWanted wanted) seen lemmas j
    wanted_sound j h = root (omega (arith, marked_within wanted j h, each)) h

    needed_marked : (j : ℕ) → IsNeeded (IsWanted wanted) seen lemmas j → IsMarked (swept seen (length lemmas) lemmas wanted) j
    needed_marked j (root lt r) = swept_keeps (length lemmas) wanted j r
    needed_marked j (cited {k = k} n c) = swept_closed (length lemmas) wanted each (omega arith) k j (needed_below (IsWanted wanted) k n) (needed_marked k n) c

    pub length_first : length (swept seen (length lemmas) lemmas wanted) ≡ length lemmas
    length_first = length_swept (length lemmas) wanted ∙ each

    pub swept_right : AreNeeded (IsWanted wanted) seen lemmas (swept seen (length lemmas) lemmas wanted)
    swept_right = record {
      one_each = length_first;
      right = λ j. (swept_sound (IsWanted wanted) (length lemmas) wanted (omega arith) wanted_sound j, needed_marked j);
    }

-- ---- other words for the roots

other_roots : (Root Other : ℕ → Type 0) (seen : ℕ) (lemmas : List Lemma) → ((k : ℕ) → k < length lemmas → Root k → Other k) → (j : ℕ) → IsNeeded Root seen lemmas j → IsNeeded Other seen lemmas j
other_roots Root Other seen lemmas same j (root lt r) = root lt (same j lt r)
other_roots Root Other seen lemmas same j (cited {k = k} n c) = cited (other_roots Root Other seen lemmas same k n) c

none_marked : (n j : ℕ) → IsMarked (replicate n false) j → ⊥
none_marked zero j h = absurd (cc)
none_marked (suc n) zero h = absurd (cc)
none_marked (suc n) (suc j) h = none_marked n j h

-- where the last alone is marked, it is the root
module _ (lemmas : List Lemma) where
  abbrev pub first_marks : List Bool
  first_marks = with_last (replicate (length lemmas) false)

  first_sound : (k : ℕ) → IsMarked first_marks k → IsLast lemmas k
  first_sound k h = elim (set_sound (replicate (length lemmas) false) (length (replicate (length lemmas) false) - 1) k h) [
    | inl a ↦ absurd (none_marked (length lemmas) k a)
    | inr b ↦ (let long = length-replicate (length lemmas) false in omega (arith, b.0, b.1, long))
  ]

  pub first_long : length first_marks ≡ length lemmas
  first_long = length-set (replicate (length lemmas) false) (length (replicate (length lemmas) false) - 1) true ∙ length-replicate (length lemmas) false

  first_last : (k : ℕ) → IsLast lemmas k → IsMarked first_marks k
  first_last k e =
      let long = length-replicate (length lemmas) false in
      let at : length (replicate (length lemmas) false) - 1 ≡ k = omega (arith, e, long) in
      subst (λ (i : ℕ). IsMarked (set (replicate (length lemmas) false) i true) k) (sym at) (get_or-set_same (replicate (length lemmas) false) k true false (omega (arith, e, long)))

  pub needed_of_last : (needed : List Bool) → AreNeeded (IsWanted first_marks) 0 lemmas needed → AreNeeded (IsLast lemmas) 0 lemmas needed
  needed_of_last needed are = record {
    one_each = are.one_each;
    right = λ j. (let h = are.right j in (
      λ m. other_roots (IsWanted first_marks) (IsLast lemmas) 0 lemmas (λ k lt r. first_sound k r) j (h.0 m),
      λ n. h.1 (other_roots (IsLast lemmas) (IsWanted first_marks) 0 lemmas (λ k lt r. first_last k r) j n),
    ));
  }

-- ---- where all are marked

needed_within : (Root : ℕ → Type 0) (seen : ℕ) (lemmas : List Lemma) (j : ℕ) → IsNeeded Root seen lemmas j → j < length lemmas
needed_within Root seen lemmas j (root within is) = within
needed_within Root seen lemmas j (cited {k} needed cites) = let less = needed_within Root seen lemmas k needed in omega (arith, less, cites.before)

pub all_needed : (seen : ℕ) (lemmas : List Lemma) (bs : List Bool) → length bs ≡ length lemmas → All (λ b. b ≡ true) bs → AreNeeded (IsWanted bs) seen lemmas bs
all_needed seen lemmas bs long all = record {
  one_each = long;
  right = λ j. ((λ h. let less = marked_within bs j h in root (omega (arith, less, long)) h), λ n. let less = needed_within (IsWanted bs) seen lemmas j n in all j false (omega (arith, less, long)));
}
