-- A fork and its sides, which are told by equations.
use Rattle.std.proofs.Common.{ap, sym, subst, ◌∙◌, arith, inl, inr, ◌⊎◌, ◌≡◌, ℕ, ◌<◌, ◌≤◌, ◌+◌, ◌-◌, ◌==◌, min, List, [], ◌∷◌, ◌++◌, length, take, drop, Bool, true}
use Rattle.std.proofs.lemmas.Bool.Decides.{nat_tests}
use Rattle.std.proofs.lemmas.List.{take_rest}
use Rattle.std.proofs.Math.Nat.{min-le_left, le-min}
use Rattle.idl_linear.specs.declared.summand.Summand.{Summand}
use Rattle.idl_linear.specs.Linear.{with_summand}
use Rattle.idl_linear.specs.Forms.{AscendAbove}
use Rattle.idl_linear.specs.code.Steps.{IsRest}
use Rattle.idl_linear.specs.code.Trees.{coefficient_at, since, AllFrom, AllUpTo}
use Rattle.idl_linear.proofs.Parts.{ascend-front, ascend-back, all-front, all-back, rest-front, rest-back, up_to-weaker, from-weaker, right_piece, right_none, left_piece, both_piece, both_none, leaf_piece, leaf_none, with-front, with-back, coefficient-front, coefficient-back}
use Rattle.idl_linear.proofs.Sorting.{points_with}

module _ (middle : ℕ) (whole xs ys : List Summand) (seen : whole ≡ xs ++ ys) (parted : AllUpTo middle xs × AllFrom middle ys) where
  -- what holds of the whole holds of a side
  pub left_ascends : (zs : List Summand) → zs ≡ xs → AscendAbove 0 whole → AscendAbove 0 zs
  left_ascends zs e a = subst (λ (l : List Summand). AscendAbove 0 l) (sym e) (ascend-front 0 xs ys (subst (λ (l : List Summand). AscendAbove 0 l) seen a))

  pub right_ascends : (zs : List Summand) → zs ≡ ys → AscendAbove 0 whole → AscendAbove 0 zs
  right_ascends zs e a = subst (λ (l : List Summand). AscendAbove 0 l) (sym e) (ascend-back 0 xs ys (subst (λ (l : List Summand). AscendAbove 0 l) seen a))

  pub left_over : (end : ℕ) (zs : List Summand) → zs ≡ xs → AllUpTo end whole → AllUpTo end zs
  left_over end zs e h = subst (λ (l : List Summand). AllUpTo end l) (sym e) (all-front (λ (s : Summand). s.point < end) xs ys (subst (λ (l : List Summand). AllUpTo end l) seen h))

  pub right_over : (end : ℕ) (zs : List Summand) → zs ≡ ys → AllUpTo end whole → AllUpTo end zs
  right_over end zs e h = subst (λ (l : List Summand). AllUpTo end l) (sym e) (all-back (λ (s : Summand). s.point < end) xs ys (subst (λ (l : List Summand). AllUpTo end l) seen h))

  -- the left side is below the middle, and below the end
  pub left_split : (end split : ℕ) (zs : List Summand) → zs ≡ xs → AllUpTo end whole → (split ≡ middle) ⊎ (split ≡ end) → AllUpTo split zs
  left_split end split zs e h (inl same) = subst (λ (k : ℕ). AllUpTo k zs) (sym same) (subst (λ (l : List Summand). AllUpTo middle l) (sym e) parted.0)
  left_split end split zs e h (inr same) = subst (λ (k : ℕ). AllUpTo k zs) (sym same) (left_over end zs e h)

  pub left_rest : (zs : List Summand) → zs ≡ xs → IsRest whole → IsRest zs
  left_rest zs e r = subst (λ (l : List Summand). IsRest l) (sym e) (rest-front xs ys (subst (λ (l : List Summand). IsRest l) seen r))

  pub right_rest : (zs : List Summand) → zs ≡ ys → IsRest whole → IsRest zs
  right_rest zs e r = subst (λ (l : List Summand). IsRest l) (sym e) (rest-back xs ys (subst (λ (l : List Summand). IsRest l) seen r))

  -- pieces
  module _ (from next : ℕ) (part : List Summand) where
    piece_of : List Summand → Type 0
    piece_of l = since from l ≡ part ++ since next l

    pub right_same : (zs : List Summand) → zs ≡ ys → middle ≤ from → from ≤ next → since from zs ≡ part ++ since next zs → since from whole ≡ part ++ since next whole
    unfolding piece_of
    right_same zs e le more h = subst piece_of (sym seen) (right_piece middle from next xs ys part parted.0 parted.1 le more (subst piece_of e h))

    pub left_same : (zs : List Summand) → zs ≡ xs → from ≤ middle → next ≤ middle → since from zs ≡ part ++ since next zs → since from whole ≡ part ++ since next whole
    unfolding piece_of
    left_same zs e le more h = subst piece_of (sym seen) (left_piece middle from next xs ys part parted.0 parted.1 le more (subst piece_of e h))

    pub both_same : (split : ℕ) (vs zs : List Summand) → vs ≡ xs → zs ≡ ys → AllUpTo split vs → from ≤ middle → split ≤ middle → since from vs ≡ [] → split ≤ next → since split zs ≡ part ++ since next zs
        → since from whole ≡ part ++ since next whole
    unfolding piece_of
    both_same split vs zs e f up le few empty more h =
        let P : List Summand → Type 0 = λ l. since split l ≡ part ++ since next l in
        subst piece_of (sym seen)
        (both_piece middle from next xs ys part parted.0 parted.1 split (subst (λ (l : List Summand). AllUpTo split l) e up) le few (ap (since from) (sym e) ∙ empty) more (subst P f h))

  pub right_empty : (from : ℕ) (zs : List Summand) → zs ≡ ys → middle ≤ from → since from zs ≡ [] → since from whole ≡ []
  right_empty from zs e le h = ap (since from) seen ∙ right_none middle from 0 xs ys [] parted.0 parted.1 le (ap (since from) (sym e) ∙ h)

  pub both_empty : (from split : ℕ) (vs zs : List Summand) → vs ≡ xs → zs ≡ ys → AllUpTo split vs → from ≤ middle → split ≤ middle → since from vs ≡ [] → since split zs ≡ [] → since from whole ≡ []
  both_empty from split vs zs e f up le few empty h =
      ap (since from) seen
      ∙ both_none middle from 0 xs ys [] parted.0 parted.1 split (subst (λ (l : List Summand). AllUpTo split l) e up) le few (ap (since from) (sym e) ∙ empty) (ap (since split) (sym f) ∙ h)

  -- one more summand in a side
  module _ (s : Summand) where
    pub left_with : s.point < middle → (zs new : List Summand) → zs ≡ xs → new ≡ with_summand s zs → new ++ ys ≡ with_summand s whole
    left_with lt zs new e f =
        ap (λ (l : List Summand). l ++ ys) (f ∙ ap (with_summand s) e)
        ∙ sym (with-front s xs ys (from-weaker (s.point + 1) middle ys (omega (arith, lt)) parted.1))
        ∙ ap (with_summand s) (sym seen)

    pub right_with : middle ≤ s.point → (zs new : List Summand) → zs ≡ ys → new ≡ with_summand s zs → xs ++ new ≡ with_summand s whole
    right_with le zs new e f =
        ap (λ (l : List Summand). xs ++ l) (f ∙ ap (with_summand s) e)
        ∙ sym (with-back s xs ys (up_to-weaker middle s.point xs le parted.0))
        ∙ ap (with_summand s) (sym seen)

    -- it stays on its side
    pub left_stays : s.point < middle → (zs new : List Summand) → zs ≡ xs → new ≡ with_summand s zs → AllUpTo middle new
    left_stays lt zs new e f =
        subst (λ (l : List Summand). AllUpTo middle l) (sym f) (points_with (λ (p : ℕ). p < middle) s zs lt (subst (λ (l : List Summand). AllUpTo middle l) (sym e) parted.0))

    pub right_stays : middle ≤ s.point → (zs new : List Summand) → zs ≡ ys → new ≡ with_summand s zs → AllFrom middle new
    right_stays le zs new e f =
        subst (λ (l : List Summand). AllFrom middle l) (sym f) (points_with (λ (p : ℕ). middle ≤ p) s zs le (subst (λ (l : List Summand). AllFrom middle l) (sym e) parted.1))

  pub left_coefficient : (p : ℕ) → p < middle → (zs : List Summand) → zs ≡ xs → coefficient_at p zs ≡ coefficient_at p whole
  left_coefficient p lt zs e = ap (coefficient_at p) e ∙ sym (coefficient-front p xs ys (from-weaker (p + 1) middle ys (omega (arith, lt)) parted.1)) ∙ ap (coefficient_at p) (sym seen)

  pub right_coefficient : (p : ℕ) → middle ≤ p → (zs : List Summand) → zs ≡ ys → coefficient_at p zs ≡ coefficient_at p whole
  right_coefficient p le zs e = ap (coefficient_at p) e ∙ sym (coefficient-back p xs ys (up_to-weaker middle p xs le parted.0)) ∙ ap (coefficient_at p) (sym seen)

-- ---- the lesser of two ends

min_left : (a b : ℕ) → min a b ≤ a
min_left a b = min-le_left a b

pub both_up_to : (a b : ℕ) (xs : List Summand) → AllUpTo a xs → AllUpTo b xs → AllUpTo (min a b) xs
both_up_to a b [] h k = tt
both_up_to a b (x ∷ xs) h k =
    let first : x.point < a = h.0 in
    let second : x.point < b = k.0 in
    (le-min first second, both_up_to a b xs h.1 k.1)

module _ (middle : ℕ) (whole xs ys : List Summand) (seen : whole ≡ xs ++ ys) (parted : AllUpTo middle xs × AllFrom middle ys) where
  pub left_min : (end split : ℕ) (zs : List Summand) → split ≡ min middle end → zs ≡ xs → AllUpTo end whole → AllUpTo split zs
  left_min end split zs m e h =
      subst (λ (k : ℕ). AllUpTo k zs) (sym m) (both_up_to middle end zs (subst (λ (l : List Summand). AllUpTo middle l) (sym e) parted.0) (left_over middle whole xs ys seen parted end zs e h))

pub min_below : (middle end split : ℕ) → split ≡ min middle end → split ≤ middle
min_below middle end split e = subst (λ (k : ℕ). k ≤ middle) (sym e) (min_left middle end)

pub none_left : (n : ℕ) (b : Bool) → b ≡ (n == 0) → b ≡ true → n ≡ 0
none_left n b e f = grind (arith, nat_tests)

-- ---- a leaf, which is told by equations

module _ (from end k : ℕ) (whole items ds es : List Summand) (seen : whole ≡ items) (d : ds ≡ items) (e : es ≡ items) (below : AllUpTo from (take k ds)) (above : AllFrom from (drop k ds)) where
  below_whole : AllUpTo from (take k whole)
  below_whole = subst (λ (l : List Summand). AllUpTo from (take k l)) (d ∙ sym seen) below

  above_whole : AllFrom from (drop k whole)
  above_whole = subst (λ (l : List Summand). AllFrom from (drop k l)) (d ∙ sym seen) above

  part_is : take (length es - k) (drop k es) ≡ drop k whole
  part_is = take_rest es k ∙ ap (drop k) (e ∙ sym seen)

  pub leaf_same : AllUpTo end whole → since from whole ≡ take (length es - k) (drop k es) ++ since end whole
  leaf_same over = leaf_piece from end k whole (take (length es - k) (drop k es)) below_whole above_whole part_is over

  pub leaf_empty : length (take (length es - k) (drop k es)) ≡ 0 → since from whole ≡ []
  leaf_empty none = leaf_none from end k whole (take (length es - k) (drop k es)) below_whole above_whole part_is none
