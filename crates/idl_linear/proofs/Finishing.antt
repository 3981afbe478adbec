-- How a sum ends: as a term, as what goes into another term's tree, or beyond the limits.
use Rattle.std.proofs.Common.{refl, ap, sym, subst, ◌∙◌, arith, ◌≡◌, ℕ, ◌<◌, ◌+◌, ◌^◌, List, [], ◌∷◌, ◌++◌, map, length, take, drop, get_or, Bool, true, false, cond, ◌&&◌, ℤ, pos, neg_ℤ, ◌+ℤ◌, ◌≤ℤ◌, to_z, of_z, w64, Some, None, Result, Err, IfOk, IfErr, IsPermutation}
use Rattle.std.specs.Int.{w128}
use Rattle.std.proofs.lemmas.Int.{ints}
use Rattle.std.proofs.lemmas.List.{map-append, take-append-drop, drop_more}
use Rattle.std.specs.List.{AllByRecursion, list_all}
use Rattle.idl_linear.specs.declared.summand.Summand.{Summand}
use Rattle.idl_linear.specs.declared.error.LinearError.{LinearError}
use Rattle.idl_linear.specs.declared.error.LinearError.TheVariants as error
use Rattle.idl_linear.specs.Limits.{coefficient_limit, constant_limit}
use Rattle.idl_linear.specs.Linear.{LinearValue, collected, negative_summand, negative_of, is_within, is_limited, are_limited}
use Rattle.idl_linear.specs.Forms.{IsSummand, IsLinear, SumValue, IsSum, with_signed, term_of}
use Rattle.idl_linear.specs.code.Steps.{IsRest, Refuses}
use Rattle.idl_linear.specs.code.Trees.{coefficient_at, signed}
use Rattle.idl_linear.proofs.Coefficients.{AllAbove, coefficient-append, coefficient-collected}
use Rattle.idl_linear.proofs.Collecting.{all_above-append, all_above-ascending}
use Rattle.idl_linear.proofs.Merging.{both_true, within_low, within_high}
use Rattle.idl_linear.proofs.Running.{found_is}
use Rattle.idl_linear.proofs.Sorting.{each_above, each-permuted, collected-permuted, linear_from_sum}
use Rattle.idl_linear.proofs.Summing.{within-negative}
use Rattle.idl_linear.proofs.Putting.{signed_number, coefficient-signed, each-signed, rest-signed, signed-collected}

-- ---- what a result says, with an equal term in it

pub same_ok : (r : Result LinearValue LinearError) (a b : LinearValue) → a ≡ b → IfOk r (λ (l : LinearValue). l ≡ a) → IfOk r (λ (l : LinearValue). l ≡ b)
same_ok r a b e h = subst (λ (t : LinearValue). IfOk r (λ (l : LinearValue). l ≡ t)) e h

pub same_limited : (r : Result LinearValue LinearError) (a b : LinearValue) → a ≡ b → IfOk r (λ _. is_limited a ≡ true) → IfOk r (λ _. is_limited b ≡ true)
same_limited r a b e h = subst (λ (t : LinearValue). IfOk r (λ _. is_limited t ≡ true)) e h

pub same_refused : (r : Result LinearValue LinearError) (a b : LinearValue) → a ≡ b → IfErr r (λ why. Refuses why (is_limited a)) → IfErr r (λ why. Refuses why (is_limited b))
same_refused r a b e h = subst (λ (t : LinearValue). IfErr r (λ why. Refuses why (is_limited t))) e h

-- an error handed on
pub refused_as : (r : Result LinearValue LinearError) (y x : LinearError) (b : Bool) → r ≡ Err y → y ≡ x → Refuses x b → IfErr r (λ why. Refuses why b)
refused_as r y x b e f h = subst (λ (q : Result LinearValue LinearError). IfErr q (λ why. Refuses why b)) (sym (e ∙ ap Err f)) h

-- an error of the coefficients is one of the term
pub refused_by_coefficients : (why : LinearError) (summands : List Summand) (constant : ℤ) → Refuses why (are_limited summands) → Refuses why (is_limited (record { summands = summands; constant = constant }))
refused_by_coefficients error.OutOfMemory summands constant h = tt
refused_by_coefficients error.BoundTooLarge summands constant h = ap (λ (b : Bool). b && is_within constant_limit constant) h

-- one of a list's items in its place
pub parted : {A : Type 0} (f : A → LinearValue) (xs : List A) (i : ℕ) (x : A) → i < length xs → x ≡ get_or xs i x → map f (take i xs) ++ f x ∷ map f (drop (i + 1) xs) ≡ map f xs
parted f xs i x lt e =
    let front = map f (take i xs) in
    let here : f x ∷ map f (drop (i + 1) xs) ≡ map f (drop i xs) = ap (λ y. f y ∷ map f (drop (i + 1) xs)) e ∙ ap (map f) (sym (drop_more xs i x lt)) in
    ap (λ ys. front ++ ys) here ∙ sym (map-append f (take i xs) (drop i xs)) ∙ ap (map f) (take-append-drop i xs)

pub parted_negatives : {A : Type 0} (f : A → LinearValue) (xs : List A) (i : ℕ) (x : A) → i < length xs → x ≡ get_or xs i x
    → map negative_of (map f (take i xs)) ++ negative_of (f x) ∷ map negative_of (map f (drop (i + 1) xs)) ≡ map negative_of (map f xs)
parted_negatives f xs i x lt e =
    sym (map-append negative_of (map f (take i xs)) (f x ∷ map f (drop (i + 1) xs))) ∙ ap (λ (ls : List LinearValue). map negative_of ls) (parted f xs i x lt e)

-- ---- terms that go into another term's tree

pub each_limited : (xs : List Summand) → AllByRecursion IsSummand xs → list_all (λ (s : Summand). is_within coefficient_limit s.coefficient) xs ≡ true
each_limited [] h = refl
each_limited (x ∷ xs) h = ap (λ (b : Bool). b && list_all (λ (s : Summand). is_within coefficient_limit s.coefficient) xs) h.0.limited ∙ each_limited xs h.1

negatives_limited : (xs : List Summand) → are_limited xs ≡ true → are_limited (map negative_summand xs) ≡ true
negatives_limited [] h = refl
negatives_limited (x ∷ xs) h =
    let parts = both_true (is_within coefficient_limit x.coefficient) (list_all (λ (s : Summand). is_within coefficient_limit s.coefficient) xs) h in
    ap (λ (b : Bool). b && list_all (λ (s : Summand). is_within coefficient_limit s.coefficient) (map negative_summand xs)) (within-negative coefficient_limit x.coefficient parts.0)
    ∙ negatives_limited xs parts.1

negative_twice : (xs : List Summand) → map negative_summand (map negative_summand xs) ≡ xs
negative_twice [] = refl
negative_twice (x ∷ xs) =
    let same : neg_ℤ (neg_ℤ x.coefficient) ≡ x.coefficient = omega (arith, ints) in
    ap (λ (c : ℤ). record { point = x.point; coefficient = c } ∷ map negative_summand (map negative_summand xs)) same ∙ ap (λ (ys : List Summand). x ∷ ys) (negative_twice xs)

signed_limited : (negated : Bool) (xs : List Summand) → are_limited (signed negated xs) ≡ true → are_limited xs ≡ true
signed_limited true xs h = ap are_limited (sym (negative_twice xs)) ∙ negatives_limited (map negative_summand xs) h
signed_limited false xs h = h

refused_signed_by : (b c : Bool) → (c ≡ true → b ≡ true) → b ≡ false → c ≡ false
refused_signed_by b true h e = absurd (let t : b ≡ true = h refl in cc)
refused_signed_by b false h e = refl

both_false : (b c : Bool) → c ≡ false → (b && c) ≡ false
both_false true c e = e
both_false false c e = refl

signed_summands : (negated : Bool) (s : SumValue) (l : LinearValue) → (with_signed negated s l).summands ≡ s.summands ++ signed negated l.summands
signed_summands true s l = refl
signed_summands false s l = refl

pub constant_is : (negated : Bool) (s : SumValue) (l : LinearValue) (n m : ℤ) → n ≡ l.constant → m ≡ cond negated (neg_ℤ n) n → s.constant +ℤ m ≡ (with_signed negated s l).constant
constant_is true s l n m e f = ap (λ (z : ℤ). s.constant +ℤ z) (f ∙ ap neg_ℤ e)
constant_is false s l n m e f = ap (λ (z : ℤ). s.constant +ℤ z) (f ∙ e)

constant_within : (l : LinearValue) → IsLinear l → is_within constant_limit l.constant ≡ true
constant_within l h = (both_true (list_all (λ (s : Summand). is_within coefficient_limit s.coefficient) l.summands) (is_within constant_limit l.constant) h.limited).1

-- a term's constant or its negative is within the limit
pub constant_low : (negated : Bool) (l : LinearValue) (n m : ℤ) → IsLinear l → n ≡ l.constant → m ≡ cond negated (neg_ℤ n) n → neg_ℤ (pos constant_limit) ≤ℤ m
constant_low true l n m h e f =
    let high = within_high constant_limit l.constant (constant_within l h) in
    omega (arith, ints, high, e, f)
constant_low false l n m h e f =
    let low = within_low constant_limit l.constant (constant_within l h) in
    omega (arith, ints, low, e, f)

pub constant_high : (negated : Bool) (l : LinearValue) (n m : ℤ) → IsLinear l → n ≡ l.constant → m ≡ cond negated (neg_ℤ n) n → m ≤ℤ pos constant_limit
constant_high true l n m h e f =
    let low = within_low constant_limit l.constant (constant_within l h) in
    omega (arith, ints, low, e, f)
constant_high false l n m h e f =
    let high = within_high constant_limit l.constant (constant_within l h) in
    omega (arith, ints, high, e, f)

-- the number that the code makes is the sum
pub number_is : (s : SumValue) (m : ℤ) → IsSum s → s.terms + 1 < 2 ^ 64 → neg_ℤ (pos constant_limit) ≤ℤ m → m ≤ℤ pos constant_limit
    → to_z w128 (of_z w128 (to_z w128 (of_z w128 s.constant) +ℤ to_z w128 (of_z w128 m))) ≡ s.constant +ℤ m
number_is s m h few low high = omega (arith, ints, low, high, h.low, h.high, few)

-- a constant beyond its limit
pub constant_refused : (w : SumValue) (total : ℤ) → total ≡ w.constant → None ≡ cond (is_within constant_limit total) (Some total) None → is_limited (term_of w) ≡ false
constant_refused w total e f =
    both_false (list_all (λ (s : Summand). is_within coefficient_limit s.coefficient) (collected w.summands)) (is_within constant_limit w.constant)
    (ap (is_within constant_limit) (sym e) ∙ none_by (is_within constant_limit total) total f) where
      none_by : (b : Bool) (total : ℤ) → None ≡ cond b (Some total) None → b ≡ false
      none_by true total f = absurd (cc)
      none_by false total f = refl

abbrev linear : List Summand → ℤ → LinearValue
linear summands constant = record { summands = summands; constant = constant }

module _ (negated turned : Bool) (s : SumValue) (l : LinearValue) (sorted tree : List Summand) (each : AllByRecursion IsSummand s.summands) (permuted : IsPermutation s.summands sorted)
    (same : signed turned tree ≡ signed negated l.summands) (rest : IsRest tree) where
  each_sorted : AllByRecursion IsSummand sorted
  each_sorted = each-permuted s.summands sorted permuted each

  above_made : AllAbove 0 (signed turned sorted ++ tree)
  above_made = all_above-append 0 (signed turned sorted) tree (each_above (signed turned sorted) (each-signed turned sorted each_sorted)) (all_above-ascending 0 tree rest.ascends)

  above_whole : AllAbove 0 (s.summands ++ signed negated l.summands)
  above_whole = all_above-append 0 s.summands (signed negated l.summands) (each_above s.summands each)
      (subst (λ (xs : List Summand). AllAbove 0 xs) same (all_above-ascending 0 (signed turned tree) (rest-signed turned tree rest).ascends))

  sorted_at : (p : ℕ) → coefficient_at p sorted ≡ coefficient_at p s.summands
  sorted_at p = sym (coefficient-collected p sorted) ∙ ap (coefficient_at p) (collected-permuted s.summands sorted permuted each) ∙ coefficient-collected p s.summands

  number_twice : (b : Bool) (x y : ℤ) → signed_number b (signed_number b x +ℤ y) ≡ x +ℤ signed_number b y
  number_twice true x y = omega (arith, ints)
  number_twice false x y = refl

  whole_at : (p : ℕ) → signed_number turned (coefficient_at p (signed turned sorted ++ tree)) ≡ coefficient_at p (s.summands ++ signed negated l.summands)
  whole_at p =
      ap (signed_number turned) (coefficient-append p (signed turned sorted) tree ∙ ap (λ (z : ℤ). z +ℤ coefficient_at p tree) (coefficient-signed turned p sorted))
      ∙ number_twice turned (coefficient_at p sorted) (coefficient_at p tree)
      ∙ ap (λ (z : ℤ). z +ℤ signed_number turned (coefficient_at p tree)) (sorted_at p)
      ∙ ap (λ (z : ℤ). coefficient_at p s.summands +ℤ z) (sym (coefficient-signed turned p tree) ∙ ap (coefficient_at p) same)
      ∙ sym (coefficient-append p s.summands (signed negated l.summands))

  made_is : signed turned (collected (signed turned sorted ++ tree)) ≡ collected (with_signed negated s l).summands
  made_is =
      signed-collected turned (signed turned sorted ++ tree) (s.summands ++ signed negated l.summands) above_made above_whole whole_at
      ∙ ap collected (sym (signed_summands negated s l))

  -- a coefficient beyond its limit
  pub tree_refused : (why : LinearError) → Refuses why (are_limited (collected (signed turned sorted ++ tree))) → Refuses why (is_limited (term_of (with_signed negated s l)))
  tree_refused error.OutOfMemory h = tt
  tree_refused error.BoundTooLarge h =
      let back : are_limited (collected (with_signed negated s l).summands) ≡ true → are_limited (collected (signed turned sorted ++ tree)) ≡ true =
      λ t. signed_limited turned (collected (signed turned sorted ++ tree)) (ap are_limited made_is ∙ t) in
      refused_by_coefficients error.BoundTooLarge (collected (with_signed negated s l).summands) (with_signed negated s l).constant
      (refused_signed_by (are_limited (collected (signed turned sorted ++ tree))) (are_limited (collected (with_signed negated s l).summands)) back h)

  module _ (now : List Summand) (is : now ≡ collected (signed turned sorted ++ tree)) (now_rest : IsRest now) (total n : ℤ) (e : total ≡ (with_signed negated s l).constant)
      (f : Some n ≡ cond (is_within constant_limit total) (Some total) None) where
    summands_are : signed turned now ≡ collected (with_signed negated s l).summands
    summands_are = ap (signed turned) is ∙ made_is

    tree_number : to_z w64 (of_z w64 n) ≡ (with_signed negated s l).constant
    tree_number =
        let found = found_is constant_limit total n f in
        let low = within_low constant_limit n found.1 in
        let high = within_high constant_limit n found.1 in
        omega (arith, ints, low, high, found.0, e)

    pub tree_ok : ◌≡◌ {A = LinearValue} (record { summands = signed turned now; constant = to_z w64 (of_z w64 n) }) (term_of (with_signed negated s l))
    tree_ok =
        ap (λ (xs : List Summand). linear xs (to_z w64 (of_z w64 n))) summands_are ∙ ap (λ (k : ℤ). linear (collected (with_signed negated s l).summands) k) tree_number

    now_limited : are_limited (collected (with_signed negated s l).summands) ≡ true
    now_limited = ap are_limited (sym summands_are) ∙ each_limited (signed turned now) (rest-signed turned now now_rest).each

    pub tree_limited : is_limited (term_of (with_signed negated s l)) ≡ true
    tree_limited =
        let found = found_is constant_limit total n f in
        ap (λ (b : Bool). b && is_within constant_limit (with_signed negated s l).constant) now_limited
        ∙ ap (is_within constant_limit) (sym e) ∙ ap (is_within constant_limit) (sym found.0) ∙ found.1

    each_whole : AllByRecursion IsSummand (with_signed negated s l).summands
    each_whole = subst (λ (xs : List Summand). AllByRecursion IsSummand xs) (sym (signed_summands negated s l)) (each-both s.summands (signed negated l.summands) each
        (subst (λ (xs : List Summand). AllByRecursion IsSummand xs) same (rest-signed turned tree rest).each)) where
          each-both : (xs ys : List Summand) → AllByRecursion IsSummand xs → AllByRecursion IsSummand ys → AllByRecursion IsSummand (xs ++ ys)
          each-both [] ys a b = b
          each-both (x ∷ xs) ys a b = (a.0, each-both xs ys a.1 b)

    pub tree_linear : IsLinear (record { summands = signed turned now; constant = to_z w64 (of_z w64 n) })
    tree_linear = subst (λ (t : LinearValue). IsLinear t) (sym tree_ok) (linear_from_sum (with_signed negated s l).summands (with_signed negated s l).constant each_whole tree_limited)
