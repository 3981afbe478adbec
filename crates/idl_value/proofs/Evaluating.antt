-- The value of a linear term, summand by summand, and how large it may be; and values of the names' sorts.
use Rattle.std.proofs.Common.{refl, ap, sym, subst, ◌∙◌, arith, ◌≡◌, ◌<◌, ◌≤◌, ◌+◌, ◌*◌, ℕ, zero, suc, List, [], ◌∷◌, ◌++◌, length, map, drop, get_or, Bool, Bor, ◌&&◌, cond, Option, Some, None, true, false, ℤ, pos, negsuc, neg_ℤ, ◌+ℤ◌, ◌-ℤ◌, ◌*ℤ◌, ◌≤ℤ◌, FitsSigned, w64, to_z, of_z, unsigned_abs}
use Rattle.std.proofs.lemmas.Int.{ints, unsigned_abs-mul, fits_signed_from_abs, fits_signed_mul}
use Rattle.std.specs.Int.{w128}
use Rattle.idl_linear.proofs.Merging.{both_true, within_low, within_high}
use Rattle.std.proofs.lemmas.Nat.{mul-le}
use Rattle.std.proofs.lemmas.List.{at_drop_more, length-append, length-map}
use Rattle.std.proofs.lemmas.List.Folds.{list_all-append}
use Rattle.std.specs.List.{AllByRecursion, list_all}
use Rattle.stn_core.specs.Literal.{IsOver, value_at}
use Rattle.stn_core.specs.declared.named.NamedValue.{NamedValue}
use Rattle.stn_core.specs.declared.named.NamedValue.TheVariants.{Int, Truth}
use Rattle.stn_core.specs.Limits.{named_value_limit}
use Rattle.stn_core.specs.Named.{IsWithinLimit, AreWithinLimit}
use Rattle.idl_node.specs.Truth.{point_value, point_values, truth, AreTruths}
use Rattle.std.specs.Prelude.{unwrap_or, IfSome}
use Rattle.idl_value.specs.code.Evaluating.{product_limit, term_limit, both_values, first_value, signed_value, IsCaseOver, IsTermValue}
use Rattle.std.proofs.lemmas.Option.{slice_get_within}
use Rattle.idl_node.specs.declared.sort.Sort.{Sort}
use Rattle.idl_node.specs.declared.sort.Sort.TheVariants as sort
use Rattle.idl_node.specs.Nodes.{NodeValue}
use Rattle.idl_node.specs.Sorts.{IsIntPoint, IsAtomFor, AreOfSorts}
use Rattle.idl_node.specs.Tables.{IsTableOf, IsTableOver}
use Rattle.idl_node.proofs.Keeping.{table_of-better}
use Rattle.idl_node.proofs.Truths.{list_all-agree}
use Rattle.idl_value.specs.CaseValues.{cases_value, IsCaseIn, IsTermIn}
use Rattle.idl_value.specs.code.Looking.{either_value, where_true}
use Rattle.idl_cases.specs.Guarded.{CaseValue, plain, guarded, branched}
use Rattle.idl_cases.specs.code.Bounded.{AreLinear, AreOver as AreOverPoints}
use Rattle.idl_cases.specs.code.CaseShapes.{IsForm}
use Rattle.idl_cases.specs.code.CaseSums.{added, added_each, moved, negated_case, pair_sum, signed_cases, signed_count}
use Rattle.idl_cases.specs.code.GuardBounds.{AreGuardsBelow}
use Rattle.idl_cases.specs.declared.shape.Form.{Form}
use Rattle.idl_cases.specs.declared.shape.Form.TheVariants as form
use Rattle.idl_scope.specs.Scopes.{numeric}
use Rattle.idl_linear.specs.declared.summand.Summand.{Summand}
use Rattle.idl_linear.specs.Forms.{AscendAbove, IsLinear}
use Rattle.idl_linear.specs.Limits.{points_limit, coefficient_limit, constant_limit}
use Rattle.idl_linear.specs.Linear.{LinearValue, are_limited, is_within, negative_of}
use Rattle.idl_linear.specs.Values.{linear_value, summands_value}
use Rattle.idl_linear.proofs.Valued.{value-negative, value-sum}

-- ---- how many summands there are

pub count_ascending : (least limit : ℕ) (xs : List Summand) → least < limit → AscendAbove least xs → AllByRecursion (λ (s : Summand). s.point < limit) xs → length xs + least < limit
count_ascending least limit [] lt h all = omega (arith, lt)
count_ascending least limit (x ∷ xs) lt h all =
    let more = count_ascending x.point limit xs all.0 h.2 all.1 in
    let above = h.0 in
    omega (arith, more, above)

pub count_linear : (l : LinearValue) → IsLinear l → length l.summands < points_limit
count_linear l is =
    let few = count_ascending 0 points_limit l.summands (omega arith) is.ascends is.over in
    omega (arith, few)

-- ---- one summand after another

-- what is known of what is left of a term's summands, and of the sum so far
pub record IsAdding (values : List ℤ) (left : List Summand) (sum whole : ℤ) : Type 0 where
  pub rest : summands_value values left +ℤ sum ≡ whole
  pub limited : are_limited left ≡ true
  pub low : neg_ℤ (pos (constant_limit + product_limit * points_limit)) ≤ℤ (sum -ℤ pos (product_limit * length left))
  pub high : (sum +ℤ pos (product_limit * length left)) ≤ℤ pos (constant_limit + product_limit * points_limit)

pub adding_starts : (values : List ℤ) (l : LinearValue) (left : List Summand) (n : ℤ) → IsLinear l → left ≡ l.summands → n ≡ l.constant → IsAdding values left n (linear_value values l)
adding_starts values l left n is e f =
    let few = count_linear l is in
    let long = ap (λ (xs : List Summand). length xs) e in
    let parts = both_true (are_limited l.summands) (is_within constant_limit l.constant) is.limited in
    let low = within_low constant_limit l.constant parts.1 in
    let high = within_high constant_limit l.constant parts.1 in
    record {
      rest = ap (λ (xs : List Summand). summands_value values xs +ℤ n) e ∙ ap (λ (z : ℤ). summands_value values l.summands +ℤ z) f;
      limited = ap are_limited e ∙ parts.0;
      low = omega (arith, ints, few, long, low, f);
      high = omega (arith, ints, few, long, high, f);
    }

module _ (values : List ℤ) (xs : List Summand) (sum whole : ℤ) (h : IsAdding values xs sum whole) where
  pub adding_ends : xs ≡ [] → sum ≡ whole
  adding_ends e =
      let none : summands_value values xs ≡ pos 0 = ap (summands_value values) e in
      let rest = h.rest in
      omega (arith, ints, none, rest)

  module _ (s : Summand) (left : List Summand) (e : xs ≡ s ∷ left) where
    limits : (is_within coefficient_limit s.coefficient ≡ true) × (are_limited left ≡ true)
    limits = both_true (is_within coefficient_limit s.coefficient) (are_limited left) (ap are_limited (sym e) ∙ h.limited)

    pub adding_limited : is_within coefficient_limit s.coefficient ≡ true
    adding_limited = limits.0

    module _ (p : ℤ) (low : neg_ℤ (pos product_limit) ≤ℤ p) (high : p ≤ℤ pos product_limit) where
      long : length xs ≡ suc (length left)
      long = ap (λ (ys : List Summand). length ys) e

      pub adding_low : neg_ℤ (pos (constant_limit + product_limit * points_limit)) ≤ℤ ((sum +ℤ p) -ℤ pos (product_limit * length left))
      adding_low =
          let known = h.low in
          omega (arith, ints, known, long, low)

      pub adding_high : ((sum +ℤ p) +ℤ pos (product_limit * length left)) ≤ℤ pos (constant_limit + product_limit * points_limit)
      adding_high =
          let known = h.high in
          omega (arith, ints, known, long, high)

      pub adding_turn : p ≡ (s.coefficient *ℤ value_at values s.point) → IsAdding values left (sum +ℤ p) whole
      adding_turn f =
          let first : summands_value values xs ≡ (s.coefficient *ℤ value_at values s.point) +ℤ summands_value values left = ap (summands_value values) e in
          let known = h.rest in
          record {
            rest = omega (arith, ints, first, known, f);
            limited = limits.1;
            low = adding_low;
            high = adding_high;
          }

-- ---- how large a product is

abs_within : (z : ℤ) (n : ℕ) → neg_ℤ (pos n) ≤ℤ z → z ≤ℤ pos n → unsigned_abs z ≤ n
abs_within (pos m) n low high = omega (arith, ints)
abs_within (negsuc m) n low high = omega (arith, ints)

within_abs : (z : ℤ) (n : ℕ) → unsigned_abs z ≤ n → z ≤ℤ pos n
within_abs (pos m) n h = omega (arith, ints)
within_abs (negsuc m) n h = omega (arith, ints)

above_abs : (z : ℤ) (n : ℕ) → unsigned_abs z ≤ n → neg_ℤ (pos n) ≤ℤ z
above_abs (pos m) n h = omega (arith, ints)
above_abs (negsuc m) n h = omega (arith, ints)

-- a whole number is within the limit on names' values
pub record IsSmall (b : ℤ) : Type 0 where
  pub low : neg_ℤ (pos named_value_limit) ≤ℤ b
  pub high : b ≤ℤ pos named_value_limit

small_value : (v : NamedValue) → IsWithinLimit v → IsSmall (point_value v)
small_value (Int n) h = record { low = h.0; high = h.1 }
small_value (Truth true) h = record { low = omega (arith, ints); high = omega (arith, ints) }
small_value (Truth false) h = record { low = omega (arith, ints); high = omega (arith, ints) }

-- and so is the value of each time point, and 0 where there is none
small_at : (values : List NamedValue) (k : ℕ) → AreWithinLimit values → IsSmall (get_or (map point_value values) k (pos 0))
small_at [] k h = record { low = omega (arith, ints); high = omega (arith, ints) }
small_at (v ∷ values) zero h = small_value v (h 0 v (omega arith))
small_at (v ∷ values) (suc k) h = small_at values k (λ j d lt. h (suc j) d (omega arith))

pub small_point : (values : List NamedValue) (point : ℕ) → AreWithinLimit values → IsSmall (value_at (point_values values) point)
small_point values zero h = record { low = omega (arith, ints); high = omega (arith, ints) }
small_point values (suc k) h = small_at values k h

none_at : (values : List NamedValue) (k : ℕ) → length values ≤ k → get_or (map point_value values) k (pos 0) ≡ pos 0
none_at [] k h = refl
none_at (v ∷ values) zero h = absurd (omega arith)
none_at (v ∷ values) (suc k) h = none_at values k (omega arith)

pub no_point : (values : List NamedValue) (c : ℤ) (point : ℕ) → length values < point → pos 0 ≡ c *ℤ value_at (point_values values) point
no_point values c zero h = absurd (omega arith)
no_point values c (suc k) h = sym (ap (λ (z : ℤ). c *ℤ z) (none_at values k (omega arith)) ∙ omega (arith, ints))

module _ (a b : ℤ) (limited : is_within coefficient_limit a ≡ true) (small : IsSmall b) where
  coefficient_near : unsigned_abs a ≤ coefficient_limit
  coefficient_near = abs_within a coefficient_limit (within_low coefficient_limit a limited) (within_high coefficient_limit a limited)

  value_near : unsigned_abs b ≤ named_value_limit
  value_near = abs_within b named_value_limit small.low small.high

  product_near : unsigned_abs (a *ℤ b) ≤ product_limit
  product_near = rw (unsigned_abs-mul a b) (mul-le (unsigned_abs a) (unsigned_abs b) coefficient_limit named_value_limit coefficient_near value_near)

  pub product_fits : FitsSigned w128 (a *ℤ b)
  product_fits = fits_signed_mul w128 a b coefficient_limit named_value_limit coefficient_near value_near (omega arith)

  -- what the code multiplies
  pub product_is : (p : ℤ) → p ≡ to_z w64 (of_z w64 a) → to_z w128 (of_z w128 p) *ℤ to_z w128 (of_z w128 b) ≡ a *ℤ b
  product_is p e =
      let low = within_low coefficient_limit a limited in
      let high = within_high coefficient_limit a limited in
      let small_low = small.low in
      let small_high = small.high in
      let first : to_z w128 (of_z w128 p) ≡ a = omega (arith, ints, low, high, e) in
      let second : to_z w128 (of_z w128 b) ≡ b = omega (arith, ints, small_low, small_high) in
      ap (λ (z : ℤ). z *ℤ to_z w128 (of_z w128 b)) first ∙ ap (λ (z : ℤ). a *ℤ z) second

  pub product_low : neg_ℤ (pos product_limit) ≤ℤ (a *ℤ b)
  product_low = above_abs (a *ℤ b) product_limit product_near

  pub product_high : (a *ℤ b) ≤ℤ pos product_limit
  product_high = within_abs (a *ℤ b) product_limit product_near

-- ---- how large a value is

sums_small : (values : List NamedValue) → AreWithinLimit values → (xs : List Summand) → are_limited xs ≡ true
    → (neg_ℤ (pos (product_limit * length xs)) ≤ℤ summands_value (point_values values) xs) × (summands_value (point_values values) xs ≤ℤ pos (product_limit * length xs))
sums_small values within [] h = (omega (arith, ints), omega (arith, ints))
sums_small values within (x ∷ xs) h =
    let parts = both_true (is_within coefficient_limit x.coefficient) (are_limited xs) h in
    let small = small_point values x.point within in
    let low = product_low x.coefficient (value_at (point_values values) x.point) parts.0 small in
    let high = product_high x.coefficient (value_at (point_values values) x.point) parts.0 small in
    let rest = sums_small values within xs parts.1 in
    let rest_low = rest.0 in
    let rest_high = rest.1 in
    (omega (arith, ints, low, high, rest_low, rest_high), omega (arith, ints, low, high, rest_low, rest_high))

pub small_linear : (values : List NamedValue) (l : LinearValue) → AreWithinLimit values → IsLinear l → IsTermValue (linear_value (point_values values) l)
small_linear values l within is =
    let parts = both_true (are_limited l.summands) (is_within constant_limit l.constant) is.limited in
    let low = within_low constant_limit l.constant parts.1 in
    let high = within_high constant_limit l.constant parts.1 in
    let sums = sums_small values within l.summands parts.0 in
    let sums_low = sums.0 in
    let sums_high = sums.1 in
    let few = count_linear l is in
    (omega (arith, ints, low, high, sums_low, sums_high, few), omega (arith, ints, low, high, sums_low, sums_high, few))

module _ (test : ℕ → Bool) (values : List NamedValue) (within : AreWithinLimit values) where
  small_first : (b : Bool) (z : ℤ) (o : Option ℤ) → IsTermValue z → IfSome o IsTermValue → IfSome (cond b (Some z) o) IsTermValue
  small_first true z o h k = h
  small_first false z o h k = k

  pub small_cases : (cases : List CaseValue) → AreLinear cases → IfSome (first_value test (point_values values) cases) IsTermValue
  small_cases [] h = tt
  small_cases (x ∷ xs) h =
      small_first (list_all test x.guards) (linear_value (point_values values) x.linear) (first_value test (point_values values) xs) (small_linear values x.linear within h.0) (small_cases xs h.1)

-- ---- values of the names' sorts

pub values_count : (sorts : List Sort) (values : List NamedValue) → AreOfSorts sorts values → length values ≡ length sorts
values_count [] [] h = refl
values_count [] (v ∷ values) h = absurd h
values_count (s ∷ sorts) [] h = absurd h
values_count (s ∷ sorts) (v ∷ values) h = ap suc (values_count sorts values h.1)

int_point_within : (sorts : List Sort) (p : ℕ) → IsIntPoint sorts p → p < length sorts + 1
int_point_within sorts zero h = omega arith
int_point_within sorts (suc k) h = let within : k < length sorts = slice_get_within sorts k sort.Int h in omega (arith, within)

module _ (sorts : List Sort) (values : List NamedValue) (fits : AreOfSorts sorts values) where
  -- the time points of a linear term over Int names have values
  points_valued : (xs : List Summand) → AllByRecursion (λ (s : Summand). IsIntPoint sorts s.point) xs → AllByRecursion (λ (s : Summand). s.point < length values + 1) xs
  points_valued [] h = tt
  points_valued (x ∷ xs) h = (rw (values_count sorts values fits) (int_point_within sorts x.point h.0), points_valued xs h.1)

  -- and so do those of each case of a term
  each_valued : (nodes : List NodeValue) (cases : List CaseValue) → AllByRecursion (IsCaseIn sorts nodes) cases → AllByRecursion (IsCaseOver (length values + 1) (length nodes)) cases
  each_valued nodes [] h = tt
  each_valued nodes (case ∷ cases) h = (record { guards = h.0.guards; points = points_valued case.linear.summands h.0.linear.points }, each_valued nodes cases h.1)

  pub cases_valued : (nodes : List NodeValue) (cases : List CaseValue) → IsTermIn sorts nodes (numeric cases) → AllByRecursion (IsCaseOver (length values + 1) (length nodes)) cases
  cases_valued nodes cases h = each_valued nodes cases h.each

  -- and so do those of a table of atoms over the names
  pub table_valued : (nodes : List NodeValue) → IsTableOf (IsAtomFor sorts) nodes → IsTableOver (length values + 1) nodes
  table_valued nodes table =
      rw (values_count sorts values fits) (table_of-better (IsAtomFor sorts) (IsOver (length sorts + 1)) (λ l is. is.over) nodes table)

-- ---- the case whose guards are true

module _ (test : ℕ → Bool) (values : List ℤ) where
  abbrev first : List CaseValue → Option ℤ
  first cases = first_value test values cases

  either_by : (b : Bool) (z : ℤ) (o p : Option ℤ) → cond b (Some z) (either_value o p) ≡ either_value (cond b (Some z) o) p
  either_by true z o p = refl
  either_by false z o p = refl

  first-append : (xs ys : List CaseValue) → first (xs ++ ys) ≡ either_value (first xs) (first ys)
  first-append [] ys = refl
  first-append (x ∷ xs) ys =
      ap (λ (o : Option ℤ). cond (list_all test x.guards) (Some (linear_value values x.linear)) o) (first-append xs ys)
      ∙ either_by (list_all test x.guards) (linear_value values x.linear) (first xs) (first ys)

  first_here : (g : ℕ) (xs : List CaseValue) → test g ≡ true → first (map (guarded g) xs) ≡ first xs
  first_here g [] e = refl
  first_here g (x ∷ xs) e =
      ap (λ (b : Bool). cond (b && list_all test x.guards) (Some (linear_value values x.linear)) (first (map (guarded g) xs))) e
      ∙ ap (λ (o : Option ℤ). cond (list_all test x.guards) (Some (linear_value values x.linear)) o) (first_here g xs e)

  first_not_here : (g : ℕ) (xs : List CaseValue) → test g ≡ false → first (map (guarded g) xs) ≡ None
  first_not_here g [] e = refl
  first_not_here g (x ∷ xs) e =
      ap (λ (b : Bool). cond (b && list_all test x.guards) (Some (linear_value values x.linear)) (first (map (guarded g) xs))) e ∙ first_not_here g xs e

  behind_guard : (g : ℕ) (xs : List CaseValue) (b : Bool) → test g ≡ b → first (map (guarded g) xs) ≡ where_true b (first xs)
  behind_guard g xs true e = first_here g xs e
  behind_guard g xs false e = first_not_here g xs e

  pub first_branched : (a b : List CaseValue) (c d : ℕ) (is_yes is_no : Bool) → test c ≡ is_yes → test d ≡ is_no
      → first (branched c d a b) ≡ either_value (where_true is_yes (first a)) (where_true is_no (first b))
  first_branched a b c d is_yes is_no e f =
      first-append (map (guarded c) a) (map (guarded d) b)
      ∙ ap (λ (o : Option ℤ). either_value o (first (map (guarded d) b))) (behind_guard c a is_yes e)
      ∙ ap (either_value (where_true is_yes (first a))) (behind_guard d b is_no f)

  -- ---- negatives, and sums

  negated_by : (b : Bool) (z w : ℤ) (o p : Option ℤ) → w ≡ neg_ℤ z → o ≡ signed_value true p → cond b (Some w) o ≡ signed_value true (cond b (Some z) p)
  negated_by true z w o p e f = ap (λ (n : ℤ). Some n) e
  negated_by false z w o p e f = f

  negated_first : (xs : List CaseValue) → first (map negated_case xs) ≡ signed_value true (first xs)
  negated_first [] = refl
  negated_first (x ∷ xs) =
      negated_by (list_all test x.guards) (linear_value values x.linear) (linear_value values (negative_of x.linear)) (first (map negated_case xs)) (first xs) (value-negative values x.linear) (negated_first xs)

  same_signed : (o : Option ℤ) → o ≡ signed_value false o
  same_signed (Some z) = refl
  same_signed None = refl

  pub signed_first : (negated : Bool) (xs : List CaseValue) → first (signed_cases negated xs) ≡ signed_value negated (first xs)
  signed_first true xs = negated_first xs
  signed_first false xs = same_signed (first xs)

  pair_value : (a b : LinearValue) → linear_value values (pair_sum a b) ≡ linear_value values a +ℤ linear_value values b
  pair_value a b =
      let sum = value-sum values (a ∷ b ∷ []) in
      omega (arith, ints, sum)

  moved_by : (b : Bool) (m z w : ℤ) (o p : Option ℤ) → w ≡ m +ℤ z → o ≡ both_values (Some m) p → cond b (Some w) o ≡ both_values (Some m) (cond b (Some z) p)
  moved_by true m z w o p e f = ap (λ (n : ℤ). Some n) e
  moved_by false m z w o p e f = f

  pub moved_first : (by : LinearValue) (xs : List CaseValue) → first (map (moved by) xs) ≡ both_values (Some (linear_value values by)) (first xs)
  moved_first by [] = refl
  moved_first by (x ∷ xs) =
      moved_by (list_all test x.guards) (linear_value values by) (linear_value values x.linear) (linear_value values (pair_sum by x.linear)) (first (map (moved by) xs)) (first xs) (pair_value by x.linear) (moved_first by xs)

  none_both : (o : Option ℤ) → both_values o None ≡ None
  none_both (Some z) = refl
  none_both None = refl

  -- the guards of both cases
  row_by : (b c : Bool) (m z w : ℤ) (o p : Option ℤ) → w ≡ m +ℤ z → o ≡ cond b (both_values (Some m) p) None → cond (b && c) (Some w) o ≡ cond b (both_values (Some m) (cond c (Some z) p)) None
  row_by true true m z w o p e f = ap (λ (n : ℤ). Some n) e
  row_by true false m z w o p e f = f
  row_by false c m z w o p e f = f

  row_none : (b : Bool) (m : ℤ) → None ≡ cond b (both_values (Some m) None) None
  row_none true m = refl
  row_none false m = refl

  row_first : (x : CaseValue) (ys : List CaseValue) → first (map (added x) ys) ≡ cond (list_all test x.guards) (both_values (Some (linear_value values x.linear)) (first ys)) None
  row_first x [] = row_none (list_all test x.guards) (linear_value values x.linear)
  row_first x (y ∷ ys) =
      ap (λ (b : Bool). cond b (Some (linear_value values (pair_sum x.linear y.linear))) (first (map (added x) ys))) (list_all-append test x.guards y.guards)
      ∙ row_by (list_all test x.guards) (list_all test y.guards) (linear_value values x.linear) (linear_value values y.linear) (linear_value values (pair_sum x.linear y.linear)) (first (map (added x) ys)) (first ys) (pair_value x.linear y.linear) (row_first x ys)

  rows_by : (b : Bool) (m : ℤ) (o p q : Option ℤ) → p ≡ both_values q o → either_value (cond b (both_values (Some m) o) None) p ≡ both_values (cond b (Some m) q) o
  rows_by true m (Some z) p q e = refl
  rows_by true m None p q e = e ∙ none_both q
  rows_by false m o p q e = e

  pub added_first : (xs ys : List CaseValue) → first (added_each xs ys) ≡ both_values (first xs) (first ys)
  added_first [] ys = refl
  added_first (x ∷ xs) ys =
      first-append (map (added x) ys) (added_each xs ys)
      ∙ ap (λ (o : Option ℤ). either_value o (first (added_each xs ys))) (row_first x ys)
      ∙ rows_by (list_all test x.guards) (linear_value values x.linear) (first ys) (first (added_each xs ys)) (first xs) (added_first xs ys)

  pub moved_is : (cases xs : List CaseValue) (by : LinearValue) (m : ℤ) (found made : Option ℤ) → cases ≡ map (moved by) xs → m ≡ linear_value values by → found ≡ first xs → made ≡ both_values (Some m) found → made ≡ first cases
  moved_is cases xs by m found made e f g k =
      k ∙ ap (λ (n : ℤ). both_values (Some n) found) f ∙ ap (both_values (Some (linear_value values by))) g ∙ sym (ap first e ∙ moved_first by xs)

  -- a linear term alone
  pub plain_first : (cases : List CaseValue) (l : LinearValue) (z : ℤ) → cases ≡ plain l → z ≡ linear_value values l → Some z ≡ first cases
  plain_first cases l z e f = ap (λ (n : ℤ). Some n) f ∙ ap first (sym e)

-- ---- the guards of parts

-- those of negatives, of choices that are moved, of branches, and of sums
module _ (count : ℕ) where
  abbrev Below : List CaseValue → Type 0
  Below cases = AreGuardsBelow count cases

  first_part : (xs ys : List CaseValue) → Below (xs ++ ys) → Below xs
  first_part [] ys h = tt
  first_part (x ∷ xs) ys h = (h.0, first_part xs ys h.1)

  second_part : (xs ys : List CaseValue) → Below (xs ++ ys) → Below ys
  second_part [] ys h = h
  second_part (x ∷ xs) ys h = second_part xs ys h.1

  below_negated : (xs : List CaseValue) → Below (map negated_case xs) → Below xs
  below_negated [] h = tt
  below_negated (x ∷ xs) h = (h.0, below_negated xs h.1)

  below_signed : (negated : Bool) (xs : List CaseValue) → Below (signed_cases negated xs) → Below xs
  below_signed true xs h = below_negated xs h
  below_signed false xs h = h

  below_map : (by : LinearValue) (xs : List CaseValue) → Below (map (moved by) xs) → Below xs
  below_map by [] h = tt
  below_map by (x ∷ xs) h = (h.0, below_map by xs h.1)

  pub below_moved : (cases xs : List CaseValue) (by : LinearValue) → cases ≡ map (moved by) xs → Below cases → Below xs
  below_moved cases xs by e h = below_map by xs (subst Below e h)

  pub below_listed : (negated : Bool) (cases xs : List CaseValue) → cases ≡ signed_cases negated xs → Below cases → Below xs
  below_listed negated cases xs e h = below_signed negated xs (subst Below e h)

  without_guard : (g : ℕ) (xs : List CaseValue) → Below (map (guarded g) xs) → Below xs
  without_guard g [] h = tt
  without_guard g (x ∷ xs) h = (h.0.1, without_guard g xs h.1)

  guard_below : (g : ℕ) (xs : List CaseValue) → 0 < length xs → Below (map (guarded g) xs) → g < count
  guard_below g [] some h = absurd (omega (arith, some))
  guard_below g (x ∷ xs) some h = h.0.0

  module _ (negated : Bool) (cases a b : List CaseValue) (c d : ℕ) (e : cases ≡ signed_cases negated (branched c d a b)) where
    pub branch_lengths : length cases ≡ length a + length b
    branch_lengths =
        let signed = signed_count negated (branched c d a b) in
        let same = ap length e in
        let joined = length-append (map (guarded c) a) (map (guarded d) b) in
        let first = length-map a (guarded c) in
        let second = length-map b (guarded d) in
        omega (arith, same, signed, joined, first, second)

    module _ (h : Below cases) where
      both_below : Below (map (guarded c) a ++ map (guarded d) b)
      both_below = below_listed negated cases (branched c d a b) e h

      pub first_below : Below a
      first_below = without_guard c a (first_part (map (guarded c) a) (map (guarded d) b) both_below)

      pub second_below : Below b
      second_below = without_guard d b (second_part (map (guarded c) a) (map (guarded d) b) both_below)

      pub first_guard : 0 < length a → c < count
      first_guard some = guard_below c a some (first_part (map (guarded c) a) (map (guarded d) b) both_below)

      pub second_guard : 0 < length b → d < count
      second_guard some = guard_below d b some (second_part (map (guarded c) a) (map (guarded d) b) both_below)

  guards_first : (xs ys : List ℕ) → AllByRecursion (λ g. g < count) (xs ++ ys) → AllByRecursion (λ g. g < count) xs
  guards_first [] ys h = tt
  guards_first (x ∷ xs) ys h = (h.0, guards_first xs ys h.1)

  guards_second : (xs ys : List ℕ) → AllByRecursion (λ g. g < count) (xs ++ ys) → AllByRecursion (λ g. g < count) ys
  guards_second [] ys h = h
  guards_second (x ∷ xs) ys h = guards_second xs ys h.1

  row_inside : (x : CaseValue) (ys : List CaseValue) → Below (map (added x) ys) → Below ys
  row_inside x [] h = tt
  row_inside x (y ∷ ys) h = (guards_second x.guards y.guards h.0, row_inside x ys h.1)

  row_outside : (x : CaseValue) (ys : List CaseValue) → 0 < length ys → Below (map (added x) ys) → AllByRecursion (λ g. g < count) x.guards
  row_outside x [] some h = absurd (omega (arith, some))
  row_outside x (y ∷ ys) some h = guards_first x.guards y.guards h.0

  rows_outside : (xs ys : List CaseValue) → 0 < length ys → Below (added_each xs ys) → Below xs
  rows_outside [] ys some h = tt
  rows_outside (x ∷ xs) ys some h = (row_outside x ys some (first_part (map (added x) ys) (added_each xs ys) h), rows_outside xs ys some (second_part (map (added x) ys) (added_each xs ys) h))

  rows_inside : (xs ys : List CaseValue) → 0 < length xs → Below (added_each xs ys) → Below ys
  rows_inside [] ys some h = absurd (omega (arith, some))
  rows_inside (x ∷ xs) ys some h = row_inside x ys (first_part (map (added x) ys) (added_each xs ys) h)

  -- each of two that are summed has a case
  some_rows : (xs ys : List CaseValue) → 0 < length (added_each xs ys) → (0 < length xs) × (0 < length ys)
  some_rows [] ys h = absurd (omega (arith, h))
  some_rows (x ∷ xs) [] h =
      let none = some_rows xs [] h in
      (omega arith, none.1)
  some_rows (x ∷ xs) (y ∷ ys) h = (omega arith, omega arith)

  module _ (negated : Bool) (cases a b : List CaseValue) (e : cases ≡ signed_cases negated (added_each a b)) (less : length a < length cases) (h : Below cases) where
    some_parts : (0 < length a) × (0 < length b)
    some_parts =
        let signed = signed_count negated (added_each a b) in
        let same = ap length e in
        some_rows a b (omega (arith, signed, same, less))

    pub outside_below : Below a
    outside_below = rows_outside a b some_parts.1 (below_listed negated cases (added_each a b) e h)

    pub inside_below : Below b
    inside_below = rows_inside a b some_parts.0 (below_listed negated cases (added_each a b) e h)

-- ---- what choices are made of

pub in_branches : (cases : List CaseValue) (negated : Bool) (f : Form) (c d : ℕ) (a b : Bor (List CaseValue)) → f ≡ form.Branched c d a b → IsForm cases negated f
    → (cases ≡ signed_cases negated (branched c d a.now b.now)) × (0 < length a.now) × (0 < length b.now)
in_branches cases negated f c d a b e h = subst (λ (g : Form). IsForm cases negated g) e h

pub in_sum : (cases : List CaseValue) (negated : Bool) (f : Form) (a b : Bor (List CaseValue)) → f ≡ form.Sum a b → IsForm cases negated f
    → (cases ≡ signed_cases negated (added_each a.now b.now)) × (length a.now < length cases) × (length b.now < length cases) × AreOverPoints a.now × AreOverPoints b.now
in_sum cases negated f a b e h = subst (λ (g : Form). IsForm cases negated g) e h

pub in_list : (cases : List CaseValue) (negated : Bool) (f : Form) (listed : Bor (List CaseValue)) → f ≡ form.Listed listed → IsForm cases negated f → cases ≡ signed_cases negated listed.now
in_list cases negated f listed e h = subst (λ (g : Form). IsForm cases negated g) e h

-- ---- guards one after another

pub guard_at : (count : ℕ) (guards : List ℕ) (k g : ℕ) → AllByRecursion (λ j. j < count) guards → k < length guards → g ≡ get_or guards k g → g < count
guard_at count [] k g h lt e = absurd (omega arith)
guard_at count (x ∷ xs) zero g h lt e = omega (arith, e, h.0)
guard_at count (x ∷ xs) (suc k) g h lt e = guard_at count xs k g h.1 (omega arith) e

pub guards_step : (test : ℕ → Bool) (guards : List ℕ) (k g : ℕ) → k < length guards → g ≡ get_or guards k g → list_all test (drop k guards) ≡ (test g && list_all test (drop (k + 1) guards))
guards_step test guards k g lt e = at_drop_more (list_all test) guards k g lt ∙ ap (λ (j : ℕ). test j && list_all test (drop (k + 1) guards)) (sym e)

pub guards_fail : (test : ℕ → Bool) (guards : List ℕ) (k g : ℕ) (whole : Bool) → k < length guards → g ≡ get_or guards k g → whole ≡ list_all test (drop k guards) → test g ≡ false → false ≡ whole
guards_fail test guards k g whole lt e f h = sym (f ∙ guards_step test guards k g lt e ∙ ap (λ (b : Bool). b && list_all test (drop (k + 1) guards)) h)

-- ---- cases one after another

module _ (test : ℕ → Bool) (values : List ℤ) (cases : List CaseValue) (k : ℕ) (x : CaseValue) (lt : k < length cases) (e : x ≡ get_or cases k x) where
  abbrev behind : Option ℤ
  behind = first_value test values (drop (k + 1) cases)

  case_step : first_value test values (drop k cases) ≡ cond (list_all test x.guards) (Some (linear_value values x.linear)) behind
  case_step =
      at_drop_more (first_value test values) cases k x lt
      ∙ ap (λ (c : CaseValue). cond (list_all test c.guards) (Some (linear_value values c.linear)) behind) (sym e)

  module _ (whole : Option ℤ) (f : whole ≡ first_value test values (drop k cases)) where
    pub case_found : list_all test x.guards ≡ true → (z : ℤ) → z ≡ linear_value values x.linear → Some z ≡ whole
    case_found h z g = ap (λ (n : ℤ). Some n) g ∙ sym (f ∙ case_step ∙ ap (λ (b : Bool). cond b (Some (linear_value values x.linear)) behind) h)

    pub case_passed : list_all test x.guards ≡ false → whole ≡ first_value test values (drop (k + 1) cases)
    case_passed h = f ∙ case_step ∙ ap (λ (b : Bool). cond b (Some (linear_value values x.linear)) behind) h

pub case_guards : (count : ℕ) (cases : List CaseValue) (k : ℕ) (x : CaseValue) → AreGuardsBelow count cases → k < length cases → x ≡ get_or cases k x → AllByRecursion (λ g. g < count) x.guards
case_guards count [] k x h lt e = absurd (omega arith)
case_guards count (y ∷ ys) zero x h lt e = subst (λ (c : CaseValue). AllByRecursion (λ g. g < count) c.guards) (sym e) h.0
case_guards count (y ∷ ys) (suc k) x h lt e = case_guards count ys k x h.1 (omega arith) e

-- and those of the whole
pub guards_over : (count nodes : ℕ) (cases : List CaseValue) → AllByRecursion (IsCaseOver count nodes) cases → AreGuardsBelow nodes cases
guards_over count nodes [] h = tt
guards_over count nodes (x ∷ xs) h = (h.0.guards, guards_over count nodes xs h.1)

-- ---- sums of two values

pub some_small : (found : Option ℤ) (z : ℤ) → found ≡ Some z → IfSome found IsTermValue → IsTermValue z
some_small found z e h = subst (λ (o : Option ℤ). IfSome o IsTermValue) e h

-- a value that is read
pub value_read : (z : ℤ) → IsTermValue z → to_z w128 (of_z w128 z) ≡ z
value_read z h =
    let low = h.0 in
    let high = h.1 in
    omega (arith, ints, low, high)

pub value_fits : (z : ℤ) → IsTermValue z → FitsSigned w128 z
value_fits z h =
    let near = abs_within z term_limit h.0 h.1 in
    fits_signed_from_abs w128 z (omega (arith, near))

module _ (first second : Option ℤ) (a b : ℤ) (e : first ≡ Some a) (f : second ≡ Some b) where
  pub both_are : both_values first second ≡ Some (a +ℤ b)
  both_are = ap (λ (o : Option ℤ). both_values o second) e ∙ ap (both_values (Some a)) f

  module _ (h : IfSome first IsTermValue) (k : IfSome second IsTermValue) (sum : IfSome (both_values first second) IsTermValue) where
    sum_parts : to_z w128 (of_z w128 a) +ℤ to_z w128 (of_z w128 b) ≡ a +ℤ b
    sum_parts =
        ap (λ (z : ℤ). z +ℤ to_z w128 (of_z w128 b)) (value_read a (some_small first a e h)) ∙ ap (λ (z : ℤ). a +ℤ z) (value_read b (some_small second b f k))

    sum_small : IsTermValue (a +ℤ b)
    sum_small = some_small (both_values first second) (a +ℤ b) both_are sum

    pub sum_fits : FitsSigned w128 (to_z w128 (of_z w128 a) +ℤ to_z w128 (of_z w128 b))
    sum_fits = rw sum_parts (value_fits (a +ℤ b) sum_small)

    pub sum_is : to_z w128 (of_z w128 (to_z w128 (of_z w128 a) +ℤ to_z w128 (of_z w128 b))) ≡ a +ℤ b
    sum_is = rw sum_parts (value_read (a +ℤ b) sum_small)

    pub sum_found : Some (to_z w128 (of_z w128 (to_z w128 (of_z w128 a) +ℤ to_z w128 (of_z w128 b)))) ≡ both_values first second
    sum_found = ap (λ (z : ℤ). Some z) sum_is ∙ sym both_are

    pub sum_limited : IfSome (Some (to_z w128 (of_z w128 (to_z w128 (of_z w128 a) +ℤ to_z w128 (of_z w128 b))))) IsTermValue
    sum_limited = subst (λ (o : Option ℤ). IfSome o IsTermValue) (sym sum_found) sum

-- a value that is found is not too large
pub small_same : (found made : Option ℤ) → made ≡ found → IfSome found IsTermValue → IfSome made IsTermValue
small_same found made e h = subst (λ (o : Option ℤ). IfSome o IsTermValue) (sym e) h

module _ (nodes : List NodeValue) (values : List ℤ) where
  -- the value of the first case, or 0
  found_by : (b : Bool) (z m : ℤ) (o : Option ℤ) → unwrap_or o (pos 0) ≡ m → unwrap_or (cond b (Some z) o) (pos 0) ≡ cond b z m
  found_by true z m o f = refl
  found_by false z m o f = f

  found_in : (cases : List CaseValue) → unwrap_or (first_value (truth nodes values) values cases) (pos 0) ≡ cases_value nodes values cases
  found_in [] = refl
  found_in (x ∷ xs) = found_by (list_all (truth nodes values) x.guards) (linear_value values x.linear) (cases_value nodes values xs) (first_value (truth nodes values) values xs) (found_in xs)

  pub value_found : (cases : List CaseValue) (found : Option ℤ) (n : ℤ) → found ≡ first_value (truth nodes values) values cases → n ≡ unwrap_or found (pos 0) → n ≡ cases_value nodes values cases
  value_found cases found n e f = f ∙ ap (λ (o : Option ℤ). unwrap_or o (pos 0)) e ∙ found_in cases

  -- marks that tell the truth find the same case
  pub first_told : (marks : List Bool) (cases : List CaseValue) (count : ℕ) → AreTruths nodes values marks → AllByRecursion (IsCaseOver count (length marks)) cases
      → first_value (λ g. get_or marks g false) values cases ≡ first_value (truth nodes values) values cases
  first_told marks [] count truths h = refl
  first_told marks (x ∷ xs) count truths h =
      ap (λ (b : Bool). cond b (Some (linear_value values x.linear)) (first_value (λ g. get_or marks g false) values xs)) (list_all-agree (λ j. get_or marks j false) (truth nodes values) (length marks) truths.each x.guards h.0.guards)
      ∙ ap (λ (o : Option ℤ). cond (list_all (truth nodes values) x.guards) (Some (linear_value values x.linear)) o) (first_told marks xs count truths h.1)
