-- Runs of equal time points in lists whose points don't fall.
use Rattle.std.proofs.Common.{refl, ap, sym, subst, ◌∙◌, arith, ◌≡◌, ◌≢◌, ℕ, zero, suc, ◌<◌, ◌≤◌, ◌+◌, ◌*◌, ◌^◌, List, [], ◌∷◌, ◌++◌, length, take, drop, get_or, set, Bool, true, false, cond, ℤ, pos, neg_ℤ, ◌+ℤ◌, ◌≤ℤ◌, ◌-◌, Some, None, to_z, of_z, w64}
use Rattle.std.proofs.lemmas.Int.{ints}
use Rattle.std.proofs.lemmas.List.{drop_more, drop-drop, drop-set-lt, take_more_set, append_assoc, length-set, length-drop, take_rest, nil_from_length}
use Rattle.std.specs.List.{AllByRecursion, list_all}
use Rattle.std.specs.Ordering.{int_eq}
use Rattle.std.proofs.lemmas.Bool.Decides.{Decides-int_eq}
use Rattle.idl_linear.specs.declared.summand.Summand.{Summand}
use Rattle.idl_linear.specs.Limits.{coefficient_limit, points_limit}
use Rattle.idl_linear.specs.code.FirstRuns.{IsSmallRun, IsFirstRun}
use Rattle.idl_linear.specs.code.Trees.{AllFrom}
use Rattle.idl_linear.specs.Linear.{put_before, with_summand, collected, is_within}
use Rattle.idl_linear.specs.Forms.{AscendAbove, IsSummand}
use Rattle.idl_linear.specs.code.Steps.{RiseFrom}
use Rattle.idl_linear.proofs.Coefficients.{summand, AllAbove, ascend-collected}
use Rattle.idl_linear.proofs.Collecting.{with-before, with-same, with-zero}
use Rattle.idl_linear.proofs.Merging.{both_true, within_low, within_high}

pub rise_above : (m n : ℕ) (xs : List Summand) → m < n → RiseFrom n xs → AllAbove m xs
rise_above m n [] lt r = tt
rise_above m n (x ∷ xs) lt r = (omega arith, rise_above m x.point xs (omega arith) r.1)

pub rise_weaker : (m n : ℕ) (xs : List Summand) → m ≤ n → RiseFrom n xs → RiseFrom m xs
rise_weaker m n [] le r = tt
rise_weaker m n (x ∷ xs) le r = (omega arith, r.1)

pub rise-drop : (k m : ℕ) (xs : List Summand) → RiseFrom m xs → RiseFrom m (drop k xs)
rise-drop zero m xs r = r
rise-drop (suc k) m [] r = tt
rise-drop (suc k) m (x ∷ xs) r = rise-drop k m xs (rise_weaker m x.point xs r.0 r.1)

pub each-drop : (k : ℕ) (xs : List Summand) → AllByRecursion IsSummand xs → AllByRecursion IsSummand (drop k xs)
each-drop zero xs h = h
each-drop (suc k) [] h = tt
each-drop (suc k) (x ∷ xs) h = each-drop k xs h.1

abbrev pub nothing : Summand
nothing = record { point = 0; coefficient = pos 0 }

-- what is known when so many of a run are added up
pub record IsRun (summands : List Summand) (at count : ℕ) (total : ℤ) : Type 0 where
  pub len : count ≤ length summands
  pub above : 0 < at
  pub same : collected summands ≡ with_summand (record { point = at; coefficient = total }) (collected (drop count summands))
  pub rises : RiseFrom at (drop count summands)
  pub each : AllByRecursion IsSummand (drop count summands)
  pub low : neg_ℤ (pos (coefficient_limit * count)) ≤ℤ total
  pub high : total ≤ℤ pos (coefficient_limit * count)

ordered : (m : ℕ) (xs : List Summand) → 0 < m → RiseFrom m xs → AscendAbove 0 (collected xs)
ordered m xs lt r = ascend-collected 0 xs (rise_above 0 m xs lt r)

run_starts_at : (x : Summand) (xs : List Summand) → RiseFrom 1 (x ∷ xs) → AllByRecursion IsSummand (x ∷ xs) → IsRun (x ∷ xs) x.point 0 (pos 0)
run_starts_at x xs r each = record {
  len = omega arith;
  above = omega arith;
  same = sym (with-zero 0 x.point (collected (x ∷ xs)) (omega arith) (ordered 1 (x ∷ xs) (omega arith) r));
  rises = (omega arith, r.1);
  each = each;
  low = omega (arith, ints);
  high = omega (arith, ints);
}

pub run_starts : (summands : List Summand) → 0 < length summands → RiseFrom 1 summands → AllByRecursion IsSummand summands → IsRun summands (get_or summands 0 (record { point = 0; coefficient = pos 0 })).point 0 (pos 0)
run_starts [] lt r each = absurd (omega arith)
run_starts (x ∷ xs) lt r each = run_starts_at x xs r each

module _ (summands : List Summand) (at count : ℕ) (total : ℤ) (h : IsRun summands at count total) where
  module _ (x : Summand) (rest : List Summand) (e : drop count summands ≡ x ∷ rest) where
    rises_at : RiseFrom at (x ∷ rest)
    rises_at = subst (λ (zs : List Summand). RiseFrom at zs) e h.rises

    each_at : AllByRecursion IsSummand (x ∷ rest)
    each_at = subst (λ (zs : List Summand). AllByRecursion IsSummand zs) e h.each

    next_same : x.point ≡ at → collected summands ≡ with_summand (summand at (total +ℤ x.coefficient)) (collected rest)
    next_same same =
        h.same ∙ ap (λ (zs : List Summand). with_summand (summand at total) (collected zs)) e
        ∙ ap (λ (k : ℕ). with_summand (summand at total) (with_summand (summand k x.coefficient) (collected rest))) same
        ∙ with-same 0 at total x.coefficient (collected rest) h.above (ordered x.point rest (omega arith) rises_at.1)

    ends_before : x.point ≢ at → collected summands ≡ put_before (summand at total) (collected (drop count summands))
    ends_before away =
        let risen = rises_at in
        h.same ∙ with-before 0 (summand at total) (collected (drop count summands)) h.above
        (subst (λ (zs : List Summand). AscendAbove at (collected zs)) (sym e) (ascend-collected at (x ∷ rest) (omega (arith, risen.0), rise_above at x.point rest (omega (arith, risen.0)) risen.1)))

  -- one more
  pub run_goes_on : count < length summands → (get_or summands count nothing).point ≡ at → IsRun summands at (count + 1) (total +ℤ (get_or summands count nothing).coefficient)
  run_goes_on lt same =
      let x = get_or summands count nothing in
      let more : drop count summands ≡ x ∷ drop (count + 1) summands = drop_more summands count nothing lt in
      let here = each_at x (drop (count + 1) summands) more in
      let low = within_low coefficient_limit x.coefficient here.0.limited in
      let high = within_high coefficient_limit x.coefficient here.0.limited in
      record {
        len = omega arith;
        above = h.above;
        same = next_same x (drop (count + 1) summands) more same;
        rises = rise_weaker at x.point (drop (count + 1) summands) (omega (arith, same)) (rises_at x (drop (count + 1) summands) more).1;
        each = here.1;
        low = omega (arith, ints, low, h.low);
        high = omega (arith, ints, high, h.high);
      }

  -- the next coefficient, and the count, are small
  pub next_coefficient : count < length summands → (neg_ℤ (pos coefficient_limit) ≤ℤ (get_or summands count nothing).coefficient) × ((get_or summands count nothing).coefficient ≤ℤ pos coefficient_limit)
  next_coefficient lt =
      let x = get_or summands count nothing in
      let here = each_at x (drop (count + 1) summands) (drop_more summands count nothing lt) in
      (within_low coefficient_limit x.coefficient here.0.limited, within_high coefficient_limit x.coefficient here.0.limited)

  -- its end, before another point
  pub run_ends_before : count < length summands → (get_or summands count nothing).point ≢ at → collected summands ≡ put_before (record { point = at; coefficient = total }) (collected (drop count summands))
  run_ends_before lt away =
      ends_before (get_or summands count nothing) (drop (count + 1) summands) (drop_more summands count nothing lt) away

-- the run as the code keeps it
module _ (summands : List Summand) (count : ℕ) (total : ℤ) (some : 0 < length summands) (each : AllByRecursion IsSummand summands) where
  first_point : (0 < (get_or summands 0 (record { point = 0; coefficient = pos 0 })).point) × ((get_or summands 0 (record { point = 0; coefficient = pos 0 })).point < points_limit)
  first_point = here summands some each where
    here : (xs : List Summand) → 0 < length xs → AllByRecursion IsSummand xs → (0 < (get_or xs 0 (record { point = 0; coefficient = pos 0 })).point) × ((get_or xs 0 (record { point = 0; coefficient = pos 0 })).point < points_limit)
    here [] lt h = absurd (omega arith)
    here (x ∷ xs) lt h = (h.0.above, h.0.below)

  module _ (h : IsRun summands (get_or summands 0 (record { point = 0; coefficient = pos 0 })).point count total) (fits : length summands < 2 ^ 64) where
    small : IsSmallRun (record { len = count; point = (get_or summands 0 (record { point = 0; coefficient = pos 0 })).point; sum = total })
    small =
        let here = first_point in
        record { above = here.0; below = here.1; low = omega (arith, ints, h.low, h.len, fits); high = omega (arith, ints, h.high, h.len, fits) }

    others_by : (xs : List Summand) → RiseFrom (get_or summands 0 (record { point = 0; coefficient = pos 0 })).point xs → (get_or xs 0 (record { point = 0; coefficient = pos 0 })).point ≢ (get_or summands 0 (record { point = 0; coefficient = pos 0 })).point
        → AllFrom ((get_or summands 0 (record { point = 0; coefficient = pos 0 })).point + 1) xs
    others_by [] r ne = tt
    others_by (x ∷ xs) r ne =
        let more : (get_or summands 0 (record { point = 0; coefficient = pos 0 })).point + 1 ≤ x.point = omega (arith, r.0, ne) in
        (more, rise_from (get_or summands 0 (record { point = 0; coefficient = pos 0 })).point x.point xs more r.1) where
          rise_from : (m n : ℕ) (ys : List Summand) → m + 1 ≤ n → RiseFrom n ys → AllFrom (m + 1) ys
          rise_from m n [] le s = tt
          rise_from m n (y ∷ ys) le s = (omega (arith, s.0, le), rise_from m y.point ys (omega (arith, s.0, le)) s.1)

    pub first_run_before : count < length summands → (get_or summands count nothing).point ≢ (get_or summands 0 nothing).point
        → IsFirstRun summands (record { len = count; point = (get_or summands 0 (record { point = 0; coefficient = pos 0 })).point; sum = total })
    first_run_before lt ne = record { small = small; others = others_by (drop count summands) h.rises (λ e. ne (ap (λ (s : Summand). s.point) (sym get_or-drop_zero) ∙ e)) } where
      get_or-drop_zero : get_or (drop count summands) 0 nothing ≡ get_or summands count nothing
      get_or-drop_zero = ap (λ (l : List Summand). get_or l 0 nothing) (drop_more summands count nothing lt)

    pub first_run_whole : length summands ≤ count → IsFirstRun summands (record { len = count; point = (get_or summands 0 (record { point = 0; coefficient = pos 0 })).point; sum = total })
    first_run_whole le =
        let none : drop count summands ≡ [] = nil_from_length (drop count summands) (length-drop count summands ∙ omega (arith, le)) in
        record { small = small; others = subst (λ (l : List Summand). AllFrom ((get_or summands 0 (record { point = 0; coefficient = pos 0 })).point + 1) l) (sym none) tt }

abbrev limits_hold : List Summand → Bool
limits_hold l = list_all (λ (s : Summand). is_within coefficient_limit s.coefficient) l

-- what is known when a list is collected in place, up to its item at `from`
pub record IsCollecting (whole items : List Summand) (kept from : ℕ) : Type 0 where
  pub order : kept ≤ from
  pub len : from ≤ length items
  pub same : take kept items ++ collected (drop from items) ≡ collected whole
  pub limited : list_all (λ (s : Summand). is_within coefficient_limit s.coefficient) (take kept items) ≡ true
  pub rises : RiseFrom 1 (drop from items)
  pub each : AllByRecursion IsSummand (drop from items)

put_by : (point : ℕ) (total : ℤ) (l : List Summand) (b : Bool) → int_eq total (pos 0) ≡ b → put_before (summand point total) l ≡ cond b l (summand point total ∷ l)
put_by point total l b e = ap (λ (c : Bool). cond c l (summand point total ∷ l)) e

pub put_none : (point : ℕ) (total : ℤ) (l : List Summand) → total ≡ pos 0 → put_before (summand point total) l ≡ l
put_none point total l none = put_by point total l true ((Decides-int_eq total (pos 0)).1 none)

not_equal : (total : ℤ) (b : Bool) → int_eq total (pos 0) ≡ b → total ≢ pos 0 → b ≡ false
not_equal total true e some = absurd (some ((Decides-int_eq total (pos 0)).0 e))
not_equal total false e some = refl

pub put_some : (point : ℕ) (total : ℤ) (l : List Summand) → total ≢ pos 0 → put_before (summand point total) l ≡ summand point total ∷ l
put_some point total l some = put_by point total l false (not_equal total (int_eq total (pos 0)) refl some)

limits-push : (l : List Summand) (s : Summand) → limits_hold l ≡ true → is_within coefficient_limit s.coefficient ≡ true → limits_hold (l ++ s ∷ []) ≡ true
limits-push [] s h k = rw k refl
limits-push (x ∷ l) s h k =
    let parts = both_true (is_within coefficient_limit x.coefficient) (limits_hold l) h in
    rw (parts.0) (limits-push l s parts.1 k)

module _ (whole items : List Summand) (kept from point count : ℕ) (total : ℤ) (h : IsCollecting whole items kept from) (some : 0 < count) (len : from + count ≤ length items)
    (e : collected (drop from items) ≡ put_before (record { point = point; coefficient = total }) (collected (drop count (drop from items)))) where
  rest : drop count (drop from items) ≡ drop (from + count) items
  rest = drop-drop count from items

  -- the run adds up to nothing
  pub collecting_without : total ≡ pos 0 → IsCollecting whole items kept (from + count)
  collecting_without none = record {
    order = omega arith;
    len = len;
    same = ap (λ (l : List Summand). take kept items ++ l) (sym (e ∙ put_none point total (collected (drop count (drop from items))) none ∙ ap collected rest)) ∙ h.same;
    limited = h.limited;
    rises = subst (λ (l : List Summand). RiseFrom 1 l) rest (rise-drop count 1 (drop from items) h.rises);
    each = subst (λ (l : List Summand). AllByRecursion IsSummand l) rest (each-drop count (drop from items) h.each);
  }

  module _ (now : total ≢ pos 0) where
    whole_is : take kept items ++ summand point total ∷ collected (drop (from + count) items) ≡ collected whole
    whole_is = ap (λ (l : List Summand). take kept items ++ l) (sym (e ∙ put_some point total (collected (drop count (drop from items))) now ∙ ap (λ (l : List Summand). summand point total ∷ collected l) rest)) ∙ h.same

    -- the run adds up to something within the limit
    pub collecting_with : is_within coefficient_limit total ≡ true → (next : List Summand) → next ≡ set items kept (record { point = point; coefficient = total }) → IsCollecting whole next (kept + 1) (from + count)
    collecting_with within next is =
        let front : take (kept + 1) next ≡ take kept items ++ summand point total ∷ [] = ap (take (kept + 1)) is ∙ take_more_set items kept (summand point total) (omega (arith, h.order)) in
        let back : drop (from + count) next ≡ drop (from + count) items = ap (drop (from + count)) is ∙ drop-set-lt (from + count) items kept (summand point total) (omega (arith, h.order)) in
        record {
          order = omega (arith, h.order);
          len = rw (is, length-set) len;
          same = rw (front, back, append_assoc) whole_is;
          limited = rw front (limits-push (take kept items) (summand point total) h.limited within);
          rises = subst (λ (l : List Summand). RiseFrom 1 l) (rest ∙ sym back) (rise-drop count 1 (drop from items) h.rises);
          each = subst (λ (l : List Summand). AllByRecursion IsSummand l) (rest ∙ sym back) (each-drop count (drop from items) h.each);
        }

found_by : (limit : ℕ) (z n : ℤ) (b : Bool) → is_within limit z ≡ b → Some n ≡ cond b (Some z) None → (n ≡ z) × (is_within limit n ≡ true)
found_by limit z n true e h =
    let same : n ≡ z = cc in
    (same, ap (is_within limit) same ∙ e)
found_by limit z n false e h = absurd cc

-- what is found within a limit
pub found_is : (limit : ℕ) (z n : ℤ) → Some n ≡ cond (is_within limit z) (Some z) None → (n ≡ z) × (is_within limit n ≡ true)
found_is limit z n h = found_by limit z n (is_within limit z) refl h

-- a coefficient that is found, as it is stored
pub stored : (z n : ℤ) → Some n ≡ cond (is_within coefficient_limit z) (Some z) None → to_z w64 (of_z w64 n) ≡ n
stored z n h =
    let within = (found_is coefficient_limit z n h).1 in
    let low = within_low coefficient_limit n within in
    let high = within_high coefficient_limit n within in
    omega (arith, ints, low, high)

pub stored_zero : (z n : ℤ) → Some n ≡ cond (is_within coefficient_limit z) (Some z) None → of_z w64 n ≡ 0 → n ≡ pos 0
stored_zero z n h e = sym (stored z n h) ∙ ap (to_z w64) e

module _ (whole items seen : List Summand) (kept from point count : ℕ) (total : ℤ) (h : IsCollecting whole items kept from) (is : seen ≡ items) (some : 0 < count)
    (len : count ≤ length (take (length seen - from) (drop from seen)))
    (e : collected (take (length seen - from) (drop from seen)) ≡ put_before (record { point = point; coefficient = total }) (collected (drop count (take (length seen - from) (drop from seen))))) where
  part : take (length seen - from) (drop from seen) ≡ drop from items
  part = take_rest seen from ∙ ap (drop from) is

  part_len : from + count ≤ length items
  part_len =
      let longer = ap (length {A = Summand}) part ∙ length-drop from items in
      omega (arith, longer, len, h.len, some)

  part_sum : collected (drop from items) ≡ put_before (record { point = point; coefficient = total }) (collected (drop count (drop from items)))
  part_sum = ap collected (sym part) ∙ e ∙ ap (λ (l : List Summand). put_before (summand point total) (collected (drop count l))) part

  module _ (n : ℤ) (f : Some n ≡ cond (is_within coefficient_limit total) (Some total) None) where
    pub step_with : of_z w64 n ≢ 0 → IsCollecting whole (set items kept (record { point = point; coefficient = to_z w64 (of_z w64 n) })) (kept + 1) (from + count)
    step_with now =
        let found = found_is coefficient_limit total n f in
        let is_stored : to_z w64 (of_z w64 n) ≡ total = stored total n f ∙ found.0 in
        let some_total : total ≢ pos 0 = λ z. now (ap (of_z w64) (found.0 ∙ z)) in
        let within : is_within coefficient_limit total ≡ true = ap (is_within coefficient_limit) (sym found.0) ∙ found.1 in
        collecting_with whole items kept from point count total h some part_len part_sum some_total within
        (set items kept (summand point (to_z w64 (of_z w64 n)))) (ap (λ (c : ℤ). set items kept (summand point c)) is_stored)

    pub step_without : of_z w64 n ≡ 0 → IsCollecting whole items kept (from + count)
    step_without none = collecting_without whole items kept from point count total h some part_len part_sum (sym (found_is coefficient_limit total n f).0 ∙ stored_zero total n f none)
