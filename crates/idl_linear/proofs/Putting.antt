-- Sorted summands, or their negatives, that go into a list run by run.
use Rattle.std.proofs.Common.{refl, ap, sym, subst, ◌∙◌, arith, ◌≡◌, ℕ, ◌<◌, ◌≤◌, ◌+◌, ◌==◌, nat_lt, List, [], ◌∷◌, ◌++◌, map, length, drop, Bool, true, false, cond, ℤ, pos, neg_ℤ, ◌+ℤ◌}
use Rattle.std.proofs.lemmas.Int.{ints}
use Rattle.std.proofs.lemmas.Bool.Decides.{nat_tests}
use Rattle.std.proofs.lemmas.List.{drop-drop, length-drop, nil_from_length}
use Rattle.std.specs.List.{AllByRecursion, list_all}
use Rattle.std.specs.Ordering.{int_eq}
use Rattle.idl_linear.specs.declared.summand.Summand.{Summand}
use Rattle.idl_linear.specs.declared.runs.Run.{Run}
use Rattle.idl_linear.specs.Limits.{coefficient_limit, points_limit}
use Rattle.idl_linear.specs.Linear.{put_before, with_summand, collected, negative_summand, is_within}
use Rattle.idl_linear.specs.Forms.{AscendAbove, IsSummand}
use Rattle.idl_linear.specs.declared.error.LinearError.{LinearError}
use Rattle.idl_linear.specs.declared.error.LinearError.TheVariants as error
use Rattle.idl_linear.specs.code.Steps.{IsRest, RiseFrom, Refuses}
use Rattle.idl_linear.specs.code.FirstRuns.{IsFirstRun, signed_run}
use Rattle.idl_linear.specs.code.Trees.{part_at, coefficient_at, signed, AllFrom}
use Rattle.idl_linear.proofs.Coefficients.{summand, coefficient-put, coefficient-with, coefficient-collected, coefficient-append, coefficient-below, same_by_coefficients, ascend-with, ascend-collected, AllAbove}
use Rattle.idl_linear.proofs.Collecting.{collected-same, collected-ascending, all_above-append, all_above-ascending}
use Rattle.idl_linear.proofs.Merging.{both_true}
use Rattle.idl_linear.proofs.Parts.{coefficient-from, from_ascending}
use Rattle.idl_linear.proofs.Running.{rise-drop, each-drop}
use Rattle.idl_linear.proofs.Sorting.{each_above}
use Rattle.idl_linear.proofs.Summing.{each-negative}

-- ---- negatives

abbrev pub signed_number : Bool → ℤ → ℤ
signed_number negated n = cond negated (neg_ℤ n) n

part_negative : (b : Bool) (c : ℤ) → cond b (neg_ℤ c) (pos 0) ≡ neg_ℤ (cond b c (pos 0))
part_negative true c = refl
part_negative false c = refl

pub coefficient-negative : (p : ℕ) (xs : List Summand) → coefficient_at p (map negative_summand xs) ≡ neg_ℤ (coefficient_at p xs)
coefficient-negative p [] = refl
coefficient-negative p (x ∷ xs) =
    let here : part_at p (negative_summand x) ≡ neg_ℤ (part_at p x) = part_negative (x.point == p) x.coefficient in
    let rest = coefficient-negative p xs in
    omega (arith, ints, here, rest)

pub coefficient-signed : (negated : Bool) (p : ℕ) (xs : List Summand) → coefficient_at p (signed negated xs) ≡ signed_number negated (coefficient_at p xs)
coefficient-signed true p xs = coefficient-negative p xs
coefficient-signed false p xs = refl

pub each-signed : (negated : Bool) (xs : List Summand) → AllByRecursion IsSummand xs → AllByRecursion IsSummand (signed negated xs)
each-signed true xs h = each-negative xs h
each-signed false xs h = h

pub ascend-negative : (m : ℕ) (xs : List Summand) → AscendAbove m xs → AscendAbove m (map negative_summand xs)
ascend-negative m [] a = tt
ascend-negative m (x ∷ xs) a = (a.0, (λ e. a.1 (omega (arith, ints, e))), ascend-negative x.point xs a.2)

pub rest-signed : (negated : Bool) (xs : List Summand) → IsRest xs → IsRest (signed negated xs)
rest-signed true xs r = record { ascends = ascend-negative 0 xs r.ascends; each = each-negative xs r.each }
rest-signed false xs r = r

-- the negative of what is collected
pub signed-collected : (negated : Bool) (xs ys : List Summand) → AllAbove 0 xs → AllAbove 0 ys → ((p : ℕ) → signed_number negated (coefficient_at p xs) ≡ coefficient_at p ys)
    → signed negated (collected xs) ≡ collected ys
signed-collected true xs ys h k e =
    same_by_coefficients 0 (map negative_summand (collected xs)) (collected ys) (ascend-negative 0 (collected xs) (ascend-collected 0 xs h)) (ascend-collected 0 ys k)
    (λ p. coefficient-negative p (collected xs) ∙ ap neg_ℤ (coefficient-collected p xs) ∙ e p ∙ sym (coefficient-collected p ys))
signed-collected false xs ys h k e = collected-same 0 xs ys h k e

-- ---- what is within the limits

module _ (p : ℕ) (x : Summand) (xs : List Summand) (a : AscendAbove x.point xs) (h : is_within coefficient_limit x.coefficient ≡ true) (rest : is_within coefficient_limit (coefficient_at p xs) ≡ true) where
  limited_by : (b : Bool) → (x.point == p) ≡ b → is_within coefficient_limit (coefficient_at p (x ∷ xs)) ≡ true
  limited_by true e =
      let same : x.point ≡ p = grind (arith, nat_tests, e) in
      let here : part_at p x ≡ x.coefficient = ap (λ (c : Bool). cond c x.coefficient (pos 0)) e in
      let none : coefficient_at p xs ≡ pos 0 = coefficient-from p xs (subst (λ (k : ℕ). AllFrom (k + 1) xs) same (from_ascending x.point xs a)) in
      let all : coefficient_at p (x ∷ xs) ≡ x.coefficient = omega (arith, ints, here, none) in
      ap (is_within coefficient_limit) all ∙ h
  limited_by false e =
      let here : part_at p x ≡ pos 0 = ap (λ (c : Bool). cond c x.coefficient (pos 0)) e in
      let all : coefficient_at p (x ∷ xs) ≡ coefficient_at p xs = omega (arith, ints, here) in
      ap (is_within coefficient_limit) all ∙ rest

pub limited_at : (m p : ℕ) (l : List Summand) → AscendAbove m l → list_all (λ (s : Summand). is_within coefficient_limit s.coefficient) l ≡ true → is_within coefficient_limit (coefficient_at p l) ≡ true
limited_at m p [] a h = refl
limited_at m p (x ∷ xs) a h =
    let parts = both_true (is_within coefficient_limit x.coefficient) (list_all (λ (s : Summand). is_within coefficient_limit s.coefficient) xs) h in
    limited_by p x xs a.2 parts.0 (limited_at x.point p xs a.2 parts.1) (x.point == p) refl

each_put : (s : Summand) (l : List Summand) (b : Bool) → IsSummand s → AllByRecursion IsSummand l → AllByRecursion IsSummand (cond b l (s ∷ l))
each_put s l true h k = k
each_put s l false h k = (h, k)

-- one more summand, where the total is within the limit
module _ (s : Summand) (above : 0 < s.point) (below : s.point < points_limit) where
  one : (c : ℤ) → is_within coefficient_limit c ≡ true → IsSummand (summand s.point c)
  one c h = record { above = above; below = below; limited = h }

  each_by : (m : ℕ) (t : Summand) (ts more : List Summand) (b c : Bool) → nat_lt s.point t.point ≡ b → (s.point == t.point) ≡ c → AscendAbove m (t ∷ ts) → AllByRecursion IsSummand (t ∷ ts)
      → is_within coefficient_limit (coefficient_at s.point (t ∷ ts) +ℤ s.coefficient) ≡ true → (is_within coefficient_limit (coefficient_at s.point ts +ℤ s.coefficient) ≡ true → AllByRecursion IsSummand more)
      → AllByRecursion IsSummand (cond b (put_before s (t ∷ ts)) (cond c (put_before (record { point = t.point; coefficient = s.coefficient +ℤ t.coefficient }) ts) (t ∷ more)))
  each_by m t ts more true c e f a each h rec =
      let less : s.point < t.point = grind (arith, nat_tests, e) in
      let none : coefficient_at s.point (t ∷ ts) ≡ pos 0 = coefficient-below s.point (t ∷ ts) (less, a.1, a.2) in
      let total : coefficient_at s.point (t ∷ ts) +ℤ s.coefficient ≡ s.coefficient = omega (arith, ints, none) in
      each_put s (t ∷ ts) (int_eq s.coefficient (pos 0)) (one s.coefficient (ap (is_within coefficient_limit) (sym total) ∙ h)) each
  each_by m t ts more false true e f a each h rec =
      let same : s.point ≡ t.point = grind (arith, nat_tests, f) in
      let test : (t.point == s.point) ≡ true = grind (arith, nat_tests, same) in
      let here : part_at s.point t ≡ t.coefficient = ap (λ (c : Bool). cond c t.coefficient (pos 0)) test in
      let none : coefficient_at s.point ts ≡ pos 0 = coefficient-below s.point ts (subst (λ (k : ℕ). AscendAbove k ts) (sym same) a.2) in
      let total : coefficient_at s.point (t ∷ ts) +ℤ s.coefficient ≡ s.coefficient +ℤ t.coefficient = omega (arith, ints, here, none) in
      let P : ℕ → Type 0 = λ k. IsSummand (summand k (s.coefficient +ℤ t.coefficient)) in
      each_put (summand t.point (s.coefficient +ℤ t.coefficient)) ts (int_eq (s.coefficient +ℤ t.coefficient) (pos 0))
      (subst P same (one (s.coefficient +ℤ t.coefficient) (ap (is_within coefficient_limit) (sym total) ∙ h))) each.1
  each_by m t ts more false false e f a each h rec =
      let test : (t.point == s.point) ≡ false = grind (arith, nat_tests, f) in
      let here : part_at s.point t ≡ pos 0 = ap (λ (c : Bool). cond c t.coefficient (pos 0)) test in
      let total : coefficient_at s.point (t ∷ ts) +ℤ s.coefficient ≡ coefficient_at s.point ts +ℤ s.coefficient = omega (arith, ints, here) in
      (each.0, rec (ap (is_within coefficient_limit) (sym total) ∙ h))

  each-with : (m : ℕ) (l : List Summand) → AscendAbove m l → AllByRecursion IsSummand l → is_within coefficient_limit (coefficient_at s.point l +ℤ s.coefficient) ≡ true → AllByRecursion IsSummand (with_summand s l)
  each-with m [] a each h =
      let total : pos 0 +ℤ s.coefficient ≡ s.coefficient = omega (arith, ints) in
      each_put s [] (int_eq s.coefficient (pos 0)) (one s.coefficient (ap (is_within coefficient_limit) (sym total) ∙ h)) tt
  each-with m (t ∷ ts) a each h = each_by m t ts (with_summand s ts) (nat_lt s.point t.point) (s.point == t.point) refl refl a each h (each-with t.point ts a.2 each.1)

  pub rest-with : (l : List Summand) → IsRest l → is_within coefficient_limit (coefficient_at s.point l +ℤ s.coefficient) ≡ true → IsRest (with_summand s l)
  rest-with l r h = record { ascends = ascend-with 0 s l above r.ascends; each = each-with 0 l r.ascends r.each h }

-- ---- run by run

-- what is known when the runs up to a place are in
pub record IsPutting (negated : Bool) (summands tree now : List Summand) (start : ℕ) : Type 0 where
  pub len : start ≤ length summands
  pub rest : IsRest now
  pub rises : RiseFrom 1 (drop start summands)
  pub each : AllByRecursion IsSummand (drop start summands)
  pub same : collected (signed negated (drop start summands) ++ now) ≡ collected (signed negated summands ++ tree)

all_above : (negated : Bool) (xs now : List Summand) → AllByRecursion IsSummand xs → IsRest now → AllAbove 0 (signed negated xs ++ now)
all_above negated xs now each rest = all_above-append 0 (signed negated xs) now (each_above (signed negated xs) (each-signed negated xs each)) (all_above-ascending 0 now rest.ascends)

run_summand : Run → Summand
run_summand run = record { point = run.point; coefficient = run.sum }

signed_sum : (negated : Bool) (p : ℕ) (run : Run) → part_at p (signed_run negated run) ≡ signed_number negated (part_at p (run_summand run))
unfolding run_summand
signed_sum true p run = part_negative (run.point == p) run.sum
signed_sum false p run = refl

signed_more : (negated : Bool) (a b c : ℤ) → a ≡ b +ℤ c → signed_number negated a ≡ signed_number negated b +ℤ signed_number negated c
signed_more true a b c e = omega (arith, ints, e)
signed_more false a b c e = e

signed_point : (negated : Bool) (run : Run) → (signed_run negated run).point ≡ run.point
signed_point true run = refl
signed_point false run = refl

module _ (negated : Bool) (xs now : List Summand) (run : Run) (each : AllByRecursion IsSummand xs) (rest : IsRest now) (first : IsFirstRun xs run)
    (sum : collected xs ≡ put_before (record { point = run.point; coefficient = run.sum }) (collected (drop run.len xs))) where
  split : (p : ℕ) → coefficient_at p xs ≡ part_at p (run_summand run) +ℤ coefficient_at p (drop run.len xs)
  unfolding run_summand
  split p =
      sym (coefficient-collected p xs) ∙ ap (coefficient_at p) sum
      ∙ coefficient-put p (run_summand run) (collected (drop run.len xs))
      ∙ ap (λ (z : ℤ). part_at p (run_summand run) +ℤ z) (coefficient-collected p (drop run.len xs))

  split_signed : (p : ℕ) → coefficient_at p (signed negated xs) ≡ part_at p (signed_run negated run) +ℤ coefficient_at p (signed negated (drop run.len xs))
  split_signed p =
      let more = signed_more negated (coefficient_at p xs) (part_at p (run_summand run)) (coefficient_at p (drop run.len xs)) (split p) in
      let whole = coefficient-signed negated p xs in
      let part = coefficient-signed negated p (drop run.len xs) in
      let here = signed_sum negated p run in
      omega (arith, ints, more, whole, part, here)

  -- the total at the run's time point
  total_at : coefficient_at run.point (signed negated xs ++ now) ≡ coefficient_at run.point now +ℤ (signed_run negated run).coefficient
  total_at =
      let both = coefficient-append run.point (signed negated xs) now in
      let front = split_signed run.point in
      let others : coefficient_at run.point (signed negated (drop run.len xs)) ≡ pos 0 = none_behind negated in
      let here : part_at run.point (signed_run negated run) ≡ (signed_run negated run).coefficient = own negated in
      omega (arith, ints, both, front, others, here) where
        none_behind : (b : Bool) → coefficient_at run.point (signed b (drop run.len xs)) ≡ pos 0
        none_behind b =
            coefficient-signed b run.point (drop run.len xs) ∙ ap (signed_number b) (coefficient-from run.point (drop run.len xs) first.others) ∙ nothing b where
              nothing : (b : Bool) → signed_number b (pos 0) ≡ pos 0
              nothing true = refl
              nothing false = refl

        own : (b : Bool) → part_at run.point (signed_run b run) ≡ (signed_run b run).coefficient
        own true = grind (arith, nat_tests)
        own false = grind (arith, nat_tests)

  above : AllAbove 0 (signed negated xs ++ now)
  above = all_above negated xs now each rest

  -- the total is beyond the limit
  pub putting_refused : is_within coefficient_limit (coefficient_at run.point now +ℤ (signed_run negated run).coefficient) ≡ false → list_all (λ (s : Summand). is_within coefficient_limit s.coefficient) (collected (signed negated xs ++ now)) ≡ false
  putting_refused h = refused_by (list_all (λ (s : Summand). is_within coefficient_limit s.coefficient) (collected (signed negated xs ++ now))) refl where
    refused_by : (b : Bool) → list_all (λ (s : Summand). is_within coefficient_limit s.coefficient) (collected (signed negated xs ++ now)) ≡ b → b ≡ false
    refused_by true e =
        let within = limited_at 0 run.point (collected (signed negated xs ++ now)) (ascend-collected 0 (signed negated xs ++ now) above) e in
        let all : coefficient_at run.point (collected (signed negated xs ++ now)) ≡ coefficient_at run.point now +ℤ (signed_run negated run).coefficient = coefficient-collected run.point (signed negated xs ++ now) ∙ total_at in
        absurd (let t : is_within coefficient_limit (coefficient_at run.point now +ℤ (signed_run negated run).coefficient) ≡ true = ap (is_within coefficient_limit) (sym all) ∙ within in cc)
    refused_by false e = refl

  -- or within it
  module _ (within : is_within coefficient_limit (coefficient_at run.point now +ℤ (signed_run negated run).coefficient) ≡ true) (next : List Summand) (is : next ≡ with_summand (signed_run negated run) now) where
    pub put_rest : IsRest next
    put_rest = subst (λ (l : List Summand). IsRest l) (sym is)
        (rest-with (signed_run negated run) (subst (λ (k : ℕ). 0 < k) (sym (signed_point negated run)) first.small.above) (subst (λ (k : ℕ). k < points_limit) (sym (signed_point negated run)) first.small.below) now rest
        (ap (λ (k : ℕ). is_within coefficient_limit (coefficient_at k now +ℤ (signed_run negated run).coefficient)) (signed_point negated run) ∙ within))

    pub put_same : collected (signed negated (drop run.len xs) ++ next) ≡ collected (signed negated xs ++ now)
    put_same =
        collected-same 0 (signed negated (drop run.len xs) ++ next) (signed negated xs ++ now) (all_above negated (drop run.len xs) next (each-drop run.len xs each) put_rest) above
        (λ p.
        let one = coefficient-append p (signed negated (drop run.len xs)) next in
        let two = coefficient-append p (signed negated xs) now in
        let more : coefficient_at p next ≡ part_at p (signed_run negated run) +ℤ coefficient_at p now = ap (coefficient_at p) is ∙ coefficient-with p (signed_run negated run) now in
        let front = split_signed p in
        omega (arith, ints, one, two, more, front))

module _ (negated : Bool) (summands tree now : List Summand) (start : ℕ) (h : IsPutting negated summands tree now start) (run : Run) (some : 0 < run.len) (len : run.len ≤ length (drop start summands)) (first : IsFirstRun (drop start summands) run)
    (sum : collected (drop start summands) ≡ put_before (record { point = run.point; coefficient = run.sum }) (collected (drop run.len (drop start summands)))) where
  pub put_step : is_within coefficient_limit (coefficient_at run.point now +ℤ (signed_run negated run).coefficient) ≡ true → (next : List Summand) → next ≡ with_summand (signed_run negated run) now → IsPutting negated summands tree next (start + run.len)
  put_step within next is =
      let there : drop run.len (drop start summands) ≡ drop (start + run.len) summands = drop-drop run.len start summands in
      let long = length-drop start summands in
      record {
        len = omega (arith, len, long, h.len, some);
        rest = put_rest negated (drop start summands) now run h.each h.rest first sum within next is;
        rises = subst (λ (l : List Summand). RiseFrom 1 l) there (rise-drop run.len 1 (drop start summands) h.rises);
        each = subst (λ (l : List Summand). AllByRecursion IsSummand l) there (each-drop run.len (drop start summands) h.each);
        same = ap (λ (l : List Summand). collected (signed negated l ++ next)) (sym there) ∙ put_same negated (drop start summands) now run h.each h.rest first sum within next is ∙ h.same;
      }

  pub put_stops : is_within coefficient_limit (coefficient_at run.point now +ℤ (signed_run negated run).coefficient) ≡ false → list_all (λ (s : Summand). is_within coefficient_limit s.coefficient) (collected (signed negated summands ++ tree)) ≡ false
  put_stops beyond =
      ap (λ (l : List Summand). list_all (λ (s : Summand). is_within coefficient_limit s.coefficient) l) (sym h.same)
      ∙ putting_refused negated (drop start summands) now run h.each h.rest first sum beyond

pub putting_ends : (negated : Bool) (summands tree now : List Summand) (start : ℕ) → IsPutting negated summands tree now start → length summands ≤ start → now ≡ collected (signed negated summands ++ tree)
putting_ends negated summands tree now start h le =
    let none : drop start summands ≡ [] = nil_from_length (drop start summands) (length-drop start summands ∙ omega (arith, le)) in
    sym (collected-ascending 0 now h.rest.ascends) ∙ ap (λ (l : List Summand). collected (l ++ now)) (sym (nothing negated))
    ∙ ap (λ (l : List Summand). collected (signed negated l ++ now)) (sym none) ∙ h.same where
      nothing : (b : Bool) → signed b [] ≡ []
      nothing true = refl
      nothing false = refl

-- an error of one run is an error of all
pub put_refused : (why : LinearError) (one all : Bool) → (one ≡ false → all ≡ false) → Refuses why one → Refuses why all
put_refused error.OutOfMemory one all h r = tt
put_refused error.BoundTooLarge one all h r = h r
