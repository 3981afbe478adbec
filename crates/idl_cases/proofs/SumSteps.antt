-- Sums of cases as they are made: one more term, and what the sum is at its end.
use Rattle.std.proofs.Common.{refl, ap, sym, subst, arith, inl, inr, ◌∙◌, ◌≡◌, ◌<◌, ◌≤◌, ◌+◌, ◌*◌, ◌^◌, ◌-◌, ℕ, zero, suc, List, [], ◌∷◌, ◌++◌, length, map, min, take, get_or, Bool, true, false, ◌&&◌, one-mul}
use Rattle.std.specs.Prelude.{Result, Ok, Err, OnOk, OnErr}
use Rattle.std.specs.List.{AllByRecursion}
use Rattle.std.proofs.lemmas.Bool.{cases_lt}
use Rattle.std.proofs.lemmas.List.{length-map, map-append, take_all, take_more}
use Rattle.idl_linear.specs.Linear.{LinearValue, is_limited, sum_of}
use Rattle.idl_linear.specs.Forms.{IsLinear}
use Rattle.idl_linear.specs.code.Bounded.{IsOver}
use Rattle.idl_linear.proofs.SumLaws.{over_linear, over_sum}
use Rattle.idl_cases.specs.Guarded.{CaseValue, plain}
use Rattle.idl_cases.specs.code.Bounded.{AreBounded, AreLinear, AreOver}
use Rattle.idl_cases.specs.code.CaseSums.{added_each, added_all, are_limited, moved, pair_sum, signed_cases, signed_count, signed_linear, summed_cases, AreChoices, IsSummed, Summed}
use Rattle.idl_cases.specs.code.CasePlaces.{signed_lists}
use Rattle.idl_cases.specs.declared.bounds.Bounds.{Bounds}
use Rattle.idl_cases.specs.declared.summing.Signed.{Signed}
use Rattle.idl_cases.proofs.CaseBounds.{over_bounded, over_signed}
use Rattle.idl_cases.proofs.CaseLaws.{all-push, chosen_more, each_more, fewer_before, length-added, moved_more, over_all, over_signed_linear, plain_later, signed_moved, start_moved, times_some}
use Rattle.idl_cases.proofs.Opening.{over_pushed}

-- ---- how many they are

pub length-all : (choices : List (List CaseValue)) (xs ys : List CaseValue) → length xs ≡ length ys → length (added_all xs choices) ≡ length (added_all ys choices)
length-all [] xs ys e = e
length-all (zs ∷ choices) xs ys e =
    length-all choices (added_each xs zs) (added_each ys zs) (length-added xs zs ∙ ap (λ (n : ℕ). n * length zs) e ∙ sym (length-added ys zs))

pub count_more : (limit a b c n : ℕ) → 0 < b → c ≡ min a limit → n ≡ min (c * b) limit → n ≡ min (a * b) limit
count_more limit a b c n some e f = elim (cases_lt limit a) [
  | inl more ↦
      let cap : c ≡ limit = omega (arith, e, more) in
      let times : c * b ≡ limit * b = ap (λ (k : ℕ). k * b) cap in
      let first = times_some limit b some in
      let second = times_some a b some in
      omega (arith, f, times, first, second, more)
  | inr less ↦
      let same : c ≡ a = omega (arith, e, less) in
      f ∙ ap (λ (k : ℕ). min (k * b) limit) same
]

-- ---- none

pub begun : (start : CaseValue) (items : List Signed) → start ≡ record { guards = []; linear = sum_of [] } → items ≡ [] → IsSummed (record { start = start; choices = signed_lists items }) 1
begun start items e f =
    let nothing : Summed = record { start = record { guards = []; linear = sum_of [] }; choices = [] } in
    let holds : IsSummed nothing 1 = record { guards = refl; over = over_sum [] tt; each = tt; counted = refl } in
    subst (λ (zs : List (List CaseValue)). IsSummed (record { start = start; choices = zs }) 1) (sym (ap signed_lists f))
    (subst (λ (v : CaseValue). IsSummed (record { start = v; choices = [] }) 1) (sym e) holds)

-- ---- one more term

pub signed_plain : (s : Bool) (l : LinearValue) → signed_cases s (plain l) ≡ plain (signed_linear s l)
signed_plain true l = refl
signed_plain false l = refl

abbrev pub with_start : Summed → CaseValue → Summed
with_start s x = record { start = x; choices = s.choices }

abbrev pub with_choices : Summed → List CaseValue → Summed
with_choices s ys = record { start = s.start; choices = s.choices ++ ys ∷ [] }

module _ (old : Summed) (count : ℕ) (h : IsSummed old count) (new : CaseValue) (s : Bool) (l : LinearValue) (fine : IsLinear l)
    (e : new ≡ record { guards = old.start.guards; linear = pair_sum old.start.linear (signed_linear s l) }) where
  pub start_holds : IsSummed (with_start old new) count
  start_holds = record {
    guards = ap (λ (v : CaseValue). v.guards) e ∙ h.guards;
    over = over_pushed old.start new s l e h.over fine;
    each = h.each;
    counted = h.counted ∙ ap (λ (n : ℕ). min n (2 ^ 64 - 1)) (length-all old.choices (old.start ∷ []) (new ∷ []) refl);
  }

  pub start_plain : (cases : List CaseValue) → cases ≡ plain l → summed_cases (with_start old new) ≡ added_each (summed_cases old) (signed_cases s cases)
  start_plain cases is =
      ap (λ (v : CaseValue). added_all (v ∷ []) old.choices) e
      ∙ plain_later (signed_linear s l) old.choices old.start (over_signed_linear s l (over_linear l fine)) h.over h.each
      ∙ ap (added_each (summed_cases old)) (sym (ap (signed_cases s) is ∙ signed_plain s l))

  pub start_moved_more : (cases choices : List CaseValue) → cases ≡ map (moved l) choices → AreOver choices
      → added_each (summed_cases (with_start old new)) (signed_cases s choices) ≡ added_each (summed_cases old) (signed_cases s cases)
  start_moved_more cases choices is over =
      ap (λ (v : CaseValue). added_each (added_all (v ∷ []) old.choices) (signed_cases s choices)) e
      ∙ moved_more (signed_linear s l) old.choices old.start (signed_cases s choices) (over_signed_linear s l (over_linear l fine)) h.over h.each (over_signed s choices over)
      ∙ ap (added_each (summed_cases old)) (sym (ap (signed_cases s) is ∙ signed_moved s l choices (over_linear l fine) over))

-- nothing more, where there was no memory
pub start_kept : (old : Summed) (count : ℕ) (new : CaseValue) → new ≡ old.start → IsSummed old count → IsSummed (with_start old new) count
start_kept old count new e h = subst (λ (v : CaseValue). IsSummed (with_start old v) count) (sym e) h

-- whether there was memory or not
pub start_ends : {A E : Type 0} (r : Result A E) (old : Summed) (count : ℕ) (new : CaseValue) (s : Bool) (l : LinearValue)
    → OnOk r (new ≡ record { guards = old.start.guards; linear = pair_sum old.start.linear (signed_linear s l) }) → OnErr r (new ≡ old.start) → IsLinear l → IsSummed old count → IsSummed (with_start old new) count
start_ends (Ok a) old count new s l f g linear h = start_holds old count h new s l linear f
start_ends (Err e) old count new s l f g linear h = start_kept old count new g h

pub choices_hold : (old : Summed) (count n : ℕ) (ys : List CaseValue) (size : ℕ) → size ≡ length ys → n ≡ min (count * size) (2 ^ 64 - 1) → AreChoices ys → IsSummed old count → IsSummed (with_choices old ys) n
choices_hold old count n ys size is e k h = record {
  guards = h.guards;
  over = h.over;
  each = each_more old.choices ys h.each k;
  counted =
      let some = k.0 in
      count_more (2 ^ 64 - 1) (length (summed_cases old)) (length ys) count n (omega (arith, some)) h.counted (e ∙ ap (λ (m : ℕ). min (count * m) (2 ^ 64 - 1)) is)
      ∙ ap (λ (m : ℕ). min m (2 ^ 64 - 1)) (sym (ap (length {A = CaseValue}) (chosen_more old.choices old.start ys) ∙ length-added (summed_cases old) ys));
}

pub are_choices : (s : Bool) (b : Bounds) (xs : List CaseValue) → 1 < length xs → AreBounded b xs → AreChoices (signed_cases s xs)
are_choices s b xs many h =
    let same = signed_count s xs in
    (omega (arith, many, same), over_signed s xs (over_bounded b xs h))

pub lists_more : (choices : List Signed) (x : Signed) → signed_lists (choices ++ x ∷ []) ≡ signed_lists choices ++ signed_cases x.is_negated x.choices.now ∷ []
lists_more choices x = map-append (λ (s : Signed). signed_cases s.is_negated s.choices.now) choices (x ∷ [])

pub chosen_holds : (start : CaseValue) (items new : List Signed) (x : Signed) (count n size : ℕ) (b : Bounds) → new ≡ items ++ x ∷ [] → size ≡ length x.choices.now → 1 < length x.choices.now → AreBounded b x.choices.now
    → n ≡ min (count * size) (2 ^ 64 - 1) → IsSummed (record { start = start; choices = signed_lists items }) count → IsSummed (record { start = start; choices = signed_lists new }) n
chosen_holds start items new x count n size b e is many bounded f h =
    let old : Summed = record { start = start; choices = signed_lists items } in
    let ys = signed_cases x.is_negated x.choices.now in
    subst (λ (zs : List (List CaseValue)). IsSummed (record { start = start; choices = zs }) n) (sym (ap signed_lists e ∙ lists_more items x))
    (choices_hold old count n ys size (is ∙ sym (signed_count x.is_negated x.choices.now)) f (are_choices x.is_negated b x.choices.now many bounded) h)

pub chosen_sum : (old : Summed) (start : CaseValue) (items new : List Signed) (x : Signed) → record { start = start; choices = signed_lists items } ≡ old → new ≡ items ++ x ∷ []
    → added_all (start ∷ []) (signed_lists new) ≡ added_each (summed_cases old) (signed_cases x.is_negated x.choices.now)
chosen_sum old start items new x is e =
    let ys = signed_cases x.is_negated x.choices.now in
    ap (λ (zs : List (List CaseValue)). added_all (start ∷ []) zs) (ap signed_lists e ∙ lists_more items x)
    ∙ chosen_more (signed_lists items) start ys
    ∙ ap (λ (s : Summed). added_each (summed_cases s) ys) is

-- ---- choices that are shared

length-moved : (by : LinearValue) (xs : List CaseValue) → length (map (moved by) xs) ≡ length xs
length-moved by xs = length-map xs (moved by)

pub fewer_front : (n : ℕ) (others : List Signed) (first : List CaseValue) → AllByRecursion AreChoices (signed_lists others) → length (added_all first (signed_lists (take n others))) ≤ length (added_all first (signed_lists others))
fewer_front zero others first h = fewer_before (signed_lists others) first h
fewer_front (suc n) [] first h = omega arith
fewer_front (suc n) (x ∷ others) first h = fewer_front n others (added_each first (signed_cases x.is_negated x.choices.now)) h.1

module _ (others : List Signed) (first : List CaseValue) (k : ℕ) (x : Signed) (lt : k < length others) (is : x ≡ get_or others k x)
    (choices : List CaseValue) (e : choices ≡ added_all first (signed_lists (take k others))) where
  pub shared_more : added_each choices (signed_cases x.is_negated x.choices.now) ≡ added_all first (signed_lists (take (k + 1) others))
  shared_more =
      let xs = take k others in
      ap (λ (cs : List CaseValue). added_each cs (signed_cases x.is_negated x.choices.now)) e
      ∙ sym (all-push (signed_lists xs) first (signed_cases x.is_negated x.choices.now))
      ∙ ap (λ (zs : List (List CaseValue)). added_all first zs) (sym (lists_more xs x))
      ∙ ap (λ (y : Signed). added_all first (signed_lists (xs ++ y ∷ []))) is
      ∙ ap (λ (zs : List Signed). added_all first (signed_lists zs)) (sym (take_more others k x lt))

  pub shared_few : (limit : ℕ) (more : List CaseValue) → AllByRecursion AreChoices (signed_lists others) → more ≡ signed_cases x.is_negated x.choices.now
      → length (added_all first (signed_lists others)) < limit → length choices * length more < limit
  shared_few limit more h same few =
      let long : length choices * length more ≡ length (added_all first (signed_lists (take (k + 1) others))) =
      ap (λ (m : List CaseValue). length choices * length m) same
      ∙ sym (length-added choices (signed_cases x.is_negated x.choices.now))
      ∙ ap (length {A = CaseValue}) shared_more in
      let front = fewer_front (k + 1) others first h in
      omega (arith, long, front, few)

-- the first and the others
module _ (s : Summed) (count : ℕ) (h : IsSummed s count) (items others : List Signed) (x : Signed) (lists : s.choices ≡ signed_lists items) (e : items ≡ x ∷ others) where
  abbrev first : List CaseValue
  first = signed_cases x.is_negated x.choices.now

  pub split_each : AllByRecursion AreChoices (first ∷ signed_lists others)
  split_each = subst (λ (zs : List (List CaseValue)). AllByRecursion AreChoices zs) (lists ∙ ap signed_lists e) h.each

  pub split_moved : (by : LinearValue) → by ≡ s.start.linear → summed_cases s ≡ map (moved by) (added_all first (signed_lists others))
  split_moved by is =
      ap (λ (zs : List (List CaseValue)). added_all (s.start ∷ []) zs) (lists ∙ ap signed_lists e)
      ∙ ap (λ (gs : List ℕ). added_all (record { guards = gs; linear = s.start.linear } ∷ []) (first ∷ signed_lists others)) h.guards
      ∙ ap (λ (l : LinearValue). added_all (record { guards = []; linear = l } ∷ []) (first ∷ signed_lists others)) (sym is)
      ∙ start_moved by first (signed_lists others) (subst (λ (l : LinearValue). IsOver l) (sym is) h.over) split_each.0.1 split_each.1

  pub split_count : length (summed_cases s) ≡ length (added_all first (signed_lists others))
  split_count =
      ap (length {A = CaseValue}) (split_moved s.start.linear refl) ∙ length-moved s.start.linear (added_all first (signed_lists others))

  pub split_many : 1 < length (added_all first (signed_lists others))
  split_many =
      let many = split_each.0.0 in
      let more = fewer_before (signed_lists others) first split_each.1 in
      omega (arith, many, more)

many_all : (choices : List (List CaseValue)) (x : CaseValue) → AllByRecursion AreChoices choices → 0 < length choices → 1 < length (added_all (x ∷ []) choices)
many_all [] x h some = absurd (omega arith)
many_all (ys ∷ choices) x h some =
    let more = fewer_before choices (added_each (x ∷ []) ys) h.1 in
    let here = length-added (x ∷ []) ys in
    let many = h.0.0 in
    omega (arith, more, here, many, one-mul (length ys))

-- ---- cases that are written out

abbrev pub AreLimited : List CaseValue → Type 0
AreLimited cases = AllByRecursion (λ (c : CaseValue). is_limited c.linear ≡ true) cases

pub limited_all : (xs : List CaseValue) → AreLimited xs → are_limited xs ≡ true
limited_all [] h = refl
limited_all (x ∷ xs) h = ap (λ (b : Bool). b && are_limited xs) h.0 ∙ limited_all xs h.1

pub linear_limited : (xs : List CaseValue) → AreLinear xs → are_limited xs ≡ true
linear_limited [] h = refl
linear_limited (x ∷ xs) h = ap (λ (b : Bool). b && are_limited xs) h.0.limited ∙ linear_limited xs h.1

pub linear_over : (xs : List CaseValue) → AreOver xs → AreLimited xs → AreLinear xs
linear_over [] h k = tt
linear_over (x ∷ xs) h k = (record { ascends = h.0.ascends; over = h.0.points; limited = k.0 }, linear_over xs h.1 k.1)

pub over_summed : (s : Summed) (count : ℕ) → IsSummed s count → AreOver (summed_cases s)
over_summed s count h = over_all s.choices (s.start ∷ []) (h.over, tt) h.each

pub many_summed : (s : Summed) (count : ℕ) → IsSummed s count → 0 < length s.choices → 1 < length (summed_cases s)
many_summed s count h some = many_all s.choices s.start h.each some

module _ (old now : Summed) (count : ℕ) (before : IsSummed old count) (is : old ≡ now) (items : List CaseValue) (place : ℕ) (few : length (summed_cases now) < 4294967296) (past : count ≤ place)
    (same : items ≡ take place (summed_cases now)) (limited : AreLimited items) where
  holds : IsSummed now count
  holds = subst (λ (s : Summed). IsSummed s count) is before

  pub written_all : items ≡ summed_cases now
  written_all =
      let counted = holds.counted in
      same ∙ take_all place (summed_cases now) (omega (arith, past, counted, few))

  pub written_linear : AreLinear items
  written_linear = linear_over items (subst (λ (cs : List CaseValue). AreOver cs) (sym written_all) (over_summed now count holds)) limited

  pub written_many : 0 < length now.choices → 1 < length items
  written_many some =
      let many = many_summed now count holds some in
      let long = ap (length {A = CaseValue}) written_all in
      omega (arith, many, long)

  pub written_limited : are_limited (summed_cases now) ≡ true
  written_limited = ap are_limited (sym written_all) ∙ limited_all items limited
