-- A network's trail, as literals come and go.
use Rattle.std.proofs.Common.{arith, refl, ap, sym, subst, ◌∙◌, inl, inr, ◌≡◌, ℕ, zero, suc, ◌<◌, ◌≤◌, List, [], ◌∷◌, ◌++◌, length, take, drop, replicate, ℤ, pos}
use Rattle.std.proofs.lemmas.Bool.{cases_lt}
use Rattle.std.proofs.lemmas.List.{get_or_append_left, get_or_push, get_or_past, get_or_default, get_or-take, length_push, length-take, take-append-le, take_all, take_at, take-append-drop, length-replicate}
use Rattle.std.proofs.lemmas.Int.{ints}
use Rattle.std.proofs.lemmas.List.Elements.{All-push, All-take, All-replicate}
use Rattle.stn_core.specs.declared.literal.Literal.{Literal}
use Rattle.stn_core.specs.Answer.{IsBest}
use Rattle.stn_core.specs.Limits.{points_limit}
use Rattle.stn_core.specs.Literal.{value_at, IsOver}
use Rattle.stn_core.specs.Schedule.{IsInRange}
use Rattle.inc_paths.specs.declared.labels.Lowering.{Lowering}
use Rattle.inc_paths.specs.code.Trails.{undone, first_of}
use Rattle.inc_paths.specs.code.Work.{IsKept}
use Rattle.inc_paths.specs.code.Networks.{end_at, KeepsTrail}
use Rattle.inc_paths.proofs.Undoing.{undone-append, drop-append, first_of-none, take-take}

-- the lowerings from a place on, and then those before it
pub first_of-split : (low high : ℕ) (trail : List Lowering) (values : List ℤ) → low ≤ high → high ≤ length trail → first_of low trail values ≡ first_of low (take high trail) (first_of high trail values)
first_of-split low high trail values le within =
    let size : length (take high trail) ≡ high = omega (arith, length-take high trail) in
    ap (λ (es : List Lowering). undone (drop low es) values) (sym (take-append-drop high trail))
    ∙ ap (λ (es : List Lowering). undone es values) (drop-append (take high trail) (drop high trail) low (omega arith))
    ∙ undone-append (drop low (take high trail)) (drop high trail) values

end_past : (ends : List ℕ) (trail : List Lowering) (k : ℕ) → length ends ≤ k → end_at ends trail k ≡ length trail
end_past ends trail k le = get_or_past ends k (length trail) le

-- the ends of the first parts stay
end_more : (ends : List ℕ) (trail trail' : List Lowering) (k : ℕ) → k ≤ length ends → end_at (ends ++ length trail ∷ []) trail' k ≡ end_at ends trail k
end_more ends trail trail' k le = elim (cases_lt k (length ends)) [
  | inl below ↦ get_or_append_left ends (length trail ∷ []) (length trail') k below ∙ get_or_default ends k (length trail') (length trail) below
  | inr above ↦ get_or_push ends (length trail) (length trail') k (omega arith) ∙ sym (end_past ends trail k above)
]

module _ (points among : ℕ) (ls : List Literal) (values : List ℤ) (trail : List Lowering) (ends : List ℕ) (h : KeepsTrail points among ls values trail ends) where
  end_within : (k : ℕ) → k ≤ length ends → end_at ends trail k ≤ length trail
  end_within k le = let r = h.rising k (length ends) le (omega arith) in omega (arith, r, end_past ends trail (length ends) (omega arith))

  -- all literals
  pub whole : IsBest points ls values
  whole =
      let count = h.count in
      let all : take (length ends) ls ≡ ls = take_all (length ends) ls (omega arith) in
      let none : first_of (end_at ends trail (length ends)) trail values ≡ values = first_of-none (end_at ends trail (length ends)) trail values (omega (arith, end_past ends trail (length ends) (omega arith))) in
      subst (IsBest points ls) none (subst (λ (xs : List Literal). IsBest points xs (first_of (end_at ends trail (length ends)) trail values)) all (h.each (length ends) (omega arith)))

  -- a literal more
  pub kept_more : (l : Literal) (values' : List ℤ) (trail' : List Lowering) → IsOver points l → IsKept (length trail) values trail trail' values' → IsBest points (ls ++ l ∷ []) values' → KeepsTrail points among (ls ++ l ∷ []) values' trail' (ends ++ length trail ∷ [])
  kept_more l values' trail' over k best =
      let count = h.count in
      let within = k.within in
      let size = length_push ls l in
      let size' = length_push ends (length trail) in
      let last : (j : ℕ) → length ends < j → end_at (ends ++ length trail ∷ []) trail' j ≡ length trail' = λ j lt. end_past (ends ++ length trail ∷ []) trail' j (omega arith) in
      record {
        some = h.some;
        few = h.few;
        same = h.same;
        over = All-push (IsOver points) ls l h.over over;
        count = omega arith;
        rising = λ i j le high. elim (cases_lt (length ends) j) [
          | inl new ↦ elim (cases_lt (length ends) i) [
            | inl both ↦ omega (arith, last i both, last j new)
            | inr old ↦ omega (arith, end_more ends trail trail' i old, last j new, end_within i old)
          ]
          | inr old ↦ let r = h.rising i j le old in omega (arith, r, end_more ends trail trail' i (omega arith), end_more ends trail trail' j old)
        ];
        each = λ j high. elim (cases_lt (length ends) j) [
          | inl new ↦
              let all : take j (ls ++ l ∷ []) ≡ ls ++ l ∷ [] = take_all j (ls ++ l ∷ []) (omega arith) in
              let none : first_of (end_at (ends ++ length trail ∷ []) trail' j) trail' values' ≡ values' = first_of-none (end_at (ends ++ length trail ∷ []) trail' j) trail' values' (omega (arith, last j new)) in
              rw (all, none) best
          | inr old ↦
              let front : take j (ls ++ l ∷ []) ≡ take j ls = take-append-le j ls (l ∷ []) (omega arith) in
              let e : end_at (ends ++ length trail ∷ []) trail' j ≡ end_at ends trail j = end_more ends trail trail' j old in
              let back : first_of (end_at ends trail j) trail' values' ≡ first_of (end_at ends trail j) trail values =
              first_of-split (end_at ends trail j) (length trail) trail' values' (end_within j old) within
              ∙ ap (λ (es : List Lowering). first_of (end_at ends trail j) es (first_of (length trail) trail' values')) k.front
              ∙ ap (first_of (end_at ends trail j) trail) k.back in
              rw (front, e, back) (h.each j old)
        ];
      }

  -- the first literals
  pub kept_cut : (count : ℕ) → count ≤ length ends → KeepsTrail points among (take count ls) (first_of (end_at ends trail count) trail values) (take (end_at ends trail count) trail) (take count ends)
  kept_cut count le =
      let same_count = h.count in
      let high = end_within count le in
      let size : length (take (end_at ends trail count) trail) ≡ end_at ends trail count = omega (arith, length-take (end_at ends trail count) trail) in
      let size_ends : length (take count ends) ≡ count = omega (arith, length-take count ends) in
      let at : (j : ℕ) → j ≤ count → end_at (take count ends) (take (end_at ends trail count) trail) j ≡ end_at ends trail j = λ j j_le. elim (cases_lt j count) [
        | inl below ↦ get_or-take count ends j (length (take (end_at ends trail count) trail)) below ∙ get_or_default ends j (length (take (end_at ends trail count) trail)) (length trail) (omega arith)
        | inr above ↦
            let is : j ≡ count = omega arith in
            end_past (take count ends) (take (end_at ends trail count) trail) j (omega arith) ∙ size ∙ sym (ap (end_at ends trail) is)
      ] in
      record {
        some = h.some;
        few = h.few;
        same = h.same;
        over = All-take (IsOver points) count ls h.over;
        count = omega (arith, length-take count ls);
        rising = λ i j i_le j_le. (let r = h.rising i j i_le (omega arith) in omega (arith, r, at i (omega arith), at j (omega arith)));
        each = λ j j_le.
            let j_in : j ≤ count = omega arith in
            let front : take j (take count ls) ≡ take j ls = take-take j count ls j_in in
            let back : first_of (end_at ends trail j) (take (end_at ends trail count) trail) (first_of (end_at ends trail count) trail values) ≡ first_of (end_at ends trail j) trail values =
            sym (first_of-split (end_at ends trail j) (end_at ends trail count) trail values (h.rising j count j_in le) high) in
            rw (front, at j j_in, back) (h.each j (omega arith));
      }

  -- a literal that was taken back at once
  module _ (l : Literal) (values' : List ℤ) (trail' : List Lowering) (k : IsKept (length trail) values trail trail' values') where
    end_is : end_at (ends ++ length trail ∷ []) trail' (length ends) ≡ length trail
    end_is = end_more ends trail trail' (length ends) (omega arith) ∙ end_past ends trail (length ends) (omega arith)

    pub back_values : first_of (end_at (ends ++ length trail ∷ []) trail' (length ends)) trail' values' ≡ values
    back_values = ap (λ (e : ℕ). first_of e trail' values') end_is ∙ k.back

    pub back_trail : take (end_at (ends ++ length trail ∷ []) trail' (length ends)) trail' ≡ trail
    back_trail = ap (λ (e : ℕ). take e trail') end_is ∙ k.front

  pub back_ends : take (length ends) (ends ++ length trail ∷ []) ≡ ends
  back_ends = take_at ends (length trail ∷ []) (length ends) refl

  pub back_literals : (l : Literal) → take (length ends) (ls ++ l ∷ []) ≡ ls
  back_literals l = take_at ls (l ∷ []) (length ends) (sym h.count)

all_zero : (points p : ℕ) → value_at (replicate points (pos 0)) p ≡ pos 0
all_zero zero p = refl
all_zero (suc n) zero = refl
all_zero (suc n) (suc p) = all_zero n p

-- no literal
pub begins : (points : ℕ) → 1 ≤ points → points ≤ points_limit → KeepsTrail points points [] (replicate points (pos 0)) [] []
begins points some few =
    let zeros : List ℤ = replicate points (pos 0) in
    let best : IsBest points [] zeros = record {
      greatest = record {
        schedule = record { count = length-replicate points (pos 0); at_most_0 = λ p lt. rw (all_zero points p) (omega (arith, ints)); holds = λ k d lt. absurd (omega arith) };
        greatest = λ others s p lt. rw (all_zero points p) (s.at_most_0 p lt);
      };
      range = All-replicate IsInRange points (pos 0) (record { low = omega (arith, ints); high = omega (arith, ints) });
    } in
    record {
      some = some;
      few = few;
      same = refl;
      over = λ k d lt. absurd (omega arith);
      count = refl;
      rising = λ i j le high. (let a = get_or_past [] i (length {A = Lowering} []) (omega arith) in let b = get_or_past [] j (length {A = Lowering} []) (omega arith) in omega (arith, a, b));
      each = λ k le. rw (take_all {A = Literal} k [] (omega arith), first_of-none (end_at [] [] k) [] zeros (omega arith)) best;
    }
