-- The points below a gap that is wider than each bound are a free set.
use Rattle.std.proofs.Common.{arith, ap, sym, ◌∙◌, subst, inl, inr, ◌≡◌, ℕ, suc, ◌+◌, ◌*◌, ◌<◌, ◌≤◌, List, [], ◌∷◌, ◌++◌, length, All, Contains, get_or, slice_index, ℤ, pos, neg_ℤ, ◌<ℤ◌}
use Rattle.std.specs.List.Sorted.{IsStrictlyIncreasing, IsNonDecreasing}
use Rattle.std.proofs.lemmas.Int.{ints}
use Rattle.std.proofs.lemmas.Bool.{cases_lt}
use Rattle.std.proofs.lemmas.List.{get_or_default, get_or_append_left}
use Rattle.std.proofs.Math.Seq.{get_or-append_seam}
use Rattle.std.proofs.Math.Nat.{mul-le-mul_right, suc-mul}
use Rattle.stn_core.specs.declared.literal.Literal.{Literal}
use Rattle.stn_core.specs.declared.problem.Problem.{Problem}
use Rattle.stn_core.specs.Literal.{value_at, Holds, IsOver}
use Rattle.stn_core.specs.Problem.{ClauseHolds, ProblemHolds}
use Rattle.best_values.specs.Widths.{width_of}
use Rattle.best_values.specs.Bests.{objective, IsCut, ClauseIsKept, IsFreeSet}
use Rattle.better_schedules.specs.Near.{span}
use Rattle.better_schedules.specs.code.Heights.{IsHeight, AreHeights, IsApart, IsSetUpTo}
use Rattle.better_schedules.proofs.Widths.{bound-le-width}

module _ (problem : Problem) (vs : List ℤ) (heights : List ℕ) (set : List ℕ) (x y t w : ℕ)
    (count : length vs ≡ problem.points) (x_in : x < problem.points) (y_in : y < problem.points)
    (are : AreHeights (value_at vs x) vs heights) (apart : All (IsApart t w) heights)
    (width_is : w ≡ width_of problem.clauses) (up_to : IsSetUpTo heights t set) where
  height_in : (p : ℕ) → p < problem.points → p < length heights
  height_in p h = let c = are.count in omega (arith, c, count)

  value_in : (p : ℕ) → p < problem.points → p < length vs
  value_in p h = omega (arith, count)

  x_inside : Contains set x
  x_inside =
      let at : IsHeight (value_at vs x) (value_at vs x) (slice_index heights x) = are.each x (value_in x x_in) in
      up_to.all x (height_in x x_in) (elim (cases_lt 0 (slice_index heights x)) [
        | inl lt ↦ let e = at.is lt in absurd (omega (arith, ints))
        | inr ge ↦ omega (arith, ge)
      ])

  low_height : (p : ℕ) → Contains set p → slice_index heights p ≤ t
  low_height p h =
      let l : slice_index heights (get_or set h.0 p) ≤ t = up_to.low h.0 p h.1 in
      subst (λ (q : ℕ). slice_index heights q ≤ t) h.2 l

  y_outside : t ≤ length heights * w → objective x y vs <ℤ neg_ℤ (span problem) → Contains set y → ⊥
  y_outside near low h =
      let at : IsHeight (value_at vs x) (value_at vs y) (slice_index heights y) = are.each y (value_in y y_in) in
      let most = at.most in
      let under = low_height y h in
      let c = are.count in
      let n_is : length heights ≡ problem.points = omega (arith, c, count) in
      let e : length heights * w ≡ problem.points * width_of problem.clauses = ap (λ (n : ℕ). n * w) n_is ∙ ap (λ (v : ℕ). problem.points * v) width_is in
      omega (arith, ints)

  not_cut : (clause : List Literal) (l : Literal) → Contains problem.clauses clause → Contains clause l → IsOver problem.points l → Holds vs l → IsCut set l → ⊥
  not_cut clause l among h over holds cut =
      let x_over = over.x_in in
      let y_over = over.y_in in
      let x_at : IsHeight (value_at vs x) (value_at vs l.x) (slice_index heights l.x) = are.each l.x (value_in l.x x_over) in
      let y_at : IsHeight (value_at vs x) (value_at vs l.y) (slice_index heights l.y) = are.each l.y (value_in l.y y_over) in
      let y_low = low_height l.y cut.0 in
      let y_most = y_at.most in
      let bound = bound-le-width problem.clauses clause l among h in
      let side : IsApart t w (slice_index heights l.x) = apart l.x 0 (height_in l.x x_over) in
      elim side [
        | inl x_low ↦ cut.1 (up_to.all l.x (height_in l.x x_over) x_low)
        | inr x_high ↦ let x_is = x_at.is (omega (arith, x_high)) in omega (arith, ints)
      ]

  kept_clause : (k : ℕ) (d : List Literal) → k < length problem.clauses → ClauseHolds vs (get_or problem.clauses k d) → ClauseIsKept vs set (get_or problem.clauses k d)
  kept_clause k d k_in h =
      let clause : List Literal = get_or problem.clauses k d in
      let among : Contains problem.clauses clause = (k, k_in, get_or_default problem.clauses k clause d k_in) in
      let over : All (IsOver problem.points) clause = problem.over k d k_in in
      let c : Contains clause h.0 = h.1 in
      let o : IsOver problem.points h.0 = subst (IsOver problem.points) c.2 (over c.0 h.0 c.1) in
      (h.0, h.1, (h.2, λ cut. not_cut clause h.0 among c o h.2 cut))

  within : All (λ (p : ℕ). p < problem.points) set
  within k d h =
      let p_in = up_to.within k d h in
      let c = are.count in
      omega (arith, p_in, c, count)

  pub free_set : ProblemHolds vs problem.clauses → t ≤ length heights * w → objective x y vs <ℤ neg_ℤ (span problem) → IsStrictlyIncreasing set → IsFreeSet problem x y vs set
  free_set holds near low up = record {
    among = within;
    ascending = up;
    x_in = x_inside;
    y_out = y_outside near low;
    kept = λ k d h. kept_clause k d h (holds k d h);
  }

-- one more height
pub heights_push : (low : ℤ) (vs : List ℤ) (old new : List ℕ) (h i : ℕ) → new ≡ old ++ h ∷ [] → length old ≡ i → ((p : ℕ) → p < i → IsHeight low (value_at vs p) (slice_index old p)) → IsHeight low (value_at vs i) h → (p : ℕ) → p < i + 1 → IsHeight low (value_at vs p) (slice_index new p)
heights_push low vs old new h i e count each at p lt =
    subst (λ (hs : List ℕ). IsHeight low (value_at vs p) (slice_index hs p)) (sym e)
    (elim (cases_lt p i) [
      | inl below ↦
          let same : slice_index (old ++ h ∷ []) p ≡ slice_index old p = get_or_append_left old (h ∷ []) 0 p (omega (arith, count, below)) in
          subst (λ (n : ℕ). IsHeight low (value_at vs p) n) (sym same) (each p below)
      | inr above ↦
          let is : length old ≡ p = omega (arith, count, lt, above) in
          let i_is : i ≡ p = omega (arith, lt, above) in
          let seam : slice_index (old ++ h ∷ []) p ≡ h = ap (λ (k : ℕ). get_or (old ++ h ∷ []) k 0) (sym is) ∙ get_or-append_seam old h [] 0 in
          subst (λ (n : ℕ). IsHeight low (value_at vs p) n) (sym seam) (subst (λ (k : ℕ). IsHeight low (value_at vs k) h) i_is at)
    ])
