-- Walks along the literals that lowered the points.
use Rattle.std.proofs.Common.{arith, refl, ap, sym, ◌∙◌, subst, inl, inr, ◌≡◌, ℕ, suc, zero, min, replicate, set, sum_by, ◌<◌, ◌≤◌, ◌+◌, ◌-◌, List, [], ◌∷◌, ◌++◌, length, drop, All, get_or, ℤ, pos, ◌+ℤ◌, ◌≤ℤ◌, ◌<ℤ◌}
use Rattle.std.proofs.lemmas.Int.{ints, by_lt_z}
use Rattle.std.proofs.lemmas.List.Elements.{All-head, All-tail, All-replicate, All-push, All-drop}
use Rattle.std.proofs.lemmas.List.{get_or_append_left, get_or_push, get_or-set_same, get_or-set_other, length_push, length-set, length-drop}
use Rattle.std.proofs.lemmas.List.Sums.{sum_by-set, sum_by-le}
use Rattle.std.proofs.lemmas.Bool.{cases_eq}
use Rattle.stn_core.specs.declared.literal.Literal.{Literal}
use Rattle.stn_core.specs.declared.label.Label.{Label}
use Rattle.stn_core.specs.Cycle.{Leads, weight_of, IsNegativeCycle}
use Rattle.stn_core.specs.code.Rounds.{value_of, round_of, by_of, IsFallen, AreFallen, IsLatest, IsCycleOf}

pub Leads-push : (a : ℕ) (ls : List Literal) (b : ℕ) (l : Literal) → Leads a ls b → l.x ≡ b → Leads a (ls ++ l ∷ []) l.y
Leads-push a [] b l h e = (e ∙ sym h, refl)
Leads-push a (m ∷ ms) b l h e = (h.0, Leads-push m.y ms b l h.1 e)

pub Leads-drop : (a : ℕ) (ls : List Literal) (b i : ℕ) (d : Literal) → Leads a ls b → i < length ls → Leads (get_or ls i d).x (drop i ls) b
Leads-drop a [] b i d h lt = absurd (omega arith)
Leads-drop a (m ∷ ms) b zero d h lt = (refl, h.1)
Leads-drop a (m ∷ ms) b (suc i) d h lt = Leads-drop m.y ms b i d h.1 (omega arith)

-- the first point's value is at least the last one's and the weight; they are equal only where its round is no earlier
pub record Falls (labels : List Label) (a : ℕ) (weight : ℤ) (b : ℕ) : Type 0 where
  pub value : (value_of labels b +ℤ weight) ≤ℤ value_of labels a
  pub tight : value_of labels a ≤ℤ (value_of labels b +ℤ weight) → round_of labels b ≤ round_of labels a

-- the same, where its round is later
pub record FallsLate (labels : List Label) (a : ℕ) (weight : ℤ) (b : ℕ) : Type 0 where
  pub value : (value_of labels b +ℤ weight) ≤ℤ value_of labels a
  pub tight : value_of labels a ≤ℤ (value_of labels b +ℤ weight) → round_of labels b < round_of labels a

pub fallen_at : (labels : List Label) (l : Literal) → AreFallen labels → IsLatest labels l → IsFallen (length labels) labels l.x l
fallen_at labels l fallen latest =
    subst (λ (m : Literal). IsFallen (length labels) labels l.x m) latest.by_is (fallen l.x latest.x_in latest.moved)

pub Falls-Leads : (labels : List Label) (a : ℕ) (ls : List Literal) (b : ℕ) → AreFallen labels → Leads a ls b → All (IsLatest labels) ls → Falls labels a (weight_of ls) b
Falls-Leads labels a [] b fallen h latest =
    let e = ap (λ (k : ℕ). value_of labels k) h in
    let r = ap (λ (k : ℕ). round_of labels k) h in
    record { value = omega (arith, ints); tight = λ t. omega arith }
Falls-Leads labels a (m ∷ ms) b fallen h latest =
    let f = fallen_at labels m fallen (All-head (IsLatest labels) m ms latest) in
    let rest = Falls-Leads labels m.y ms b fallen h.1 (All-tail (IsLatest labels) m ms latest) in
    let e = ap (λ (k : ℕ). value_of labels k) h.0 in
    let r = ap (λ (k : ℕ). round_of labels k) h.0 in
    let fv = f.falls in
    let rv = rest.value in
    record {
      value = omega (arith, ints);
      tight = λ t. let g = f.tight (omega (arith, ints)) in let k = rest.tight (omega (arith, ints)) in omega arith;
    }

pub FallsLate-Leads : (labels : List Label) (a : ℕ) (ls : List Literal) (b : ℕ) → AreFallen labels → Leads a ls b → All (IsLatest labels) ls → 0 < length ls → FallsLate labels a (weight_of ls) b
FallsLate-Leads labels a [] b fallen h latest some = absurd (omega arith)
FallsLate-Leads labels a (m ∷ ms) b fallen h latest some =
    let f = fallen_at labels m fallen (All-head (IsLatest labels) m ms latest) in
    let rest = Falls-Leads labels m.y ms b fallen h.1 (All-tail (IsLatest labels) m ms latest) in
    let e = ap (λ (k : ℕ). value_of labels k) h.0 in
    let r = ap (λ (k : ℕ). round_of labels k) h.0 in
    let fv = f.falls in
    let rv = rest.value in
    record {
      value = omega (arith, ints);
      tight = λ t. let g = f.tight (omega (arith, ints)) in let k = rest.tight (omega (arith, ints)) in omega arith;
    }

-- a walk of such literals that comes back is a negative cycle
pub negative : (labels : List Label) (a : ℕ) (ls : List Literal) → AreFallen labels → Leads a ls a → All (IsLatest labels) ls → 0 < length ls → IsNegativeCycle ls
negative labels a ls fallen h latest some =
    let f = FallsLate-Leads labels a ls a fallen h latest some in
    let v = f.value in
    record {
      some = some;
      closed = (a, h);
      negative = by_ℤ (weight_of ls) (value_of labels a) v (λ t. let g = f.tight t in absurd (omega arith));
    }
  where
    by_ℤ : (w a : ℤ) → (a +ℤ w) ≤ℤ a → (a ≤ℤ (a +ℤ w) → ⊥) → w <ℤ pos 0
    by_ℤ w a h k = by_lt_z w (pos 0) (λ (lt : w <ℤ pos 0). lt) (λ (ge : pos 0 ≤ℤ w). absurd (k (omega (arith, ints))))

-- how many places are marked
abbrev pub marks : List ℕ → ℕ
marks places = sum_by (λ k. min k 1) places

pub marks-le-length : (places : List ℕ) → marks places ≤ length places
marks-le-length places = omega (arith, sum_by-le (λ (k : ℕ). min k 1) 1 places (λ k d h. omega arith))

pub marks-set : (places : List ℕ) (p v : ℕ) → p < length places → get_or places p 0 ≡ 0 → 0 < v → marks (set places p v) ≡ marks places + 1
marks-set places p v p_in free some = omega (arith, sum_by-set (λ (k : ℕ). min k 1) places p v 0 p_in)

-- where a place is free, not all are marked
pub marks-room : (places : List ℕ) (p : ℕ) → p < length places → get_or places p 0 ≡ 0 → marks places < length places
marks-room places p p_in free =
    omega (arith, marks-set places p 1 p_in free (omega arith), marks-le-length (set places p 1), length-set places p 1)

-- the walk so far: from each point marked, the place of its literal
pub record IsWalked (labels : List Label) (start : ℕ) (places : List ℕ) (walk : List Literal) (point : ℕ) : Type 0 where
  pub point_in : point < length labels
  pub count : length places ≡ length labels
  pub marked_count : marks places ≡ length walk
  pub late : length labels ≤ round_of labels start → length labels ≤ round_of labels point + length walk
  pub marked : (q : ℕ) (d : Literal) → 0 < get_or places q 0 → (get_or places q 0 ≤ length walk) × ((get_or walk (get_or places q 0 - 1) d).x ≡ q)
  pub leads : Leads start walk point
  pub latest : All (IsLatest labels) walk

pub walked_more : (labels : List Label) (start : ℕ) (places : List ℕ) (walk : List Literal) (point : ℕ) → AreFallen labels → IsWalked labels start places walk point → get_or places point 0 ≡ 0 → 0 < round_of labels point → IsWalked labels start (set places point (length walk + 1)) (walk ++ by_of labels point ∷ []) (by_of labels point).y
walked_more labels start places walk point fallen w free moved =
    let point_in = w.point_in in
    let count = w.count in
    let room : marks places < length places = marks-room places point (omega arith) free in
    let marked_count = w.marked_count in
    let f = fallen point point_in moved in
    let near = f.near in
    let longer = length_push walk (by_of labels point) in
    let in_places : point < length places = omega arith in
    record {
      point_in = f.y_in;
      count = length-set places point (length walk + 1) ∙ w.count;
      marked_count = omega (arith, marks-set places point (length walk + 1) in_places free (omega arith));
      late = λ h. let late = w.late h in omega arith;
      marked = λ q d h. elim (cases_eq q point) [
        | inl e ↦
            let at : get_or (set places point (length walk + 1)) q 0 ≡ length walk + 1 =
            ap (λ (k : ℕ). get_or (set places point (length walk + 1)) k 0) e ∙ get_or-set_same places point (length walk + 1) 0 in_places in
            let place : get_or (set places point (length walk + 1)) q 0 - 1 ≡ length walk = omega arith in
            let there = get_or_push walk (by_of labels point) d (length walk) refl in
            (omega arith, ap (λ (k : ℕ). (get_or (walk ++ by_of labels point ∷ []) k d).x) place ∙ ap (λ (m : Literal). m.x) there ∙ f.x_is ∙ sym e)
        | inr ne ↦
            let at : get_or (set places point (length walk + 1)) q 0 ≡ get_or places q 0 = get_or-set_other places point q (length walk + 1) 0 ne in
            let old = w.marked q d (omega arith) in
            let below = old.0 in
            let there = get_or_append_left walk (by_of labels point ∷ []) d (get_or places q 0 - 1) (omega arith) in
            (omega arith, ap (λ (k : ℕ). (get_or (walk ++ by_of labels point ∷ []) (k - 1) d).x) at ∙ ap (λ (m : Literal). m.x) there ∙ old.1)
      ];
      leads = Leads-push start walk point (by_of labels point) w.leads f.x_is;
      latest = All-push (IsLatest labels) walk (by_of labels point) w.latest (record {
        x_in = omega (arith, f.x_is);
        moved = subst (λ (k : ℕ). 0 < round_of labels k) (sym f.x_is) moved;
        by_is = ap (λ (k : ℕ). by_of labels k) f.x_is;
      });
    }

-- once a marked point comes up again, the walk from its place on is a negative cycle
pub cycle_found : (labels : List Label) (start : ℕ) (places : List ℕ) (walk : List Literal) (point : ℕ) → AreFallen labels → IsWalked labels start places walk point → 0 < get_or places point 0 → IsCycleOf labels (drop (get_or places point 0 - 1) walk)
cycle_found labels start places walk point fallen w again =
    let d = by_of labels point in
    let m = w.marked point d again in
    let m0 = m.0 in
    let i_in : get_or places point 0 - 1 < length walk = omega arith in
    let leads = Leads-drop start walk point (get_or places point 0 - 1) d w.leads i_in in
    let latest = All-drop (IsLatest labels) (get_or places point 0 - 1) walk w.latest in
    let back : Leads point (drop (get_or places point 0 - 1) walk) point = subst (λ (k : ℕ). Leads k (drop (get_or places point 0 - 1) walk) point) m.1 leads in
    record { negative = negative labels point (drop (get_or places point 0 - 1) walk) fallen back latest (omega (arith, length-drop (get_or places point 0 - 1) walk)); latest = latest }

-- a free place at a point that no round has lowered shows that the walk did not begin late
pub not_late : (labels : List Label) (start : ℕ) (places : List ℕ) (walk : List Literal) (point : ℕ) → IsWalked labels start places walk point → get_or places point 0 ≡ 0 → round_of labels point ≡ 0 → length labels ≤ round_of labels start → ⊥
not_late labels start places walk point w free still late =
    let point_in = w.point_in in
    let count = w.count in
    let marked_count = w.marked_count in
    let room : marks places < length places = marks-room places point (omega arith) free in
    let far = w.late late in
    omega arith
