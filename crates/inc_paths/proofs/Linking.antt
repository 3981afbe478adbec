-- Lists by second points, as a literal comes.
use Rattle.std.proofs.Common.{arith, refl, ap, sym, ◌∙◌, inl, inr, ◌≡◌, ◌≢◌, ℕ, ◌<◌, ◌≤◌, ◌+◌, ◌-◌, List, [], ◌∷◌, ◌++◌, length, set, pos}
use Rattle.std.proofs.lemmas.Bool.{cases_eq, cases_lt}
use Rattle.std.proofs.lemmas.List.{get_or_append_left, get_or_push, get_or-set_same, get_or-set_other, length_push, length-set}
use Rattle.stn_core.specs.declared.literal.Literal.{Literal}
use Rattle.inc_paths.specs.code.Graphs.{IsNewest, IsLinked, number_at}
use Rattle.stn_core.specs.Literal.{literal_at}

abbrev none : Literal
none = record { x = 0; y = 0; c = pos 0 }

at_front : (ls : List Literal) (l : Literal) (k : ℕ) → k < length ls → literal_at (ls ++ l ∷ []) k ≡ literal_at ls k
at_front ls l k lt = get_or_append_left ls (l ∷ []) none k lt

at_end : (ls : List Literal) (l : Literal) → literal_at (ls ++ l ∷ []) (length ls) ≡ l
at_end ls l = get_or_push ls l none (length ls) refl

-- a longer list leaves what stands before a place of the old one
newest_kept : (ls : List Literal) (l : Literal) (point place number : ℕ) → place ≤ length ls → IsNewest ls point place number → IsNewest (ls ++ l ∷ []) point place number
newest_kept ls l point place number le n =
    let before = n.before in
    record {
      before = n.before;
      here = λ some. ap (λ (m : Literal). m.y) (at_front ls l (number - 1) (omega arith)) ∙ n.here some;
      last = λ k ge lt e. n.last k ge lt (sym (ap (λ (m : Literal). m.y) (at_front ls l k (omega arith))) ∙ e);
    }

-- another point's newest literal stays
newest_other : (ls : List Literal) (l : Literal) (point number : ℕ) → point ≢ l.y → IsNewest ls point (length ls) number → IsNewest (ls ++ l ∷ []) point (length ls + 1) number
newest_other ls l point number ne n =
    let before = n.before in
    record {
      before = omega arith;
      here = λ some. ap (λ (m : Literal). m.y) (at_front ls l (number - 1) (omega arith)) ∙ n.here some;
      last = λ k ge lt e. elim (cases_lt k (length ls)) [
        | inl below ↦ n.last k ge below (sym (ap (λ (m : Literal). m.y) (at_front ls l k below)) ∙ e)
        | inr above ↦
            let same : k ≡ length ls = omega arith in
            let there : (literal_at (ls ++ l ∷ []) k).y ≡ l.y = ap (λ (j : ℕ). (literal_at (ls ++ l ∷ []) j).y) same ∙ ap (λ (m : Literal). m.y) (at_end ls l) in
            ne (sym e ∙ there)
      ];
    }

-- its own is the new one
newest_own : (ls : List Literal) (l : Literal) → IsNewest (ls ++ l ∷ []) l.y (length ls + 1) (length ls + 1)
newest_own ls l = record {
  before = omega arith;
  here = λ some.
      let at : length ls + 1 - 1 ≡ length ls = omega arith in
      ap (λ (j : ℕ). (literal_at (ls ++ l ∷ []) j).y) at ∙ ap (λ (m : Literal). m.y) (at_end ls l);
  last = λ k ge lt e. omega arith;
}

pub linked_more : (ls : List Literal) (heads nexts : List ℕ) (l : Literal) → IsLinked ls heads nexts → l.y < length heads → IsLinked (ls ++ l ∷ []) (set heads l.y (length ls + 1)) (nexts ++ number_at heads l.y ∷ [])
linked_more ls heads nexts l h y_in =
    let longer = length_push ls l in
    let longer' = length_push nexts (number_at heads l.y) in
    let count = h.count in
    let same_heads = length-set heads l.y (length ls + 1) in
    record {
      count = omega arith;
      y_in = λ k lt. elim (cases_lt k (length ls)) [
        | inl below ↦ let old = h.y_in k below in let same = ap (λ (m : Literal). m.y) (at_front ls l k below) in omega arith
        | inr above ↦
            let same : k ≡ length ls = omega arith in
            let there : (literal_at (ls ++ l ∷ []) k).y ≡ l.y = ap (λ (j : ℕ). (literal_at (ls ++ l ∷ []) j).y) same ∙ ap (λ (m : Literal). m.y) (at_end ls l) in
            omega arith
      ];
      newest = λ point lt. elim (cases_eq point l.y) [
        | inl e ↦
            let at : number_at (set heads l.y (length ls + 1)) point ≡ length ls + 1 = ap (number_at (set heads l.y (length ls + 1))) e ∙ get_or-set_same heads l.y (length ls + 1) 0 y_in in
            rw (longer, at, e) (newest_own ls l)
        | inr ne ↦
            let at : number_at (set heads l.y (length ls + 1)) point ≡ number_at heads point = get_or-set_other heads l.y point (length ls + 1) 0 ne in
            rw (longer, at) (newest_other ls l point (number_at heads point) ne (h.newest point (omega arith)))
      ];
      next = λ k lt. elim (cases_lt k (length ls)) [
        | inl below ↦
            let at : number_at (nexts ++ number_at heads l.y ∷ []) k ≡ number_at nexts k = get_or_append_left nexts (number_at heads l.y ∷ []) 0 k (omega arith) in
            rw (at, at_front ls l k below) (newest_kept ls l (literal_at ls k).y k (number_at nexts k) (omega arith) (h.next k below))
        | inr above ↦
            let same : k ≡ length ls = omega arith in
            let at : number_at (nexts ++ number_at heads l.y ∷ []) k ≡ number_at heads l.y = get_or_push nexts (number_at heads l.y) 0 k (omega arith) in
            rw (at, same, at_end ls l) (newest_kept ls l l.y (length ls) (number_at heads l.y) (omega arith) (h.newest l.y y_in))
      ];
    }
