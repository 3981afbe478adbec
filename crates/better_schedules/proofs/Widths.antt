-- How wide bounds are.
use Rattle.std.proofs.Common.{arith, ap, ◌≡◌, ℕ, suc, zero, ◌<◌, ◌≤◌, List, [], ◌∷◌, length, max, Contains, ℤ, pos, negsuc, neg_ℤ, ◌≤ℤ◌, unsigned_abs, slice_index_or}
use Rattle.std.proofs.Math.Nat.{le-max_left, le-max_right}
use Rattle.std.proofs.lemmas.Int.{ints}
use Rattle.stn_core.specs.declared.literal.Literal.{Literal}
use Rattle.best_values.specs.Widths.{clause_width, width_of}
use Rattle.best_values.proofs.Widths.{le-abs}

in_clause : (ls : List Literal) (l : Literal) (k : ℕ) → k < length ls → slice_index_or ls k l ≡ l → unsigned_abs l.c ≤ clause_width ls
in_clause [] l k k_in e = absurd (omega arith)
in_clause (m ∷ ls) l zero k_in e =
    let same : unsigned_abs m.c ≡ unsigned_abs l.c = ap (λ (n : Literal). unsigned_abs n.c) e in
    omega (arith, same, le-max_left (unsigned_abs m.c) (clause_width ls))
in_clause (m ∷ ls) l (suc k) k_in e =
    omega (arith, in_clause ls l k (omega arith) e, le-max_right (unsigned_abs m.c) (clause_width ls))

in_clauses : (clauses : List (List Literal)) (clause : List Literal) (l : Literal) (k : ℕ) → k < length clauses → slice_index_or clauses k clause ≡ clause → Contains clause l → unsigned_abs l.c ≤ width_of clauses
in_clauses [] clause l k k_in e h = absurd (omega arith)
in_clauses (c ∷ clauses) clause l zero k_in e h =
    let same : clause_width c ≡ clause_width clause = ap clause_width e in
    omega (arith, same, in_clause clause l h.0 h.1 h.2, le-max_left (clause_width c) (width_of clauses))
in_clauses (c ∷ clauses) clause l (suc k) k_in e h =
    omega (arith, in_clauses clauses clause l k (omega arith) e h, le-max_right (clause_width c) (width_of clauses))

-- each bound is at most the width
pub bound-le-width : (clauses : List (List Literal)) (clause : List Literal) (l : Literal) → Contains clauses clause → Contains clause l → l.c ≤ℤ pos (width_of clauses)
bound-le-width clauses clause l at h =
    let abs = le-abs l.c in
    let wide = in_clauses clauses clause l at.0 at.1 at.2 h in
    omega (arith, ints)

abs-le : (z : ℤ) → neg_ℤ (pos (unsigned_abs z)) ≤ℤ z
abs-le (pos n) = omega (arith, ints)
abs-le (negsuc n) = omega (arith, ints)

pub within_width : (clauses : List (List Literal)) (clause : List Literal) (l : Literal) → Contains clauses clause → Contains clause l → (neg_ℤ (pos (width_of clauses)) ≤ℤ l.c) × (l.c ≤ℤ pos (width_of clauses))
within_width clauses clause l at h =
    let abs = abs-le l.c in
    let wide = in_clauses clauses clause l at.0 at.1 at.2 h in
    (omega (arith, ints), bound-le-width clauses clause l at h)
