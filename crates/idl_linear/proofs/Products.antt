-- Multiplication of integers over sums.
use Rattle.std.proofs.Common.{ap, sym, ◌∙◌, arith, ◌≡◌, zero, suc, ℤ, pos, negsuc, neg_ℤ, ◌+ℤ◌, ◌*ℤ◌}
use Rattle.std.proofs.lemmas.Int.{ints}
use Rattle.std.proofs.Math.IntN.{pred_ℤ, suc_ℤ-*ℤ, pred_ℤ-*ℤ, suc_ℤ-+ℤ, pred_ℤ-+ℤ, zero-*ℤ, +ℤ_idl, +ℤ_invr}

pub add-times : (a b k : ℤ) → (a +ℤ b) *ℤ k ≡ (a *ℤ k) +ℤ (b *ℤ k)
add-times (pos zero) b k =
    ap (λ (z : ℤ). z *ℤ k) (+ℤ_idl b) ∙ sym (+ℤ_idl (b *ℤ k)) ∙ ap (λ (z : ℤ). z +ℤ (b *ℤ k)) (sym (zero-*ℤ k))
add-times (pos (suc n)) b k =
    let sum = ap (λ (z : ℤ). z *ℤ k) (suc_ℤ-+ℤ (pos n) b) in
    let more = suc_ℤ-*ℤ (pos n +ℤ b) k in
    let first = suc_ℤ-*ℤ (pos n) k in
    let fewer = add-times (pos n) b k in
    omega (arith, ints, sum, more, first, fewer)
add-times (negsuc zero) b k =
    let sum = ap (λ (z : ℤ). z *ℤ k) (pred_ℤ-+ℤ (pos zero) b ∙ ap pred_ℤ (+ℤ_idl b)) in
    let less = pred_ℤ-*ℤ b k in
    let first = pred_ℤ-*ℤ (pos zero) k in
    let none = zero-*ℤ k in
    omega (arith, ints, sum, less, first, none)
add-times (negsuc (suc n)) b k =
    let sum = ap (λ (z : ℤ). z *ℤ k) (pred_ℤ-+ℤ (negsuc n) b) in
    let less = pred_ℤ-*ℤ (negsuc n +ℤ b) k in
    let first = pred_ℤ-*ℤ (negsuc n) k in
    let fewer = add-times (negsuc n) b k in
    omega (arith, ints, sum, less, first, fewer)

pub negative-times : (a k : ℤ) → neg_ℤ a *ℤ k ≡ neg_ℤ (a *ℤ k)
negative-times a k =
    let sum = add-times a (neg_ℤ a) k in
    let none = ap (λ (z : ℤ). z *ℤ k) (+ℤ_invr a) ∙ zero-*ℤ k in
    omega (arith, ints, sum, none)

pub one-times : (k : ℤ) → pos 1 *ℤ k ≡ k
one-times k =
    let first = suc_ℤ-*ℤ (pos zero) k in
    let none = zero-*ℤ k in
    omega (arith, ints, first, none)

pub minus_one-times : (k : ℤ) → negsuc 0 *ℤ k ≡ neg_ℤ k
minus_one-times k =
    let first = pred_ℤ-*ℤ (pos zero) k in
    let none = zero-*ℤ k in
    omega (arith, ints, first, none)
