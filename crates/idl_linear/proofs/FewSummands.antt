-- Two terms of few summands, added up.
use Rattle.std.proofs.Common.{refl, ap, sym, subst, ◌∙◌, arith, ◌≡◌, ℕ, ◌<◌, List, [], ◌∷◌, ◌++◌, map, Bool, true, false, cond, ◌&&◌, ℤ, pos, neg_ℤ, ◌+ℤ◌, Option, Some, None}
use Rattle.std.specs.Prelude.{IfSome}
use Rattle.std.specs.List.{AllByRecursion}
use Rattle.std.proofs.lemmas.Int.{ints}
use Rattle.std.proofs.lemmas.List.{append-nil}
use Rattle.idl_linear.specs.declared.summand.Summand.{Summand}
use Rattle.idl_linear.specs.Limits.{constant_limit, points_limit}
use Rattle.idl_linear.specs.Linear.{LinearValue, collected, negative_summand, negative_of, number_alone, sum_of, is_within}
use Rattle.idl_linear.specs.Forms.{IsLinear, IsSummand}
use Rattle.idl_linear.specs.code.Few.{signed_term, AreBoth}
use Rattle.idl_linear.specs.code.Steps.{IsRest}
use Rattle.idl_linear.specs.code.Trees.{signed}
use Rattle.idl_linear.proofs.Finishing.{each_limited}

each_over : (xs : List Summand) → AllByRecursion IsSummand xs → AllByRecursion (λ (s : Summand). s.point < points_limit) xs
each_over [] h = tt
each_over (x ∷ xs) h = (h.0.below, each_over xs h.1)

pub few_linear : (both : List Summand) (n : ℤ) → IsRest both → is_within constant_limit n ≡ true → IsLinear (record { summands = both; constant = n })
few_linear both n r h = record {
  ascends = r.ascends;
  over = each_over both r.each;
  limited = ap (λ (b : Bool). b && is_within constant_limit n) (each_limited both r.each) ∙ h;
}

signed_summands : (negated : Bool) (l : LinearValue) → (signed_term negated l).summands ≡ signed negated l.summands
signed_summands true l = refl
signed_summands false l = refl

pub few_sum : (negated : Bool) (a b : LinearValue) (both : List Summand) (n : ℤ) → AreBoth negated a.summands b.summands both → n ≡ a.constant +ℤ ((signed_term negated b).constant +ℤ pos 0)
    → ◌≡◌ {A = LinearValue} (record { summands = both; constant = n }) (sum_of (a ∷ signed_term negated b ∷ []))
unfolding sum_of
few_sum negated a b both n h e =
    let list : signed negated b.summands ≡ (signed_term negated b).summands ++ [] = sym (signed_summands negated b) ∙ sym (append-nil (signed_term negated b).summands) in
    let all : both ≡ collected (a.summands ++ ((signed_term negated b).summands ++ [])) = h.same ∙ ap (λ (l : List Summand). collected (a.summands ++ l)) list in
    let of_list : List Summand → LinearValue = λ l. record { summands = l; constant = n } in
    let of_number : ℤ → LinearValue = λ k. record { summands = collected (a.summands ++ ((signed_term negated b).summands ++ [])); constant = k } in
    ap of_list all ∙ ap of_number e

signed_number : (negated : Bool) (l : LinearValue) → (signed_term negated l).constant ≡ cond negated (neg_ℤ l.constant) l.constant
signed_number true l = refl
signed_number false l = refl

-- the constant as the code makes it
pub few_constant : (negated : Bool) (a b : LinearValue) (m n : ℤ) → m ≡ cond negated (neg_ℤ b.constant) b.constant → n ≡ a.constant +ℤ m → n ≡ a.constant +ℤ ((signed_term negated b).constant +ℤ pos 0)
few_constant negated a b m n e f =
    let more : m ≡ (signed_term negated b).constant = e ∙ sym (signed_number negated b) in
    omega (arith, ints, more, f)

found_by : (limit : ℕ) (z : ℤ) (r : Option ℤ) (b : Bool) → is_within limit z ≡ b → r ≡ cond b (Some z) None → IfSome r (λ (n : ℤ). is_within limit n ≡ true)
found_by limit z r true h e = subst (λ (q : Option ℤ). IfSome q (λ (n : ℤ). is_within limit n ≡ true)) (sym e) h
found_by limit z r false h e = subst (λ (q : Option ℤ). IfSome q (λ (n : ℤ). is_within limit n ≡ true)) (sym e) tt

-- what is found within a limit
pub few_within : (limit : ℕ) (z : ℤ) (r : Option ℤ) → r ≡ cond (is_within limit z) (Some z) None → IfSome r (λ (n : ℤ). is_within limit n ≡ true)
few_within limit z r e = found_by limit z r (is_within limit z) refl e

same_by : (z target : ℤ) (r : Option ℤ) (b : Bool) → r ≡ cond b (Some z) None → z ≡ target → IfSome r (λ (n : ℤ). n ≡ target)
same_by z target r true e f = subst (λ (q : Option ℤ). IfSome q (λ (n : ℤ). n ≡ target)) (sym e) f
same_by z target r false e f = subst (λ (q : Option ℤ). IfSome q (λ (n : ℤ). n ≡ target)) (sym e) tt

pub few_found : (limit : ℕ) (z target : ℤ) (r : Option ℤ) → r ≡ cond (is_within limit z) (Some z) None → z ≡ target → IfSome r (λ (n : ℤ). n ≡ target)
few_found limit z target r e f = same_by z target r (is_within limit z) e f

-- ---- a number

pub negative_alone : (r l : LinearValue) (n : ℤ) → r ≡ number_alone n → l.summands ≡ [] → n ≡ neg_ℤ l.constant → r ≡ sum_of (negative_of l ∷ [])
unfolding sum_of
negative_alone r l n made e f =
    let number : n ≡ neg_ℤ l.constant +ℤ pos 0 = omega (arith, ints, f) in
    let of_number : ℤ → LinearValue = λ k. record { summands = []; constant = k } in
    let of_list : List Summand → LinearValue = λ xs. record { summands = collected (map negative_summand xs ++ []); constant = neg_ℤ l.constant +ℤ pos 0 } in
    made ∙ ap of_number number ∙ ap of_list (sym e)
