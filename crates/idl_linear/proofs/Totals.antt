-- Sums whose terms are taken in another order.
use Rattle.std.proofs.Common.{refl, ap, sym, subst, ◌∙◌, arith, ◌≡◌, ℕ, List, [], ◌∷◌, ◌++◌, map, ℤ, pos, neg_ℤ, ◌+ℤ◌}
use Rattle.std.proofs.lemmas.Int.{ints}
use Rattle.std.proofs.lemmas.List.{append_assoc}
use Rattle.std.specs.List.{AllByRecursion}
use Rattle.idl_linear.specs.declared.summand.Summand.{Summand}
use Rattle.idl_linear.specs.Linear.{LinearValue, collected, summands_of, constants_of, sum_of, negative_summand, negative_of}
use Rattle.idl_linear.specs.Forms.{IsSummand, IsLinear, SumValue, with_terms, with_term, with_negative, term_of}
use Rattle.idl_linear.proofs.Coefficients.{AllAbove, coefficient-append}
use Rattle.idl_linear.proofs.Collecting.{collected-same, all_above-append, all_above-ascending, all_above-negatives}
use Rattle.idl_linear.proofs.Sorting.{each_above}

pub summands-append : (ls ms : List LinearValue) → summands_of (ls ++ ms) ≡ summands_of ls ++ summands_of ms
summands-append [] ms = refl
summands-append (l ∷ ls) ms = ap (λ (xs : List Summand). l.summands ++ xs) (summands-append ls ms) ∙ sym (append_assoc l.summands (summands_of ls) (summands_of ms))

pub constants-append : (ls ms : List LinearValue) → constants_of (ls ++ ms) ≡ constants_of ls +ℤ constants_of ms
constants-append [] ms = omega (arith, ints)
constants-append (l ∷ ls) ms =
    let rest = constants-append ls ms in
    omega (arith, ints, rest)

above-front : (m : ℕ) (xs ys : List Summand) → AllAbove m (xs ++ ys) → AllAbove m xs
above-front m [] ys h = tt
above-front m (x ∷ xs) ys h = (h.0, above-front m xs ys h.1)

above-back : (m : ℕ) (xs ys : List Summand) → AllAbove m (xs ++ ys) → AllAbove m ys
above-back m [] ys h = h
above-back m (x ∷ xs) ys h = above-back m xs ys h.1

-- one of three parts goes to the end
moved : (before behind others base : List Summand) → AllAbove 0 ((before ++ behind) ++ others) → AllAbove 0 base
    → collected (((before ++ behind) ++ others) ++ base) ≡ collected ((before ++ (base ++ behind)) ++ others)
moved before behind others base h k =
    let both = above-front 0 (before ++ behind) others h in
    let first = above-front 0 before behind both in
    let second = above-back 0 before behind both in
    let third = above-back 0 (before ++ behind) others h in
    collected-same 0 (((before ++ behind) ++ others) ++ base) ((before ++ (base ++ behind)) ++ others)
    (all_above-append 0 ((before ++ behind) ++ others) base h k)
    (all_above-append 0 (before ++ (base ++ behind)) others (all_above-append 0 before (base ++ behind) first (all_above-append 0 base behind k second)) third)
    (λ p.
    let a = coefficient-append p ((before ++ behind) ++ others) base in
    let b = coefficient-append p (before ++ behind) others in
    let c = coefficient-append p before behind in
    let d = coefficient-append p (before ++ (base ++ behind)) others in
    let e = coefficient-append p before (base ++ behind) in
    let f = coefficient-append p base behind in
    omega (arith, ints, a, b, c, d, e, f))

moved_back : (others before behind base : List Summand) → AllAbove 0 ((others ++ before) ++ behind) → AllAbove 0 base
    → collected (((others ++ before) ++ behind) ++ base) ≡ collected (others ++ (before ++ (base ++ behind)))
moved_back others before behind base h k =
    let both = above-front 0 (others ++ before) behind h in
    let first = above-front 0 others before both in
    let second = above-back 0 others before both in
    let third = above-back 0 (others ++ before) behind h in
    collected-same 0 (((others ++ before) ++ behind) ++ base) (others ++ (before ++ (base ++ behind)))
    (all_above-append 0 ((others ++ before) ++ behind) base h k)
    (all_above-append 0 others (before ++ (base ++ behind)) first (all_above-append 0 before (base ++ behind) second (all_above-append 0 base behind k third)))
    (λ p.
    let a = coefficient-append p ((others ++ before) ++ behind) base in
    let b = coefficient-append p (others ++ before) behind in
    let c = coefficient-append p others before in
    let d = coefficient-append p others (before ++ (base ++ behind)) in
    let e = coefficient-append p before (base ++ behind) in
    let f = coefficient-append p base behind in
    omega (arith, ints, a, b, c, d, e, f))

abbrev total : List Summand → ℤ → LinearValue
total summands constant = record { summands = collected summands; constant = constant }

abbrev empty : SumValue
empty = record { summands = []; constant = pos 0; terms = 0 }

-- the sum of terms from nothing
pub total_of_all : (s t : SumValue) (ls : List LinearValue) → s ≡ record { summands = []; constant = pos 0; terms = 0 } → t ≡ with_terms s ls → term_of t ≡ sum_of ls
unfolding sum_of
total_of_all s t ls e f =
    let number : pos 0 +ℤ constants_of ls ≡ constants_of ls = omega (arith, ints) in
    ap term_of (f ∙ ap (λ (u : SumValue). with_terms u ls) e) ∙ ap (total (summands_of ls)) number

-- and more of them
pub total_less : (ls ms : List LinearValue) (s t u : SumValue) → s ≡ record { summands = []; constant = pos 0; terms = 0 } → t ≡ with_terms s ls → u ≡ with_terms t ms → term_of u ≡ sum_of (ls ++ ms)
unfolding sum_of
total_less ls ms s t u e f g =
    let both = constants-append ls ms in
    let number : (pos 0 +ℤ constants_of ls) +ℤ constants_of ms ≡ constants_of (ls ++ ms) = omega (arith, ints, both) in
    ap term_of (g ∙ ap (λ (w : SumValue). with_terms w ms) (f ∙ ap (λ (w : SumValue). with_terms w ls) e))
    ∙ ap (λ (xs : List Summand). total xs ((pos 0 +ℤ constants_of ls) +ℤ constants_of ms)) (sym (summands-append ls ms))
    ∙ ap (total (summands_of (ls ++ ms))) number

module _ (before behind : List LinearValue) (base : LinearValue) (others : List LinearValue) (s t u v : SumValue) (is : s ≡ record { summands = []; constant = pos 0; terms = 0 }) where
  -- its other terms, and then one of the first
  module _ (e : t ≡ with_terms s before) (f : u ≡ with_terms t behind) (g : v ≡ with_terms u others) (each : AllByRecursion IsSummand v.summands) (linear : IsLinear base) where
    v_is : v ≡ with_terms (with_terms (with_terms empty before) behind) others
    v_is = g ∙ ap (λ (w : SumValue). with_terms w others) (f ∙ ap (λ (w : SumValue). with_terms w behind) (e ∙ ap (λ (w : SumValue). with_terms w before) is))

    pub total_on_term : term_of (with_term v base) ≡ sum_of ((before ++ base ∷ behind) ++ others)
    unfolding sum_of
    total_on_term =
        let above : AllAbove 0 ((summands_of before ++ summands_of behind) ++ summands_of others) = subst (λ (w : SumValue). AllAbove 0 w.summands) v_is (each_above v.summands each) in
        let one = constants-append (before ++ base ∷ behind) others in
        let two = constants-append before (base ∷ behind) in
        let number : (((pos 0 +ℤ constants_of before) +ℤ constants_of behind) +ℤ constants_of others) +ℤ base.constant ≡ constants_of ((before ++ base ∷ behind) ++ others) = omega (arith, ints, one, two) in
        ap (λ (w : SumValue). term_of (with_term w base)) v_is
        ∙ ap (λ (xs : List Summand). record { summands = xs; constant = (((pos 0 +ℤ constants_of before) +ℤ constants_of behind) +ℤ constants_of others) +ℤ base.constant }) (moved (summands_of before) (summands_of behind) (summands_of others) base.summands above (all_above-ascending 0 base.summands linear.ascends))
        ∙ ap (λ (xs : List Summand). total xs ((((pos 0 +ℤ constants_of before) +ℤ constants_of behind) +ℤ constants_of others) +ℤ base.constant))
        (ap (λ (xs : List Summand). xs ++ summands_of others) (sym (summands-append before (base ∷ behind))) ∙ sym (summands-append (before ++ base ∷ behind) others))
        ∙ ap (total (summands_of ((before ++ base ∷ behind) ++ others))) number

  -- and then one that is taken away
  module _ (e : t ≡ with_terms s others) (f : u ≡ with_terms t before) (g : v ≡ with_terms u behind) (each : AllByRecursion IsSummand v.summands) (linear : IsLinear base) where
    w_is : v ≡ with_terms (with_terms (with_terms empty others) before) behind
    w_is = g ∙ ap (λ (w : SumValue). with_terms w behind) (f ∙ ap (λ (w : SumValue). with_terms w before) (e ∙ ap (λ (w : SumValue). with_terms w others) is))

    pub total_on_taken : term_of (with_negative v base) ≡ sum_of (others ++ (before ++ negative_of base ∷ behind))
    unfolding sum_of
    total_on_taken =
        let above : AllAbove 0 ((summands_of others ++ summands_of before) ++ summands_of behind) = subst (λ (w : SumValue). AllAbove 0 w.summands) w_is (each_above v.summands each) in
        let negatives = map negative_summand base.summands in
        let one = constants-append others (before ++ negative_of base ∷ behind) in
        let two = constants-append before (negative_of base ∷ behind) in
        let number : (((pos 0 +ℤ constants_of others) +ℤ constants_of before) +ℤ constants_of behind) +ℤ neg_ℤ base.constant ≡ constants_of (others ++ (before ++ negative_of base ∷ behind)) = omega (arith, ints, one, two) in
        ap (λ (w : SumValue). term_of (with_negative w base)) w_is
        ∙ ap (λ (xs : List Summand). record { summands = xs; constant = (((pos 0 +ℤ constants_of others) +ℤ constants_of before) +ℤ constants_of behind) +ℤ neg_ℤ base.constant })
        (moved_back (summands_of others) (summands_of before) (summands_of behind) negatives above (all_above-negatives 0 base.summands (all_above-ascending 0 base.summands linear.ascends)))
        ∙ ap (λ (xs : List Summand). total xs ((((pos 0 +ℤ constants_of others) +ℤ constants_of before) +ℤ constants_of behind) +ℤ neg_ℤ base.constant))
        (ap (λ (xs : List Summand). summands_of others ++ xs) (sym (summands-append before (negative_of base ∷ behind))) ∙ sym (summands-append others (before ++ negative_of base ∷ behind)))
        ∙ ap (total (summands_of (others ++ (before ++ negative_of base ∷ behind)))) number
