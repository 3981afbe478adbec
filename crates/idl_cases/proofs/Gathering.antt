-- The linear terms of a case that is put together.
use Rattle.std.proofs.Common.{ap, sym, subst, ◌∙◌, ◌≡◌, List, [], ◌∷◌, ◌++◌, map, Bor, append-nil, append_assoc}
use Rattle.std.proofs.lemmas.List.{map-append}
use Rattle.idl_linear.specs.Linear.{LinearValue, negative_of, sum_of}
use Rattle.idl_linear.specs.code.Bounded.{IsOver}
use Rattle.idl_linear.proofs.SumLaws.{over_negative, pair_more, pair_zero}
use Rattle.idl_cases.specs.code.Bounded.{ArePoints}
use Rattle.idl_cases.specs.code.CaseSums.{pair_sum}

abbrev pub seen : List (Bor LinearValue) → List LinearValue
seen ls = map (λ (l : Bor LinearValue). l.now) ls

points_insert : (xs : List LinearValue) (l : LinearValue) (ys : List LinearValue) → ArePoints (xs ++ ys) → IsOver l → ArePoints (xs ++ l ∷ ys)
points_insert [] l ys h k = (k, h)
points_insert (x ∷ xs) l ys h k = (h.0, points_insert xs l ys h.1 k)

module _ (plus minus new : List (Bor LinearValue)) (l : Bor LinearValue) (h : ArePoints (seen plus ++ map negative_of (seen minus))) (over : IsOver l.now) where
  plus_are : new ≡ plus ++ l ∷ [] → seen new ++ map negative_of (seen minus) ≡ seen plus ++ l.now ∷ map negative_of (seen minus)
  plus_are e =
      ap (λ (ls : List (Bor LinearValue)). seen ls ++ map negative_of (seen minus)) e
      ∙ ap (λ (ls : List LinearValue). ls ++ map negative_of (seen minus)) (map-append (λ (m : Bor LinearValue). m.now) plus (l ∷ []))
      ∙ append_assoc (seen plus) (l.now ∷ []) (map negative_of (seen minus))

  more_plus : ArePoints (seen plus ++ l.now ∷ map negative_of (seen minus))
  more_plus = points_insert (seen plus) l.now (map negative_of (seen minus)) h over

  pub points_plus : new ≡ plus ++ l ∷ [] → ArePoints (seen new ++ map negative_of (seen minus))
  points_plus e = subst (λ (ls : List LinearValue). ArePoints ls) (sym (plus_are e)) more_plus

  pub sum_plus : new ≡ plus ++ l ∷ [] → sum_of (seen new ++ map negative_of (seen minus)) ≡ pair_sum (sum_of (seen plus ++ map negative_of (seen minus))) l.now
  sum_plus e = ap sum_of (plus_are e) ∙ pair_more (seen plus) (map negative_of (seen minus)) l.now h more_plus over

  minus_are : new ≡ minus ++ l ∷ [] → seen plus ++ map negative_of (seen new) ≡ (seen plus ++ map negative_of (seen minus)) ++ negative_of l.now ∷ []
  minus_are e =
      ap (λ (ls : List (Bor LinearValue)). seen plus ++ map negative_of (seen ls)) e
      ∙ ap (λ (ls : List LinearValue). seen plus ++ map negative_of ls) (map-append (λ (m : Bor LinearValue). m.now) minus (l ∷ []))
      ∙ ap (λ (ls : List LinearValue). seen plus ++ ls) (map-append negative_of (seen minus) (l.now ∷ []))
      ∙ sym (append_assoc (seen plus) (map negative_of (seen minus)) (negative_of l.now ∷ []))

  before : ArePoints ((seen plus ++ map negative_of (seen minus)) ++ [])
  before = subst (λ (ls : List LinearValue). ArePoints ls) (sym (append-nil (seen plus ++ map negative_of (seen minus)))) h

  more_minus : ArePoints ((seen plus ++ map negative_of (seen minus)) ++ negative_of l.now ∷ [])
  more_minus = points_insert (seen plus ++ map negative_of (seen minus)) (negative_of l.now) [] before (over_negative l.now over)

  pub points_minus : new ≡ minus ++ l ∷ [] → ArePoints (seen plus ++ map negative_of (seen new))
  points_minus e = subst (λ (ls : List LinearValue). ArePoints ls) (sym (minus_are e)) more_minus

  pub sum_minus : new ≡ minus ++ l ∷ [] → sum_of (seen plus ++ map negative_of (seen new)) ≡ pair_sum (sum_of (seen plus ++ map negative_of (seen minus))) (negative_of l.now)
  sum_minus e =
      ap sum_of (minus_are e)
      ∙ pair_more (seen plus ++ map negative_of (seen minus)) [] (negative_of l.now) before more_minus (over_negative l.now over)
      ∙ ap (λ (ls : List LinearValue). pair_sum (sum_of ls) (negative_of l.now)) (append-nil (seen plus ++ map negative_of (seen minus)))

-- one alone
module _ (none plus minus : List (Bor LinearValue)) (l : Bor LinearValue) (e : none ≡ []) (f : plus ≡ none ++ l ∷ []) (g : minus ≡ []) (over : IsOver l.now) where
  one_is : seen plus ++ map negative_of (seen minus) ≡ l.now ∷ []
  one_is =
      ap (λ (ls : List (Bor LinearValue)). seen ls ++ map negative_of (seen minus)) (f ∙ ap (λ (ls : List (Bor LinearValue)). ls ++ l ∷ []) e)
      ∙ ap (λ (ls : List (Bor LinearValue)). l.now ∷ map negative_of (seen ls)) g

  pub points_one : ArePoints (seen plus ++ map negative_of (seen minus))
  points_one = subst (λ (ls : List LinearValue). ArePoints ls) (sym one_is) (over, tt)

  pub sum_one : sum_of (seen plus ++ map negative_of (seen minus)) ≡ l.now
  sum_one = ap sum_of one_is ∙ pair_more [] [] l.now tt (over, tt) over ∙ pair_zero l.now over
