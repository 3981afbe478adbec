-- What sums keep of their terms' time points.
use Rattle.std.proofs.Common.{◌<◌, ℕ, List, [], ◌∷◌, ◌++◌, map}
use Rattle.std.specs.List.{AllByRecursion}
use Rattle.idl_linear.specs.declared.summand.Summand.{Summand}
use Rattle.idl_linear.specs.Forms.{AscendAbove}
use Rattle.idl_linear.specs.Linear.{LinearValue, summands_of, sum_of, negative_summand, negative_of}
use Rattle.idl_linear.proofs.Coefficients.{AllAbove, ascend-collected}
use Rattle.idl_linear.proofs.Collecting.{all_above-ascending}
use Rattle.idl_linear.proofs.Sorting.{points-collected}

module _ (P : ℕ → Type 0) where
  -- it holds of the time point of each summand
  abbrev pub ArePoints : List Summand → Type 0
  ArePoints xs = AllByRecursion (λ (s : Summand). P s.point) xs

  abbrev pub HavePoints : List LinearValue → Type 0
  HavePoints ls = AllByRecursion (λ (l : LinearValue). ArePoints l.summands) ls

  points_append : (xs ys : List Summand) → ArePoints xs → ArePoints ys → ArePoints (xs ++ ys)
  points_append [] ys h i = i
  points_append (x ∷ xs) ys h i = (h.0, points_append xs ys h.1 i)

  pub points_negatives : (xs : List Summand) → ArePoints xs → ArePoints (map negative_summand xs)
  points_negatives [] h = tt
  points_negatives (x ∷ xs) h = (h.0, points_negatives xs h.1)

  pub points_of : (ls : List LinearValue) → HavePoints ls → ArePoints (summands_of ls)
  points_of [] h = tt
  points_of (l ∷ ls) h = points_append l.summands (summands_of ls) h.0 (points_of ls h.1)

  pub points_others : (ls : List LinearValue) → HavePoints ls → HavePoints (map negative_of ls)
  points_others [] h = tt
  points_others (l ∷ ls) h = (points_negatives l.summands h.0, points_others ls h.1)

  pub points_sum : (ls : List LinearValue) → HavePoints ls → ArePoints (sum_of ls).summands
  unfolding sum_of
  points_sum ls h = points-collected P (summands_of ls) (points_of ls h)

-- what follows of each time point
pub points_weaker : (P Q : ℕ → Type 0) → ((p : ℕ) → P p → Q p) → (xs : List Summand) → ArePoints P xs → ArePoints Q xs
points_weaker P Q weaker [] h = tt
points_weaker P Q weaker (x ∷ xs) h = (weaker x.point h.0, points_weaker P Q weaker xs h.1)

pub points_both : (P Q : ℕ → Type 0) (xs : List Summand) → ArePoints P xs → ArePoints Q xs → ArePoints (λ p. P p × Q p) xs
points_both P Q [] h i = tt
points_both P Q (x ∷ xs) h i = ((h.0, i.0), points_both P Q xs h.1 i.1)

above_zero : (xs : List Summand) → AllAbove 0 xs → ArePoints (λ p. 0 < p) xs
above_zero [] h = tt
above_zero (x ∷ xs) h = (h.0, above_zero xs h.1)

all_above : (xs : List Summand) → ArePoints (λ p. 0 < p) xs → AllAbove 0 xs
all_above [] h = tt
all_above (x ∷ xs) h = (h.0, all_above xs h.1)

pub points_ascending : (xs : List Summand) → AscendAbove 0 xs → ArePoints (λ p. 0 < p) xs
points_ascending xs h = above_zero xs (all_above-ascending 0 xs h)

pub ascends_sum : (ls : List LinearValue) → HavePoints (λ p. 0 < p) ls → AscendAbove 0 (sum_of ls).summands
unfolding sum_of
ascends_sum ls h = ascend-collected 0 (summands_of ls) (all_above (summands_of ls) (points_of (λ p. 0 < p) ls h))
