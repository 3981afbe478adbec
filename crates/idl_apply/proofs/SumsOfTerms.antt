-- Sums and differences of terms.
use Rattle.std.proofs.Common.{refl, sym, ap, subst, arith, ◌∙◌, ◌≡◌, ◌≤◌, ◌<◌, ℕ, true, length, List, [], ◌∷◌, ◌++◌, map, take, drop, Bor, Result, Err}
use Rattle.std.proofs.lemmas.List.{append-nil}
use Rattle.idl_linear.specs.declared.error.LinearError.{LinearError}
use Rattle.idl_linear.specs.declared.error.LinearError.TheVariants as linear
use Rattle.idl_linear.specs.Linear.{LinearValue, sum_of, negative_of, less_others, is_limited}
use Rattle.idl_linear.specs.code.Steps.{Refuses}
use Rattle.idl_apply.specs.code.Applying.{Sums, of_linear}
use Rattle.idl_apply.specs.declared.error.TermError.{TermError}
use Rattle.idl_apply.proofs.Arguments.{seen}

refused_by : (sum : LinearValue) (why : LinearError) → Refuses why (is_limited sum) → Sums sum (Err (of_linear why))
refused_by sum linear.OutOfMemory h = tt
refused_by sum linear.BoundTooLarge h = (refl, h)

-- an error handed on, and a sum
pub sums_refused : (sum made : LinearValue) (r : Result LinearValue TermError) (error : TermError) (why : LinearError) → r ≡ Err error → error ≡ of_linear why → Refuses why (is_limited made) → made ≡ sum → Sums sum r
sums_refused sum made r error why e f h same =
    subst (λ (q : Result LinearValue TermError). Sums sum q) (sym (e ∙ ap Err f))
    (refused_by sum why (subst (λ (s : LinearValue). Refuses why (is_limited s)) same h))

pub sums_ok : (sum made total : LinearValue) → total ≡ made → is_limited made ≡ true → made ≡ sum → (total ≡ sum) × (is_limited sum ≡ true)
sums_ok sum made total e h same = (e ∙ same, ap is_limited (sym same) ∙ h)

-- `+`: nothing is taken away
pub sum_of_all : (ls : List LinearValue) → sum_of (ls ++ []) ≡ sum_of ls
sum_of_all ls = ap sum_of (append-nil ls)

-- `-`: of one term the negative, and else the others are taken from the first
abbrev less : List (Bor LinearValue) → List (Bor LinearValue) → LinearValue
less front back = sum_of (seen front ++ map negative_of (seen back))

less_by_one : (bs : List (Bor LinearValue)) → 1 < length bs → less (take 1 bs) (drop 1 bs) ≡ less_others (seen bs)
less_by_one [] h = absurd (omega arith)
less_by_one (b ∷ []) h = absurd (omega arith)
less_by_one (b ∷ c ∷ bs) h = refl

less_by_none : (bs : List (Bor LinearValue)) → length bs ≤ 1 → less (take 0 bs) (drop 0 bs) ≡ less_others (seen bs)
unfolding sum_of
less_by_none [] h = refl
less_by_none (b ∷ []) h = refl
less_by_none (b ∷ c ∷ bs) h = absurd (omega arith)

less_at : (bs front back : List (Bor LinearValue)) (n m : ℕ) → n ≡ m → front ≡ take n bs → back ≡ drop n bs → less front back ≡ less (take m bs) (drop m bs)
less_at bs front back n m e f g =
    ap (λ (xs : List (Bor LinearValue)). less xs back) (f ∙ ap (λ (k : ℕ). take k bs) e)
    ∙ ap (λ (xs : List (Bor LinearValue)). less (take m bs) xs) (g ∙ ap (λ (k : ℕ). drop k bs) e)

pub less_first : (bs front back : List (Bor LinearValue)) (n : ℕ) → n ≡ 1 → 1 < length bs → front ≡ take n bs → back ≡ drop n bs → sum_of (seen front ++ map negative_of (seen back)) ≡ less_others (seen bs)
less_first bs front back n e lt f g = less_at bs front back n 1 e f g ∙ less_by_one bs lt

pub less_all : (bs front back : List (Bor LinearValue)) (n : ℕ) → n ≡ 0 → length bs ≤ 1 → front ≡ take n bs → back ≡ drop n bs → sum_of (seen front ++ map negative_of (seen back)) ≡ less_others (seen bs)
less_all bs front back n e le f g = less_at bs front back n 0 e f g ∙ less_by_none bs le
