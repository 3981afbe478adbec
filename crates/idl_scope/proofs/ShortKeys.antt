-- Names as keys: the first bytes of a name, and what two names are whose first bytes are equal.
use Rattle.std.proofs.Common.{arith, refl, ap, sym, ◌∙◌, ◌≡◌, ℕ, zero, suc, ◌≤◌, List, [], ◌∷◌, length, Bool, true, false, ◌&&◌, ◌||◌, IsTrue, slice_index_or}
use Rattle.std.specs.Cmp.Lexicographic.{bytes_decides}
use Rattle.std.specs.Str.{bytes_eq}
use Rattle.idl_scope.specs.code.Keys.{padded}

-- the lists' first elements and the others are equal
first_equal : (x y : ℕ) (xs ys : List ℕ) → (x ∷ xs) ≡ (y ∷ ys) → x ≡ y
first_equal x y xs ys e = grind arith

rest_equal : (x y : ℕ) (xs ys : List ℕ) → (x ∷ xs) ≡ (y ∷ ys) → xs ≡ ys
rest_equal x y xs ys e = grind arith

-- short names are their first bytes
pub short_equal : (n : ℕ) (xs ys : List ℕ) → length xs ≡ length ys → length xs ≤ n → padded n xs ≡ padded n ys → xs ≡ ys
short_equal n [] [] l m e = refl
short_equal n [] (y ∷ ys) l m e = absurd (omega arith)
short_equal n (x ∷ xs) [] l m e = absurd (omega arith)
short_equal zero (x ∷ xs) (y ∷ ys) l m e = absurd (omega arith)
short_equal (suc n) (x ∷ xs) (y ∷ ys) l m e =
    let first : x ≡ y = first_equal x y (padded n xs) (padded n ys) e in
    let rest : xs ≡ ys = short_equal n xs ys (omega arith) (omega arith) (rest_equal x y (padded n xs) (padded n ys) e) in
    rw first (ap (λ (zs : List ℕ). y ∷ zs) rest)
