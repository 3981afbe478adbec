-- The sorts of the declared names, and what an atom over their time points may be.
use Rattle.std.specs.Prelude.{◌≡◌, ℕ, zero, suc, ◌+◌, List, [], ◌∷◌, length, Some, slice_get, ◌⊎◌, pos, negsuc}
use Rattle.stn_core.specs.declared.named.NamedValue.{NamedValue}
use Rattle.stn_core.specs.declared.named.NamedValue.TheVariants.{Int, Truth}
use Rattle.stn_core.specs.declared.literal.Literal.{Literal}
use Rattle.stn_core.specs.Literal.{IsOver}
use Rattle.idl_node.specs.declared.sort.Sort.{Sort}
use Rattle.idl_node.specs.declared.sort.Sort.TheVariants as sort

-- the zero point, or the time point of an Int name
abbrev pub IsIntPoint : List Sort → ℕ → Type 0
IsIntPoint sorts zero = Unit {0}
IsIntPoint sorts (suc k) = slice_get sorts k ≡ Some sort.Int

-- the time point of a Bool name
abbrev pub IsBoolPoint : List Sort → ℕ → Type 0
IsBoolPoint sorts zero = ⊥
IsBoolPoint sorts (suc k) = slice_get sorts k ≡ Some sort.Bool

-- a bound on a difference of Int names' points and the zero point
pub record IsIntAtom (sorts : List Sort) (l : Literal) : Type 0 where
  pub x : IsIntPoint sorts l.x
  pub y : IsIntPoint sorts l.y

-- the Bool name p is true, or false: (p 0 0), or its negation
pub record IsTrueAtom (sorts : List Sort) (l : Literal) : Type 0 where
  pub x : IsBoolPoint sorts l.x
  pub y : l.y ≡ 0
  pub c : l.c ≡ pos 0

pub record IsFalseAtom (sorts : List Sort) (l : Literal) : Type 0 where
  pub x : l.x ≡ 0
  pub y : IsBoolPoint sorts l.y
  pub c : l.c ≡ negsuc 0

abbrev pub IsAtomKind : List Sort → Literal → Type 0
IsAtomKind sorts l = IsIntAtom sorts l ⊎ (IsTrueAtom sorts l ⊎ IsFalseAtom sorts l)

pub record IsAtomFor (sorts : List Sort) (l : Literal) : Type 0 where
  pub over : IsOver (length sorts + 1) l
  pub kind : IsAtomKind sorts l

-- a value of the sort
abbrev pub IsOfSort : Sort → NamedValue → Type 0
IsOfSort sort.Int (Int n) = Unit {0}
IsOfSort sort.Bool (Truth b) = Unit {0}
IsOfSort _ _ = ⊥

-- one value of its sort for each name
abbrev pub AreOfSorts : List Sort → List NamedValue → Type 0
AreOfSorts [] [] = Unit {0}
AreOfSorts (s ∷ sorts) (v ∷ values) = IsOfSort s v × AreOfSorts sorts values
AreOfSorts _ _ = ⊥
