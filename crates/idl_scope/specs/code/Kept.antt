-- How the code keeps names. These are words of the code, and no part of the meaning.
use Rattle.std.specs.Prelude.{◌≡◌, ℕ, ◌<◌, List, [], ◌∷◌, ◌++◌, map, Bool, true, false, Option, Some, None}
use Rattle.idl_node.specs.declared.sort.Sort.{Sort}
use Rattle.idl_node.specs.declared.sort.Sort.TheVariants as sort
use Rattle.idl_scope.specs.declared.lowered.Lowered.{Lowered}
use Rattle.idl_scope.specs.declared.scope.FoundName.{FoundName}
use Rattle.idl_scope.specs.declared.scope.FoundName.TheVariants as name
use Rattle.idl_scope.specs.Scopes.{LoweredTerm, formula, numeric, Declaration, Binding, Scope, Found, declared_at, stands_for, unknown, found_declared, is_found, is_known, shown_term}
use Rattle.idl_scope.specs.Limits.{names_limit}

-- each name with its sort
abbrev pub declarations_of : List (List ℕ) → List Sort → List Declaration
declarations_of (name ∷ names) (s ∷ sorts) = record { name = name; sort = s } ∷ declarations_of names sorts
declarations_of _ _ = []

-- each name with its term
abbrev pub definitions_of : List (List ℕ) → List Lowered → List Binding
definitions_of (name ∷ names) (t ∷ terms) = record { name = name; stands = shown_term t } ∷ definitions_of names terms
definitions_of _ _ = []

abbrev pub names_of : List Declaration → List (List ℕ)
names_of declared = map (λ (d : Declaration). d.name) declared

-- a declared name's place and sort, where it is declared
abbrev pub found_place : Option (ℕ × Sort) → Found
found_place (Some found) = declared_at found.0 found.1
found_place None = unknown

-- a name is new, and is declared last, or it was declared, and nothing changes
abbrev pub Adds : List Declaration → List ℕ → Sort → Bool → List Declaration → Type 0
Adds old name s true new = (is_found (found_declared name 0 old) ≡ false) × (new ≡ old ++ record { name = name; sort = s } ∷ [])
Adds old name s false new = (is_found (found_declared name 0 old) ≡ true) × (new ≡ old)

-- a name is new, and is declared last, or it was known, and nothing changes
abbrev pub Declares : Scope → List ℕ → Sort → Bool → Scope → Type 0
Declares old name s true new =
    (is_known old name ≡ false) × (new ≡ record { declared = old.declared ++ record { name = name; sort = s } ∷ []; bound = old.bound })
Declares old name s false new = (is_known old name ≡ true) × (new ≡ old)

-- a declared name's place is below the count
abbrev pub IsPlaceBelow : ℕ → FoundName → Type 0
IsPlaceBelow count (name.Declared k s) = k < count
IsPlaceBelow count _ = Unit {0}

-- the sort of a term
abbrev pub sort_of : LoweredTerm → Sort
sort_of (formula node) = sort.Bool
sort_of (numeric cases) = sort.Int

-- what a name was found to be
abbrev pub FoundIs : Found → FoundName → Type 0
FoundIs (declared_at place sort) (name.Declared k s) = (place ≡ k) × (sort ≡ s)
FoundIs (stands_for t) (name.Bound term) = shown_term term.now ≡ t
FoundIs unknown name.Unknown = Unit {0}
FoundIs _ _ = ⊥

-- a declared name's place is within the limit
abbrev pub IsNearPlace : FoundName → Type 0
IsNearPlace (name.Declared k s) = k < names_limit
IsNearPlace _ = Unit {0}
