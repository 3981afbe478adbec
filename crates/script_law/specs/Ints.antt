-- Scripts all of whose names are Int, and in which nothing is defined.
use Rattle.std.specs.Prelude.{◌≡◌, ℕ, List, [], ◌∷◌, ℤ}
use Rattle.smt_sexpr.specs.Tree.{Sexpr}
use Rattle.stn_core.specs.declared.named.NamedValue.{NamedValue}
use Rattle.stn_core.specs.declared.named.NamedValue.TheVariants as named
use Rattle.idl_node.specs.declared.sort.Sort.TheVariants as sort
use Rattle.idl_scope.specs.Scopes.{Declaration}
use Rattle.idl_term.specs.Contexts.{Context}
use Rattle.idl_term.specs.Values.{whole, Named}

abbrev pub int : List ℕ → Declaration
int x = record { name = x; sort = sort.Int }

abbrev pub ints_of : List (List ℕ) → List Declaration
ints_of [] = []
ints_of (x ∷ xs) = int x ∷ ints_of xs

-- these names are declared, all Int, nothing is defined, and these are the assertions
pub record Stands (names : List (List ℕ)) (terms : List Sexpr) (c : Context) : Type 0 where
  pub declared : c.declared ≡ ints_of names
  pub defined : c.defined ≡ []
  pub assertions : c.assertions ≡ terms

-- ---- schedules

-- one value for each name
abbrev pub whole_numbers : List ℤ → List NamedValue
whole_numbers [] = []
whole_numbers (v ∷ vs) = named.Int v ∷ whole_numbers vs

-- what the names stand for where these are their values in order
abbrev pub ints_on : List (List ℕ) → List ℤ → List Named
ints_on (x ∷ xs) (v ∷ vs) = record { name = x; value = whole v } ∷ ints_on xs vs
ints_on _ _ = []
