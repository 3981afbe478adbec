-- What a lowered term says, by the table and the values of the time points.
use Rattle.std.specs.Prelude.{◌≡◌, ◌≤◌, ℕ, List, [], ◌∷◌, ◌++◌, length, slice_index_or, pos}
use Rattle.std.specs.List.{AllByRecursion}
use Rattle.smt_sexpr.specs.Tree.{Sexpr}
use Rattle.stn_core.specs.declared.named.NamedValue.{NamedValue}
use Rattle.stn_core.specs.declared.named.NamedValue.TheVariants as named
use Rattle.idl_node.specs.Limits.{nodes_limit}
use Rattle.idl_node.specs.Nodes.{NodeValue}
use Rattle.idl_node.specs.Sorts.{IsAtomFor}
use Rattle.idl_node.specs.Tables.{IsTableOf}
use Rattle.idl_node.specs.Truth as node
use Rattle.idl_apply.specs.Applied.{Made}
use Rattle.idl_term.specs.Contexts.{Context, environment, value_of_named}
use Rattle.idl_value.specs.CaseValues.{cases_value, IsTermIn}
use Rattle.idl_scope.specs.Limits.{names_limit}
use Rattle.idl_scope.specs.Scopes.{LoweredTerm, formula, numeric, Binding, Scope, Found, declared_at, stands_for, unknown, found, sorts_of}
use Rattle.idl_term.specs.Values.{Value, whole, truth, Named, looked_up, value}

-- the value of a lowered term on a schedule
abbrev pub lowered_value : List NodeValue → List NamedValue → LoweredTerm → Value
lowered_value nodes schedule (formula k) = truth (node.truth nodes (node.point_values schedule) k)
lowered_value nodes schedule (numeric cases) = whole (cases_value nodes (node.point_values schedule) cases)

-- a table of atoms over the declared names
abbrev pub IsTableFor : Scope → List NodeValue → Type 0
IsTableFor scope nodes = IsTableOf (IsAtomFor (sorts_of scope.declared)) nodes

-- names stand for terms in the table
pub record IsScopeOver (scope : Scope) (nodes : List NodeValue) : Type 0 where
  pub few : length scope.declared ≤ names_limit
  pub terms : AllByRecursion (λ (b : Binding). IsTermIn (sorts_of scope.declared) nodes b.stands) scope.bound
  pub table : IsTableFor scope nodes
  pub room : length nodes ≤ nodes_limit

-- what a name is worth on a schedule by what it is found to be
abbrev pub found_value : List NodeValue → List NamedValue → Found → Value → Type 0
found_value nodes schedule (declared_at place sort) v = v ≡ value_of_named (slice_index_or schedule place (named.Int (pos 0)))
found_value nodes schedule (stands_for t) v = v ≡ lowered_value nodes schedule t
found_value nodes schedule unknown v = Unit {0}

-- the names of the scope stand in the environment for what they are worth
abbrev pub Agrees : Scope → List NodeValue → List NamedValue → List Named → Type 0
Agrees scope nodes schedule env = (name : List ℕ) → found_value nodes schedule (found scope name) (looked_up name env)

-- a term is made: the table is longer, the term is in it
pub record IsMadeIn (scope : Scope) (nodes : List NodeValue) (made : Made) : Type 0 where
  pub added : List NodeValue
  pub grows : made.nodes ≡ nodes ++ added
  pub room : length made.nodes ≤ nodes_limit
  pub table : IsTableFor scope made.nodes
  pub term : IsTermIn (sorts_of scope.declared) made.nodes made.is

-- each assertion has a node, which is true exactly where the assertion is
abbrev pub AreRoots : Context → List NamedValue → List Sexpr → List ℕ → Type 0
AreRoots c schedule [] [] = Unit {0}
AreRoots c schedule (t ∷ ts) (k ∷ ks) = (value (environment c schedule) t ≡ truth (node.truth c.nodes (node.point_values schedule) k)) × AreRoots c schedule ts ks
AreRoots c schedule _ _ = ⊥
