-- What is active at a place of a script: names, definitions and assertions (SMT-LIB 2.6, section 4.1.4, and section 4.2.3),
-- with the node table of their terms; and when a schedule satisfies it.
use Rattle.std.specs.Prelude.{◌≡◌, ℕ, ◌<◌, List, [], ◌∷◌, ◌++◌, map, length, true, false, Ok}
use Rattle.std.specs.List.{AllByRecursion}
use Rattle.smt_sexpr.specs.Tree.{Sexpr}
use Rattle.stn_core.specs.declared.named.NamedValue.{NamedValue}
use Rattle.stn_core.specs.declared.named.NamedValue.TheVariants as named
use Rattle.idl_node.specs.declared.sort.Sort.{Sort}
use Rattle.idl_node.specs.Nodes.{NodeValue}
use Rattle.idl_node.specs.Sorts.{AreOfSorts}
use Rattle.idl_apply.specs.Applied.{Made}
use Rattle.idl_scope.specs.Limits.{names_limit}
use Rattle.idl_term.specs.Lowered.{lowered}
use Rattle.idl_apply.specs.Operators.{is_reserved}
use Rattle.idl_scope.specs.Scopes.{LoweredTerm, formula, Declaration, Binding, Scope, is_known, sorts_of}
use Rattle.idl_term.specs.Values.{Value, whole, truth, Named, value}

-- a defined name, its term, and what that is made into
pub record Definition : Type 0 where
  pub name : List ℕ
  pub term : Sexpr
  pub stands : LoweredTerm

pub record Context : Type 0 where
  -- in order of declaration
  pub declared : List Declaration
  -- names that were defined, and names of assertions, in order
  pub defined : List Definition
  pub assertions : List Sexpr
  -- the table of all definitions and assertions, in order
  pub nodes : List NodeValue
  -- the numbers of the assertions' nodes
  pub roots : List ℕ

abbrev pub start_context : Context
start_context = record { declared = []; defined = []; assertions = []; nodes = []; roots = [] }

abbrev pub binding_of : Definition → Binding
binding_of d = record { name = d.name; stands = d.stands }

abbrev pub scope_of : Context → Scope
scope_of c = record { declared = c.declared; bound = map binding_of c.defined }

-- ---- schedules

abbrev pub value_of_named : NamedValue → Value
value_of_named (named.Int n) = whole n
value_of_named (named.Truth b) = truth b

-- each declared name with its value
abbrev pub declared_values : List Declaration → List NamedValue → List Named
declared_values (d ∷ declared) (v ∷ schedule) = record { name = d.name; value = value_of_named v } ∷ declared_values declared schedule
declared_values _ _ = []

-- a defined name stands for the value of its term where the names before it stand for theirs
abbrev pub defined_values : List Named → List Definition → List Named
defined_values env [] = env
defined_values env (d ∷ defined) = defined_values (record { name = d.name; value = value env d.term } ∷ env) defined

-- what the names stand for on a schedule
abbrev pub environment : Context → List NamedValue → List Named
environment c schedule = defined_values (declared_values c.declared schedule) c.defined

-- one value of its sort for each declared name: a whole number of any size for Int, a truth value for Bool
abbrev pub IsScheduleFor : Context → List NamedValue → Type 0
IsScheduleFor c schedule = AreOfSorts (sorts_of c.declared) schedule

-- the term has the value true on the schedule
abbrev pub IsTrueOn : Context → List NamedValue → Sexpr → Type 0
IsTrueOn c schedule t = value (environment c schedule) t ≡ truth true

-- some schedule gives every assertion the value true (SMT-LIB 2.6, section 4.2.5: `check-sat`)
abbrev pub IsSatisfiable : Context → Type 0
IsSatisfiable c = (schedule : List NamedValue) × IsScheduleFor c schedule × AllByRecursion (IsTrueOn c schedule) c.assertions

-- ---- how a context comes about

abbrev pub with_declaration : Context → List ℕ → Sort → Context
with_declaration c name sort = record c { declared = c.declared ++ record { name = name; sort = sort } ∷ [] }

abbrev pub with_definition : Context → List ℕ → Sexpr → Made → Context
with_definition c name t made = record c { defined = c.defined ++ record { name = name; term = t; stands = made.is } ∷ []; nodes = made.nodes }

abbrev pub with_assertion : Context → Sexpr → List NodeValue → ℕ → Context
with_assertion c t nodes root = record c { assertions = c.assertions ++ t ∷ []; nodes = nodes; roots = c.roots ++ root ∷ [] }

-- the name is neither reserved nor in use
pub record IsFree (c : Context) (name : List ℕ) : Type 0 where
  pub reserved : is_reserved name ≡ false
  pub known : is_known (scope_of c) name ≡ false

-- contexts that names, definitions and assertions lead to, one after the other
pub data IsContext : Context → Type 0 where
  start : IsContext start_context
  declares : (c : Context) (name : List ℕ) (sort : Sort) → IsContext c → IsFree c name → length c.declared < names_limit → IsContext (with_declaration c name sort)
  defines : (c : Context) (name : List ℕ) (t : Sexpr) (made : Made) → IsContext c → IsFree c name → lowered (scope_of c) c.nodes t ≡ Ok made → IsContext (with_definition c name t made)
  asserts : (c : Context) (t : Sexpr) (nodes : List NodeValue) (root : ℕ) → IsContext c → lowered (scope_of c) c.nodes t ≡ Ok (record { nodes = nodes; is = formula root }) → IsContext (with_assertion c t nodes root)
  -- an assertion with a name
  names : (c : Context) (name : List ℕ) (t : Sexpr) (nodes : List NodeValue) (root : ℕ) → IsContext c → IsFree c name → lowered (scope_of c) c.nodes t ≡ Ok (record { nodes = nodes; is = formula root })
      → IsContext (with_definition (with_assertion c t nodes root) name t (record { nodes = nodes; is = formula root }))
