-- Names and what they stand for while a term is read (SMT-LIB 2.6, section 4.2.3 and section 3.6.1).
use Rattle.std.specs.Prelude.{ℕ, ◌+◌, List, [], ◌∷◌, map, Bool, true, false, if◌then◌else◌}
use Rattle.std.specs.Str.{bytes_eq}
use Rattle.idl_linear.specs.Linear.{LinearValue}
use Rattle.idl_node.specs.declared.sort.Sort.{Sort}
use Rattle.idl_cases.specs.Guarded.{CaseValue, plain}
use Rattle.idl_scope.specs.declared.lowered.Lowered.{Lowered}
use Rattle.idl_scope.specs.declared.lowered.Lowered.TheVariants.{Truth, Number}

-- what a term is made into: a Bool term a node of the table, an Int term its cases
pub data LoweredTerm : Type 0 where
  formula : (node : ℕ) → LoweredTerm
  numeric : (cases : List CaseValue) → LoweredTerm

-- an Int term without conditions
abbrev pub linear_term : LinearValue → LoweredTerm
linear_term l = numeric (plain l)

-- the code's lowered terms
abbrev pub shown_term : Lowered → LoweredTerm
shown_term (Truth node) = formula node
shown_term (Number cases) = numeric cases

abbrev pub shown_terms : List Lowered → List LoweredTerm
shown_terms terms = map shown_term terms

pub record Declaration : Type 0 where
  pub name : List ℕ
  pub sort : Sort

-- a name that stands for a term
pub record Binding : Type 0 where
  pub name : List ℕ
  pub stands : LoweredTerm

pub record Scope : Type 0 where
  -- in order of declaration; the time point of the first is 1
  pub declared : List Declaration
  -- the variables of the `let`s around, the innermost first, and then the defined names
  pub bound : List Binding

-- what a name is
pub data Found : Type 0 where
  -- a declared one, by its place, from 0
  declared_at : (place : ℕ) (sort : Sort) → Found
  stands_for : (term : LoweredTerm) → Found
  unknown : Found

abbrev pub found_declared : List ℕ → ℕ → List Declaration → Found
found_declared name place [] = unknown
found_declared name place (d ∷ rest) = if bytes_eq name d.name then declared_at place d.sort else found_declared name (place + 1) rest

-- the first binding of the name counts, and else its declaration
abbrev pub found_bound : List ℕ → List Binding → List Declaration → Found
found_bound name [] declared = found_declared name 0 declared
found_bound name (b ∷ rest) declared = if bytes_eq name b.name then stands_for b.stands else found_bound name rest declared

abbrev pub found : Scope → List ℕ → Found
found scope name = found_bound name scope.bound scope.declared

abbrev pub is_found : Found → Bool
is_found unknown = false
is_found _ = true

-- the name stands for something
abbrev pub is_known : Scope → List ℕ → Bool
is_known scope name = is_found (found scope name)

abbrev pub sorts_of : List Declaration → List Sort
sorts_of declared = map (λ (d : Declaration). d.sort) declared

-- each variable stands for its term
abbrev pub bindings_of : List (List ℕ) → List LoweredTerm → List Binding
bindings_of (name ∷ names) (t ∷ terms) = record { name = name; stands = t } ∷ bindings_of names terms
bindings_of _ _ = []
