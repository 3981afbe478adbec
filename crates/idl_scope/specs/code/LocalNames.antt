-- How the code keeps variables of `let`s. These are words of the code, and no part of the meaning.
use Rattle.std.specs.Prelude.{◌≡◌, ℕ, List, [], ◌∷◌, ◌++◌, drop, reverse, map, length, Bool, if◌then◌else◌, Option, Some, None}
use denote.Ref.{Bor}
use Rattle.std.specs.Str.{bytes_eq}
use Rattle.indexmap.specs.IndexMap.{IndexMap, get}
use Rattle.idl_scope.specs.Scopes.{Scope, Binding, shown_term}
use Rattle.idl_scope.specs.declared.locals.Variable.{Variable}

-- a scope, and the variables of the `let`s inside which a term is read, the innermost first
pub record Inner : Type 0 where
  pub outer : Scope
  pub variables : List Binding

abbrev pub scope_in : Inner → Scope
scope_in i = record { declared = i.outer.declared; bound = i.variables ++ i.outer.bound }

-- the innermost variables go out of scope
abbrev pub without : ℕ → Inner → Inner
without count i = record i { variables = drop count i.variables }

abbrev pub binding_in : Variable → Binding
binding_in v = record { name = v.name.now; stands = shown_term v.term }

-- the innermost first
abbrev pub bindings_in : List Variable → List Binding
bindings_in variables = map binding_in (reverse variables)

-- the place of the innermost variable of this name, where the innermost is the first of the list
abbrev pub place_in : List ℕ → List Variable → Option ℕ
place_in name [] = None
place_in name (v ∷ variables) = if bytes_eq name v.name.now then Some (length variables) else place_in name variables

-- each variable has the place of the one that it hides
abbrev pub AreHidden : List Variable → Type 0
AreHidden [] = Unit {0}
AreHidden (v ∷ variables) = (v.hidden ≡ place_in v.name.now variables) × AreHidden variables

abbrev pub same_name : Bor (List ℕ) → Bor (List ℕ) → Bool
same_name a b = bytes_eq a.now b.now

-- the map gives the place of each name's innermost variable
pub record KeepsNames {S : Type 0} (latest : IndexMap (Bor (List ℕ)) ℕ S) (variables : List Variable) : Type 0 where
  pub places : (name : Bor (List ℕ)) → get same_name latest name ≡ place_in name.now (reverse variables)
  pub hides : AreHidden (reverse variables)
