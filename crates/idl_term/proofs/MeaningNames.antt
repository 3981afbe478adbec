-- What names stand for: in a longer table, and with the variables of a `let`.
use Rattle.std.proofs.Common.{refl, ap, sym, subst, arith, ◌∙◌, ◌≡◌, ◌≤◌, ◌+◌, ℕ, zero, suc, List, [], ◌∷◌, ◌++◌, length, map, get_or, Bool, true, false, cond, Some, ℤ, pos, ◌-ℤ◌}
use Rattle.std.specs.Prelude.{int_le, slice_get}
use Rattle.std.specs.List.{AllByRecursion}
use Rattle.std.specs.Str.{bytes_eq}
use Rattle.stn_core.specs.declared.named.NamedValue.{NamedValue}
use Rattle.stn_core.specs.declared.named.NamedValue.TheVariants as named
use Rattle.idl_node.specs.declared.sort.Sort.{Sort}
use Rattle.idl_node.specs.declared.sort.Sort.TheVariants as sort
use Rattle.idl_node.specs.Limits.{nodes_limit}
use Rattle.idl_node.specs.Nodes.{NodeValue}
use Rattle.idl_node.specs.Sorts.{IsAtomFor, IsOfSort, AreOfSorts}
use Rattle.idl_node.specs.Tables.{IsTableOf}
use Rattle.idl_node.specs.Truth.{point_value, point_values}
use Rattle.idl_node.specs.Truth as node
use Rattle.idl_node.proofs.Growing.{there_longer, IsLonger}
use Rattle.idl_node.proofs.Truths.{truth-longer}
use Rattle.idl_term.specs.Contexts.{value_of_named}
use Rattle.idl_term.specs.Lowered.{with_bound}
use Rattle.idl_value.specs.CaseValues.{IsTermIn}
use Rattle.idl_term.specs.Meanings.{lowered_value, IsScopeOver, found_value, Agrees}
use Rattle.idl_scope.specs.Scopes.{LoweredTerm, formula, numeric, Declaration, Binding, Scope, Found, declared_at, stands_for, unknown, found_declared, found_bound, found, sorts_of, bindings_of}
use Rattle.idl_term.specs.Values.{Value, whole, truth, Named, looked_up}
use Rattle.idl_term.proofs.MeaningCases.{cases_later, cases_value-later}

-- ---- schedules

-- Each name's value is of its sort. A schedule may go on behind the names.
abbrev pub FitsSorts : List Sort → List NamedValue → Type 0
FitsSorts sorts schedule = (place : ℕ) (s : Sort) → slice_get sorts place ≡ Some s → IsOfSort s (get_or schedule place (named.Int (pos 0)))

pub fits_sorts : (sorts : List Sort) (schedule : List NamedValue) → AreOfSorts sorts schedule → FitsSorts sorts schedule
fits_sorts [] schedule h place s e = absurd cc
fits_sorts (s ∷ sorts) [] h place t e = absurd h
fits_sorts (s ∷ sorts) (v ∷ schedule) h zero t e =
    let same : s ≡ t = cc in
    subst (λ (u : Sort). IsOfSort u v) same h.0
fits_sorts (s ∷ sorts) (v ∷ schedule) h (suc place) t e = fits_sorts sorts schedule h.1 place t e

pub point_of : (schedule : List NamedValue) (place : ℕ) → point_value (get_or schedule place (named.Int (pos 0))) ≡ get_or (map point_value schedule) place (pos 0)
point_of [] place = refl
point_of (v ∷ schedule) zero = refl
point_of (v ∷ schedule) (suc place) = point_of schedule place

whole_of : (v : NamedValue) → IsOfSort sort.Int v → value_of_named v ≡ whole (point_value v)
whole_of (named.Int n) h = refl
whole_of (named.Truth b) h = absurd h

truth_of_point : (v : NamedValue) → IsOfSort sort.Bool v → value_of_named v ≡ truth (int_le (point_value v -ℤ pos 0) (pos 0))
truth_of_point (named.Int n) h = absurd h
truth_of_point (named.Truth true) h = refl
truth_of_point (named.Truth false) h = refl

module _ (sorts : List Sort) (schedule : List NamedValue) (fits : FitsSorts sorts schedule) (place : ℕ) where
  -- a declared Int name's value is its time point's
  pub int_value : slice_get sorts place ≡ Some sort.Int → value_of_named (get_or schedule place (named.Int (pos 0))) ≡ whole (get_or (map point_value schedule) place (pos 0))
  int_value e = whole_of (get_or schedule place (named.Int (pos 0))) (fits place sort.Int e) ∙ ap whole (point_of schedule place)

  -- a declared Bool name p is true exactly where the atom (p 0 0) is
  pub bool_value : slice_get sorts place ≡ Some sort.Bool → value_of_named (get_or schedule place (named.Int (pos 0))) ≡ truth (int_le (get_or (map point_value schedule) place (pos 0) -ℤ pos 0) (pos 0))
  bool_value e = truth_of_point (get_or schedule place (named.Int (pos 0))) (fits place sort.Bool e) ∙ ap (λ (z : ℤ). truth (int_le (z -ℤ pos 0) (pos 0))) (point_of schedule place)

-- ---- what is found

-- a declared name has its sort, and a term is in the table
abbrev pub IsFoundIn : List Sort → List NodeValue → Found → Type 0
IsFoundIn sorts nodes (declared_at place s) = slice_get sorts place ≡ Some s
IsFoundIn sorts nodes (stands_for t) = IsTermIn sorts nodes t
IsFoundIn sorts nodes unknown = Unit {0}

module _ (sorts : List Sort) (nodes : List NodeValue) (name : List ℕ) where
  choose : (b : Bool) (f g : Found) → IsFoundIn sorts nodes f → IsFoundIn sorts nodes g → IsFoundIn sorts nodes (cond b f g)
  choose true f g h i = h
  choose false f g h i = i

  declared_in : (place : ℕ) (ds : List Declaration) → ((k : ℕ) → slice_get (sorts_of ds) k ≡ slice_get sorts (place + k)) → IsFoundIn sorts nodes (found_declared name place ds)
  declared_in place [] h = tt
  declared_in place (d ∷ ds) h =
      choose (bytes_eq name d.name) (declared_at place d.sort) (found_declared name (place + 1) ds)
      (ap (slice_get sorts) (omega arith) ∙ sym (h 0))
      (declared_in (place + 1) ds (λ k. h (suc k) ∙ ap (slice_get sorts) (omega arith)))

  bound_in : (bs : List Binding) (ds : List Declaration) → AllByRecursion (λ (b : Binding). IsTermIn sorts nodes b.stands) bs → IsFoundIn sorts nodes (found_declared name 0 ds) → IsFoundIn sorts nodes (found_bound name bs ds)
  bound_in [] ds h i = i
  bound_in (b ∷ bs) ds h i = choose (bytes_eq name b.name) (stands_for b.stands) (found_bound name bs ds) h.0 (bound_in bs ds h.1 i)

pub found_in : (scope : Scope) (nodes : List NodeValue) → IsScopeOver scope nodes → (name : List ℕ) → IsFoundIn (sorts_of scope.declared) nodes (found scope name)
found_in scope nodes over name =
    bound_in (sorts_of scope.declared) nodes name scope.bound scope.declared over.terms
    (declared_in (sorts_of scope.declared) nodes name 0 scope.declared (λ k. ap (slice_get (sorts_of scope.declared)) (omega arith)))

-- ---- a longer table

-- the table is longer, and one of atoms over the declared names
pub record IsGrown (sorts : List Sort) (nodes later : List NodeValue) : Type 0 where
  pub added : List NodeValue
  pub grows : later ≡ nodes ++ added
  pub room : length later ≤ nodes_limit
  pub table : IsTableOf (IsAtomFor sorts) later

module _ (sorts : List Sort) (nodes later : List NodeValue) (grown : IsGrown sorts nodes later) where
  longer : IsLonger nodes later
  longer = record { added = grown.added; grows = grown.grows }

  module _ (table : IsTableOf (IsAtomFor sorts) nodes) where
    pub term_later : (t : LoweredTerm) → IsTermIn sorts nodes t → IsTermIn sorts later t
    term_later (formula k) h = omega (arith, there_longer nodes grown.added k h, ap length grown.grows)
    term_later (numeric cases) h = cases_later sorts nodes later longer table cases h

    pub terms_later : (ts : List LoweredTerm) → AllByRecursion (IsTermIn sorts nodes) ts → AllByRecursion (IsTermIn sorts later) ts
    terms_later [] h = tt
    terms_later (t ∷ ts) h = (term_later t h.0, terms_later ts h.1)

    pub bindings_later : (bs : List Binding) → AllByRecursion (λ (b : Binding). IsTermIn sorts nodes b.stands) bs → AllByRecursion (λ (b : Binding). IsTermIn sorts later b.stands) bs
    bindings_later [] h = tt
    bindings_later (b ∷ bs) h = (term_later b.stands h.0, bindings_later bs h.1)

  module _ (table : IsTableOf (IsAtomFor sorts) nodes) (schedule : List NamedValue) where
    -- a term is worth as much
    pub value_later : (t : LoweredTerm) → IsTermIn sorts nodes t → lowered_value later schedule t ≡ lowered_value nodes schedule t
    value_later (formula k) h =
        ap (λ (ns : List NodeValue). truth (node.truth ns (point_values schedule) k)) grown.grows
        ∙ ap truth (truth-longer (IsAtomFor sorts) nodes (point_values schedule) table grown.added k h)
    value_later (numeric cases) h = ap whole (cases_value-later sorts nodes later longer table (point_values schedule) cases h.each)

    pub found_later : (f : Found) (v : Value) → IsFoundIn sorts nodes f → found_value nodes schedule f v → found_value later schedule f v
    found_later (declared_at place s) v h i = i
    found_later (stands_for t) v h i = i ∙ sym (value_later t h)
    found_later unknown v h i = tt

    pub found_before : (f : Found) (v : Value) → IsFoundIn sorts nodes f → found_value later schedule f v → found_value nodes schedule f v
    found_before (declared_at place s) v h i = i
    found_before (stands_for t) v h i = i ∙ value_later t h
    found_before unknown v h i = tt

module _ (scope : Scope) (nodes later : List NodeValue) (over : IsScopeOver scope nodes) (grown : IsGrown (sorts_of scope.declared) nodes later) where
  pub scope_later : IsScopeOver scope later
  scope_later = record {
    few = over.few;
    terms = bindings_later (sorts_of scope.declared) nodes later grown over.table scope.bound over.terms;
    table = grown.table;
    room = grown.room;
  }

  pub agrees_later : (schedule : List NamedValue) (env : List Named) → Agrees scope nodes schedule env → Agrees scope later schedule env
  agrees_later schedule env h name = found_later (sorts_of scope.declared) nodes later grown over.table schedule (found scope name) (looked_up name env) (found_in scope nodes over name) (h name)

  pub agrees_before : (schedule : List NamedValue) (env : List Named) → Agrees scope later schedule env → Agrees scope nodes schedule env
  agrees_before schedule env h name = found_before (sorts_of scope.declared) nodes later grown over.table schedule (found scope name) (looked_up name env) (found_in scope nodes over name) (h name)

-- ---- the variables of a `let`

bindings_in : (sorts : List Sort) (nodes : List NodeValue) (names : List (List ℕ)) (ts : List LoweredTerm) (bs : List Binding) → AllByRecursion (IsTermIn sorts nodes) ts
    → AllByRecursion (λ (b : Binding). IsTermIn sorts nodes b.stands) bs → AllByRecursion (λ (b : Binding). IsTermIn sorts nodes b.stands) (bindings_of names ts ++ bs)
bindings_in sorts nodes [] ts bs h i = i
bindings_in sorts nodes (name ∷ names) [] bs h i = i
bindings_in sorts nodes (name ∷ names) (t ∷ ts) bs h i = (h.0, bindings_in sorts nodes names ts bs h.1 i)

pub scope_bound : (scope : Scope) (nodes : List NodeValue) (names : List (List ℕ)) (ts : List LoweredTerm) → IsScopeOver scope nodes → AllByRecursion (IsTermIn (sorts_of scope.declared) nodes) ts → IsScopeOver (with_bound scope names ts) nodes
scope_bound scope nodes names ts over h = record {
  few = over.few;
  terms = bindings_in (sorts_of scope.declared) nodes names ts scope.bound h over.terms;
  table = over.table;
  room = over.room;
}

abbrev pub name_of : Named → List ℕ
name_of n = n.name

abbrev pub value_of : Named → Value
value_of n = n.value

module _ (nodes : List NodeValue) (schedule : List NamedValue) (declared : List Declaration) (bs : List Binding) (env : List Named) (name : List ℕ) where
  choose_value : (b : Bool) (f g : Found) (v w : Value) → found_value nodes schedule f v → found_value nodes schedule g w → found_value nodes schedule (cond b f g) (cond b v w)
  choose_value true f g v w h i = h
  choose_value false f g v w h i = i

  variables_agree : (ns : List Named) (ts : List LoweredTerm) → map value_of ns ≡ map (lowered_value nodes schedule) ts → found_value nodes schedule (found_bound name bs declared) (looked_up name env)
      → found_value nodes schedule (found_bound name (bindings_of (map name_of ns) ts ++ bs) declared) (looked_up name (ns ++ env))
  variables_agree [] ts e h = h
  variables_agree (n ∷ ns) [] e h = absurd cc
  variables_agree (n ∷ ns) (t ∷ ts) e h =
      let first : n.value ≡ lowered_value nodes schedule t = cc in
      let others : map value_of ns ≡ map (lowered_value nodes schedule) ts = cc in
      choose_value (bytes_eq name n.name) (stands_for t) (found_bound name (bindings_of (map name_of ns) ts ++ bs) declared) n.value (looked_up name (ns ++ env)) first (variables_agree ns ts others h)

pub agrees_bound : (scope : Scope) (nodes : List NodeValue) (schedule : List NamedValue) (env ns : List Named) (names : List (List ℕ)) (ts : List LoweredTerm) → map name_of ns ≡ names → map value_of ns ≡ map (lowered_value nodes schedule) ts
    → Agrees scope nodes schedule env → Agrees (with_bound scope names ts) nodes schedule (ns ++ env)
agrees_bound scope nodes schedule env ns names ts e f h =
    subst (λ (all : List (List ℕ)). Agrees (with_bound scope all ts) nodes schedule (ns ++ env)) e
    (λ name. variables_agree nodes schedule scope.declared scope.bound env name ns ts f (h name))
