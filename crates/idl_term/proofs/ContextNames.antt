-- What names are found to be where one more is declared or defined.
use Rattle.std.proofs.Common.{refl, ap, sym, subst, arith, inl, inr, ◌∙◌, ◌≡◌, ◌<◌, ◌+◌, ◌⊎◌, ℕ, zero, suc, List, [], ◌∷◌, ◌++◌, length, get_or, Bool, true, false, cond, Some, pos}
use Rattle.std.specs.Prelude.{slice_get}
use Rattle.std.specs.List.{AllByRecursion}
use Rattle.std.specs.Str.{bytes_eq}
use Rattle.std.proofs.lemmas.Slice.Eq.{bytes_eq-Decides}
use Rattle.stn_core.specs.declared.literal.Literal.{Literal}
use Rattle.stn_core.specs.declared.named.NamedValue.{NamedValue}
use Rattle.stn_core.specs.declared.named.NamedValue.TheVariants as named
use Rattle.idl_node.specs.declared.sort.Sort.{Sort}
use Rattle.idl_node.specs.Nodes.{NodeValue}
use Rattle.idl_node.proofs.Keeping.{table_of-better}
use Rattle.idl_node.specs.Sorts.{IsIntPoint, IsBoolPoint, IsAtomFor, AreOfSorts}
use Rattle.idl_term.specs.Contexts.{value_of_named, declared_values}
use Rattle.idl_scope.specs.Limits.{names_limit}
use Rattle.idl_cases.specs.Guarded.{CaseValue}
use Rattle.idl_value.specs.CaseValues.{IsCaseIn, IsTermIn}
use Rattle.idl_term.specs.Meanings.{lowered_value, IsScopeOver, found_value, Agrees}
use Rattle.idl_scope.specs.Scopes.{LoweredTerm, formula, numeric, Declaration, Binding, Scope, Found, declared_at, stands_for, unknown, found_declared, found_bound, is_found, sorts_of}
use Rattle.idl_term.specs.Values.{Value, Named, looked_up}
use Rattle.idl_term.proofs.BelowLinear.{points_weaker}
use Rattle.idl_term.proofs.MeaningNames.{FitsSorts}

abbrev pub scope_with : List Declaration → List Binding → Scope
scope_with declared bs = record { declared = declared; bound = bs }

-- ---- one more declaration

module _ (d : Declaration) where
  abbrev pub with_one : List Declaration → List Declaration
  with_one declared = declared ++ d ∷ []

  sort_later : (declared : List Declaration) (p : ℕ) (s : Sort) → slice_get (sorts_of declared) p ≡ Some s → slice_get (sorts_of (with_one declared)) p ≡ Some s
  sort_later [] p s e = absurd cc
  sort_later (e ∷ declared) zero s h = h
  sort_later (e ∷ declared) (suc p) s h = sort_later declared p s h

  sorts_length : (declared : List Declaration) → length (sorts_of (with_one declared)) ≡ suc (length (sorts_of declared))
  sorts_length [] = refl
  sorts_length (e ∷ declared) = ap suc (sorts_length declared)

  pub declared_length : (declared : List Declaration) → length (with_one declared) ≡ suc (length declared)
  declared_length [] = refl
  declared_length (e ∷ declared) = ap suc (declared_length declared)

  module _ (declared : List Declaration) where
    abbrev sorts : List Sort
    sorts = sorts_of declared

    abbrev more_sorts : List Sort
    more_sorts = sorts_of (with_one declared)

    int_point_later : (p : ℕ) → IsIntPoint sorts p → IsIntPoint more_sorts p
    int_point_later zero h = tt
    int_point_later (suc p) h = sort_later declared p _ h

    bool_point_later : (p : ℕ) → IsBoolPoint sorts p → IsBoolPoint more_sorts p
    bool_point_later zero h = h
    bool_point_later (suc p) h = sort_later declared p _ h

    atom_declared : (l : Literal) → IsAtomFor sorts l → IsAtomFor more_sorts l
    atom_declared l h =
        let more = sorts_length declared in
        let x_in = h.over.x_in in
        let y_in = h.over.y_in in
        record {
          over = record { x_in = omega (arith, x_in, more); y_in = omega (arith, y_in, more); low = h.over.low; high = h.over.high };
          kind = elim h.kind [
            | inl int ↦ inl (record { x = int_point_later l.x int.x; y = int_point_later l.y int.y })
            | inr bool ↦ elim bool [
              | inl truth_atom ↦ inr (inl (record { x = bool_point_later l.x truth_atom.x; y = truth_atom.y; c = truth_atom.c }))
              | inr false_atom ↦ inr (inr (record { x = false_atom.x; y = bool_point_later l.y false_atom.y; c = false_atom.c }))
            ]
          ];
        }

    case_declared : (nodes : List NodeValue) (cases : List CaseValue) → AllByRecursion (IsCaseIn sorts nodes) cases → AllByRecursion (IsCaseIn more_sorts nodes) cases
    case_declared nodes [] h = tt
    case_declared nodes (case ∷ cases) h =
        (record { guards = h.0.guards; linear = record { linear = h.0.linear.linear; points = points_weaker (IsIntPoint sorts) (IsIntPoint more_sorts) int_point_later case.linear.summands h.0.linear.points } }, case_declared nodes cases h.1)

    pub term_declared : (nodes : List NodeValue) (t : LoweredTerm) → IsTermIn sorts nodes t → IsTermIn more_sorts nodes t
    term_declared nodes (formula k) h = h
    term_declared nodes (numeric cases) h = record { each = case_declared nodes cases h.each; one = h.one }

    terms_declared : (nodes : List NodeValue) (bs : List Binding) → AllByRecursion (λ (b : Binding). IsTermIn sorts nodes b.stands) bs → AllByRecursion (λ (b : Binding). IsTermIn more_sorts nodes b.stands) bs
    terms_declared nodes [] h = tt
    terms_declared nodes (b ∷ bs) h = (term_declared nodes b.stands h.0, terms_declared nodes bs h.1)

    pub scope_declared : (nodes : List NodeValue) (bs : List Binding) → IsScopeOver (scope_with declared bs) nodes → length declared < names_limit → IsScopeOver (scope_with (with_one declared) bs) nodes
    scope_declared nodes bs over room =
        let more = declared_length declared in
        record {
          few = omega (arith, room, more);
          terms = terms_declared nodes bs over.terms;
          table = table_of-better (IsAtomFor sorts) (IsAtomFor more_sorts) atom_declared nodes over.table;
          room = over.room;
        }

    pub fits_before : (schedule : List NamedValue) → FitsSorts more_sorts schedule → FitsSorts sorts schedule
    fits_before schedule fits place s e = fits place s (sort_later declared place s e)

  -- what is found is found still

  abbrev IsKept : Found → Found → Type 0
  IsKept f g = (f ≡ unknown) ⊎ (g ≡ f)

  kept_by : (b : Bool) (first f g : Found) → IsKept f g → IsKept (cond b first f) (cond b first g)
  kept_by true first f g h = inr refl
  kept_by false first f g h = h

  module _ (name : List ℕ) where
    declared_kept : (place : ℕ) (declared : List Declaration) → IsKept (found_declared name place declared) (found_declared name place (with_one declared))
    declared_kept place [] = inl refl
    declared_kept place (e ∷ declared) =
        kept_by (bytes_eq name e.name) (declared_at place e.sort) (found_declared name (place + 1) declared) (found_declared name (place + 1) (with_one declared)) (declared_kept (place + 1) declared)

    bound_kept : (bs : List Binding) (declared : List Declaration) → IsKept (found_bound name bs declared) (found_bound name bs (with_one declared))
    bound_kept [] declared = declared_kept 0 declared
    bound_kept (b ∷ bs) declared = kept_by (bytes_eq name b.name) (stands_for b.stands) (found_bound name bs declared) (found_bound name bs (with_one declared)) (bound_kept bs declared)

    -- another name than the new one is as unknown as before
    unknown_by : (b : Bool) (first f g : Found) → (f ≡ unknown → g ≡ unknown) → cond b first f ≡ unknown → cond b first g ≡ unknown
    unknown_by true first f g h e = e
    unknown_by false first f g h e = h e

    declared_unknown : (place : ℕ) (declared : List Declaration) → bytes_eq name d.name ≡ false → found_declared name place declared ≡ unknown → found_declared name place (with_one declared) ≡ unknown
    declared_unknown place [] other e = ap (λ (b : Bool). cond b (declared_at place d.sort) unknown) other
    declared_unknown place (e ∷ declared) other h =
        unknown_by (bytes_eq name e.name) (declared_at place e.sort) (found_declared name (place + 1) declared) (found_declared name (place + 1) (with_one declared)) (declared_unknown (place + 1) declared other) h

    pub bound_unknown : (bs : List Binding) (declared : List Declaration) → bytes_eq name d.name ≡ false → found_bound name bs declared ≡ unknown → found_bound name bs (with_one declared) ≡ unknown
    bound_unknown [] declared other h = declared_unknown 0 declared other h
    bound_unknown (b ∷ bs) declared other h = unknown_by (bytes_eq name b.name) (stands_for b.stands) (found_bound name bs declared) (found_bound name bs (with_one declared)) (bound_unknown bs declared other) h

  module _ (nodes : List NodeValue) (schedule : List NamedValue) where
    kept_value : (f g : Found) (v : Value) → IsKept f g → found_value nodes schedule g v → found_value nodes schedule f v
    kept_value f g v (inl e) h = subst (λ (x : Found). found_value nodes schedule x v) (sym e) tt
    kept_value f g v (inr e) h = subst (λ (x : Found). found_value nodes schedule x v) e h

    -- what agrees with the names agrees without the new one
    pub agrees_undeclared : (declared : List Declaration) (bs : List Binding) (env : List Named) → Agrees (scope_with (with_one declared) bs) nodes schedule env → Agrees (scope_with declared bs) nodes schedule env
    agrees_undeclared declared bs env h name =
        kept_value (found_bound name bs declared) (found_bound name bs (with_one declared)) (looked_up name env) (bound_kept name bs declared) (h name)

-- ---- one more definition

pub same_name : (a b : List ℕ) → bytes_eq a b ≡ true → a ≡ b
same_name a b e = (bytes_eq-Decides a b).0 e

pub unknown_is : (f : Found) → is_found f ≡ false → f ≡ unknown
unknown_is (declared_at place s) e = absurd cc
unknown_is (stands_for t) e = absurd cc
unknown_is unknown e = refl

module _ (declared : List Declaration) (b : Binding) where
  cond_same : (c : Bool) (first f g : Found) → f ≡ g → cond c first f ≡ cond c first g
  cond_same true first f g e = refl
  cond_same false first f g e = e

  -- another name is found as before
  pub pushed_other : (name : List ℕ) (bs : List Binding) → bytes_eq name b.name ≡ false → found_bound name (bs ++ b ∷ []) declared ≡ found_bound name bs declared
  pushed_other name [] e = ap (λ (c : Bool). cond c (stands_for b.stands) (found_declared name 0 declared)) e
  pushed_other name (a ∷ bs) e = cond_same (bytes_eq name a.name) (stands_for a.stands) (found_bound name (bs ++ b ∷ []) declared) (found_bound name bs declared) (pushed_other name bs e)

  pushed_by : (c : Bool) (t : LoweredTerm) (f g : Found) → (f ≡ unknown → g ≡ stands_for b.stands) → cond c (stands_for t) f ≡ unknown → cond c (stands_for t) g ≡ stands_for b.stands
  pushed_by true t f g h e = absurd cc
  pushed_by false t f g h e = h e

  -- a name that stood for nothing stands for its term
  pub pushed_same : (name : List ℕ) (bs : List Binding) → bytes_eq name b.name ≡ true → found_bound name bs declared ≡ unknown → found_bound name (bs ++ b ∷ []) declared ≡ stands_for b.stands
  pushed_same name [] e h = ap (λ (c : Bool). cond c (stands_for b.stands) (found_declared name 0 declared)) e
  pushed_same name (a ∷ bs) e h = pushed_by (bytes_eq name a.name) a.stands (found_bound name bs declared) (found_bound name (bs ++ b ∷ []) declared) (pushed_same name bs e) h

  -- a name that is unknown is none of the bound ones
  none_by : (c : Bool) (t : LoweredTerm) (f : Found) → cond c (stands_for t) f ≡ unknown → (c ≡ false) × (f ≡ unknown)
  none_by true t f e = absurd cc
  none_by false t f e = (refl, e)

  pub not_bound : (name : List ℕ) (bs rest : List Binding) → found_bound name (bs ++ b ∷ rest) declared ≡ unknown → bytes_eq name b.name ≡ false
  not_bound name [] rest e = (none_by (bytes_eq name b.name) b.stands (found_bound name rest declared) e).0
  not_bound name (a ∷ bs) rest e = not_bound name bs rest (none_by (bytes_eq name a.name) a.stands (found_bound name (bs ++ b ∷ rest) declared) e).1

  module _ (nodes : List NodeValue) (schedule : List NamedValue) (bs : List Binding) (fresh : found_bound b.name bs declared ≡ unknown) where
    undefined_by : (name : List ℕ) (v : Value) (c : Bool) → bytes_eq name b.name ≡ c → found_value nodes schedule (found_bound name (bs ++ b ∷ []) declared) v → found_value nodes schedule (found_bound name bs declared) v
    undefined_by name v true e h =
        let none : found_bound name bs declared ≡ unknown = ap (λ (n : List ℕ). found_bound n bs declared) (same_name name b.name e) ∙ fresh in
        subst (λ (f : Found). found_value nodes schedule f v) (sym none) tt
    undefined_by name v false e h = subst (λ (f : Found). found_value nodes schedule f v) (pushed_other name bs e) h

    -- what agrees with the names agrees without the new one
    pub agrees_undefined : (env : List Named) → Agrees (scope_with declared (bs ++ b ∷ [])) nodes schedule env → Agrees (scope_with declared bs) nodes schedule env
    agrees_undefined env h name = undefined_by name (looked_up name env) (bytes_eq name b.name) refl (h name)

    defined_by : (name : List ℕ) (env : List Named) (v : Value) (c : Bool) → bytes_eq name b.name ≡ c → v ≡ lowered_value nodes schedule b.stands → found_value nodes schedule (found_bound name bs declared) (looked_up name env)
        → found_value nodes schedule (found_bound name (bs ++ b ∷ []) declared) (cond c v (looked_up name env))
    defined_by name env v true e same h =
        let none : found_bound name bs declared ≡ unknown = ap (λ (n : List ℕ). found_bound n bs declared) (same_name name b.name e) ∙ fresh in
        subst (λ (f : Found). found_value nodes schedule f v) (sym (pushed_same name bs e none)) same
    defined_by name env v false e same h = subst (λ (f : Found). found_value nodes schedule f (looked_up name env)) (sym (pushed_other name bs e)) h

    -- and with it, where it stands for its term's value
    pub agrees_defined : (env : List Named) (v : Value) → v ≡ lowered_value nodes schedule b.stands → Agrees (scope_with declared bs) nodes schedule env
        → Agrees (scope_with declared (bs ++ b ∷ [])) nodes schedule (record { name = b.name; value = v } ∷ env)
    agrees_defined env v same h name = defined_by name env v (bytes_eq name b.name) refl same (h name)

-- ---- the declared names' values

module _ (nodes : List NodeValue) (schedule : List NamedValue) (name : List ℕ) where
  choose_value : (b : Bool) (f g : Found) (v w : Value) → found_value nodes schedule f v → found_value nodes schedule g w → found_value nodes schedule (cond b f g) (cond b v w)
  choose_value true f g v w h i = h
  choose_value false f g v w h i = i

  values_from : (place : ℕ) (declared : List Declaration) (rest : List NamedValue) → AreOfSorts (sorts_of declared) rest
      → ((k : ℕ) → get_or rest k (named.Int (pos 0)) ≡ get_or schedule (place + k) (named.Int (pos 0))) → found_value nodes schedule (found_declared name place declared) (looked_up name (declared_values declared rest))
  values_from place [] rest h same = tt
  values_from place (d ∷ declared) [] h same = absurd h
  values_from place (d ∷ declared) (v ∷ rest) h same =
      choose_value (bytes_eq name d.name) (declared_at place d.sort) (found_declared name (place + 1) declared) (value_of_named v) (looked_up name (declared_values declared rest))
      (ap value_of_named (same 0 ∙ ap (λ (k : ℕ). get_or schedule k (named.Int (pos 0))) (omega arith)))
      (values_from (place + 1) declared rest h.1 (λ k. same (suc k) ∙ ap (λ (j : ℕ). get_or schedule j (named.Int (pos 0))) (omega arith)))

pub agrees_declared : (declared : List Declaration) (nodes : List NodeValue) (schedule : List NamedValue) → AreOfSorts (sorts_of declared) schedule → Agrees (scope_with declared []) nodes schedule (declared_values declared schedule)
agrees_declared declared nodes schedule h name =
    values_from nodes schedule name 0 declared schedule h (λ k. ap (λ (j : ℕ). get_or schedule j (named.Int (pos 0))) (omega arith))
