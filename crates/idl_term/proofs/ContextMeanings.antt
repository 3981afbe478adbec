-- What holds in each context that declarations, definitions and assertions lead to.
use Rattle.std.proofs.Common.{ap, sym, subst, arith, ◌∙◌, ◌≡◌, ◌<◌, ℕ, List, [], ◌∷◌, ◌++◌, length, map, false, append-nil, append_assoc}
use Rattle.std.specs.Prelude.{Ok}
use Rattle.std.specs.List.{AllByRecursion}
use Rattle.std.specs.Str.{bytes_eq}
use Rattle.std.proofs.lemmas.Bool.{both_ways, false_from_ne_true}
use Rattle.std.proofs.lemmas.List.{map-append}
use Rattle.std.proofs.lemmas.Slice.Eq.{bytes_eq-Decides}
use Rattle.smt_sexpr.specs.Tree.{Sexpr}
use Rattle.stn_core.specs.declared.named.NamedValue.{NamedValue}
use Rattle.idl_node.specs.declared.sort.Sort.{Sort}
use Rattle.idl_node.specs.Nodes.{NodeValue}
use Rattle.idl_apply.specs.Applied.{Made}
use Rattle.idl_term.specs.Contexts.{Definition, Context, start_context, binding_of, scope_of, declared_values, defined_values, environment, IsScheduleFor, with_declaration, with_definition, with_assertion, IsFree, IsContext, start, declares, defines, asserts, names}
use Rattle.idl_scope.specs.Limits.{names_limit}
use Rattle.idl_term.specs.Lowered.{lowered}
use Rattle.idl_value.specs.CaseValues.{IsTermIn}
use Rattle.idl_term.specs.Meanings.{lowered_value, IsScopeOver, Agrees, AreRoots}
use Rattle.idl_scope.specs.Scopes.{LoweredTerm, formula, Declaration, Binding, Scope, unknown, found, found_bound, sorts_of}
use Rattle.idl_term.specs.Values.{Named, value}
use Rattle.idl_term.proofs.MeaningNames.{FitsSorts, fits_sorts, IsGrown, term_later, value_later, scope_later, agrees_before}
use Rattle.idl_term.proofs.MeaningLeaves.{IsLowered}
use Rattle.idl_term.proofs.MeaningTerms.{made_grown, term_lowered}
use Rattle.idl_term.proofs.ContextNames.{scope_with, with_one, term_declared, scope_declared, fits_before, bound_unknown, agrees_undeclared, same_name, unknown_is, not_bound, agrees_undefined, agrees_defined, agrees_declared}

-- ---- one term

-- the term is worth what it is made into, wherever the names of the scope stand for what they are worth
pub record IsMeant (scope : Scope) (nodes : List NodeValue) (t : Sexpr) (term : LoweredTerm) : Type 0 where
  pub here : IsTermIn (sorts_of scope.declared) nodes term
  pub says : (schedule : List NamedValue) (env : List Named) → FitsSorts (sorts_of scope.declared) schedule → Agrees scope nodes schedule env → value env t ≡ lowered_value nodes schedule term

meant_made : (scope : Scope) (nodes : List NodeValue) (t : Sexpr) (m : Made) → IsScopeOver scope nodes → IsLowered scope nodes m (λ env. value env t) → IsMeant scope m.nodes t m.is
meant_made scope nodes t m over is = record {
  here = is.made.term;
  says = λ schedule env fits agrees. is.says schedule env fits (agrees_before scope nodes m.nodes over (made_grown scope nodes m is.made) schedule env agrees);
}

meant_later : (scope : Scope) (nodes later : List NodeValue) (t : Sexpr) (term : LoweredTerm) → IsScopeOver scope nodes → IsGrown (sorts_of scope.declared) nodes later → IsMeant scope nodes t term → IsMeant scope later t term
meant_later scope nodes later t term over grown is = record {
  here = term_later (sorts_of scope.declared) nodes later grown over.table term is.here;
  says = λ schedule env fits agrees.
      is.says schedule env fits (agrees_before scope nodes later over grown schedule env agrees)
      ∙ sym (value_later (sorts_of scope.declared) nodes later grown over.table schedule term is.here);
}

meant_declared : (d : Declaration) (declared : List Declaration) (bs : List Binding) (nodes : List NodeValue) (t : Sexpr) (term : LoweredTerm) → IsMeant (scope_with declared bs) nodes t term → IsMeant (scope_with (with_one d declared) bs) nodes t term
meant_declared d declared bs nodes t term is = record {
  here = term_declared d declared nodes term is.here;
  says = λ schedule env fits agrees. is.says schedule env (fits_before d declared schedule fits) (agrees_undeclared d nodes schedule declared bs env agrees);
}

meant_defined : (declared : List Declaration) (bs : List Binding) (b : Binding) (nodes : List NodeValue) (t : Sexpr) (term : LoweredTerm) → found_bound b.name bs declared ≡ unknown → IsMeant (scope_with declared bs) nodes t term
    → IsMeant (scope_with declared (bs ++ b ∷ [])) nodes t term
meant_defined declared bs b nodes t term fresh is = record {
  here = is.here;
  says = λ schedule env fits agrees. is.says schedule env fits (agrees_undefined declared b nodes schedule bs fresh env agrees);
}

-- ---- assertions

-- each assertion with its node
abbrev AreAsserted : Scope → List NodeValue → List Sexpr → List ℕ → Type 0
AreAsserted scope nodes [] [] = Unit {0}
AreAsserted scope nodes (t ∷ ts) (k ∷ ks) = IsMeant scope nodes t (formula k) × AreAsserted scope nodes ts ks
AreAsserted scope nodes _ _ = ⊥

module _ (scope other : Scope) (nodes later : List NodeValue) (kept : (t : Sexpr) (term : LoweredTerm) → IsMeant scope nodes t term → IsMeant other later t term) where
  asserted_kept : (ts : List Sexpr) (ks : List ℕ) → AreAsserted scope nodes ts ks → AreAsserted other later ts ks
  asserted_kept [] [] h = tt
  asserted_kept [] (k ∷ ks) h = h
  asserted_kept (t ∷ ts) [] h = h
  asserted_kept (t ∷ ts) (k ∷ ks) h = (kept t (formula k) h.0, asserted_kept ts ks h.1)

asserted_push : (scope : Scope) (nodes : List NodeValue) (ts : List Sexpr) (ks : List ℕ) (t : Sexpr) (k : ℕ) → AreAsserted scope nodes ts ks → IsMeant scope nodes t (formula k) → AreAsserted scope nodes (ts ++ t ∷ []) (ks ++ k ∷ [])
asserted_push scope nodes [] [] t k h is = (is, tt)
asserted_push scope nodes [] (j ∷ ks) t k h is = absurd h
asserted_push scope nodes (s ∷ ts) [] t k h is = absurd h
asserted_push scope nodes (s ∷ ts) (j ∷ ks) t k h is = (h.0, asserted_push scope nodes ts ks t k h.1 is)

asserted_roots : (scope : Scope) (nodes : List NodeValue) (ts : List Sexpr) (ks : List ℕ) → AreAsserted scope nodes ts ks → AllByRecursion (λ k. k < length nodes) ks
asserted_roots scope nodes [] [] h = tt
asserted_roots scope nodes [] (k ∷ ks) h = absurd h
asserted_roots scope nodes (t ∷ ts) [] h = absurd h
asserted_roots scope nodes (t ∷ ts) (k ∷ ks) h = (h.0.here, asserted_roots scope nodes ts ks h.1)

asserted_exact : (c : Context) (schedule : List NamedValue) → IsScheduleFor c schedule → Agrees (scope_of c) c.nodes schedule (environment c schedule) → (ts : List Sexpr) (ks : List ℕ) → AreAsserted (scope_of c) c.nodes ts ks
    → AreRoots c schedule ts ks
asserted_exact c schedule fits agrees [] [] h = tt
asserted_exact c schedule fits agrees [] (k ∷ ks) h = absurd h
asserted_exact c schedule fits agrees (t ∷ ts) [] h = absurd h
asserted_exact c schedule fits agrees (t ∷ ts) (k ∷ ks) h =
    (h.0.says schedule (environment c schedule) (fits_sorts (sorts_of c.declared) schedule fits) agrees, asserted_exact c schedule fits agrees ts ks h.1)

-- ---- definitions

abbrev bound_by : List Definition → List Binding
bound_by defined = map binding_of defined

-- each definition's name was new, and its term is read among the names before it
abbrev AreDefined : List Declaration → List NodeValue → List Binding → List Definition → Type 0
AreDefined declared nodes bs [] = Unit {0}
AreDefined declared nodes bs (d ∷ rest) = (found_bound d.name bs declared ≡ unknown) × IsMeant (scope_with declared bs) nodes d.term d.stands × AreDefined declared nodes (bs ++ binding_of d ∷ []) rest

push_middle : (bs : List Binding) (d : Definition) (rest : List Definition) → (bs ++ binding_of d ∷ []) ++ bound_by rest ≡ bs ++ bound_by (d ∷ rest)
push_middle bs d rest = append_assoc bs (binding_of d ∷ []) (bound_by rest)

other_way : (a b : List ℕ) → bytes_eq a b ≡ false → bytes_eq b a ≡ false
other_way a b e =
    false_from_ne_true (bytes_eq b a) (λ h. (let same : a ≡ b = sym (same_name b a h) in both_ways (bytes_eq a b) e ((bytes_eq-Decides a b).1 same)))

-- one more declaration, of another name
defined_declared : (d : Declaration) (declared : List Declaration) (nodes : List NodeValue) (bs : List Binding) (defined : List Definition) → found_bound d.name (bs ++ bound_by defined) declared ≡ unknown → AreDefined declared nodes bs defined
    → AreDefined (with_one d declared) nodes bs defined
defined_declared d declared nodes bs [] free h = tt
defined_declared d declared nodes bs (one ∷ rest) free h =
    let other : bytes_eq one.name d.name ≡ false = other_way d.name one.name (not_bound declared (binding_of one) d.name bs (bound_by rest) free) in
    let later : found_bound d.name ((bs ++ binding_of one ∷ []) ++ bound_by rest) declared ≡ unknown = ap (λ (all : List Binding). found_bound d.name all declared) (push_middle bs one rest) ∙ free in (
      bound_unknown d one.name bs declared other h.0,
      meant_declared d declared bs nodes one.term one.stands h.1,
      defined_declared d declared nodes (bs ++ binding_of one ∷ []) rest later h.2,
    )

-- a longer table
terms_push : (sorts : List Sort) (nodes : List NodeValue) (bs : List Binding) (b : Binding) → AllByRecursion (λ (a : Binding). IsTermIn sorts nodes a.stands) bs → IsTermIn sorts nodes b.stands
    → AllByRecursion (λ (a : Binding). IsTermIn sorts nodes a.stands) (bs ++ b ∷ [])
terms_push sorts nodes [] b h is = (is, tt)
terms_push sorts nodes (a ∷ bs) b h is = (h.0, terms_push sorts nodes bs b h.1 is)

scope_push : (declared : List Declaration) (bs : List Binding) (b : Binding) (nodes : List NodeValue) → IsScopeOver (scope_with declared bs) nodes → IsTermIn (sorts_of declared) nodes b.stands → IsScopeOver (scope_with declared (bs ++ b ∷ [])) nodes
scope_push declared bs b nodes over is = record { few = over.few; terms = terms_push (sorts_of declared) nodes bs b over.terms is; table = over.table; room = over.room }

defined_later : (declared : List Declaration) (nodes later : List NodeValue) → IsGrown (sorts_of declared) nodes later → (bs : List Binding) (defined : List Definition) → IsScopeOver (scope_with declared bs) nodes → AreDefined declared nodes bs defined
    → AreDefined declared later bs defined
defined_later declared nodes later grown bs [] over h = tt
defined_later declared nodes later grown bs (d ∷ rest) over h = (
  h.0,
  meant_later (scope_with declared bs) nodes later d.term d.stands over grown h.1,
  defined_later declared nodes later grown (bs ++ binding_of d ∷ []) rest (scope_push declared bs (binding_of d) nodes over h.1.here) h.2,
)

-- one more definition
defined_push : (declared : List Declaration) (nodes : List NodeValue) (bs : List Binding) (defined : List Definition) (d : Definition) → AreDefined declared nodes bs defined → found_bound d.name (bs ++ bound_by defined) declared ≡ unknown
    → IsMeant (scope_with declared (bs ++ bound_by defined)) nodes d.term d.stands → AreDefined declared nodes bs (defined ++ d ∷ [])
defined_push declared nodes bs [] d h fresh is = (
  ap (λ (all : List Binding). found_bound d.name all declared) (sym (append-nil bs)) ∙ fresh,
  subst (λ (all : List Binding). IsMeant (scope_with declared all) nodes d.term d.stands) (append-nil bs) is,
  tt,
)
defined_push declared nodes bs (one ∷ rest) d h fresh is = (
  h.0,
  h.1,
  defined_push declared nodes (bs ++ binding_of one ∷ []) rest d h.2 (ap (λ (all : List Binding). found_bound d.name all declared) (push_middle bs one rest) ∙ fresh)
      (subst (λ (all : List Binding). IsMeant (scope_with declared all) nodes d.term d.stands) (sym (push_middle bs one rest)) is),
)

-- the names' values agree with the names
defined_agree : (declared : List Declaration) (nodes : List NodeValue) (schedule : List NamedValue) → FitsSorts (sorts_of declared) schedule → (bs : List Binding) (defined : List Definition) (env : List Named) → AreDefined declared nodes bs defined
    → Agrees (scope_with declared bs) nodes schedule env → Agrees (scope_with declared (bs ++ bound_by defined)) nodes schedule (defined_values env defined)
defined_agree declared nodes schedule fits bs [] env h agrees = subst (λ (all : List Binding). Agrees (scope_with declared all) nodes schedule env) (sym (append-nil bs)) agrees
defined_agree declared nodes schedule fits bs (d ∷ rest) env h agrees =
    let now : List Named = record { name = d.name; value = value env d.term } ∷ env in
    subst (λ (all : List Binding). Agrees (scope_with declared all) nodes schedule (defined_values now rest)) (push_middle bs d rest)
    (defined_agree declared nodes schedule fits (bs ++ binding_of d ∷ []) rest now h.2
    (agrees_defined declared (binding_of d) nodes schedule bs h.0 env (value env d.term) (h.1.says schedule env fits agrees) agrees))

-- ---- contexts

pub record IsSound (c : Context) : Type 0 where
  pub over : IsScopeOver (scope_of c) c.nodes
  definitions : AreDefined c.declared c.nodes [] c.defined
  assertions : AreAsserted (scope_of c) c.nodes c.assertions c.roots

start_sound : IsSound start_context
start_sound = record {
  over = record { few = omega arith; terms = tt; table = λ k h. absurd (omega arith); room = omega arith };
  definitions = tt;
  assertions = tt;
}

declared_sound : (c : Context) (name : List ℕ) (sort : Sort) → IsSound c → IsFree c name → length c.declared < names_limit → IsSound (with_declaration c name sort)
declared_sound c name sort is free room =
    let d : Declaration = record { name = name; sort = sort } in
    record {
      over = scope_declared d c.declared c.nodes (bound_by c.defined) is.over room;
      definitions = defined_declared d c.declared c.nodes [] c.defined (unknown_is (found (scope_of c) name) free.known) is.definitions;
      assertions = asserted_kept (scope_of c) (scope_with (with_one d c.declared) (bound_by c.defined)) c.nodes c.nodes (λ t term h. meant_declared d c.declared (bound_by c.defined) c.nodes t term h) c.assertions c.roots is.assertions;
    }

-- the same with a longer table
grown_sound : (c : Context) (later : List NodeValue) → IsGrown (sorts_of c.declared) c.nodes later → IsSound c → IsSound (record c { nodes = later })
grown_sound c later grown is = record {
  over = scope_later (scope_of c) c.nodes later is.over grown;
  definitions = defined_later c.declared c.nodes later grown [] c.defined (record { few = is.over.few; terms = tt; table = is.over.table; room = is.over.room }) is.definitions;
  assertions = asserted_kept (scope_of c) (scope_of c) c.nodes later (λ t term h. meant_later (scope_of c) c.nodes later t term is.over grown h) c.assertions c.roots is.assertions;
}

-- a definition whose term is in the table already
defined_sound : (c : Context) (name : List ℕ) (t : Sexpr) (term : LoweredTerm) → IsSound c → IsFree c name → IsMeant (scope_of c) c.nodes t term → IsSound (with_definition c name t (record { nodes = c.nodes; is = term }))
defined_sound c name t term is free meant =
    let d : Definition = record { name = name; term = t; stands = term } in
    let fresh : found_bound name (bound_by c.defined) c.declared ≡ unknown = unknown_is (found (scope_of c) name) free.known in
    let same : bound_by (c.defined ++ d ∷ []) ≡ bound_by c.defined ++ binding_of d ∷ [] = map-append binding_of c.defined (d ∷ []) in
    record {
      over = subst (λ (all : List Binding). IsScopeOver (scope_with c.declared all) c.nodes) (sym same) (scope_push c.declared (bound_by c.defined) (binding_of d) c.nodes is.over meant.here);
      definitions = defined_push c.declared c.nodes [] c.defined d is.definitions fresh meant;
      assertions = subst (λ (all : List Binding). AreAsserted (scope_with c.declared all) c.nodes c.assertions c.roots) (sym same)
          (asserted_kept (scope_of c) (scope_with c.declared (bound_by c.defined ++ binding_of d ∷ [])) c.nodes c.nodes (λ s u h. meant_defined c.declared (bound_by c.defined) (binding_of d) c.nodes s u fresh h) c.assertions c.roots is.assertions);
    }

-- an assertion whose node is in the table already
asserted_sound : (c : Context) (t : Sexpr) (root : ℕ) → IsSound c → IsMeant (scope_of c) c.nodes t (formula root) → IsSound (with_assertion c t c.nodes root)
asserted_sound c t root is meant = record {
  over = is.over;
  definitions = is.definitions;
  assertions = asserted_push (scope_of c) c.nodes c.assertions c.roots t root is.assertions meant;
}

module _ (c : Context) (is : IsSound c) (t : Sexpr) (m : Made) (e : lowered (scope_of c) c.nodes t ≡ Ok m) where
  made_sound : IsSound (record c { nodes = m.nodes })
  made_sound = let made = term_lowered (scope_of c) c.nodes t m is.over e in grown_sound c m.nodes (made_grown (scope_of c) c.nodes m made.made) is

  made_meant : IsMeant (scope_of c) m.nodes t m.is
  made_meant = meant_made (scope_of c) c.nodes t m is.over (term_lowered (scope_of c) c.nodes t m is.over e)

free_later : (c : Context) (name : List ℕ) (later : List NodeValue) → IsFree c name → IsFree (record c { nodes = later }) name
free_later c name later free = record { reserved = free.reserved; known = free.known }

free_asserted : (c : Context) (name : List ℕ) (t : Sexpr) (nodes : List NodeValue) (root : ℕ) → IsFree c name → IsFree (with_assertion c t nodes root) name
free_asserted c name t nodes root free = record { reserved = free.reserved; known = free.known }

pub context_sound : (c : Context) → IsContext c → IsSound c
context_sound c start = start_sound
context_sound c (declares before name sort h free room) = declared_sound before name sort (context_sound before h) free room
context_sound c (defines before name t made h free e) =
    let is = context_sound before h in
    defined_sound (record before { nodes = made.nodes }) name t made.is (made_sound before is t made e) (free_later before name made.nodes free) (made_meant before is t made e)
context_sound c (asserts before t nodes root h e) =
    let is = context_sound before h in
    let made : Made = record { nodes = nodes; is = formula root } in
    asserted_sound (record before { nodes = nodes }) t root (made_sound before is t made e) (made_meant before is t made e)
context_sound c (names before name t nodes root h free e) =
    let is = context_sound before h in
    let made : Made = record { nodes = nodes; is = formula root } in
    let meant = made_meant before is t made e in
    defined_sound (with_assertion before t nodes root) name t (formula root)
    (asserted_sound (record before { nodes = nodes }) t root (made_sound before is t made e) meant) (free_asserted before name t nodes root free) meant

pub sound_roots : (c : Context) → IsSound c → AllByRecursion (λ k. k < length c.nodes) c.roots
sound_roots c is = asserted_roots (scope_of c) c.nodes c.assertions c.roots is.assertions

-- on each schedule the names stand for what they are worth
pub sound_agrees : (c : Context) (schedule : List NamedValue) → IsSound c → IsScheduleFor c schedule → Agrees (scope_of c) c.nodes schedule (environment c schedule)
sound_agrees c schedule is fits =
    defined_agree c.declared c.nodes schedule (fits_sorts (sorts_of c.declared) schedule fits) [] c.defined (declared_values c.declared schedule) is.definitions (agrees_declared c.declared c.nodes schedule fits)

pub sound_exact : (c : Context) (schedule : List NamedValue) → IsSound c → IsScheduleFor c schedule → AreRoots c schedule c.assertions c.roots
sound_exact c schedule is fits = asserted_exact c schedule fits (sound_agrees c schedule is fits) c.assertions c.roots is.assertions
