-- One command on what is kept is the command on the state.
use Rattle.std.proofs.Common.{refl, sym, ap, subst, arith, ◌∙◌, ◌≡◌, ◌<◌, ◌≤◌, ◌+◌, ◌-◌, ◌++◌, ◌||◌, ℕ, List, [], ◌∷◌, length, take, replicate, Some, None, slice_get, Bool, true, false, Option, Result, Ok, Err, nat_le, nat_lt}
use Rattle.std.specs.Prelude.{if◌then◌else◌}
use Rattle.std.proofs.lemmas.Bool.Decides.{nat_tests}
use Rattle.idl_node.specs.Nodes.{NodeValue}
use Rattle.idl_node.specs.declared.sort.Sort.{Sort}
use Rattle.smt_sexpr.specs.Tree.{Sexpr, Items, none, more}
use Rattle.idl_scope.specs.code.Kept.{Declares}
use Rattle.idl_apply.specs.Applied.{Made}
use Rattle.idl_term.specs.Contexts.{scope_of, with_declaration, with_definition, with_assertion}
use Rattle.idl_term.specs.Limits.{names_limit}
use Rattle.idl_term.specs.Lowered.{lowered}
use Rattle.idl_apply.specs.Operators.{is_reserved}
use Rattle.idl_term.specs.Scopes.{LoweredTerm, formula, numeric, Scope, is_known}
use Rattle.idl_apply.specs.declared.error.TermRefusal.{TermRefusal}
use Rattle.idl_apply.specs.declared.error.TermRefusal.TheVariants.{WrongSort}
use Rattle.smt_script.specs.Commands.{command_of}
use Rattle.smt_script.specs.code.Kept.{Kept, StandsFor, IsKept, Steps, cut_to}
use Rattle.smt_script.specs.Limits.{levels_limit}
use Rattle.smt_script.specs.code.Shapes.{Agrees, TermIs, signature_sort, only_of_sort, only_formula}
use Rattle.smt_script.specs.States.{State, is_of_sort, is_taken, carried_out, after_declaration, defined_by, after_definition, asserted_by, named_by, after_push, popped, after_pop, after_by, after}
use Rattle.smt_script.specs.declared.error.Refusal.{Refusal}
use Rattle.smt_script.specs.declared.error.Refusal.TheVariants.{AlreadyDeclared, TooManyNames, TooManyLevels, PopBelowTheBottom, LeftOut, Term}
use Rattle.smt_script.specs.declared.error.LeftOutCommand.TheVariants.{Parameters, Sort as SortLeftOut}
use Rattle.smt_script.specs.declared.error.ScriptError.{ScriptError}
use Rattle.smt_script.specs.declared.error.ScriptError.TheVariants.{OutOfMemory, Refused}
use Rattle.smt_script.specs.declared.state.Effect.{Effect}
use Rattle.smt_script.specs.declared.state.Effect.TheVariants.{Tell}
use Rattle.smt_script.specs.declared.state.Notice.TheVariants.{Success}
use Rattle.smt_script.specs.declared.state.Level.{Level}
use Rattle.smt_script.specs.declared.state.Mode.TheVariants as mode
use Rattle.smt_script.proofs.Levels.{levels_count}
use Rattle.smt_script.proofs.Keeping.{declared_in, defined_in, asserted_in, named_in, pushed_in, stands_forgotten, stands_declared, stands_defined, stands_asserted, stands_named, stands_pushed, stands_popped, popped_none}

chosen : {A : Type 0} (test : Bool) (a b : A) → test ≡ true → (if test then a else b) ≡ a
chosen true a b e = refl
chosen false a b e = absurd cc

passed : {A : Type 0} (test : Bool) (a b : A) → test ≡ false → (if test then a else b) ≡ b
passed true a b e = absurd cc
passed false a b e = refl

-- ---- signatures

pub declaration_refused : (s : State) (name : List ℕ) (parameters : Items) (found : Option Sort) (why : Refusal) → Err why ≡ signature_sort parameters found → after_declaration s name parameters found ≡ Err why
declaration_refused s name (more x xs) found why e = let same : LeftOut Parameters ≡ why = cc in ap Err same
declaration_refused s name none None why e = let same : LeftOut SortLeftOut ≡ why = cc in ap Err same
declaration_refused s name none (Some f) why e = absurd cc

pub definition_refused : (s : State) (name : List ℕ) (parameters : Items) (found : Option Sort) (t : Sexpr) (why : Refusal) → Err why ≡ signature_sort parameters found → after_definition s name parameters found t ≡ Err why
definition_refused s name (more x xs) found t why e = let same : LeftOut Parameters ≡ why = cc in ap Err same
definition_refused s name none None t why e = let same : LeftOut SortLeftOut ≡ why = cc in ap Err same
definition_refused s name none (Some f) t why e = absurd cc

declaration_is : (s : State) (name : List ℕ) (parameters : Items) (found : Option Sort) (sort : Sort) → Ok sort ≡ signature_sort parameters found → after_declaration s name parameters found ≡ after_declaration s name none (Some sort)
declaration_is s name (more x xs) found sort e = absurd cc
declaration_is s name none None sort e = absurd cc
declaration_is s name none (Some f) sort e = ap (λ (k : Sort). after_declaration s name none (Some k)) (let same : f ≡ sort = cc in same)

definition_is : (s : State) (name : List ℕ) (parameters : Items) (found : Option Sort) (t : Sexpr) (sort : Sort) → Ok sort ≡ signature_sort parameters found → after_definition s name parameters found t ≡ after_definition s name none (Some sort) t
definition_is s name (more x xs) found t sort e = absurd cc
definition_is s name none None t sort e = absurd cc
definition_is s name none (Some f) t sort e = ap (λ (k : Sort). after_definition s name none (Some k) t) (let same : f ≡ sort = cc in same)

-- ---- terms

made_of_test : (sort : Sort) (n m : Made) (test : Bool) → is_of_sort sort n.is ≡ test → ◌≡◌ {A = Result Made Refusal} (if test then Ok n else Err (Term WrongSort)) (Ok m) → (◌≡◌ {A = Result Made TermRefusal} (Ok n) (Ok m)) × (is_of_sort sort m.is ≡ true)
made_of_test sort n m true is e =
    let same : n ≡ m = cc in
    (ap Ok same, ap (λ (k : Made). is_of_sort sort k.is) (sym same) ∙ is)
made_of_test sort n m false is e = absurd cc

pub made_of_sort : (sort : Sort) (made : Result Made TermRefusal) (m : Made) → only_of_sort sort made ≡ Ok m → (made ≡ Ok m) × (is_of_sort sort m.is ≡ true)
made_of_sort sort (Err why) m e = absurd cc
made_of_sort sort (Ok n) m e = made_of_test sort n m (is_of_sort sort n.is) refl e

formula_by : (nodes : List NodeValue) (is : LoweredTerm) (m : Made) → only_formula (Ok (record { nodes = nodes; is = is })) ≡ Ok m → ◌≡◌ {A = Result Made TermRefusal} (Ok (record { nodes = nodes; is = is })) (Ok m)
formula_by nodes (formula root) m e = let same : ◌≡◌ {A = Made} (record { nodes = nodes; is = formula root }) m = cc in ap Ok same
formula_by nodes (numeric cases) m e = absurd cc

pub made_formula : (made : Result Made TermRefusal) (m : Made) → only_formula made ≡ Ok m → made ≡ Ok m
made_formula (Err why) m e = absurd cc
made_formula (Ok n) m e = formula_by n.nodes n.is m e

assertion_refused_by : (s : State) (t : Sexpr) (nodes : List NodeValue) (is : LoweredTerm) (why : Refusal) → only_formula (Ok (record { nodes = nodes; is = is })) ≡ Err why → asserted_by s t (Ok (record { nodes = nodes; is = is })) ≡ Err why
assertion_refused_by s t nodes (formula root) why e = absurd cc
assertion_refused_by s t nodes (numeric cases) why e = let same : Term WrongSort ≡ why = cc in ap Err same

pub assertion_refused : (s : State) (t : Sexpr) (made : Result Made TermRefusal) (why : Refusal) → only_formula made ≡ Err why → asserted_by s t made ≡ Err why
assertion_refused s t (Err w) why e = let same : Term w ≡ why = cc in ap Err same
assertion_refused s t (Ok n) why e = assertion_refused_by s t n.nodes n.is why e

naming_refused_by : (s : State) (t : Sexpr) (name : List ℕ) (nodes : List NodeValue) (is : LoweredTerm) (why : Refusal) → only_formula (Ok (record { nodes = nodes; is = is })) ≡ Err why → named_by s t name (Ok (record { nodes = nodes; is = is })) ≡ Err why
naming_refused_by s t name nodes (formula root) why e = absurd cc
naming_refused_by s t name nodes (numeric cases) why e = let same : Term WrongSort ≡ why = cc in ap Err same

pub naming_refused : (s : State) (t : Sexpr) (name : List ℕ) (made : Result Made TermRefusal) (why : Refusal) → only_formula made ≡ Err why → named_by s t name made ≡ Err why
naming_refused s t name (Err w) why e = let same : Term w ≡ why = cc in ap Err same
naming_refused s t name (Ok n) why e = naming_refused_by s t name n.nodes n.is why e

defined_refused_by : (s : State) (name : List ℕ) (sort : Sort) (t : Sexpr) (n : Made) (test : Bool) → is_of_sort sort n.is ≡ test → (why : Refusal) → ◌≡◌ {A = Result Made Refusal} (if test then Ok n else Err (Term WrongSort)) (Err why) → defined_by s name sort t (Ok n) ≡ Err why
defined_refused_by s name sort t n true is why e = absurd cc
defined_refused_by s name sort t n false is why e = let same : Term WrongSort ≡ why = cc in passed (is_of_sort sort n.is) _ _ is ∙ ap Err same

pub defined_refused : (s : State) (name : List ℕ) (sort : Sort) (t : Sexpr) (made : Result Made TermRefusal) (why : Refusal) → only_of_sort sort made ≡ Err why → defined_by s name sort t made ≡ Err why
defined_refused s name sort t (Err w) why e = let same : Term w ≡ why = cc in ap Err same
defined_refused s name sort t (Ok n) why e = defined_refused_by s name sort t n (is_of_sort sort n.is) refl why e

-- ---- names that are declared

pub reserved_taken : (reserved known : Bool) → true ≡ reserved → true ≡ (reserved || known)
reserved_taken true known e = refl
reserved_taken false known e = absurd cc

pub known_taken : (reserved known : Bool) → known ≡ true → true ≡ (reserved || known)
known_taken true known e = refl
known_taken false known e = sym e

pub neither_taken : (reserved known : Bool) → false ≡ reserved → known ≡ false → false ≡ (reserved || known)
neither_taken true known e f = absurd cc
neither_taken false known e f = sym f

module _ (old new : Scope) (name : List ℕ) (sort : Sort) where
  pub declares_known : (is_new : Bool) → Declares old name sort is_new new → is_new ≡ false → is_known old name ≡ true
  declares_known true h e = absurd cc
  declares_known false h e = h.0

  pub declares_new : (is_new : Bool) → Declares old name sort is_new new → is_new ≡ true → Declares old name sort true new
  declares_new true h e = h
  declares_new false h e = absurd cc

-- ---- steps

module _ (kept : Kept) (s : State) (h : StandsFor kept s) where
  taken_same : (name : List ℕ) (b : Bool) → b ≡ (is_reserved name || is_known kept.scope name) → is_taken s.context name ≡ b
  taken_same name b e = ap (λ (scope : Scope). is_reserved name || is_known scope name) (sym h.scope) ∙ sym e

  pub term_same : (t : Sexpr) → lowered (scope_of s.context) s.context.nodes t ≡ lowered kept.scope kept.nodes t
  term_same t = ap (λ (nodes : List NodeValue). lowered (scope_of s.context) nodes t) (sym h.nodes) ∙ ap (λ (scope : Scope). lowered scope kept.nodes t) (sym h.scope)

  names_same : length s.context.declared ≡ length kept.scope.declared
  names_same = ap (λ (scope : Scope). length scope.declared) (sym h.scope)

  levels_same : length s.below ≡ length kept.levels
  levels_same = sym (levels_count kept kept.levels s.below h.levels)

  module _ (name : List ℕ) (parameters : Items) (found : Option Sort) (sort : Sort) (given : Ok sort ≡ signature_sort parameters found) where
    pub declaration_taken : true ≡ (is_reserved name || is_known kept.scope name) → after_declaration s name parameters found ≡ Err AlreadyDeclared
    declaration_taken taken = declaration_is s name parameters found sort given ∙ chosen (is_taken s.context name) _ _ (taken_same name true taken)

    declaration_full : false ≡ (is_reserved name || is_known kept.scope name) → names_limit ≤ length kept.scope.declared → after_declaration s name parameters found ≡ Err TooManyNames
    declaration_full free full =
        let same = names_same in
        let test : nat_lt (length s.context.declared) names_limit ≡ false = grind (arith, nat_tests, same) in
        declaration_is s name parameters found sort given ∙ passed (is_taken s.context name) _ _ (taken_same name false free) ∙ passed (nat_lt (length s.context.declared) names_limit) _ _ test

    full_by : (taken : Bool) (why : Refusal) → taken ≡ (is_reserved name || is_known kept.scope name) → why ≡ (if taken then AlreadyDeclared else TooManyNames) → names_limit ≤ length kept.scope.declared
        → after_declaration s name parameters found ≡ Err why
    full_by true why is e full = declaration_taken is ∙ ap Err (sym e)
    full_by false why is e full = declaration_full is full ∙ ap Err (sym e)

    pub declaration_when_full : (why : Refusal) → why ≡ (if is_reserved name || is_known kept.scope name then AlreadyDeclared else TooManyNames) → names_limit ≤ length kept.scope.declared
        → after_declaration s name parameters found ≡ Err why
    declaration_when_full why = full_by (is_reserved name || is_known kept.scope name) why refl

    pub declaration_steps : false ≡ (is_reserved name || is_known kept.scope name) → length kept.scope.declared < names_limit → Agrees (after_declaration s name parameters found) (declared_in kept name sort) (Ok (Tell Success))
    declaration_steps free few =
        let same = names_same in
        let test : nat_lt (length s.context.declared) names_limit ≡ true = grind (arith, nat_tests, same) in (
          record s { context = with_declaration s.context name sort; mode = mode.Nothing; assumed = None },
          declaration_is s name parameters found sort given ∙ passed (is_taken s.context name) _ _ (taken_same name false free) ∙ chosen (nat_lt (length s.context.declared) names_limit) _ _ test,
          stands_declared kept s h name sort,
        )

    module _ (t : Sexpr) where
      pub definition_taken : true ≡ (is_reserved name || is_known kept.scope name) → after_definition s name parameters found t ≡ Err AlreadyDeclared
      definition_taken taken = definition_is s name parameters found t sort given ∙ chosen (is_taken s.context name) _ _ (taken_same name true taken)

      definition_free : (made : Result Made TermRefusal) → false ≡ (is_reserved name || is_known kept.scope name) → lowered kept.scope kept.nodes t ≡ made → after_definition s name parameters found t ≡ defined_by s name sort t made
      definition_free made free e =
          definition_is s name parameters found t sort given ∙ passed (is_taken s.context name) _ _ (taken_same name false free) ∙ ap (defined_by s name sort t) (term_same t ∙ e)

      definition_no_term : (why : Refusal) → false ≡ (is_reserved name || is_known kept.scope name) → only_of_sort sort (lowered kept.scope kept.nodes t) ≡ Err why → after_definition s name parameters found t ≡ Err why
      definition_no_term why free e = definition_free (lowered kept.scope kept.nodes t) free refl ∙ defined_refused s name sort t (lowered kept.scope kept.nodes t) why e

      pub definition_error : (nodes : List NodeValue) (new : Kept) (error : ScriptError) → false ≡ (is_reserved name || is_known kept.scope name) → TermIs nodes (only_of_sort sort (lowered kept.scope kept.nodes t)) (Err error) → Agrees (after_definition s name parameters found t) new (Err error)
      definition_error nodes new OutOfMemory free e = tt
      definition_error nodes new (Refused why) free e = definition_no_term why free e

      pub definition_steps : (made : Made) → false ≡ (is_reserved name || is_known kept.scope name) → only_of_sort sort (lowered kept.scope kept.nodes t) ≡ Ok made → take (length kept.nodes) made.nodes ≡ kept.nodes
          → Agrees (after_definition s name parameters found t) (defined_in kept made.nodes name made.is) (Ok (Tell Success))
      definition_steps made free e front =
          let m = made_of_sort sort (lowered kept.scope kept.nodes t) made e in (
            record s { context = with_definition s.context name t made; mode = mode.Nothing; assumed = None },
            definition_free (Ok made) free m.0 ∙ chosen (is_of_sort sort made.is) _ _ m.1,
            stands_defined kept s h name t made front,
          )

  module _ (t : Sexpr) where
    pub assertion_no_term : (why : Refusal) → only_formula (lowered kept.scope kept.nodes t) ≡ Err why → asserted_by s t (lowered (scope_of s.context) s.context.nodes t) ≡ Err why
    assertion_no_term why e = ap (asserted_by s t) (term_same t) ∙ assertion_refused s t (lowered kept.scope kept.nodes t) why e

    pub assertion_steps : (nodes : List NodeValue) (root : ℕ) → only_formula (lowered kept.scope kept.nodes t) ≡ Ok (record { nodes = nodes; is = formula root }) → take (length kept.nodes) nodes ≡ kept.nodes
        → Agrees (asserted_by s t (lowered (scope_of s.context) s.context.nodes t)) (asserted_in kept nodes root) (Ok (Tell Success))
    assertion_steps nodes root e front = (
      record s { context = with_assertion s.context t nodes root; labels = s.labels ++ None ∷ []; mode = mode.Nothing; assumed = None },
      ap (asserted_by s t) (term_same t ∙ made_formula (lowered kept.scope kept.nodes t) (record { nodes = nodes; is = formula root }) e),
      stands_asserted kept s h t nodes root front,
    )

    module _ (name : List ℕ) where
      pub naming_no_term : (why : Refusal) → only_formula (lowered kept.scope kept.nodes t) ≡ Err why → named_by s t name (lowered (scope_of s.context) s.context.nodes t) ≡ Err why
      naming_no_term why e = ap (named_by s t name) (term_same t) ∙ naming_refused s t name (lowered kept.scope kept.nodes t) why e

      module _ (nodes : List NodeValue) (root : ℕ) (e : only_formula (lowered kept.scope kept.nodes t) ≡ Ok (record { nodes = nodes; is = formula root })) where
        naming_made : named_by s t name (lowered (scope_of s.context) s.context.nodes t) ≡ named_by s t name (Ok (record { nodes = nodes; is = formula root }))
        naming_made = ap (named_by s t name) (term_same t ∙ made_formula (lowered kept.scope kept.nodes t) (record { nodes = nodes; is = formula root }) e)

        pub naming_taken : true ≡ (is_reserved name || is_known kept.scope name) → named_by s t name (lowered (scope_of s.context) s.context.nodes t) ≡ Err AlreadyDeclared
        naming_taken taken = naming_made ∙ chosen (is_taken s.context name) _ _ (taken_same name true taken)

        pub naming_steps : false ≡ (is_reserved name || is_known kept.scope name) → take (length kept.nodes) nodes ≡ kept.nodes → Agrees (named_by s t name (lowered (scope_of s.context) s.context.nodes t)) (named_in kept nodes root name) (Ok (Tell Success))
        naming_steps free front = (
          record s { context = with_definition (with_assertion s.context t nodes root) name t (record { nodes = nodes; is = formula root }); labels = s.labels ++ Some name ∷ []; mode = mode.Nothing; assumed = None },
          naming_made ∙ passed (is_taken s.context name) _ _ (taken_same name false free),
          stands_named kept s h t nodes root name front,
        )

  pub push_refused : (n : ℕ) → levels_limit < length kept.levels + n → after_push s n ≡ Err TooManyLevels
  push_refused n many =
      let same = levels_same in
      let test : nat_le (length s.below + n) levels_limit ≡ false = grind (arith, nat_tests, same) in
      passed (nat_le (length s.below + n) levels_limit) _ _ test

  pub push_steps : (n : ℕ) → IsKept kept → length kept.levels + n ≤ levels_limit → Agrees (after_push s n) (pushed_in kept n) (Ok (Tell Success))
  push_steps n sound few =
      let same = levels_same in
      let test : nat_le (length s.below + n) levels_limit ≡ true = grind (arith, nat_tests, same) in
      (record s { below = s.below ++ replicate n s.context; mode = mode.Nothing; assumed = None }, chosen (nat_le (length s.below + n) levels_limit) _ _ test, stands_pushed kept s h n sound)

  pub pop_refused : (n : ℕ) → length kept.levels < n → after_pop s n ≡ Err PopBelowTheBottom
  pop_refused n many =
      let same = levels_same in
      let test : nat_le n (length s.below) ≡ false = grind (arith, nat_tests, same) in
      passed (nat_le n (length s.below)) _ _ test

  pop_is : (n : ℕ) → n ≤ length kept.levels → after_pop s n ≡ carried_out (popped s n)
  pop_is n few =
      let same = levels_same in
      let test : nat_le n (length s.below) ≡ true = grind (arith, nat_tests, same) in
      chosen (nat_le n (length s.below)) _ _ test

  labelled_same : IsKept kept → length s.labels ≡ length s.context.roots
  labelled_same sound = ap (λ (labels : List (Option (List ℕ))). length labels) (sym h.labels) ∙ sound.labelled ∙ ap (λ (roots : List ℕ). length roots) h.roots

  pub pop_stays : (n : ℕ) → IsKept kept → n ≡ 0 → Agrees (after_pop s n) (record kept { mode = mode.Nothing; assumed = None }) (Ok (Tell Success))
  pop_stays n sound zero =
      (record s { mode = mode.Nothing; assumed = None }, pop_is n (omega (arith, zero)) ∙ ap carried_out (popped_none s n zero (labelled_same sound)), stands_forgotten kept s h)

  pub pop_steps : (n i : ℕ) (level : Level) → IsKept kept → n ≤ length kept.levels → i ≡ length kept.levels - n → slice_get kept.levels i ≡ Some level → Agrees (after_pop s n) (cut_to kept i level) (Ok (Tell Success))
  pop_steps n i level sound few place at =
      let same = levels_same in
      let is : i ≡ length s.below - n = omega (arith, same, place) in
      (popped s n, pop_is n few, stands_popped kept s h n i level sound is at)

-- ---- whole commands

after_is : (s : State) (x : Sexpr) → after s x ≡ after_by s (command_of x)
unfolding after
after_is s x = refl

pub steps_whole : (s : State) (x : Sexpr) (kept : Kept) (effect : Effect) → Agrees (after_by s (command_of x)) kept (Ok effect) → Steps s x effect kept
steps_whole s x kept effect h = record { state = h.0; leads = after_is s x ∙ h.1; stands = h.2 }

pub refused_whole : (s : State) (x : Sexpr) (why : Refusal) → after_by s (command_of x) ≡ Err why → after s x ≡ Err why
refused_whole s x why e = after_is s x ∙ e

pub agreed_error : (s : State) (x : Sexpr) (kept : Kept) (error : ScriptError) (why : Refusal) → error ≡ Refused why → Agrees (after_by s (command_of x)) kept (Err error) → after s x ≡ Err why
agreed_error s x kept error why is h = refused_whole s x why (subst (λ (e : ScriptError). Agrees (after_by s (command_of x)) kept (Err e)) is h)
