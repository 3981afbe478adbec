-- What a term is made into is worth what the term is worth.
use Rattle.std.proofs.Common.{refl, ap, sym, subst, ◌∙◌, ◌≡◌, ℕ, suc, List, [], ◌∷◌, ◌++◌, length, map, Bool, true, false, cond, Option, Some, append-nil, append_assoc}
use Rattle.std.specs.Prelude.{Result, Ok, Err, codes}
use Rattle.std.specs.List.{AllByRecursion}
use Rattle.smt_lex.specs.declared.token.TokenKind.TheVariants.{Left, Right, Numeral, Decimal, Hex, Binary, Text, Symbol, Keyword}
use Rattle.smt_sexpr.specs.Tree.{Sexpr, Items, leaf, list, none, more, symbol_of}
use Rattle.stn_core.specs.declared.named.NamedValue.{NamedValue}
use Rattle.idl_node.specs.declared.sort.Sort.{Sort}
use Rattle.idl_node.specs.Nodes.{NodeValue}
use Rattle.idl_apply.specs.declared.error.TermRefusal.{TermRefusal}
use Rattle.idl_apply.specs.declared.error.TermRefusal.TheVariants.{IllFormedTerm, WrongCount}
use Rattle.idl_apply.specs.declared.operator.Operator.{Operator}
use Rattle.idl_apply.specs.Applied.{Made, applied}
use Rattle.idl_apply.specs.Comparing.{follows}
use Rattle.idl_term.specs.Lowered.{Head, operator, binder, refused, head_of, count_of, is_let, name_in, variable_in, variables_in, variables_of, MadeEach, put_first, with_bound, lowered, lowered_list, lowered_each, lowered_let, lowered_first, lowered_bindings, lowered_bound, lowered_binding, lowered_second}
use Rattle.idl_value.specs.CaseValues.{IsTermIn}
use Rattle.idl_term.specs.Meanings.{lowered_value, IsScopeOver, IsMadeIn, Agrees}
use Rattle.smt_sexpr.specs.Shapes.{is_symbol}
use Rattle.idl_apply.specs.Operators.{takes_count}
use Rattle.idl_scope.specs.Scopes.{Scope, sorts_of}
use Rattle.idl_term.specs.Values.{Value, Named, operator_value, value_by, operator_at, variable_of, value, list_value, values, let_value, first_value, bound, bound_each, bound_one, bound_pair}
use Rattle.idl_term.proofs.MeaningAtoms.{follows-is}
use Rattle.idl_term.proofs.MeaningOperators.{applied_worth}
use Rattle.idl_term.proofs.MeaningNames.{FitsSorts, IsGrown, term_later, value_later, scope_later, agrees_later, scope_bound, name_of, value_of, agrees_bound}
use Rattle.idl_term.proofs.MeaningLeaves.{IsLowered, leaf_lowered, HeadSays, head_says}

-- ---- tables

pub made_grown : (scope : Scope) (nodes : List NodeValue) (m : Made) → IsMadeIn scope nodes m → IsGrown (sorts_of scope.declared) nodes m.nodes
made_grown scope nodes m made = record { added = made.added; grows = made.grows; room = made.room; table = made.table }

pub no_growth : (scope : Scope) (nodes : List NodeValue) → IsScopeOver scope nodes → IsGrown (sorts_of scope.declared) nodes nodes
no_growth scope nodes over = record { added = []; grows = sym (append-nil nodes); room = over.room; table = over.table }

pub growth_on : (sorts : List Sort) (a b c : List NodeValue) → IsGrown sorts a b → IsGrown sorts b c → IsGrown sorts a c
growth_on sorts a b c one two = record {
  added = one.added ++ two.added;
  grows = two.grows ∙ ap (λ (ns : List NodeValue). ns ++ two.added) one.grows ∙ append_assoc a one.added two.added;
  room = two.room;
  table = two.table;
}

-- ---- lists of terms

-- what several terms are made into is worth what they are, one by one
pub record AreLowered (scope : Scope) (nodes : List NodeValue) (m : MadeEach) (count : ℕ) (worth : List Named → List Value) : Type 0 where
  pub grown : IsGrown (sorts_of scope.declared) nodes m.nodes
  pub terms : AllByRecursion (IsTermIn (sorts_of scope.declared) m.nodes) m.are
  pub counted : length m.are ≡ count
  pub say : (schedule : List NamedValue) (env : List Named) → FitsSorts (sorts_of scope.declared) schedule → Agrees scope nodes schedule env → worth env ≡ map (lowered_value m.nodes schedule) m.are

abbrev no_terms : List NodeValue → Result MadeEach TermRefusal
no_terms nodes = Ok (record { nodes = nodes; are = [] })

module _ (scope : Scope) (nodes : List NodeValue) (over : IsScopeOver scope nodes) where
  none_lowered : (m : MadeEach) → no_terms nodes ≡ Ok m → AreLowered scope nodes m 0 (λ env. [])
  none_lowered m e =
      let same : record { nodes = nodes; are = [] } ≡ m = cc in
      subst (λ (n : MadeEach). AreLowered scope nodes n 0 (λ env. [])) same (record { grown = no_growth scope nodes over; terms = tt; counted = refl; say = λ schedule env fits agrees. refl })

  -- one term, and others after it
  more_lowered : (p : Made) (rest m : MadeEach) (count : ℕ) (first : List Named → Value) (others : List Named → List Value) → IsLowered scope nodes p first → AreLowered scope p.nodes rest count others → put_first p rest ≡ Ok m
      → AreLowered scope nodes m (suc count) (λ env. first env ∷ others env)
  more_lowered p rest m count first others one are e =
      let same : record { nodes = rest.nodes; are = p.is ∷ rest.are } ≡ m = cc in
      let grown = made_grown scope nodes p one.made in
      subst (λ (n : MadeEach). AreLowered scope nodes n (suc count) (λ env. first env ∷ others env)) same (record {
        grown = growth_on (sorts_of scope.declared) nodes p.nodes rest.nodes grown are.grown;
        terms = (term_later (sorts_of scope.declared) p.nodes rest.nodes are.grown one.made.table p.is one.made.term, are.terms);
        counted = ap suc are.counted;
        say = λ schedule env fits agrees.
            ap (λ (v : Value). v ∷ others env) (one.says schedule env fits agrees ∙ sym (value_later (sorts_of scope.declared) p.nodes rest.nodes are.grown one.made.table schedule p.is one.made.term))
            ∙ ap (λ (vs : List Value). lowered_value rest.nodes schedule p.is ∷ vs) (are.say schedule env fits (agrees_later scope nodes p.nodes over grown schedule env agrees));
      })

  -- an operator applied to terms
  applied_lowered : (o : Operator) (arguments : Items) (made : MadeEach) (m : Made) → takes_count o (count_of arguments) ≡ true → AreLowered scope nodes made (count_of arguments) (λ env. values env arguments) → applied o made.nodes made.are ≡ Ok m
      → IsLowered scope nodes m (λ env. operator_value o (values env arguments))
  applied_lowered o arguments made m count are e =
      let is = applied_worth (sorts_of scope.declared) made.nodes are.grown.room are.grown.table m o made.are (ap (takes_count o) are.counted ∙ count) are.terms e in
      let grown = growth_on (sorts_of scope.declared) nodes made.nodes m.nodes are.grown (record { added = is.added; grows = is.grows; room = is.room; table = is.table }) in
      record {
        made = record { added = grown.added; grows = grown.grows; room = grown.room; table = grown.table; term = is.term };
        says = λ schedule env fits agrees. ap (operator_value o) (are.say schedule env fits agrees) ∙ sym (is.says schedule);
      }

-- ---- a list

module _ (scope : Scope) (nodes : List NodeValue) (over : IsScopeOver scope nodes) (head : Sexpr) (arguments : Items) (m : Made)
    (each : (made : MadeEach) → lowered_each scope nodes arguments ≡ Ok made → AreLowered scope nodes made (count_of arguments) (λ env. values env arguments))
    (binds : lowered_let scope nodes arguments ≡ Ok m → IsLowered scope nodes m (λ env. let_value env arguments)) where
  -- where the list is no `let`
  operator_lowered : (o : Operator) → is_symbol (codes "let") head ≡ false → operator_at head ≡ Some o → (b : Bool) → takes_count o (count_of arguments) ≡ b
      → cond b (follows (lowered_each scope nodes arguments) (λ made. applied o made.nodes made.are)) (Err WrongCount) ≡ Ok m → IsLowered scope nodes m (λ env. list_value env (more head arguments))
  operator_lowered o no_let names false f e = absurd cc
  operator_lowered o no_let names true f e =
      let t = follows-is (lowered_each scope nodes arguments) (λ made. applied o made.nodes made.are) m e in
      let made : MadeEach = t.middle in
      let is = applied_lowered scope nodes over o arguments made m f (each made t.begins) t.goes_on in
      record {
        made = is.made;
        says = λ schedule env fits agrees.
            ap (λ (b : Bool). cond b (let_value env arguments) (value_by (operator_at head) (values env arguments))) no_let
            ∙ ap (λ (found : Option Operator). value_by found (values env arguments)) names
            ∙ is.says schedule env fits agrees;
      }

  let_lowered : is_symbol (codes "let") head ≡ true → (b : Bool) → cond b (lowered_let scope nodes arguments) (Err IllFormedTerm) ≡ Ok m → IsLowered scope nodes m (λ env. list_value env (more head arguments))
  let_lowered is_one false e = absurd cc
  let_lowered is_one true e =
      let is = binds e in
      record {
        made = is.made;
        says = λ schedule env fits agrees.
            ap (λ (b : Bool). cond b (let_value env arguments) (value_by (operator_at head) (values env arguments))) is_one
            ∙ is.says schedule env fits agrees;
      }

  abbrev by_head : Head → Result Made TermRefusal
  by_head h = elim h [
    | operator o ↦ cond (takes_count o (count_of arguments)) (follows (lowered_each scope nodes arguments) (λ made. applied o made.nodes made.are)) (Err WrongCount)
    | binder ↦ cond (is_let arguments) (lowered_let scope nodes arguments) (Err IllFormedTerm)
    | refused why ↦ Err why
  ]

  head_lowered : (h : Head) → HeadSays head h → by_head h ≡ Ok m → IsLowered scope nodes m (λ env. list_value env (more head arguments))
  head_lowered (operator o) says e = operator_lowered o says.0 says.1 (takes_count o (count_of arguments)) refl e
  head_lowered binder says e = let_lowered says (is_let arguments) e
  head_lowered (refused why) says e = absurd cc

  list_lowered_by : lowered_list scope nodes (more head arguments) ≡ Ok m → IsLowered scope nodes m (λ env. list_value env (more head arguments))
  unfolding lowered_list
  list_lowered_by e = head_lowered (head_of scope head) (head_says scope head) e

-- ---- names of variables

variable_is : (v : Sexpr) → variable_of v ≡ name_in (symbol_of v)
variable_is (leaf Symbol text) = refl
variable_is (leaf Left text) = refl
variable_is (leaf Right text) = refl
variable_is (leaf Numeral text) = refl
variable_is (leaf Decimal text) = refl
variable_is (leaf Hex text) = refl
variable_is (leaf Binary text) = refl
variable_is (leaf Text text) = refl
variable_is (leaf Keyword text) = refl
variable_is (list items) = refl

name_is : (env : List Named) (b : Sexpr) → name_of (bound_one env b) ≡ variable_in b
name_is env (leaf kind text) = refl
name_is env (list none) = refl
name_is env (list (more v rest)) = variable_is v

names_in : (env : List Named) (bs : Items) → map name_of (bound_each env bs) ≡ variables_in bs
names_in env none = refl
names_in env (more b bs) = ap (λ (name : List ℕ). name ∷ map name_of (bound_each env bs)) (name_is env b) ∙ ap (λ (names : List (List ℕ)). variable_in b ∷ names) (names_in env bs)

names_of : (env : List Named) (t : Sexpr) → map name_of (bound env t) ≡ variables_of t
names_of env (leaf kind text) = refl
names_of env (list bs) = names_in env bs

-- the body of a `let`, where the bindings' terms are made
body_lowered : (scope : Scope) (nodes : List NodeValue) (over : IsScopeOver scope nodes) (bindings : Sexpr) (rest : Items) (made : MadeEach) (m : Made) (count : ℕ) → AreLowered scope nodes made count (λ env. map value_of (bound env bindings))
    → IsLowered (with_bound scope (variables_of bindings) made.are) made.nodes m (λ env. first_value env rest) → IsLowered scope nodes m (λ env. let_value env (more bindings rest))
body_lowered scope nodes over bindings rest made m count are is =
    let inner : Scope = with_bound scope (variables_of bindings) made.are in
    let grown = growth_on (sorts_of scope.declared) nodes made.nodes m.nodes are.grown (made_grown inner made.nodes m is.made) in
    record {
      made = record { added = grown.added; grows = grown.grows; room = grown.room; table = grown.table; term = is.made.term };
      says = λ schedule env fits agrees.
          is.says schedule (bound env bindings ++ env) fits
          (agrees_bound scope made.nodes schedule env (bound env bindings) (variables_of bindings) made.are (names_of env bindings) (are.say schedule env fits agrees) (agrees_later scope nodes made.nodes over are.grown schedule env agrees));
    }

abbrev bindings_count : Sexpr → ℕ
bindings_count (leaf kind text) = 0
bindings_count (list bs) = count_of bs

-- ---- terms

mutual
  unfolding lowered lowered_list lowered_each lowered_let lowered_first lowered_bindings lowered_bound lowered_binding lowered_second

  pub term_lowered : (scope : Scope) (nodes : List NodeValue) (t : Sexpr) (m : Made) → IsScopeOver scope nodes → lowered scope nodes t ≡ Ok m → IsLowered scope nodes m (λ env. value env t)
  term_lowered scope nodes (leaf kind text) m over e = leaf_lowered scope nodes over kind text m e
  term_lowered scope nodes (list items) m over e = list_lowered scope nodes items m over e

  list_lowered : (scope : Scope) (nodes : List NodeValue) (items : Items) (m : Made) → IsScopeOver scope nodes → lowered_list scope nodes items ≡ Ok m → IsLowered scope nodes m (λ env. list_value env items)
  list_lowered scope nodes none m over e = absurd cc
  list_lowered scope nodes (more head arguments) m over e =
      list_lowered_by scope nodes over head arguments m (λ made f. each_lowered scope nodes arguments made over f) (λ f. bindings_lowered scope nodes arguments m over f) e

  each_lowered : (scope : Scope) (nodes : List NodeValue) (items : Items) (m : MadeEach) → IsScopeOver scope nodes → lowered_each scope nodes items ≡ Ok m → AreLowered scope nodes m (count_of items) (λ env. values env items)
  each_lowered scope nodes none m over e = none_lowered scope nodes over m e
  each_lowered scope nodes (more x xs) m over e =
      let t = follows-is (lowered scope nodes x) (λ p. follows (lowered_each scope p.nodes xs) (put_first p)) m e in
      let p : Made = t.middle in
      let u = follows-is (lowered_each scope p.nodes xs) (put_first p) m t.goes_on in
      let one = term_lowered scope nodes x p over t.begins in
      let others = each_lowered scope p.nodes xs u.middle (scope_later scope nodes p.nodes over (made_grown scope nodes p one.made)) u.begins in
      more_lowered scope nodes over p u.middle m (count_of xs) (λ env. value env x) (λ env. values env xs) one others u.goes_on

  bindings_lowered : (scope : Scope) (nodes : List NodeValue) (items : Items) (m : Made) → IsScopeOver scope nodes → lowered_let scope nodes items ≡ Ok m → IsLowered scope nodes m (λ env. let_value env items)
  bindings_lowered scope nodes none m over e = absurd cc
  bindings_lowered scope nodes (more bindings rest) m over e =
      let t = follows-is (lowered_bindings scope nodes bindings) (λ made. lowered_first (with_bound scope (variables_of bindings) made.are) made.nodes rest) m e in
      let made : MadeEach = t.middle in
      let are = binders_lowered scope nodes bindings made over t.begins in
      let inner = scope_bound scope made.nodes (variables_of bindings) made.are (scope_later scope nodes made.nodes over are.grown) are.terms in
      body_lowered scope nodes over bindings rest made m (bindings_count bindings) are (first_lowered (with_bound scope (variables_of bindings) made.are) made.nodes rest m inner t.goes_on)

  first_lowered : (scope : Scope) (nodes : List NodeValue) (items : Items) (m : Made) → IsScopeOver scope nodes → lowered_first scope nodes items ≡ Ok m → IsLowered scope nodes m (λ env. first_value env items)
  first_lowered scope nodes none m over e = absurd cc
  first_lowered scope nodes (more t rest) m over e = term_lowered scope nodes t m over e

  binders_lowered : (scope : Scope) (nodes : List NodeValue) (t : Sexpr) (m : MadeEach) → IsScopeOver scope nodes → lowered_bindings scope nodes t ≡ Ok m → AreLowered scope nodes m (bindings_count t) (λ env. map value_of (bound env t))
  binders_lowered scope nodes (leaf kind text) m over e = absurd cc
  binders_lowered scope nodes (list bs) m over e = bound_lowered scope nodes bs m over e

  bound_lowered : (scope : Scope) (nodes : List NodeValue) (bs : Items) (m : MadeEach) → IsScopeOver scope nodes → lowered_bound scope nodes bs ≡ Ok m → AreLowered scope nodes m (count_of bs) (λ env. map value_of (bound_each env bs))
  bound_lowered scope nodes none m over e = none_lowered scope nodes over m e
  bound_lowered scope nodes (more b bs) m over e =
      let t = follows-is (lowered_binding scope nodes b) (λ p. follows (lowered_bound scope p.nodes bs) (put_first p)) m e in
      let p : Made = t.middle in
      let u = follows-is (lowered_bound scope p.nodes bs) (put_first p) m t.goes_on in
      let one = binder_lowered scope nodes b p over t.begins in
      let others = bound_lowered scope p.nodes bs u.middle (scope_later scope nodes p.nodes over (made_grown scope nodes p one.made)) u.begins in
      more_lowered scope nodes over p u.middle m (count_of bs) (λ env. value_of (bound_one env b)) (λ env. map value_of (bound_each env bs)) one others u.goes_on

  binder_lowered : (scope : Scope) (nodes : List NodeValue) (b : Sexpr) (m : Made) → IsScopeOver scope nodes → lowered_binding scope nodes b ≡ Ok m → IsLowered scope nodes m (λ env. value_of (bound_one env b))
  binder_lowered scope nodes (leaf kind text) m over e = absurd cc
  binder_lowered scope nodes (list items) m over e = second_lowered scope nodes items m over e

  second_lowered : (scope : Scope) (nodes : List NodeValue) (items : Items) (m : Made) → IsScopeOver scope nodes → lowered_second scope nodes items ≡ Ok m → IsLowered scope nodes m (λ env. value_of (bound_pair env items))
  second_lowered scope nodes none m over e = absurd cc
  second_lowered scope nodes (more v rest) m over e = first_lowered scope nodes rest m over e
