-- A symbol, a numeral, and what a list begins with.
use Rattle.std.proofs.Common.{refl, ap, sym, subst, arith, inl, inr, ◌∙◌, ◌≡◌, ◌≤◌, ◌+◌, ℕ, suc, List, [], map, get_or, Bool, true, false, cond, ◌||◌, nat_le, Option, Some, None, pos, ◌-ℤ◌, append-nil}
use Rattle.std.specs.Prelude.{Ok, Err, codes, int_le, slice_get}
use Rattle.std.specs.Str.{bytes_eq}
use Rattle.std.proofs.lemmas.Int.{ints}
use Rattle.std.proofs.lemmas.Bool.Decides.{nat_tests}
use Rattle.std.proofs.lemmas.List.{length-map}
use Rattle.smt_lex.specs.declared.token.TokenKind.{TokenKind}
use Rattle.smt_lex.specs.declared.token.TokenKind.TheVariants.{Left, Right, Numeral, Decimal, Hex, Binary, Text, Symbol, Keyword}
use Rattle.smt_lex.specs.Numbers.{value_of}
use Rattle.smt_sexpr.specs.Tree.{Sexpr, leaf, list, none, more}
use Rattle.stn_core.specs.declared.named.NamedValue.{NamedValue}
use Rattle.idl_linear.specs.Limits.{constant_limit}
use Rattle.idl_linear.specs.Linear.{number_alone, point_alone, is_limited}
use Rattle.idl_linear.proofs.Valued.{value-number, value-point}
use Rattle.idl_node.specs.declared.sort.Sort.{Sort}
use Rattle.idl_node.specs.declared.sort.Sort.TheVariants as sort
use Rattle.idl_node.specs.Making.{constant, falsehood}
use Rattle.idl_node.specs.Nodes.{NodeValue, atom, placed}
use Rattle.idl_node.specs.Sorts.{IsBoolPoint, IsIntPoint, IsAtomFor}
use Rattle.idl_node.specs.Truth.{literal_truth, point_value, point_values}
use Rattle.idl_node.proofs.Growing.{placed-made}
use Rattle.idl_node.proofs.Makers.{constant-made, falsehood-made}
use Rattle.idl_apply.specs.declared.error.LeftOutTerm.{LeftOutTerm}
use Rattle.idl_apply.specs.declared.error.LeftOutTerm.TheVariants as left_out
use Rattle.idl_apply.specs.declared.error.TermRefusal.{TermRefusal}
use Rattle.idl_apply.specs.declared.error.TermRefusal.TheVariants.{UnknownSymbol, IllFormedTerm, BoundTooLarge, LeftOut}
use Rattle.idl_apply.specs.declared.operator.Operator.{Operator}
use Rattle.idl_apply.specs.Applied.{Made, as_formula}
use Rattle.idl_term.specs.Lowered.{lowered_found, lowered_leaf, Head, operator, binder, refused, other_head, no_operator, symbol_head, head_of}
use Rattle.idl_value.specs.CaseValues.{IsLinearFor}
use Rattle.idl_term.specs.Meanings.{lowered_value, IsScopeOver, IsMadeIn, found_value, Agrees}
use Rattle.smt_sexpr.specs.Shapes.{is_symbol}
use Rattle.idl_apply.specs.Operators.{is_reserved, left_out_of, operator_of}
use Rattle.idl_scope.specs.Scopes.{linear_term, Declaration, Scope, Found, declared_at, stands_for, unknown, found, is_known, sorts_of}
use Rattle.idl_term.specs.Values.{Value, whole, truth, Named, looked_up, leaf_value, operator_at}
use Rattle.idl_term.proofs.MeaningAtoms.{points_below, atom_negates}
use Rattle.idl_term.proofs.MeaningOperators.{IsWorth, formula_worth, linear_worth}
use Rattle.idl_term.proofs.MeaningNames.{FitsSorts, int_value, bool_value, IsFoundIn, found_in}

-- what is made is worth what the term is
pub record IsLowered (scope : Scope) (nodes : List NodeValue) (m : Made) (worth : List Named → Value) : Type 0 where
  pub made : IsMadeIn scope nodes m
  pub says : (schedule : List NamedValue) (env : List Named) → FitsSorts (sorts_of scope.declared) schedule → Agrees scope nodes schedule env → worth env ≡ lowered_value m.nodes schedule m.is

module _ (scope : Scope) (nodes : List NodeValue) (over : IsScopeOver scope nodes) where
  abbrev sorts : List Sort
  sorts = sorts_of scope.declared

  pub worth_lowered : (m : Made) (worth : List Named → Value) (by : List NamedValue → Value) → IsWorth sorts nodes m by
      → ((schedule : List NamedValue) (env : List Named) → FitsSorts sorts schedule → Agrees scope nodes schedule env → worth env ≡ by schedule) → IsLowered scope nodes m worth
  worth_lowered m worth by is same = record {
    made = record { added = is.added; grows = is.grows; room = is.room; table = is.table; term = is.term };
    says = λ schedule env fits agrees. same schedule env fits agrees ∙ sym (is.says schedule);
  }

  -- ---- names

  next_point : (P : ℕ → Type 0) (place : ℕ) → P (suc place) → P (place + 1)
  next_point P place h = let same : suc place ≡ place + 1 = omega arith in subst P same h

  point_linear : (place : ℕ) → slice_get sorts place ≡ Some sort.Int → IsLinearFor sorts (point_alone (place + 1))
  point_linear place e =
      let low = points_below sorts place sort.Int e in
      let few = over.few in
      record {
        linear = record {
          ascends = (omega arith, (λ f. absurd cc), tt);
          over = (omega (arith, low, few, length-map scope.declared (λ (d : Declaration). d.sort)), tt);
          limited = refl;
        };
        points = (next_point (IsIntPoint sorts) place e, tt);
      }

  name_atom : (place : ℕ) → slice_get sorts place ≡ Some sort.Bool → IsAtomFor sorts (record { x = place + 1; y = 0; c = pos 0 })
  name_atom place e =
      let low = points_below sorts place sort.Bool e in
      record {
        over = record { x_in = omega (arith, low); y_in = omega arith; low = omega (arith, ints); high = omega (arith, ints) };
        kind = inr (inl (record { x = next_point (IsBoolPoint sorts) place e; y = refl; c = refl }));
      }

  found_lowered : (f : Found) (name : List ℕ) (m : Made) → found scope name ≡ f → IsFoundIn sorts nodes f → lowered_found nodes f ≡ Ok m → IsLowered scope nodes m (λ env. looked_up name env)
  found_lowered unknown name m is h e = absurd cc
  found_lowered (stands_for t) name m is h e =
      let same : record { nodes = nodes; is = t } ≡ m = cc in
      subst (λ (n : Made). IsLowered scope nodes n (λ env. looked_up name env)) same (record {
        made = record { added = []; grows = sym (append-nil nodes); room = over.room; table = over.table; term = h };
        says = λ schedule env fits agrees. subst (λ (f : Found). found_value nodes schedule f (looked_up name env)) is (agrees name);
      })
  found_lowered (declared_at place sort.Int) name m is h e =
      let by : List NamedValue → Value = λ schedule. whole (get_or (point_values schedule) (place + 1) (pos 0)) in
      let same : record { nodes = nodes; is = linear_term (point_alone (place + 1)) } ≡ m = cc in
      worth_lowered m (λ env. looked_up name env) by
      (linear_worth sorts nodes over.room over.table (point_alone (place + 1)) m by (point_linear place h) same (λ schedule. ap whole (value-point (point_values schedule) (place + 1))))
      (λ schedule env fits agrees.
      subst (λ (f : Found). found_value nodes schedule f (looked_up name env)) is (agrees name)
      ∙ int_value sorts schedule fits place h
      ∙ next_point (λ k. whole (get_or (map point_value schedule) place (pos 0)) ≡ whole (get_or (point_values schedule) k (pos 0))) place refl)
  found_lowered (declared_at place sort.Bool) name m is h e =
      let by : List NamedValue → Value = λ schedule. truth (int_le (get_or (point_values schedule) (place + 1) (pos 0) -ℤ pos 0) (pos 0)) in
      worth_lowered m (λ env. looked_up name env) by
      (formula_worth sorts nodes over.room (placed nodes (atom (record { x = place + 1; y = 0; c = pos 0 }))) m (λ values. literal_truth values (record { x = place + 1; y = 0; c = pos 0 })) by
      (λ p f. placed-made (IsAtomFor sorts) nodes over.table (atom (record { x = place + 1; y = 0; c = pos 0 })) (name_atom place h) p f) (λ schedule. refl) e)
      (λ schedule env fits agrees.
      subst (λ (f : Found). found_value nodes schedule f (looked_up name env)) is (agrees name)
      ∙ bool_value sorts schedule fits place h
      ∙ next_point (λ k. truth (int_le (get_or (map point_value schedule) place (pos 0) -ℤ pos 0) (pos 0)) ≡ truth (int_le (get_or (point_values schedule) k (pos 0) -ℤ pos 0) (pos 0))) place refl)

  -- ---- symbols and numerals

  symbol_by : (name : List ℕ) (m : Made) (b c r : Bool) → cond b (as_formula (constant nodes)) (cond c (as_formula (falsehood nodes)) (cond r (Err IllFormedTerm) (lowered_found nodes (found scope name)))) ≡ Ok m
      → IsLowered scope nodes m (λ env. cond b (truth true) (cond c (truth false) (looked_up name env)))
  symbol_by name m true c r e =
      worth_lowered m (λ env. truth true) (λ schedule. truth true)
      (formula_worth sorts nodes over.room (constant nodes) m (λ values. true) (λ schedule. truth true) (constant-made (IsAtomFor sorts) nodes over.table) (λ schedule. refl) e) (λ schedule env fits agrees. refl)
  symbol_by name m false true r e =
      worth_lowered m (λ env. truth false) (λ schedule. truth false)
      (formula_worth sorts nodes over.room (falsehood nodes) m (λ values. false) (λ schedule. truth false) (λ p f. falsehood-made (IsAtomFor sorts) (atom_negates sorts) nodes p over.table f) (λ schedule. refl) e) (λ schedule env fits agrees. refl)
  symbol_by name m false false true e = absurd cc
  symbol_by name m false false false e = found_lowered (found scope name) name m refl (found_in scope nodes over name) e

  number_limited : (n : ℕ) → n ≤ constant_limit → is_limited (number_alone (pos n)) ≡ true
  number_limited n h = grind (arith, ints)

  numeral_by : (n : ℕ) (m : Made) (b : Bool) → nat_le n constant_limit ≡ b → cond b (Ok (record { nodes = nodes; is = linear_term (number_alone (pos n)) })) (Err BoundTooLarge) ≡ Ok m → IsLowered scope nodes m (λ env. whole (pos n))
  numeral_by n m false f e = absurd cc
  numeral_by n m true f e =
      let same : record { nodes = nodes; is = linear_term (number_alone (pos n)) } ≡ m = cc in
      let small : n ≤ constant_limit = grind (arith, nat_tests) in
      worth_lowered m (λ env. whole (pos n)) (λ schedule. whole (pos n))
      (linear_worth sorts nodes over.room over.table (number_alone (pos n)) m (λ schedule. whole (pos n))
      (record { linear = record { ascends = tt; over = tt; limited = number_limited n small }; points = tt }) same (λ schedule. ap whole (value-number (point_values schedule) (pos n))))
      (λ schedule env fits agrees. refl)

  pub leaf_lowered : (kind : TokenKind) (text : List ℕ) (m : Made) → lowered_leaf scope nodes kind text ≡ Ok m → IsLowered scope nodes m (λ env. leaf_value env kind text)
  unfolding lowered_leaf
  leaf_lowered Left text m e = absurd cc
  leaf_lowered Right text m e = absurd cc
  leaf_lowered Numeral text m e = numeral_by (value_of text) m (nat_le (value_of text) constant_limit) refl e
  leaf_lowered Decimal text m e = absurd cc
  leaf_lowered Hex text m e = absurd cc
  leaf_lowered Binary text m e = absurd cc
  leaf_lowered Text text m e = absurd cc
  leaf_lowered Symbol text m e = symbol_by text m (bytes_eq text (codes "true")) (bytes_eq text (codes "false")) (is_reserved text) e
  leaf_lowered Keyword text m e = absurd cc

-- ---- heads

-- what a head is read as is what it names
abbrev pub HeadSays : Sexpr → Head → Type 0
HeadSays head (operator o) = (is_symbol (codes "let") head ≡ false) × (operator_at head ≡ Some o)
HeadSays head binder = is_symbol (codes "let") head ≡ true
HeadSays head (refused why) = Unit {0}

refused_says : (head : Sexpr) (b : Bool) (r s : TermRefusal) → HeadSays head (cond b (refused r) (refused s))
refused_says head true r s = tt
refused_says head false r s = tt

list_head_says : (head : Sexpr) (b c : Bool) (r s t : TermRefusal) → HeadSays head (cond b (refused r) (cond c (refused s) (refused t)))
list_head_says head true c r s t = tt
list_head_says head false c r s t = refused_says head c s t

left_out_head : (scope : Scope) (name : List ℕ) (c : LeftOutTerm) → left_out_of name ≡ Some c → no_operator scope name ≡ refused (LeftOut c)
left_out_head scope name c e = rw (e, no_operator) refl

another_head : (scope : Scope) (name : List ℕ) → left_out_of name ≡ None → no_operator scope name ≡ other_head scope name
another_head scope name e = rw (e, no_operator) refl

no_operator_says : (scope : Scope) (name : List ℕ) (found : Option LeftOutTerm) → left_out_of name ≡ found → HeadSays (leaf Symbol name) (no_operator scope name)
no_operator_says scope name (Some c) e = subst (HeadSays (leaf Symbol name)) (sym (left_out_head scope name c e)) tt
no_operator_says scope name None e =
    subst (HeadSays (leaf Symbol name)) (sym (another_head scope name e)) (refused_says (leaf Symbol name) (is_reserved name || is_known scope name) IllFormedTerm UnknownSymbol)

module _ (scope : Scope) (name : List ℕ) where
  let_head : bytes_eq name (codes "let") ≡ true → symbol_head scope name ≡ binder
  let_head e = rw e refl

  operator_head : (o : Operator) → bytes_eq name (codes "let") ≡ false → operator_of name ≡ Some o → symbol_head scope name ≡ operator o
  operator_head o e f = rw (e, f) refl

  no_operator_head : bytes_eq name (codes "let") ≡ false → operator_of name ≡ None → symbol_head scope name ≡ no_operator scope name
  no_operator_head e f = rw (e, f) refl

  symbol_says : (b : Bool) (found : Option Operator) → bytes_eq name (codes "let") ≡ b → operator_of name ≡ found → HeadSays (leaf Symbol name) (symbol_head scope name)
  symbol_says true found e f = subst (HeadSays (leaf Symbol name)) (sym (let_head e)) e
  symbol_says false (Some o) e f = subst (HeadSays (leaf Symbol name)) (sym (operator_head o e f)) (e, f)
  symbol_says false None e f = subst (HeadSays (leaf Symbol name)) (sym (no_operator_head e f)) (no_operator_says scope name (left_out_of name) refl)

pub head_says : (scope : Scope) (head : Sexpr) → HeadSays head (head_of scope head)
unfolding head_of
head_says scope (leaf Symbol text) = symbol_says scope text (bytes_eq text (codes "let")) (operator_of text) refl refl
head_says scope (leaf Left text) = tt
head_says scope (leaf Right text) = tt
head_says scope (leaf Numeral text) = tt
head_says scope (leaf Decimal text) = tt
head_says scope (leaf Hex text) = tt
head_says scope (leaf Binary text) = tt
head_says scope (leaf Text text) = tt
head_says scope (leaf Keyword text) = tt
head_says scope (list none) = tt
head_says scope (list (more first rest)) = list_head_says (list (more first rest)) (is_symbol (codes "as") first) (is_symbol (codes "_") first) (LeftOut left_out.As) (LeftOut left_out.Underscore) IllFormedTerm
