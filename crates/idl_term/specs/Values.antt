-- The value of a term, by recursion on the term (SMT-LIB 2.6, section 3.6, and the theories Core and Ints).
use Rattle.std.specs.Prelude.{ℕ, List, [], ◌∷◌, ◌++◌, Bool, true, false, not, ◌&&◌, ◌||◌, codes, if◌then◌else◌, ℤ, pos, neg_ℤ, ◌+ℤ◌, ◌-ℤ◌, int_lt, int_le, Option, Some, None}
use Rattle.std.specs.Ordering.{int_eq}
use Rattle.std.specs.Str.{bytes_eq}
use Rattle.smt_lex.specs.declared.token.TokenKind.{TokenKind}
use Rattle.smt_lex.specs.declared.token.TokenKind.TheVariants.{Left, Right, Numeral, Decimal, Hex, Binary, Text, Symbol, Keyword}
use Rattle.smt_lex.specs.Numbers.{value_of}
use Rattle.smt_sexpr.specs.Tree.{Sexpr, Items, leaf, list, none, more, symbol_of}
use Rattle.idl_node.specs.Truth.{equal_truth, different_truth, exclusive_truth, implied_truth, chain, all_pairs}
use Rattle.idl_apply.specs.declared.operator.Connective.{Connective}
use Rattle.idl_apply.specs.declared.operator.Connective.TheVariants as connective
use Rattle.idl_apply.specs.declared.operator.Order.{Order}
use Rattle.idl_apply.specs.declared.operator.Order.TheVariants as order
use Rattle.idl_apply.specs.declared.operator.Sign.{Sign}
use Rattle.idl_apply.specs.declared.operator.Sign.TheVariants as sign
use Rattle.idl_apply.specs.declared.operator.Equality.{Equality}
use Rattle.idl_apply.specs.declared.operator.Equality.TheVariants as equality
use Rattle.idl_apply.specs.declared.operator.Operator.{Operator}
use Rattle.idl_apply.specs.declared.operator.Operator.TheVariants as op
use Rattle.smt_sexpr.specs.Shapes.{is_symbol}
use Rattle.idl_apply.specs.Operators.{operator_of}

-- what a term stands for: a whole number, a truth value, or nothing where there is no such value, as where the term is
-- ill-sorted. A term that is refused may have one: `(and)` is true.
pub data Value : Type 0 where
  whole : (number : ℤ) → Value
  truth : (holds : Bool) → Value
  nothing : Value

-- what names stand for
pub record Named : Type 0 where
  pub name : List ℕ
  pub value : Value

-- a name's value: the first of that name counts
abbrev pub looked_up : List ℕ → List Named → Value
looked_up name [] = nothing
looked_up name (n ∷ rest) = if bytes_eq name n.name then n.value else looked_up name rest

abbrev pub symbol_value : List Named → List ℕ → Value
symbol_value env name =
    if bytes_eq name (codes "true") then truth true
    else (if bytes_eq name (codes "false") then truth false
    else looked_up name env)

abbrev pub leaf_value : List Named → TokenKind → List ℕ → Value
leaf_value env Numeral text = whole (pos (value_of text))
leaf_value env Symbol text = symbol_value env text
leaf_value env Decimal text = nothing
leaf_value env Hex text = nothing
leaf_value env Binary text = nothing
leaf_value env Text text = nothing
leaf_value env Keyword text = nothing
leaf_value env Left text = nothing
leaf_value env Right text = nothing

-- ---- operators

abbrev pub any_true : List Bool → Bool
any_true [] = false
any_true (a ∷ rest) = a || any_true rest

abbrev pub all_true : List Bool → Bool
all_true [] = true
all_true (a ∷ rest) = a && all_true rest

-- a connective on truth values: `xor` goes from the left, `=>` from the right
abbrev pub connective_value : Connective → List Bool → Value
connective_value connective.Not (a ∷ []) = truth (not a)
connective_value connective.Not _ = nothing
connective_value connective.Implies truths = truth (implied_truth truths)
connective_value connective.And truths = truth (all_true truths)
connective_value connective.Or truths = truth (any_true truths)
connective_value connective.Xor [] = nothing
connective_value connective.Xor (a ∷ rest) = truth (exclusive_truth a rest)

abbrev pub total : List ℤ → ℤ
total [] = pos 0
total (n ∷ ns) = n +ℤ total ns

-- `-` of one number is its negative, of more the first less the others
abbrev pub remainder : List ℤ → Value
remainder [] = nothing
remainder (n ∷ []) = whole (neg_ℤ n)
remainder (n ∷ m ∷ ms) = whole (n -ℤ total (m ∷ ms))

abbrev pub other_number : ℤ → ℤ → Bool
other_number a b = not (int_eq a b)

abbrev pub sum_value : Sign → List ℤ → Value
sum_value sign.Plus ns = whole (total ns)
sum_value sign.Minus ns = remainder ns

-- an order holds of all neighbours
abbrev pub order_value : Order → List ℤ → Value
order_value order.AtMost ns = truth (chain int_le ns)
order_value order.Less ns = truth (chain int_lt ns)
order_value order.AtLeast ns = truth (chain (λ a b. int_le b a) ns)
order_value order.Greater ns = truth (chain (λ a b. int_lt b a) ns)

-- `=` holds of all neighbours, `distinct` of all pairs; of truth values, and of whole numbers
abbrev pub equal_truths : Equality → List Bool → Value
equal_truths equality.Equal truths = truth (chain equal_truth truths)
equal_truths equality.Distinct truths = truth (all_pairs different_truth truths)

abbrev pub equal_numbers : Equality → List ℤ → Value
equal_numbers equality.Equal ns = truth (chain int_eq ns)
equal_numbers equality.Distinct ns = truth (all_pairs other_number ns)

-- `ite`: the second where the first is true, else the third, which has the same sort
abbrev pub choice_value : List Value → Value
choice_value (truth c ∷ truth a ∷ truth b ∷ []) = truth (if c then a else b)
choice_value (truth c ∷ whole a ∷ whole b ∷ []) = whole (if c then a else b)
choice_value _ = nothing

abbrev pub truth_before : Value → Option (List Bool) → Option (List Bool)
truth_before (truth b) (Some bs) = Some (b ∷ bs)
truth_before _ _ = None

abbrev pub whole_before : Value → Option (List ℤ) → Option (List ℤ)
whole_before (whole n) (Some ns) = Some (n ∷ ns)
whole_before _ _ = None

-- values that are all truth values, or all whole numbers
abbrev pub truths_in : List Value → Option (List Bool)
truths_in [] = Some []
truths_in (v ∷ vs) = truth_before v (truths_in vs)

abbrev pub wholes_in : List Value → Option (List ℤ)
wholes_in [] = Some []
wholes_in (v ∷ vs) = whole_before v (wholes_in vs)

-- the value of what is all of one sort
abbrev pub of_all : {A : Type 0} → (A → Value) → Option A → Value
of_all f None = nothing
of_all f (Some vs) = f vs

-- truth values, or else whole numbers
abbrev pub equality_value : Equality → Option (List Bool) → Option (List ℤ) → Value
equality_value e (Some truths) ns = equal_truths e truths
equality_value e None ns = of_all (equal_numbers e) ns

-- an operator on values
abbrev pub operator_value : Operator → List Value → Value
operator_value (op.Connective c) vs = of_all (connective_value c) (truths_in vs)
operator_value (op.Sum s) vs = of_all (sum_value s) (wholes_in vs)
operator_value (op.Order o) vs = of_all (order_value o) (wholes_in vs)
operator_value (op.Equality e) vs = equality_value e (truths_in vs) (wholes_in vs)
operator_value op.Ite vs = choice_value vs

abbrev pub value_by : Option Operator → List Value → Value
value_by (Some o) vs = operator_value o vs
value_by None vs = nothing

-- the operator that a head names
abbrev pub operator_at : Sexpr → Option Operator
operator_at head = elim (symbol_of head) [
  | None ↦ None
  | Some name ↦ operator_of name
]

-- the variable of a binding
abbrev pub variable_of : Sexpr → List ℕ
variable_of head = elim (symbol_of head) [
  | None ↦ []
  | Some name ↦ name
]

-- ---- terms

abbrev mutual
  -- a term where these names stand for these values
  pub value : List Named → Sexpr → Value
  value env (leaf kind text) = leaf_value env kind text
  value env (list items) = list_value env items

  pub list_value : List Named → Items → Value
  list_value env none = nothing
  list_value env (more head arguments) = if is_symbol (codes "let") head then let_value env arguments else value_by (operator_at head) (values env arguments)

  pub values : List Named → Items → List Value
  values env none = []
  values env (more x xs) = value env x ∷ values env xs

  -- (let ((v t) ..) u): u where each v has its t's value, and each t is read outside
  pub let_value : List Named → Items → Value
  let_value env none = nothing
  let_value env (more bindings rest) = first_value (bound env bindings ++ env) rest

  -- the first of some terms
  pub first_value : List Named → Items → Value
  first_value env none = nothing
  first_value env (more t rest) = value env t

  pub bound : List Named → Sexpr → List Named
  bound env (leaf kind text) = []
  bound env (list items) = bound_each env items

  pub bound_each : List Named → Items → List Named
  bound_each env none = []
  bound_each env (more binding rest) = bound_one env binding ∷ bound_each env rest

  pub bound_one : List Named → Sexpr → Named
  bound_one env (leaf kind text) = record { name = []; value = nothing }
  bound_one env (list items) = bound_pair env items

  pub bound_pair : List Named → Items → Named
  bound_pair env none = record { name = []; value = nothing }
  bound_pair env (more v rest) = record { name = variable_of v; value = first_value env rest }
