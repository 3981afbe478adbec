-- What a term is made into, with the table that its making leaves, or the first refusal. The refusals of an application come
-- in this order: its head; its count; its arguments from left to right, each wholly; their sorts; the operator's own.
-- That order is this project's own. Terms: SMT-LIB 2.6, section 3.6.
use Rattle.std.specs.Prelude.{ℕ, ◌+◌, suc, List, [], ◌∷◌, ◌++◌, Bool, true, false, not, ◌&&◌, ◌||◌, nat_le, codes, if◌then◌else◌, Option, Some, None, Result, Ok, Err, pos}
use Rattle.std.specs.List.{list_any}
use Rattle.std.specs.Str.{bytes_eq}
use Rattle.smt_lex.specs.declared.token.TokenKind.{TokenKind}
use Rattle.smt_lex.specs.declared.token.TokenKind.TheVariants.{Left, Right, Numeral, Decimal, Hex, Binary, Text, Symbol, Keyword}
use Rattle.smt_lex.specs.Numbers.{value_of}
use Rattle.smt_sexpr.specs.Tree.{Sexpr, Items, leaf, list, none, more, symbol_of}
use Rattle.idl_linear.specs.Limits.{constant_limit}
use Rattle.idl_linear.specs.Linear.{number_alone, point_alone}
use Rattle.idl_node.specs.declared.sort.Sort.{Sort}
use Rattle.idl_node.specs.declared.sort.Sort.TheVariants as sort
use Rattle.idl_node.specs.Making.{constant, falsehood}
use Rattle.idl_node.specs.Nodes.{NodeValue, atom, placed}
use Rattle.idl_apply.specs.Applied.{Made, as_formula, applied}
use Rattle.idl_apply.specs.Comparing.{follows}
use Rattle.smt_sexpr.specs.Shapes.{is_symbol}
use Rattle.idl_apply.specs.Operators.{is_reserved, left_out_of, operator_of, takes_count}
use Rattle.idl_scope.specs.Scopes.{LoweredTerm, linear_term, bindings_of, Scope, Found, declared_at, stands_for, unknown, found, is_known}
use Rattle.idl_apply.specs.declared.error.LeftOutTerm.TheVariants as left_out
use Rattle.idl_apply.specs.declared.error.TermRefusal.{TermRefusal}
use Rattle.idl_apply.specs.declared.error.TermRefusal.TheVariants.{UnknownSymbol, IllFormedTerm, WrongCount, BoundTooLarge, LeftOut}
use Rattle.idl_apply.specs.declared.operator.Operator.{Operator}

-- ---- leaves

-- a declared Int name is its time point's value; a declared Bool name p is the atom (p 0 0)
abbrev pub lowered_name : List NodeValue → ℕ → Sort → Result Made TermRefusal
lowered_name nodes place sort.Int = Ok (record { nodes = nodes; is = linear_term (point_alone (place + 1)) })
lowered_name nodes place sort.Bool = as_formula (placed nodes (atom (record { x = place + 1; y = 0; c = pos 0 })))

abbrev pub lowered_found : List NodeValue → Found → Result Made TermRefusal
lowered_found nodes (declared_at place s) = lowered_name nodes place s
lowered_found nodes (stands_for t) = Ok (record { nodes = nodes; is = t })
lowered_found nodes unknown = Err UnknownSymbol

abbrev pub lowered_symbol : Scope → List NodeValue → List ℕ → Result Made TermRefusal
lowered_symbol scope nodes name =
    if bytes_eq name (codes "true") then as_formula (constant nodes)
    else (if bytes_eq name (codes "false") then as_formula (falsehood nodes)
    else (if is_reserved name then Err IllFormedTerm
    else lowered_found nodes (found scope name)))

abbrev pub lowered_numeral : List NodeValue → ℕ → Result Made TermRefusal
lowered_numeral nodes n = if nat_le n constant_limit then Ok (record { nodes = nodes; is = linear_term (number_alone (pos n)) }) else Err BoundTooLarge

unfoldable pub lowered_leaf : Scope → List NodeValue → TokenKind → List ℕ → Result Made TermRefusal
lowered_leaf scope nodes Symbol text = lowered_symbol scope nodes text
lowered_leaf scope nodes Numeral text = lowered_numeral nodes (value_of text)
lowered_leaf scope nodes Decimal text = Err (LeftOut left_out.Decimal)
lowered_leaf scope nodes Hex text = Err (LeftOut left_out.Hexadecimal)
lowered_leaf scope nodes Binary text = Err (LeftOut left_out.Binary)
lowered_leaf scope nodes Text text = Err (LeftOut left_out.String)
lowered_leaf scope nodes Keyword text = Err IllFormedTerm
lowered_leaf scope nodes Left text = Err IllFormedTerm
lowered_leaf scope nodes Right text = Err IllFormedTerm

-- ---- heads

-- what a list begins with
pub data Head : Type 0 where
  operator : (o : Operator) → Head
  -- `let`
  binder : Head
  refused : (why : TermRefusal) → Head

abbrev pub other_head : Scope → List ℕ → Head
other_head scope name = if is_reserved name || is_known scope name then refused IllFormedTerm else refused UnknownSymbol

abbrev pub no_operator : Scope → List ℕ → Head
no_operator scope name = elim (left_out_of name) [
  | Some c ↦ refused (LeftOut c)
  | None ↦ other_head scope name
]

abbrev pub symbol_head : Scope → List ℕ → Head
symbol_head scope name =
    if bytes_eq name (codes "let") then binder
    else elim (operator_of name) [
      | Some o ↦ operator o
      | None ↦ no_operator scope name
    ]

-- a head that is a list: `(as ..)` and `(_ ..)` are left out
abbrev pub list_head : Items → Head
list_head none = refused IllFormedTerm
list_head (more first rest) =
    if is_symbol (codes "as") first then refused (LeftOut left_out.As)
    else (if is_symbol (codes "_") first then refused (LeftOut left_out.Underscore)
    else refused IllFormedTerm)

abbrev pub head_by : Scope → Option (List ℕ) → Head
head_by scope (Some name) = symbol_head scope name
head_by scope None = refused IllFormedTerm

unfoldable pub head_of : Scope → Sexpr → Head
head_of scope (leaf kind text) = head_by scope (symbol_of (leaf kind text))
head_of scope (list items) = list_head items

abbrev pub count_of : Items → ℕ
count_of none = 0
count_of (more x xs) = suc (count_of xs)

-- ---- the shape of a `let`

-- (v t), where v may be bound
abbrev pub may_be_bound : Option (List ℕ) → Bool
may_be_bound (Some name) = not (is_reserved name)
may_be_bound None = false

abbrev pub is_binding : Sexpr → Bool
is_binding (list (more v (more t none))) = may_be_bound (symbol_of v)
is_binding _ = false

abbrev pub are_bindings : Items → Bool
are_bindings none = true
are_bindings (more b bs) = is_binding b && are_bindings bs

-- the variable of a binding
abbrev pub name_in : Option (List ℕ) → List ℕ
name_in (Some name) = name
name_in None = []

abbrev pub variable_in : Sexpr → List ℕ
variable_in (list (more v rest)) = name_in (symbol_of v)
variable_in _ = []

abbrev pub variables_in : Items → List (List ℕ)
variables_in none = []
variables_in (more b bs) = variable_in b ∷ variables_in bs

abbrev pub are_different : List (List ℕ) → Bool
are_different [] = true
are_different (name ∷ names) = not (list_any (bytes_eq name) names) && are_different names

-- one or more bindings of different variables, and a body
unfoldable pub is_let : Items → Bool
is_let (more (list (more b bs)) (more body none)) = are_bindings (more b bs) && are_different (variables_in (more b bs))
is_let _ = false

abbrev pub variables_of : Sexpr → List (List ℕ)
variables_of (list bs) = variables_in bs
variables_of (leaf kind text) = []

-- ---- terms

-- terms, with the table that their making left
pub record MadeEach : Type 0 where
  pub nodes : List NodeValue
  pub are : List LoweredTerm

abbrev pub put_first : Made → MadeEach → Result MadeEach TermRefusal
put_first m rest = Ok (record { nodes = rest.nodes; are = m.is ∷ rest.are })

-- a scope in which these variables stand for these terms too
abbrev pub with_bound : Scope → List (List ℕ) → List LoweredTerm → Scope
with_bound scope names terms = record { declared = scope.declared; bound = bindings_of names terms ++ scope.bound }

unfoldable mutual
  pub lowered : Scope → List NodeValue → Sexpr → Result Made TermRefusal
  lowered scope nodes (leaf kind text) = lowered_leaf scope nodes kind text
  lowered scope nodes (list items) = lowered_list scope nodes items

  pub lowered_list : Scope → List NodeValue → Items → Result Made TermRefusal
  lowered_list scope nodes none = Err IllFormedTerm
  lowered_list scope nodes (more head arguments) = elim (head_of scope head) [
    | operator o ↦ if takes_count o (count_of arguments) then follows (lowered_each scope nodes arguments) (λ made. applied o made.nodes made.are) else Err WrongCount
    | binder ↦ if is_let arguments then lowered_let scope nodes arguments else Err IllFormedTerm
    | refused why ↦ Err why
  ]

  -- arguments, from left to right
  pub lowered_each : Scope → List NodeValue → Items → Result MadeEach TermRefusal
  lowered_each scope nodes none = Ok (record { nodes = nodes; are = [] })
  lowered_each scope nodes (more x xs) = follows (lowered scope nodes x) (λ m. follows (lowered_each scope m.nodes xs) (put_first m))

  -- the bindings' terms are read outside, then the body with all variables at once
  pub lowered_let : Scope → List NodeValue → Items → Result Made TermRefusal
  lowered_let scope nodes none = Err IllFormedTerm
  lowered_let scope nodes (more bindings rest) = follows (lowered_bindings scope nodes bindings) (λ made. lowered_first (with_bound scope (variables_of bindings) made.are) made.nodes rest)

  -- the first of some terms
  pub lowered_first : Scope → List NodeValue → Items → Result Made TermRefusal
  lowered_first scope nodes none = Err IllFormedTerm
  lowered_first scope nodes (more t rest) = lowered scope nodes t

  pub lowered_bindings : Scope → List NodeValue → Sexpr → Result MadeEach TermRefusal
  lowered_bindings scope nodes (leaf kind text) = Err IllFormedTerm
  lowered_bindings scope nodes (list bindings) = lowered_bound scope nodes bindings

  pub lowered_bound : Scope → List NodeValue → Items → Result MadeEach TermRefusal
  lowered_bound scope nodes none = Ok (record { nodes = nodes; are = [] })
  lowered_bound scope nodes (more b bs) = follows (lowered_binding scope nodes b) (λ m. follows (lowered_bound scope m.nodes bs) (put_first m))

  -- the term of a binding
  pub lowered_binding : Scope → List NodeValue → Sexpr → Result Made TermRefusal
  lowered_binding scope nodes (leaf kind text) = Err IllFormedTerm
  lowered_binding scope nodes (list items) = lowered_second scope nodes items

  pub lowered_second : Scope → List NodeValue → Items → Result Made TermRefusal
  lowered_second scope nodes none = Err IllFormedTerm
  lowered_second scope nodes (more v rest) = lowered_first scope nodes rest
