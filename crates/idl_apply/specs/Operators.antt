-- The operators of terms, and the other symbols that stand in terms (SMT-LIB 2.6, theories Core and Ints, and section 3.1).
use Rattle.std.specs.Prelude.{ℕ, List, [], ◌∷◌, Bool, ◌||◌, ◌==◌, nat_le, codes, if◌then◌else◌, Option, Some, None, option_map}
use Rattle.std.specs.List.{list_any}
use Rattle.std.specs.Str.{bytes_eq}
use Rattle.idl_apply.specs.declared.operator.Connective.{Connective}
use Rattle.idl_apply.specs.declared.operator.Connective.TheVariants as connective
use Rattle.idl_apply.specs.declared.operator.Order.{Order}
use Rattle.idl_apply.specs.declared.operator.Order.TheVariants as order
use Rattle.idl_apply.specs.declared.operator.Sign.{Sign}
use Rattle.idl_apply.specs.declared.operator.Sign.TheVariants as sign
use Rattle.idl_apply.specs.declared.operator.Equality.{Equality}
use Rattle.idl_apply.specs.declared.operator.Equality.TheVariants as equality
use Rattle.idl_apply.specs.declared.operator.Operator.{Operator}
use Rattle.idl_apply.specs.declared.operator.Operator.TheVariants as op
use Rattle.idl_apply.specs.declared.error.LeftOutTerm.{LeftOutTerm}
use Rattle.idl_apply.specs.declared.error.LeftOutTerm.TheVariants as left_out

-- the operator that a symbol names, by its kind
unfoldable pub connective_of : List ℕ → Option Connective
connective_of name =
    if bytes_eq name (codes "and") then Some connective.And
    else (if bytes_eq name (codes "or") then Some connective.Or
    else (if bytes_eq name (codes "not") then Some connective.Not
    else (if bytes_eq name (codes "=>") then Some connective.Implies
    else (if bytes_eq name (codes "xor") then Some connective.Xor
    else None))))

unfoldable pub order_of : List ℕ → Option Order
order_of name =
    if bytes_eq name (codes "<=") then Some order.AtMost
    else (if bytes_eq name (codes "<") then Some order.Less
    else (if bytes_eq name (codes ">=") then Some order.AtLeast
    else (if bytes_eq name (codes ">") then Some order.Greater
    else None)))

unfoldable pub sign_of : List ℕ → Option Sign
sign_of name =
    if bytes_eq name (codes "+") then Some sign.Plus
    else (if bytes_eq name (codes "-") then Some sign.Minus
    else None)

unfoldable pub equality_of : List ℕ → Option Equality
equality_of name =
    if bytes_eq name (codes "=") then Some equality.Equal
    else (if bytes_eq name (codes "distinct") then Some equality.Distinct
    else None)

-- the first of two, where there is one
abbrev pub or_else : Option Operator → Option Operator → Option Operator
or_else (Some o) other = Some o
or_else None other = other

unfoldable pub operator_of : List ℕ → Option Operator
operator_of name =
    or_else (option_map (λ c. op.Connective c) (connective_of name))
    (or_else (option_map (λ o. op.Order o) (order_of name))
    (or_else (option_map (λ s. op.Sum s) (sign_of name))
    (or_else (option_map (λ e. op.Equality e) (equality_of name))
    (if bytes_eq name (codes "ite") then Some op.Ite else None))))

-- what is left out, by the symbol at the head of a term
unfoldable pub left_out_of : List ℕ → Option LeftOutTerm
left_out_of name =
    if bytes_eq name (codes "forall") then Some left_out.Forall
    else (if bytes_eq name (codes "exists") then Some left_out.Exists
    else (if bytes_eq name (codes "match") then Some left_out.Match
    else (if bytes_eq name (codes "as") then Some left_out.As
    else (if bytes_eq name (codes "_") then Some left_out.Underscore
    else (if bytes_eq name (codes "!") then Some left_out.Annotation
    else (if bytes_eq name (codes "*") then Some left_out.Times
    else (if bytes_eq name (codes "div") then Some left_out.Div
    else (if bytes_eq name (codes "mod") then Some left_out.Mod
    else (if bytes_eq name (codes "abs") then Some left_out.Abs
    else None)))))))))

-- The symbols that may not be declared, defined or bound: those of the theories Core and Ints, and the reserved words that
-- stand in terms. The standard's list of reserved words has also BINARY, DECIMAL, HEXADECIMAL, NUMERAL, STRING and the
-- names of commands, which may be declared here.
unfoldable pub theory_symbols : List (List ℕ)
theory_symbols = codes "true" ∷ codes "false" ∷ codes "not" ∷ codes "=>" ∷ codes "and" ∷ codes "or" ∷ codes "xor" ∷ codes "=" ∷ codes "distinct" ∷ codes "ite" ∷ codes "+" ∷ codes "-" ∷ codes "*" ∷ codes "div" ∷ codes "mod" ∷ codes "abs" ∷ codes "<=" ∷ codes "<" ∷ codes ">=" ∷ codes ">" ∷ []

unfoldable pub reserved_words : List (List ℕ)
reserved_words = codes "let" ∷ codes "forall" ∷ codes "exists" ∷ codes "match" ∷ codes "as" ∷ codes "par" ∷ codes "!" ∷ codes "_" ∷ []

abbrev pub is_reserved : List ℕ → Bool
is_reserved name = list_any (bytes_eq name) theory_symbols || list_any (bytes_eq name) reserved_words

-- how many arguments an operator has
abbrev pub takes_count : Operator → ℕ → Bool
takes_count (op.Connective connective.Not) n = n == 1
takes_count (op.Connective connective.And) n = nat_le 1 n
takes_count (op.Connective connective.Or) n = nat_le 1 n
takes_count (op.Sum s) n = nat_le 1 n
takes_count (op.Connective connective.Implies) n = nat_le 2 n
takes_count (op.Connective connective.Xor) n = nat_le 2 n
takes_count (op.Order order) n = nat_le 2 n
takes_count (op.Equality equality) n = nat_le 2 n
takes_count op.Ite n = n == 3
