-- What an operator makes of its arguments, which were read: first their sorts are tested, then the operator's own refusals
-- come in the order in which its parts are made.
use Rattle.std.specs.Prelude.{ℕ, ◌+◌, List, [], ◌∷◌, map, length, Bool, if◌then◌else◌, Option, Some, None, Result, Ok, Err}
use Rattle.std.specs.List.{list_all}
use Rattle.idl_linear.specs.Linear.{LinearValue, sum_of, less_others, is_limited}
use Rattle.idl_node.specs.Making.{denied, conjoined, disjoined, chosen, exclusive, implied, all_equal, all_different}
use Rattle.idl_node.specs.Nodes.{NodeValue, Placed}
use Rattle.idl_apply.specs.Comparing.{follows, or_too_large, all_compared}
use Rattle.idl_cases.specs.Guarded.{CaseValue, branched}
use Rattle.idl_scope.specs.Scopes.{LoweredTerm, formula, numeric}
use Rattle.idl_apply.specs.Choices.{Choice, choices, count_from, where_few}
use Rattle.idl_apply.specs.declared.error.TermRefusal.{TermRefusal}
use Rattle.idl_apply.specs.declared.error.TermRefusal.TheVariants.{WrongCount, WrongSort, BoundTooLarge}
use Rattle.idl_apply.specs.declared.operator.Connective.{Connective}
use Rattle.idl_apply.specs.declared.operator.Connective.TheVariants as connective
use Rattle.idl_apply.specs.declared.operator.Order.{Order}
use Rattle.idl_apply.specs.declared.operator.Order.TheVariants as order
use Rattle.idl_apply.specs.declared.operator.Sign.{Sign}
use Rattle.idl_apply.specs.declared.operator.Sign.TheVariants as sign
use Rattle.idl_apply.specs.declared.operator.Equality.{Equality}
use Rattle.idl_apply.specs.declared.operator.Equality.TheVariants as equality
use Rattle.idl_apply.specs.declared.operator.Operator.{Operator}
use Rattle.idl_apply.specs.declared.operator.Operator.TheVariants as op
use Rattle.idl_apply.specs.declared.comparing.Relation.{Relation}
use Rattle.idl_apply.specs.declared.comparing.Relation.TheVariants as relation

-- a term, with the table that its making left
pub record Made : Type 0 where
  pub nodes : List NodeValue
  pub is : LoweredTerm

abbrev pub a_formula : Placed → Result Made TermRefusal
a_formula p = Ok (record { nodes = p.nodes; is = formula p.number })

-- a node, where there is room for it
abbrev pub as_formula : Option Placed → Result Made TermRefusal
as_formula made = follows (or_too_large made) a_formula

-- an Int term of these cases
abbrev pub a_number : List NodeValue → List CaseValue → Made
a_number nodes cases = record { nodes = nodes; is = numeric cases }

abbrev pub are_limited : List CaseValue → Bool
are_limited cases = list_all (λ (c : CaseValue). is_limited c.linear) cases

-- an Int term within the limits in each of its cases
abbrev pub as_number : List NodeValue → List CaseValue → Result Made TermRefusal
as_number nodes cases = if are_limited cases then Ok (a_number nodes cases) else Err BoundTooLarge

-- ---- sorts

abbrev pub formula_before : LoweredTerm → Option (List ℕ) → Option (List ℕ)
formula_before (formula k) (Some ks) = Some (k ∷ ks)
formula_before _ _ = None

abbrev pub number_before : LoweredTerm → Option (List (List CaseValue)) → Option (List (List CaseValue))
number_before (numeric cases) (Some terms) = Some (cases ∷ terms)
number_before _ _ = None

-- the nodes of terms that are all Bool, and the cases of terms that are all Int
abbrev pub formulas_in : List LoweredTerm → Option (List ℕ)
formulas_in [] = Some []
formulas_in (t ∷ ts) = formula_before t (formulas_in ts)

abbrev pub numbers_in : List LoweredTerm → Option (List (List CaseValue))
numbers_in [] = Some []
numbers_in (t ∷ ts) = number_before t (numbers_in ts)

-- ---- operators on formulas

-- a connective on as many nodes as it takes; another number of them is refused before
abbrev pub connected : Connective → List NodeValue → List ℕ → Result Made TermRefusal
connected connective.Not nodes (a ∷ []) = as_formula (denied nodes a)
connected connective.Not nodes _ = Err WrongCount
connected connective.Implies nodes members = as_formula (implied nodes [] members)
connected connective.And nodes members = as_formula (conjoined nodes members)
connected connective.Or nodes members = as_formula (disjoined nodes members)
connected connective.Xor nodes [] = Err WrongCount
connected connective.Xor nodes (a ∷ rest) = as_formula (exclusive nodes a rest)

abbrev pub equal_formulas : Equality → List NodeValue → List ℕ → Result Made TermRefusal
equal_formulas equality.Equal nodes members = as_formula (all_equal nodes members)
equal_formulas equality.Distinct nodes members = as_formula (all_different nodes members)

-- ---- operators on numbers

abbrev pub linear_sum : Sign → List LinearValue → LinearValue
linear_sum sign.Plus ls = sum_of ls
linear_sum sign.Minus ls = less_others ls

-- the sum in one case of each of its terms
abbrev pub sum_case : Sign → Choice → CaseValue
sum_case s choice = record { guards = choice.guards; linear = linear_sum s choice.linears }

abbrev pub sum_cases : Sign → List (List CaseValue) → List CaseValue
sum_cases s terms = map (sum_case s) (choices terms)

-- the limits hold of the total in each case, and not of its parts
abbrev pub summed : Sign → List NodeValue → List (List CaseValue) → Result Made TermRefusal
summed s nodes terms = where_few (count_from 1 terms) (as_number nodes (sum_cases s terms))

abbrev pub related_numbers : Relation → List NodeValue → List (List CaseValue) → Result Made TermRefusal
related_numbers r nodes terms = follows (all_compared r nodes terms) a_formula

abbrev pub relation_of_order : Order → Relation
relation_of_order order.AtMost = relation.AtMost
relation_of_order order.Less = relation.Less
relation_of_order order.AtLeast = relation.AtLeast
relation_of_order order.Greater = relation.Greater

abbrev pub relation_of_equality : Equality → Relation
relation_of_equality equality.Equal = relation.Equal
relation_of_equality equality.Distinct = relation.Distinct

-- ---- all operators

-- what is made of arguments that all have the sort
abbrev pub of_sort : {A : Type 0} → (A → Result Made TermRefusal) → Option A → Result Made TermRefusal
of_sort make None = Err WrongSort
of_sort make (Some members) = make members

-- `=` and `distinct`: all arguments have the first one's sort
abbrev pub of_first_sort : Equality → List NodeValue → List LoweredTerm → Result Made TermRefusal
of_first_sort e nodes [] = Err WrongSort
of_first_sort e nodes (formula k ∷ ts) = of_sort (equal_formulas e nodes) (formulas_in (formula k ∷ ts))
of_first_sort e nodes (numeric cases ∷ ts) = of_sort (related_numbers (relation_of_equality e) nodes) (numbers_in (numeric cases ∷ ts))

-- `ite` of Int terms: the first one's cases where the condition is true, and then the second one's where it is not
abbrev pub branches_made : List NodeValue → ℕ → List CaseValue → List CaseValue → Result Made TermRefusal
branches_made nodes c a b =
    where_few (length a + length b) (follows (or_too_large (denied nodes c)) (λ p. Ok (a_number p.nodes (branched c p.number a b))))

-- `ite`: a Bool condition, and two branches of one sort
abbrev pub of_branches : List NodeValue → List LoweredTerm → Result Made TermRefusal
of_branches nodes (formula c ∷ formula a ∷ formula b ∷ []) = as_formula (chosen nodes c a b)
of_branches nodes (formula c ∷ numeric a ∷ numeric b ∷ []) = branches_made nodes c a b
of_branches nodes _ = Err WrongSort

unfoldable pub applied : Operator → List NodeValue → List LoweredTerm → Result Made TermRefusal
applied (op.Connective c) nodes ts = of_sort (connected c nodes) (formulas_in ts)
applied (op.Sum s) nodes ts = of_sort (summed s nodes) (numbers_in ts)
applied (op.Order o) nodes ts = of_sort (related_numbers (relation_of_order o) nodes) (numbers_in ts)
applied (op.Equality e) nodes ts = of_first_sort e nodes ts
applied op.Ite nodes ts = of_branches nodes ts
