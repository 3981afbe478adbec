-- The sum of a point and a number, compared with a number.
use Rattle.std.proofs.Common.{◌≡◌, ◌∙◌, refl, arith, ℕ, ◌+◌, ◌<◌, ◌≤◌, true, List, [], ◌∷◌, length, pos, ◌+ℤ◌}
use Rattle.std.specs.Prelude.{codes}
use Rattle.std.proofs.lemmas.Int.{ints}
use Rattle.smt_lex.specs.Numbers.{value_of}
use Rattle.smt_sexpr.specs.Shapes.{symbol}
use Rattle.idl_linear.specs.Linear.{LinearValue, sum_of, is_limited, number_alone, point_alone}
use Rattle.idl_node.specs.Limits.{nodes_limit}
use Rattle.idl_node.specs.Nodes.{NodeValue}
use Rattle.idl_cases.specs.Guarded.{plain}
use Rattle.idl_scope.specs.Scopes.{Scope, linear_term}
use Rattle.idl_apply.specs.Applied.{applied, as_number}
use Rattle.idl_term.specs.Lowered.{operator, head_of}
use Rattle.idl_apply.specs.Operators.{connective_of, order_of, sign_of, equality_of, operator_of}
use Rattle.idl_apply.specs.declared.operator.Operator.TheVariants as op
use Rattle.idl_apply.specs.declared.operator.Sign.TheVariants as sign
use Rattle.script_law.proofs.Lowering.{IsShort, IsPoint, IsNumber, IsFormula, binary, digits, near_constant, near_pos, binary_made, summed_number, most_formula, point_number, digits_number}

later_short : (k n : ℕ) → n ≤ 99 → IsShort (sum_of (point_alone k ∷ number_alone (pos n) ∷ []))
unfolding sum_of
later_short k n small = record { ends = (k, 0); collects = refl; near = (omega (arith, ints, small), omega (arith, ints, small)) }

later_limited : (k n : ℕ) → n ≤ 99 → is_limited (sum_of (point_alone k ∷ number_alone (pos n) ∷ [])) ≡ true
unfolding sum_of
later_limited k n small = near_constant (pos 0 +ℤ (pos n +ℤ pos 0)) (omega (arith, ints, small), omega (arith, ints, small))

plus_head : (scope : Scope) → head_of scope (symbol (codes "+")) ≡ operator (op.Sum sign.Plus)
unfolding head_of operator_of connective_of order_of sign_of equality_of
plus_head scope = refl

applied_plus : (nodes : List NodeValue) (a b : LinearValue) → applied (op.Sum sign.Plus) nodes (linear_term a ∷ linear_term b ∷ []) ≡ as_number nodes (plain (sum_of (a ∷ b ∷ [])))
unfolding applied
applied_plus nodes a b = refl

module _ (scope : Scope) (nodes : List NodeValue) where
  plus_number : (x ds : List ℕ) (p n : ℕ) → IsPoint scope x p → value_of ds ≡ n → n ≤ 99 → IsNumber scope nodes (binary (codes "+") (symbol x) (digits ds)) (sum_of (point_alone (p + 1) ∷ number_alone (pos n) ∷ []))
  plus_number x ds p n hx e small =
      binary_made scope nodes (codes "+") (op.Sum sign.Plus) (symbol x) (digits ds) (record { nodes = nodes; is = linear_term (point_alone (p + 1)) }) (record { nodes = nodes; is = linear_term (number_alone (pos n)) })
      (plus_head scope) refl (point_number scope nodes x p hx) (digits_number scope nodes ds n e (omega arith))
      ∙ applied_plus nodes (point_alone (p + 1)) (number_alone (pos n)) ∙ summed_number nodes (sum_of (point_alone (p + 1) ∷ number_alone (pos n) ∷ [])) (later_limited (p + 1) n small)

  pub ends_formula : (x ds es : List ℕ) (p n m : ℕ) → length nodes < nodes_limit → IsPoint scope x p → value_of ds ≡ n → n ≤ 99 → value_of es ≡ m → m ≤ 4294967296
      → IsFormula scope nodes (binary (codes "<=") (binary (codes "+") (symbol x) (digits ds)) (digits es)) 1
  ends_formula x ds es p n m room hx e small f low =
      most_formula scope nodes room (binary (codes "+") (symbol x) (digits ds)) (digits es) (sum_of (point_alone (p + 1) ∷ number_alone (pos n) ∷ [])) (pos m) (later_short (p + 1) n small) (near_pos m low) (plus_number x ds p n hx e small)
      (digits_number scope nodes es m f low)
