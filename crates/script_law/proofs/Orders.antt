-- The terms on the order of operations are accepted.
use Rattle.std.proofs.Common.{◌≡◌, refl, arith, ℕ, ◌<◌, ◌≤◌, ◌==◌, Bool, true, false, List, [], ◌∷◌, length, decimal, ℤ, pos, neg_ℤ, ◌+ℤ◌}
use Rattle.std.specs.Prelude.{codes, if◌then◌else◌}
use Rattle.std.specs.List.{list_any}
use Rattle.std.specs.Str.{bytes_eq}
use Rattle.smt_lex.specs.Numbers.{value_of}
use Rattle.smt_sexpr.specs.Tree.{Sexpr}
use Rattle.smt_sexpr.specs.Shapes.{form}
use Rattle.idl_linear.specs.Linear.{number_alone}
use Rattle.idl_node.specs.Nodes.{NodeValue}
use Rattle.smt_script.specs.Commands.{command_of, naming_command, changing_command, asking_command}
use Rattle.smt_script.specs.States.{after}
use Rattle.job_shop.specs.Scripts.{numeral, less, name, point, difference, begins}
use Rattle.job_shop.proofs.Numerals.{decimal_value}
use Rattle.script_law.proofs.Lowering.{Near, IsPoint, IsNumber, IsFormula, near_pos, negative_near, starts_formula, follows_formula, before_formula, or_formula, less_number, digits_number}
use Rattle.script_law.proofs.States.{IsUsual, is_there, point_in, scope_with, IsAccepted}

-- ---- numbers

pub decimal_is : (n : ℕ) → n ≤ 1000000 → value_of (decimal n) ≡ n
decimal_is n small = decimal_value n (omega (arith, small))

module _ (names : List (List ℕ)) where
  -- ---- points

  pub record HasPoint (x : List ℕ) : Type 0 where
    pub at : ℕ
    pub is : IsPoint (scope_with names) x at

  pub has_point : (x : List ℕ) → IsUsual x → list_any (bytes_eq x) names ≡ true → HasPoint x
  has_point x usual among =
      let there = is_there x names 0 among in
      record { at = there.at; is = point_in names x usual there }

  -- ---- numbers less than 0

  pub record IsBound (nodes : List NodeValue) (x : Sexpr) : Type 0 where
    pub c : ℤ
    pub near : Near c
    pub makes : IsNumber (scope_with names) nodes x (number_alone c)

  less_by : (nodes : List NodeValue) (n : ℕ) (b : Bool) → n ≤ 1000000 → IsBound nodes (if b then numeral 0 else form (codes "-") (numeral n ∷ []))
  less_by nodes n true small = record { c = pos 0; near = near_pos 0 (omega arith); makes = digits_number (scope_with names) nodes (decimal 0) 0 (decimal_is 0 (omega arith)) (omega arith) }
  less_by nodes n false small = record { c = neg_ℤ (pos n) +ℤ pos 0; near = negative_near n small; makes = less_number (scope_with names) nodes (decimal n) n (decimal_is n small) small }

  pub less_is : (nodes : List NodeValue) (n : ℕ) → n ≤ 1000000 → IsBound nodes (less n)
  unfolding less
  less_is nodes n small = less_by nodes n (n == 0) small

  -- ---- terms

  pub more_few : (nodes : List NodeValue) (t : Sexpr) → IsFormula (scope_with names) nodes t 1 → IsFormula (scope_with names) nodes t 3
  more_few nodes t f = record { after = f.after; root = f.root; is = f.is; few = omega (arith, f.few); near = f.near }

  pub begins_accepted : (j : ℕ) → HasPoint (name j 0) → IsAccepted names (begins j)
  unfolding begins point after command_of naming_command changing_command asking_command
  begins_accepted j x = record {
    plain = λ t. refl;
    made = λ nodes room. more_few nodes (begins j) (starts_formula (scope_with names) nodes (name j 0) (decimal 0) x.at (omega (arith, room)) x.is (decimal_is 0 (omega arith)));
  }

  -- one starts so much later than the other, at the least
  pub later_accepted : (a i b j n : ℕ) → HasPoint (name a i) → HasPoint (name b j) → n ≤ 1000000 → IsAccepted names (form (codes ">=") (difference a i b j ∷ numeral n ∷ []))
  unfolding difference point after command_of naming_command changing_command asking_command
  later_accepted a i b j n x y small = record {
    plain = λ t. refl;
    made = λ nodes room. more_few nodes (form (codes ">=") (difference a i b j ∷ numeral n ∷ []))
        (follows_formula (scope_with names) nodes (name a i) (name b j) (decimal n) x.at y.at n (omega (arith, room)) x.is y.is (decimal_is n small) small);
  }

  -- one starts so much before the other, at the least
  before_made : (a i b j n : ℕ) → HasPoint (name a i) → HasPoint (name b j) → n ≤ 1000000 → (nodes : List NodeValue) → length nodes < 1048576
      → IsFormula (scope_with names) nodes (form (codes "<=") (difference a i b j ∷ less n ∷ [])) 1
  unfolding difference point
  before_made a i b j n x y small nodes room =
      let m = less_is nodes n small in
      before_formula (scope_with names) nodes (name a i) (name b j) (less n) x.at y.at m.c (omega (arith, room)) x.is y.is m.near m.makes

  pub apart_accepted : (a i b j m n : ℕ) → HasPoint (name a i) → HasPoint (name b j) → m ≤ 1000000 → n ≤ 1000000
      → IsAccepted names (form (codes "or") (form (codes "<=") (difference a i b j ∷ less m ∷ []) ∷ form (codes "<=") (difference b j a i ∷ less n ∷ []) ∷ []))
  unfolding after command_of naming_command changing_command asking_command
  apart_accepted a i b j m n x y low small = record {
    plain = λ t. refl;
    made = λ nodes room. (let first = before_made a i b j m x y low nodes (omega (arith, room)) in
        let few = first.few in
        let second = before_made b j a i n y x small first.after (omega (arith, room, few)) in
        or_formula (scope_with names) nodes (form (codes "<=") (difference a i b j ∷ less m ∷ [])) (form (codes "<=") (difference b j a i ∷ less n ∷ [])) (omega (arith, room)) first second);
  }
