-- Sums of Int terms, case by case: exactly one choice of a case of each term holds, and the sum in it is the sum of the values.
use Rattle.std.proofs.Common.{refl, ap, sym, arith, ◌∙◌, ◌≡◌, ◌+◌, ℕ, suc, List, [], ◌∷◌, ◌++◌, map, Bool, true, false, cond, ◌&&◌, ℤ, pos, append-nil, append_assoc}
use Rattle.std.specs.List.{AllByRecursion, list_all}
use Rattle.std.proofs.lemmas.List.Folds.{list_all-append}
use Rattle.idl_linear.specs.Linear.{LinearValue, number_alone, is_limited}
use Rattle.idl_linear.specs.Values.{linear_value}
use Rattle.idl_node.specs.declared.sort.Sort.{Sort}
use Rattle.idl_node.specs.Nodes.{NodeValue}
use Rattle.idl_node.specs.Truth.{truth}
use Rattle.idl_node.proofs.Growing.{AreThere}
use Rattle.idl_cases.specs.Guarded.{CaseValue}
use Rattle.idl_apply.specs.declared.operator.Sign.{Sign}
use Rattle.idl_apply.specs.Applied.{linear_sum, sum_case, are_limited}
use Rattle.idl_apply.specs.Choices.{Choice, with_case, with_term, choices_from}
use Rattle.idl_value.specs.CaseValues.{holds, holding, cases_value, IsLinearFor, IsCaseIn}

-- ---- truth values and counts

nothing_behind : {A : Type 0} (xs : List A) → xs ≡ xs ++ []
nothing_behind xs = sym (append-nil xs)

cond_value : (values : List ℤ) (b : Bool) (x y : LinearValue) (z : ℤ) → z ≡ linear_value values y → cond b (linear_value values x) z ≡ linear_value values (cond b x y)
cond_value values true x y z e = refl
cond_value values false x y z e = e

counted : (first second : Bool) (here more all : ℕ) → all ≡ cond first here 0 + more → cond (first && second) (suc all) all ≡ cond first (cond second (suc here) here) 0 + more
counted true true here more all e = omega (arith, e)
counted true false here more all e = e
counted false second here more all e = e

one_row : (first : Bool) (here more : ℕ) → here ≡ 1 → cond first here 0 + more ≡ cond first (suc more) more
one_row true here more e = omega (arith, e)
one_row false here more e = omega arith

false_and : (first second : Bool) → first ≡ false → (first && second) ≡ false
false_and true second e = absurd cc
false_and false second e = refl

true_and : (first second : Bool) → first ≡ true → (first && second) ≡ second
true_and true second e = refl
true_and false second e = absurd cc

module _ (nodes : List NodeValue) (values : List ℤ) where
  abbrev all : List ℕ → Bool
  all guards = list_all (truth nodes values) guards

  -- how many choices there are whose guards are true
  abbrev pub choices_holding : List Choice → ℕ
  choices_holding [] = 0
  choices_holding (c ∷ cs) = cond (all c.guards) (suc (choices_holding cs)) (choices_holding cs)

  -- the linear terms of the first of them
  abbrev pub chosen : List Choice → List LinearValue
  chosen [] = []
  chosen (c ∷ cs) = cond (all c.guards) c.linears (chosen cs)

  -- the linear term of the first case whose guards are true
  abbrev pub chosen_linear : List CaseValue → LinearValue
  chosen_linear [] = number_alone (pos 0)
  chosen_linear (case ∷ cases) = cond (holds nodes values case) case.linear (chosen_linear cases)

  pub value_chosen : (cases : List CaseValue) → cases_value nodes values cases ≡ linear_value values (chosen_linear cases)
  value_chosen [] = refl
  value_chosen (case ∷ cases) = cond_value values (holds nodes values case) case.linear (chosen_linear cases) (cases_value nodes values cases) (value_chosen cases)

  pub values_chosen : (terms : List (List CaseValue)) → map (cases_value nodes values) terms ≡ map (linear_value values) (map chosen_linear terms)
  values_chosen [] = refl
  values_chosen (cases ∷ terms) = ap (λ (z : ℤ). z ∷ map (cases_value nodes values) terms) (value_chosen cases) ∙ ap (λ (zs : List ℤ). linear_value values (chosen_linear cases) ∷ zs) (values_chosen terms)

  -- ---- a choice with the cases of one more term

  none_here : (b : Bool) (n : ℕ) → n ≡ cond b 0 0 + n
  none_here true n = omega arith
  none_here false n = omega arith

  module _ (c : Choice) (more : List Choice) where
    row_holding : (cases : List CaseValue) → choices_holding (map (with_case c) cases ++ more) ≡ cond (all c.guards) (holding nodes values cases) 0 + choices_holding more
    row_holding [] = none_here (all c.guards) (choices_holding more)
    row_holding (case ∷ cases) =
        let rest : ℕ = choices_holding (map (with_case c) cases ++ more) in
        ap (λ (b : Bool). cond b (suc rest) rest) (list_all-append (truth nodes values) c.guards case.guards)
        ∙ counted (all c.guards) (holds nodes values case) (holding nodes values cases) (choices_holding more) rest (row_holding cases)

    row_passed : (cases : List CaseValue) → all c.guards ≡ false → chosen (map (with_case c) cases ++ more) ≡ chosen more
    row_passed [] e = refl
    row_passed (case ∷ cases) e =
        ap (λ (b : Bool). cond b (c.linears ++ case.linear ∷ []) (chosen (map (with_case c) cases ++ more)))
        (list_all-append (truth nodes values) c.guards case.guards ∙ false_and (all c.guards) (holds nodes values case) e)
        ∙ row_passed cases e

    taken : (b : Bool) (case : CaseValue) (cases : List CaseValue) (k : ℕ) → cond b (suc (holding nodes values cases)) (holding nodes values cases) ≡ suc k
        → (holding nodes values cases ≡ suc k → chosen (map (with_case c) cases ++ more) ≡ c.linears ++ chosen_linear cases ∷ [])
        → cond b (c.linears ++ case.linear ∷ []) (chosen (map (with_case c) cases ++ more)) ≡ c.linears ++ cond b case.linear (chosen_linear cases) ∷ []
    taken true case cases k e rest = refl
    taken false case cases k e rest = rest e

    row_taken : (cases : List CaseValue) (k : ℕ) → all c.guards ≡ true → holding nodes values cases ≡ suc k → chosen (map (with_case c) cases ++ more) ≡ c.linears ++ chosen_linear cases ∷ []
    row_taken [] k e h = absurd (omega (arith, h))
    row_taken (case ∷ cases) k e h =
        ap (λ (b : Bool). cond b (c.linears ++ case.linear ∷ []) (chosen (map (with_case c) cases ++ more)))
        (list_all-append (truth nodes values) c.guards case.guards ∙ true_and (all c.guards) (holds nodes values case) e)
        ∙ taken (holds nodes values case) case cases k h (row_taken cases k e)

  -- ---- all choices with the cases of one more term

  module _ (cases : List CaseValue) (one : holding nodes values cases ≡ 1) where
    term_holding : (cs : List Choice) → choices_holding (with_term cs cases) ≡ choices_holding cs
    term_holding [] = refl
    term_holding (c ∷ cs) =
        row_holding c (with_term cs cases) cases
        ∙ one_row (all c.guards) (holding nodes values cases) (choices_holding (with_term cs cases)) one
        ∙ ap (λ (n : ℕ). cond (all c.guards) (suc n) n) (term_holding cs)

    term_chosen_by : (c : Choice) (cs : List Choice) (k : ℕ) (b : Bool) → all c.guards ≡ b → cond b (suc (choices_holding cs)) (choices_holding cs) ≡ suc k
        → (choices_holding cs ≡ suc k → chosen (with_term cs cases) ≡ chosen cs ++ chosen_linear cases ∷ [])
        → chosen (map (with_case c) cases ++ with_term cs cases) ≡ cond b c.linears (chosen cs) ++ chosen_linear cases ∷ []
    term_chosen_by c cs k true e h rest = row_taken c (with_term cs cases) cases 0 e one
    term_chosen_by c cs k false e h rest = row_passed c (with_term cs cases) cases e ∙ rest h

    term_chosen : (cs : List Choice) (k : ℕ) → choices_holding cs ≡ suc k → chosen (with_term cs cases) ≡ chosen cs ++ chosen_linear cases ∷ []
    term_chosen [] k h = absurd (omega (arith, h))
    term_chosen (c ∷ cs) k h = term_chosen_by c cs k (all c.guards) refl h (term_chosen cs k)

  abbrev pub AreSingle : List (List CaseValue) → Type 0
  AreSingle terms = AllByRecursion (λ (cases : List CaseValue). holding nodes values cases ≡ 1) terms

  pub all_holding : (cs : List Choice) (terms : List (List CaseValue)) → AreSingle terms → choices_holding (choices_from cs terms) ≡ choices_holding cs
  all_holding cs [] h = refl
  all_holding cs (cases ∷ terms) h = all_holding (with_term cs cases) terms h.1 ∙ term_holding cases h.0 cs

  pub all_chosen : (cs : List Choice) (terms : List (List CaseValue)) → AreSingle terms → choices_holding cs ≡ 1 → chosen (choices_from cs terms) ≡ chosen cs ++ map chosen_linear terms
  all_chosen cs [] h e = nothing_behind (chosen cs)
  all_chosen cs (cases ∷ terms) h e =
      all_chosen (with_term cs cases) terms h.1 (term_holding cases h.0 cs ∙ e)
      ∙ ap (λ (ls : List LinearValue). ls ++ map chosen_linear terms) (term_chosen cases h.0 cs 0 e)
      ∙ append_assoc (chosen cs) (chosen_linear cases ∷ []) (map chosen_linear terms)

  -- ---- the sum in each choice

  pub sum_holding : (s : Sign) (cs : List Choice) → holding nodes values (map (sum_case s) cs) ≡ choices_holding cs
  sum_holding s [] = refl
  sum_holding s (c ∷ cs) = ap (λ (n : ℕ). cond (all c.guards) (suc n) n) (sum_holding s cs)

  sum_by : (s : Sign) (b : Bool) (c : Choice) (cs : List Choice) (k : ℕ) → cond b (suc (choices_holding cs)) (choices_holding cs) ≡ suc k
      → (choices_holding cs ≡ suc k → cases_value nodes values (map (sum_case s) cs) ≡ linear_value values (linear_sum s (chosen cs)))
      → cond b (linear_value values (linear_sum s c.linears)) (cases_value nodes values (map (sum_case s) cs)) ≡ linear_value values (linear_sum s (cond b c.linears (chosen cs)))
  sum_by s true c cs k e rest = refl
  sum_by s false c cs k e rest = rest e

  pub choices_value : (s : Sign) (cs : List Choice) (k : ℕ) → choices_holding cs ≡ suc k → cases_value nodes values (map (sum_case s) cs) ≡ linear_value values (linear_sum s (chosen cs))
  choices_value s [] k e = absurd (omega (arith, e))
  choices_value s (c ∷ cs) k e = sum_by s (all c.guards) c cs k e (choices_value s cs k)

-- ---- cases over the table and the Int names

module _ (sorts : List Sort) (nodes : List NodeValue) where
  pub record IsChoiceIn (c : Choice) : Type 0 where
    pub guards : AreThere nodes c.guards
    pub linears : AllByRecursion (IsLinearFor sorts) c.linears

  there_append : (ks ms : List ℕ) → AreThere nodes ks → AreThere nodes ms → AreThere nodes (ks ++ ms)
  there_append [] ms h i = i
  there_append (k ∷ ks) ms h i = (h.0, there_append ks ms h.1 i)

  linears_push : (ls : List LinearValue) (l : LinearValue) → AllByRecursion (IsLinearFor sorts) ls → IsLinearFor sorts l → AllByRecursion (IsLinearFor sorts) (ls ++ l ∷ [])
  linears_push [] l h i = (i, tt)
  linears_push (m ∷ ls) l h i = (h.0, linears_push ls l h.1 i)

  row_in : (c : Choice) (cases : List CaseValue) (more : List Choice) → IsChoiceIn c → AllByRecursion (IsCaseIn sorts nodes) cases → AllByRecursion IsChoiceIn more → AllByRecursion IsChoiceIn (map (with_case c) cases ++ more)
  row_in c [] more h i j = j
  row_in c (case ∷ cases) more h i j =
      (record { guards = there_append c.guards case.guards h.guards i.0.guards; linears = linears_push c.linears case.linear h.linears i.0.linear }, row_in c cases more h i.1 j)

  term_in : (cs : List Choice) (cases : List CaseValue) → AllByRecursion IsChoiceIn cs → AllByRecursion (IsCaseIn sorts nodes) cases → AllByRecursion IsChoiceIn (with_term cs cases)
  term_in [] cases h i = tt
  term_in (c ∷ cs) cases h i = row_in c cases (with_term cs cases) h.0 i (term_in cs cases h.1 i)

  pub choices_in : (cs : List Choice) (terms : List (List CaseValue)) → AllByRecursion IsChoiceIn cs → AllByRecursion (λ (cases : List CaseValue). AllByRecursion (IsCaseIn sorts nodes) cases) terms
      → AllByRecursion IsChoiceIn (choices_from cs terms)
  choices_in cs [] h i = h
  choices_in cs (cases ∷ terms) h i = choices_in (with_term cs cases) terms (term_in cs cases h i.0) i.1

  both_true : (a b : Bool) → (a && b) ≡ true → (a ≡ true) × (b ≡ true)
  both_true true b e = (refl, e)
  both_true false b e = absurd cc

  -- where a sum of linear terms within the limits is one over the Int names
  pub sums_in : (s : Sign) → ((ls : List LinearValue) → AllByRecursion (IsLinearFor sorts) ls → is_limited (linear_sum s ls) ≡ true → IsLinearFor sorts (linear_sum s ls))
      → (cs : List Choice) → AllByRecursion IsChoiceIn cs → are_limited (map (sum_case s) cs) ≡ true → AllByRecursion (IsCaseIn sorts nodes) (map (sum_case s) cs)
  sums_in s linear [] h e = tt
  sums_in s linear (c ∷ cs) h e =
      let both = both_true (is_limited (linear_sum s c.linears)) (are_limited (map (sum_case s) cs)) e in
      (record { guards = h.0.guards; linear = linear c.linears h.0.linears both.0 }, sums_in s linear cs h.1 both.1)
