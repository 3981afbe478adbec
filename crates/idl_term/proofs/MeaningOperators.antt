-- What an operator makes of its arguments is worth what the operator gives of their values.
use Rattle.std.proofs.Common.{refl, ap, sym, subst, ◌∙◌, ◌≡◌, ◌<◌, ◌≤◌, ◌+◌, ℕ, List, [], ◌∷◌, ◌++◌, length, map, Bool, true, false, cond, not, ◌&&◌, ◌||◌, Option, Some, None, ℤ, ◌+ℤ◌, ◌-ℤ◌, append-nil}
use Rattle.std.specs.Prelude.{Result, Ok, Err}
use Rattle.std.specs.List.{AllByRecursion, list_all, list_any}
use Rattle.stn_core.specs.declared.literal.Literal.{Literal}
use Rattle.stn_core.specs.declared.named.NamedValue.{NamedValue}
use Rattle.idl_linear.specs.Limits.{points_limit}
use Rattle.idl_linear.specs.Linear.{LinearValue, sum_of, less_others, negative_of, is_limited}
use Rattle.idl_linear.specs.Values.{linear_value, sum_of_values, subtracted}
use Rattle.idl_linear.proofs.Valued.{value-sum, value-less}
use Rattle.idl_node.specs.declared.sort.Sort.{Sort}
use Rattle.idl_node.specs.Limits.{nodes_limit}
use Rattle.idl_node.specs.Nodes.{NodeValue, Placed}
use Rattle.idl_node.specs.Making.{denied, conjoined, disjoined, chosen, exclusive, implied, all_equal, all_different, neighbours, pairs}
use Rattle.idl_node.specs.Meaning.{IsMade}
use Rattle.idl_node.specs.Sorts.{IsIntPoint, IsAtomFor}
use Rattle.idl_node.specs.Tables.{IsTableOf}
use Rattle.idl_node.specs.Truth.{point_values, equal_truth, different_truth, exclusive_truth, implied_truth, chain, all_pairs}
use Rattle.idl_node.specs.Truth as node
use Rattle.idl_node.proofs.Growing.{AreThere}
use Rattle.idl_node.proofs.Makers.{denied-made, conjoined-made, disjoined-made, chosen-made, exclusive-made, implied-made}
use Rattle.idl_node.proofs.Pairs.{all_equal-made, all_different-made}
use Rattle.idl_apply.specs.declared.operator.Connective.{Connective}
use Rattle.idl_apply.specs.declared.operator.Connective.TheVariants as connective
use Rattle.idl_apply.specs.declared.operator.Order.{Order}
use Rattle.idl_apply.specs.declared.operator.Order.TheVariants as order
use Rattle.idl_apply.specs.declared.operator.Sign.{Sign}
use Rattle.idl_apply.specs.declared.operator.Sign.TheVariants as sign
use Rattle.idl_apply.specs.declared.operator.Equality.{Equality}
use Rattle.idl_apply.specs.declared.operator.Equality.TheVariants as equality
use Rattle.idl_apply.specs.declared.operator.Operator.{Operator}
use Rattle.idl_apply.specs.declared.operator.Operator.TheVariants as op
use Rattle.idl_apply.specs.declared.comparing.Relation.{Relation}
use Rattle.idl_apply.specs.declared.comparing.Relation.TheVariants as relation
use Rattle.idl_apply.specs.declared.error.TermRefusal.{TermRefusal}
use Rattle.idl_apply.specs.declared.error.TermRefusal.TheVariants.{BoundTooLarge, TooManyCases}
use Rattle.idl_apply.specs.Applied.{Made, a_formula, a_number, are_limited, as_formula, as_number, branches_made, formula_before, number_before, formulas_in, numbers_in, linear_sum, sum_cases, connected, equal_formulas, summed, related_numbers, relation_of_order, relation_of_equality, of_sort, of_first_sort, of_branches, applied}
use Rattle.idl_apply.specs.Choices.{choices, no_choice, count_from, are_few}
use Rattle.idl_apply.specs.Comparing.{follows, or_too_large, each_compared}
use Rattle.idl_value.specs.CaseValues.{cases_value, IsLinearFor, IsCaseIn, AreCasesIn, IsTermIn}
use Rattle.idl_term.specs.Meanings.{lowered_value}
use Rattle.idl_apply.specs.Operators.{takes_count}
use Rattle.idl_cases.specs.Guarded.{CaseValue, plain, branched}
use Rattle.idl_scope.specs.Scopes.{LoweredTerm, formula, numeric, linear_term}
use Rattle.idl_term.specs.Values.{Value, whole, truth, any_true, all_true, connective_value, total, remainder, sum_value, order_value, equal_truths, equal_numbers, truth_before, whole_before, truths_in, wholes_in, of_all, equality_value, operator_value}
use Rattle.idl_term.proofs.BelowLinear.{ArePoints, HavePoints, points_sum, points_others, points_negatives, points_weaker, points_both, points_ascending, ascends_sum}
use Rattle.idl_term.proofs.MeaningAtoms.{follows-is, atom_negates, relation_test, IsTested}
use Rattle.idl_term.proofs.MeaningCases.{neighbours_made, pairs_made, branched_are}
use Rattle.idl_term.proofs.MeaningSums.{AreSingle, all_chosen, all_holding, choices_in, choices_value, chosen_linear, sum_holding, sums_in, values_chosen}

-- what is made is worth this on every schedule; the table is longer, and one of atoms over the declared names
pub record IsWorth (sorts : List Sort) (nodes : List NodeValue) (m : Made) (worth : List NamedValue → Value) : Type 0 where
  pub added : List NodeValue
  pub grows : m.nodes ≡ nodes ++ added
  pub room : length m.nodes ≤ nodes_limit
  pub table : IsTableOf (IsAtomFor sorts) m.nodes
  pub term : IsTermIn sorts m.nodes m.is
  pub says : (schedule : List NamedValue) → lowered_value m.nodes schedule m.is ≡ worth schedule

-- ---- lists of values

all_of_map : (f : ℕ → Bool) (ks : List ℕ) → all_true (map f ks) ≡ list_all f ks
all_of_map f [] = refl
all_of_map f (k ∷ ks) = ap (λ (u : Bool). f k && u) (all_of_map f ks)

any_of_map : (f : ℕ → Bool) (ks : List ℕ) → any_true (map f ks) ≡ list_any f ks
any_of_map f [] = refl
any_of_map f (k ∷ ks) = ap (λ (u : Bool). f k || u) (any_of_map f ks)

total_is : (values : List ℤ) (ls : List LinearValue) → total (map (linear_value values) ls) ≡ sum_of_values values ls
total_is values [] = refl
total_is values (l ∷ ls) = ap (λ (z : ℤ). linear_value values l +ℤ z) (total_is values ls)

remainder_is : (values : List ℤ) (l : LinearValue) (ls : List LinearValue) → remainder (map (linear_value values) (l ∷ ls)) ≡ whole (subtracted values (l ∷ ls))
remainder_is values l [] = refl
remainder_is values l (m ∷ ms) = ap (λ (z : ℤ). whole (linear_value values l -ℤ z)) (total_is values (m ∷ ms))

-- ---- linear terms

module _ (sorts : List Sort) where
  -- a time point of an Int name
  abbrev IsNamePoint : ℕ → Type 0
  IsNamePoint p = (0 < p) × ((p < points_limit) × IsIntPoint sorts p)

  linear_points : (l : LinearValue) → IsLinearFor sorts l → ArePoints IsNamePoint l.summands
  linear_points l h =
      points_both (λ p. 0 < p) (λ p. (p < points_limit) × IsIntPoint sorts p) l.summands (points_ascending l.summands h.linear.ascends)
      (points_both (λ p. p < points_limit) (IsIntPoint sorts) l.summands h.linear.over h.points)

  have_points : (ls : List LinearValue) → AllByRecursion (IsLinearFor sorts) ls → HavePoints IsNamePoint ls
  have_points [] h = tt
  have_points (l ∷ ls) h = (linear_points l h.0, have_points ls h.1)

  have_above : (ls : List LinearValue) → HavePoints IsNamePoint ls → HavePoints (λ p. 0 < p) ls
  have_above [] h = tt
  have_above (l ∷ ls) h = (points_weaker IsNamePoint (λ p. 0 < p) (λ p i. i.0) l.summands h.0, have_above ls h.1)

  sum_linear : (ls : List LinearValue) → HavePoints IsNamePoint ls → is_limited (sum_of ls) ≡ true → IsLinearFor sorts (sum_of ls)
  sum_linear ls h e =
      let points = points_sum IsNamePoint ls h in
      record {
        linear = record {
          ascends = ascends_sum ls (have_above ls h);
          over = points_weaker IsNamePoint (λ p. p < points_limit) (λ p i. i.1.0) (sum_of ls).summands points;
          limited = e;
        };
        points = points_weaker IsNamePoint (IsIntPoint sorts) (λ p i. i.1.1) (sum_of ls).summands points;
      }

  less_linear : (l : LinearValue) (ls : List LinearValue) → HavePoints IsNamePoint (l ∷ ls) → is_limited (less_others (l ∷ ls)) ≡ true → IsLinearFor sorts (less_others (l ∷ ls))
  less_linear l [] h e = sum_linear (negative_of l ∷ []) (points_negatives IsNamePoint l.summands h.0, tt) e
  less_linear l (m ∷ ms) h e = sum_linear (l ∷ map negative_of (m ∷ ms)) (h.0, points_others IsNamePoint (m ∷ ms) h.1) e

-- ---- one making

record IsFormula (made : Option Placed) (m : Made) : Type 0 where
  placed : Placed
  begins : made ≡ Some placed
  same : record { nodes = placed.nodes; is = formula placed.number } ≡ m

as_formula_is : (made : Option Placed) (m : Made) → as_formula made ≡ Ok m → IsFormula made m
as_formula_is None m e = absurd cc
as_formula_is (Some p) m e = record { placed = p; begins = refl; same = cc }

a_formula_is : (p : Placed) (m : Made) → a_formula p ≡ Ok m → record { nodes = p.nodes; is = formula p.number } ≡ m
a_formula_is p m e = cc

module _ (sorts : List Sort) (nodes : List NodeValue) (room : length nodes ≤ nodes_limit) where
  abbrev Good : Literal → Type 0
  Good = IsAtomFor sorts

  -- a node, and what it says
  placed_worth : (p : Placed) (m : Made) (meaning : List ℤ → Bool) (worth : List NamedValue → Value) → IsMade Good nodes p meaning → record { nodes = p.nodes; is = formula p.number } ≡ m
      → ((schedule : List NamedValue) → truth (meaning (point_values schedule)) ≡ worth schedule) → IsWorth sorts nodes m worth
  placed_worth p m meaning worth made e same =
      subst (λ (n : Made). IsWorth sorts nodes n worth) e (record {
        added = made.added;
        grows = made.grows;
        room = made.few room;
        table = made.table;
        term = made.in_range;
        says = λ schedule. ap truth (made.says (point_values schedule)) ∙ same schedule;
      })

  pub formula_worth : (made : Option Placed) (m : Made) (meaning : List ℤ → Bool) (worth : List NamedValue → Value) → ((p : Placed) → made ≡ Some p → IsMade Good nodes p meaning)
      → ((schedule : List NamedValue) → truth (meaning (point_values schedule)) ≡ worth schedule) → as_formula made ≡ Ok m → IsWorth sorts nodes m worth
  formula_worth made m meaning worth makes same e =
      let is = as_formula_is made m e in
      placed_worth is.placed m meaning worth (makes is.placed is.begins) is.same same

  module _ (table : IsTableOf Good nodes) where
    -- an Int term of some cases, and its value
    cases_worth : (cases : List CaseValue) (m : Made) (worth : List NamedValue → Value) → AreCasesIn sorts nodes cases → a_number nodes cases ≡ m
        → ((schedule : List NamedValue) → whole (cases_value nodes (point_values schedule) cases) ≡ worth schedule) → IsWorth sorts nodes m worth
    cases_worth cases m worth are e same =
        subst (λ (n : Made). IsWorth sorts nodes n worth) e (record {
          added = [];
          grows = sym (append-nil nodes);
          room = room;
          table = table;
          term = are;
          says = same;
        })

    -- a linear term, and its value
    pub linear_worth : (l : LinearValue) (m : Made) (worth : List NamedValue → Value) → IsLinearFor sorts l → record { nodes = nodes; is = linear_term l } ≡ m
        → ((schedule : List NamedValue) → whole (linear_value (point_values schedule) l) ≡ worth schedule) → IsWorth sorts nodes m worth
    linear_worth l m worth linear e same =
        cases_worth (plain l) m worth (record { each = (record { guards = tt; linear = linear }, tt); one = λ values. refl }) e same

    tested_worth : (made : Result Placed TermRefusal) (m : Made) (test : List ℤ → Bool) (worth : List NamedValue → Value) → ((q : Placed) → made ≡ Ok q → IsTested Good nodes q test)
        → ((schedule : List NamedValue) → truth (test (point_values schedule)) ≡ worth schedule) → follows made a_formula ≡ Ok m → IsWorth sorts nodes m worth
    tested_worth made m test worth makes same e =
        let t = follows-is made a_formula m e in
        let q : Placed = t.middle in
        let tested = makes q t.begins in
        placed_worth q m tested.meaning worth tested.made (a_formula_is q m t.goes_on) (λ schedule. ap truth (tested.same (point_values schedule) refl) ∙ same schedule)

    -- ---- operators on formulas

    -- what is made of formulas, worth this of their truth
    abbrev IsTruthOf : Made → (List Bool → Value) → List ℕ → Type 0
    IsTruthOf m f ks = IsWorth sorts nodes m (λ schedule. f (map (node.truth nodes (point_values schedule)) ks))

    connected_worth : (c : Connective) (ks : List ℕ) (m : Made) → AreThere nodes ks → connected c nodes ks ≡ Ok m → IsTruthOf m (connective_value c) ks
    connected_worth connective.Not [] m h e = absurd cc
    connected_worth connective.Not (a ∷ []) m h e =
        formula_worth (denied nodes a) m (λ values. not (node.truth nodes values a)) (λ schedule. truth (not (node.truth nodes (point_values schedule) a)))
        (λ p f. denied-made Good (atom_negates sorts) nodes table a h.0 p f) (λ schedule. refl) e
    connected_worth connective.Not (a ∷ b ∷ rest) m h e = absurd cc
    connected_worth connective.Implies ks m h e =
        formula_worth (implied nodes [] ks) m (λ values. implied_truth (map (node.truth nodes values) ks)) (λ schedule. connective_value connective.Implies (map (node.truth nodes (point_values schedule)) ks))
        (λ p f. implied-made Good (atom_negates sorts) nodes [] ks p table tt h f) (λ schedule. refl) e
    connected_worth connective.And ks m h e =
        formula_worth (conjoined nodes ks) m (λ values. list_all (node.truth nodes values) ks) (λ schedule. connective_value connective.And (map (node.truth nodes (point_values schedule)) ks))
        (λ p f. conjoined-made Good nodes table ks p h f) (λ schedule. ap truth (sym (all_of_map (node.truth nodes (point_values schedule)) ks))) e
    connected_worth connective.Or ks m h e =
        formula_worth (disjoined nodes ks) m (λ values. list_any (node.truth nodes values) ks) (λ schedule. connective_value connective.Or (map (node.truth nodes (point_values schedule)) ks))
        (λ p f. disjoined-made Good nodes table ks p h f) (λ schedule. ap truth (sym (any_of_map (node.truth nodes (point_values schedule)) ks))) e
    connected_worth connective.Xor [] m h e = absurd cc
    connected_worth connective.Xor (a ∷ rest) m h e =
        formula_worth (exclusive nodes a rest) m (λ values. exclusive_truth (node.truth nodes values a) (map (node.truth nodes values) rest))
        (λ schedule. connective_value connective.Xor (map (node.truth nodes (point_values schedule)) (a ∷ rest)))
        (λ p f. exclusive-made Good (atom_negates sorts) nodes a rest p table h.0 h.1 f) (λ schedule. refl) e

    equal_formulas_worth : (q : Equality) (ks : List ℕ) (m : Made) → AreThere nodes ks → equal_formulas q nodes ks ≡ Ok m → IsTruthOf m (equal_truths q) ks
    equal_formulas_worth equality.Equal ks m h e =
        formula_worth (all_equal nodes ks) m (λ values. chain equal_truth (map (node.truth nodes values) ks)) (λ schedule. equal_truths equality.Equal (map (node.truth nodes (point_values schedule)) ks))
        (λ p f. all_equal-made Good (atom_negates sorts) nodes table ks h p f) (λ schedule. refl) e
    equal_formulas_worth equality.Distinct ks m h e =
        formula_worth (all_different nodes ks) m (λ values. all_pairs different_truth (map (node.truth nodes values) ks)) (λ schedule. equal_truths equality.Distinct (map (node.truth nodes (point_values schedule)) ks))
        (λ p f. all_different-made Good (atom_negates sorts) nodes table ks h p f) (λ schedule. refl) e

    -- terms that are all Bool
    record AreFormulas (ts : List LoweredTerm) (ks : List ℕ) : Type 0 where
      there : AreThere nodes ks
      say : (schedule : List NamedValue) → truths_in (map (lowered_value nodes schedule) ts) ≡ Some (map (node.truth nodes (point_values schedule)) ks)

    formula_before_is : (k : ℕ) (found : Option (List ℕ)) (ks : List ℕ) → formula_before (formula k) found ≡ Some ks → (others : List ℕ) × (found ≡ Some others) × (k ∷ others ≡ ks)
    formula_before_is k None ks e = absurd cc
    formula_before_is k (Some others) ks e = let same : k ∷ others ≡ ks = cc in (others, refl, same)

    formulas_are : (ts : List LoweredTerm) (ks : List ℕ) → AllByRecursion (IsTermIn sorts nodes) ts → formulas_in ts ≡ Some ks → AreFormulas ts ks
    formulas_are [] ks h e =
        let same : [] ≡ ks = cc in
        subst (AreFormulas []) same (record { there = tt; say = λ schedule. refl })
    formulas_are (formula k ∷ ts) ks h e =
        let is = formula_before_is k (formulas_in ts) ks e in
        let rest = formulas_are ts is.0 h.1 is.1 in
        subst (AreFormulas (formula k ∷ ts)) is.2 (record {
          there = (h.0, rest.there);
          say = λ schedule. ap (truth_before (truth (node.truth nodes (point_values schedule) k))) (rest.say schedule);
        })
    formulas_are (numeric cases ∷ ts) ks h e = absurd cc

    -- what is made is worth something else that is the same
    worth_as : (m : Made) (f g : List NamedValue → Value) → IsWorth sorts nodes m f → ((schedule : List NamedValue) → f schedule ≡ g schedule) → IsWorth sorts nodes m g
    worth_as m f g is same = record {
      added = is.added;
      grows = is.grows;
      room = is.room;
      table = is.table;
      term = is.term;
      says = λ schedule. is.says schedule ∙ same schedule;
    }

    abbrev truths_on : List LoweredTerm → List NamedValue → Option (List Bool)
    truths_on ts schedule = truths_in (map (lowered_value nodes schedule) ts)

    abbrev wholes_on : List LoweredTerm → List NamedValue → Option (List ℤ)
    wholes_on ts schedule = wholes_in (map (lowered_value nodes schedule) ts)

    -- what is made of terms that are all Bool
    formulas_by : (make : List ℕ → Result Made TermRefusal) (f : List Bool → Value) (m : Made) (ts : List LoweredTerm) (found : Option (List ℕ)) (worth : List NamedValue → Value)
        → ((ks : List ℕ) → AreThere nodes ks → make ks ≡ Ok m → IsTruthOf m f ks) → ((schedule : List NamedValue) (bs : List Bool) → truths_on ts schedule ≡ Some bs → f bs ≡ worth schedule)
        → AllByRecursion (IsTermIn sorts nodes) ts → formulas_in ts ≡ found → of_sort make found ≡ Ok m → IsWorth sorts nodes m worth
    formulas_by make f m ts None worth makes same h g e = absurd cc
    formulas_by make f m ts (Some ks) worth makes same h g e =
        let are = formulas_are ts ks h g in
        worth_as m (λ schedule. f (map (node.truth nodes (point_values schedule)) ks)) worth (makes ks are.there e)
        (λ schedule. same schedule (map (node.truth nodes (point_values schedule)) ks) (are.say schedule))

    -- ---- operators on numbers

    few_of : (few : Bool) (made : Result Made TermRefusal) (m : Made) → cond few made (Err TooManyCases) ≡ Ok m → made ≡ Ok m
    few_of true made m e = e
    few_of false made m e = absurd cc

    limited_of : (limited : Bool) (cases : List CaseValue) (m : Made) → cond limited (Ok (a_number nodes cases)) (Err BoundTooLarge) ≡ Ok m → (limited ≡ true) × (a_number nodes cases ≡ m)
    limited_of true cases m e = (refl, cc)
    limited_of false cases m e = absurd cc

    linear_sums : (g : Sign) (ls : List LinearValue) → AllByRecursion (IsLinearFor sorts) ls → is_limited (linear_sum g ls) ≡ true → IsLinearFor sorts (linear_sum g ls)
    linear_sums sign.Plus ls h e = sum_linear sorts ls (have_points sorts ls h) e
    linear_sums sign.Minus [] h e = record { linear = record { ascends = tt; over = tt; limited = e }; points = tt }
    linear_sums sign.Minus (l ∷ ls) h e = less_linear sorts l ls (have_points sorts (l ∷ ls) h) e

    each_of : (terms : List (List CaseValue)) → AllByRecursion (AreCasesIn sorts nodes) terms → AllByRecursion (λ (cases : List CaseValue). AllByRecursion (IsCaseIn sorts nodes) cases) terms
    each_of [] h = tt
    each_of (cases ∷ terms) h = (h.0.each, each_of terms h.1)

    single_of : (values : List ℤ) (terms : List (List CaseValue)) → AllByRecursion (AreCasesIn sorts nodes) terms → AreSingle nodes values terms
    single_of values [] h = tt
    single_of values (cases ∷ terms) h = (h.0.one values, single_of values terms h.1)

    module _ (t : List CaseValue) (ts : List (List CaseValue)) (h : AllByRecursion (AreCasesIn sorts nodes) (t ∷ ts)) (m : Made) where
      abbrev terms : List (List CaseValue)
      terms = t ∷ ts

      abbrev values_on : List NamedValue → List ℤ
      values_on schedule = map (cases_value nodes (point_values schedule)) terms

      by_neighbours : (relation : Relation) → follows (each_compared relation nodes [] (neighbours terms)) a_formula ≡ Ok m → IsWorth sorts nodes m (λ schedule. truth (chain (relation_test relation) (values_on schedule)))
      by_neighbours relation e =
          tested_worth (each_compared relation nodes [] (neighbours terms)) m (λ values. chain (relation_test relation) (map (cases_value nodes values) terms)) (λ schedule. truth (chain (relation_test relation) (values_on schedule)))
          (λ q f. neighbours_made sorts relation nodes table terms h q f) (λ schedule. refl) e

      by_pairs : (relation : Relation) → follows (each_compared relation nodes [] (pairs terms)) a_formula ≡ Ok m → IsWorth sorts nodes m (λ schedule. truth (all_pairs (relation_test relation) (values_on schedule)))
      by_pairs relation e =
          tested_worth (each_compared relation nodes [] (pairs terms)) m (λ values. all_pairs (relation_test relation) (map (cases_value nodes values) terms)) (λ schedule. truth (all_pairs (relation_test relation) (values_on schedule)))
          (λ q f. pairs_made sorts relation nodes table terms h q f) (λ schedule. refl) e

      -- the linear terms of the cases that hold
      abbrev linears_on : List ℤ → List LinearValue
      linears_on values = map (chosen_linear nodes values) terms

      linear_sum_value : (g : Sign) (values : List ℤ) (l : LinearValue) (ls : List LinearValue) → whole (linear_value values (linear_sum g (l ∷ ls))) ≡ sum_value g (map (linear_value values) (l ∷ ls))
      linear_sum_value sign.Plus values l ls = ap whole (value-sum values (l ∷ ls) ∙ sym (total_is values (l ∷ ls)))
      linear_sum_value sign.Minus values l ls = ap whole (value-less values (l ∷ ls)) ∙ sym (remainder_is values l ls)

      sum_worth_of : (g : Sign) (values : List ℤ) → whole (cases_value nodes values (sum_cases g terms)) ≡ sum_value g (map (cases_value nodes values) terms)
      sum_worth_of g values =
          ap whole (choices_value nodes values g (choices terms) 0 (all_holding nodes values (no_choice ∷ []) terms (single_of values terms h))
          ∙ ap (λ (ls : List LinearValue). linear_value values (linear_sum g ls)) (all_chosen nodes values (no_choice ∷ []) terms (single_of values terms h) refl))
          ∙ linear_sum_value g values (chosen_linear nodes values t) (map (chosen_linear nodes values) ts)
          ∙ ap (sum_value g) (sym (values_chosen nodes values terms))

      summed_worth : (g : Sign) → summed g nodes terms ≡ Ok m → IsWorth sorts nodes m (λ schedule. sum_value g (values_on schedule))
      summed_worth g e =
          let cases : List CaseValue = sum_cases g terms in
          let is = limited_of (are_limited cases) cases m (few_of (are_few (count_from 1 terms)) (as_number nodes cases) m e) in
          let each = sums_in sorts nodes g (linear_sums g) (choices terms) (choices_in sorts nodes (no_choice ∷ []) terms (record { guards = tt; linears = tt }, tt) (each_of terms h)) is.0 in
          cases_worth cases m (λ schedule. sum_value g (values_on schedule))
          (record { each = each; one = λ values. sum_holding nodes values g (choices terms) ∙ all_holding nodes values (no_choice ∷ []) terms (single_of values terms h) }) is.1
          (λ schedule. sum_worth_of g (point_values schedule))

      ordered_worth : (o : Order) → related_numbers (relation_of_order o) nodes terms ≡ Ok m → IsWorth sorts nodes m (λ schedule. order_value o (values_on schedule))
      ordered_worth order.AtMost e = by_neighbours relation.AtMost e
      ordered_worth order.Less e = by_neighbours relation.Less e
      ordered_worth order.AtLeast e = by_neighbours relation.AtLeast e
      ordered_worth order.Greater e = by_neighbours relation.Greater e

      equal_numbers_worth : (q : Equality) → related_numbers (relation_of_equality q) nodes terms ≡ Ok m → IsWorth sorts nodes m (λ schedule. equal_numbers q (values_on schedule))
      equal_numbers_worth equality.Equal e = by_neighbours relation.Equal e
      equal_numbers_worth equality.Distinct e = by_pairs relation.Distinct e

    -- terms that are all Int
    record AreNumbers (ts : List LoweredTerm) (terms : List (List CaseValue)) : Type 0 where
      cases : AllByRecursion (AreCasesIn sorts nodes) terms
      say : (schedule : List NamedValue) → wholes_in (map (lowered_value nodes schedule) ts) ≡ Some (map (cases_value nodes (point_values schedule)) terms)

    number_before_is : (cases : List CaseValue) (found : Option (List (List CaseValue))) (terms : List (List CaseValue)) → number_before (numeric cases) found ≡ Some terms → (others : List (List CaseValue)) × (found ≡ Some others) × (cases ∷ others ≡ terms)
    number_before_is cases None terms e = absurd cc
    number_before_is cases (Some others) terms e = let same : cases ∷ others ≡ terms = cc in (others, refl, same)

    numbers_are : (ts : List LoweredTerm) (terms : List (List CaseValue)) → AllByRecursion (IsTermIn sorts nodes) ts → numbers_in ts ≡ Some terms → AreNumbers ts terms
    numbers_are [] terms h e =
        let same : [] ≡ terms = cc in
        subst (AreNumbers []) same (record { cases = tt; say = λ schedule. refl })
    numbers_are (formula k ∷ ts) terms h e = absurd cc
    numbers_are (numeric cases ∷ ts) terms h e =
        let is = number_before_is cases (numbers_in ts) terms e in
        let rest = numbers_are ts is.0 h.1 is.1 in
        subst (AreNumbers (numeric cases ∷ ts)) is.2 (record {
          cases = (h.0, rest.cases);
          say = λ schedule. ap (whole_before (whole (cases_value nodes (point_values schedule) cases))) (rest.say schedule);
        })

    no_truths : (t : LoweredTerm) (ts : List LoweredTerm) (terms : List (List CaseValue)) → numbers_in (t ∷ ts) ≡ Some terms → (schedule : List NamedValue) → truths_in (map (lowered_value nodes schedule) (t ∷ ts)) ≡ None
    no_truths (formula k) ts terms e schedule = absurd cc
    no_truths (numeric cases) ts terms e schedule = refl

    some_before : (t : LoweredTerm) (found : Option (List (List CaseValue))) → number_before t found ≡ Some [] → ⊥
    some_before (formula k) found e = cc
    some_before (numeric cases) None e = cc
    some_before (numeric cases) (Some terms) e = cc

    -- what is made of one or more terms that are all Int
    numbers_by : (make : List (List CaseValue) → Result Made TermRefusal) (f : List ℤ → Value) (m : Made) (t : LoweredTerm) (ts : List LoweredTerm) (found : Option (List (List CaseValue))) (worth : List NamedValue → Value)
        → ((c : List CaseValue) (cs : List (List CaseValue)) → AllByRecursion (AreCasesIn sorts nodes) (c ∷ cs) → make (c ∷ cs) ≡ Ok m → IsWorth sorts nodes m (λ schedule. f (map (cases_value nodes (point_values schedule)) (c ∷ cs))))
        → ((schedule : List NamedValue) (ns : List ℤ) → truths_on (t ∷ ts) schedule ≡ None → wholes_on (t ∷ ts) schedule ≡ Some ns → f ns ≡ worth schedule)
        → AllByRecursion (IsTermIn sorts nodes) (t ∷ ts) → numbers_in (t ∷ ts) ≡ found → of_sort make found ≡ Ok m → IsWorth sorts nodes m worth
    numbers_by make f m t ts None worth makes same h g e = absurd cc
    numbers_by make f m t ts (Some []) worth makes same h g e = absurd (some_before t (numbers_in ts) g)
    numbers_by make f m t ts (Some (c ∷ cs)) worth makes same h g e =
        let are = numbers_are (t ∷ ts) (c ∷ cs) h g in
        worth_as m (λ schedule. f (map (cases_value nodes (point_values schedule)) (c ∷ cs))) worth (makes c cs are.cases e)
        (λ schedule. same schedule (map (cases_value nodes (point_values schedule)) (c ∷ cs)) (no_truths t ts (c ∷ cs) g schedule) (are.say schedule))

    -- ---- `ite` of Int terms

    placed_of : (made : Option Placed) (next : Placed → Result Made TermRefusal) (m : Made) → follows (or_too_large made) next ≡ Ok m → (p : Placed) × (made ≡ Some p) × (next p ≡ Ok m)
    placed_of None next m e = absurd cc
    placed_of (Some p) next m e = (p, refl, e)

    abbrev number_made : Placed → List CaseValue → Result Made TermRefusal
    number_made p cases = Ok (a_number p.nodes cases)

    is_made : (p : Placed) (cases : List CaseValue) (m : Made) → number_made p cases ≡ Ok m → a_number p.nodes cases ≡ m
    is_made p cases m e = cc

    branches_made_worth : (c : ℕ) (a b : List CaseValue) (m : Made) → c < length nodes → AreCasesIn sorts nodes a → AreCasesIn sorts nodes b → branches_made nodes c a b ≡ Ok m
        → IsWorth sorts nodes m (λ schedule. whole (cond (node.truth nodes (point_values schedule) c) (cases_value nodes (point_values schedule) a) (cases_value nodes (point_values schedule) b)))
    branches_made_worth c a b m in_c are_a are_b e =
        let t = placed_of (denied nodes c) (λ p. Ok (a_number p.nodes (branched c p.number a b))) m (few_of (are_few (length a + length b)) (follows (or_too_large (denied nodes c)) (λ p. Ok (a_number p.nodes (branched c p.number a b)))) m e) in
        let p : Placed = t.0 in
        let denial = denied-made Good (atom_negates sorts) nodes table c in_c p t.1 in
        let is = branched_are sorts nodes table p c in_c denial a b are_a are_b in
        subst (λ (n : Made). IsWorth sorts nodes n (λ schedule. whole (cond (node.truth nodes (point_values schedule) c) (cases_value nodes (point_values schedule) a) (cases_value nodes (point_values schedule) b))))
        (is_made p (branched c p.number a b) m t.2) (record {
          added = denial.added;
          grows = denial.grows;
          room = denial.few room;
          table = denial.table;
          term = is.are;
          says = λ schedule. ap whole (is.worth (point_values schedule));
        })

    -- ---- all operators

    module _ (m : Made) where
      abbrev IsApplied : Operator → List LoweredTerm → Type 0
      IsApplied o ts = IsWorth sorts nodes m (λ schedule. operator_value o (map (lowered_value nodes schedule) ts))

      connective_worth : (c : Connective) (ts : List LoweredTerm) → AllByRecursion (IsTermIn sorts nodes) ts → of_sort (connected c nodes) (formulas_in ts) ≡ Ok m → IsApplied (op.Connective c) ts
      connective_worth c ts h e =
          formulas_by (connected c nodes) (connective_value c) m ts (formulas_in ts) (λ schedule. of_all (connective_value c) (truths_on ts schedule))
          (λ ks there made. connected_worth c ks m there made) (λ schedule bs is. sym (ap (of_all (connective_value c)) is)) h refl e

      sum_worth : (g : Sign) (t : LoweredTerm) (ts : List LoweredTerm) → AllByRecursion (IsTermIn sorts nodes) (t ∷ ts) → of_sort (summed g nodes) (numbers_in (t ∷ ts)) ≡ Ok m → IsApplied (op.Sum g) (t ∷ ts)
      sum_worth g t ts h e =
          numbers_by (summed g nodes) (sum_value g) m t ts (numbers_in (t ∷ ts)) (λ schedule. of_all (sum_value g) (wholes_on (t ∷ ts) schedule))
          (λ t ts are made. summed_worth t ts are m g made) (λ schedule ns none is. sym (ap (of_all (sum_value g)) is)) h refl e

      order_worth : (o : Order) (t : LoweredTerm) (ts : List LoweredTerm) → AllByRecursion (IsTermIn sorts nodes) (t ∷ ts) → of_sort (related_numbers (relation_of_order o) nodes) (numbers_in (t ∷ ts)) ≡ Ok m
          → IsApplied (op.Order o) (t ∷ ts)
      order_worth o t ts h e =
          numbers_by (related_numbers (relation_of_order o) nodes) (order_value o) m t ts (numbers_in (t ∷ ts)) (λ schedule. of_all (order_value o) (wholes_on (t ∷ ts) schedule))
          (λ t ts are made. ordered_worth t ts are m o made) (λ schedule ns none is. sym (ap (of_all (order_value o)) is)) h refl e

      first_sort_worth : (q : Equality) (ts : List LoweredTerm) → AllByRecursion (IsTermIn sorts nodes) ts → of_first_sort q nodes ts ≡ Ok m → IsApplied (op.Equality q) ts
      first_sort_worth q [] h e = absurd cc
      first_sort_worth q (formula k ∷ ts) h e =
          let all : List LoweredTerm = formula k ∷ ts in
          formulas_by (equal_formulas q nodes) (equal_truths q) m all (formulas_in all) (λ schedule. equality_value q (truths_on all schedule) (wholes_on all schedule))
          (λ ks there made. equal_formulas_worth q ks m there made) (λ schedule bs is. sym (ap (λ (found : Option (List Bool)). equality_value q found (wholes_on all schedule)) is)) h refl e
      first_sort_worth q (numeric cases ∷ ts) h e =
          let all : List LoweredTerm = numeric cases ∷ ts in
          numbers_by (related_numbers (relation_of_equality q) nodes) (equal_numbers q) m (numeric cases) ts (numbers_in all) (λ schedule. equality_value q (truths_on all schedule) (wholes_on all schedule))
          (λ t ts are made. equal_numbers_worth t ts are m q made)
          (λ schedule ns none is. sym (ap (λ (found : Option (List Bool)). equality_value q found (wholes_on all schedule)) none ∙ ap (of_all (equal_numbers q)) is)) h refl e

      branches_worth : (ts : List LoweredTerm) → AllByRecursion (IsTermIn sorts nodes) ts → of_branches nodes ts ≡ Ok m → IsApplied op.Ite ts
      branches_worth [] h e = absurd cc
      branches_worth (numeric c ∷ ts) h e = absurd cc
      branches_worth (formula c ∷ []) h e = absurd cc
      branches_worth (formula c ∷ formula a ∷ []) h e = absurd cc
      branches_worth (formula c ∷ numeric a ∷ []) h e = absurd cc
      branches_worth (formula c ∷ formula a ∷ formula b ∷ []) h e =
          formula_worth (chosen nodes c a b) m (λ values. cond (node.truth nodes values c) (node.truth nodes values a) (node.truth nodes values b))
          (λ schedule. operator_value op.Ite (map (lowered_value nodes schedule) (formula c ∷ formula a ∷ formula b ∷ [])))
          (λ p f. chosen-made Good (atom_negates sorts) nodes table a b h.1.0 h.1.1.0 c p h.0 f) (λ schedule. refl) e
      branches_worth (formula c ∷ formula a ∷ numeric b ∷ []) h e = absurd cc
      branches_worth (formula c ∷ numeric a ∷ formula b ∷ []) h e = absurd cc
      branches_worth (formula c ∷ numeric a ∷ numeric b ∷ []) h e =
          branches_made_worth c a b m h.0 h.1.0 h.1.1.0 e
      branches_worth (formula c ∷ formula a ∷ formula b ∷ d ∷ rest) h e = absurd cc
      branches_worth (formula c ∷ formula a ∷ numeric b ∷ d ∷ rest) h e = absurd cc
      branches_worth (formula c ∷ numeric a ∷ formula b ∷ d ∷ rest) h e = absurd cc
      branches_worth (formula c ∷ numeric a ∷ numeric b ∷ d ∷ rest) h e = absurd cc

      -- an operator that has its count of arguments
      pub applied_worth : (o : Operator) (ts : List LoweredTerm) → takes_count o (length ts) ≡ true → AllByRecursion (IsTermIn sorts nodes) ts → applied o nodes ts ≡ Ok m → IsApplied o ts
      unfolding applied
      applied_worth (op.Connective c) ts count h e = connective_worth c ts h e
      applied_worth (op.Sum g) [] count h e = absurd cc
      applied_worth (op.Sum g) (t ∷ ts) count h e = sum_worth g t ts h e
      applied_worth (op.Order o) [] count h e = absurd cc
      applied_worth (op.Order o) (t ∷ ts) count h e = order_worth o t ts h e
      applied_worth (op.Equality q) ts count h e = first_sort_worth q ts h e
      applied_worth op.Ite ts count h e = branches_worth ts h e
