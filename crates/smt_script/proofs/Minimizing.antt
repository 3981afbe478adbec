-- What is minimized: the command's term, and what its objective is worth.
use Rattle.std.proofs.Common.{refl, ap, subst, arith, ◌∙◌, ◌≡◌, ◌<◌, ◌+◌, ℕ, zero, suc, List, [], ◌∷◌, length, Option, Some, None, Result, Ok, Err, ℤ, pos}
use Rattle.std.proofs.lemmas.Int.{ints}
use Rattle.std.proofs.lemmas.List.{length-map}
use Rattle.std.proofs.lemmas.Option.{slice_get_within}
use Rattle.smt_sexpr.specs.Tree.{Sexpr}
use Rattle.stn_core.specs.Literal.{value_at}
use Rattle.stn_core.specs.declared.named.NamedValue.{NamedValue}
use Rattle.idl_linear.specs.Differences.{difference_of}
use Rattle.idl_linear.specs.Laws.{DifferenceValue}
use Rattle.idl_linear.specs.Linear.{LinearValue, number_alone}
use Rattle.idl_linear.specs.Values.{linear_value}
use Rattle.idl_linear.specs.declared.difference.Difference.{Difference}
use Rattle.idl_linear.specs.declared.error.DifferenceRefusal.{DifferenceRefusal}
use Rattle.idl_linear.proofs.Comparing.{points-difference}
use Rattle.idl_node.specs.declared.sort.Sort.{Sort}
use Rattle.idl_node.specs.declared.sort.Sort.TheVariants as sort
use Rattle.idl_node.specs.Sorts.{IsIntPoint}
use Rattle.idl_node.specs.Truth.{point_values}
use Rattle.idl_cases.specs.Guarded.{CaseValue, plain, plain_linear, unguarded}
use Rattle.idl_apply.proofs.ComparisonNodes.{difference_low, difference_high}
use Rattle.idl_apply.specs.Applied.{Made}
use Rattle.idl_term.specs.Contexts.{Context, IsContext, IsScheduleFor, environment, scope_of}
use Rattle.idl_term.specs.Laws.{LoweredIsMade, LoweredIsWorth, ContextsHaveScopes, NamesAgree}
use Rattle.idl_term.specs.Lowered.{lowered}
use Rattle.idl_value.specs.CaseValues.{IsLinearFor, IsTermIn}
use Rattle.idl_term.specs.Meanings.{lowered_value}
use Rattle.idl_term.specs.Scopes.{LoweredTerm, formula, numeric, Declaration, sorts_of}
use Rattle.idl_term.specs.Values.{whole, value}
use Rattle.idl_apply.specs.declared.error.TermRefusal.{TermRefusal}
use Rattle.smt_script.specs.Objectives.{objective, objective_by, objective_of_linear, objective_of, minimized_by, objective_value, IsObjectiveOf}
use Rattle.smt_script.specs.declared.objective.Objective.{Objective}

-- ---- what a term without conditions is made into

abbrev case_of : List ℕ → LinearValue → CaseValue
case_of guards l = record { guards = guards; linear = l }

unguarded_is : (guards : List ℕ) (l m : LinearValue) → unguarded guards l ≡ Some m → case_of guards l ≡ case_of [] m
unguarded_is [] l m e =
    let same : l ≡ m = cc in
    ap (case_of []) same
unguarded_is (g ∷ guards) l m e = absurd cc

plain_is : (cases : List CaseValue) (l : LinearValue) → plain_linear cases ≡ Some l → cases ≡ plain l
plain_is [] l e = absurd cc
plain_is (case ∷ []) l e = ap (λ (c : CaseValue). c ∷ []) (unguarded_is case.guards case.linear l e)
plain_is (case ∷ other ∷ cases) l e = absurd cc

-- the term is the linear one, which is compared with 0 as the difference
record IsCompared (is : LoweredTerm) (o : Objective) : Type 0 where
  linear : LinearValue
  difference : Difference
  without : is ≡ numeric (plain linear)
  compares : difference_of linear (number_alone (pos 0)) ≡ Ok difference
  gives : objective difference ≡ o

compared_by : (is : LoweredTerm) (l : LinearValue) (found : Result Difference DifferenceRefusal) (o : Objective) → is ≡ numeric (plain l) → difference_of l (number_alone (pos 0)) ≡ found → objective_by found ≡ Ok o → IsCompared is o
compared_by is l (Ok d) o p e f = record { linear = l; difference = d; without = p; compares = e; gives = (let same : objective d ≡ o = cc in same) }
compared_by is l (Err why) o p e f = absurd cc

linear_by : (cases : List CaseValue) (found : Option LinearValue) (o : Objective) → plain_linear cases ≡ found → objective_of_linear found ≡ Ok o → IsCompared (numeric cases) o
linear_by cases (Some l) o e f = compared_by (numeric cases) l (difference_of l (number_alone (pos 0))) o (ap numeric (plain_is cases l e)) refl f
linear_by cases None o e f = absurd cc

compared_is : (is : LoweredTerm) (o : Objective) → objective_of is ≡ Ok o → IsCompared is o
compared_is (formula k) o e = absurd cc
compared_is (numeric cases) o e = linear_by cases (plain_linear cases) o refl e

record IsMinimized (found : Result Made TermRefusal) (o : Objective) : Type 0 where
  made : Made
  is : found ≡ Ok made
  compared : IsCompared made.is o

minimized_is : (found : Result Made TermRefusal) (o : Objective) → minimized_by found ≡ Ok o → IsMinimized found o
minimized_is (Ok made) o e = record { made = made; is = refl; compared = compared_is made.is o e }
minimized_is (Err why) o e = absurd cc

-- ---- what it is worth

int_point_within : (sorts : List Sort) (p : ℕ) → IsIntPoint sorts p → p < length sorts + 1
int_point_within sorts zero h = omega arith
int_point_within sorts (suc k) h = let within : k < length sorts = slice_get_within sorts k sort.Int h in omega (arith, within)

point_within : (declared : List Declaration) (p : ℕ) → IsIntPoint (sorts_of declared) p → p < length declared + 1
point_within declared p h =
    let within = int_point_within (sorts_of declared) p h in
    let count = length-map declared (λ (d : Declaration). d.sort) in
    omega (arith, within, count)

module _ (c : Context) (t : Sexpr) (is : IsContext c) (difference : DifferenceValue) (scope : ContextsHaveScopes) (agrees : NamesAgree) (in_table : LoweredIsMade) (worth : LoweredIsWorth) where
  module _ (made : Made) (e : lowered (scope_of c) c.nodes t ≡ Ok made) (o : Objective) (h : IsCompared made.is o) where
    abbrev sorts : List Sort
    sorts = sorts_of c.declared

    abbrev d : Difference
    d = h.difference

    linear_for : IsLinearFor sorts h.linear
    linear_for =
        let term : IsTermIn sorts made.nodes (numeric (plain h.linear)) =
        subst (λ (u : LoweredTerm). IsTermIn sorts made.nodes u) h.without (in_table (scope_of c) c.nodes t made (scope c is) e).term in
        term.each.0.linear

    ends : IsIntPoint sorts d.x × IsIntPoint sorts d.y
    ends = points-difference (IsIntPoint sorts) h.linear (number_alone (pos 0)) d tt linear_for.points tt h.compares

    linear_worth : (values : List ℤ) → value_at values 0 ≡ pos 0 → linear_value values h.linear ≡ objective_value values (objective d)
    linear_worth values none =
        let compared = difference values h.linear (number_alone (pos 0)) d none h.compares in
        let nothing : linear_value values (number_alone (pos 0)) ≡ pos 0 = refl in
        omega (arith, ints, compared, nothing)

    term_worth : (schedule : List NamedValue) → IsScheduleFor c schedule → value (environment c schedule) t ≡ whole (objective_value (point_values schedule) (objective d))
    term_worth schedule fits =
        worth (scope_of c) c.nodes t made schedule (environment c schedule) (scope c is) fits (agrees c schedule is fits) e
        ∙ ap (lowered_value made.nodes schedule) h.without
        ∙ ap whole (linear_worth (point_values schedule) refl)

    objective_worth : IsObjectiveOf c t (objective d)
    objective_worth = record {
      x_in = ends.0;
      y_in = ends.1;
      x_below = point_within c.declared d.x ends.0;
      y_below = point_within c.declared d.y ends.1;
      low = (let above = difference_high h.linear (number_alone (pos 0)) d h.compares in omega (arith, ints, above));
      high = (let below = difference_low h.linear (number_alone (pos 0)) d h.compares in omega (arith, ints, below));
      worth = term_worth;
    }

    made_worth : IsObjectiveOf c t o
    made_worth = subst (λ (p : Objective). IsObjectiveOf c t p) h.gives objective_worth

  pub minimized_worth : (o : Objective) → minimized_by (lowered (scope_of c) c.nodes t) ≡ Ok o → IsObjectiveOf c t o
  minimized_worth o f =
      let m = minimized_is (lowered (scope_of c) c.nodes t) o f in
      made_worth m.made m.is o m.compared
