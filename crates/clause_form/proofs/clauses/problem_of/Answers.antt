use Rattle.std.proofs.Common.{arith, ap, subst, sym, ◌∙◌, ◌≡◌, ◌<◌, length, Bool, List, ℕ}
use Rattle.idl_node.specs.Nodes.{NodeValue, shown}
use Rattle.idl_node.specs.Tables.{IsTableOver}
use Rattle.clause_form.specs.ClauseForm.{clauses_of, points_of}
use Rattle.clause_form.specs.Polarity.{polarity_of, inner_nodes}
use Rattle.clause_form.proofs.Passes.{same_marks}
use Rattle.clause_form.proofs.Points.{clauses_over, points_some}
use Rattle.clause_form.proofs.Problems.{problem_points, problem_numbering, problem_clauses, problem_over}
use Rattle.clause_form.proofs.clauses.problem_of.Goals as goal

pub node_marks-requires : goal.node_marks-requires
node_marks-requires c = record { table = (c.args.points, subst (λ (ns : List NodeValue). IsTableOver c.args.points ns) (sym c.as_slice-table.ensures.nodes) c.requires.table) }

pub invariant_of-form : goal.invariant_of-form
invariant_of-form c = record {
  same = ap (λ (xs : List ℕ). length xs) c.deref-2.ensures.value ∙ c.in_ok-numbering.ensures.count ∙ ap (λ (xs : List Bool). length xs) c.deref.ensures.value ∙ c.in_ok-marks.ensures.inner_are.count_is;
}

points_are : (c : goal.After-new) → c.in_ok-numbering.numbering.points ≡ points_of c.args.points c.args.nodes.now c.args.roots.now
points_are c = problem_points c.as_slice-table.result.now _ c.as_slice-table.ensures.nodes c.args.roots.now c.args.points _ _ _ c.deref.ensures.value c.in_ok-marks.ensures.inner_are c.in_ok-numbering.ensures.points

clauses_are : (c : goal.After-new) → c.new.result ≡ clauses_of c.args.points c.args.nodes.now c.args.roots.now
clauses_are c =
    let table = c.as_slice-table.result.now in
    let p = polarity_of (shown table) c.args.roots.now in
    let marks = c.in_ok-marks.ensures.inner_are in
    c.new.ensures
    ∙ problem_clauses table _ c.as_slice-table.ensures.nodes c.args.roots.now c.args.points _
    (c.in_ok-clauses.ensures p c.args.points (inner_nodes (shown table) p)
    (problem_numbering table _ c.as_slice-table.ensures.nodes c.args.roots.now c.args.points _ _ _ _ c.deref.ensures.value c.deref-2.ensures.value marks c.in_ok-numbering.ensures.fresh)
    c.in_ok-marks.ensures.polarity_are (same_marks _ _ _ _ c.deref-3.ensures.value marks))

pub invariant_of-result : goal.invariant_of-result
invariant_of-result c =
    let points = points_are c in
    let enough = points_some c.args.points c.args.nodes.now c.args.roots.now in
    let count = ap (λ (xs : List Bool). length xs) c.deref.ensures.value in
    let some : 0 < c.args.points = omega (arith, c.requires.some) in
    record {
      some = omega (arith, points, enough, c.requires.some);
      few = omega (arith, count, c.in_ok-numbering.ensures.few, c.in_ok-marks.ensures.inner_are.count_is, c.as_slice-table.ensures.few, c.requires.few);
      over = problem_over _ _ _ _ points (clauses_are c) (clauses_over c.args.points c.args.nodes.now c.args.roots.now some c.requires.table);
    }

pub returns-clause-points : goal.returns-clause-points
returns-clause-points c =
    problem_points c.as_slice-table.result.now _ c.as_slice-table.ensures.nodes c.args.roots.now c.args.points _ _ _ c.deref.ensures.value c.in_ok-marks.ensures.inner_are c.in_ok-numbering.ensures.points

pub returns-clause-clauses : goal.returns-clause-clauses
returns-clause-clauses c =
    let table = c.as_slice-table.result.now in
    let p = polarity_of (shown table) c.args.roots.now in
    let marks = c.in_ok-marks.ensures.inner_are in
    c.new.ensures
    ∙ problem_clauses table _ c.as_slice-table.ensures.nodes c.args.roots.now c.args.points _
    (c.in_ok-clauses.ensures p c.args.points (inner_nodes (shown table) p)
    (problem_numbering table _ c.as_slice-table.ensures.nodes c.args.roots.now c.args.points _ _ _ _ c.deref.ensures.value c.deref-2.ensures.value marks c.in_ok-numbering.ensures.fresh)
    c.in_ok-marks.ensures.polarity_are (same_marks _ _ _ _ c.deref-3.ensures.value marks))
