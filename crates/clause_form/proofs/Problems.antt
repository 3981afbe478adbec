-- The problem, from the marks and the points.
use Rattle.std.proofs.Common.{sym, ap, subst, ◌∙◌, ◌≡◌, ℕ, List, length, Bool, All}
use Rattle.stn_core.specs.declared.literal.Literal.{Literal}
use Rattle.stn_core.specs.Literal.{IsOver}
use Rattle.idl_node.specs.declared.node.Node.{Node}
use Rattle.idl_node.specs.Nodes.{NodeValue, shown}
use Rattle.clause_form.specs.code.Marking.{AreMarks, IsNumbering}
use Rattle.clause_form.specs.Polarity.{polarity_of, inner_nodes}
use Rattle.clause_form.specs.ClauseForm.{fresh_point, clauses_below, clauses_of, points_of}
use Rattle.clause_form.proofs.Passes.{shown_count, same_marks}

module _ (nodes : List Node) (values : List NodeValue) (is : shown nodes ≡ values) (roots : List ℕ) (points : ℕ) where
  numbers : List ℕ
  numbers = inner_nodes (shown nodes) (polarity_of (shown nodes) roots)

  -- the count of points, by marks that were read from those that were made
  pub problem_points : (made read : List Bool) (result : ℕ) → read ≡ made → AreMarks (length nodes) made (inner_nodes (shown nodes) (polarity_of (shown nodes) roots)) → ((others : List ℕ) → AreMarks (length read) read others → result ≡ fresh_point points others (length read))
      → result ≡ points_of points values roots
  unfolding points_of numbers
  problem_points made read result same marks says =
      let all : AreMarks (length nodes) read numbers = same_marks (length nodes) made read numbers same marks in
      let count : length read ≡ length (shown nodes) = all.count_is ∙ shown_count nodes in
      says numbers (subst (λ (n : ℕ). AreMarks n read numbers) (sym all.count_is) all)
      ∙ ap (λ (n : ℕ). fresh_point points numbers n) count ∙ ap (λ (ns : List NodeValue). points_of points ns roots) is

  pub problem_numbering : (made read : List Bool) (fresh given : List ℕ) → read ≡ made → given ≡ fresh → AreMarks (length nodes) made (inner_nodes (shown nodes) (polarity_of (shown nodes) roots))
      → ((others : List ℕ) → AreMarks (length read) read others → IsNumbering points others (length read) fresh) → IsNumbering points (inner_nodes (shown nodes) (polarity_of (shown nodes) roots)) (length nodes) given
  unfolding numbers
  problem_numbering made read fresh given same same_fresh marks says =
      let all : AreMarks (length nodes) read numbers = same_marks (length nodes) made read numbers same marks in
      let numbering : IsNumbering points numbers (length read) fresh = says numbers (subst (λ (n : ℕ). AreMarks n read numbers) (sym all.count_is) all) in
      subst (λ (n : ℕ). IsNumbering points numbers n given) all.count_is (subst (λ (xs : List ℕ). IsNumbering points numbers (length read) xs) (sym same_fresh) numbering)

  pub problem_clauses : (result : List (List Literal)) → result ≡ clauses_below points (shown nodes) (polarity_of (shown nodes) roots) (inner_nodes (shown nodes) (polarity_of (shown nodes) roots)) (length nodes) → result ≡ clauses_of points values roots
  unfolding clauses_of
  problem_clauses result e =
      e ∙ ap (λ (n : ℕ). clauses_below points (shown nodes) (polarity_of (shown nodes) roots) (inner_nodes (shown nodes) (polarity_of (shown nodes) roots)) n) (shown_count nodes)
      ∙ ap (λ (ns : List NodeValue). clauses_of points ns roots) is

pub problem_over : (points many : ℕ) (clauses others : List (List Literal)) → points ≡ many → clauses ≡ others → All (λ clause. All (IsOver many) clause) others → All (λ clause. All (IsOver points) clause) clauses
problem_over points many clauses others e f h =
    subst (λ (n : ℕ). All (λ (clause : List Literal). All (IsOver n) clause) clauses) (sym e) (subst (λ (cs : List (List Literal)). All (λ (clause : List Literal). All (IsOver many) clause) cs) (sym f) h)
