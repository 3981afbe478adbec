-- What a right entry says is so.
use Rattle.std.proofs.Common.{ℤ, arith, refl, sym, ap, subst, ◌≡◌, ◌+◌, ◌≤◌, ◌^◌, ℕ, suc, List, [], ◌∷◌, length}
use Rattle.stn_core.specs.Literal.{IsOver}
use Rattle.stn_core.specs.Problem.{ProblemHolds}
use Rattle.refute_tree.specs.declared.lemma.Lemma.{Lemma}
use Rattle.refute_tree.specs.Laws.{RefutationLaw}
use Rattle.refute_tree.specs.Trees.{IsRefutation}
use Rattle.clause_form.specs.ClauseForm as clause_form
use Rattle.clause_form.specs.Laws.{ProblemFollows, PointsAreFew}
use Rattle.idl_node.specs.declared.sort.Sort.{Sort}
use Rattle.idl_node.specs.Limits.{nodes_limit}
use Rattle.idl_node.specs.Nodes.{NodeValue}
use Rattle.idl_node.specs.Sorts.{IsAtomFor}
use Rattle.idl_node.specs.Tables.{IsTableOf, IsTableOver}
use Rattle.idl_node.proofs.Keeping.{table_of-better}
use Rattle.idl_term.specs.Contexts.{Context, IsContext, IsSatisfiable}
use Rattle.idl_term.specs.Laws.{ContextsHaveScopes, RootsAreNodes, RootsAreExact}
use Rattle.idl_term.specs.Limits.{names_limit}
use Rattle.idl_term.specs.Scopes.{sorts_of, Declaration}
use Rattle.dtp_entry.specs.Entries.{points_of, problem_of}
use Rattle.unsat_cores.specs.Laws.{CoreLaw}
use Rattle.dtp_entry.specs.Cores.{NoneTogether}
use Rattle.dtp_entry.proofs.Roots.{roots_true, root_asserted}

-- the table that a state lends is over the zero point and the names' points
pub table_over : (points : ℕ) (lent nodes : List NodeValue) (sorts : List Sort) → points ≡ length sorts + 1 → lent ≡ nodes → IsTableOf (IsAtomFor sorts) nodes → IsTableOver points lent
table_over points lent nodes sorts e f table =
    let over : IsTableOver (length sorts + 1) nodes = table_of-better (IsAtomFor sorts) (IsOver (length sorts + 1)) (λ l is. is.over) nodes table in
    subst (λ (n : ℕ). IsTableOver n lent) (sym e) (subst (λ (ns : List NodeValue). IsTableOver (length sorts + 1) ns) (sym f) over)

-- as many sorts as names
pub sorts_count : (declared : List Declaration) → length (sorts_of declared) ≡ length declared
sorts_count [] = refl
sorts_count (d ∷ declared) = ap suc (sorts_count declared)

module _ (c : Context) (context : IsContext c) where
  -- where the problem holds on no values, no schedule satisfies the assertions
  pub unsolvable_unsatisfiable : ContextsHaveScopes → RootsAreNodes → RootsAreExact → ProblemFollows → ((values : List ℤ) → ProblemHolds values (problem_of c) → ⊥) → IsSatisfiable c → ⊥
  unsolvable_unsatisfiable scope roots exact law never sat =
      let sorts = sorts_of c.declared in
      let w = law sorts c.nodes c.roots sat.0 (scope c context).table (roots c context) sat.1 (roots_true c sat.0 c.assertions c.roots (exact c sat.0 context sat.1) sat.2) in
      never w.0 (subst (λ (n : ℕ). ProblemHolds w.0 (clause_form.clauses_of (n + 1) c.nodes c.roots)) (sorts_count c.declared) w.3)

  -- where it is refuted, none does
  pub refuted_unsatisfiable : ContextsHaveScopes → RootsAreNodes → RootsAreExact → ProblemFollows → RefutationLaw → (lemmas : List Lemma) → IsRefutation (points_of c) (problem_of c) lemmas → IsSatisfiable c → ⊥
  refuted_unsatisfiable scope roots exact law refutes lemmas h = unsolvable_unsatisfiable scope roots exact law (λ values holds. refutes (points_of c) (problem_of c) lemmas h values holds)

  -- the assertions that the refutation cites are true together on no schedule
  pub none_together : ContextsHaveScopes → RootsAreExact → CoreLaw → (lemmas : List Lemma) → IsRefutation (points_of c) (problem_of c) lemmas → NoneTogether c lemmas
  none_together scope exact core lemmas h schedule fits all =
      let sorts = sorts_of c.declared in
      let refutes : IsRefutation (clause_form.points_of (length sorts + 1) c.nodes c.roots) (clause_form.clauses_of (length sorts + 1) c.nodes c.roots) lemmas =
      subst (λ (n : ℕ). IsRefutation (clause_form.points_of (n + 1) c.nodes c.roots) (clause_form.clauses_of (n + 1) c.nodes c.roots) lemmas) (sym (sorts_count c.declared)) h in
      core sorts c.nodes c.roots lemmas schedule (scope c context).table fits refutes
      (λ r lt cited. root_asserted c schedule c.assertions c.roots r (exact c schedule context fits) lt (λ t at. all r t cited at))

  pub few_points : ContextsHaveScopes → PointsAreFew → points_of c ≤ 2 ^ 32
  few_points scope few =
      let over = scope c context in
      let names : length c.declared ≤ names_limit = over.few in
      let nodes : length c.nodes ≤ nodes_limit = over.room in
      let points = few (length c.declared + 1) c.nodes c.roots in
      omega (arith, names, nodes, points)
