use Rattle.std.proofs.Common.{◌≡◌, ◌+◌, ◌-◌, ◌++◌, ℕ, List, length, map, take, drop}
use Rattle.idl_node.specs.code.Repeats.{HasRepeats, IsRow}
use Rattle.idl_cases.specs.Guarded.{CaseValue}
use Rattle.idl_apply.specs.Comparing.{each_compared}
use Rattle.idl_apply.specs.code.Repeats.{AreCompared, term_at}
use Rattle.idl_apply.proofs.Arguments.{seen}
use Rattle.idl_apply.proofs.rows.compare_others.Given as goal

abbrev pub invariant-loop-j : goal.invariant-loop-j
invariant-loop-j l = record {
  made : (before : List ℕ) (rest : List (List CaseValue × List CaseValue)) → each_compared l.all.relation l.fn.nodes before (map (λ (b : List CaseValue). (term_at (seen l.all.terms.now) l.i, b)) (drop (l.i + 1) (seen l.all.terms.now)) ++ rest)
      ≡ each_compared l.all.relation l.nodes (before ++ l.row.items) (map (λ (b : List CaseValue). (term_at (seen l.all.terms.now) l.i, b)) (drop l.j (seen l.all.terms.now)) ++ rest);
  count : length l.row.items ≡ l.j - (l.i + 1);
  row : HasRepeats l.all.earlier.now → IsRow (AreCompared l.all.relation l.nodes) (seen l.all.terms.now) l.i l.j l.row.items;
  front : take (length l.fn.nodes) l.nodes ≡ l.fn.nodes;
}
