-- The laws of the definitions, each said once: its function ensures it, and who stands on it names it.
use Rattle.std.specs.Prelude.{◌≡◌, ◌+◌, ◌<◌, ℕ, ℤ, List, length, map, Some, slice_get, slice_index, true}
use Rattle.stn_core.specs.declared.literal.Literal.{Literal}
use Rattle.stn_core.specs.declared.named.NamedValue.{NamedValue}
use Rattle.stn_core.specs.Problem.{ClauseHolds}
use Rattle.refute_tree.specs.declared.lemma.Lemma.{Lemma}
use Rattle.refute_tree.specs.Lengths.{lengthened_lemma}
use Rattle.refute_tree.specs.Trees.{IsRefutation}
use Rattle.idl_node.specs.declared.sort.Sort.{Sort}
use Rattle.idl_node.specs.Nodes.{NodeValue}
use Rattle.idl_node.specs.Sorts.{IsAtomFor, AreOfSorts}
use Rattle.idl_node.specs.Tables.{IsTableOf}
use Rattle.idl_node.specs.Truth.{truth, point_values}
use Rattle.clause_form.specs.ClauseForm.{clauses_of, points_of}
use Rattle.unsat_cores.specs.Cited.{cites_clause}
use Rattle.unsat_cores.specs.Cores.{is_cited_root}

-- the cited clauses alone have no solution
abbrev pub CitedLaw : Type 0
CitedLaw =
    (points : ℕ) (clauses : List (List Literal)) (lemmas : List Lemma) → IsRefutation points clauses lemmas
    → (values : List ℤ) → ((i : ℕ) (clause : List Literal) → cites_clause lemmas i ≡ true → slice_get clauses i ≡ Some clause → ClauseHolds values clause)
    → ⊥

-- a clash written out names the same clause
abbrev pub LengthenedCites : Type 0
LengthenedCites =
    (clauses : List (List Literal)) (lemmas : List Lemma) (i : ℕ)
    → cites_clause (map (lengthened_lemma clauses) lemmas) i ≡ cites_clause lemmas i

-- and so it has the same root
abbrev pub LengthenedRoots : Type 0
LengthenedRoots =
    (clauses : List (List Literal)) (nodes : List NodeValue) (roots : List ℕ) (lemmas : List Lemma) (r : ℕ)
    → is_cited_root nodes roots (map (lengthened_lemma clauses) lemmas) r ≡ is_cited_root nodes roots lemmas r

-- no schedule makes the cited roots true together
abbrev pub CoreLaw : Type 0
CoreLaw =
    (sorts : List Sort) (nodes : List NodeValue) (roots : List ℕ) (lemmas : List Lemma) (schedule : List NamedValue)
    → IsTableOf (IsAtomFor sorts) nodes → AreOfSorts sorts schedule
    → IsRefutation (points_of (length sorts + 1) nodes roots) (clauses_of (length sorts + 1) nodes roots) lemmas
    → ((r : ℕ) → r < length roots → is_cited_root nodes roots lemmas r ≡ true → truth nodes (point_values schedule) (slice_index roots r) ≡ true)
    → ⊥
