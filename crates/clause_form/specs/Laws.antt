-- The laws of the definitions, each said once: its function ensures it, and who stands on it names it.
use Rattle.std.specs.Prelude.{◌≡◌, ◌+◌, ◌<◌, ◌≤◌, ◌↔◌, ℕ, List, length, All, IsTrue, true, ℤ, Option, Some, None, slice_get, slice_index, slice_index_or}
use Rattle.std.specs.List.{AllByRecursion}
use Rattle.stn_core.specs.declared.literal.Literal.{Literal}
use Rattle.stn_core.specs.declared.named.NamedValue.{NamedValue}
use Rattle.stn_core.specs.Literal.{IsOver}
use Rattle.stn_core.specs.Problem.{ClauseHolds, ProblemHolds}
use Rattle.idl_node.specs.declared.sort.Sort.{Sort}
use Rattle.idl_node.specs.Nodes.{NodeValue}
use Rattle.idl_node.specs.Sorts.{IsAtomFor}
use Rattle.idl_node.specs.Tables.{IsTableOf}
use Rattle.idl_node.specs.Truth.{truth, point_values}
use Rattle.clause_form.specs.ClauseForm.{clauses_of, points_of}
use Rattle.clause_form.specs.Polarity.{is_among, polarity_of, inner_nodes}
use Rattle.clause_form.specs.Restricting.{restricted, AreOfSorts}
use Rattle.clause_form.specs.Sources.{first_root, asserts, denies, HasRoot, sources_of}
use Rattle.clause_form.specs.Sets.{IsAsserted, IsDenied, IsInner}

abbrev pub AssertedAreLeast : Type 0
AssertedAreLeast =
    (sorts : List Sort) (nodes : List NodeValue) (roots : List ℕ) (k : ℕ)
    → IsTableOf (IsAtomFor sorts) nodes → AllByRecursion (λ r. r < length nodes) roots
    → (IsTrue (is_among k (polarity_of nodes roots).asserted) ↔ IsAsserted nodes roots k)

abbrev pub DeniedAreLeast : Type 0
DeniedAreLeast =
    (sorts : List Sort) (nodes : List NodeValue) (roots : List ℕ) (k : ℕ)
    → IsTableOf (IsAtomFor sorts) nodes → AllByRecursion (λ r. r < length nodes) roots
    → (IsTrue (is_among k (polarity_of nodes roots).denied) ↔ IsDenied nodes roots k)

abbrev pub InnerAreLeast : Type 0
InnerAreLeast =
    (sorts : List Sort) (nodes : List NodeValue) (roots : List ℕ) (k : ℕ)
    → IsTableOf (IsAtomFor sorts) nodes → AllByRecursion (λ r. r < length nodes) roots
    → (IsTrue (is_among k (inner_nodes nodes (polarity_of nodes roots))) ↔ IsInner nodes roots k)

abbrev pub ProblemFollows : Type 0
ProblemFollows =
    (sorts : List Sort) (nodes : List NodeValue) (roots : List ℕ) (schedule : List NamedValue)
    → IsTableOf (IsAtomFor sorts) nodes → AllByRecursion (λ r. r < length nodes) roots
    → AreOfSorts sorts schedule → AllByRecursion (λ r. truth nodes (point_values schedule) r ≡ true) roots
    → (values : List ℤ) × (length values ≡ points_of (length sorts + 1) nodes roots) × (restricted sorts values ≡ schedule) × ProblemHolds values (clauses_of (length sorts + 1) nodes roots)

abbrev pub ScheduleFollows : Type 0
ScheduleFollows =
    (sorts : List Sort) (nodes : List NodeValue) (roots : List ℕ) (values : List ℤ)
    → IsTableOf (IsAtomFor sorts) nodes → AllByRecursion (λ r. r < length nodes) roots
    → length values ≡ points_of (length sorts + 1) nodes roots
    → ProblemHolds values (clauses_of (length sorts + 1) nodes roots)
    → AreOfSorts sorts (restricted sorts values) × AllByRecursion (λ r. truth nodes (point_values (restricted sorts values)) r ≡ true) roots

abbrev pub LiteralsAreOver : Type 0
LiteralsAreOver =
    (sorts : List Sort) (nodes : List NodeValue) (roots : List ℕ) → IsTableOf (IsAtomFor sorts) nodes
    → AllByRecursion (λ r. r < length nodes) roots
    → All (λ clause. All (IsOver (points_of (length sorts + 1) nodes roots)) clause) (clauses_of (length sorts + 1) nodes roots)

abbrev pub PointsAreFew : Type 0
PointsAreFew =
    (points : ℕ) (nodes : List NodeValue) (roots : List ℕ)
    → points_of points nodes roots ≤ points + length nodes

abbrev pub PointsGrow : Type 0
PointsGrow =
    (points : ℕ) (nodes : List NodeValue) (roots : List ℕ) → points ≤ points_of points nodes roots

-- the root that a clause comes from is true on the schedule, where it comes from one
abbrev pub IsTrueSource : List NodeValue → List ℕ → List NamedValue → Option ℕ → Type 0
IsTrueSource nodes roots schedule None = Unit {0}
IsTrueSource nodes roots schedule (Some r) = truth nodes (point_values schedule) (slice_index roots r) ≡ true

-- Every schedule is given by some point values on which those clauses hold whose roots are true on it, whichever of the
-- roots these are. So where some of the clauses hold on no values, no schedule makes their roots true together.
abbrev pub SourcesFollow : Type 0
SourcesFollow =
    (sorts : List Sort) (nodes : List NodeValue) (roots : List ℕ) (schedule : List NamedValue)
    → IsTableOf (IsAtomFor sorts) nodes → AreOfSorts sorts schedule
    → (values : List ℤ) × (length values ≡ points_of (length sorts + 1) nodes roots) × (restricted sorts values ≡ schedule)
    × ((i : ℕ) (clause : List Literal) → slice_get (clauses_of (length sorts + 1) nodes roots) i ≡ Some clause
    → IsTrueSource nodes roots schedule (slice_index_or (sources_of nodes roots) i None) → ClauseHolds values clause)

-- each clause has its source
abbrev pub SourcesAreParallel : Type 0
SourcesAreParallel =
    (points : ℕ) (nodes : List NodeValue) (roots : List ℕ)
    → length (sources_of nodes roots) ≡ length (clauses_of points nodes roots)

-- a source is a root, which alone asserts an asserted node, and alone denies a denied one
abbrev pub SourcesAreRoots : Type 0
SourcesAreRoots =
    (sorts : List Sort) (nodes : List NodeValue) (roots : List ℕ) (k : ℕ) → IsTableOf (IsAtomFor sorts) nodes
    → (IsTrue (is_among k (polarity_of nodes roots).asserted) → HasRoot (asserts nodes k) roots (first_root (asserts nodes k) 0 roots))
    × (IsTrue (is_among k (polarity_of nodes roots).denied) → HasRoot (denies nodes k) roots (first_root (denies nodes k) 0 roots))

-- each source is the number of a root
abbrev pub SourcesAreWithin : Type 0
SourcesAreWithin =
    (nodes : List NodeValue) (roots : List ℕ) (i r : ℕ) → slice_get (sources_of nodes roots) i ≡ Some (Some r) → r < length roots
