-- What a schedule of names is on which formulas are true.
use Rattle.std.specs.Prelude.{◌≡◌, ℕ, List, true}
use Rattle.std.specs.List.{AllByRecursion}
use Rattle.stn_core.specs.declared.named.NamedValue.{NamedValue}
use Rattle.stn_core.specs.Named.{AreWithinLimit}
use Rattle.idl_node.specs.declared.sort.Sort.{Sort}
use Rattle.idl_node.specs.Nodes.{NodeValue}
use Rattle.idl_node.specs.Sorts.{AreOfSorts}
use Rattle.idl_node.specs.Truth.{truth, point_values}

-- a value of its sort for each name, within the limit, on which all roots are true
pub record IsScheduleOf (nodes : List NodeValue) (roots : List ℕ) (sorts : List Sort) (named : List NamedValue) : Type 0 where
  pub of_sorts : AreOfSorts sorts named
  pub within : AreWithinLimit named
  pub true_all : AllByRecursion (λ r. truth nodes (point_values named) r ≡ true) roots
