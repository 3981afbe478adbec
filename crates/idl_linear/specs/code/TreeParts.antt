-- Of the code and not of the meaning: the parts of a tree.
use Rattle.std.specs.Prelude.{◌+◌, ◌++◌}
use Rattle.std.specs.Arc.{arc_value}
use Rattle.idl_linear.specs.declared.tree.Part.{Part}
use Rattle.idl_linear.specs.declared.tree.Part.TheVariants.{Leaf, Fork}
use Rattle.idl_linear.specs.code.Trees.{TreeValue, AllFrom, AllUpTo, AllWithin}

abbrev pub tree_in : Part → TreeValue
tree_in (Leaf items) = record { summands = items.items; height = 0 }
tree_in (Fork middle count greatest left right) = record {
  summands = (arc_value left).summands ++ (arc_value right).summands;
  height = 1 + ((arc_value left).height + (arc_value right).height);
}

-- a fork's left side is below its middle, and its right side isn't; and it knows a bound on its coefficients
abbrev pub IsParted : Part → Type 0
IsParted (Leaf items) = Unit {0}
IsParted (Fork middle count greatest left right) =
    (AllUpTo middle (arc_value left).summands × AllFrom middle (arc_value right).summands) × AllWithin greatest ((arc_value left).summands ++ (arc_value right).summands)
