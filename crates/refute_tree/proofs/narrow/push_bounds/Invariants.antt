use Rattle.std.proofs.Common.{◌≡◌, ◌++◌, take}
use Rattle.std.specs.Vec.{vec_len}
use Rattle.refute_tree.specs.code.Paths.{bounds_of}
use Rattle.refute_tree.proofs.narrow.push_bounds.Given as goal

abbrev pub invariant-loop-literal : goal.invariant-loop-literal
invariant-loop-literal l = record {
  written : l.bounds.items ≡ l.fn.bounds.items ++ bounds_of (take l.literal-index l.literals);
  front : take (vec_len l.fn.bounds) l.bounds.items ≡ l.fn.bounds.items;
}
