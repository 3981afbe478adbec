use Rattle.std.proofs.Common.{◌≡◌, ◌++◌, ◌∷◌, [], map, take}
use Rattle.std.specs.Vec.{vec_len}
use Rattle.stn_core.specs.declared.literal.Literal.{Literal}
use Rattle.stn_core.specs.Literal.{literal_at}
use Rattle.refute_tree.proofs.narrow.push_points.Given as goal

abbrev pub invariant-loop-literal : goal.invariant-loop-literal
invariant-loop-literal l = record {
  written : l.points.items ≡ (l.fn.points.items ++ (literal_at l.literals 0).x ∷ []) ++ map (λ (m : Literal). m.y) (take l.literal-index l.literals);
  front : take (vec_len l.fn.points) l.points.items ≡ l.fn.points.items;
}
