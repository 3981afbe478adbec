use Rattle.std.proofs.Common.{◌≡◌, ◌+◌, ◌-◌, ◌++◌, ℕ, List, length, map, take, drop, get_or}
use Rattle.idl_node.specs.Making.{different, each_pair}
use Rattle.idl_node.specs.code.Repeats.{AreToldApart, HasRepeats, IsRow}
use Rattle.idl_node.proofs.nodes.Nodes.tell_others_apart.Given as goal

abbrev pub invariant-loop-j : goal.invariant-loop-j
invariant-loop-j l = record {
  made : (before : List ℕ) (rest : List (ℕ × ℕ)) → each_pair different l.fn.self before (map (λ (b : ℕ). (get_or l.members l.i 0, b)) (drop (l.i + 1) l.members) ++ rest)
      ≡ each_pair different l.self (before ++ l.row.items) (map (λ (b : ℕ). (get_or l.members l.i 0, b)) (drop l.j l.members) ++ rest);
  count : length l.row.items ≡ l.j - (l.i + 1);
  row : HasRepeats l.earlier → IsRow (AreToldApart l.self) l.members l.i l.j l.row.items;
  front : take (length l.fn.self) l.self ≡ l.fn.self;
}
