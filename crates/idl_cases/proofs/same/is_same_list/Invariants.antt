use Rattle.std.proofs.Common.{◌≡◌, take}
use Rattle.idl_cases.proofs.same.is_same_list.Given as goal

abbrev pub invariant-loop-k : goal.invariant-loop-k
invariant-loop-k l = take l.k l.cases ≡ take l.k l.others
