use Rattle.idl_cases.proofs.SumSteps.{begun}
use Rattle.idl_cases.proofs.summing.Summing.new.Goals as goal

pub invariant_of-result : goal.invariant_of-result
invariant_of-result c = begun c.new.result c.new-2.result.items c.new.ensures c.new-2.ensures.items
