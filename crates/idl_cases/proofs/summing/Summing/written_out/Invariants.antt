use Rattle.std.proofs.Common.{◌≡◌, take}
use Rattle.idl_cases.specs.code.CaseSums.{summed_cases}
use Rattle.idl_cases.proofs.SumSteps.{AreLimited}
use Rattle.idl_cases.proofs.summing.Summing.written_out.Given as goal

abbrev pub invariant-loop-place : goal.invariant-loop-place
invariant-loop-place l = record {
  same : l.cases.items ≡ take l.place (summed_cases l.self);
  limited : AreLimited l.cases.items;
}
