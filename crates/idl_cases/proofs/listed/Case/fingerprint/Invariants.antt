use Rattle.std.proofs.Common.{◌<◌, take}
use Rattle.std.specs.List.{AllByRecursion}
use Rattle.idl_cases.proofs.listed.Case.fingerprint.Given as goal

abbrev pub invariant-loop-guard : goal.invariant-loop-guard
invariant-loop-guard l = AllByRecursion (λ g. g < l.count) (take l.guard-index l.guards)
