use Rattle.std.proofs.Common.{◌≡◌, drop}
use Rattle.std.specs.List.{list_all}
use Rattle.refute_tree.specs.code.Views.{literals_of}
use Rattle.cert_check.specs.Tests.{is_assumed}
use Rattle.cert_check.proofs.cases.are_assumed.Given as goal

abbrev pub invariant-loop-place : goal.invariant-loop-place
invariant-loop-place l = list_all (is_assumed l.assumed) (drop l.place (literals_of l.cycle)) ≡ list_all (is_assumed l.assumed) (literals_of l.cycle)
