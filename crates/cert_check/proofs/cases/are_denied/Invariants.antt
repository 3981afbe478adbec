use Rattle.std.proofs.Common.{◌≡◌, map, drop}
use Rattle.std.specs.List.{list_all}
use Rattle.stn_core.specs.Literal.{negation_of}
use Rattle.cert_check.specs.Tests.{is_assumed}
use Rattle.cert_check.proofs.cases.are_denied.Given as goal

abbrev pub invariant-loop-literal : goal.invariant-loop-literal
invariant-loop-literal l = list_all (is_assumed l.assumed) (map negation_of (drop l.literal-index l.literals)) ≡ list_all (is_assumed l.assumed) (map negation_of l.literals)
