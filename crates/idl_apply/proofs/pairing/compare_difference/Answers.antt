use Rattle.std.proofs.Common.{rules, ◌∙◌, ◌≡◌, sym}
use Rattle.std.specs.Prelude.{Ok}
use Rattle.idl_apply.proofs.ComparisonNodes.{number_low, number_high}
use Rattle.idl_apply.proofs.pairing.compare_difference.Goals as goal

pub relate-requires-clause-low : goal.relate-requires-clause-low
relate-requires-clause-low c =
    let made : c.in_ok-made.made ≡ Ok c.in_ok-difference.difference = search rules in
    number_low c.args.case.now.linear c.in_ok-difference.difference (sym c.in_ok-made.ensures ∙ made)

pub relate-requires-clause-high : goal.relate-requires-clause-high
relate-requires-clause-high c =
    let made : c.in_ok-made.made ≡ Ok c.in_ok-difference.difference = search rules in
    number_high c.args.case.now.linear c.in_ok-difference.difference (sym c.in_ok-made.ensures ∙ made)
