use Rattle.std.proofs.Common.{ap, sym, ◌∙◌}
use Rattle.idl_linear.specs.Differences.{ends_of}
use Rattle.idl_linear.proofs.Outcomes.{less_nothing}
use Rattle.idl_linear.proofs.difference.ends_apart.Goals as goal

pub returns-then-is_number-clause-ends : goal.returns-then-is_number-clause-ends
returns-then-is_number-clause-ends c =
    c.ends_of_one.ensures.ends ∙ ap ends_of (sym (less_nothing c.args.a.now c.args.b.now c.ends_of_one.ensures.linear (c.is_number.ensures.none c.if-is_number.true)))
