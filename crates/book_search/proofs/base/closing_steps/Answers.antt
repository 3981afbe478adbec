use Rattle.std.proofs.Common.{◌∙◌, ap, ◌++◌, [], refl}
use Rattle.stn_core.specs.declared.literal.Literal.{Literal}
use Rattle.book_search.specs.code.Base.{unit_steps, steps_of}
use Rattle.book_search.proofs.Bases.{one_more, all_looked_at}
use Rattle.book_search.proofs.base.closing_steps.Goals as goal

pub loop-literal-preserved : goal.loop-literal-preserved
loop-literal-preserved c = one_more (λ (m : Literal). unit_steps c.args.units.now m) [] c.loop-literal.steps _ c.args.cycle.now c.loop-literal.literal-index _ c.loop-literal-test.true c.loop-literal.invariant (c.in_ok-push_unit.ensures ∙ ap (λ n. c.loop-literal.steps ++ steps_of n) c.number.ensures)

pub returns : goal.returns
returns c = all_looked_at (λ (m : Literal). unit_steps c.args.units.now m) [] c.loop-literal.steps _ c.args.cycle.now c.args.cycle.now c.loop-literal.literal-index _ refl c.loop-literal-test.false c.loop-literal.invariant c.in_ok-push_cycle.ensures.ok
