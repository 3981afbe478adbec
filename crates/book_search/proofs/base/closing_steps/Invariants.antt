use Rattle.std.proofs.Common.{◌≡◌, ◌++◌, [], flat_map, take}
use Rattle.stn_core.specs.declared.literal.Literal.{Literal}
use Rattle.book_search.specs.code.Base.{unit_steps}
use Rattle.book_search.proofs.base.closing_steps.Given as goal

abbrev pub invariant-loop-literal : goal.invariant-loop-literal
invariant-loop-literal l = l.steps ≡ [] ++ flat_map (λ (m : Literal). unit_steps l.units m) (take l.literal-index l.cycle)
