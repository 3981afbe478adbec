use Rattle.std.proofs.Common.{◌≡◌, subst, sym, ◌∙◌}
use Rattle.stn_core.specs.Cycle.{IsNegativeCycle}
use Rattle.stn_core.proofs.loops.cycle_at.Goals as goal

pub returns-then-is_cycle : goal.returns-then-is_cycle
returns-then-is_cycle c =
    let seen : c.deref.result.now ≡ c.new.result = c.deref.ensures.value ∙ sym c.new.ensures in
    record {
      negative = subst IsNegativeCycle seen (c.is_cycle.ensures.0 c.if-is_cycle.true);
      given = rw c.new.ensures c.in_ok-walk.ensures;
    }
