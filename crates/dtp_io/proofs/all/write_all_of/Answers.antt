use Rattle.std.proofs.Common.{◌∙◌, arith, length, drop, ◌-◌, length-take, length-drop}
use Rattle.dtp_io.proofs.Moves.{on_err, not_below_none, front_added, added_more}
use Rattle.dtp_io.proofs.all.write_all_of.Goals as goal

pub returns-in_err-count-clause-front : goal.returns-in_err-count-clause-front
returns-in_err-count-clause-front g c = on_err c.from_residual.result _ (front_added _ _ _ c.args.bytes.now c.writes.done c.writes.invariant.added c.in_err-count.ensures.bytes c.writes-test.true)

pub writes-preserved : goal.writes-preserved
writes-preserved g c = record {
  added = added_more _ _ _ c.args.bytes.now c.writes.done c.in_ok-count.count c.writes.invariant.added c.in_ok-count.ensures.bytes;
  within = omega (arith, c.in_ok-count.ensures.bound, length-take (length c.args.bytes.now - c.writes.done) (drop c.writes.done c.args.bytes.now), length-drop c.writes.done c.args.bytes.now, c.writes-test.true);
  quiet = c.in_ok-count.ensures.cause.quiet ∙ c.writes.invariant.quiet;
  nothing = λ none. absurd (not_below_none none c.writes-test.true);
}
