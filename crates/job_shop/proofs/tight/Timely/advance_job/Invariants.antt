use Rattle.std.proofs.Common.{◌<◌, ℕ}
use Rattle.job_shop.specs.code.Moving.{IsMoved, MovesOr}
use Rattle.job_shop.proofs.Passes.{At}
use Rattle.job_shop.proofs.tight.Timely.advance_job.Given as goal

abbrev pub invariant-loop-place : goal.invariant-loop-place
invariant-loop-place l = record {
  moved : IsMoved l.fn.self l.self;
  tight : MovesOr ((k : ℕ) → k < l.place → At l.fn.self l.job k) l.fn.self l.self l.is_moved;
}
