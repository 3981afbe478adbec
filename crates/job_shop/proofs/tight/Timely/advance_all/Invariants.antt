use Rattle.std.proofs.Common.{◌<◌, ℕ}
use Rattle.job_shop.specs.Shops.{Has}
use Rattle.job_shop.specs.code.Moving.{IsMoved, MovesOr}
use Rattle.job_shop.proofs.Passes.{At}
use Rattle.job_shop.proofs.tight.Timely.advance_all.Given as goal

abbrev pub invariant-loop-job : goal.invariant-loop-job
invariant-loop-job l = record {
  moved : IsMoved l.fn.self l.self;
  tight : MovesOr ((j k : ℕ) → Has l.fn.self.shop j k → j < l.job → At l.fn.self j k) l.fn.self l.self l.is_moved;
}
