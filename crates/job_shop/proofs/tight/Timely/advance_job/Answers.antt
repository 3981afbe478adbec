use Rattle.std.proofs.Common.{◌<◌, ◌+◌, ℕ}
use Rattle.job_shop.proofs.Passes.{At, moved_more, steps, job_tight}
use Rattle.job_shop.proofs.tight.Timely.advance_job.Goals as goal

pub loop-place-preserved : goal.loop-place-preserved
loop-place-preserved c =
    let first = c.args.self.now in
    let now = c.loop-place.self in
    let later = c.advance-is_moved.new.self in
    let known = c.loop-place.invariant in
    let P : Type 0 = (k : ℕ) → k < c.loop-place.place → At first c.args.job k in
    let Q : Type 0 = At now c.args.job c.loop-place.place in
    let R : Type 0 = (k : ℕ) → k < c.loop-place.place + 1 → At first c.args.job k in
    record {
      moved = moved_more first now later known.moved c.advance-is_moved.ensures.moved;
      tight = steps first now later P Q R c.loop-place.is_moved c.advance-is_moved.result known.tight c.advance-is_moved.ensures.tight
          (λ same before here. job_tight first now later known.moved.shop same c.args.job c.loop-place.place before here);
    }
