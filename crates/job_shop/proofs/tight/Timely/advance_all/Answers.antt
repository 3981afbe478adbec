use Rattle.std.proofs.Common.{◌<◌, ◌+◌, ℕ}
use Rattle.job_shop.specs.Shops.{Has}
use Rattle.job_shop.proofs.Passes.{At, moved_more, steps, jobs_tight}
use Rattle.job_shop.proofs.tight.Timely.advance_all.Goals as goal

pub loop-job-preserved : goal.loop-job-preserved
loop-job-preserved c =
    let first = c.args.self.now in
    let now = c.loop-job.self in
    let later = c.advance_job-is_moved.new.self in
    let known = c.loop-job.invariant in
    let P : Type 0 = (j k : ℕ) → Has first.shop j k → j < c.loop-job.job → At first j k in
    let Q : Type 0 = (k : ℕ) → k < now.shop.machines → At now c.loop-job.job k in
    let R : Type 0 = (j k : ℕ) → Has first.shop j k → j < c.loop-job.job + 1 → At first j k in
    record {
      moved = moved_more first now later known.moved c.advance_job-is_moved.ensures.moved;
      tight = steps first now later P Q R c.loop-job.is_moved c.advance_job-is_moved.result known.tight c.advance_job-is_moved.ensures.tight
          (λ same before here. jobs_tight first now later known.moved.shop same c.loop-job.job before here);
    }
