use Rattle.std.proofs.Common.{◌≡◌, ◌-◌, ◌<◌, ℕ, length, []}
use Rattle.std.specs.Prelude.{slice_index_or}
use Rattle.job_shop.specs.Shops.{IsJob}
use Rattle.job_shop.specs.Instances.{follows, jobs, shop_behind, shop_in}
use Rattle.job_shop.specs.code.Reading.{rest_of}
use Rattle.job_shop.proofs.reading.read_jobs.Given as goal

abbrev pub invariant-jobs : goal.invariant-jobs
invariant-jobs l = record {
  bytes : l.words.bytes.now ≡ l.bytes;
  count : length l.jobs.items ≡ l._i;
  each : (j : ℕ) → j < l._i → IsJob l.machines (slice_index_or l.jobs.items j []);
  found : shop_in l.bytes
      ≡ follows (jobs (l.count - l._i) l.machines l.jobs.items (rest_of l.bytes l.words.place l.words.number)) (λ found. shop_behind l.machines found.0 found.1);
}
