use Rattle.std.proofs.Common.{◌≡◌, ◌-◌, length}
use Rattle.job_shop.specs.Shops.{IsRow}
use Rattle.job_shop.specs.Instances.{next_job, operations}
use Rattle.job_shop.specs.code.Reading.{rest_of}
use Rattle.job_shop.proofs.reading.next_job.Given as goal

abbrev pub invariant-operations : goal.invariant-operations
invariant-operations l = record {
  bytes : l.words.bytes.now ≡ l.fn.words.bytes.now;
  count : length l.job ≡ l._i;
  row : IsRow l.machines l.job;
  found : next_job l.machines (rest_of l.fn.words.bytes.now l.fn.words.place l.fn.words.number)
      ≡ operations (l.machines - l._i) l.machines l.job (rest_of l.fn.words.bytes.now l.words.place l.words.number);
}
