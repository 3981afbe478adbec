use Rattle.std.proofs.Common.{◌∙◌, refl, sym, ap, subst, arith, ◌-◌, List, [], ◌∷◌, length, length-append}
use Rattle.job_shop.specs.declared.shop.Operation.{Operation}
use Rattle.job_shop.specs.Shops.{IsRow}
use Rattle.job_shop.specs.Instances.{operations}
use Rattle.job_shop.specs.code.Reading.{rest_of}
use Rattle.job_shop.proofs.NumberSteps.{job_begins, operations_next}
use Rattle.job_shop.proofs.Rows.{no_row, row_more}
use Rattle.job_shop.proofs.reading.next_job.Goals as goal

pub operations-init : goal.operations-init
operations-init c =
    let e = c.new-job.ensures in
    record {
      bytes = refl;
      count = ap length e;
      row = subst (λ (job : List Operation). IsRow c.args.machines job) (sym e) (no_row c.args.machines);
      found = job_begins c.args.machines (rest_of c.args.words.now.bytes.now c.args.words.now.place c.args.words.now.number)
          ∙ ap (λ (job : List Operation). operations (c.args.machines - 0) c.args.machines job (rest_of c.args.words.now.bytes.now c.args.words.now.place c.args.words.now.number)) (sym e);
    }

pub operations-preserved : goal.operations-preserved
operations-preserved c =
    let pushed = c.in_ok-push.ensures.ok in
    let long = ap length pushed in
    let many = c.operations.invariant.count in
    record {
      bytes = c.in_ok-operation.ensures.bytes ∙ c.operations.invariant.bytes;
      count = omega (arith, long, many, length-append c.operations.job (c.in_ok-operation.operation ∷ []));
      row = subst (λ (job : List Operation). IsRow c.args.machines job) (sym pushed)
          (row_more c.args.machines c.operations.job c.in_ok-operation.operation c.operations.invariant.row c.in_ok-operation.ensures.fits);
      found = operations_next c.args.words.now.bytes.now c.operations.words.bytes.now c.args.machines c.operations._i c.operations-test.true c.operations.job c.push.new.self c.in_ok-operation.operation
          c.operations.words.place c.operations.words.number c.next_operation.new.words.place c.next_operation.new.words.number _ c.operations.invariant.found c.operations.invariant.bytes c.in_ok-operation.ensures.ok pushed;
    }
