use Rattle.std.proofs.Common.{arith, subst, Bool, ◌<◌, length}
use Rattle.cert_check.specs.code.Walks.{clause_in, ClosesCase}
use Rattle.cert_check.proofs.Stacks.{drop_at}
use Rattle.cert_check.proofs.Closing.{none_closed, next_closed, stays_closed}
use Rattle.cert_check.proofs.cases.close_cases.Goals as goal

pub cases-init : goal.cases-init
cases-init c = record {
  within = c.requires;
  closed = none_closed c.args.assumed.now (clause_in c.args.cases) c.args.place c.args.reader.now;
}

pub returns-then-not-closes-clause-closed : goal.returns-then-not-closes-clause-closed
returns-then-not-closes-clause-closed c =
    stays_closed c.args.assumed.now (clause_in c.args.cases) c.args.place c.cases.next c.literal.result c.args.reader.now c.cases.reader c.closes.new.reader c.cases.invariant.closed c.closes.result c.closes.ensures c.if-not-closes.true

pub cases-preserved : goal.cases-preserved
cases-preserved c =
    let within : c.cases.next < length (clause_in c.args.cases) = omega (arith, c.len.ensures, c.cases-test.true) in
    record {
      within = omega (arith, within);
      closed = next_closed c.args.assumed.now (clause_in c.args.cases) c.args.place c.cases.next c.literal.result c.args.reader.now c.cases.reader c.closes.new.reader
          (drop_at (clause_in c.args.cases) c.cases.next c.literal.result c.literal.ensures) c.cases.invariant.closed
          (subst (λ (b : Bool). ClosesCase c.args.assumed.now c.literal.result c.cases.reader c.closes.new.reader b) c.if-not-closes.false c.closes.ensures);
    }
