use Rattle.std.proofs.Common.{arith, true}
use Rattle.cert_check.specs.Flaws.{cases_of}
use Rattle.cert_check.specs.code.Walks.{clause_in, cases_waiting, cases_open}
use Rattle.cert_check.proofs.Closing.{closed_and_on, closed_and_open}
use Rattle.cert_check.proofs.walk.Walk.read.Goals as goal

pub returns-then-next-len-clause-cases : goal.returns-then-next-len-clause-cases
returns-then-next-len-clause-cases g c =
    let all = c.if-next-len.true in
    let count = c.len.ensures in (
      cases_of c.args.self.now.assumed (clause_in c.in_ok-cases.cases),
      c.in_ok-cases.ensures.ok,
      closed_and_on c.args.self.now.assumed (clause_in c.in_ok-cases.cases) c.close_cases-next.result (cases_waiting c.args.self.now) (cases_open c.in_ok-open.open c.advance.new.self) c.args.reader.now c.close_cases-next.new.reader c.close_cases-next.ensures.closed c.advance.new.reader (omega (arith, all, count)) c.in_ok-open.ensures.cases,
    )

pub returns-clause-cases : goal.returns-clause-cases
returns-clause-cases g c = (
  cases_of c.args.self.now.assumed (clause_in c.in_ok-cases.cases),
  c.in_ok-cases.ensures.ok,
  closed_and_open c.args.self.now.assumed (clause_in c.in_ok-cases.cases) c.close_cases-next.result (cases_waiting c.args.self.now) (cases_open true c.enter.new.self) c.args.reader.now c.close_cases-next.new.reader c.close_cases-next.ensures.closed c.in_ok-enter.ensures.cases,
)
