use Rattle.std.proofs.Common.{arith}
use Rattle.branch_search.proofs.Answered.{left_by}
use Rattle.branch_search.proofs.state.State.take_wanted.Goals as goal

pub returns : goal.returns
returns c = record {
  left = left_by c.args.seen c.take_own-own.result.items c.args.self.now.own.items c.args.found c.new.result
      c.in_ok-wanted.wanted.items c.in_ok-left.left c.take_own-own.ensures c.new.ensures.seen c.new.ensures.lemmas
      c.in_ok-left.ensures.trimmed c.in_ok-left.ensures.refuted c.in_ok-left.ensures.over c.in_ok-left.ensures.clauses
      (λ j lt e. c.in_ok-wanted.ensures.found j (omega (arith, lt, c.len.ensures, c.take_own-own.result.ok.0)) e);
}
