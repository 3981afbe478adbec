use Rattle.std.proofs.Common.{arith, ◌∙◌, ap, sym, subst, length, List, get_or, []}
use Rattle.stn_core.specs.declared.literal.Literal.{Literal}
use Rattle.stn_core.specs.declared.problem.Problem.{Problem}
use Rattle.branch_search.specs.code.Divisions.{HasLive}
use Rattle.branch_search.proofs.Splits.{live_more}
use Rattle.branch_search.proofs.state.State.check_all.Goals as goal

pub loop-i-preserved : goal.loop-i-preserved
loop-i-preserved g c =
    let net = g.N.Net in
    let turn = live_more c.args.task.now
    c.check_live.new.self.own.items c.check_live.new.self.entries.items c.check_live.new.self.levels.items
    (net.literals_of c.check_live.new.net) (net.literals_of c.args.net.now) c.loop-i.i c.in_ok-check_live.field-0
    c.in-At.field-0 c.in_ok-check_live.ensures.live c.in-At.is
    (c.in_ok-check_live.ensures.literals ∙ c.loop-i.invariant.literals) c.loop-i.invariant.live in
    record {
      points = c.in_ok-check_live.ensures.points ∙ c.loop-i.invariant.points;
      literals = c.in_ok-check_live.ensures.literals ∙ c.loop-i.invariant.literals;
      levels = c.in_ok-check_live.ensures.levels ∙ c.loop-i.invariant.levels;
      state = turn.0;
      plain = c.in_ok-check_live.ensures.plain;
      live = turn.1;
      counts = omega (arith, c.in_ok-check_live.ensures.counts, c.loop-i.invariant.counts);
    }

pub returns-clause-live : goal.returns-clause-live
returns-clause-live g c = (
  c.loop-i.invariant.state,
  λ i lt. subst (λ (ls : List Literal). HasLive c.args.task.now.problem.points ls (get_or c.args.task.now.problem.clauses i []))
      (sym c.loop-i.invariant.literals)
      (c.loop-i.invariant.live i (omega (arith, lt, c.loop-i-test.false, ap (length {A = List Literal}) c.as_slice-count.ensures, ap (λ (p : Problem). length p.clauses) c.problem.ensures))),
)
