use Rattle.std.proofs.Common.{◌∙◌, ap, get_or, []}
use Rattle.stn_core.specs.declared.problem.Problem.{Problem}
use Rattle.branch_search.proofs.Splits.{nowhere_stuck}
use Rattle.branch_search.proofs.state.State.check_live.Goals as goal

pub exclude-requires-clause-stuck : goal.exclude-requires-clause-stuck
exclude-requires-clause-stuck g c =
    nowhere_stuck c.args.task.now
    (g.N.Net.points_of c.args.net.now) _ _ _ (g.N.Net.literals_of c.live_place.new.net)
    (g.N.Net.literals_of c.args.net.now) c.args.i c.clause_of-clause.result.now c.in_ok-place.field-0
    c.in_ok-place.ensures.state c.requires.within (c.clause_of-clause.ensures ∙ ap (λ (p : Problem). get_or p.clauses c.args.i []) c.problem.ensures)
    c.in-None.is c.in_ok-place.ensures.live
