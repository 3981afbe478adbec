use Rattle.std.proofs.Common.{subst, length}
use Rattle.stn_core.specs.declared.problem.Problem.{Problem}
use Rattle.conflict_analysis.specs.declared.entry.Conflict.TheVariants.{Clause as OfClause}
use Rattle.conflict_analysis.specs.code.Trails.{IsConflict, Stands}
use Rattle.branch_search.specs.code.Search.{all_lemmas}
use Rattle.branch_search.proofs.Proposals.{clause_stuck}
use Rattle.branch_search.proofs.state.State.take_conflict.Goals as goal

pub returns-then-is_conflict-clause-taken : goal.returns-then-is_conflict-clause-taken
returns-then-is_conflict-clause-taken g c =
    clause_stuck c.args.task.now
    c.args.self.now.own.items _ c.args.self.now.entries.items _ c.args.self.now.levels.items
    (g.N.Net.literals_of c.args.net.now) c.args.source c.requires.state c.as_slice.ensures.value c.deref.ensures.value
    (subst (λ (p : Problem). IsConflict p.clauses (all_lemmas c.args.task.now.handed c.as_slice.result.now) (Stands c.deref.result.now (length c.deref.result.now)) (OfClause c.args.source)) c.problem.ensures
    (c.is_conflict.ensures c.if-is_conflict.true))
