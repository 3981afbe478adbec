use Rattle.std.proofs.Common.{subst, sym, All}
use Rattle.stn_core.specs.declared.problem.Problem.{Problem}
use Rattle.conflict_analysis.specs.code.Trails.{IsTrail, IsDenial}
use Rattle.conflict_analysis.specs.Proved.{IsProved}
use Rattle.branch_search.specs.code.Search.{all_lemmas}
use Rattle.branch_search.proofs.Learned.{trail_seen, taught}
use Rattle.branch_search.proofs.state.State.lemma_of.Goals as goal

pub analyze-requires-clause-trail : goal.analyze-requires-clause-trail
analyze-requires-clause-trail g c =
    let q = c.args.task.now in rw c.new-graph.ensures (
      q.cube,
      subst (λ (p : Problem). IsTrail p.clauses (all_lemmas q.handed c.as_slice.result.now) q.cube c.as_slice-2.result.now) (sym c.problem.ensures)
          (trail_seen q _ _ _ _ c.as_slice.ensures.value c.as_slice-2.ensures.value c.requires.stuck.state.trail),
    )

pub analyze-requires-clause-over : goal.analyze-requires-clause-over
analyze-requires-clause-over g c =
    rw c.new-graph.ensures (rw c.problem.ensures (rw c.as_slice-2.ensures.value c.requires.stuck.state.over))

pub analyze-requires-clause-conflict : goal.analyze-requires-clause-conflict
analyze-requires-clause-conflict g c =
    rw c.new-graph.ensures (rw c.problem.ensures (rw c.as_slice.ensures.value (rw c.as_slice-2.ensures.value c.requires.stuck.clash)))

pub returns-clause-taught : goal.returns-clause-taught
returns-clause-taught g c =
    let q = c.args.task.now in
    taught q c.args.self.now.own.items _ c.args.self.now.entries.items _ c.args.whole c.in_ok-lemma.lemma
    c.as_slice.ensures.value c.as_slice-2.ensures.value
    (subst (λ (p : Problem). IsProved p.points p.clauses (all_lemmas q.handed c.as_slice.result.now) c.in_ok-lemma.lemma) c.problem.ensures (rw c.new-graph.ensures at c.in_ok-lemma.ensures.proved))
    (subst (λ (p : Problem). All (IsDenial p.clauses (all_lemmas q.handed c.as_slice.result.now) c.as_slice-2.result.now c.args.whole) c.in_ok-lemma.lemma.clause) c.problem.ensures (rw c.new-graph.ensures at c.in_ok-lemma.ensures.denials))
