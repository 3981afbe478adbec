use Rattle.std.proofs.Common.{refl, ◌∙◌, ap, subst, sym, length, take, set, ◌+◌, List}
use Rattle.stn_core.specs.declared.literal.Literal.{Literal}
use Rattle.stn_core.specs.declared.problem.Problem.{Problem}
use Rattle.conflict_analysis.specs.declared.entry.Entry.{Entry}
use Rattle.conflict_analysis.specs.declared.entry.Reason.TheVariants.{Decision}
use Rattle.conflict_analysis.specs.code.Trails.{on_trail, AreOver, IsConflict, IsTrail, Stands}
use Rattle.conflict_analysis.specs.Proved.{IsProved}
use Rattle.branch_search.specs.code.Search.{all_lemmas}
use Rattle.branch_search.proofs.Learned.{trail_seen}
use Rattle.branch_search.proofs.Restated.{prefix_trail, prefix_over, prefix_conflict, put_back, derived}
use Rattle.branch_search.proofs.state.State.derive.Goals as goal

pub analyze-requires-clause-trail : goal.analyze-requires-clause-trail
analyze-requires-clause-trail g c =
    let q = c.args.task.now in
    let es = c.args.self.now.entries.items in
    let k = c.args.k in
    let made = c.replace-entry.ensures.after ∙ ap (λ (m : Literal). record { literal = m; number = c.negated.result; reason = Decision }) c.negate.ensures in
    let is = ap (take (k + 1)) (c.deref-2.ensures.value ∙ ap (λ (d : Entry). set es k d) made) in rw c.new-graph.ensures (
      q.cube,
      subst (λ (p : Problem). IsTrail p.clauses (all_lemmas q.handed c.as_slice.result.now) q.cube (take (k + 1) c.deref-2.result.now)) (sym c.problem.ensures)
          (prefix_trail es _ k c.negated.result c.literal_on.result c.requires.within is q.problem.clauses (all_lemmas q.handed c.as_slice.result.now) q.cube
          (trail_seen q c.args.self.now.own.items c.as_slice.result.now es es c.as_slice.ensures.value refl c.requires.state.trail)),
    )

pub analyze-requires-clause-over : goal.analyze-requires-clause-over
analyze-requires-clause-over g c =
    let es = c.args.self.now.entries.items in
    let k = c.args.k in
    let made = c.replace-entry.ensures.after ∙ ap (λ (m : Literal). record { literal = m; number = c.negated.result; reason = Decision }) c.negate.ensures in
    let is = ap (take (k + 1)) (c.deref-2.ensures.value ∙ ap (λ (d : Entry). set es k d) made) in
    rw c.new-graph.ensures (subst (λ (p : Problem). AreOver p.points (take (k + 1) c.deref-2.result.now)) (sym c.problem.ensures)
    (prefix_over es _ k c.negated.result c.literal_on.result c.requires.within is c.args.task.now.problem.points
    (c.literal_on.ensures ∙ ap (λ (fs : List Entry). on_trail fs k) c.deref.ensures.value) c.requires.state.over))

pub analyze-requires-clause-conflict : goal.analyze-requires-clause-conflict
analyze-requires-clause-conflict g c =
    let q = c.args.task.now in
    let es = c.args.self.now.entries.items in
    let k = c.args.k in
    let made = c.replace-entry.ensures.after ∙ ap (λ (m : Literal). record { literal = m; number = c.negated.result; reason = Decision }) c.negate.ensures in
    let is = ap (take (k + 1)) (c.deref-2.ensures.value ∙ ap (λ (d : Entry). set es k d) made) in
    let part = take (k + 1) c.deref-2.result.now in
    rw c.new-graph.ensures (subst (λ (p : Problem). IsConflict p.clauses (all_lemmas q.handed c.as_slice.result.now) (Stands part (length part)) c.in-Some.conflict) (sym c.problem.ensures)
    (prefix_conflict es _ k c.negated.result c.literal_on.result c.requires.within is q.problem.clauses
    (all_lemmas q.handed c.as_slice.result.now) c.in_ok-conflict.field-0 c.in-Some.conflict
    (c.literal_on.ensures ∙ ap (λ (fs : List Entry). on_trail fs k) c.deref.ensures.value)
    c.in_ok-conflict.ensures.denial
    (rw c.as_slice.ensures.value c.in_ok-conflict.ensures.follows)
    c.in-Some.is))

pub returns-clause-entries : goal.returns-clause-entries
returns-clause-entries g c =
    put_back c.args.self.now.entries.items c.args.k c.replace-entry.new.dest c.replace-entry.result c.index_mut.result.now
    c.requires.within (sym c.index_mut.ensures.value ∙ sym c.replace-entry.ensures.value)

pub returns-clause-state : goal.returns-clause-state
returns-clause-state g c =
    let q = c.args.task.now in
    derived q c.args.self.now.own.items c.as_slice.result.now c.push.new.self.items c.in_ok-lemma.lemma
    c.args.self.now.entries.items _ c.args.self.now.levels.items (g.N.Net.literals_of c.args.net.now) c.requires.state
    (put_back c.args.self.now.entries.items c.args.k c.replace-entry.new.dest c.replace-entry.result
    c.index_mut.result.now c.requires.within (sym c.index_mut.ensures.value ∙ sym c.replace-entry.ensures.value))
    c.as_slice.ensures.value
    (subst (λ (p : Problem). IsProved p.points p.clauses (all_lemmas q.handed c.as_slice.result.now) c.in_ok-lemma.lemma) c.problem.ensures (rw c.new-graph.ensures at c.in_ok-lemma.ensures.proved))
    c.in_ok-push.ensures.items
