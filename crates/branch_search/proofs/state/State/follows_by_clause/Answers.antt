use Rattle.std.proofs.Common.{◌≡◌, ◌∙◌, ap, subst, length, take, List}
use Rattle.stn_core.specs.declared.literal.Literal.{Literal}
use Rattle.stn_core.specs.declared.problem.Problem.{Problem}
use Rattle.conflict_analysis.specs.declared.entry.Entry.{Entry}
use Rattle.conflict_analysis.specs.code.Trails.{on_trail, Stands, IsByClause}
use Rattle.branch_search.specs.code.Search.{all_lemmas}
use Rattle.branch_search.proofs.Restated.{part_clause}
use Rattle.branch_search.proofs.state.State.follows_by_clause.Goals as goal

pub returns : goal.returns
returns g c said =
    let q = c.args.task.now in
    let es = c.args.self.now.entries.items in
    let k = c.args.k in
    let own = c.args.self.now.own.items in
    let source = c.args.source in
    let place = c.args.place in
    let part = take k c.deref.result.now in
    let follows : IsByClause q.problem.clauses (all_lemmas q.handed own) (Stands es k) c.in-Some.unit source place =
    part_clause q own c.as_slice.result.now es part k c.in-Some.unit source place c.as_slice.ensures.value (ap (take k) c.deref.ensures.value)
    (subst (λ (p : Problem). IsByClause p.clauses (all_lemmas q.handed c.as_slice.result.now) (Stands part (length part)) c.in-Some.unit source place) c.problem.ensures c.in-Some.ensures.follows) in
    let same : c.in-Some.unit ≡ on_trail es k = c.is_same.ensures.0 said ∙ c.literal_on.ensures ∙ ap (λ (fs : List Entry). on_trail fs k) c.deref-2.ensures.value in
    subst (λ (m : Literal). IsByClause q.problem.clauses (all_lemmas q.handed own) (Stands es k) m source place) same follows
