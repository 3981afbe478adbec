use Rattle.std.proofs.Common.{ap, ◌∙◌, ◌≡◌, ◌+◌, List, length}
use Rattle.stn_core.specs.declared.named.NamedValue.{NamedValue}
use Rattle.stn_core.specs.Named.{AreWithinLimit}
use Rattle.idl_node.specs.declared.sort.Sort.{Sort}
use Rattle.idl_term.specs.Scopes.{Scope, sorts_of}
use Rattle.kept_schedule.specs.Satisfying.{IsScheduleOf}
use Rattle.smt_script.specs.States.{State}
use Rattle.script_walk.specs.code.Standing.{Stands}
use Rattle.dtp_entry.specs.Bests.{Satisfies}
use Rattle.dtp_entry.proofs.Verdicts.{table_over}
use Rattle.dtp_session.proofs.Satisfying.{schedule_satisfies, found_weaker}
use Rattle.dtp_session.proofs.session.Session.satisfying.Goals as goal

pub satisfying-requires : goal.satisfying-requires
satisfying-requires c =
    let s = c.requires.0 in
    let stands = c.requires.1 in
    let sorts = sorts_of s.context.declared in
    let names : c.sorts-sorts.result.now ≡ sorts = c.sorts-sorts.ensures ∙ ap sorts_of (c.names.ensures.names ∙ ap (λ (t : Scope). t.declared) stands.stands.scope) in
    table_over (length c.sorts-sorts.result.now + 1) c.nodes-table.result.now s.context.nodes sorts (ap (λ (ss : List Sort). length ss + 1) names) (c.nodes-table.ensures ∙ stands.stands.nodes)
    (c.context_law.ensures.scope s.context stands.made.context).table

pub returns-clause-found : goal.returns-clause-found
returns-clause-found c =
    let kept = c.args.self.now.walk.state in
    found_weaker (IsScheduleOf c.nodes-table.result.now c.roots.result.now c.sorts-sorts.result.now) (λ (values : List NamedValue). (s : State) → Stands kept s → Satisfies s.context values × AreWithinLimit values) c.satisfying.result
    (λ values h s stands. (
    let names : c.sorts-sorts.result.now ≡ sorts_of s.context.declared = c.sorts-sorts.ensures ∙ ap sorts_of (c.names.ensures.names ∙ ap (λ (t : Scope). t.declared) stands.stands.scope) in
    schedule_satisfies c.context_law.ensures.exact kept s stands c.nodes-table.result.now c.roots.result.now c.sorts-sorts.result.now c.nodes-table.ensures c.roots.ensures names values h
    ))
    c.satisfying.ensures
