use Rattle.std.proofs.Common.{refl, sym, ap, ◌∙◌, ◌+◌, List, Bool, false, length, get_or, Option, Some}
use Rattle.idl_term.specs.Scopes.{sorts_of}
use Rattle.smt_script.specs.States.{Assumed, asked_by}
use Rattle.dtp_entry.specs.Cores.{cites_assertion}
use Rattle.dtp_entry.proofs.Verdicts.{table_over}
use Rattle.dtp_session.proofs.Saying.{cited_as, core_is, assumed_none}
use Rattle.dtp_session.proofs.session.Session.tell_core_of_active.Goals as goal

pub cited_roots-requires : goal.cited_roots-requires
cited_roots-requires c =
    let s = c.requires.may.0 in
    let stands = c.requires.may.2.stands in
    let sorts = sorts_of s.context.declared in
    record { table = (length sorts + 1, table_over _ _ s.context.nodes sorts refl (c.nodes.ensures ∙ stands.stands.nodes) (c.context_law.ensures.scope s.context stands.made.context).table) }

pub returns-clause-told : goal.returns-clause-told
returns-clause-told c = λ s x holds may.
    let shown = c.in-Some-refutation.ensures in
    let p = c.args.self.now in
    let none = assumed_none p.walk.state s holds.stands c.requires.alone in
    core_is p.held s x shown.0 c.as_slice.result.now (c.in-Some.is ∙ ap Some shown.1) p.text.items c.core_text.new.out.items c.requires.empty p.walk.state holds.stands
    (λ r. cited_as p.walk.state s shown.0 c.in-Some-refutation.refutation.now shown.2 holds.stands c.nodes.result.now c.roots.result.now c.as_slice.result.now c.nodes.ensures c.roots.ensures
    (λ k. ap (λ (bs : List Bool). get_or bs k false) c.as_slice.ensures.value ∙ c.in_ok-cited.ensures.each k) r
    ∙ sym (ap (λ (o : Option Assumed). cites_assertion (asked_by s.context o) shown.0 r) none))
    c.in_ok-core_text.ensures.ok
