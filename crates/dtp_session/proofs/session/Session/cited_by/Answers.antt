use Rattle.std.proofs.Common.{refl, ◌∙◌, ◌+◌, length}
use Rattle.idl_term.specs.Scopes.{sorts_of}
use Rattle.dtp_entry.proofs.Verdicts.{table_over}
use Rattle.dtp_session.proofs.session.Session.cited_by.Goals as goal

pub cited_roots-requires : goal.cited_roots-requires
cited_roots-requires c =
    let s = c.requires.0 in
    let stands = c.requires.1 in
    let sorts = sorts_of s.context.declared in
    record { table = (length sorts + 1, table_over _ _ s.context.nodes sorts refl (c.nodes.ensures ∙ stands.stands.nodes) (c.context_law.ensures.scope s.context stands.made.context).table) }
