use Rattle.std.proofs.Common.{◌∙◌, ◌≡◌, ◌+◌, sym, ap, ℕ, List, length}
use Rattle.idl_term.specs.Scopes.{Declaration, Scope, sorts_of}
use Rattle.dtp_entry.proofs.Verdicts.{sorts_count, table_over}
use Rattle.dtp_entry.proofs.assertions.problem.Goals as goal

pub problem_of-requires-clause-table : goal.problem_of-requires-clause-table
problem_of-requires-clause-table c =
    let s = c.requires.0 in
    let stands = c.requires.1 in
    let sorts = sorts_of s.context.declared in
    let count : c.len.result ≡ length sorts = c.len.ensures ∙ ap (λ (ds : List Declaration). length ds) (c.names.ensures.names ∙ ap (λ (t : Scope). t.declared) stands.stands.scope) ∙ sym (sorts_count s.context.declared) in
    table_over _ _ s.context.nodes sorts (ap (λ (n : ℕ). n + 1) count) (c.nodes.ensures ∙ stands.stands.nodes) (c.context_law.ensures.scope s.context stands.made.context).table
