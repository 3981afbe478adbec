use Rattle.std.proofs.Common.{◌∙◌, ap, subst, ℕ, List, length}
use Rattle.stn_core.specs.declared.literal.Literal.{Literal}
use Rattle.idl_term.specs.Scopes.{Declaration, Scope}
use Rattle.script_counts.specs.Counting.{IsLast}
use Rattle.script_counts.proofs.counting.counts.Goals as goal

pub returns : goal.returns
returns c =
    let e = c.in_ok-go_through.ensures.ends in
    let p = c.in_ok-problem.ensures e.last e.stands in
    record {
      last = e.last;
      leads = subst (λ (b : List ℕ). IsLast b e.last) c.new.ensures.bytes e.is;
      names = c.len.ensures ∙ ap (λ (ds : List Declaration). length ds) (c.names.ensures.names ∙ ap (λ (t : Scope). t.declared) e.stands.stands.scope);
      clauses = ap (λ (cs : List (List Literal)). length cs) (c.as_slice.ensures ∙ p.1);
    }
