use Rattle.std.proofs.Common.{sym, subst, map}
use Rattle.std.proofs.lemmas.Result.{err_from_is_err_and}
use Rattle.idl_term.specs.Scopes.{shown_term}
use Rattle.smt_script.specs.code.Kept.{Kept, StandsFor}
use Rattle.smt_script.specs.code.Shapes.{shown_name, literal_pair}
use Rattle.smt_script.specs.States.{sort_of}
use Rattle.smt_script.proofs.Keeping.{kept_defined}
use Rattle.smt_script.proofs.Stepping.{definition_refused, definition_taken, definition_error, definition_steps}
use Rattle.smt_script.proofs.state.State.define.Goals as goal

pub returns-in_err-sort-clause-agrees : goal.returns-in_err-sort-clause-agrees
returns-in_err-sort-clause-agrees c = λ s parameters x t stands signature means.
    let q = err_from_is_err_and c.from_residual.result c.from_residual.ensures.1 in
    rw (q.1, q.2) (definition_refused s c.args.signature.name.now parameters (sort_of x) t c.in_err-sort.field-0.0 (c.in_err-sort.ensures parameters x signature))

pub returns-then-is_taken-clause-agrees : goal.returns-then-is_taken-clause-agrees
returns-then-is_taken-clause-agrees c = λ s parameters x t stands signature means.
    let h = subst (λ (k : Kept). StandsFor k s) (sym c.self.view_is) stands in
    definition_taken _ s h c.args.signature.name.now parameters (sort_of x) c.in_ok-sort.sort (c.in_ok-sort.ensures parameters x signature) t c.if-is_taken.ensures

pub returns-in_err-stands-clause-agrees : goal.returns-in_err-stands-clause-agrees
returns-in_err-stands-clause-agrees c = λ s parameters x t stands signature means.
    let h = subst (λ (k : Kept). StandsFor k s) (sym c.self.view_is) stands in
    let q = err_from_is_err_and c.from_residual-in_err-stands.result c.from_residual-in_err-stands.ensures.1 in
    rw (q.1, q.2)
    (definition_error _ s h c.args.signature.name.now parameters (sort_of x) c.in_ok-sort.sort (c.in_ok-sort.ensures parameters x signature) t
    c.lower_of_sort.new.nodes (record { scope = c.self.inside.scope; nodes = c.lower_of_sort.new.nodes; roots = c.self.inside.roots.items; labels = map shown_name c.self.inside.labels.items; levels = c.self.inside.levels.items; mode = c.self.inside.last.mode; literals = map literal_pair c.self.inside.literals.items; assumed = c.self.inside.last.assumed; print_success = c.self.inside.print_success }) c.in_err-stands.field-0.0 c.if-is_taken.ensures (c.in_err-stands.ensures.lowers t means))

pub invariant_of-self-in-Ok : goal.invariant_of-self-in-Ok
invariant_of-self-in-Ok c =
    rw c.in-Ok.ensures.ok (kept_defined _ c.lower_of_sort.new.nodes c.args.signature.name.now (shown_term c.in_ok-stands.stands) c.self.invariant c.lower_of_sort.ensures.front)

pub returns-in-Ok-clause-agrees : goal.returns-in-Ok-clause-agrees
returns-in-Ok-clause-agrees c = λ s parameters x t stands signature means.
    let h = subst (λ (k : Kept). StandsFor k s) (sym c.self.view_is) stands in
    rw c.in-Ok.ensures.ok
    (definition_steps _ s h c.args.signature.name.now parameters (sort_of x) c.in_ok-sort.sort (c.in_ok-sort.ensures parameters x signature) t
    (record { nodes = c.lower_of_sort.new.nodes; is = shown_term c.in_ok-stands.stands }) c.if-is_taken.ensures (c.in_ok-stands.ensures.lowers t means) c.lower_of_sort.ensures.front)
