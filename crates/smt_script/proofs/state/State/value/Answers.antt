use Rattle.std.proofs.Common.{sym, ap, subst, ◌∙◌, ◌+◌, ℕ, length, take}
use Rattle.idl_node.specs.Truth.{point_values, AreTruths}
use Rattle.idl_value.proofs.Evaluating.{table_valued}
use Rattle.smt_script.proofs.Testing.{truths_grown, truths_cut}
use Rattle.idl_apply.specs.Applied.{Made}
use Rattle.idl_term.specs.Contexts.{scope_of, environment}
use Rattle.idl_term.specs.Scopes.{shown_term, sorts_of}
use Rattle.smt_script.specs.code.Kept.{Kept, StandsFor}
use Rattle.smt_script.proofs.Stepping.{term_same}
use Rattle.smt_script.proofs.state.State.value.Goals as goal

pub term_value-value-requires-clause-term : goal.term_value-value-requires-clause-term
term_value-value-requires-clause-term c =
    let s = c.requires.state.0 in
    let t = c.requires.meaning.0 in
    let h = subst (λ (k : Kept). StandsFor k s) (sym c.self.view_is) c.requires.state.1 in
    let m : Made = record { nodes = c.lower.new.nodes; is = shown_term c.in_ok-term.term } in
    let over = c.context_law.ensures.scope s.context c.requires.state.2.context in
    let is = c.lowered_law.ensures.made (scope_of s.context) s.context.nodes t m over (term_same _ s h t ∙ c.in_ok-term.ensures.lowers t c.requires.meaning.1) in
    (sorts_of s.context.declared, c.requires.state.3, is.table, is.term)

pub returns-clause-ok : goal.returns-clause-ok
returns-clause-ok c = λ s t stands means made fits.
    let values = c.args.values.now in
    let h = subst (λ (k : Kept). StandsFor k s) (sym c.self.view_is) stands in
    let m : Made = record { nodes = c.lower.new.nodes; is = shown_term c.in_ok-term.term } in
    let over = c.context_law.ensures.scope s.context made.context in
    let agrees = c.context_law.ensures.agrees s.context values made.context fits in
    c.lowered_law.ensures.value (scope_of s.context) s.context.nodes t m values (environment s.context values) over fits agrees (term_same _ s h t ∙ c.in_ok-term.ensures.lowers t means)
    ∙ c.in_ok-value.ensures.value

pub returns-clause-accepted : goal.returns-clause-accepted
returns-clause-accepted c = λ s t stands means.
    let h = subst (λ (k : Kept). StandsFor k s) (sym c.self.view_is) stands in
    (_, term_same _ s h t ∙ c.in_ok-term.ensures.lowers t means)

pub term_value-value-requires-clause-marks : goal.term_value-value-requires-clause-marks
term_value-value-requires-clause-marks c =
    let s = c.requires.state.0 in
    let values = c.args.values.now in
    let h = subst (λ (k : Kept). StandsFor k s) (sym c.self.view_is) c.requires.state.1 in
    let over = table_valued (sorts_of s.context.declared) values c.requires.state.3 c.self.inside.nodes (rw h.nodes (c.context_law.ensures.scope s.context c.requires.state.2.context).table) in
    truths_grown c.truth_law.ensures.longer (length values + 1) c.self.inside.nodes c.lower.new.nodes (point_values values) over c.lower.ensures.front c.args.marks.now.items
    (subst (λ (k : Kept). AreTruths k.nodes (point_values values) c.args.marks.now.items) (sym c.self.view_is) c.requires.marks)

pub returns-in_err-value-clause-marks : goal.returns-in_err-value-clause-marks
returns-in_err-value-clause-marks c =
    let s = c.requires.state.0 in
    let values = c.args.values.now in
    let h = subst (λ (k : Kept). StandsFor k s) (sym c.self.view_is) c.requires.state.1 in
    let over = table_valued (sorts_of s.context.declared) values c.requires.state.3 c.self.inside.nodes (rw h.nodes (c.context_law.ensures.scope s.context c.requires.state.2.context).table) in
    subst (λ (k : Kept). AreTruths k.nodes (point_values values) c.truncate.new.self.items) c.self.view_is
    (truths_cut c.truth_law.ensures.longer (length values + 1) c.self.inside.nodes c.lower.new.nodes (point_values values) over c.lower.ensures.front c.term_value-value.new.marks.items c.truncate.new.self.items c.term_value-value.ensures.marks
    (c.truncate.ensures.items ∙ ap (λ (n : ℕ). take n c.term_value-value.new.marks.items) c.len-before.ensures.count))

pub returns-clause-marks : goal.returns-clause-marks
returns-clause-marks c =
    let s = c.requires.state.0 in
    let values = c.args.values.now in
    let h = subst (λ (k : Kept). StandsFor k s) (sym c.self.view_is) c.requires.state.1 in
    let over = table_valued (sorts_of s.context.declared) values c.requires.state.3 c.self.inside.nodes (rw h.nodes (c.context_law.ensures.scope s.context c.requires.state.2.context).table) in
    subst (λ (k : Kept). AreTruths k.nodes (point_values values) c.truncate.new.self.items) c.self.view_is
    (truths_cut c.truth_law.ensures.longer (length values + 1) c.self.inside.nodes c.lower.new.nodes (point_values values) over c.lower.ensures.front c.term_value-value.new.marks.items c.truncate.new.self.items c.term_value-value.ensures.marks
    (c.truncate.ensures.items ∙ ap (λ (n : ℕ). take n c.term_value-value.new.marks.items) c.len-before.ensures.count))
