use Rattle.std.proofs.Common.{sym, ap, subst, ◌∙◌}
use Rattle.std.specs.Prelude.{Result}
use Rattle.std.specs.Str.{bytes_eq}
use Rattle.idl_apply.specs.Applied.{Made}
use Rattle.idl_scope.specs.Scopes.{found}
use Rattle.idl_apply.specs.code.Shapes.{Lowers}
use Rattle.idl_apply.specs.declared.error.TermRefusal.{TermRefusal}
use Rattle.idl_term.proofs.Leaves.{true_leaf, false_leaf, reserved_leaf, found_leaf}
use Rattle.idl_term.proofs.leaf.lower_symbol.Goals as goal

pub returns-then-eq-clause-makes : goal.returns-then-eq-clause-makes
returns-then-eq-clause-makes c = λ scope h.
    let named = sym (c.if-eq.ensures ∙ ap (bytes_eq c.args.name.now) c.as_slice.ensures) in
    subst (λ (r : Result Made TermRefusal). Lowers c.constant.new.self r c.as_formula.result) (sym (true_leaf scope c.args.nodes.now c.args.name.now named)) (c.as_formula.ensures c.constant.new.self _ c.constant.ensures.makes)

pub returns-then-eq-2-clause-makes : goal.returns-then-eq-2-clause-makes
returns-then-eq-2-clause-makes c = λ scope h.
    let no_true = sym (c.if-eq.ensures ∙ ap (bytes_eq c.args.name.now) c.as_slice.ensures) in
    let named = sym (c.if-eq-2.ensures ∙ ap (bytes_eq c.args.name.now) c.as_slice-2.ensures) in
    subst (λ (r : Result Made TermRefusal). Lowers c.constant-then-eq-2.new.self r c.as_formula-then-eq-2.result) (sym (false_leaf scope c.args.nodes.now c.args.name.now no_true named))
    (c.as_formula-then-eq-2.ensures c.constant-then-eq-2.new.self _ c.constant-then-eq-2.ensures.makes)

pub returns-then-is_reserved-clause-makes : goal.returns-then-is_reserved-clause-makes
returns-then-is_reserved-clause-makes c = λ scope h.
    let no_true = sym (c.if-eq.ensures ∙ ap (bytes_eq c.args.name.now) c.as_slice.ensures) in
    let no_false = sym (c.if-eq-2.ensures ∙ ap (bytes_eq c.args.name.now) c.as_slice-2.ensures) in
    reserved_leaf scope c.args.nodes.now c.args.name.now no_true no_false (sym c.if-is_reserved.ensures)

pub returns-clause-makes : goal.returns-clause-makes
returns-clause-makes c = λ scope h.
    let no_true = sym (c.if-eq.ensures ∙ ap (bytes_eq c.args.name.now) c.as_slice.ensures) in
    let no_false = sym (c.if-eq-2.ensures ∙ ap (bytes_eq c.args.name.now) c.as_slice-2.ensures) in
    subst (λ (r : Result Made TermRefusal). Lowers c.lower_found.new.nodes r c.lower_found.result) (sym (found_leaf scope c.args.nodes.now c.args.name.now no_true no_false (sym c.if-is_reserved.ensures)))
    (c.lower_found.ensures.makes (found scope c.args.name.now) h)
