use Rattle.std.proofs.Common.{◌≡◌, sym, subst, ◌+◌}
use Rattle.std.proofs.lemmas.List.{nil_from_length}
use Rattle.idl_term.specs.Lowered.{operator, binder, refused, head_of, lowered_list}
use Rattle.idl_term.specs.code.Trees.{tree_of, trees_of, sizes_of}
use Rattle.idl_term.specs.code.Walks.{Walk, scope_at, outcome_behind, weight}
use Rattle.idl_term.proofs.ListSteps.{steps_ill_formed, nothing_refused, head_refused, opened_by_operator, opened_by_let}
use Rattle.idl_term.proofs.machine.Machine.enter_list.Goals as goal

pub returns-in_default : goal.returns-in_default
returns-in_default c = λ nodes. steps_ill_formed (outcome_behind c.args.self.now (lowered_list (scope_at c.args.self.now) nodes (trees_of c.args.self.now.table c.args.items.now))) (weight c.args.self.now.table c.args.self.now.frames + (3 + sizes_of (trees_of c.args.self.now.table c.args.items.now))) c.args.self.now c.args.self.now nodes c.ill_formed.result c.ill_formed.ensures (nothing_refused c.args.self.now nodes c.args.items.now (nil_from_length c.args.items.now c.in_default.ensures.cases))

pub returns-in-Operator : goal.returns-in-Operator
returns-in-Operator c =
    let w = c.args.self.now in
    let head : head_of (scope_at w) (tree_of w.table c.in-Some.head.now) ≡ operator c.in-Operator.operator = subst (λ (x : Walk). head_of (scope_at x) (tree_of x.table c.in-Some.head.now) ≡ operator c.in-Operator.operator) c.self.view_is (sym c.in-Operator.ensures) in
    λ nodes. opened_by_operator w _ nodes c.args.items.now c.in-Some.head.now c.in-Some.arguments.now c.in-Operator.operator _ c.in-Some.ensures.cases.0 head (c.enter_application.ensures nodes)

pub returns-in-Let : goal.returns-in-Let
returns-in-Let c =
    let w = c.args.self.now in
    let head : head_of (scope_at w) (tree_of w.table c.in-Some.head.now) ≡ binder = subst (λ (x : Walk). head_of (scope_at x) (tree_of x.table c.in-Some.head.now) ≡ binder) c.self.view_is (sym c.in-Let.ensures) in
    λ nodes. opened_by_let w _ nodes c.args.items.now c.in-Some.head.now c.in-Some.arguments.now _ c.in-Some.ensures.cases.0 head (c.enter_let.ensures nodes)

pub returns-in-Refused : goal.returns-in-Refused
returns-in-Refused c =
    let w = c.args.self.now in
    let head : head_of (scope_at w) (tree_of w.table c.in-Some.head.now) ≡ refused c.in-Refused.why = subst (λ (x : Walk). head_of (scope_at x) (tree_of x.table c.in-Some.head.now) ≡ refused c.in-Refused.why) c.self.view_is (sym c.in-Refused.ensures) in
    λ nodes. head_refused w nodes c.args.items.now c.in-Some.head.now c.in-Some.arguments.now c.in-Refused.why c.in-Some.ensures.cases.0 head
