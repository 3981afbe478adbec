use Rattle.std.proofs.Common.{◌≡◌, sym, subst, refl, true, length}
use Rattle.std.proofs.lemmas.List.{nil_from_length}
use Rattle.smt_sexpr.specs.Table.{HasItem}
use Rattle.idl_term.specs.Lowered.{is_binding}
use Rattle.idl_term.specs.code.Trees.{tree_of, IsTree}
use Rattle.idl_term.specs.code.Walks.{Walk}
use Rattle.idl_term.proofs.MachineSteps.{with_pushed}
use Rattle.idl_term.proofs.LetSteps.{binding_waits, binding_has, body_waits, term_from, IsNext, IsTermOf}
use Rattle.idl_term.proofs.FrameSteps.{binding_steps, body_steps}
use Rattle.idl_term.proofs.machine.Machine.go_on_binding.Goals as goal

pub enter-requires-clause-ready : goal.enter-requires-clause-ready
enter-requires-clause-ready c =
    let inside = c.self.inside in
    (body_waits c.args.self.now c.bind_variables.new.self _ c.args.nodes.now c.args.bindings c.args.rest c.args.body c.args.base (length c.args.bindings.now) (nil_from_length c.args.rest.now c.in_default.ensures.cases) refl c.requires.ready c.in_ok-bind_variables.ensures
    (with_pushed c.bind_variables.new.self inside.sexprs.now inside.locals inside.frames.items c.push.new.self.items inside.values.items _ c.self.view_is c.in_ok-push.ensures.items)).waits

pub returns-in_default-clause-steps : goal.returns-in_default-clause-steps
returns-in_default-clause-steps c =
    let inside = c.self.inside in
    body_steps c.args.self.now _ _ c.args.nodes.now _ c.args.bindings c.args.rest c.args.body c.args.base _
    (body_waits c.args.self.now c.bind_variables.new.self _ c.args.nodes.now c.args.bindings c.args.rest c.args.body c.args.base (length c.args.bindings.now) (nil_from_length c.args.rest.now c.in_default.ensures.cases) refl c.requires.ready c.in_ok-bind_variables.ensures
    (with_pushed c.bind_variables.new.self inside.sexprs.now inside.locals inside.frames.items c.push.new.self.items inside.values.items _ c.self.view_is c.in_ok-push.ensures.items)) c.enter.ensures.steps

pub item-term-requires : goal.item-term-requires
item-term-requires c =
    let w = c.args.self.now in
    let b = c.in-Some.binding.now in
    let next : IsNext w c.args.bindings c.in-Some.rest b c.args.body c.args.base = binding_waits w c.args.bindings c.args.rest c.in-Some.rest b c.args.body c.args.base c.in-Some.ensures.cases.0 c.requires.ready in
    subst (λ (x : Walk). HasItem x.table b 1) (sym c.self-2.view_is) ((binding_has w.table b next.tree next.binding).1)

pub enter-requires-2-clause-tree : goal.enter-requires-2-clause-tree
enter-requires-2-clause-tree c =
    let w = c.args.self.now in
    let t = c.self-2.inside.sexprs.now in
    let b = c.in-Some.binding.now in
    let next : IsNext w c.args.bindings c.in-Some.rest b c.args.body c.args.base = binding_waits w c.args.bindings c.args.rest c.in-Some.rest b c.args.body c.args.base c.in-Some.ensures.cases.0 c.requires.ready in
    let tree : IsTree t b = subst (λ (x : Walk). IsTree x.table b) (sym c.self-2.view_is) next.tree in
    let binding : is_binding (tree_of t b) ≡ true = subst (λ (x : Walk). is_binding (tree_of x.table b) ≡ true) (sym c.self-2.view_is) next.binding in
    (term_from t b c.item-term.result tree binding c.item-term.ensures).tree

pub returns-clause-steps : goal.returns-clause-steps
returns-clause-steps c =
    let w = c.args.self.now in
    let inside = c.self-2.inside in
    let t = inside.sexprs.now in
    let b = c.in-Some.binding.now in
    let next : IsNext w c.args.bindings c.in-Some.rest b c.args.body c.args.base = binding_waits w c.args.bindings c.args.rest c.in-Some.rest b c.args.body c.args.base c.in-Some.ensures.cases.0 c.requires.ready in
    let tree : IsTree t b = subst (λ (x : Walk). IsTree x.table b) (sym c.self-2.view_is) next.tree in
    let binding : is_binding (tree_of t b) ≡ true = subst (λ (x : Walk). is_binding (tree_of x.table b) ≡ true) (sym c.self-2.view_is) next.binding in
    let term : IsTermOf w.table b c.item-term.result = subst (λ (x : Walk). IsTermOf x.table b c.item-term.result) c.self-2.view_is (term_from t b c.item-term.result tree binding c.item-term.ensures) in
    binding_steps w _ _ _ _ c.args.bindings c.args.rest c.in-Some.rest b c.item-term.result c.args.body c.args.base _ c.in-Some.ensures.cases.0 next.within term
    (with_pushed w inside.sexprs.now inside.locals inside.frames.items c.push-2.new.self.items inside.values.items _ c.self-2.view_is c.in_ok-push-2.ensures.items) c.enter-2.ensures.steps
