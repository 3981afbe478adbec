use Rattle.std.proofs.Common.{arith, ◌≡◌, ap, sym, ◌∙◌, length}
use Rattle.std.proofs.lemmas.List.{length-map}
use Rattle.idl_scope.specs.Scopes.{shown_term}
use Rattle.idl_term.specs.code.Walks.{Walk}
use Rattle.idl_term.proofs.MachineSteps.{with_pushed, opens_application, refuses_count}
use Rattle.idl_term.proofs.machine.Machine.enter_application.Goals as goal

pub returns-then-not-takes_count : goal.returns-then-not-takes_count
returns-then-not-takes_count c = λ nodes. refuses_count c.args.self.now nodes c.args.operator c.args.arguments.now (sym c.takes_count.ensures ∙ c.if-not-takes_count.true)

pub returns : goal.returns
returns c =
    let base : c.len-base.result ≡ length c.args.self.now.values = omega (arith, length-map c.self.inside.values.items shown_term, ap (λ (w : Walk). length w.values) c.self.view_is) in
    λ nodes. opens_application _ _ _ _ _ _ c.requires.ready c.requires.trees (sym c.takes_count.ensures ∙ c.if-not-takes_count.false) base (with_pushed _ _ _ _ _ _ _ c.self.view_is c.in_ok-push.ensures.items)
