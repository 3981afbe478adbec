use Rattle.std.proofs.Common.{arith, ◌≡◌, ap, subst, length, Option}
use Rattle.std.proofs.lemmas.List.{length-map}
use Rattle.idl_term.specs.code.Heads.{AreParts, LetIs}
use Rattle.idl_scope.specs.Scopes.{shown_term}
use Rattle.idl_term.specs.code.Walks.{Walk}
use Rattle.idl_term.specs.declared.binding.LetParts.{LetParts}
use Rattle.idl_term.proofs.MachineSteps.{with_pushed}
use Rattle.idl_term.proofs.LetSteps.{opens_let}
use Rattle.idl_term.proofs.machine.Machine.enter_let.Goals as goal

pub returns : goal.returns
returns c =
    let w = c.args.self.now in
    let inside = c.self.inside in
    let base : c.len-base.result ≡ length w.values = omega (arith, length-map inside.values.items shown_term, ap (λ (x : Walk). length x.values) c.self.view_is) in
    let parts : AreParts w.table c.args.items.now c.in-Some.parts.bindings.now c.in-Some.parts.body =
    subst (λ (x : Walk). AreParts x.table c.args.items.now c.in-Some.parts.bindings.now c.in-Some.parts.body) c.self.view_is (subst (λ (o : Option LetParts). LetIs inside.sexprs.now c.args.items.now o) c.in-Some.is c.in_ok-parts.ensures) in
    λ nodes. opens_let w _ nodes c.args.items.now c.in-Some.parts.bindings c.in-Some.parts.body c.len-base.result c.requires.ready parts base (with_pushed w inside.sexprs.now inside.locals inside.frames.items c.push.new.self.items inside.values.items _ c.self.view_is c.in_ok-push.ensures.items)
