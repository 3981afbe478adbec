use Rattle.std.proofs.Common.{sym, subst, [], ◌∷◌, Some}
use Rattle.std.proofs.lemmas.List.{map-append}
use Rattle.smt_script.specs.code.Kept.{Kept, StandsFor}
use Rattle.smt_script.specs.code.Shapes.{shown_name}
use Rattle.smt_script.proofs.Keeping.{kept_named}
use Rattle.smt_script.proofs.Stepping.{naming_steps}
use Rattle.smt_script.proofs.state.State.assert_named.Goals as goal

pub invariant_of-self-in-Ok : goal.invariant_of-self-in-Ok
invariant_of-self-in-Ok c =
    rw (c.in-Ok.ensures.ok, c.push_reserved.ensures.items, c.reserve.ensures.items, c.push_reserved-in-Ok.ensures.items, c.reserve-2.ensures.items, map-append shown_name c.self.inside.labels.items (Some c.args.name ∷ []))
    (kept_named _ c.lower_formula.new.nodes c.in_ok-root.root c.args.name.now c.self.invariant c.lower_formula.ensures.front)

pub returns-in-Ok-clause-agrees : goal.returns-in-Ok-clause-agrees
returns-in-Ok-clause-agrees c = λ s t stands means.
    let h = subst (λ (k : Kept). StandsFor k s) (sym c.self.view_is) stands in
    rw (c.in-Ok.ensures.ok, c.push_reserved.ensures.items, c.reserve.ensures.items, c.push_reserved-in-Ok.ensures.items, c.reserve-2.ensures.items, map-append shown_name c.self.inside.labels.items (Some c.args.name ∷ []))
    (naming_steps _ s h t c.args.name.now c.lower_formula.new.nodes c.in_ok-root.root (c.in_ok-root.ensures.lowers t means) c.if-is_taken.ensures c.lower_formula.ensures.front)
