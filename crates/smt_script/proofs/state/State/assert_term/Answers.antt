use Rattle.std.proofs.Common.{sym, subst, [], ◌∷◌, None}
use Rattle.std.proofs.lemmas.List.{map-append}
use Rattle.smt_script.specs.code.Kept.{Kept, StandsFor}
use Rattle.smt_script.specs.code.Shapes.{shown_name}
use Rattle.smt_script.proofs.Keeping.{kept_asserted}
use Rattle.smt_script.proofs.Stepping.{assertion_steps}
use Rattle.smt_script.proofs.state.State.assert_term.Goals as goal

pub invariant_of-self-2 : goal.invariant_of-self-2
invariant_of-self-2 c = rw (c.push_reserved.ensures.items, c.reserve.ensures.items, c.push_reserved-2.ensures.items, c.reserve-2.ensures.items, map-append shown_name c.self.inside.labels.items (None ∷ [])) (kept_asserted _ c.lower_formula.new.nodes c.in_ok-root.root c.self.invariant c.lower_formula.ensures.front)

pub returns-clause-agrees : goal.returns-clause-agrees
returns-clause-agrees c = λ s t stands means.
    let h = subst (λ (k : Kept). StandsFor k s) (sym c.self.view_is) stands in
    rw (c.push_reserved.ensures.items, c.reserve.ensures.items, c.push_reserved-2.ensures.items, c.reserve-2.ensures.items, map-append shown_name c.self.inside.labels.items (None ∷ []))
    (assertion_steps _ s h t c.lower_formula.new.nodes c.in_ok-root.root (c.in_ok-root.ensures.lowers t means) c.lower_formula.ensures.front)
