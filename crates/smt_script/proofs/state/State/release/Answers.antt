use Rattle.std.proofs.Common.{refl, sym, ◌∙◌}
use Rattle.std.proofs.lemmas.List.{take-map}
use Rattle.smt_script.specs.code.Shapes.{shown_name}
use Rattle.smt_script.proofs.Settling.{released_is, none_released, stands_cut}
use Rattle.smt_script.proofs.state.State.release.Goals as goal

pub returns-clause-cut : goal.returns-clause-cut
returns-clause-cut c =
    released_is _ _ _ c.in-Some.active c.self.view_is c.in-Some.is (rw (c.cut.ensures, c.truncate.ensures.items, c.truncate-2.ensures.items, ← take-map shown_name c.in-Some.active.roots c.self.inside.labels.items) refl)

pub returns-clause-stands : goal.returns-clause-stands
returns-clause-stands c = λ s m stands.
    stands_cut _ _ _ c.self.view_is c.self.invariant (returns-clause-cut c) s m stands

pub returns-in_default-clause-stands : goal.returns-in_default-clause-stands
returns-in_default-clause-stands c = λ s m stands.
    stands_cut _ _ c.args.self.now c.self.view_is c.self.invariant (sym c.self.view_is ∙ none_released _ _ c.self.view_is (λ n e. c.in_default.not-Some n e)) s m stands
