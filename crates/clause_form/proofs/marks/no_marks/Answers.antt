use Rattle.clause_form.proofs.Passes.{none_marked}
use Rattle.clause_form.proofs.marks.no_marks.Goals as goal

pub returns : goal.returns
returns c = none_marked _ _ (c.in_ok-marks.ensures.items_if_clones_equal (λ y e. e))
