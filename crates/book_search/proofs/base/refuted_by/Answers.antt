use Rattle.std.proofs.Common.{◌∙◌}
use Rattle.book_search.proofs.Deciding.{one_lemma}
use Rattle.book_search.proofs.base.refuted_by.Goals as goal

pub returns : goal.returns
returns c = one_lemma c.args.units.now c.args.cycle.now _ c.in_ok-steps.steps c.in_ok-vec.field-0.items _ c.in_ok-steps.ensures (c.new-2.ensures ∙ c.new.ensures.items) c.in_ok-vec.ensures.items c.new-3.ensures
