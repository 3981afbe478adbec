use Rattle.std.proofs.Common.{◌∙◌, sym}
use Rattle.std.specs.Arc.{arc_value}
use Rattle.refute_tree.specs.declared.lemma.Lemma.{Lemma as Stated}
use Rattle.book_core.specs.Runs.{state_of}
use Rattle.book_search.proofs.Learned.{all_learned, none_learned, opens_with, opens_with_none}
use Rattle.book_search.proofs.solved.learned.Goals as goal

pub returns-then-not-has_schedule-clause-opening : goal.returns-then-not-has_schedule-clause-opening
returns-then-not-has_schedule-clause-opening c = opens_with_none (λ a. arc_value {X = Stated} a) c.args.book.now.problem c.new-none.result.items c.new-none.ensures.items

pub returns-then-not-has_schedule-clause-all : goal.returns-then-not-has_schedule-clause-all
returns-then-not-has_schedule-clause-all c =
    none_learned (λ a. arc_value {X = Stated} a) c.new-none.result.items _ (state_of c.args.book.now).lemmas c.new-none.ensures.items (sym c.has_schedule.ensures ∙ c.if-not-has_schedule.true)

pub returns-clause-opening : goal.returns-clause-opening
returns-clause-opening c = opens_with (λ a. arc_value {X = Stated} a) c.args.book.now.problem c.in_ok-all.all.items _ (c.in_ok-all.ensures ∙ c.lemmas.ensures) c.sound.ensures.sound.refuted c.sound.ensures.sound.over

pub returns-clause-all : goal.returns-clause-all
returns-clause-all c =
    all_learned (λ a. arc_value {X = Stated} a) c.in_ok-all.all.items _ (state_of c.args.book.now).lemmas (c.in_ok-all.ensures ∙ c.lemmas.ensures) (sym c.has_schedule.ensures ∙ c.if-not-has_schedule.false)
