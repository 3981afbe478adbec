use Rattle.std.proofs.Common.{rules, ◌≡◌, ◌∙◌}
use Rattle.std.specs.Arc.{arc_value}
use Rattle.refute_tree.specs.declared.lemma.Lemma.{Lemma as Stated}
use Rattle.book_core.proofs.Concluding.{taken_start}
use Rattle.book_core.proofs.refutation.taken_out.Goals as goal

pub loop-lemma-init : goal.loop-lemma-init
loop-lemma-init c =
    let given : c.into_iter-lemma-iterator.result.rest.items ≡ c.truncate.new.self.items = c.into_iter-lemma-iterator.ensures.into_iter_gives.0 in
    record {
      counted = search rules;
      built = taken_start (λ a. arc_value {X = Stated} a) c.args.lemmas.items c.into_iter-lemma-iterator.result.rest.items c.args.count c.in_ok-all.all.items c.in_ok-all.ensures.items (given ∙ c.truncate.ensures.items);
    }
