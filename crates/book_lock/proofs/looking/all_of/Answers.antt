use Rattle.std.proofs.Common.{◌++◌, ap, map}
use Rattle.std.specs.Arc.{arc_value}
use Rattle.refute_tree.specs.declared.lemma.Lemma.{Lemma as Stated}
use Rattle.book_lock.proofs.looking.all_of.Goals as goal

pub take_over-requires : goal.take_over-requires
take_over-requires c = (map (λ a. arc_value {X = Stated} a) c.args.lemmas.now, ap (λ l. map (λ a. arc_value {X = Stated} a) l ++ map (λ a. arc_value {X = Stated} a) c.args.lemmas.now) c.new-all.ensures.items)
