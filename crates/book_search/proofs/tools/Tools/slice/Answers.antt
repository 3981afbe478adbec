use Rattle.std.proofs.Common.{refl}
use Rattle.std.specs.Arc.{arc_value}
use Rattle.refute_tree.specs.declared.lemma.Lemma.{Lemma as Stated}
use Rattle.book_search.proofs.Delivered.{clauses_over, justified_by, part_justified_by}
use Rattle.book_search.proofs.tools.Tools.slice.Goals as goal

pub part-requires-clause-lemmas : goal.part-requires-clause-lemmas
part-requires-clause-lemmas c = clauses_over (λ a. arc_value {X = Stated} a) c.args.lemmas.now _ c.args.problem.now c.args.problem.now refl refl c.requires.lemmas

pub returns-then-pauses-clause-justified : goal.returns-then-pauses-clause-justified
returns-then-pauses-clause-justified c = part_justified_by (λ a. arc_value {X = Stated} a) c.args.lemmas.now c.args.problem.now c.args.cube.now c.in_ok-found.found c.in_ok-delivery.delivery.batch c.in_ok-delivery.delivery.outcome
    c.in_ok-found.ensures.answer c.in_ok-delivery.ensures

pub slice-requires-clause-lemmas : goal.slice-requires-clause-lemmas
slice-requires-clause-lemmas c = clauses_over (λ a. arc_value {X = Stated} a) c.args.lemmas.now _ c.args.problem.now c.args.problem.now refl refl c.requires.lemmas

pub returns-clause-justified : goal.returns-clause-justified
returns-clause-justified c = justified_by (λ a. arc_value {X = Stated} a) c.args.lemmas.now _ c.args.problem.now c.args.problem.now c.args.cube.now c.args.cube.now c.in_ok-found-2.found c.in_ok-delivery-2.delivery.batch c.in_ok-delivery-2.delivery.outcome
    refl refl refl c.in_ok-found-2.ensures.answer c.in_ok-delivery-2.ensures.delivers
