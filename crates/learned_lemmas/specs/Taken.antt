-- What a problem takes over of an earlier one's refutation.
use Rattle.std.specs.Prelude.{◌≡◌, All}
use Rattle.stn_core.specs.declared.problem.Problem.{Problem}
use Rattle.refute_tree.specs.Batches.{LemmaIsOver}
use Rattle.refute_tree.specs.Trees.{IsRefutation}
use Rattle.book_core.specs.Books.{IsOpening}
use Rattle.learned_lemmas.specs.declared.learned.TakenOver.{TakenOver}
use Rattle.learned_lemmas.specs.declared.learned.TakenOver.TheVariants.{Refutes, Opens}

-- a refutation within the problem's limits, or lemmas that its search may open with
abbrev pub IsTakenOver : Problem → TakenOver → Type 0
IsTakenOver problem (Refutes lemmas) =
    IsRefutation problem.points problem.clauses lemmas × All (LemmaIsOver problem.points) lemmas
IsTakenOver problem (Opens batch) = (batch.seen ≡ 0) × IsOpening problem batch.lemmas
