use Rattle.std.proofs.Common.{rules, refl, ◌≡◌, ◌+◌}
use Rattle.branch_search.specs.declared.answer.Slice.TheVariants.{Refuted, Split}
use Rattle.book_core.specs.declared.event.Outcome.TheVariants.{Shut as ShutBy, Split as SplitBy}
use Rattle.book_search.proofs.Delivered.{delivers_as}
use Rattle.book_search.proofs.finding.finding_of.Goals as goal

pub returns-in-Some-clause-delivers : goal.returns-in-Some-clause-delivers
returns-in-Some-clause-delivers c =
    let number : c.in-Some.number ≡ c.in-Refuted.batch.seen + c.in-Refuted.j = search rules in
    delivers_as (λ values l h n. (c.negation_law.ensures.exact values l).0 n h) (Refuted c.in-Refuted.batch c.in-Refuted.j) c.args.slice c.in-Refuted.batch (ShutBy c.in-Some.number) c.in-Refuted.is (refl, number)

pub returns-in-Split-clause-delivers : goal.returns-in-Split-clause-delivers
returns-in-Split-clause-delivers c =
    delivers_as (λ values l h n. (c.negation_law.ensures.exact values l).0 n h) (Split c.in-Split.literal c.in-Split.batch) c.args.slice c.in-Split.batch (SplitBy c.in-Split.literal) c.in-Split.is (refl, refl)
