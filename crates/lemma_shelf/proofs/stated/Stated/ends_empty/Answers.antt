use Rattle.std.proofs.Common.{◌∙◌, ap, map}
use Rattle.cert_check.specs.Flaws.{ends_empty}
use Rattle.lemma_shelf.proofs.Ends.{ends_tested}
use Rattle.lemma_shelf.proofs.stated.Stated.ends_empty.Goals as goal

pub returns-in-Some : goal.returns-in-Some
returns-in-Some c =
    ends_tested (λ v. v.now) c.deref.result.now c.in-Some.clause.now c.is_empty.result c.in-Some.ensures.value c.is_empty.ensures
    ∙ ap (λ vs. ends_empty (map (λ v. v.now) vs)) c.deref.ensures.value ∙ ap ends_empty c.self.view_is
