use Rattle.cert_check.proofs.Lemmas.{ends_tested}
use Rattle.cert_check.proofs.check.ends_empty.Goals as goal

pub returns-in-Some : goal.returns-in-Some
returns-in-Some c = ends_tested c.args.lemmas.now _ _ _ c.in-Some.ensures.value c.as_slice.ensures c.is_empty.ensures
