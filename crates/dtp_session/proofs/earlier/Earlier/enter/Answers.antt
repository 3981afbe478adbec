use Rattle.std.proofs.Common.{sym, subst, List, Option}
use Rattle.std.specs.Prelude.{IfSome}
use Rattle.refute_tree.specs.declared.lemma.Lemma.{Lemma}
use Rattle.refute_tree.specs.Trees.{IsRefutation}
use Rattle.dtp_session.proofs.earlier.Earlier.enter.Goals as goal

pub cite-requires : goal.cite-requires
cite-requires c =
    let p = c.args.problem in
    subst (λ (lemmas : List Lemma). IsRefutation p.points p.clauses lemmas) (sym c.as_slice.ensures)
    (subst (λ (o : Option (List Lemma)). IfSome o (λ lemmas. IsRefutation p.points p.clauses lemmas)) c.in-Some.ensures c.requires)
