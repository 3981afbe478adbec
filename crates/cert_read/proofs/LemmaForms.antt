-- What the items of a lemma stand for, by its parts.
use Rattle.std.proofs.Common.{◌≡◌, ◌∙◌, ap, List, Option, Some}
use Rattle.smt_sexpr.specs.Tree.{Sexpr, Items, more}
use Rattle.stn_core.specs.declared.literal.Literal.{Literal}
use Rattle.refute_tree.specs.declared.step.Step.{Step}
use Rattle.cert_text.specs.declared.entry.Version.{Version}
use Rattle.cert_read.specs.Parts.{each_of, clause_of, step_of, lemma_with, lemma_from}

pub lemma_is : (version : Version) (xs others : Items) (first : Sexpr) (clause : List Literal) (steps : List Step) → xs ≡ more first others → clause_of first ≡ Some clause → each_of (step_of version) others ≡ Some steps → lemma_from version xs ≡ Some (record { clause = clause; steps = steps })
lemma_is version xs others first clause steps is c s =
    ap (lemma_from version) is
    ∙ ap (λ (o : Option (List Literal)). lemma_with o (each_of (step_of version) others)) c
    ∙ ap (lemma_with (Some clause)) s
