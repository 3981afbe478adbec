use Rattle.std.proofs.Common.{◌≡◌, List, [], ◌∷◌, ◌++◌, sym, subst, ◌∙◌}
use Rattle.std.specs.Prelude.{All}
use Rattle.refute_tree.specs.declared.lemma.Lemma.{Lemma}
use Rattle.refute_tree.specs.Trees.{IsRefutation}
use Rattle.refute_tree.specs.Batches.{LemmaIsOver}
use Rattle.relaxed_lemmas.proofs.Closed.{ended_right}
use Rattle.relaxed_lemmas.proofs.ending.ended.Goals as goal

pub returns : goal.returns
returns c =
    let problem = c.args.problem.now in
    subst (λ (all : List Lemma). IsRefutation problem.points problem.clauses all × All (LemmaIsOver problem.points) all)
    (sym (c.new.ensures ∙ c.in_ok-push.ensures.items))
    (ended_right c.joined_law.ensures problem c.args.lemmas.items c.args.last c.requires.opens c.requires.closes)
