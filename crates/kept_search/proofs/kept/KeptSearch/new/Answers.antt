use Rattle.std.proofs.Common.{rules, ◌≡◌, [], List, All, sym, subst}
use Rattle.refute_tree.specs.declared.lemma.Lemma.{Lemma}
use Rattle.refute_tree.specs.Batches.{AreRefuted, LemmaIsOver}
use Rattle.kept_search.proofs.kept.KeptSearch.new.Goals as goal

pub returns : goal.returns
returns c =
    let problem = c.args.problem.now in
    let lemmas : c.into_lemmas.result.items ≡ c.args.opening.lemmas = c.into_lemmas.ensures in
    let points : c.in_ok-new.field-0.points ≡ problem.points = search rules in
    record {
      points = points;
      refuted = subst (λ (ls : List Lemma). AreRefuted problem.points problem.clauses [] ls) (sym lemmas) c.requires.refuted;
      over = subst (λ (ls : List Lemma). All (LemmaIsOver problem.points) ls) (sym lemmas) c.requires.over;
    }
