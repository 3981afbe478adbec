use Rattle.std.proofs.Common.{rules, ◌≡◌, ◌++◌, ◌∷◌, []}
use Rattle.book_core.specs.Verdicts.{last_lemma}
use Rattle.kept_search.proofs.Ending.{refutes}
use Rattle.kept_search.proofs.kept.KeptSearch.refutation.Goals as goal

pub returns : goal.returns
returns c =
    let shown : c.as_slice.result.now ≡ c.args.self.now.lemmas = search rules in
    let taken : c.replace-lemmas.result.items ≡ c.args.self.now.lemmas = search rules in
    refutes c.args.problem.now c.args.self.now c.args.j c.as_slice.result.now c.in_ok-refutation.refutation c.new-steps.result c.close_by.new.steps c.requires.of c.requires.denied shown (search rules) (search rules) (search rules)
