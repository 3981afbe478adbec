use Rattle.std.proofs.Common.{◌≡◌, ◌++◌, length, map, List, sym, ap, subst, ◌∙◌}
use Rattle.refute_tree.specs.declared.lemma.Lemma.{Lemma}
use Rattle.book_core.specs.declared.verdict.Verdict.TheVariants.{Unsat}
use Rattle.book_core.specs.Verdicts.{IsRight}
use Rattle.reduced_problem.specs.Reduced.{Reduced}
use Rattle.reduced_problem.proofs.Restated.{refutes_problem, refer_within, same_restated}
use Rattle.reduced_problem.proofs.reduction.Reduction.restated.Goals as goal

pub restate_behind-requires : goal.restate_behind-requires
restate_behind-requires c = refer_within c.args.self.problem.points c.args.self.problem.clauses c.args.refutation c.requires.right.0

pub returns : goal.returns
returns c =
    let self = c.args.self in
    let same = same_restated self.lemmas c.self.inside.lemmas.items self.origins c.deref.result.now self.problem.clauses c.as_slice-clauses.result.now c.args.refutation c.in_ok-all.all
    (ap (λ (s : Reduced). s.lemmas) c.self.view_is)
    (c.deref.ensures.value ∙ ap (λ (s : Reduced). s.origins) c.self.view_is)
    (c.as_slice-clauses.ensures ∙ ap (λ (s : Reduced). s.problem.clauses) c.self.view_is)
    c.in_ok-all.ensures in
    subst (λ (ls : List Lemma). IsRight c.args.problem.now (Unsat ls)) (sym same)
    (refutes_problem c.joined_law.ensures c.args.problem.now c.args.self c.requires.reduction c.args.refutation c.requires.right)
