use Rattle.std.proofs.Common.{rules, ◌≡◌, ◌++◌, ◌∷◌, [], length}
use Rattle.refute_tree.specs.declared.step.Step.TheVariants.{Input}
use Rattle.kept_search.proofs.Ending.{refutes_with}
use Rattle.kept_search.proofs.kept.KeptSearch.refutation_with.Goals as goal

pub returns : goal.returns
returns c =
    let shown : c.as_slice-2.result.now ≡ c.args.self.now.lemmas = search rules in
    refutes_with c.more_inputs_law.ensures.lemmas c.args.problem.now c.args.asked.now c.args.self.now c.args.literal c.args.j (length c.args.problem.now.clauses) c.as_slice-2.result.now c.in_ok-refutation.refutation c.push_input.new.self c.close_by.new.steps c.requires.of c.requires.asked c.requires.denied shown (search rules) (search rules) (search rules) (search rules)
