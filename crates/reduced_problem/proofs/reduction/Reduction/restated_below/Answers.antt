use Rattle.std.proofs.Common.{◌≡◌, ◌++◌, ◌∷◌, [], length, List, sym, ap, subst, ◌∙◌}
use Rattle.std.proofs.lemmas.Int.{to_z-of_z}
use Rattle.stn_core.specs.declared.literal.Literal.{Literal}
use Rattle.stn_core.specs.declared.problem.Problem.{Problem}
use Rattle.refute_tree.specs.declared.lemma.Lemma.{Lemma}
use Rattle.atom_elimination.specs.declared.derivation.Origin.{Origin}
use Rattle.atom_elimination.specs.declared.derivation.Origin.TheVariants.{Input as Given}
use Rattle.best_values.specs.Questions.{below, clauses_below}
use Rattle.reduced_problem.proofs.Restated.{Refutes, refutes_below, refer_within, same_restated}
use Rattle.reduced_problem.proofs.reduction.Reduction.restated_below.Goals.{After-drop-asked-2}
use Rattle.reduced_problem.proofs.reduction.Reduction.restated_below.Goals as goal

pub restate_behind-requires : goal.restate_behind-requires
restate_behind-requires c = refer_within c.args.self.problem.points (clauses_below c.args.self.problem c.args.x c.args.y c.args.value) c.args.refutation c.requires.refuted

refutes : (c : After-drop-asked-2) → Refutes c.args.problem.now.points (clauses_below c.args.problem.now c.args.x c.args.y c.args.value) c.in_ok-all.all
refutes c =
    let self = c.args.self in
    let literal : Literal = below c.args.x c.args.y c.args.value in
    let origins_are = c.deref.ensures.value ∙ c.in_ok-push.ensures.items
    ∙ ap (λ (os : List Origin). os ++ Given (length c.as_slice.result.now) ∷ []) c.into_lemmas-lemmas.ensures.origins
    ∙ ap (λ (cs : List (List Literal)). self.origins ++ Given (length cs) ∷ []) c.as_slice.ensures in
    let clauses_are : c.as_slice-clauses.result.now ≡ clauses_below self.problem c.args.x c.args.y c.args.value =
    c.as_slice-clauses.ensures ∙ simp (to_z-of_z, c.ranges.value) at c.in_ok-asked.ensures.clauses
    ∙ ap (λ (p : Problem). clauses_below p c.args.x c.args.y c.args.value) c.problem.ensures in
    let same = same_restated self.lemmas c.into_lemmas-lemmas.result.0.items (self.origins ++ Given (length c.args.problem.now.clauses) ∷ []) c.deref.result.now
    (clauses_below self.problem c.args.x c.args.y c.args.value) c.as_slice-clauses.result.now c.args.refutation c.in_ok-all.all
    c.into_lemmas-lemmas.ensures.lemmas origins_are clauses_are c.in_ok-all.ensures in
    subst (Refutes c.args.problem.now.points (clauses_below c.args.problem.now c.args.x c.args.y c.args.value)) (sym same)
    (refutes_below c.joined_law.ensures c.more_inputs_law.ensures.lemmas c.args.problem.now self c.requires.reduction (literal ∷ []) c.args.refutation (c.requires.refuted, c.requires.over))

pub returns-clause-refuted : goal.returns-clause-refuted
returns-clause-refuted c = (refutes c).0

pub returns-clause-over : goal.returns-clause-over
returns-clause-over c = (refutes c).1
