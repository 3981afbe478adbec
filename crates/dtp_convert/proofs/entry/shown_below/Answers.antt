use Rattle.std.proofs.Common.{◌≡◌, ◌∙◌, ◌++◌, ◌∷◌, [], ap, List, arith, to_z, of_z}
use Rattle.std.specs.Int.{w128}
use Rattle.std.proofs.lemmas.Int.{ints}
use Rattle.stn_core.specs.declared.literal.Literal.{Literal}
use Rattle.best_values.specs.Questions.{below}
use Rattle.dtp_convert.proofs.Deciding.{items_over, held_over, points_below}
use Rattle.dtp_convert.proofs.entry.shown_below.Goals as goal

pub with_question-requires : goal.with_question-requires
with_question-requires c =
    let is : to_z w128 (of_z w128 c.args.difference) ≡ c.args.difference = omega (arith, ints) in
    let a = c.requires.asked in
    let e = c.in_ok-problem.ensures.problem a.0 a.2.stands in
    let b = points_below c.clause_form_law.ensures.some c.objective_law.ensures c.args.state.now c.args.objective a.1 a.0 a.2 c.in_ok-problem.problem.points e.0 in
    record { x_in = b.0; y_in = b.1; value = rw is c.requires.within }

pub returns-clause-made : goal.returns-clause-made
returns-clause-made c = λ s stands.
    let is : to_z w128 (of_z w128 c.args.difference) ≡ c.args.difference = omega (arith, ints) in
    let e = c.in_ok-problem.ensures.problem s stands in
    let a = rw is at c.in_ok-asked.ensures in (
      c.without_question.ensures.points ∙ a.points ∙ e.0,
      c.without_question.ensures.clauses c.in_ok-problem.problem.clauses (below c.args.objective.x c.args.objective.y c.args.difference ∷ []) a.clauses ∙ e.1,
    )

pub returns-clause-shown : goal.returns-clause-shown
returns-clause-shown c = λ s x before asked held.
    let is : to_z w128 (of_z w128 c.args.difference) ≡ c.args.difference = omega (arith, ints) in
    let e = c.in_ok-problem.ensures.problem s asked.stands in
    let a = rw is at c.in_ok-asked.ensures in
    let last : List (List Literal) = (below c.args.objective.x c.args.objective.y c.args.difference ∷ []) ∷ [] in
    items_over before _ _ _ _ c.args.items.now c.in_ok-found.found (a.points ∙ e.0) (a.clauses ∙ ap (λ (cs : List (List Literal)). cs ++ last) e.1) (c.in_ok-found.ensures.shown before held)

pub returns-clause-held : goal.returns-clause-held
returns-clause-held c = λ ok s x before asked held.
    let is : to_z w128 (of_z w128 c.args.difference) ≡ c.args.difference = omega (arith, ints) in
    let e = c.in_ok-problem.ensures.problem s asked.stands in
    let a = rw is at c.in_ok-asked.ensures in
    let last : List (List Literal) = (below c.args.objective.x c.args.objective.y c.args.difference ∷ []) ∷ [] in
    held_over c.shown_lemmas.new.earlier before _ _ _ _ c.args.items.now (a.points ∙ e.0) (a.clauses ∙ ap (λ (cs : List (List Literal)). cs ++ last) e.1) (c.in_ok-found.ensures.held ok before held)
