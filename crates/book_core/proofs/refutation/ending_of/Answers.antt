use Rattle.std.proofs.Common.{refl, ◌+◌, ◌++◌, ◌∷◌, [], None, List, length, take}
use Rattle.std.specs.Arc.{arc_value}
use Rattle.refute_tree.specs.declared.lemma.Lemma.{Lemma as Stated}
use Rattle.book_core.specs.Shared.{lemmas_of}
use Rattle.book_core.specs.Books.{State, state_with}
use Rattle.book_core.specs.Verdicts.{last_lemma}
use Rattle.book_core.proofs.Concluding.{cubes_over, shut_shared, ended_unsat, closed_unsat}
use Rattle.book_core.proofs.refutation.ending_of.Goals as goal

pub returns-in-Some-clause-right : goal.returns-in-Some-clause-right
returns-in-Some-clause-right c =
    let s : State = state_with c.args.cover.now (lemmas_of c.args.lemmas.now) None in
    let front : List Stated = take (c.in-Some.j + 1) s.lemmas in
    ended_unsat c.args.problem.now s s.lemmas front front c.in-Some.j (c.in-Some.j + 1) c.requires.sound refl c.in-Some.ensures refl refl refl

pub closing_steps-requires-clause-shut : goal.closing_steps-requires-clause-shut
closing_steps-requires-clause-shut c = shut_shared (λ a. arc_value {X = Stated} a) c.args.cover.now c.args.lemmas.now _ c.requires.sound.shut refl

pub closing_steps-requires-clause-over : goal.closing_steps-requires-clause-over
closing_steps-requires-clause-over c = cubes_over c.args.problem.now _ c.requires.sound

pub returns-clause-right : goal.returns-clause-right
returns-clause-right c =
    let s : State = state_with c.args.cover.now (lemmas_of c.args.lemmas.now) None in
    let front : List Stated = take (length c.args.lemmas.now) s.lemmas in
    let last : Stated = last_lemma c.in_ok-steps.steps in
    closed_unsat (λ a. arc_value {X = Stated} a) c.args.problem.now s c.args.lemmas.now c.in_ok-steps.steps front (front ++ last ∷ []) (front ++ last ∷ []) last (length c.args.lemmas.now)
    c.requires.sound refl c.in_ok-steps.ensures.tree c.in_ok-steps.ensures.over refl refl refl refl refl refl
