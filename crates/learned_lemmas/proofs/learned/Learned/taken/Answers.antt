use Rattle.std.proofs.Common.{List, sym, subst, ◌∙◌}
use Rattle.std.specs.Arc.{arc_value}
use Rattle.refute_tree.specs.declared.lemma.Lemma.{Lemma as Stated}
use Rattle.book_core.specs.Books.{IsOpening}
use Rattle.learned_lemmas.proofs.Kept.{over_lent, carried_refutes, carried_opens}
use Rattle.learned_lemmas.proofs.learned.Learned.taken.Goals as goal

pub returns-then-refutes : goal.returns-then-refutes
returns-then-refutes c =
    let over = c.in_ok-batch.ensures.over (over_lent (λ a. arc_value {X = Stated} a) _ _ _ c.as_slice.ensures.value c.self.invariant.over) in
    carried_refutes c.args.problem.now c.in_ok-batch.batch.lemmas _ _ c.in_ok-batch.ensures.refuted over c.lemmas.ensures (c.new.ensures ∙ c.into_lemmas.ensures) (c.refutes.ensures c.if-refutes.true)

pub returns : goal.returns
returns c =
    let over = c.in_ok-batch.ensures.over (over_lent (λ a. arc_value {X = Stated} a) _ _ _ c.as_slice.ensures.value c.self.invariant.over) in
    carried_opens c.args.problem.now c.in_ok-batch.batch c.in_ok-left.left.batch c.in_ok-batch.ensures.refuted over c.in_ok-batch.ensures.carried.seen c.in_ok-left.ensures.trimmed.seen c.in_ok-left.ensures.refuted c.in_ok-left.ensures.over

pub ended-requires-clause-opens : goal.ended-requires-clause-opens
ended-requires-clause-opens c =
    let problem = c.args.problem.now in
    let over = c.in_ok-batch.ensures.over (over_lent (λ a. arc_value {X = Stated} a) _ _ _ c.as_slice.ensures.value c.self.invariant.over) in
    subst (λ (ls : List Stated). IsOpening problem ls) (sym c.into_lemmas-in-Some.ensures) (record { refuted = c.in_ok-batch.ensures.refuted; over = over })
