use Rattle.std.proofs.Common.{rules, refl, inr, ap, sym, ◌∙◌, List, ℤ, Some}
use Rattle.std.specs.Arc.{arc_value}
use Rattle.stn_core.specs.declared.problem.Problem.{Problem}
use Rattle.refute_tree.specs.declared.lemma.Lemma.{Lemma as Stated}
use Rattle.cover_tree.specs.Covers.{NoneFree, NoneHeld}
use Rattle.book_core.specs.declared.verdict.Verdict.TheVariants.{Sat, Unsat}
use Rattle.book_core.specs.Shared.{lemmas_of}
use Rattle.book_core.specs.Books.{State, state_with, IsDone}
use Rattle.book_core.specs.Verdicts.{IsRight, AgreesWith}
use Rattle.book_core.proofs.Runs.{outside}
use Rattle.book_core.proofs.Concluding.{kept_sound, sound_read, concluded_sat, done_by_found, not_done}
use Rattle.book_core.proofs.book.Book.conclude.Goals as goal

pub returns-in-Some : goal.returns-in-Some
returns-in-Some c =
    let s : State = state_with c.self.inside.cover (lemmas_of c.self.inside.lemmas.items) c.self.inside.found in
    let sound = kept_sound c.self.inside.problem _ _ s _ _ c.self.invariant in
    outside (λ (p : Problem) (t : State). IsDone t × IsRight p (Sat c.in_ok-copy-in-Some.field-0) × AgreesWith t (Sat c.in_ok-copy-in-Some.field-0)) c.self.inside.problem _ _ s _ c.self.view_is c.self.invariant.same
    (done_by_found s c.in-Some.schedule c.in-Some.is, concluded_sat c.self.inside.problem c.self.inside.found c.in-Some.schedule c.in_ok-copy-in-Some.field-0 sound.found c.in-Some.is c.in_ok-copy-in-Some.ensures, c.in-Some.is ∙ ap (λ (values : List ℤ). Some values) (sym c.in_ok-copy-in-Some.ensures))

pub returns-then-not-is_closed : goal.returns-then-not-is_closed
returns-then-not-is_closed c =
    let s : State = state_with c.self.inside.cover (lemmas_of c.self.inside.lemmas.items) c.self.inside.found in
    let left : NoneFree c.self.inside.cover × NoneHeld c.self.inside.cover → ⊥ = search rules in
    outside (λ (p : Problem) (t : State). IsDone t → ⊥) c.self.inside.problem _ _ s _ c.self.view_is c.self.invariant.same (not_done s c.in-None.is left)

pub refutation_of-requires-clause-sound : goal.refutation_of-requires-clause-sound
refutation_of-requires-clause-sound c =
    let s : State = state_with c.self.inside.cover (lemmas_of c.self.inside.lemmas.items) c.self.inside.found in
    sound_read (λ a. arc_value {X = Stated} a) c.self.inside.problem s c.self.inside.lemmas.items c.as_slice.result.now (kept_sound c.self.inside.problem _ _ s _ _ c.self.invariant) refl c.as_slice.ensures.value

pub returns : goal.returns
returns c =
    let s : State = state_with c.self.inside.cover (lemmas_of c.self.inside.lemmas.items) c.self.inside.found in
    let closed : NoneFree c.self.inside.cover × NoneHeld c.self.inside.cover = search rules in
    outside (λ (p : Problem) (t : State). IsDone t × IsRight p (Unsat c.in_ok-refutation.refutation) × AgreesWith t (Unsat c.in_ok-refutation.refutation)) c.self.inside.problem _ _ s _ c.self.view_is c.self.invariant.same (inr closed, c.in_ok-refutation.ensures, c.in-None.is)
