use Rattle.std.proofs.Common.{rules, refl, inr, ◌≡◌, None}
use Rattle.std.specs.Arc.{arc_value}
use Rattle.stn_core.specs.declared.problem.Problem.{Problem}
use Rattle.refute_tree.specs.declared.lemma.Lemma.{Lemma as Stated}
use Rattle.cover_tree.specs.Covers.{NoneFree, NoneHeld}
use Rattle.book_core.specs.declared.verdict.Verdict.TheVariants.{Sat, Unsat}
use Rattle.book_core.specs.Shared.{lemmas_of}
use Rattle.book_core.specs.Books.{State, state_with, IsDone}
use Rattle.book_core.specs.Verdicts.{IsRight, AgreesWith}
use Rattle.book_core.proofs.Runs.{outside}
use Rattle.book_core.proofs.Concluding.{kept_sound, sound_read, concluded_sat, done_by_found, not_done}
use Rattle.book_core.proofs.book.Book.into_verdict.Goals as goal
use Rattle.book_core.proofs.book.Book.into_verdict.Goals.{else-is_none-via-then-is_none+else-not-is_closed, else-is_none-via-else-is_none}

pub returns-then-not-is_closed-clause-open : goal.returns-then-not-is_closed-clause-open
returns-then-not-is_closed-clause-open c =
    let s : State = state_with c.self.inside.cover (lemmas_of c.self.inside.lemmas.items) c.self.inside.found in
    let left : NoneFree c.self.inside.cover × NoneHeld c.self.inside.cover → ⊥ = search rules in
    let none : c.self.inside.found ≡ None = search rules in
    (outside (λ (p : Problem) (t : State). IsDone t → ⊥) c.self.inside.problem _ _ s _ c.self.view_is c.self.invariant.same (not_done s none left), refl)

pub returns-in-Some-clause-verdict : goal.returns-in-Some-clause-verdict
returns-in-Some-clause-verdict c =
    let s : State = state_with c.self.inside.cover (lemmas_of c.self.inside.lemmas.items) c.self.inside.found in
    let sound = kept_sound c.self.inside.problem _ _ s _ _ c.self.invariant in
    outside (λ (p : Problem) (t : State). IsDone t × IsRight p (Sat c.in-Some.schedule) × AgreesWith t (Sat c.in-Some.schedule)) c.self.inside.problem _ _ s _ c.self.view_is c.self.invariant.same
    (done_by_found s c.in-Some.schedule c.in-Some.is, concluded_sat c.self.inside.problem c.self.inside.found c.in-Some.schedule c.in-Some.schedule sound.found c.in-Some.is refl, c.in-Some.is)

pub into_refutation-requires-clause-sound : goal.into_refutation-requires-clause-sound
into_refutation-requires-clause-sound c =
    let s : State = state_with c.self.inside.cover (lemmas_of c.self.inside.lemmas.items) c.self.inside.found in
    sound_read (λ a. arc_value {X = Stated} a) c.self.inside.problem s c.self.inside.lemmas.items c.self.inside.lemmas.items (kept_sound c.self.inside.problem _ _ s _ _ c.self.invariant) refl refl

pub returns-clause-verdict : goal.returns-clause-verdict
returns-clause-verdict c =
    let s : State = state_with c.self.inside.cover (lemmas_of c.self.inside.lemmas.items) c.self.inside.found in
    let closed : NoneFree c.self.inside.cover × NoneHeld c.self.inside.cover = elim c.else-is_none.branch [
      | else-is_none-via-then-is_none+else-not-is_closed w ↦ w.is_closed.ensures.0 w.if-not-is_closed.false
      | else-is_none-via-else-is_none w ↦ search rules
    ] in
    let none : c.self.inside.found ≡ None = search rules in
    outside (λ (p : Problem) (t : State). IsDone t × IsRight p (Unsat c.in_ok-refutation.refutation) × AgreesWith t (Unsat c.in_ok-refutation.refutation)) c.self.inside.problem _ _ s _ c.self.view_is c.self.invariant.same (inr closed, c.in_ok-refutation.ensures, none)
