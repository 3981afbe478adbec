-- What is found of the whole holds of each cube, and over all lemmas that come later.
use Rattle.std.proofs.Common.{arith, ◌≡◌, ◌+◌, ◌∙◌, List, [], ◌++◌, length, map, take, Option, Some, None, refl, sym, ap, subst}
use Rattle.std.specs.Prelude.{IsSome, IfSome, Contains}
use Rattle.std.proofs.lemmas.List.{take-append-le, length-append}
use Rattle.std.proofs.lemmas.List.Elements.{All-weaker}
use mathlib.Core.List.{IsPrefix}
use Rattle.stn_core.specs.declared.literal.Literal.{Literal}
use Rattle.stn_core.specs.declared.problem.Problem.{Problem}
use Rattle.stn_core.specs.Literal.{negation_of}
use Rattle.refute_tree.specs.declared.lemma.Lemma.{Lemma}
use Rattle.refute_tree.specs.Trees.{IsDenied, stated}
use Rattle.refute_tree.specs.Batches.{LemmaBatch, AreRefuted}
use Rattle.book_core.specs.Runs.{Ledger}
use Rattle.book_core.specs.declared.event.Outcome.{Outcome}
use Rattle.book_core.specs.declared.event.Outcome.TheVariants.{Found, Shut as ShutBy, Split as SplitBy, Open}
use Rattle.book_core.specs.Books.{Fits, IsJustified}
use Rattle.book_core.specs.declared.event.Event.TheVariants.{Release}
use Rattle.book_lock.specs.declared.cube.Cube.{Cube}
use Rattle.book_lock.specs.declared.cube.Dealt.{Dealt}
use Rattle.book_lock.specs.Begun.{reached}
use Rattle.book_lock.specs.declared.view.View.{View}
use Rattle.book_lock.specs.Seats.{Sight, Takes, Ends}
use Rattle.book_lock.proofs.Holding.{lemmas_prefix}
use Rattle.steal_search.specs.Workers.{GoesOn, IsJustifiedThere, pauses_in}
use Rattle.steal_search.proofs.Going.{goes_on, cube_ended}
use Rattle.steal_search.proofs.Pauses.{ended_pauses}
use Rattle.steal_search.specs.code.Beside.{IsUpToDate, IsTold, told_of}

denied_more : (cube clause : List Literal) → IsDenied [] clause → IsDenied cube clause
denied_more cube clause h = All-weaker (Contains []) (Contains cube) (λ l at. absurd (omega (arith, at.1))) (map negation_of clause) h

fits_told : (problem : Problem) (lemmas : List Lemma) (outcome : Outcome) → Fits problem lemmas [] outcome → Fits problem lemmas [] (told_of outcome)
fits_told problem lemmas (Found values) h = h
fits_told problem lemmas (ShutBy j) h = h
fits_told problem lemmas (SplitBy l) h = tt
fits_told problem lemmas Open h = tt

pub told_twice : (outcome : Outcome) → IsTold (told_of outcome)
told_twice (Found values) = refl
told_twice (ShutBy j) = refl
told_twice (SplitBy l) = refl
told_twice Open = refl

pub told_justified : (problem : Problem) (lemmas : List Lemma) (batch : LemmaBatch) (outcome : Outcome) → IsJustified problem lemmas [] batch outcome → IsJustified problem lemmas [] batch (told_of outcome)
told_justified problem lemmas batch outcome h = record {
  seen = h.seen;
  refuted = h.refuted;
  over = h.over;
  fits = fits_told problem (take batch.seen lemmas ++ batch.lemmas) outcome h.fits;
}

fits_there : (problem : Problem) (lemmas : List Lemma) (cube : List Literal) (outcome : Outcome) → IsTold outcome → Fits problem lemmas [] outcome → Fits problem lemmas cube outcome
fits_there problem lemmas cube (Found values) told h = h
fits_there problem lemmas cube (ShutBy j) told h = (h.0, h.1, denied_more cube h.0 h.2)
fits_there problem lemmas cube (SplitBy l) told h = absurd (cc told)
fits_there problem lemmas cube Open told h = tt

-- over lemmas that begin with those that were known, and of any cube
pub justified_later : (problem : Problem) (lemmas later : List Lemma) (cube : List Literal) (batch : LemmaBatch) (outcome : Outcome) → IsPrefix lemmas later → IsTold outcome → IsJustified problem lemmas [] batch outcome → IsJustified problem later cube batch outcome
justified_later problem lemmas later cube batch outcome p told h =
    let same : take batch.seen lemmas ≡ take batch.seen later = sym (take-append-le batch.seen lemmas p.0 h.seen) ∙ ap (take batch.seen) p.1 in
    let more : length later ≡ length lemmas + length p.0 = ap length (sym p.1) ∙ length-append lemmas p.0 in
    let low = h.seen in
    record {
      seen = omega (arith, low, more);
      refuted = subst (λ (ls : List Lemma). AreRefuted problem.points problem.clauses (map stated ls) batch.lemmas) same h.refuted;
      over = h.over;
      fits = subst (λ (ls : List Lemma). Fits problem (ls ++ batch.lemmas) cube outcome) same (fits_there problem (take batch.seen lemmas ++ batch.lemmas) cube outcome told h.fits);
    }

some_value : {A : Type 0} (o : Option A) → IsSome o → (x : A) × (o ≡ Some x)
some_value None s = absurd (cc s)
some_value (Some x) s = (x, refl)

-- What was found of the whole over the lemmas that the seat had seen, and has released the cube since, holds there once the seat
-- holds a cube again
pub found_there : (problem : Problem) (held free later : Sight) (batch : LemmaBatch) (outcome : Outcome) → IsUpToDate held → GoesOn held free → free.lemmas ≡ held.lemmas → GoesOn free later → IsUpToDate later → IsSome later.cube
    → IsTold outcome → IsJustified problem free.lemmas [] batch outcome → IsJustifiedThere problem later batch outcome
found_there problem held free later batch outcome was out same on is some told h =
    let begun : later.view.begun ≡ held.view.begun = on.same.4 ∙ out.same.4 in
    let cube = some_value later.cube some in
    let front : IsPrefix held.view.front later.view.front = (goes_on held free later out on).front in
    let grown : IsPrefix (reached held.view.begun held.view.front).lemmas (reached held.view.begun later.view.front).lemmas = lemmas_prefix held.view.begun held.view.front later.view.front front in
    let known : free.lemmas ≡ (reached held.view.begun held.view.front).lemmas = same ∙ was in
    let now : later.lemmas ≡ (reached held.view.begun later.view.front).lemmas = is ∙ ap (λ (b : Ledger). (reached b later.view.front).lemmas) begun in
    let prefix : IsPrefix free.lemmas later.lemmas = subst (λ (t : List Lemma × List Lemma). IsPrefix t.0 t.1) (λ i. (sym known i, sym now i)) grown in
    (cube.0, cube.1, justified_later problem free.lemmas later.lemmas cube.0.literals batch outcome prefix told h)

-- a `take` shows the seat all lemmas
pub taken_up_to_date : (old new : Sight) (answer : Dealt) → Takes old new answer → IsUpToDate new
taken_up_to_date old new answer t = t.lemmas ∙ ap (λ (b : Ledger). (reached b new.view.front).lemmas) (sym (ap (λ (v : View). v.begun) t.called.view))

some_such : {A : Type 0} (P : A → Type 0) (o : Option A) → IsSome o → IfSome o P → (x : A) × P x
some_such P None s h = absurd (cc s)
some_such P (Some x) s h = (x, h)

-- a cube that was held to see all lemmas is given back
pub given_back : (held free : Sight) → IsSome held.cube → IfSome held.cube (λ (k : Cube). Ends held free (Release held.view.number k.id))
    → GoesOn held free × (free.lemmas ≡ held.lemmas) × (pauses_in free.view.events ≡ pauses_in held.view.events)
given_back held free s h =
    let end = some_such (λ (k : Cube). Ends held free (Release held.view.number k.id)) held.cube s h in
    let none = ended_pauses held free (λ (k : Cube). Release held.view.number k.id) 0 (λ k. refl) s h in
    ((cube_ended held free (λ (k : Cube). Release held.view.number k.id) s h).0, ap (λ (x : Sight). x.lemmas) end.1.same, omega (arith, none))
