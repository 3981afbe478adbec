-- How many pauses there are among a seat's events, call after call.
use Rattle.std.proofs.Common.{arith, ◌≡◌, ◌+◌, ◌≤◌, ℕ, List, [], ◌∷◌, ◌++◌, Option, Some, None, Result, Ok, Err, sym, ap, subst, ◌∙◌}
use Rattle.std.specs.Prelude.{IsSome, IfSome, IfOk, OnOk, OnErr}
use Rattle.book_core.specs.declared.event.Event.{Event}
use Rattle.book_core.specs.declared.event.Event.TheVariants.{Take, Deliver, Release}
use Rattle.book_lock.specs.declared.cube.Cube.{Cube}
use Rattle.book_lock.specs.declared.cube.Dealt.{Dealt}
use Rattle.book_lock.specs.declared.cube.Dealt.TheVariants.{Cube as DealtCube, Idle, Done}
use Rattle.book_lock.specs.declared.view.View.{View}
use Rattle.book_lock.specs.Seats.{Sight, Takes, TakesNear, Ends, Called}
use Rattle.steal_search.specs.Workers.{pause_of, pauses_in}

pauses_more : (xs : List Event) (e : Event) → pauses_in (xs ++ e ∷ []) ≡ pauses_in xs + pause_of e
pauses_more [] e = omega arith
pauses_more (x ∷ xs) e = omega (arith, pauses_more xs e)

called_pauses : (old new : View) (between : List Event) (e : Event) → Called old new between e → pauses_in new.events ≡ pauses_in old.events + pause_of e
called_pauses old new between e c = ap (λ (v : View). pauses_in v.events) c.view ∙ pauses_more old.events e

take_is : (old new : Sight) (answer : Dealt) (t : Takes old new answer) → pause_of t.event ≡ 0
take_is old new DealtCube t = ap pause_of t.answered.1
take_is old new Idle t = ap pause_of t.answered.0
take_is old new Done t = ap pause_of t.answered.0

takes_pauses : (old new : Sight) (answer : Dealt) → Takes old new answer → pauses_in new.view.events ≡ pauses_in old.view.events
takes_pauses old new answer t = omega (arith, called_pauses old.view new.view t.between t.event t.called, take_is old new answer t)

same_pauses : (old new : Sight) → new ≡ old → pauses_in new.view.events ≡ pauses_in old.view.events
same_pauses old new e = ap (λ (s : Sight). pauses_in s.view.events) e

-- a `take`, near a leaf or not, that was refused for memory or not
pub near_pauses : {E : Type 0} (old new : Sight) (near : Option ℕ) (r : Result Dealt E) → IfOk r (λ answer. TakesNear old new near answer) → OnErr r (new ≡ old) → pauses_in new.view.events ≡ pauses_in old.view.events
near_pauses old new near (Ok answer) h same = takes_pauses old new answer h.0
near_pauses old new near (Err e) h same = same_pauses old new same

pub take_pauses : {E : Type 0} (old new : Sight) (r : Result Dealt E) → IfOk r (λ answer. Takes old new answer) → OnErr r (new ≡ old) → pauses_in new.view.events ≡ pauses_in old.view.events
take_pauses old new (Ok answer) h same = takes_pauses old new answer h
take_pauses old new (Err e) h same = same_pauses old new same

if_some : {A : Type 0} (P : A → Type 0) (o : Option A) → IsSome o → IfSome o P → (x : A) × P x
if_some P None s h = absurd (cc s)
if_some P (Some x) s h = (x, h)

-- a call has ended the seat's cube, with so many pauses
pub ended_pauses : (old new : Sight) (event : Cube → Event) (n : ℕ) → ((cube : Cube) → pause_of (event cube) ≡ n) → IsSome old.cube → IfSome old.cube (λ cube. Ends old new (event cube))
    → pauses_in new.view.events ≡ pauses_in old.view.events + n
ended_pauses old new event n each s h =
    let c = if_some (λ cube. Ends old new (event cube)) old.cube s h in
    let e = c.1 in
    omega (arith, called_pauses old.view new.view e.between (event c.0) e.called, each c.0)

pub ended_on_ok : {T E : Type 0} (old new : Sight) (event : Cube → Event) (n : ℕ) → ((cube : Cube) → pause_of (event cube) ≡ n) → IsSome old.cube
    → (r : Result T E) → OnOk r (IfSome old.cube (λ cube. Ends old new (event cube))) → OnOk r (pauses_in new.view.events ≡ pauses_in old.view.events + n)
ended_on_ok old new event n each s (Ok answer) h = ended_pauses old new event n each s h
ended_on_ok old new event n each s (Err e) h = tt

-- a cube that was refused is given back
pub refused_pauses : (old mid new : Sight) (event : Cube → Event) → ((cube : Cube) → pause_of (event cube) ≡ 0) → mid ≡ old → IsSome old.cube → IfSome mid.cube (λ cube. Ends mid new (event cube))
    → pauses_in new.view.events ≡ pauses_in old.view.events
refused_pauses old mid new event each same s h =
    let at : IsSome mid.cube = subst (λ (x : Sight). IsSome x.cube) (sym same) s in
    omega (arith, ended_pauses mid new event 0 each at h, same_pauses old mid same)
