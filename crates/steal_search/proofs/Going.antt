-- How a seat and a hand go on, call after call.
use Rattle.std.proofs.Common.{arith, ◌≡◌, ℕ, zero, suc, inl, inr, List, [], ◌∷◌, ◌++◌, set, Option, Some, None, Result, Ok, Err, All, refl, sym, ap, ◌∙◌, subst, append_assoc, append-nil}
use Rattle.std.specs.Prelude.{IsSome, IfSome, IfOk, OnErr, option_map, is_some}
use Rattle.std.proofs.Math.ListN.{get_or}
use Rattle.std.proofs.lemmas.Int.{ints}
use Rattle.std.proofs.lemmas.List.Elements.{All-weaker, All-contains}
use mathlib.Core.List.{IsPrefix}
use Rattle.stn_core.specs.declared.literal.Literal.{Literal}
use Rattle.stn_core.specs.declared.problem.Problem.{Problem}
use Rattle.stn_core.specs.Literal.{IsOver, negation_of}
use Rattle.refute_tree.specs.declared.lemma.Lemma.{Lemma}
use Rattle.refute_tree.specs.Batches.{LemmaBatch, LemmaIsOver}
use Rattle.book_core.specs.declared.event.Event.{Event}
use Rattle.book_core.specs.declared.event.Event.TheVariants.{Take}
use Rattle.book_core.specs.declared.event.Taken.TheVariants.{Done as TakeDone}
use Rattle.book_core.specs.declared.event.Outcome.{Outcome}
use Rattle.book_core.specs.Books.{IsDecidable, IsJustified}
use Rattle.stn_core.specs.Solution.{IsAtom}
use Rattle.book_core.proofs.Sound.{negation_twice}
use Rattle.book_lock.specs.declared.cube.Cube.{Cube}
use Rattle.book_lock.specs.declared.cube.Dealt.{Dealt}
use Rattle.book_lock.specs.declared.cube.Dealt.TheVariants.{Cube as DealtCube, Idle, Done}
use Rattle.book_lock.specs.declared.view.View.{View}
use Rattle.book_lock.specs.Seats.{Sight, IsSameSeat, Takes, TakesNear, Ends, Called}
use Rattle.cube_pool.specs.declared.slip.Event.TheVariants.{Pushed, Taken}
use Rattle.cube_pool.specs.Hands.{Doings, HasPushed, HasFetched, fetched_there, known_there}
use Rattle.steal_search.specs.Workers.{GoesOn, HandGoesOn, IsAnswered, IsJustifiedThere}

prefix_self : {A : Type 0} (xs : List A) → IsPrefix xs xs
prefix_self xs = ([], append-nil xs)

prefix_more : {A : Type 0} (xs ys zs : List A) → zs ≡ xs ++ ys → IsPrefix xs zs
prefix_more xs ys zs e = (ys, sym e)

prefix_trans : {A : Type 0} (xs ys zs : List A) → IsPrefix xs ys → IsPrefix ys zs → IsPrefix xs zs
prefix_trans xs ys zs p q = (p.0 ++ q.0, sym (append_assoc xs p.0 q.0) ∙ (ap (λ w. w ++ q.0) p.1 ∙ q.1))

pub same_self : (s : Sight) → IsSameSeat s s
same_self s = (refl, refl, refl, refl, refl)

pub goes_self : (s : Sight) → GoesOn s s
goes_self s = record { same = same_self s; front = prefix_self s.view.front; events = prefix_self s.view.events }

pub goes_same : (s t : Sight) → t ≡ s → GoesOn s t
goes_same s t e = subst (GoesOn s) (sym e) (goes_self s)

pub goes_on : (s t u : Sight) → GoesOn s t → GoesOn t u → GoesOn s u
goes_on s t u a b = record {
  same = (b.same.0 ∙ a.same.0, b.same.1 ∙ a.same.1, b.same.2 ∙ a.same.2, b.same.3 ∙ a.same.3, b.same.4 ∙ a.same.4);
  front = prefix_trans s.view.front t.view.front u.view.front a.front b.front;
  events = prefix_trans s.view.events t.view.events u.view.events a.events b.events;
}

called_on : (old new : Sight) (between : List Event) (e : Event) → new.desk ≡ old.desk → Called old.view new.view between e → GoesOn old new
called_on old new between e desk c = record {
  same = (desk, ap (λ (v : View). v.number) c.view, ap (λ (v : View). v.seats) c.view, ap (λ (v : View). v.kept) c.view, ap (λ (v : View). v.begun) c.view);
  front = prefix_trans old.view.front (old.view.front ++ between) new.view.front (between, refl) (e ∷ [], sym (ap (λ (v : View). v.front) c.view));
  events = (e ∷ [], sym (ap (λ (v : View). v.events) c.view));
}

pub takes_on : (old new : Sight) (answer : Dealt) → Takes old new answer → GoesOn old new
takes_on old new answer t = called_on old new t.between t.event t.desk t.called

pub some_is : {A : Type 0} (o : Option A) (x : A) → o ≡ Some x → IsSome o
some_is o x e = ap is_some e

pub takes_answered : (old new : Sight) (answer : Dealt) → Takes old new answer → IsAnswered new answer
takes_answered old new DealtCube t = some_is new.cube _ t.answered.2
takes_answered old new Idle t = t.answered.1
takes_answered old new Done t =
    let number : old.view.number ≡ new.view.number = sym (ap (λ (v : View). v.number) t.called.view) in
    let event : t.event ≡ Take new.view.number TakeDone = t.answered.0 ∙ ap (λ (n : ℕ). Take n TakeDone) number in
    (t.answered.1, (old.view.events, ap (λ (v : View). v.events) t.called.view ∙ ap (λ (e : Event). old.view.events ++ e ∷ []) event))

ends_on : (old new : Sight) (e : Event) → Ends old new e → GoesOn old new × (new.cube ≡ None)
ends_on old new e h = (called_on old new h.between e (ap (λ (s : Sight). s.desk) h.same) h.called, ap (λ (s : Sight). s.cube) h.same)

if_some : {A : Type 0} (P : A → Type 0) (o : Option A) → IsSome o → IfSome o P → (x : A) × (o ≡ Some x) × P x
if_some P None s h = absurd (cc s)
if_some P (Some x) s h = (x, refl, h)

-- a call has ended the seat's cube
pub cube_ended : (old new : Sight) (event : Cube → Event) → IsSome old.cube → IfSome old.cube (λ cube. Ends old new (event cube)) → GoesOn old new × (new.cube ≡ None)
cube_ended old new event s h = let c = if_some (λ cube. Ends old new (event cube)) old.cube s h in ends_on old new (event c.0) c.2

pub hand_self : (h : Doings) → HandGoesOn h h
hand_self h = record {
  pool = refl;
  number = refl;
  pushed = prefix_self h.pushed;
  fetched = λ k. prefix_self (fetched_there k h);
  known_by_pushes = prefix_self h.known_by_pushes;
  known_by_fetches = λ k. prefix_self (known_there k h);
}

pub hand_on : (f g h : Doings) → HandGoesOn f g → HandGoesOn g h → HandGoesOn f h
hand_on f g h a b = record {
  pool = b.pool ∙ a.pool;
  number = b.number ∙ a.number;
  pushed = prefix_trans f.pushed g.pushed h.pushed a.pushed b.pushed;
  fetched = λ k. prefix_trans (fetched_there k f) (fetched_there k g) (fetched_there k h) (a.fetched k) (b.fetched k);
  known_by_pushes = prefix_trans f.known_by_pushes g.known_by_pushes h.known_by_pushes a.known_by_pushes b.known_by_pushes;
  known_by_fetches = λ k. prefix_trans (known_there k f) (known_there k g) (known_there k h) (a.known_by_fetches k) (b.known_by_fetches k);
}

pub hand_pushed : (g h : Doings) (id : ℕ) → HasPushed g id h → HandGoesOn g h
hand_pushed g h id f = subst (HandGoesOn g) (sym f.3) (record {
  pool = refl;
  number = refl;
  pushed = (id ∷ [], refl);
  fetched = λ k. prefix_self (fetched_there k g);
  known_by_pushes = prefix_trans g.known_by_pushes f.0 (f.0 ++ Pushed id ∷ []) f.1 (Pushed id ∷ [], refl);
  known_by_fetches = λ k. prefix_self (known_there k g);
})

-- a longer list stands for one of the lists
set_prefix : {A : Type 0} (xss : List (List A)) (i : ℕ) (ys : List A) (k : ℕ) → IsPrefix (get_or xss i []) ys → IsPrefix (get_or xss k []) (get_or (set xss i ys) k [])
set_prefix [] i ys k p = prefix_self (get_or [] k [])
set_prefix (xs ∷ xss) zero ys zero p = p
set_prefix (xs ∷ xss) zero ys (suc k) p = prefix_self (get_or xss k [])
set_prefix (xs ∷ xss) (suc i) ys zero p = prefix_self xs
set_prefix (xs ∷ xss) (suc i) ys (suc k) p = set_prefix xss i ys k p

pub hand_fetched : (g h : Doings) (place id : ℕ) → HasFetched g place id h → HandGoesOn g h
hand_fetched g h place id f = subst (HandGoesOn g) (sym f.3) (record {
  pool = refl;
  number = refl;
  pushed = prefix_self g.pushed;
  fetched = λ k. set_prefix g.fetched place (fetched_there place g ++ id ∷ []) k (id ∷ [], refl);
  known_by_pushes = prefix_self g.known_by_pushes;
  known_by_fetches = λ k. set_prefix g.known_by_fetches place (f.0 ++ Taken ∷ []) k (prefix_trans (known_there place g) f.0 (f.0 ++ Taken ∷ []) f.1 (Taken ∷ [], refl));
})

negation_over : (points : ℕ) (l : Literal) → IsOver points l → IsOver points (negation_of l)
negation_over points l h = let a = h.low in let b = h.high in record { x_in = h.y_in; y_in = h.x_in; low = omega (arith, ints); high = omega (arith, ints) }

atom_over : (problem : Problem) (l : Literal) → IsAtom problem l → IsOver problem.points l
atom_over problem l a = All-contains (IsOver problem.points) a.0 l (All-contains (λ (clause : List Literal). All (IsOver problem.points) clause) problem.clauses a.0 problem.over a.1) a.2

decidable_over : (problem : Problem) (l : Literal) → IsDecidable problem l → IsOver problem.points l
decidable_over problem l d = elim d [
  | inl a ↦ atom_over problem l a
  | inr b ↦ subst (IsOver problem.points) (negation_twice l) (negation_over problem.points (negation_of l) (atom_over problem (negation_of l) b))
]

pub decided_over : (problem : Problem) (seat : Sight) (cube : Cube) (shown : List Literal) → seat.view.begun.problem ≡ problem → seat.cube ≡ Some cube → shown ≡ cube.literals
    → IfSome seat.cube (λ k. All (IsDecidable seat.view.begun.problem) k.literals) → All (IsOver problem.points) shown
decided_over problem seat cube shown is e same h =
    let decided : All (IsDecidable seat.view.begun.problem) cube.literals = subst (λ (o : Option Cube). IfSome o (λ k. All (IsDecidable seat.view.begun.problem) k.literals)) e h in
    subst (λ (ls : List Literal). All (IsOver problem.points) ls) (sym same)
    (subst (λ (p : Problem). All (IsOver p.points) cube.literals) is (All-weaker (IsDecidable seat.view.begun.problem) (IsOver seat.view.begun.problem.points) (decidable_over seat.view.begun.problem) cube.literals decided))

pub lemmas_over : (problem : Problem) (seat : Sight) (shown : List Lemma) → seat.view.begun.problem ≡ problem → shown ≡ seat.lemmas → All (LemmaIsOver seat.view.begun.problem.points) seat.lemmas → All (LemmaIsOver problem.points) shown
lemmas_over problem seat shown is same h =
    subst (λ (ls : List Lemma). All (LemmaIsOver problem.points) ls) (sym same) (subst (λ (p : Problem). All (LemmaIsOver p.points) seat.lemmas) is h)

pub justified_there : (problem : Problem) (seat : Sight) (cube : Cube) (lemmas : List Lemma) (literals : List Literal) (batch : LemmaBatch) (outcome : Outcome) → seat.cube ≡ Some cube → lemmas ≡ seat.lemmas → literals ≡ cube.literals
    → IsJustified problem lemmas literals batch outcome → IsJustifiedThere problem seat batch outcome
justified_there problem seat cube lemmas literals batch outcome e a b h =
    (cube, e, subst (λ (k : List Literal). IsJustified problem seat.lemmas k batch outcome) b (subst (λ (ls : List Lemma). IsJustified problem ls literals batch outcome) a h))

-- a `take`, near a leaf or not, that was refused for memory or not
pub near_on : {E : Type 0} (old new : Sight) (near : Option ℕ) (r : Result Dealt E) → IfOk r (λ answer. TakesNear old new near answer) → OnErr r (new ≡ old) → GoesOn old new
near_on old new near (Ok answer) h same = takes_on old new answer h.0
near_on old new near (Err e) h same = goes_same old new same

pub near_answered : {E : Type 0} (old new : Sight) (near : Option ℕ) (r : Result Dealt E) → IfOk r (λ answer. TakesNear old new near answer) → IfOk r (IsAnswered new)
near_answered old new near (Ok answer) h = takes_answered old new answer h.0
near_answered old new near (Err e) h = tt

pub take_answered : {E : Type 0} (old new : Sight) (r : Result Dealt E) → IfOk r (λ answer. Takes old new answer) → IfOk r (IsAnswered new)
take_answered old new (Ok answer) h = takes_answered old new answer h
take_answered old new (Err e) h = tt

pub answered_none : (seat : Sight) (answer : Dealt) → answer ≡ Idle → IsAnswered seat answer → seat.cube ≡ None
answered_none seat answer e h = subst (IsAnswered seat) e h

-- a cube that was refused is given back
pub refused_ended : (old mid new : Sight) (event : Cube → Event) → mid ≡ old → IsSome old.cube → IfSome mid.cube (λ cube. Ends mid new (event cube)) → GoesOn old new
refused_ended old mid new event same s h =
    let at : IsSome mid.cube = subst (λ (x : Sight). IsSome x.cube) (sym same) s in
    subst (λ (x : Sight). GoesOn x new) same (cube_ended mid new event at h).0

-- what is shown of an option's value
pub shown_cube : {A B : Type 0} (f : A → B) (r : Option A) (x : A) (o : Option B) → option_map f r ≡ o → r ≡ Some x → o ≡ Some (f x)
shown_cube f r x o e is = sym e ∙ ap (option_map f) is
