-- Lemmas that a seat takes over, and what it delivers over them.
use Rattle.std.proofs.Common.{◌≡◌, ℕ, zero, suc, ◌+◌, ◌<◌, ◌≤◌, List, [], ◌∷◌, ◌++◌, length, length-append, map, take, drop, get_or, Some, None, Option, refl, sym, ap, ◌∙◌, subst, arith}
use Rattle.std.specs.Prelude.{option_map, IfSome}
use Rattle.std.proofs.lemmas.List.{take_more, take-append-le, take-append-drop, nil_from_length, length-map, map-append}
use Rattle.std.proofs.lemmas.Option.{slice_get-map, slice_get-get_or, get_or_from_slice_get}
use mathlib.Core.List.{IsPrefix}
use Rattle.stn_core.specs.declared.literal.Literal.{Literal}
use Rattle.stn_core.specs.declared.problem.Problem.{Problem}
use Rattle.refute_tree.specs.declared.lemma.Lemma.{Lemma}
use Rattle.refute_tree.specs.Trees.{stated}
use Rattle.refute_tree.specs.Batches.{LemmaBatch, AreRefuted}
use Rattle.cover_tree.specs.Covers.{Cubes, node_at, cube_at}
use Rattle.book_core.specs.declared.event.Outcome.{Outcome}
use Rattle.book_core.specs.Books.{State, opened, after, IsAllowed, IsJustified, IsJustifiedIn, Fits}
use Rattle.book_core.specs.declared.answer.Answer.{Answer}
use Rattle.book_core.specs.declared.answer.Answer.TheVariants.{Done as AnswerDone, Idle as AnswerIdle, Cube as AnswerCube}
use Rattle.book_core.specs.declared.event.Event.{Event}
use Rattle.book_core.specs.declared.event.Event.TheVariants.{Take}
use Rattle.book_core.specs.declared.event.Taken.TheVariants.{Done, Idle, Cube as TakenCube}
use Rattle.book_core.specs.Runs.{Ledger, state_of, with_event, Answers, IsNear}
use Rattle.cover_tree.specs.declared.node.Node.TheVariants.{Free, Held}
use Rattle.cover_tree.proofs.Sets.{get_set_same}
use Rattle.book_lock.specs.declared.cube.Cube.{Cube}
use Rattle.book_lock.specs.declared.cube.Dealt.{Dealt}
use Rattle.book_lock.specs.declared.cube.Dealt.TheVariants.{Done as TakingDone, Idle as TakingIdle, Cube as TakingHeld}
use Rattle.book_lock.specs.SeatEvents.{IsDue, held_after, is_idle, events_by, HasNews, HasNewsFor}
use Rattle.book_lock.specs.Seats.{IsCubeOfSeat, IsCubeNear, id_of, DealtAs}
use Rattle.book_lock.specs.code.Looks.{dealt_of, cube_of, waits_of, Looked}
use Rattle.book_lock.proofs.Journals.{replayed_more, events_append}
use Rattle.book_lock.proofs.Fronts.{prefix_length}

pub taken_more : {A B : Type 0} (value : A → B) (xs new shared : List A) (k : ℕ) (x y : A) → map value xs ≡ take k (map value shared) → k < length shared → x ≡ get_or shared k x → value y ≡ value x → new ≡ xs ++ y ∷ [] → map value new ≡ take (k + 1) (map value shared)
taken_more {A = A} value xs new shared k x y done lt at same is =
    let in_range : k < length (map value shared) = omega (arith, lt, length-map shared value) in
    let here : get_or (map value shared) k (value x) ≡ value x =
    get_or_from_slice_get (map value shared) k (value x) (value x)
    (slice_get-map value shared k ∙ ap (option_map value) (slice_get-get_or shared k x lt ∙ ap (λ (z : A). Some z) (sym at))) in
    ap (map value) is ∙ (map-append value xs (y ∷ []) ∙ ((λ i. done i ++ (same ∙ sym here) i ∷ []) ∙ sym (take_more (map value shared) k (value x) in_range)))

pub front_kept : {A : Type 0} (n : ℕ) (old xs new : List A) (y : A) → take n xs ≡ old → n ≤ length xs → new ≡ xs ++ y ∷ [] → take n new ≡ old
front_kept n old xs new y e le is = ap (take n) is ∙ (take-append-le n xs (y ∷ []) le ∙ e)

take_prefix : {A : Type 0} (n : ℕ) (xs ys : List A) → n ≤ length xs → IsPrefix xs ys → take n xs ≡ take n ys
take_prefix n xs ys le p = sym (take-append-le n xs p.0 le) ∙ ap (take n) p.1

-- what is justified over lemmas that are known is so over the book, which begins with these
pub justified_now : (problem : Problem) (s : State) (id : ℕ) (lemmas : List Lemma) (cube : List Literal) (batch : LemmaBatch) (outcome : Outcome) → IsPrefix lemmas s.lemmas → cube ≡ cube_at s.cover id → IsJustified problem lemmas cube batch outcome → IsJustifiedIn problem s id batch outcome
justified_now problem s id lemmas cube batch outcome p is h =
    let same = take_prefix batch.seen lemmas s.lemmas h.seen p in
    let more = prefix_length lemmas s.lemmas p in
    let low = h.seen in
    record {
      seen = omega (arith, low, more);
      refuted = subst (λ (ls : List Lemma). AreRefuted problem.points problem.clauses (map stated ls) batch.lemmas) same h.refuted;
      over = h.over;
      fits = subst (λ (t : List Lemma × List Literal). Fits problem (t.0 ++ batch.lemmas) t.1 outcome) (λ i. (same i, is i)) h.fits;
    }

looked_lemmas : (old new : Ledger) (e : Event) → new ≡ with_event old e → (after (state_of old) e).lemmas ≡ (state_of old).lemmas → (state_of new).lemmas ≡ (state_of old).lemmas
looked_lemmas old new e longer same = ap (λ (b : Ledger). (state_of b).lemmas) longer ∙ (ap (λ (s : State). s.lemmas) (replayed_more (opened old.opening) old.journal (e ∷ [])) ∙ same)

pub looked_from : (old new : Ledger) (n : ℕ) (answer : Answer) → Answers old n answer new → Looked old n (dealt_of answer) (cube_of answer) new
looked_from old new n AnswerDone h = record { event = Take n Done; allowed = h.0; longer = h.1; own = refl; taken = (refl, refl); lemmas = looked_lemmas old new (Take n Done) h.1 refl }
looked_from old new n AnswerIdle h = record { event = Take n Idle; allowed = h.0; longer = h.1; own = refl; taken = (refl, refl); lemmas = looked_lemmas old new (Take n Idle) h.1 refl }
looked_from old new n (AnswerCube id cube) h = record {
  event = Take n (TakenCube id);
  allowed = h.0.0;
  longer = h.0.1;
  own = refl;
  taken = (id, refl, ap (λ (ls : List Literal). let c : Cube = record { id = id; literals = ls } in Some c) h.1);
  lemmas = looked_lemmas old new (Take n (TakenCube id)) h.0.1 refl;
}

-- what a take leaves the seat with, by its answer
pub record Left (n : ℕ) (s : State) (answer : Dealt) (e : Event) (cube : Option Cube) : Type 0 where
  pub due : IsDue None e
  pub after_ : held_after e ≡ id_of cube
  pub idle : is_idle e ≡ waits_of answer
  pub holds : IfSome cube (IsCubeOfSeat (after s e).cover n)

pub left_by : (p : Problem) (n : ℕ) (s : State) (answer : Dealt) (e : Event) (cube : Option Cube) → IsAllowed p s e → DealtAs n s answer e cube → Left n s answer e cube
left_by p n s TakingDone e cube a h = subst (λ (t : Event × Option Cube). Left n s TakingDone t.0 t.1) (λ i. (sym h.0 i, sym h.1 i)) (record { due = refl; after_ = refl; idle = refl; holds = tt })
left_by p n s TakingIdle e cube a h = subst (λ (t : Event × Option Cube). Left n s TakingIdle t.0 t.1) (λ i. (sym h.0 i, sym h.1 i)) (record { due = refl; after_ = refl; idle = refl; holds = tt })
left_by p n s TakingHeld e cube a h =
    let free : (s.found ≡ None) × (node_at s.cover h.0 ≡ Some Free) = subst (IsAllowed p s) h.1 a in
    subst (λ (t : Event × Option Cube). Left n s TakingHeld t.0 t.1) (λ i. (sym h.1 i, sym h.2 i))
    (record { due = refl; after_ = refl; idle = refl; holds = (get_set_same s.cover.nodes h.0 Free (Held n) free.1, refl) })

events_behind : (n j : ℕ) (xs : List Event) → length (events_by n (drop j xs)) ≤ length (events_by n xs)
events_behind n j xs = omega (arith, ap length (ap (events_by n) (sym (take-append-drop j xs)) ∙ events_append n (take j xs) (drop j xs)), length-append (events_by n (take j xs)) (events_by n (drop j xs)))

-- there are no more events behind a later place
events_later : (n j k : ℕ) (xs : List Event) → j ≤ k → length (events_by n (drop k xs)) ≤ length (events_by n (drop j xs))
events_later n zero k xs le = events_behind n k xs
events_later n (suc j) zero xs le = absurd (omega (arith, le))
events_later n (suc j) (suc k) [] le = omega arith
events_later n (suc j) (suc k) (x ∷ xs) le = events_later n j k xs (omega (arith, le))

-- news behind so many events, which have all the events of the seat
module _ (n place : ℕ) (front log events : List Event) (pre : IsPrefix front log) (within : place ≤ length front) (before : events_by n (take place front) ≡ events) (made : events_by n log ≡ events) where
  parts : events_by n log ≡ events ++ events_by n (drop place log)
  parts =
      let same : take place log ≡ take place front = ap (λ (es : List Event). take place es) (sym pre.1) ∙ take-append-le place front pre.0 within in
      ap (events_by n) (sym (take-append-drop place log)) ∙ (events_append n (take place log) (drop place log) ∙ ap (λ (es : List Event). es ++ events_by n (drop place log)) (ap (events_by n) same ∙ before))

  none_behind : length (events_by n (drop place log)) ≡ 0
  none_behind = omega (arith, ap length (sym made ∙ parts), length-append events (events_by n (drop place log)))

  pub news_for : HasNews place log → HasNewsFor n log
  news_for (k, e, le, get, busy) = (k, e, get, busy, nil_from_length (events_by n (drop k log)) (omega (arith, none_behind, events_later n place k log le)))

-- the cube that is answered near a leaf is the seat's
pub near_taken : (c : Cubes) (near : Option ℕ) (answer : Answer) → IfSome near (λ id. IsNear c id answer) → IfSome near (IsCubeNear c (cube_of answer))
near_taken c None answer h = tt
near_taken c (Some id) AnswerDone h = λ _. tt
near_taken c (Some id) AnswerIdle h = λ _. tt
near_taken c (Some id) (AnswerCube k cube) h = h
