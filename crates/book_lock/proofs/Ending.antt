-- The journal's end: where each seat ended its cubes, no leaf is held.
use Rattle.std.proofs.Common.{◌≡◌, ◌≢◌, ◌⊎◌, ℕ, zero, suc, ◌<◌, ◌≤◌, ◌==◌, eq-eqb, ne_eqb, Bool, true, false, cond, List, [], ◌∷◌, ◌++◌, length, set, Option, Some, None, refl, sym, ap, ◌∙◌, subst, inl, inr, ⊎_elim, arith}
use Rattle.std.specs.Prelude.{slice_get}
use Rattle.std.proofs.lemmas.Bool.{cases_lt}
use mathlib.Core.Logic.{dite}
use native.Mathlib.Decide.{ℕ_discrete}
use Rattle.stn_core.specs.declared.problem.Problem.{Problem}
use Rattle.refute_tree.specs.declared.lemma.Lemma.{Lemma}
use Rattle.refute_tree.specs.Batches.{LemmaBatch}
use Rattle.refute_tree.specs.Moves.{moved_number}
use Rattle.cover_tree.specs.declared.node.Node.{Node}
use Rattle.cover_tree.specs.declared.node.Node.TheVariants.{Free, Held, Shut, Split}
use Rattle.cover_tree.specs.Covers.{Cubes, node_at, with_node, NoneHeld}
use Rattle.cover_tree.proofs.Sets.{get_set_same, get_set_other}
use Rattle.book_core.specs.declared.event.Event.{Event}
use Rattle.book_core.specs.declared.event.Event.TheVariants.{Take, Deliver, Release}
use Rattle.book_core.specs.declared.event.Taken.TheVariants.{Done, Idle, Cube as TakenCube}
use Rattle.book_core.specs.declared.event.Outcome.{Outcome}
use Rattle.book_core.specs.declared.event.Outcome.TheVariants.{Found, Shut as ShutBy, Split as SplitBy, Open}
use Rattle.book_core.specs.Books.{State, opened, IsAllowed, IsDone, after, cover_delivered}
use Rattle.book_core.specs.Runs.{Ledger, IsRunFrom, replayed_from}
use Rattle.book_lock.specs.Begun.{Runs, reached}
use Rattle.book_core.proofs.Sound.{done_kept}
use Rattle.book_lock.specs.declared.view.View.{View}
use Rattle.book_lock.specs.declared.view.Kept.{Kept}
use Rattle.book_lock.specs.SeatEvents.{seat_of, events_by, held_after, held_from, IsDue, IsOrderlyFrom}
use Rattle.book_lock.specs.Rules.{kept_of}
use Rattle.book_lock.specs.Seats.{AreEnded, AllEnded, AllKnown, WasDone}

-- each held leaf is the one that its seat holds
abbrev HeldBy : State → (ℕ → Option ℕ) → Type 0
HeldBy s h = (id n : ℕ) → node_at s.cover id ≡ Some (Held n) → h n ≡ Some id

abbrev next : (ℕ → Option ℕ) → Event → ℕ → Option ℕ
next h e n = cond (seat_of e == n) (held_after e) (h n)

held_at_set : (xs : List Node) (k id n : ℕ) (old new : Node) → slice_get xs k ≡ Some old → slice_get (set xs k new) id ≡ Some (Held n) → ((id ≡ k) × (new ≡ Held n)) ⊎ ((id ≢ k) × (slice_get xs id ≡ Some (Held n)))
held_at_set xs k id n old new was h = dite (ℕ_discrete id k)
    (λ e. let a : Some new ≡ Some (Held n) = sym (get_set_same xs k old new was) ∙ (ap (λ (j : ℕ). slice_get (set xs k new) j) (sym e) ∙ h) in inl (e, cc (a)))
    (λ ne. inr (ne, sym (get_set_other xs k id new ne) ∙ h))

held_in_front : (xs : List Node) (id n : ℕ) → slice_get (xs ++ Free ∷ Free ∷ []) id ≡ Some (Held n) → slice_get xs id ≡ Some (Held n)
held_in_front [] zero n e = absurd (cc (e))
held_in_front [] (suc zero) n e = absurd (cc (e))
held_in_front [] (suc (suc id)) n e = absurd (cc (e))
held_in_front (x ∷ xs) zero n e = e
held_in_front (x ∷ xs) (suc id) n e = held_in_front xs id n e

-- a leaf that is no more held
abbrev Elsewhere : Cubes → Cubes → ℕ → Type 0
Elsewhere c c' k = (id n : ℕ) → node_at c' id ≡ Some (Held n) → (id ≢ k) × (node_at c id ≡ Some (Held n))

elsewhere_set : (xs : List Node) (k : ℕ) (old new : Node) → slice_get xs k ≡ Some old → ((n : ℕ) → new ≢ Held n) → (id n : ℕ) → slice_get (set xs k new) id ≡ Some (Held n) → (id ≢ k) × (slice_get xs id ≡ Some (Held n))
elsewhere_set xs k old new was not id n h = ⊎_elim
    (λ (t : (id ≡ k) × (new ≡ Held n)). absurd (not n t.1))
    (λ (t : (id ≢ k) × (slice_get xs id ≡ Some (Held n))). t)
    (held_at_set xs k id n old new was h)

elsewhere_deliver : (s : State) (seat k : ℕ) (batch : LemmaBatch) (outcome : Outcome) → node_at s.cover k ≡ Some (Held seat) → Elsewhere s.cover (cover_delivered s.cover k batch.seen (length s.lemmas) outcome) k
elsewhere_deliver s seat k batch (Found values) was id n h = elsewhere_set s.cover.nodes k (Held seat) Free was (λ m e. cc (e)) id n h
elsewhere_deliver s seat k batch Open was id n h = elsewhere_set s.cover.nodes k (Held seat) Free was (λ m e. cc (e)) id n h
elsewhere_deliver s seat k batch (ShutBy j) was id n h = elsewhere_set s.cover.nodes k (Held seat) (Shut (moved_number batch.seen (length s.lemmas) j)) was (λ m e. cc (e)) id n h
elsewhere_deliver s seat k batch (SplitBy l) was id n h =
    elsewhere_set s.cover.nodes k (Held seat) (Split l (length s.cover.nodes)) was (λ m e. cc (e)) id n (held_in_front (set s.cover.nodes k (Split l (length s.cover.nodes))) id n h)

ended_by : (s s' : State) (h : ℕ → Option ℕ) (seat k : ℕ) → HeldBy s h → h seat ≡ Some k → Elsewhere s.cover s'.cover k → (id n : ℕ) → node_at s'.cover id ≡ Some (Held n) → cond (seat == n) None (h n) ≡ Some id
ended_by s s' h seat k hb due other id n is =
    let t = other id n is in
    let mine : h n ≡ Some id = hb id n t.1 in
    dite (ℕ_discrete seat n)
    (λ q. let a : Some k ≡ Some id = sym due ∙ (ap h q ∙ mine) in let b : k ≡ id = cc (a) in absurd (t.0 (sym b)))
    (λ ne. ap (λ (b : Bool). cond b None (h n)) (ne_eqb seat n ne) ∙ mine)

idle_by : (s : State) (h : ℕ → Option ℕ) (seat : ℕ) → HeldBy s h → h seat ≡ None → (id n : ℕ) → node_at s.cover id ≡ Some (Held n) → cond (seat == n) None (h n) ≡ Some id
idle_by s h seat hb due id n is =
    let mine : h n ≡ Some id = hb id n is in
    dite (ℕ_discrete seat n)
    (λ q. let a : None ≡ Some id = sym due ∙ (ap h q ∙ mine) in absurd (cc (a)))
    (λ ne. ap (λ (b : Bool). cond b None (h n)) (ne_eqb seat n ne) ∙ mine)

taken_by : (s : State) (h : ℕ → Option ℕ) (seat k : ℕ) → HeldBy s h → h seat ≡ None → node_at s.cover k ≡ Some Free → (id n : ℕ) → node_at (with_node s.cover k (Held seat)) id ≡ Some (Held n) → cond (seat == n) (Some k) (h n) ≡ Some id
taken_by s h seat k hb due free id n is = ⊎_elim
    (λ (t : (id ≡ k) × (Held seat ≡ Held n)). let q : seat ≡ n = cc (t.1) in ap (λ (b : Bool). cond b (Some k) (h n)) (eq-eqb seat n q) ∙ ap (λ (j : ℕ). Some j) (sym t.0))
    (λ (t : (id ≢ k) × (node_at s.cover id ≡ Some (Held n))). let mine : h n ≡ Some id = hb id n t.1 in dite (ℕ_discrete seat n)
    (λ q. let a : None ≡ Some id = sym due ∙ (ap h q ∙ mine) in absurd (cc (a)))
    (λ ne. ap (λ (b : Bool). cond b (Some k) (h n)) (ne_eqb seat n ne) ∙ mine))
    (held_at_set s.cover.nodes k id n Free (Held seat) free is)

held_step : (p : Problem) (s : State) (e : Event) (h : ℕ → Option ℕ) → IsAllowed p s e → IsDue (h (seat_of e)) e → HeldBy s h → HeldBy (after s e) (next h e)
held_step p s (Take seat Done) h a due hb id n is = idle_by s h seat hb due id n is
held_step p s (Take seat Idle) h a due hb id n is = idle_by s h seat hb due id n is
held_step p s (Take seat (TakenCube k)) h a due hb id n is = taken_by s h seat k hb due a.1 id n is
held_step p s (Deliver seat k batch outcome) h a due hb id n is = ended_by s (after s (Deliver seat k batch outcome)) h seat k hb due (elsewhere_deliver s seat k batch outcome a.0) id n is
held_step p s (Release seat k) h a due hb id n is = ended_by s (after s (Release seat k)) h seat k hb due (λ i m x. elsewhere_set s.cover.nodes k (Held seat) Free a (λ _ e. cc (e)) i m x) id n is

due_here : (h : ℕ → Option ℕ) (e : Event) (es : List Event) → IsOrderlyFrom (h (seat_of e)) (events_by (seat_of e) (e ∷ es)) → IsDue (h (seat_of e)) e
due_here h e es o =
    let n : ℕ = seat_of e in
    (subst (λ (b : Bool). IsOrderlyFrom (h n) (cond b (e ∷ events_by n es) (events_by n es))) (eq-eqb n n refl) o).0

orderly_next : (h : ℕ → Option ℕ) (e : Event) (cs : List Event) (n : ℕ) (b : Bool) → IsOrderlyFrom (h n) (cond b (e ∷ cs) cs) → IsOrderlyFrom (cond b (held_after e) (h n)) cs
orderly_next h e cs n true o = o.1
orderly_next h e cs n false o = o

held_next : (h : ℕ → Option ℕ) (e : Event) (cs : List Event) (n : ℕ) (b : Bool) → held_from (h n) (cond b (e ∷ cs) cs) ≡ held_from (cond b (held_after e) (h n)) cs
held_next h e cs n true = refl
held_next h e cs n false = refl

pub holders : (p : Problem) (s : State) (es : List Event) (h : ℕ → Option ℕ) → IsRunFrom p s es → ((n : ℕ) → IsOrderlyFrom (h n) (events_by n es)) → HeldBy s h → (id n : ℕ) → node_at (replayed_from s es).cover id ≡ Some (Held n) → held_from (h n) (events_by n es) ≡ Some id
holders p s [] h r o hb id n is = hb id n is
holders p s (e ∷ es) h r o hb id n is =
    held_next h e (events_by n es) n (seat_of e == n)
    ∙ holders p (after s e) es (next h e) r.1 (λ m. orderly_next h e (events_by m es) m (seat_of e == m) (o m)) (held_step p s e h r.0 (due_here h e es (o (seat_of e))) hb) id n is

none_at_first : (lemmas : List Lemma) → HeldBy (opened lemmas) (λ _. None)
none_at_first lemmas zero n e = absurd (cc (e))
none_at_first lemmas (suc id) n e = absurd (cc (e))

ended_of : (n : ℕ) (ks : List Kept) (cs : List Event) → AllEnded ks → kept_of n ks ≡ Some cs → AreEnded cs
ended_of n [] cs all e = absurd (cc (e))
ended_of n (k ∷ ks) cs all e = dite (ℕ_discrete k.number n)
    (λ q. let a : Some k.events ≡ Some cs = sym (ap (λ (b : Bool). cond b (Some k.events) (kept_of n ks)) (eq-eqb k.number n q)) ∙ e in let b : k.events ≡ cs = cc (a) in subst AreEnded b all.0)
    (λ ne. ended_of n ks cs all.1 (sym (ap (λ (b : Bool). cond b (Some k.events) (kept_of n ks)) (ne_eqb k.number n ne)) ∙ e))

-- where the events of all seats are known, and each ended its cubes, no leaf is held
pub none_held : (p : Ledger) (v : View) → Runs p v.front → AllKnown v → AreEnded v.events → AllEnded v.kept → NoneHeld (reached p v.front).cover
none_held p v run known mine all id n is =
    let ended : (m : ℕ) → AreEnded (events_by m v.front) = λ m. dite (ℕ_discrete m 0)
    (λ z. subst AreEnded (sym known.0 ∙ ap (λ (j : ℕ). events_by j v.front) (sym z)) mine)
    (λ nz. ⊎_elim
    (λ (l : m < v.seats). ended_of m v.kept (events_by m v.front) all (known.1 m (omega (arith, nz)) l))
    (λ (l : v.seats ≤ m). subst AreEnded (sym (known.2 m l)) (tt, refl))
    (cases_lt m v.seats)) in
    let a : held_from None (events_by n v.front) ≡ Some id = holders p.problem (opened p.opening) v.front (λ _. None) run (λ m. (ended m).0) (none_at_first p.opening) id n is in
    let b : None ≡ Some id = sym (ended n).1 ∙ a in
    cc (b)

done_on : (p : Problem) (s : State) (es : List Event) → IsRunFrom p s es → IsDone s → IsDone (replayed_from s es)
done_on p s [] r d = d
done_on p s (e ∷ es) r d = done_on p (after s e) es r.1 (done_kept p s e d r.0)

done_from : (p : Problem) (s : State) (es : List Event) (n k : ℕ) → IsRunFrom p s es → slice_get es k ≡ Some (Take n Done) → IsDone (replayed_from s es)
done_from p s [] n k r e = absurd (cc (e))
done_from p s (x ∷ es) n zero r e =
    let is : x ≡ Take n Done = cc (e) in
    let first : IsAllowed p s (Take n Done) × IsRunFrom p (after s (Take n Done)) es = subst (λ (y : Event). IsAllowed p s y × IsRunFrom p (after s y) es) is r in
    subst (λ (y : Event). IsDone (replayed_from (after s y) es)) (sym is) (done_on p s es first.1 first.0)
done_from p s (x ∷ es) n (suc k) r e = done_from p (after s x) es n k r.1 e

-- where a seat was answered Done, the book is done
pub was_done : (p : Ledger) (es : List Event) → Runs p es → WasDone es → IsDone (reached p es)
was_done p es run (n, k, e) = done_from p.problem (opened p.opening) es n k run e
