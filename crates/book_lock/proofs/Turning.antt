-- A seat that has the turn, makes a call and gives the turn back.
use Rattle.std.proofs.Common.{◌≡◌, ℕ, ◌+◌, Bool, true, false, List, [], ◌∷◌, ◌++◌, length, drop, length-append, Option, Some, None, refl, sym, ap, ◌∙◌, subst, arith}
use Rattle.std.specs.Prelude.{IfSome}
use Rattle.std.proofs.Math.Seq.{drop-append_seam}
use Rattle.std.proofs.lemmas.List.{take_all, take-append-le}
use mathlib.Core.List.{IsPrefix}
use Rattle.atomic_table.specs.Seated.{TableId}
use Rattle.refute_tree.specs.declared.lemma.Lemma.{Lemma}
use Rattle.cover_tree.specs.declared.node.Node.TheVariants.{Held}
use Rattle.cover_tree.specs.Covers.{node_at}
use Rattle.book_core.specs.declared.event.Event.{Event}
use Rattle.refute_tree.specs.Batches.{LemmaBatch}
use Rattle.book_core.specs.declared.event.Outcome.{Outcome}
use Rattle.book_core.specs.Books.{State, opened, IsAllowed, IsJustified, IsJustifiedIn, after}
use Rattle.book_core.specs.Halves.{halves_after, halves_of}
use Rattle.book_core.specs.declared.event.Event.TheVariants.{Deliver}
use Rattle.book_core.proofs.Runs.{halves_push}
use Rattle.book_core.specs.Runs.{state_of, Ledger, with_event}
use Rattle.book_lock.specs.Begun.{Opens, Runs, reached, with_events}
use Rattle.book_lock.specs.declared.view.View.{View}
use Rattle.book_lock.specs.declared.cube.Cube.{Cube}
use Rattle.book_lock.specs.SeatEvents.{seat_of, held_after, held_from, IsDue, IsOrderlyFrom, is_idle, ended_idle, events_by, HasNews, HasNewsFor}
use Rattle.book_lock.specs.Rules.{Mine, opener, entered, Entered, Seen, telling, resting}
use Rattle.book_lock.specs.declared.cube.Dealt.{Dealt}
use Rattle.book_lock.specs.code.Looks.{waits_of, Looked}
use Rattle.book_lock.specs.Seats.{counted, newcomer, merged, longer, TakesNear, IsCubeNear, DealtAs, Sight, sight, IsCubeOfSeat, WasTaken, IsSeated, Called, Ends, id_of}
use Rattle.book_lock.proofs.Holding.{still_held, lemmas_prefix}
use Rattle.book_lock.proofs.Fronts.{prefix_self, prefix_trans}
use Rattle.book_lock.proofs.Journals.{replayed_more, run_first}
use Rattle.book_lock.proofs.Taking.{justified_now, Left, left_by, news_for}
use Rattle.book_lock.proofs.Calling.{held_snoc, idle_snoc, orderly_snoc, told_of, events_after, called, whole, run_after, seated_without}

-- what a seat's parts keep
abbrev pub Kept : ℕ → ℕ → Mine → List Lemma → Option Cube → ℕ → Bool → Type 0
Kept number made me lemmas holding place waits =
    (number ≡ me.0.number) × (made ≡ me.0.seats) × (me.1 ≡ []) × (me.0.turn ≡ false) × (me.0.spent ≡ false) × (me.0.known ≡ []) × IsSeated me.0 lemmas holding place waits

pub some_also : {A : Type 0} (o : Option A) (P Q : A → Type 0) → ((x : A) → P x → Q x) → IfSome o P → IfSome o Q
some_also None P Q f h = tt
some_also (Some x) P Q f h = f x h

-- the state of a book that has these events
pub at_book : (p b : Ledger) → b ≡ with_events p b.journal → state_of b ≡ reached p b.journal
at_book p b book = ap state_of book

-- by its front the seat holds a cube, and so in the book
pub held_now : (number made : ℕ) (m : Mine) (lemmas : List Lemma) (holding : Option Cube) (place : ℕ) (waits : Bool) (b : Ledger) (cube : Cube) → Kept number made m lemmas holding place waits → Entered m.0 b.journal → holding ≡ Some cube → IsCubeOfSeat (reached m.0.begun b.journal).cover m.0.number cube
held_now number made m lemmas holding place waits b cube k en is =
    let h : WasTaken m.0 cube = subst (λ (o : Option Cube). IfSome o (WasTaken m.0)) is k.6.holds in
    still_held m.0.begun h.0 b.journal m.0.events m.0.number cube en.0 (prefix_trans h.0 m.0.front b.journal h.1 en.1) en.2 h.2 h.3

pub held_by_number : (number made : ℕ) (m : Mine) (lemmas : List Lemma) (holding : Option Cube) (place : ℕ) (waits : Bool) (b : Ledger) (cube : Cube) → Kept number made m lemmas holding place waits → Entered m.0 b.journal → holding ≡ Some cube → node_at (reached m.0.begun b.journal).cover cube.id ≡ Some (Held number)
held_by_number number made m lemmas holding place waits b cube k en is = (held_now number made m lemmas holding place waits b cube k en is).0 ∙ ap (λ (n : ℕ). Some (Held n)) (sym k.0)

-- the book holds it for the seat
pub held_in_book : (number made : ℕ) (m : Mine) (lemmas : List Lemma) (holding : Option Cube) (place : ℕ) (waits : Bool) (b : Ledger) (cube : Cube) → Kept number made m lemmas holding place waits → Entered m.0 b.journal → holding ≡ Some cube → b ≡ with_events m.0.begun b.journal → node_at (state_of b).cover cube.id ≡ Some (Held number)
held_in_book number made m lemmas holding place waits b cube k en is book =
    ap (λ (s : State). node_at s.cover cube.id) (at_book m.0.begun b book) ∙ held_by_number number made m lemmas holding place waits b cube k en is

-- the book, with the seat's event at its end
module _ (v : View) (b b' : Ledger) (m : Mine) (e : Event) (rests : v.turn ≡ false) (blank : v.known ≡ [])
    (book : b ≡ with_events v.begun b.journal) (view : m ≡ (entered v b.journal, (0, None) ∷ [])) (en : Entered v b.journal)
    (own : seat_of e ≡ v.number) (a : IsAllowed v.begun.problem (reached v.begun b.journal) e) (now : b' ≡ with_event b e) where
  pub tell_ready : (x : Event) × (b' ≡ with_events m.0.begun (m.0.known ++ x ∷ [])) × (seat_of x ≡ m.0.number) × Runs m.0.begun b'.journal
  tell_ready = subst (λ (k : Mine). (x : Event) × (b' ≡ with_events k.0.begun (k.0.known ++ x ∷ [])) × (seat_of x ≡ k.0.number) × Runs k.0.begun b'.journal) (sym view)
      (e, now ∙ ap (λ (k : Ledger). with_event k e) book, own, subst (λ (k : Ledger). Runs v.begun k.journal) (sym now) (run_after v b.journal e rests blank en own a))

  pub told_view : resting (telling m.0 b'.journal) ≡ told_of v b.journal e
  told_view = ap (λ (k : Mine). resting (telling k.0 b'.journal)) view ∙ ap (λ (k : Ledger). resting (telling (entered v b.journal) k.journal)) now

  module _ (me : Mine) (told : me ≡ (resting (telling m.0 b'.journal), [])) where
    pub is_told : me ≡ (told_of v b.journal e, [])
    is_told = told ∙ ap (λ (w : View). let x : Mine = (w, []) in x) told_view

    pub kept_after : (number made : ℕ) (lemmas : List Lemma) (holding : Option Cube) (place : ℕ) (waits : Bool) → number ≡ v.number → made ≡ v.seats → v.spent ≡ false → IsSeated (told_of v b.journal e) lemmas holding place waits → Kept number made me lemmas holding place waits
    kept_after number made lemmas holding place waits n s sp h = subst (λ (k : Mine). Kept number made k lemmas holding place waits) (sym is_told) (n, s, refl, refl, sp, refl, h)

    pub called_now : Called v me.0 (en.1.0) e
    called_now = called v b.journal e rests blank en own a me.0 (ap (λ (k : Mine). k.0) is_told)

    -- a call that ends the cube
    pub kept_without : (number made : ℕ) (lemmas : List Lemma) (holding after_ : Option Cube) (place now_ count : ℕ) (waits : Bool) → number ≡ v.number → made ≡ v.seats → v.spent ≡ false → IsSeated v lemmas holding place waits → IsDue (id_of holding) e → held_after e ≡ None → is_idle e ≡ false → now_ ≡ length b'.journal → after_ ≡ None → Kept number made me lemmas after_ now_ false
    kept_without number made lemmas holding after_ place now_ count waits n s sp h due none busy len gone =
        kept_after number made lemmas after_ now_ false n s sp (subst (λ (o : Option Cube). IsSeated (told_of v b.journal e) lemmas o now_ false) (sym gone)
        (seated_without v b.journal e rests blank en own a lemmas holding place now_ waits false h due none busy (len ∙ ap (λ (k : Ledger). length k.journal) now)))

    pub ended_now : (desk desk' : TableId) (lemmas : List Lemma) (cube : Cube) (after_ : Option Cube) (halves now_halves : Option (ℕ × ℕ)) → desk' ≡ desk → after_ ≡ None → now_halves ≡ halves_after (reached v.begun b.journal) e halves → IsCubeOfSeat (reached v.begun b.journal).cover v.number cube
        → Ends (sight desk v lemmas (Some cube) halves) (sight desk' me.0 lemmas after_ now_halves) e
    ended_now desk desk' lemmas cube after_ halves now_halves same gone made h = record {
      between = en.1.0;
      called = called_now;
      same = let there : now_halves ≡ halves_after (reached v.begun (v.front ++ en.1.0)) e halves = made ∙ ap (λ (es : List Event). halves_after (reached v.begun es) e halves) (sym (whole v b.journal e rests blank en own a)) in
          λ i. sight (same i) me.0 lemmas (gone i) (there i);
      held = subst (λ (es : List Event). IsCubeOfSeat (reached v.begun es).cover v.number cube) (sym (whole v b.journal e rests blank en own a)) h;
    }

-- a call that ends the seat's cube
module _ (m0 : Mine) (b b' : Ledger) (m me : Mine) (number made : ℕ) (lemmas : List Lemma) (holding after_ : Option Cube) (place now_ : ℕ) (waits : Bool) (desk desk' : TableId) (cube : Cube) (event : ℕ → ℕ → Event)
    (book : b ≡ with_events m0.0.begun b.journal) (view : m ≡ (entered m0.0 b.journal, (0, None) ∷ [])) (en : Entered m0.0 b.journal)
    (kept : Kept number made m0 lemmas holding place waits) (has : holding ≡ Some cube)
    (own : seat_of (event number cube.id) ≡ number) (due : IsDue (Some cube.id) (event number cube.id)) (none : held_after (event number cube.id) ≡ None) (busy : is_idle (event number cube.id) ≡ false)
    (allowed : IsAllowed m0.0.begun.problem (reached m0.0.begun b.journal) (event number cube.id)) (now : b' ≡ with_event b (event number cube.id)) where
  owned : seat_of (event number cube.id) ≡ m0.0.number
  owned = own ∙ kept.0

  held_there : IsCubeOfSeat (reached m0.0.begun b.journal).cover m0.0.number cube
  held_there = held_now number made m0 lemmas holding place waits b cube kept en has

  pub ending_ready : (x : Event) × (b' ≡ with_events m.0.begun (m.0.known ++ x ∷ [])) × (seat_of x ≡ m.0.number) × Runs m.0.begun b'.journal
  ending_ready = tell_ready m0.0 b b' m (event number cube.id) kept.3 kept.5 book view en owned allowed now

  pub ending_kept : me ≡ (resting (telling m.0 b'.journal), []) → now_ ≡ length b'.journal → after_ ≡ None → Kept number made me lemmas after_ now_ false
  ending_kept told len gone = kept_without m0.0 b b' m (event number cube.id) kept.3 kept.5 book view en owned allowed now me told number made lemmas holding after_ place now_ 0 waits kept.0 kept.1 kept.4 kept.6 (subst (λ (o : Option Cube). IsDue (id_of o) (event number cube.id)) (sym has) due) none busy len gone

  pub ending_ends : (old : Sight) (halves now_halves : Option (ℕ × ℕ)) → me ≡ (resting (telling m.0 b'.journal), []) → sight desk m0.0 lemmas holding halves ≡ old → desk' ≡ desk → after_ ≡ None → now_halves ≡ halves_after (reached m0.0.begun b.journal) (event number cube.id) halves
      → IfSome old.cube (λ k. Ends old (sight desk' me.0 lemmas after_ now_halves) (event old.view.number k.id))
  ending_ends old halves now_halves told shown same gone made_halves =
      subst (λ (s : Sight). IfSome s.cube (λ k. Ends s (sight desk' me.0 lemmas after_ now_halves) (event s.view.number k.id))) (ap (λ (o : Option Cube). sight desk m0.0 lemmas o halves) (sym has) ∙ shown)
      (subst (λ (n : ℕ). Ends (sight desk m0.0 lemmas (Some cube) halves) (sight desk' me.0 lemmas after_ now_halves) (event n cube.id)) kept.0
      (ended_now m0.0 b b' m (event number cube.id) kept.3 kept.5 book view en owned allowed now me told desk desk' lemmas cube after_ halves now_halves same gone made_halves held_there))

-- what the seat knows of the lemmas is a beginning of the book's
seen_there : (number made : ℕ) (m : Mine) (lemmas : List Lemma) (holding : Option Cube) (place : ℕ) (waits : Bool) (b : Ledger) → Kept number made m lemmas holding place waits → Entered m.0 b.journal → IsPrefix lemmas (reached m.0.begun b.journal).lemmas
seen_there number made m lemmas holding place waits b k en = prefix_trans lemmas (reached m.0.begun m.0.front).lemmas (reached m.0.begun b.journal).lemmas k.6.seen (lemmas_prefix m.0.begun m.0.front b.journal en.1)

pub seen_now : (number made : ℕ) (m : Mine) (lemmas : List Lemma) (holding : Option Cube) (place : ℕ) (waits : Bool) (b : Ledger) → Kept number made m lemmas holding place waits → Entered m.0 b.journal → b ≡ with_events m.0.begun b.journal → IsPrefix lemmas (state_of b).lemmas
seen_now number made m lemmas holding place waits b k en book =
    subst (λ (s : State). IsPrefix lemmas s.lemmas) (sym (at_book m.0.begun b book)) (seen_there number made m lemmas holding place waits b k en)

-- a take
module _ (m0 : Mine) (b b' : Ledger) (m me : Mine) (number made : ℕ) (lemmas lemmas' : List Lemma) (holding cube : Option Cube) (place now_ : ℕ) (waits waits' : Bool) (desk desk' : TableId) (answer : Dealt)
    (book : b ≡ with_events m0.0.begun b.journal) (view : m ≡ (entered m0.0 b.journal, (0, None) ∷ [])) (en : Entered m0.0 b.journal)
    (kept : Kept number made m0 lemmas holding place waits) (has : holding ≡ None) (looked : Looked b number answer cube b') where
  own_take : seat_of looked.event ≡ m0.0.number
  own_take = looked.own ∙ kept.0

  may_take : IsAllowed m0.0.begun.problem (reached m0.0.begun b.journal) looked.event
  may_take = subst (λ (k : Ledger). IsAllowed k.problem (state_of k) looked.event) book looked.allowed

  -- the book after the take, and its state
  grown : b' ≡ with_events m0.0.begun (b.journal ++ looked.event ∷ [])
  grown = looked.longer ∙ ap (λ (k : Ledger). with_event k looked.event) book

  led : after (state_of b) looked.event ≡ reached m0.0.begun (b.journal ++ looked.event ∷ [])
  led =
      ap (λ (s : State). after s looked.event) (at_book m0.0.begun b book)
      ∙ sym (replayed_more (opened m0.0.begun.opening) b.journal (looked.event ∷ []))

  left : Left number (state_of b) answer looked.event cube
  left = left_by b.problem number (state_of b) answer looked.event cube looked.allowed looked.taken

  pub taking_ready : (x : Event) × (b' ≡ with_events m.0.begun (m.0.known ++ x ∷ [])) × (seat_of x ≡ m.0.number) × Runs m.0.begun b'.journal
  taking_ready = tell_ready m0.0 b b' m looked.event kept.3 kept.5 book view en own_take may_take looked.longer

  seated : lemmas' ≡ (state_of b').lemmas → now_ ≡ length b'.journal → waits' ≡ waits_of answer → IsSeated (told_of m0.0 b.journal looked.event) lemmas' cube now_ waits'
  seated all len idle =
      let none : held_from None m0.0.events ≡ None = kept.6.held ∙ ap id_of has in
      let last : drop (length b.journal) (b.journal ++ looked.event ∷ []) ≡ looked.event ∷ [] = drop-append_seam b.journal (looked.event ∷ []) in
      let longer_now : b'.journal ≡ b.journal ++ looked.event ∷ [] = ap (λ (k : Ledger). k.journal) grown in
      record {
        opens = kept.6.opens;
        run = run_after m0.0 b.journal looked.event kept.3 kept.5 en own_take may_take;
        seen = subst (λ (ls : List Lemma). IsPrefix lemmas' ls) (all ∙ ap (λ (k : Ledger). (state_of k).lemmas) grown) (prefix_self lemmas');
        holds = some_also cube (IsCubeOfSeat (after (state_of b) looked.event).cover number) (WasTaken (told_of m0.0 b.journal looked.event))
            (λ k h. (
              b.journal ++ looked.event ∷ [],
              prefix_self (b.journal ++ looked.event ∷ []),
              events_after m0.0 b.journal looked.event kept.3 kept.5 en own_take may_take ∙ ap (λ (es : List Event). m0.0.events ++ es) (sym last),
              subst (λ (t : State × ℕ). IsCubeOfSeat t.0.cover t.1 k) (λ i. (led i, kept.0 i)) h,
            )) left.holds;
        orderly = subst (λ (es : List Event). IsOrderlyFrom None (m0.0.events ++ es)) (sym last) (orderly_snoc None m0.0.events looked.event kept.6.orderly (subst (λ (h : Option ℕ). IsDue h looked.event) (sym none) left.due));
        held = ap (λ (es : List Event). held_from None (m0.0.events ++ es)) last ∙ (held_snoc None m0.0.events looked.event ∙ left.after_);
        within = omega (arith, len ∙ ap length longer_now);
        before = ap (events_by m0.0.number) (take_all now_ (b.journal ++ looked.event ∷ []) (omega (arith, len ∙ ap length longer_now))) ∙ (events_after m0.0 b.journal looked.event kept.3 kept.5 en own_take may_take ∙ ap (λ (es : List Event). m0.0.events ++ es) (sym last));
        idle = idle ∙ (sym left.idle ∙ (sym (idle_snoc false m0.0.events looked.event) ∙ ap (λ (es : List Event). ended_idle (m0.0.events ++ es)) (sym last)));
        kept = kept.6.kept;
      }

  pub taking_kept : me ≡ (resting (telling m.0 b'.journal), []) → lemmas' ≡ (state_of b').lemmas → now_ ≡ length b'.journal → waits' ≡ waits_of answer → Kept number made me lemmas' cube now_ waits'
  taking_kept told all len idle = kept_after m0.0 b b' m looked.event kept.3 kept.5 book view en own_take may_take looked.longer me told number made lemmas' cube now_ waits' kept.0 kept.1 kept.4 (seated all len idle)

  pub taking_takes : (old : Sight) (halves : Option (ℕ × ℕ)) (near : Option ℕ) → me ≡ (resting (telling m.0 b'.journal), []) → sight desk m0.0 lemmas holding halves ≡ old → desk' ≡ desk → lemmas' ≡ (state_of b').lemmas → (waits ≡ true → HasNews place b.journal)
      → IfSome near (IsCubeNear (state_of b).cover cube) → TakesNear old (sight desk' me.0 lemmas' cube halves) near answer
  taking_takes old halves near told shown same all news by =
      let is = is_told m0.0 b b' m looked.event kept.3 kept.5 book view en own_take may_take looked.longer me told in
      let full = whole m0.0 b.journal looked.event kept.3 kept.5 en own_take may_take in
      let before : state_of b ≡ reached m0.0.begun (m0.0.front ++ en.1.0) = at_book m0.0.begun b book ∙ ap (reached m0.0.begun) (sym full) in
      subst (λ (s : Sight). TakesNear s (sight desk' me.0 lemmas' cube halves) near answer) shown (
        record {
          between = en.1.0;
          event = looked.event;
          called = called_now m0.0 b b' m looked.event kept.3 kept.5 book view en own_take may_take looked.longer me told;
          answered = subst (λ (t : ℕ × State). DealtAs t.0 t.1 answer looked.event cube) (λ i. (kept.0 i, before i)) looked.taken;
          desk = same;
          lemmas = all ∙ (ap (λ (k : Ledger). (state_of k).lemmas) grown ∙ ap (λ (k : Mine). (reached m0.0.begun k.0.front).lemmas) (sym is));
          halves = refl;
          waited = λ idle. subst (λ (es : List Event). HasNewsFor m0.0.number es) (sym full) (news_for m0.0.number place m0.0.front b.journal m0.0.events en.1 kept.6.within kept.6.before en.2 (news (kept.6.idle ∙ idle)));
        },
        subst (λ (s : State). IfSome near (IsCubeNear s.cover cube)) before by,
      )

-- after a delivery the book's halves are those of this one
pub halves_told : (p b now : Ledger) (n k : ℕ) (batch : LemmaBatch) (outcome : Outcome) (halves told : Option (ℕ × ℕ)) → b ≡ with_events p b.journal → now ≡ with_event b (Deliver n k batch outcome) → told ≡ halves_of now.opening now.journal
    → told ≡ halves_after (reached p b.journal) (Deliver n k batch outcome) halves
halves_told p b now n k batch outcome halves told book is e =
    e ∙ (ap (λ (l : Ledger). halves_of l.opening l.journal) is ∙ halves_push (opened b.opening) None b.journal (Deliver n k batch outcome))
    ∙ ap (λ (s : State). halves_after s (Deliver n k batch outcome) halves) (at_book p b book)

-- a delivery that is justified over what the seat knows is so in the book
pub deliver_justified : (m0 : Mine) (b : Ledger) (number made : ℕ) (lemmas : List Lemma) (holding : Option Cube) (place : ℕ) (waits : Bool) (desk : TableId) (halves : Option (ℕ × ℕ)) (old : Sight) (cube : Cube) (batch : LemmaBatch) (outcome : Outcome)
    → sight desk m0.0 lemmas holding halves ≡ old → Kept number made m0 lemmas holding place waits → Entered m0.0 b.journal → b ≡ with_events m0.0.begun b.journal → holding ≡ Some cube
    → ((k : Cube) × (old.cube ≡ Some k) × IsJustified old.view.begun.problem old.lemmas k.literals batch outcome) → IsJustifiedIn b.problem (state_of b) cube.id batch outcome
deliver_justified m0 b number made lemmas holding place waits desk halves old cube batch outcome shown kept en book has asked =
    let h = subst (λ (s : Sight). (k : Cube) × (s.cube ≡ Some k) × IsJustified s.view.begun.problem s.lemmas k.literals batch outcome) (sym shown) asked in
    let both : Some h.0 ≡ Some cube = sym h.1 ∙ has in
    let same : h.0 ≡ cube = cc (both) in
    let j = subst (λ (k : Cube). IsJustified m0.0.begun.problem lemmas k.literals batch outcome) same h.2 in
    subst (λ (k : Ledger). IsJustifiedIn k.problem (state_of k) cube.id batch outcome) (sym book)
    (justified_now m0.0.begun.problem (reached m0.0.begun b.journal) cube.id lemmas cube.literals batch outcome (seen_there number made m0 lemmas holding place waits b kept en) (held_now number made m0 lemmas holding place waits b cube kept en has).1 j)

-- the first seat, which has seen what the book opened with
pub opener_kept : (p : Ledger) (m : Mine) (lemmas : List Lemma) → Opens p → m ≡ (opener p, []) → lemmas ≡ p.opening → Kept 0 1 m lemmas None 0 false
opener_kept p m lemmas opens is same =
    subst (λ (t : Mine × List Lemma). Kept 0 1 t.0 t.1 None 0 false) (λ i. (sym is i, sym same i))
    (refl, refl, refl, refl, refl, refl, record { opens = opens; run = tt; seen = prefix_self p.opening; holds = tt; orderly = tt; held = refl; within = omega arith; before = refl; idle = refl; kept = tt })

-- a seat that was split off, and the one that counts it
pub newcomer_kept : (number made : ℕ) (m m' : Mine) (lemmas lemmas' : List Lemma) (holding : Option Cube) (place : ℕ) (waits : Bool) → Kept number made m lemmas holding place waits → m' ≡ (newcomer m.0, []) → lemmas' ≡ lemmas → Kept made 0 m' lemmas' None 0 false
newcomer_kept number made m m' lemmas lemmas' holding place waits k is same =
    subst (λ (t : Mine × List Lemma). Kept made 0 t.0 t.1 None 0 false) (λ i. (sym is i, sym same i))
    (k.1, refl, refl, refl, refl, refl, record { opens = k.6.opens; run = k.6.run; seen = k.6.seen; holds = tt; orderly = tt; held = refl; within = omega arith; before = refl; idle = refl; kept = tt })

-- a beginning of a run is a run
pub run_prefix : (p : Ledger) (xs ys : List Event) → IsPrefix xs ys → Runs p ys → Runs p xs
run_prefix p xs ys pre run = run_first p.problem (opened p.opening) xs pre.0 (subst (Runs p) (sym pre.1) run)

-- seat 0, when it took in another seat that holds no cube
pub merged_kept : (number made other_number other_made : ℕ) (m w m' : Mine) (lemmas lemmas_w : List Lemma) (holding holding_w : Option Cube) (place place_w : ℕ) (waits waits_w : Bool)
    → Kept number made m lemmas holding place waits → Kept other_number other_made w lemmas_w holding_w place_w waits_w → holding_w ≡ None → m' ≡ (merged m.0 w.0, []) → ((log : List Event) × Seen (merged m.0 w.0) log) → Kept number made m' lemmas holding place waits
merged_kept number made other_number other_made m w m' lemmas lemmas_w holding holding_w place place_w waits waits_w k o none is all =
    let s = k.6 in
    let begins : IsPrefix m.0.front (longer m.0.front w.0.front) = (drop (length m.0.front) w.0.front, refl) in
    subst (λ (t : Mine). Kept number made t lemmas holding place waits) (sym is) (
      k.0,
      k.1,
      refl,
      k.3,
      k.4,
      k.5,
      record {
        opens = s.opens;
        run = run_prefix m.0.begun (longer m.0.front w.0.front) all.0 all.1.0 all.1.2;
        seen = prefix_trans lemmas (reached m.0.begun m.0.front).lemmas (reached m.0.begun (longer m.0.front w.0.front)).lemmas s.seen (lemmas_prefix m.0.begun m.0.front (longer m.0.front w.0.front) begins);
        holds = some_also holding (WasTaken m.0) (WasTaken (merged m.0 w.0)) (λ c h. (h.0, prefix_trans h.0 m.0.front (longer m.0.front w.0.front) h.1 begins, h.2, h.3)) s.holds;
        orderly = s.orderly;
        held = s.held;
        within = omega (arith, s.within, length-append m.0.front (drop (length m.0.front) w.0.front));
        before = ap (events_by m.0.number) (take-append-le place m.0.front (drop (length m.0.front) w.0.front) s.within) ∙ s.before;
        idle = s.idle;
        kept = ((o.6.orderly, o.6.held ∙ ap id_of none), s.kept);
      },
    )
