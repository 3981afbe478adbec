-- A seat's view after a call.
use Rattle.std.proofs.Common.{◌≡◌, ℕ, Bool, false, List, [], ◌∷◌, ◌++◌, length, drop, Option, None, refl, sym, ap, ◌∙◌, subst, arith, append_assoc}
use Rattle.std.proofs.lemmas.List.{take_all}
use Rattle.std.proofs.Math.Seq.{drop-append_seam}
use Rattle.refute_tree.specs.declared.lemma.Lemma.{Lemma}
use Rattle.book_core.specs.declared.event.Event.{Event}
use Rattle.book_core.specs.Books.{IsAllowed}
use Rattle.book_lock.specs.Begun.{Runs, reached}
use Rattle.book_lock.specs.declared.view.View.{View}
use Rattle.book_lock.specs.declared.cube.Cube.{Cube}
use Rattle.book_lock.specs.SeatEvents.{events_by, seat_of, held_from, held_after, IsDue, IsOrderlyFrom, idle_from, is_idle, ended_idle}
use Rattle.book_lock.specs.Rules.{entered, Entered, telling, resting}
use Rattle.book_lock.specs.Seats.{IsSeated, Called, calling, id_of}
use Rattle.book_lock.proofs.Fronts.{prefix_trans}
use Rattle.book_lock.proofs.Journals.{run_snoc, events_own}
use Rattle.book_lock.proofs.Holding.{lemmas_prefix}

pub held_snoc : (held : Option ℕ) (es : List Event) (e : Event) → held_from held (es ++ e ∷ []) ≡ held_after e
held_snoc held [] e = refl
held_snoc held (x ∷ es) e = held_snoc (held_after x) es e

pub idle_snoc : (idle : Bool) (es : List Event) (e : Event) → idle_from idle (es ++ e ∷ []) ≡ is_idle e
idle_snoc idle [] e = refl
idle_snoc idle (x ∷ es) e = idle_snoc (is_idle x) es e

pub orderly_snoc : (held : Option ℕ) (es : List Event) (e : Event) → IsOrderlyFrom held es → IsDue (held_from held es) e → IsOrderlyFrom held (es ++ e ∷ [])
orderly_snoc held [] e h d = (d, tt)
orderly_snoc held (x ∷ es) e h d = (h.0, orderly_snoc (held_after x) es e h.1 d)

-- the view, when the event was told of and the turn went back
abbrev pub told_of : View → List Event → Event → View
told_of v log e = resting (telling (entered v log) (log ++ e ∷ []))

module _ (v : View) (log : List Event) (e : Event) (rests : v.turn ≡ false) (blank : v.known ≡ []) (en : Entered v log) (own : seat_of e ≡ v.number) (a : IsAllowed v.begun.problem (reached v.begun log) e) where
  abbrev between : List Event
  between = en.1.0

  pub whole : v.front ++ between ≡ log
  whole = en.1.1

  pub last : drop (length log) (log ++ e ∷ []) ≡ e ∷ []
  last = drop-append_seam log (e ∷ [])

  pub view_after : told_of v log e ≡ calling v between e
  view_after = λ i. record v { turn = sym rests i; known = sym blank i; front = sym whole i ++ e ∷ []; events = v.events ++ last i }

  pub run_after : Runs v.begun (log ++ e ∷ [])
  run_after = run_snoc v.begun log e en.0 a

  pub events_after : events_by v.number (log ++ e ∷ []) ≡ v.events ++ e ∷ []
  events_after = events_own v.number log e own ∙ ap (λ (es : List Event). es ++ e ∷ []) en.2

  pub called : (w : View) → w ≡ told_of v log e → Called v w between e
  called w is = record {
    view = is ∙ view_after;
    allowed = subst (λ (es : List Event). IsAllowed v.begun.problem (reached v.begun es) e) (sym whole) a;
    run = subst (λ (x : View). Runs v.begun x.front) (sym is) run_after;
    made = subst (λ (x : View). events_by v.number x.front ≡ x.events) (sym is) (events_after ∙ ap (λ (es : List Event). v.events ++ es) (sym last));
  }

  -- the seat's parts after a call that leaves it without a cube
  pub seated_without : (lemmas : List Lemma) (holding : Option Cube) (place now : ℕ) (waits : Bool) (idle : Bool) → IsSeated v lemmas holding place waits → IsDue (id_of holding) e → held_after e ≡ None → is_idle e ≡ idle → now ≡ length (log ++ e ∷ [])
      → IsSeated (told_of v log e) lemmas None now idle
  seated_without lemmas holding place now waits idle s due none is count = record {
    opens = s.opens;
    run = run_after;
    seen = prefix_trans lemmas (reached v.begun v.front).lemmas (reached v.begun (log ++ e ∷ [])).lemmas s.seen (lemmas_prefix v.begun v.front (log ++ e ∷ []) (between ++ e ∷ [], more_front));
    holds = tt;
    orderly = subst (λ (es : List Event). IsOrderlyFrom None (v.events ++ es)) (sym last) (orderly_snoc None v.events e s.orderly (subst (λ (h : Option ℕ). IsDue h e) (sym s.held) due));
    held = ap (λ (es : List Event). held_from None (v.events ++ es)) last ∙ (held_snoc None v.events e ∙ none);
    within = omega (arith, count);
    before = ap (events_by v.number) (take_all now (log ++ e ∷ []) (omega (arith, count))) ∙ (events_after ∙ ap (λ (es : List Event). v.events ++ es) (sym last));
    idle = sym is ∙ (sym (idle_snoc false v.events e) ∙ ap (λ (es : List Event). ended_idle (v.events ++ es)) (sym last));
    kept = s.kept;
  }
    where
      more_front : v.front ++ (between ++ e ∷ []) ≡ log ++ e ∷ []
      more_front = sym (append_assoc v.front between (e ∷ [])) ∙ ap (λ (es : List Event). es ++ e ∷ []) whole
