-- Each step keeps the rule.
use Rattle.std.proofs.Common.{◌≡◌, ◌≢◌, ℕ, zero, suc, ◌<◌, ◌==◌, ne_eqb, Bool, true, false, List, [], ◌∷◌, ◌++◌, length, drop, set, get_or, Option, Some, None, refl, sym, ap, ◌∙◌, subst, inl, inr, ⊎_elim, arith, length-set, get_or-set_same, get_or-set_other}
use Rattle.std.proofs.lemmas.List.{set-get_or, append-nil}
use Rattle.std.specs.Prelude.{slice_index, MatchBool}
use Rattle.std.proofs.lemmas.Bool.Decides.{nat_tests}
use Rattle.std.proofs.Math.Seq.{drop-append_seam}
use mathlib.Core.Option.{some, none, some-injective, some-ne-none}
use mathlib.Core.List.{IsPrefix}
use mathlib.Core.Logic.{dite}
use native.Mathlib.Decide.{ℕ_discrete}
use lib.ListN.{get_elem?}
use prog.Atomic.{either}
use Rattle.atomic_table.specs.Table.{Step, step, Act, keeps, takes, gives, Valid, stepped, carried_after, rest, Allows}
use Rattle.atomic_table.proofs.Lists.{at_set, set_here, set_else, set_again}
use Rattle.book_core.specs.declared.event.Event.{Event}
use Rattle.book_lock.specs.declared.view.View.{View}
use Rattle.book_lock.specs.declared.view.Kept.{Kept}
use Rattle.book_core.specs.Runs.{Ledger}
use Rattle.book_lock.specs.Begun.{Runs, with_events}
use Rattle.book_lock.specs.SeatEvents.{events_by, seat_of}
use Rattle.book_lock.specs.Rules.{St, Mine, At, Active, kept_of, AllBegin, Fits, Holds, entered, Entered, Enters, journal_of, telling, Tells, resting, Leaves}
use Rattle.book_lock.proofs.Fronts.{prefix_self, prefix_trans}
use Rattle.book_lock.proofs.Journals.{events_own, events_other}

pub at_below : {A : Type 0} (xs : List A) (i : ℕ) (a : A) → get_elem? xs i ≡ some a → i < length xs
at_below [] i a e = absurd (some-ne-none a (sym e))
at_below (x ∷ xs) zero a e = omega arith
at_below (x ∷ xs) (suc i) a e = omega (arith, at_below xs i a e)

pub same_at : (views : List View) (i : ℕ) (u v : View) → At views i u → At views i v → u ≡ v
same_at views i u v a b = some-injective u v (sym a ∙ b)

not_true : (b : Bool) → (b ≡ true → ⊥) → b ≡ false
not_true true n = absurd (n refl)
not_true false n = refl

pub true_false : (b : Bool) → b ≡ true → b ≡ false → ⊥
true_false b t f = cc

-- what holds of the new view and of all others holds of each
pub each : (P : ℕ → View → Type 0) (views : List View) (id : ℕ) (w : View) → P id w → ((j : ℕ) (u : View) → j ≢ id → At views j u → P j u) → (j : ℕ) (u : View) → At (set views id w) j u → P j u
each P views id w mine others j u e =
    ⊎_elim
    (λ (t : (j ≡ id) × (w ≡ u)). subst (λ (x : ℕ × View). P x.0 x.1) (λ i. (sym t.0 i, t.1 i)) mine)
    (λ (t : (j ≢ id) × (get_elem? views j ≡ some u)). others j u t.0 t.1)
    (at_set views id j w u e)

pub begin_more : (ks : List Kept) (xs ys : List Event) → IsPrefix xs ys → AllBegin ks xs → AllBegin ks ys
begin_more [] xs ys p h = tt
begin_more (k ∷ ks) xs ys p h = (prefix_trans k.front xs ys h.0 p, begin_more ks xs ys p h.1)

-- The seat id goes from the view v to w, and the journal from r.log to log
pub record Change (p : Ledger) (s : St) (r : Holds p s) (id : ℕ) (v w : View) (words : List ℕ) (homes : List (mathlib.Core.Option.Option (Option Ledger))) (log : List Event) : Type 0 where
  pub was : At s.views id v
  pub unspent : v.spent ≡ false
  pub stays : (w.spent ≡ false) × (w.number ≡ v.number) × (w.seats ≡ v.seats) × (w.kept ≡ v.kept)
  pub run : Runs p log
  pub wide : length words ≡ 2
  pub told : slice_index words 1 ≡ length log
  pub grows : IsPrefix r.log log
  pub events : (n : ℕ) → n ≢ v.number → events_by n log ≡ events_by n r.log
  pub alone : w.turn ≡ true → (j : ℕ) (u : View) → j ≢ id → At s.views j u → u.turn ≡ false
  pub quiet : (j : ℕ) (u : View) → j ≢ id → At s.views j u → u.turn ≡ true → r.log ≡ log
  pub longest : (i : ℕ) × (u : View) × At (set s.views id w) i u × (u.spent ≡ false) × (u.front ≡ log)
  pub free : slice_index words 0 ≡ 0 → get_elem? homes 0 ≡ some (some (Some (with_events p log)))
  pub idle : slice_index words 0 ≡ 0 → (w.turn ≡ false) × ((j : ℕ) (u : View) → j ≢ id → At s.views j u → u.turn ≡ false)
  pub busy : slice_index words 0 ≢ 0 → w.turn ≡ true
  pub mine : Fits p log r.seats w

module _ (p : Ledger) (s : St) (r : Holds p s) (id : ℕ) (v w : View) (words : List ℕ) (homes : List (mathlib.Core.Option.Option (Option Ledger))) (log : List Event) (c : Change p s r id v w words homes log) where
  here : At (set s.views id w) id w
  here = set_here s.views id w (at_below s.views id v c.was)

  other_number : (j : ℕ) (u : View) → j ≢ id → At s.views j u → u.spent ≡ false → u.number ≢ v.number
  other_number j u ne at sp same = ne (r.apart j id u v at c.was sp c.unspent same)

  head_of : Dec (id ≡ 0) → (u : View) × At (set s.views id w) 0 u × (u.number ≡ 0) × (u.spent ≡ false) × (u.seats ≡ r.seats) × (u.kept ≡ r.kept)
  head_of (yes e) =
      let h = r.head in
      let same : v ≡ h.0 = same_at s.views 0 v h.0 (subst (λ (k : ℕ). At s.views k v) e c.was) h.1 in
      (w, subst (λ (k : ℕ). At (set s.views id w) k w) e here, c.stays.1 ∙ (ap (λ (x : View). x.number) same ∙ h.2), c.stays.0, c.stays.2 ∙ (ap (λ (x : View). x.seats) same ∙ h.4), c.stays.3 ∙ (ap (λ (x : View). x.kept) same ∙ h.5))
  head_of (no n) = let h = r.head in (h.0, set_else s.views id 0 w (λ e. n (sym e)) ∙ h.1, h.2, h.3, h.4, h.5)

  active : (n : ℕ) → Active n s.views → Active n (set s.views id w)
  active n a = dite (ℕ_discrete a.0 id)
      (λ e. (id, w, here, c.stays.0, c.stays.1 ∙ (ap (λ (x : View). x.number) (same_at s.views id v a.1 c.was (subst (λ (k : ℕ). At s.views k a.1) e a.2)) ∙ a.4)))
      (λ ne. (a.0, a.1, set_else s.views id a.0 w ne ∙ a.2, a.3, a.4))

  not_kept : (n : ℕ) → kept_of n r.kept ≡ Some (events_by n r.log) → n ≢ v.number
  not_kept n k same = absurd (let none : kept_of v.number r.kept ≡ None = r.away id v c.was c.unspent in let e = ap (λ (m : ℕ). kept_of m r.kept) same in cc)

  fits_other : (j : ℕ) (u : View) → j ≢ id → At s.views j u → u.spent ≡ false → Fits p log r.seats u
  fits_other j u ne at sp = let f = r.fits j u at sp in record {
    front = prefix_trans u.front r.log log f.front c.grows;
    made = c.events u.number (other_number j u ne at sp) ∙ f.made;
    seen = f.seen;
    begun = f.begun;
    known = λ t. f.known t ∙ c.quiet j u ne at t;
    below = f.below;
  }

  pub moved : Holds p record { words = words; homes = homes; views = set s.views id w }
  moved = record {
    log = log;
    seats = r.seats;
    kept = r.kept;
    opens = r.opens;
    run = c.run;
    head = head_of (ℕ_discrete id 0);
    wide = c.wide;
    told = c.told;
    longest = c.longest;
    free = c.free;
    idle = λ z. each (λ j u. u.turn ≡ false) s.views id w (c.idle z).0 (λ j u ne at. (c.idle z).1 j u ne at);
    busy = λ z. (id, w, here, c.busy z);
    one = λ i j u x atu atx.
        each (λ i u. u.turn ≡ true → x.turn ≡ true → i ≡ j) s.views id w
        (each (λ j x. w.turn ≡ true → x.turn ≡ true → id ≡ j) s.views id w (λ _ _. refl) (λ j x ne at t t'. absurd (true_false x.turn t' (c.alone t j x ne at))) j x atx)
        (λ i u ne at. each (λ j x. u.turn ≡ true → x.turn ≡ true → i ≡ j) s.views id w (λ t t'. absurd (true_false u.turn t (c.alone t' i u ne at))) (λ j x _ at'. r.one i j u x at at') j x atx)
        i u atu;
    spent = each (λ j u. u.spent ≡ true → u.turn ≡ false) s.views id w (λ sp. absurd (true_false w.spent sp c.stays.0)) (λ j u _ at. r.spent j u at);
    fits = each (λ j u. u.spent ≡ false → Fits p log r.seats u) s.views id w (λ _. c.mine) fits_other;
    apart = λ i j u x atu atx.
        each (λ i u. u.spent ≡ false → x.spent ≡ false → u.number ≡ x.number → i ≡ j) s.views id w
        (each (λ j x. w.spent ≡ false → x.spent ≡ false → w.number ≡ x.number → id ≡ j) s.views id w (λ _ _ _. refl) (λ j x ne at _ sp e. r.apart id j v x c.was at c.unspent sp (sym c.stays.1 ∙ e)) j x atx)
        (λ i u ne at. each (λ j x. u.spent ≡ false → x.spent ≡ false → u.number ≡ x.number → i ≡ j) s.views id w (λ sp _ e. r.apart i id u v at c.was sp c.unspent (e ∙ c.stays.1)) (λ j x _ at'. r.apart i j u x at at') j x atx)
        i u atu;
    joined = λ n l. ⊎_elim
        (λ (a : Active n s.views). inl (active n a))
        (λ (k : kept_of n r.kept ≡ Some (events_by n r.log)). inr (k ∙ ap (λ (es : List Event). Some es) (sym (c.events n (not_kept n k)))))
        (r.joined n l);
    away = each (λ j u. u.spent ≡ false → kept_of u.number r.kept ≡ None) s.views id w (λ _. ap (λ (m : ℕ). kept_of m r.kept) c.stays.1 ∙ r.away id v c.was c.unspent) (λ j u _ at. r.away j u at);
    beyond = λ n l. c.events n (λ e. let b = (r.fits id v c.was c.unspent).below in absurd (omega (arith, b, e))) ∙ r.beyond n l;
    fronts = begin_more r.kept r.log log c.grows r.fronts;
    unmade = r.unmade;
  }

longest_of : (p : Ledger) (s : St) (r : Holds p s) (id : ℕ) (v w : View) → At s.views id v → w.spent ≡ false → w.front ≡ v.front
    → (i : ℕ) × (u : View) × At (set s.views id w) i u × (u.spent ≡ false) × (u.front ≡ r.log)
longest_of p s r id v w at sp same = let m = r.longest in dite (ℕ_discrete m.0 id)
    (λ e. (id, w, set_here s.views id w (at_below s.views id v at), sp, same ∙ (ap (λ (x : View). x.front) (same_at s.views id v m.1 at (subst (λ (k : ℕ). At s.views k m.1) e m.2)) ∙ m.4)))
    (λ ne. (m.0, m.1, set_else s.views id m.0 w ne ∙ m.2, m.3, m.4))

-- the turn is taken, or nothing changes
module _ (p : Ledger) (id : ℕ) (v : View) (unspent : v.spent ≡ false) where
  abbrev Try : St → Bool → Type 0
  Try s b = (w : View) × (a : Act (Option Ledger)) × Valid s.homes [] a × Holds p (stepped s 0 (either b 1 (slice_index s.words 0)) id [] w a)
      × MatchBool b
      ((log : List Event) × (◌≡◌ {A = Mine} (w, carried_after [] a) (entered v log, (0, Some (with_events v.begun log)) ∷ [])) × Entered v log)
      (◌≡◌ {A = Mine} (w, carried_after [] a) (v, []))

  won : (s : St) (r : Holds p s) → At s.views id v → slice_index s.words 0 ≡ 0 → Try s true
  won s r at z =
      let f = r.fits id v at unspent in
      let l : List Event = r.log in
      let w : View = entered v l in
      let b : Ledger = with_events v.begun l in
      let few : 0 < length s.words = omega (arith, r.wide) in
      let taken : get_or (set s.words 0 1) 0 0 ≡ 1 = get_or-set_same s.words 0 1 0 few in
      let homes : List (mathlib.Core.Option.Option (Option Ledger)) = set s.homes 0 none in
      let change : Change p s r id v w (set s.words 0 1) homes l = record {
        was = at;
        unspent = unspent;
        stays = (unspent, refl, refl, refl);
        run = r.run;
        wide = length-set s.words 0 1 ∙ r.wide;
        told = get_or-set_other s.words 0 1 1 0 (λ e. absurd (omega arith)) ∙ r.told;
        grows = prefix_self l;
        events = λ n _. refl;
        alone = λ _ j u _ at'. r.idle z j u at';
        quiet = λ j u _ _ _. refl;
        longest = longest_of p s r id v w at unspent refl;
        free = λ z'. absurd (omega (arith, taken, z'));
        idle = λ z'. absurd (omega (arith, taken, z'));
        busy = λ _. refl;
        mine = record { front = f.front; made = f.made; seen = f.seen; begun = f.begun; known = λ _. refl; below = f.below };
      } in
      (w, takes 0 (Some b), r.free z ∙ ap (λ (q : Ledger). some (some (Some (with_events q l)))) (sym f.begun), moved p s r id v w (set s.words 0 1) homes l change, (l, refl, (subst (λ (q : Ledger). Runs q l) (sym f.begun) r.run, f.front, f.made, f.seen)))

  lost : (s : St) (r : Holds p s) → At s.views id v → Try s false
  lost s r at = (v, keeps, tt, subst (λ (t : List ℕ × List View). Holds p record { words = t.0; homes = s.homes; views = t.1 }) (λ i. (sym (set-get_or s.words 0 0) i, sym (set_again s.views id v at) i)) r, refl)

  tries : (s : St) (r : Holds p s) → At s.views id v → (b : Bool) → (slice_index s.words 0 == 0) ≡ b → Try s b
  tries s r at true is = let z : slice_index s.words 0 ≡ 0 = grind (arith, nat_tests) in won s r at z
  tries s r at false is = lost s r at

  pub enters : Allows (Holds p) 1 id (v, []) 0 (λ n. either (n == 0) 1 n) (Enters (step 1 0 0 1 none) (v, []))
  enters s r deep at small = tries s r at (slice_index s.words 0 == 0) refl

-- the event at the end of the journal in hand becomes known
module _ (p : Ledger) (id : ℕ) (v : View) (turn : v.turn ≡ true) (unspent : v.spent ≡ false) where
  none_else : (s : St) (r : Holds p s) → At s.views id v → (j : ℕ) (u : View) → j ≢ id → At s.views j u → u.turn ≡ false
  none_else s r at j u ne at' = not_true u.turn (λ t. ne (r.one j id u v at' at t turn))

  pub tells : (e : Event) (new : ℕ) (cs : List (ℕ × Option Ledger)) → seat_of e ≡ v.number → Runs v.begun (v.known ++ e ∷ []) → new ≡ length (v.known ++ e ∷ []) → journal_of cs ≡ v.known ++ e ∷ []
      → Allows (Holds p) 1 id (v, cs) 1 (λ _. new) (λ _. Tells (step 1 1 new 0 none) (v, cs) new)
  tells e new cs own run count is s r deep at small =
      let f = r.fits id v at unspent in
      let j : List Event = journal_of cs in
      let w : View = telling v j in
      let known : v.known ≡ r.log = f.known turn in
      let longer : j ≡ r.log ++ e ∷ [] = is ∙ ap (λ (l : List Event). l ++ e ∷ []) known in
      let last : drop (length v.known) j ≡ e ∷ [] = ap (drop (length v.known)) is ∙ drop-append_seam v.known (e ∷ []) in
      let words : List ℕ = set s.words 1 new in
      let turn_word : get_or words 0 0 ≡ get_or s.words 0 0 = get_or-set_other s.words 1 0 new 0 (λ e. absurd (omega arith)) in
      let few : 1 < length s.words = omega (arith, r.wide) in
      let mine : events_by v.number j ≡ v.events ++ drop (length v.known) j = ap (events_by v.number) longer ∙ (events_own v.number r.log e own ∙ (ap (λ (l : List Event). l ++ e ∷ []) f.made ∙ ap (λ (l : List Event). v.events ++ l) (sym last))) in
      let change : Change p s r id v w words s.homes j = record {
        was = at;
        unspent = unspent;
        stays = (unspent, refl, refl, refl);
        run = subst (λ (t : Ledger × List Event). Runs t.0 t.1) (λ i. (f.begun i, sym is i)) run;
        wide = length-set s.words 1 new ∙ r.wide;
        told = get_or-set_same s.words 1 new 0 few ∙ (count ∙ ap length (sym is));
        grows = (e ∷ [], sym longer);
        events = λ n ne. ap (events_by n) longer ∙ (events_other n r.log e (λ q. ne (sym q ∙ own)) ∙ append-nil (events_by n r.log));
        alone = λ _ k u ne at'. none_else s r at k u ne at';
        quiet = λ k u ne at' t. absurd (ne (r.one k id u v at' at t turn));
        longest = (id, w, set_here s.views id w (at_below s.views id v at), unspent, refl);
        free = λ z. absurd (true_false v.turn turn (r.idle (sym turn_word ∙ z) id v at));
        idle = λ z. absurd (true_false v.turn turn (r.idle (sym turn_word ∙ z) id v at));
        busy = λ _. turn;
        mine = record { front = prefix_self j; made = mine; seen = mine; begun = f.begun; known = λ _. refl; below = f.below };
      } in
      (w, keeps, tt, moved p s r id v w words s.homes j change, refl)

  pub leaves : Allows (Holds p) 1 id (v, (0, Some (with_events v.begun v.known)) ∷ []) 0 (λ _. 0) (λ _. Leaves (step 1 0 0 0 none) (v, (0, Some (with_events v.begun v.known)) ∷ []) 0)
  leaves s r deep at small =
      let f = r.fits id v at unspent in
      let w : View = resting v in
      let known : v.known ≡ r.log = f.known turn in
      let words : List ℕ = set s.words 0 0 in
      let book : Option Ledger = Some (with_events v.begun v.known) in
      let homes : List (mathlib.Core.Option.Option (Option Ledger)) = set s.homes 0 (some book) in
      let few : 0 < length s.words = omega (arith, r.wide) in
      let freed : get_or words 0 0 ≡ 0 = get_or-set_same s.words 0 0 0 few in
      let deep' : 0 < length s.homes = omega (arith, deep) in
      let same : book ≡ Some (with_events p r.log) = λ i. Some (with_events (f.begun i) (known i)) in
      let change : Change p s r id v w words homes r.log = record {
        was = at;
        unspent = unspent;
        stays = (unspent, refl, refl, refl);
        run = r.run;
        wide = length-set s.words 0 0 ∙ r.wide;
        told = get_or-set_other s.words 0 1 0 0 (λ e. absurd (omega arith)) ∙ r.told;
        grows = prefix_self r.log;
        events = λ n _. refl;
        alone = λ _ k u ne at'. none_else s r at k u ne at';
        quiet = λ k u _ _ _. refl;
        longest = longest_of p s r id v w at unspent refl;
        free = λ _. set_here s.homes 0 (some book) deep' ∙ ap (λ (b : Option Ledger). some (some b)) same;
        idle = λ _. (refl, none_else s r at);
        busy = λ n. absurd (n freed);
        mine = record { front = f.front; made = f.made; seen = f.seen; begun = f.begun; known = λ t. absurd (true_false false t refl); below = f.below };
      } in
      (w, gives, tt, moved p s r id v w words homes r.log change, refl)

-- the same at what a seat is known to be
pub enters_as : (p : Ledger) (id slots : ℕ) (m : Mine) → slots ≡ 1 → m.1 ≡ [] → m.0.spent ≡ false → Allows (Holds p) slots id m 0 (λ n. either (n == 0) 1 n) (Enters (step slots 0 0 1 none) m)
enters_as p id slots m one empty unspent =
    subst (λ (t : ℕ × List (ℕ × Option Ledger)). Allows (Holds p) t.0 id (m.0, t.1) 0 (λ n. either (n == 0) 1 n) (Enters (step t.0 0 0 1 none) (m.0, t.1))) (λ i. (sym one i, sym empty i)) (enters p id m.0 unspent)

pub entered_at : (st : Step (Option Ledger)) (m : Mine) (n : ℕ) (m' : Mine) → Enters st m n m' → n ≡ 0 → (log : List Event) × (m' ≡ (entered m.0 log, (0, Some (with_events m.0.begun log)) ∷ m.1)) × Entered m.0 log
entered_at st m n m' h z = subst (λ (k : ℕ). Enters st m k m') z h

pub tells_as : (p : Ledger) (id slots new : ℕ) (m : Mine) (e : Event) → slots ≡ 1 → m.0.turn ≡ true → m.0.spent ≡ false → seat_of e ≡ m.0.number → Runs m.0.begun (m.0.known ++ e ∷ []) → new ≡ length (m.0.known ++ e ∷ []) → journal_of m.1 ≡ m.0.known ++ e ∷ []
    → Allows (Holds p) slots id m 1 (λ _. new) (λ _. Tells (step slots 1 new 0 none) m new)
tells_as p id slots new m e one turn unspent own run count is =
    subst (λ (k : ℕ). Allows (Holds p) k id m 1 (λ _. new) (λ _. Tells (step k 1 new 0 none) m new)) (sym one) (tells p id m.0 turn unspent e new m.1 own run count is)

pub leaves_as : (p : Ledger) (id slots : ℕ) (m : Mine) → slots ≡ 1 → m.0.turn ≡ true → m.0.spent ≡ false → m.1 ≡ (0, Some (with_events m.0.begun m.0.known)) ∷ []
    → Allows (Holds p) slots id m 0 (λ _. 0) (λ _. Leaves (step slots 0 0 0 none) m 0)
leaves_as p id slots m one turn unspent is =
    subst (λ (t : ℕ × List (ℕ × Option Ledger)). Allows (Holds p) t.0 id (m.0, t.1) 0 (λ _. 0) (λ _. Leaves (step t.0 0 0 0 none) (m.0, t.1) 0)) (λ i. (sym one i, sym is i)) (leaves p id m.0 turn unspent)

-- what an exchange of the slot in hand needs, and finds
pub in_hand : (cs : List (ℕ × Option Ledger)) (x : Option Ledger) → cs ≡ (0, x) ∷ [] → cs ≡ (0, x) ∷ rest cs
in_hand cs x is = is ∙ ap (λ (l : List (ℕ × Option Ledger)). (0, x) ∷ rest l) (sym is)

abbrev in_front : List (ℕ × Option Ledger) → Option Ledger
in_front [] = None
in_front (x ∷ xs) = x.1

pub put_in : (m old : Mine) (b : Ledger) → m ≡ (old.0, (0, Some b) ∷ rest old.1) → old.1 ≡ (0, None) ∷ [] → m ≡ (old.0, (0, Some b) ∷ [])
put_in m old b now was = now ∙ ap (λ (l : List (ℕ × Option Ledger)). let x : Mine = (old.0, (0, Some b) ∷ rest l) in x) was

pub leaves_at : (p : Ledger) (id slots : ℕ) (m : Mine) (v : View) (b : Ledger) → m ≡ (v, (0, Some b) ∷ []) → slots ≡ 1 → v.turn ≡ true → v.spent ≡ false → b ≡ with_events v.begun v.known
    → Allows (Holds p) slots id m 0 (λ _. 0) (λ _. Leaves (step slots 0 0 0 none) m 0)
leaves_at p id slots m v b is one turn unspent book =
    subst (λ (x : Mine). Allows (Holds p) slots id x 0 (λ _. 0) (λ _. Leaves (step slots 0 0 0 none) x 0)) (sym is)
    (leaves_as p id slots (v, (0, Some b) ∷ []) one turn unspent (ap (λ (x : Ledger). (0, Some x) ∷ []) book))

pub tells_at : (p : Ledger) (id slots new : ℕ) (m : Mine) (v : View) (b : Ledger) (e : Event) → m ≡ (v, (0, Some b) ∷ []) → slots ≡ 1 → v.turn ≡ true → v.spent ≡ false → seat_of e ≡ v.number → Runs v.begun b.journal → b.journal ≡ v.known ++ e ∷ [] → new ≡ length b.journal
    → Allows (Holds p) slots id m 1 (λ _. new) (λ _. Tells (step slots 1 new 0 none) m new)
tells_at p id slots new m v b e is one turn unspent own run book count =
    subst (λ (x : Mine). Allows (Holds p) slots id x 1 (λ _. new) (λ _. Tells (step slots 1 new 0 none) x new)) (sym is)
    (tells_as p id slots new (v, (0, Some b) ∷ []) e one turn unspent own (subst (Runs v.begun) book run) (count ∙ ap length book) book)

-- the seat after it told of the event
pub told : (m' m : Mine) (v : View) (b : Ledger) → m' ≡ (telling m.0 (journal_of m.1), m.1) → m ≡ (v, (0, Some b) ∷ []) → m' ≡ (telling v b.journal, (0, Some b) ∷ [])
told m' m v b now is = now ∙ ap (λ (x : Mine). let y : Mine = (telling x.0 (journal_of x.1), x.1) in y) is
