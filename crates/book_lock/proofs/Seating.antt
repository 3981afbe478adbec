-- The table at the start and at the end, and seats that are split and joined.
use Rattle.std.proofs.Common.{◌≡◌, ◌≢◌, ◌⊎◌, ℕ, zero, suc, ◌+◌, ◌<◌, ◌≤◌, ◌==◌, eq-eqb, ne_eqb, Bool, true, false, cond, List, [], ◌∷◌, ◌++◌, length, drop, set, Option, Some, None, refl, sym, ap, ◌∙◌, subst, inl, inr, ⊎_elim, arith}
use Rattle.std.specs.Prelude.{slice_index, IsSome}
use Rattle.std.proofs.lemmas.List.{append-nil, set-get_or}
use Rattle.std.proofs.lemmas.Bool.{cases_lt}
use Rattle.std.proofs.Math.ListN.{drop_of_length-le}
use Rattle.std.proofs.Math.Seq.{drop-append_seam}
use prog.Atomic.{either}
use Rattle.std.proofs.lemmas.Bool.Decides.{nat_tests}
use mathlib.Core.Option.{some, none, some-injective, some-ne-none}
use mathlib.Core.List.{IsPrefix}
use mathlib.Core.Logic.{dite}
use native.Mathlib.Decide.{ℕ_discrete}
use lib.ListN.{get_elem?}
use Rattle.atomic_table.specs.Table.{step, keeps, Allows, Splits, Joins, opening}
use Rattle.atomic_table.proofs.Lists.{at_set, set_again, set_here, set_else, at_longer, at_last}
use Rattle.book_core.specs.declared.event.Event.{Event}
use Rattle.book_lock.specs.declared.view.View.{View}
use Rattle.book_lock.specs.declared.view.Kept.{Kept}
use Rattle.book_core.specs.Runs.{Ledger}
use Rattle.book_lock.specs.Begun.{Opens, Runs, with_events}
use Rattle.book_lock.specs.SeatEvents.{events_by}
use Rattle.book_lock.specs.Rules.{St, Mine, At, Active, kept_of, AllBegin, Fits, Seen, Sees, Holds, opener}
use Rattle.book_lock.specs.Seats.{counted, newcomer, longer, merged, OneBegins, nobody, AllJoined, AllKnown}
use Rattle.book_lock.proofs.Fronts.{prefix_trans, prefix_self, prefix_shorter, prefix_whole, prefix_length}
use Rattle.book_lock.proofs.Journals.{events_none, events_between}
use Rattle.book_lock.proofs.Steps.{at_below, same_at, each, true_false}

-- the table at the start
pub starts : (p : Ledger) → Opens p → Holds p (opening (0 ∷ 0 ∷ []) (Some (with_events p []) ∷ []) (opener p))
starts p opens = record {
  log = [];
  seats = 1;
  kept = [];
  opens = opens;
  run = tt;
  head = (opener p, refl, refl, refl, refl, refl);
  wide = refl;
  told = refl;
  longest = (0, opener p, refl, refl, refl);
  free = λ _. refl;
  idle = λ _. only (λ v. v.turn ≡ false) refl;
  busy = λ n. absurd (n refl);
  one = λ i j u v a b t _. absurd (true_false u.turn t (only (λ v. v.turn ≡ false) refl i u a));
  spent = only (λ v. v.spent ≡ true → v.turn ≡ false) (λ _. refl);
  fits = only (λ v. v.spent ≡ false → Fits p [] 1 v) (λ _. record { front = prefix_self []; made = refl; seen = refl; begun = refl; known = λ t. absurd (true_false false t refl); below = omega arith });
  apart = λ i j u v a b _ _ _. at_zero i u a ∙ sym (at_zero j v b);
  joined = λ n l. inl (0, opener p, refl, refl, omega arith);
  away = only (λ v. v.spent ≡ false → kept_of v.number [] ≡ None) (λ _. refl);
  beyond = λ n _. refl;
  fronts = tt;
  unmade = λ n _. refl;
}
  where
    at_zero : (i : ℕ) (v : View) → At (opener p ∷ []) i v → i ≡ 0
    at_zero zero v e = refl
    at_zero (suc i) v e = absurd (some-ne-none v (sym e))

    only : (P : View → Type 0) → P (opener p) → (i : ℕ) (v : View) → At (opener p ∷ []) i v → P v
    only P here zero v e = subst P (some-injective (opener p) v e) here
    only P here (suc i) v e = absurd (some-ne-none v (sym e))

at_end : {A : Type 0} (l : List A) (a b : A) (j : ℕ) → get_elem? (l ++ a ∷ []) j ≡ some b → (get_elem? l j ≡ some b) ⊎ ((j ≡ length l) × (a ≡ b))
at_end [] a b zero e = inr (refl, some-injective a b e)
at_end [] a b (suc j) e = absurd (some-ne-none b (sym e))
at_end (x ∷ xs) a b zero e = inl e
at_end (x ∷ xs) a b (suc j) e = ⊎_elim (λ t. inl t) (λ t. inr (ap suc t.0, t.1)) (at_end xs a b j e)

-- what holds of the changed view, of the new one and of all others holds of each
each_end : (P : ℕ → View → Type 0) (views : List View) (id : ℕ) (w x : View) → P id w → ((n : ℕ) → n ≡ length (set views id w) → P n x) → ((j : ℕ) (u : View) → j ≢ id → At views j u → P j u)
    → (j : ℕ) (u : View) → At (set views id w ++ x ∷ []) j u → P j u
each_end P views id w x mine new others j u e =
    ⊎_elim
    (λ (a : get_elem? (set views id w) j ≡ some u). each P views id w mine others j u a)
    (λ (t : (j ≡ length (set views id w)) × (x ≡ u)). subst (P j) t.1 (new j t.0))
    (at_end (set views id w) x u j e)

-- seat 0 makes a seat
module _ (p : Ledger) (id : ℕ) (v : View) (first : v.number ≡ 0) (unspent : v.spent ≡ false) (s : St) (r : Holds p s) (at : At s.views id v) where
  pub is_head : (id ≡ 0) × (v ≡ r.head.0)
  is_head = let h = r.head in let e : id ≡ 0 = r.apart id 0 v h.0 at h.1 unspent h.3 (first ∙ sym h.2) in
      (e, same_at s.views 0 v h.0 (subst (λ (k : ℕ). At s.views k v) e at) h.1)

  made : v.seats ≡ r.seats
  made = ap (λ (x : View). x.seats) is_head.1 ∙ r.head.4

-- a change that leaves other seats: the number of the views
module _ (p : Ledger) (id : ℕ) (v : View) (first : v.number ≡ 0) (unspent : v.spent ≡ false) (rests : v.turn ≡ false) where
  abbrev parted : St → St
  parted s = record { words = s.words; homes = s.homes; views = set s.views id (counted v) ++ newcomer v ∷ [] }

  pub splits : Splits (Holds p) id v (counted v) (newcomer v)
  splits s r at =
      let w : View = counted v in
      let x : View = newcomer v in
      let vs : List View = set s.views id w in
      let h = is_head p id v first unspent s r at in
      let seats : v.seats ≡ r.seats = ap (λ (y : View). y.seats) h.1 ∙ r.head.4 in
      let f = r.fits id v at unspent in
      let here : At vs id w = set_here s.views id w (at_below s.views id v at) in
      let still : (j : ℕ) (u : View) → j ≢ id → At s.views j u → At (vs ++ x ∷ []) j u = λ j u ne a. at_longer vs (x ∷ []) j u (set_else s.views id j w ne ∙ a) in
      let mine : At (vs ++ x ∷ []) id w = at_longer vs (x ∷ []) id w here in
      let last : At (vs ++ x ∷ []) (length vs) x = at_last vs x (length vs) refl in
      let lower : (j : ℕ) (u : View) → At s.views j u → u.spent ≡ false → u.number < v.seats = λ j u a sp. let b = (r.fits j u a sp).below in omega (arith, b, seats) in
      record {
        log = r.log;
        seats = r.seats + 1;
        kept = r.kept;
        opens = r.opens;
        run = r.run;
        head = (w, subst (λ (k : ℕ). At (vs ++ x ∷ []) k w) h.0 mine, first, unspent, ap (λ (k : ℕ). k + 1) seats, ap (λ (y : View). y.kept) h.1 ∙ r.head.5);
        wide = r.wide;
        told = r.told;
        longest = dite (ℕ_discrete r.longest.0 id)
            (λ e. (id, w, mine, unspent, ap (λ (y : View). y.front) (same_at s.views id v r.longest.1 at (subst (λ (k : ℕ). At s.views k r.longest.1) e r.longest.2)) ∙ r.longest.4))
            (λ ne. (r.longest.0, r.longest.1, still r.longest.0 r.longest.1 ne r.longest.2, r.longest.3, r.longest.4));
        free = r.free;
        idle = λ z. each_end (λ j u. u.turn ≡ false) s.views id w x rests (λ _ _. refl) (λ j u _ a. r.idle z j u a);
        busy = λ z. let b = r.busy z in (b.0, b.1, still b.0 b.1 (λ e. true_false b.1.turn b.3 (subst (λ (y : View). y.turn ≡ false) (same_at s.views id v b.1 at (subst (λ (k : ℕ). At s.views k b.1) e b.2)) rests)) b.2, b.3);
        one = λ i j u y a b.
            each_end (λ i u. u.turn ≡ true → y.turn ≡ true → i ≡ j) s.views id w x (λ t. absurd (true_false v.turn t rests)) (λ _ _ t. absurd (true_false false t refl))
            (λ i u ne a'. each_end (λ j y. u.turn ≡ true → y.turn ≡ true → i ≡ j) s.views id w x (λ _ t. absurd (true_false v.turn t rests)) (λ _ _ _ t. absurd (true_false false t refl)) (λ j y _ b'. r.one i j u y a' b') j y b)
            i u a;
        spent = each_end (λ j u. u.spent ≡ true → u.turn ≡ false) s.views id w x (λ _. rests) (λ _ _ _. refl) (λ j u _ a. r.spent j u a);
        fits = each_end (λ j u. u.spent ≡ false → Fits p r.log (r.seats + 1) u) s.views id w x
            (λ _. record { front = f.front; made = f.made; seen = f.seen; begun = f.begun; known = f.known; below = let b = f.below in omega (arith, b) })
            (λ _ _ _. let none : events_by v.seats r.log ≡ [] = r.beyond v.seats (omega (arith, seats)) in record { front = f.front; made = none; seen = events_none v.seats v.front r.log f.front none; begun = f.begun; known = λ t. absurd (true_false false t refl); below = omega (arith, seats) })
            (λ j u _ a sp. let g = r.fits j u a sp in record { front = g.front; made = g.made; seen = g.seen; begun = g.begun; known = g.known; below = let b = g.below in omega (arith, b) });
        apart = λ i j u y a b.
            each_end (λ i u. u.spent ≡ false → y.spent ≡ false → u.number ≡ y.number → i ≡ j) s.views id w x
            (each_end (λ j y. v.spent ≡ false → y.spent ≡ false → v.number ≡ y.number → id ≡ j) s.views id w x (λ _ _ _. refl)
            (λ _ _ sp _ e. let l = lower id v at sp in absurd (omega (arith, l, e)))
            (λ j y _ b' sp sq e. r.apart id j v y at b' sp sq e) j y b)
            (λ i is. each_end (λ j y. false ≡ false → y.spent ≡ false → v.seats ≡ y.number → i ≡ j) s.views id w x
            (λ _ sq e. let l = lower id v at sq in absurd (omega (arith, l, e)))
            (λ j js _ _ _. is ∙ sym js)
            (λ j y _ b' _ sq e. let l = lower j y b' sq in absurd (omega (arith, l, e))) j y b)
            (λ i u ne a'. each_end (λ j y. u.spent ≡ false → y.spent ≡ false → u.number ≡ y.number → i ≡ j) s.views id w x
            (λ sp sq e. r.apart i id u v a' at sp sq e)
            (λ _ _ sp _ e. let l = lower i u a' sp in absurd (omega (arith, l, e)))
            (λ j y _ b'. r.apart i j u y a' b') j y b)
            i u a;
        joined = λ n l. dite (ℕ_discrete n v.seats)
            (λ e. inl (length vs, x, last, refl, sym e))
            (λ ne. ⊎_elim
            (λ (t : Active n s.views). inl (dite (ℕ_discrete t.0 id)
            (λ e. (id, w, mine, unspent, ap (λ (y : View). y.number) (same_at s.views id v t.1 at (subst (λ (k : ℕ). At s.views k t.1) e t.2)) ∙ t.4))
            (λ ne'. (t.0, t.1, still t.0 t.1 ne' t.2, t.3, t.4))))
            (λ (k : kept_of n r.kept ≡ Some (events_by n r.log)). inr k)
            (r.joined n (omega (arith, seats, l))));
        away = each_end (λ j u. u.spent ≡ false → kept_of u.number r.kept ≡ None) s.views id w x (λ _. r.away id v at unspent) (λ _ _ _. r.unmade v.seats (omega (arith, seats))) (λ j u _ a. r.away j u a);
        beyond = λ n l. r.beyond n (omega arith);
        fronts = r.fronts;
        unmade = λ n l. r.unmade n (omega arith);
      }

longer_front : (xs ys zs : List Event) → IsPrefix xs zs → IsPrefix ys zs → IsPrefix (longer xs ys) zs × IsPrefix xs (longer xs ys) × IsPrefix ys (longer xs ys)
longer_front [] ys zs p q = (q, (ys, refl), prefix_self ys)
longer_front (x ∷ xs) [] zs p q = (subst (λ (l : List Event). IsPrefix (x ∷ l) zs) (sym (append-nil xs)) p, ([], refl), (x ∷ xs ++ [], refl))
longer_front (x ∷ xs) (y ∷ ys) [] p q = absurd (cc (p.1))
longer_front (x ∷ xs) (y ∷ ys) (z ∷ zs) p q =
    let xz : x ≡ z = cc (p.1) in
    let yz : y ≡ z = cc (q.1) in
    let t = longer_front xs ys zs (p.0, cc (p.1)) (q.0, cc (q.1)) in
    ((t.0.0, λ i. xz i ∷ t.0.1 i), (t.1.0, ap (λ (l : List Event). x ∷ l) t.1.1), (t.2.0, λ i. (yz ∙ sym xz) i ∷ t.2.1 i))

-- of two fronts of which one is the whole journal the longer is that
longer_whole : (xs ys zs : List Event) → IsPrefix xs zs → IsPrefix ys zs → (xs ≡ zs) ⊎ (ys ≡ zs) → longer xs ys ≡ zs
longer_whole xs ys zs p q one =
    let t = longer_front xs ys zs p q in
    let a = prefix_length xs (longer xs ys) t.1 in
    let b = prefix_length ys (longer xs ys) t.2 in
    let c : length zs ≤ length (longer xs ys) = ⊎_elim (λ (e : xs ≡ zs). let l = ap length e in omega (arith, a, l)) (λ (e : ys ≡ zs). let l = ap length e in omega (arith, b, l)) one in
    prefix_whole (longer xs ys) zs t.0 c

-- seat 0 takes in another seat
module _ (p : Ledger) (id : ℕ) (v : View) (first : v.number ≡ 0) (unspent : v.spent ≡ false) (rests : v.turn ≡ false) (other : ℕ) (w : View) (unspent' : w.spent ≡ false) (rests' : w.turn ≡ false) where
  pub joins : Joins (Holds p) id v other w (merged v w) nobody
  joins s r at apart_ there =
      let b : View = merged v w in
      let vs : List View = set s.views id b in
      let ne : other ≢ id = λ e. apart_ e in
      let was : At s.views other w = ⊎_elim (λ (t : (other ≡ id) × (b ≡ w)). absurd (ne t.0)) (λ (t : (other ≢ id) × (get_elem? s.views other ≡ some w)). t.1) (at_set s.views id other b w there) in
      let h = is_head p id v first unspent s r at in
      let seats : v.seats ≡ r.seats = ap (λ (y : View). y.seats) h.1 ∙ r.head.4 in
      let kept : v.kept ≡ r.kept = ap (λ (y : View). y.kept) h.1 ∙ r.head.5 in
      let f = r.fits id v at unspent in
      let g = r.fits other w was unspent' in
      let t = longer_front v.front w.front r.log f.front g.front in
      let more : List Kept = record { number = w.number; front = w.front; events = w.events } ∷ r.kept in
      let mine : At (set vs other nobody) id b = set_else vs other id nobody (λ e. ne (sym e)) ∙ set_here s.views id b (at_below s.views id v at) in
      let still : (j : ℕ) (u : View) → j ≢ id → j ≢ other → At s.views j u → At (set vs other nobody) j u = λ j u n m a. set_else vs other j nobody m ∙ (set_else s.views id j b n ∙ a) in
      let all : (P : ℕ → View → Type 0) → P id b → P other nobody → ((j : ℕ) (u : View) → j ≢ id → j ≢ other → At s.views j u → P j u) → (j : ℕ) (u : View) → At (set vs other nobody) j u → P j u =
      λ P i o k. each P vs other nobody o (λ j u m a. ⊎_elim
      (λ (q : (j ≡ id) × (b ≡ u)). subst (λ (y : ℕ × View). P y.0 y.1) (λ i'. (sym q.0 i', q.1 i')) i)
      (λ (q : (j ≢ id) × (get_elem? s.views j ≡ some u)). k j u q.0 m q.1)
      (at_set s.views id j b u a)) in
      let kept_else : (n : ℕ) → n ≢ w.number → kept_of n more ≡ kept_of n r.kept = λ n m. ap (λ (c : Bool). cond c (Some w.events) (kept_of n r.kept)) (ne_eqb w.number n (λ e. m (sym e))) in
      let kept_here : (n : ℕ) → n ≡ w.number → kept_of n more ≡ Some w.events = λ n m. ap (λ (c : Bool). cond c (Some w.events) (kept_of n r.kept)) (eq-eqb w.number n (sym m)) in
      let quiet : (j : ℕ) (u : View) → At s.views j u → u.turn ≡ true → (j ≢ id) × (j ≢ other) = λ j u a on. (
        (λ e. true_false u.turn on (subst (λ (y : View). y.turn ≡ false) (same_at s.views id v u at (subst (λ (k : ℕ). At s.views k u) e a)) rests)),
        (λ e. true_false u.turn on (subst (λ (y : View). y.turn ≡ false) (same_at s.views other w u was (subst (λ (k : ℕ). At s.views k u) e a)) rests')),
      ) in
      record {
        log = r.log;
        seats = r.seats;
        kept = more;
        opens = r.opens;
        run = r.run;
        head = (b, subst (λ (k : ℕ). At (set vs other nobody) k b) h.0 mine, first, unspent, seats, ap (λ (l : List Kept). let k : Kept = record { number = w.number; front = w.front; events = w.events } in k ∷ l) kept);
        wide = r.wide;
        told = r.told;
        longest = dite (ℕ_discrete r.longest.0 id)
            (λ e. (id, b, mine, unspent, longer_whole v.front w.front r.log f.front g.front (inl (ap (λ (y : View). y.front) (same_at s.views id v r.longest.1 at (subst (λ (k : ℕ). At s.views k r.longest.1) e r.longest.2)) ∙ r.longest.4))))
            (λ n. dite (ℕ_discrete r.longest.0 other)
            (λ e. (id, b, mine, unspent, longer_whole v.front w.front r.log f.front g.front (inr (ap (λ (y : View). y.front) (same_at s.views other w r.longest.1 was (subst (λ (k : ℕ). At s.views k r.longest.1) e r.longest.2)) ∙ r.longest.4))))
            (λ m. (r.longest.0, r.longest.1, still r.longest.0 r.longest.1 n m r.longest.2, r.longest.3, r.longest.4)));
        free = r.free;
        idle = λ z. all (λ j u. u.turn ≡ false) rests refl (λ j u _ _ a. r.idle z j u a);
        busy = λ z. let k = r.busy z in let q = quiet k.0 k.1 k.2 k.3 in (k.0, k.1, still k.0 k.1 q.0 q.1 k.2, k.3);
        one = λ i j u y a c.
            all (λ i u. u.turn ≡ true → y.turn ≡ true → i ≡ j) (λ on. absurd (true_false v.turn on rests)) (λ on. absurd (true_false false on refl))
            (λ i u _ _ a'. all (λ j y. u.turn ≡ true → y.turn ≡ true → i ≡ j) (λ _ on. absurd (true_false v.turn on rests)) (λ _ on. absurd (true_false false on refl)) (λ j y _ _ c'. r.one i j u y a' c') j y c)
            i u a;
        spent = all (λ j u. u.spent ≡ true → u.turn ≡ false) (λ _. rests) (λ _. refl) (λ j u _ _ a. r.spent j u a);
        fits = all (λ j u. u.spent ≡ false → Fits p r.log r.seats u)
            (λ _. record { front = t.0; made = f.made; seen = events_between v.number v.front (longer v.front w.front) r.log t.1 t.0 (f.seen ∙ sym f.made) ∙ f.seen; begun = f.begun; known = f.known; below = f.below })
            (λ sp. absurd (true_false true refl sp))
            (λ j u _ _ a. r.fits j u a);
        apart = λ i j u y a c.
            all (λ i u. u.spent ≡ false → y.spent ≡ false → u.number ≡ y.number → i ≡ j)
            (all (λ j y. v.spent ≡ false → y.spent ≡ false → v.number ≡ y.number → id ≡ j) (λ _ _ _. refl) (λ _ sp. absurd (true_false true refl sp)) (λ j y _ _ c' sp sq e. r.apart id j v y at c' sp sq e) j y c)
            (λ sp. absurd (true_false true refl sp))
            (λ i u _ _ a'. all (λ j y. u.spent ≡ false → y.spent ≡ false → u.number ≡ y.number → i ≡ j) (λ sp sq e. r.apart i id u v a' at sp sq e) (λ _ sp. absurd (true_false true refl sp)) (λ j y _ _ c'. r.apart i j u y a' c') j y c)
            i u a;
        joined = λ n l. ⊎_elim
            (λ (k : Active n s.views). dite (ℕ_discrete k.0 other)
            (λ e. let same : w ≡ k.1 = same_at s.views other w k.1 was (subst (λ (m : ℕ). At s.views m k.1) e k.2) in
            let num : n ≡ w.number = sym k.4 ∙ sym (ap (λ (y : View). y.number) same) in
            inr (kept_here n num ∙ ap (λ (es : List Event). Some es) (sym g.made ∙ ap (λ (m : ℕ). events_by m r.log) (sym num))))
            (λ m. inl (dite (ℕ_discrete k.0 id)
            (λ e. (id, b, mine, unspent, ap (λ (y : View). y.number) (same_at s.views id v k.1 at (subst (λ (q : ℕ). At s.views q k.1) e k.2)) ∙ k.4))
            (λ q. (k.0, k.1, still k.0 k.1 q m k.2, k.3, k.4)))))
            (λ (k : kept_of n r.kept ≡ Some (events_by n r.log)). inr (kept_else n (λ e. let none : kept_of w.number r.kept ≡ None = r.away other w was unspent' in let q = ap (λ (m : ℕ). kept_of m r.kept) e in absurd cc) ∙ k))
            (r.joined n l);
        away = all (λ j u. u.spent ≡ false → kept_of u.number more ≡ None)
            (λ sp. kept_else v.number (λ e. ne (r.apart other id w v was at unspent' unspent (sym e))) ∙ r.away id v at unspent)
            (λ sp. absurd (true_false true refl sp))
            (λ j u _ m a sp. kept_else u.number (λ e. m (r.apart j other u w a was sp unspent' e)) ∙ r.away j u a sp);
        beyond = r.beyond;
        fronts = (g.front, r.fronts);
        unmade = λ n l. kept_else n (λ e. let k = g.below in absurd (omega (arith, k, e, l))) ∙ r.unmade n l;
      }

-- a step that changes nothing, and tells what the rule says of fronts
module _ (p : Ledger) (id : ℕ) (v : View) (unspent : v.spent ≡ false) where
  abbrev stays : ℕ → ℕ
  stays n = either (n == 2) 2 n

  same_word : (n : ℕ) (b : Bool) → (n == 2) ≡ b → either b 2 n ≡ n
  same_word n true e = let q : n ≡ 2 = grind (arith, nat_tests) in sym q
  same_word n false e = refl

  sees_kept : (s : St) (r : Holds p s) → At s.views id v → v.number ≡ 0 → AllBegin v.kept r.log
  sees_kept s r at first = let h = is_head p id v first unspent s r at in subst (λ (ks : List Kept). AllBegin ks r.log) (sym (ap (λ (y : View). y.kept) h.1 ∙ r.head.5)) r.fronts

  pub sees : Allows (Holds p) 1 id (v, []) 0 (λ n. either (n == 2) 2 n) (Sees (step 1 0 2 2 none) (v, []))
  sees s r deep at small =
      let w : ℕ = slice_index s.words 0 in
      let same : either (w == 2) 2 w ≡ w = same_word w (w == 2) refl in
      let words : set s.words 0 (either (w == 2) 2 w) ≡ s.words = ap (set s.words 0) same ∙ set-get_or s.words 0 0 in
      (v, keeps, tt, subst (λ (t : List ℕ × List View). Holds p record { words = t.0; homes = s.homes; views = t.1 }) (λ i. (sym words i, sym (set_again s.views id v at) i)) r, (refl, (r.log, ((r.fits id v at unspent).front, sees_kept s r at, subst (λ (q : Ledger). Runs q r.log) (sym (r.fits id v at unspent).begun) r.run))))

pub sees_as : (p : Ledger) (id slots : ℕ) (m : Mine) → slots ≡ 1 → m.1 ≡ [] → m.0.spent ≡ false → Allows (Holds p) slots id m 0 (λ n. either (n == 2) 2 n) (Sees (step slots 0 2 2 none) m)
sees_as p id slots m one empty unspent =
    subst (λ (t : ℕ × List (ℕ × Option Ledger)). Allows (Holds p) t.0 id (m.0, t.1) 0 (λ n. either (n == 2) 2 n) (Sees (step t.0 0 2 2 none) (m.0, t.1))) (λ i. (sym one i, sym empty i)) (sees p id m.0 unspent)

-- of two fronts that begin one journal one begins the other, and the longer one is kept
pub one_begins : (xs ys zs log : List Event) → zs ≡ longer xs ys → IsPrefix zs log → IsPrefix ys log → OneBegins xs ys zs
one_begins xs ys zs log is whole other =
    let x : IsPrefix xs log = prefix_trans xs (longer xs ys) log (drop (length xs) ys, refl) (subst (λ (l : List Event). IsPrefix l log) is whole) in
    let t = longer_front xs ys log x other in
    ⊎_elim
    (λ (l : length xs < length ys). let a : drop (length xs) ys ≡ drop (length xs) ys = refl in
    let p : IsPrefix xs ys = prefix_shorter xs ys log x other (omega (arith, l)) in
    inl (p, is ∙ prefix_whole_of xs ys log p t other))
    (λ (l : length ys ≤ length xs). inr (prefix_shorter ys xs log other x l, is ∙ (ap (λ (es : List Event). xs ++ es) (drop_of_length-le ys l) ∙ append-nil xs)))
    (cases_lt (length xs) (length ys))
  where
    prefix_whole_of : (xs ys log : List Event) → IsPrefix xs ys → IsPrefix (longer xs ys) log × IsPrefix xs (longer xs ys) × IsPrefix ys (longer xs ys) → IsPrefix ys log → longer xs ys ≡ ys
    prefix_whole_of xs ys log p t other = ap (λ (es : List Event). xs ++ drop (length xs) es) (sym p.1) ∙ (ap (λ (es : List Event). xs ++ es) (drop-append_seam xs p.0) ∙ p.1)

pub join_fronts : (v w x y : View) (m1 m2 : Mine) → m2 ≡ m1 → m1 ≡ (merged v w, []) → v ≡ x → w ≡ y → v.number ≡ 0 → ((log : List Event) × Seen m1.0 log) → OneBegins x.front y.front m2.0.front
join_fronts v w x y m1 m2 same is ev ew first seen =
    let h : (log : List Event) × Seen (merged v w) log = subst (λ (m : Mine). (log : List Event) × Seen m.0 log) is seen in
    let front : m2.0.front ≡ longer v.front w.front = ap (λ (m : Mine). m.0.front) (same ∙ is) in
    subst (λ (t : View × View). OneBegins t.0.front t.1.front m2.0.front) (λ i. (ev i, ew i))
    (one_begins v.front w.front m2.0.front h.0 front (subst (λ (l : List Event). IsPrefix l h.0) (sym front) h.1.0) (h.1.1 first).0)

-- the table at the end, when all seats were joined
pub closes : (p : Ledger) (id : ℕ) (v : View) → v.number ≡ 0 → v.spent ≡ false → v.turn ≡ false → AllJoined v → (s : St) → Holds p s → At s.views id v
    → (get_elem? s.homes 0 ≡ some (some (Some (with_events p v.front)))) × AllKnown v × Runs p v.front × AllBegin v.kept v.front × Opens p
closes p id v first unspent rests joined s r at =
    let h = is_head p id v first unspent s r at in
    let seats : v.seats ≡ r.seats = ap (λ (y : View). y.seats) h.1 ∙ r.head.4 in
    let kept : v.kept ≡ r.kept = ap (λ (y : View). y.kept) h.1 ∙ r.head.5 in
    let f = r.fits id v at unspent in
    let alone : (j : ℕ) (u : View) → At s.views j u → u.spent ≡ false → j ≡ id = λ j u a sp. dite (ℕ_discrete u.number 0)
    (λ z. r.apart j id u v a at sp unspent (z ∙ sym first))
    (λ n. let none : kept_of u.number v.kept ≡ None = ap (kept_of u.number) kept ∙ r.away j u a sp in let l = (r.fits j u a sp).below in
    let some_ : IsSome (kept_of u.number v.kept) = joined u.number (omega (arith, n)) (omega (arith, l, seats)) in absurd (is_none (kept_of u.number v.kept) none some_)) in
    let still : (j : ℕ) (u : View) → At s.views j u → u.turn ≡ true → ⊥ = λ j u a on. by_spent u on (λ sp. true_false u.turn on (r.spent j u a sp))
    (λ sp. true_false u.turn on (subst (λ (y : View). y.turn ≡ false) (same_at s.views id v u at (subst (λ (k : ℕ). At s.views k u) (alone j u a sp) a)) rests)) in
    let free : slice_index s.words 0 ≡ 0 = dite (ℕ_discrete (slice_index s.words 0) 0) (λ z. z) (λ n. let k = r.busy n in absurd (still k.0 k.1 k.2 k.3)) in
    let m = r.longest in
    let whole : v.front ≡ r.log = ap (λ (y : View). y.front) (same_at s.views id v m.1 at (subst (λ (k : ℕ). At s.views k m.1) (alone m.0 m.1 m.2 m.3) m.2)) ∙ m.4 in (
      r.free free ∙ ap (λ (l : List Event). some (some (Some (with_events p l)))) (sym whole),
      (
        ap (λ (n : ℕ). events_by n v.front) (sym first) ∙ f.seen,
        (λ n pos l. ⊎_elim
            (λ (k : Active n s.views). let e = ap (λ (y : View). y.number) (same_at s.views id v k.1 at (subst (λ (q : ℕ). At s.views q k.1) (alone k.0 k.1 k.2 k.3) k.2)) in let num = k.4 in absurd (omega (arith, e, num, first, pos)))
            (λ (k : kept_of n r.kept ≡ Some (events_by n r.log)). ap (kept_of n) kept ∙ (k ∙ ap (λ (l : List Event). Some (events_by n l)) (sym whole)))
            (r.joined n (omega (arith, seats, l)))),
        (λ n l. ap (events_by n) whole ∙ r.beyond n (omega (arith, seats, l))),
      ),
      subst (Runs p) (sym whole) r.run,
      subst (λ (t : List Kept × List Event). AllBegin t.0 t.1) (λ i. (sym kept i, sym whole i)) r.fronts,
      r.opens,
    )
  where
    is_none : {A : Type 0} (o : Option A) → o ≡ None → IsSome o → ⊥
    is_none None e h = absurd cc
    is_none (Some x) e h = cc

    by_spent : (u : View) → u.turn ≡ true → (u.spent ≡ true → ⊥) → (u.spent ≡ false → ⊥) → ⊥
    by_spent u on a b = elim u.spent as (λ c. (c ≡ true → ⊥) → (c ≡ false → ⊥) → ⊥) [ true ↦ (λ x y. x refl) | false ↦ (λ x y. y refl) ] a b

-- a look-up of what is kept, with one seat more
pub kept_more : (n : ℕ) (k : Kept) (ks : List Kept) → IsSome (kept_of n ks) → IsSome (kept_of n (k ∷ ks))
kept_more n k ks h = elim (k.number == n) as (λ b. IsSome (cond b (Some k.events) (kept_of n ks))) [ true ↦ refl | false ↦ h ]
