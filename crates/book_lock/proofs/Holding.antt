-- A seat's cube and lemmas, while others go on.
use Rattle.std.proofs.Common.{◌≡◌, ◌≢◌, ℕ, zero, suc, eq-eqb, ne_eqb, Bool, cond, List, [], ◌∷◌, ◌++◌, length, set, Some, refl, sym, ap, ◌∙◌, subst, arith}
use Rattle.std.specs.Prelude.{slice_get}
use mathlib.Core.List.{IsPrefix}
use mathlib.Core.Logic.{dite}
use native.Mathlib.Decide.{ℕ_discrete}
use Rattle.stn_core.specs.declared.literal.Literal.{Literal}
use Rattle.stn_core.specs.declared.problem.Problem.{Problem}
use Rattle.stn_core.specs.Literal.{negation_of}
use Rattle.refute_tree.specs.Batches.{LemmaBatch, moved}
use Rattle.refute_tree.specs.Moves.{moved_number}
use Rattle.cover_tree.specs.declared.node.Node.{Node}
use Rattle.cover_tree.specs.declared.node.Node.TheVariants.{Free, Held, Shut, Split}
use Rattle.cover_tree.specs.Covers.{Cubes, node_at, cube_at, with_node, divided, IsCover}
use Rattle.cover_tree.specs.Covers.{opening as opening_whole, changes, divides}
use Rattle.cover_tree.proofs.Parts.{as_long}
use Rattle.cover_tree.proofs.Sets.{get_set_other}
use Rattle.std.proofs.lemmas.Option.{slice_get_within, slice_get-get_or, get_or_from_slice_get}
use Rattle.book_core.specs.declared.event.Event.{Event}
use Rattle.book_core.specs.declared.event.Event.TheVariants.{Take, Deliver, Release}
use Rattle.book_core.specs.declared.event.Taken.TheVariants.{Done, Idle, Cube as TakenCube}
use Rattle.book_core.specs.declared.event.Outcome.{Outcome}
use Rattle.book_core.specs.declared.event.Outcome.TheVariants.{Found, Shut as ShutBy, Split as SplitBy, Open}
use Rattle.book_core.specs.Books.{State, opened, IsAllowed, after, cover_delivered}
use Rattle.book_core.specs.Runs.{Ledger, IsRunFrom, replayed_from}
use Rattle.book_lock.specs.Begun.{Runs, reached}
use Rattle.book_lock.specs.declared.cube.Cube.{Cube}
use Rattle.book_lock.specs.SeatEvents.{events_by, seat_of}
use Rattle.book_lock.specs.Seats.{IsCubeOfSeat}
use Rattle.book_lock.proofs.Fronts.{prefix_self, prefix_trans}
use Rattle.book_lock.proofs.Journals.{run_first, run_rest, replayed_more, events_append}

-- the lemmas only grow
pub lemmas_step : (s : State) (e : Event) → IsPrefix s.lemmas (after s e).lemmas
lemmas_step s (Take seat Done) = prefix_self s.lemmas
lemmas_step s (Take seat Idle) = prefix_self s.lemmas
lemmas_step s (Take seat (TakenCube id)) = prefix_self s.lemmas
lemmas_step s (Deliver seat id batch outcome) = ((moved (length s.lemmas) batch).lemmas, refl)
lemmas_step s (Release seat id) = prefix_self s.lemmas

pub lemmas_grow : (s : State) (es : List Event) → IsPrefix s.lemmas (replayed_from s es).lemmas
lemmas_grow s [] = prefix_self s.lemmas
lemmas_grow s (e ∷ es) = prefix_trans s.lemmas (after s e).lemmas (replayed_from s (e ∷ es)).lemmas (lemmas_step s e) (lemmas_grow (after s e) es)

pub lemmas_prefix : (b : Ledger) (xs ys : List Event) → IsPrefix xs ys → IsPrefix (reached b xs).lemmas (reached b ys).lemmas
lemmas_prefix b xs ys p = subst (λ (s : State). IsPrefix (reached b xs).lemmas s.lemmas) (sym (replayed_more (opened b.opening) xs p.0) ∙ ap (reached b) p.1) (lemmas_grow (reached b xs) p.0)

-- what stands at a number, with the literals on the path to it
pub record Stands (c : Cubes) (k : ℕ) (n : Node) (cube : List Literal) : Type 0 where
  pub node : node_at c k ≡ Some n
  pub path : slice_get c.paths k ≡ Some cube

get_front : {A : Type 0} (xs ys : List A) (k : ℕ) (x : A) → slice_get xs k ≡ Some x → slice_get (xs ++ ys) k ≡ Some x
get_front [] ys k x e = absurd cc
get_front (y ∷ xs) ys zero x e = e
get_front (y ∷ xs) ys (suc k) x e = get_front xs ys k x e

stands_set : (c : Cubes) (k id : ℕ) (new n : Node) (cube : List Literal) → id ≢ k → Stands c id n cube → Stands (with_node c k new) id n cube
stands_set c k id new n cube ne h = record { node = get_set_other c.nodes k id new ne ∙ h.node; path = h.path }

stands_divided : (c : Cubes) (k id : ℕ) (l : Literal) (n : Node) (cube : List Literal) → id ≢ k → Stands c id n cube → Stands (divided c k l) id n cube
stands_divided c k id l n cube ne h = record {
  node = get_front (set c.nodes k (Split l (length c.nodes))) (Free ∷ Free ∷ []) id n (get_set_other c.nodes k id (Split l (length c.nodes)) ne ∙ h.node);
  path = get_front c.paths ((cube_at c k ++ l ∷ []) ∷ (cube_at c k ++ negation_of l ∷ []) ∷ []) id cube h.path;
}

-- another seat's event leaves it
stands_deliver : (s : State) (seat k id n : ℕ) (batch : LemmaBatch) (outcome : Outcome) (cube : List Literal) → id ≢ k → Stands s.cover id (Held n) cube → Stands (cover_delivered s.cover k batch.seen (length s.lemmas) outcome) id (Held n) cube
stands_deliver s seat k id n batch (Found values) cube ne h = stands_set s.cover k id Free (Held n) cube ne h
stands_deliver s seat k id n batch (ShutBy j) cube ne h = stands_set s.cover k id (Shut (moved_number batch.seen (length s.lemmas) j)) (Held n) cube ne h
stands_deliver s seat k id n batch (SplitBy l) cube ne h = stands_divided s.cover k id l (Held n) cube ne h
stands_deliver s seat k id n batch Open cube ne h = stands_set s.cover k id Free (Held n) cube ne h

held_apart : (c : Cubes) (k id seat n : ℕ) → node_at c k ≡ Some (Held seat) → node_at c id ≡ Some (Held n) → seat ≢ n → id ≢ k
held_apart c k id seat n a b ne e = let same : node_at c k ≡ Some (Held n) = ap (λ (j : ℕ). node_at c j) (sym e) ∙ b in ne cc

free_apart : (c : Cubes) (k id n : ℕ) → node_at c k ≡ Some Free → node_at c id ≡ Some (Held n) → id ≢ k
free_apart c k id n a b e = let same : node_at c k ≡ Some (Held n) = ap (λ (j : ℕ). node_at c j) (sym e) ∙ b in absurd cc

stands_step : (p : Problem) (s : State) (e : Event) (id n : ℕ) (cube : List Literal) → IsAllowed p s e → seat_of e ≢ n → Stands s.cover id (Held n) cube → Stands (after s e).cover id (Held n) cube
stands_step p s (Take seat Done) id n cube a ne h = h
stands_step p s (Take seat Idle) id n cube a ne h = h
stands_step p s (Take seat (TakenCube k)) id n cube a ne h = stands_set s.cover k id (Held seat) (Held n) cube (free_apart s.cover k id n a.1 h.node) h
stands_step p s (Deliver seat k batch outcome) id n cube a ne h = stands_deliver s seat k id n batch outcome cube (held_apart s.cover k id seat n a.0 h.node ne) h
stands_step p s (Release seat k) id n cube a ne h = stands_set s.cover k id Free (Held n) cube (held_apart s.cover k id seat n a h.node ne) h

-- what a seat holds stays while it makes no call
pub stands : (p : Problem) (s : State) (es : List Event) (id n : ℕ) (cube : List Literal) → IsRunFrom p s es → events_by n es ≡ [] → Stands s.cover id (Held n) cube → Stands (replayed_from s es).cover id (Held n) cube
stands p s [] id n cube r none h = h
stands p s (e ∷ es) id n cube r none h = dite (ℕ_discrete (seat_of e) n)
    (λ q. let full : e ∷ events_by n es ≡ [] = sym (ap (λ (b : Bool). cond b (e ∷ events_by n es) (events_by n es)) (eq-eqb (seat_of e) n q)) ∙ none in absurd cc)
    (λ ne. stands p (after s e) es id n cube r.1 (sym (ap (λ (b : Bool). cond b (e ∷ events_by n es) (events_by n es)) (ne_eqb (seat_of e) n ne)) ∙ none) (stands_step p s e id n cube r.0 ne h))

-- a held cube of a run stands, with its literals
pub stands_at : (c : Cubes) (id n : ℕ) → IsCover c → node_at c id ≡ Some (Held n) → Stands c id (Held n) (cube_at c id)
stands_at c id n k e = record { node = e; path = slice_get-get_or c.paths id [] (omega (arith, as_long c k, slice_get_within c.nodes id (Held n) e)) }

covered_deliver : (s : State) (seat k : ℕ) (batch : LemmaBatch) (outcome : Outcome) → IsCover s.cover → node_at s.cover k ≡ Some (Held seat) → IsCover (cover_delivered s.cover k batch.seen (length s.lemmas) outcome)
covered_deliver s seat k batch (Found values) c e = changes s.cover k (Held seat) Free c e tt tt
covered_deliver s seat k batch (ShutBy j) c e = changes s.cover k (Held seat) (Shut (moved_number batch.seen (length s.lemmas) j)) c e tt tt
covered_deliver s seat k batch (SplitBy l) c e = divides s.cover k (Held seat) l c e tt
covered_deliver s seat k batch Open c e = changes s.cover k (Held seat) Free c e tt tt

covered_step : (p : Problem) (s : State) (e : Event) → IsCover s.cover → IsAllowed p s e → IsCover (after s e).cover
covered_step p s (Take seat Done) c a = c
covered_step p s (Take seat Idle) c a = c
covered_step p s (Take seat (TakenCube id)) c a = changes s.cover id Free (Held seat) c a.1 tt tt
covered_step p s (Deliver seat id batch outcome) c a = covered_deliver s seat id batch outcome c a.0
covered_step p s (Release seat id) c a = changes s.cover id (Held seat) Free c a tt tt

pub covered_by : (p : Problem) (s : State) (es : List Event) → IsCover s.cover → IsRunFrom p s es → IsCover (replayed_from s es).cover
covered_by p s [] c r = c
covered_by p s (e ∷ es) c r = covered_by p (after s e) es (covered_step p s e c r.0) r.1

-- of equal lengths, the rest is nothing
none_left : {A : Type 0} (xs ys zs : List A) → xs ++ ys ≡ zs → xs ≡ zs → ys ≡ []
none_left [] ys zs e same = e ∙ sym same
none_left (x ∷ xs) ys [] e same = absurd cc
none_left (x ∷ xs) ys (z ∷ zs) e same = none_left xs ys zs (cc (e)) (cc (same))

pub quiet_between : (n : ℕ) (xs ys zs events : List Event) → xs ++ ys ≡ zs → events_by n zs ≡ events → events_by n xs ≡ events → events_by n ys ≡ []
quiet_between n xs ys zs events e a b = none_left (events_by n xs) (events_by n ys) events (sym (events_append n xs ys) ∙ (ap (events_by n) e ∙ a)) b

-- the cube that a seat holds by its front is held in each longer journal without more events by it
pub still_held : (b : Ledger) (front log events : List Event) (n : ℕ) (cube : Cube) → Runs b log → IsPrefix front log → events_by n log ≡ events → events_by n front ≡ events → IsCubeOfSeat (reached b front).cover n cube → IsCubeOfSeat (reached b log).cover n cube
still_held b front log events n cube run pre made seen h =
    let p : Problem = b.problem in
    let first : State = opened b.opening in
    let whole : IsRunFrom p first (front ++ pre.0) = subst (Runs b) (sym pre.1) run in
    let covered = covered_by p first front opening_whole (run_first p first front pre.0 whole) in
    let quiet : events_by n pre.0 ≡ [] = quiet_between n front pre.0 log events pre.1 made seen in
    let then = stands p (reached b front) pre.0 cube.id n (cube_at (reached b front).cover cube.id) (run_rest p first front pre.0 whole) quiet (stands_at (reached b front).cover cube.id n covered h.0) in
    let same : replayed_from (reached b front) pre.0 ≡ reached b log = sym (replayed_more first front pre.0) ∙ ap (reached b) pre.1 in
    let node : node_at (reached b log).cover cube.id ≡ Some (Held n) = ap (λ (s : State). node_at s.cover cube.id) (sym same) ∙ then.node in
    let path : cube_at (reached b log).cover cube.id ≡ cube_at (reached b front).cover cube.id = ap (λ (s : State). cube_at s.cover cube.id) (sym same) ∙ get_or_from_slice_get (replayed_from (reached b front) pre.0).cover.paths cube.id (cube_at (reached b front).cover cube.id) [] then.path in
    (node, h.1 ∙ sym path)
