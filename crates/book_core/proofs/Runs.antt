-- A journal that is one event longer.
use Rattle.std.proofs.Common.{arith, ◌≡◌, ℕ, zero, suc, ◌≤◌, ◌+◌, List, [], ◌∷◌, ◌++◌, length, refl, sym, ap, ◌∙◌, subst, length-append, append-nil, set, Option, Some, None, Bool, true, false, ◌<◌, ◌-◌, ◌^◌, inl, inr, map, take, All, ℤ}
use Rattle.std.specs.Prelude.{slice_get, is_some, nat_lt, if◌then◌else◌}
use Rattle.std.proofs.lemmas.Bool.{cases_lt}
use Rattle.std.proofs.lemmas.Bool.Decides.{nat_tests}
use Rattle.std.proofs.lemmas.List.{length-map, length-take-le, map-append}
use Rattle.std.proofs.lemmas.Option.{slice_get_within}
use Rattle.refute_tree.specs.declared.lemma.Lemma.{Lemma}
use Rattle.refute_tree.specs.Trees.{stated}
use Rattle.refute_tree.specs.Moves.{moved_number}
use Rattle.refute_tree.specs.Batches.{LemmaBatch, moved, LemmaRefersBelow}
use Rattle.refute_tree.proofs.References.{all_below}
use Rattle.book_core.specs.declared.event.Outcome.{Outcome}
use Rattle.book_core.specs.declared.event.Outcome.TheVariants.{Found, Shut as ShutBy, Split as SplitBy, Open}
use Rattle.stn_core.specs.declared.literal.Literal.{Literal}
use Rattle.stn_core.specs.declared.problem.Problem.{Problem}
use Rattle.cover_tree.specs.declared.node.Node.{Node}
use Rattle.cover_tree.specs.declared.node.Node.TheVariants.{Free, Held, Shut, Split}
use Rattle.cover_tree.specs.Covers.{Cubes, node_at, with_node, divided, held_count}
use Rattle.cover_tree.proofs.Tables.{count_set, count_two}
use Rattle.book_core.specs.declared.event.Event.{Event}
use Rattle.book_core.specs.declared.event.Event.TheVariants.{Take, Deliver, Release}
use Rattle.book_core.specs.declared.event.Taken.{Taken}
use Rattle.book_core.specs.declared.event.Taken.TheVariants.{Done, Idle, Cube}
use Rattle.book_core.specs.Books.{State, opened, IsOpening, IsAllowed, MayAnswer, IsJustified, cover_taken, cover_delivered, after}
use Rattle.book_core.specs.Halves.{halves_after, halves_from, halves_of}
use Rattle.book_core.specs.Runs.{IsRun, IsRunFrom, replayed_from, replayed, Ledger, ledger, state_of, with_event, IsKept}

pub replayed_push : (s : State) (es : List Event) (e : Event) → replayed_from s (es ++ e ∷ []) ≡ after (replayed_from s es) e
replayed_push s [] e = refl
replayed_push s (x ∷ es) e = replayed_push (after s x) es e

-- the state of a ledger that is one event longer
pub state_next : (b now : Ledger) (e : Event) → now ≡ with_event b e → state_of now ≡ after (state_of b) e
state_next b now e is = ap (λ (k : Ledger). state_of k) is ∙ replayed_push (opened b.opening) b.journal e

run_push : (problem : Problem) (s : State) (es : List Event) (e : Event) → IsRunFrom problem s es → IsAllowed problem (replayed_from s es) e → IsRunFrom problem s (es ++ e ∷ [])
run_push problem s [] e h a = (a, tt)
run_push problem s (x ∷ es) e h a = (h.0, run_push problem (after s x) es e h.1 a)

-- the halves of a journal that is one event longer
pub halves_push : (s : State) (last : Option (ℕ × ℕ)) (es : List Event) (e : Event) → halves_from s last (es ++ e ∷ []) ≡ halves_after (replayed_from s es) e (halves_from s last es)
halves_push s last [] e = refl
halves_push s last (x ∷ es) e = halves_push (after s x) (halves_after s x last) es e

take_front : {A : Type 0} (n : ℕ) (xs ys : List A) → n ≤ length xs → take n (xs ++ ys) ≡ take n xs
take_front zero [] ys le = front_none ys
  where
    front_none : {A : Type 0} (zs : List A) → take 0 zs ≡ []
    front_none [] = refl
    front_none (z ∷ zs) = refl
take_front zero (x ∷ xs) ys le = refl
take_front (suc n) [] ys le = absurd (omega arith)
take_front (suc n) (x ∷ xs) ys le = ap (λ zs. x ∷ zs) (take_front n xs ys (omega arith))

-- an event leaves the first lemmas as they are
pub after_front : (s : State) (e : Event) (n : ℕ) → n ≤ length s.lemmas → take n (after s e).lemmas ≡ take n s.lemmas
after_front s (Take seat taken) n le = refl
after_front s (Deliver seat id batch outcome) n le = take_front n s.lemmas (moved (length s.lemmas) batch).lemmas le
after_front s (Release seat id) n le = refl

after_longer : (s : State) (e : Event) (n : ℕ) → n ≤ length s.lemmas → n ≤ length (after s e).lemmas
after_longer s (Take seat taken) n le = le
after_longer s (Deliver seat id batch outcome) n le = omega (arith, le, length-append s.lemmas (moved (length s.lemmas) batch).lemmas)
after_longer s (Release seat id) n le = le

pub kept_more : (problem : Problem) (first : ℕ) (es es_new : List Event) (s s_new : State) (e : Event) (halves halves_new : Option (ℕ × ℕ)) (room room_new : ℕ) → IsKept problem first es s halves room → IsAllowed problem s e → es_new ≡ es ++ e ∷ [] → s_new ≡ after s e
    → halves_new ≡ halves_after s e halves → length es + 1 + held_count s_new.cover.nodes ≤ room_new → IsKept problem first es_new s_new halves_new room_new
kept_more problem first es es_new s s_new e halves halves_new room room_new k a ee es_is divided le =
    let opening : List Lemma = take first s.lemmas in
    let front : take first s_new.lemmas ≡ opening = ap (λ (t : State). take first t.lemmas) es_is ∙ after_front s e first k.within in
    let allowed : IsAllowed problem (replayed opening es) e = subst (λ (t : State). IsAllowed problem t e) k.same a in
    let state : s_new ≡ replayed opening es_new = es_is ∙ (ap (λ (t : State). after t e) k.same ∙ (sym (replayed_push (opened opening) es e) ∙ ap (replayed opening) (sym ee))) in
    let run : IsRun problem opening es_new = subst (IsRun problem opening) (sym ee) (run_push problem (opened opening) es e k.run allowed) in
    let count : length es_new ≡ length es + 1 = ap length ee ∙ length-append es (e ∷ []) in
    let last : halves_new ≡ halves_of opening es_new = divided ∙ ((λ i. halves_after (k.same i) e (k.divided i)) ∙ (sym (halves_push (opened opening) None es e) ∙ ap (halves_of opening) (sym ee))) in
    record {
      within = subst (λ (t : State). first ≤ length t.lemmas) (sym es_is) (after_longer s e first k.within);
      opens = subst (IsOpening problem) (sym front) k.opens;
      run = subst (λ (ls : List Lemma). IsRun problem ls es_new) (sym front) run;
      same = state ∙ ap (λ (ls : List Lemma). replayed ls es_new) (sym front);
      divided = last ∙ ap (λ (ls : List Lemma). halves_of ls es_new) (sym front);
      reserved = omega arith;
    }

abbrev pub state : Cubes → List Lemma → Option (List ℤ) → State
state cover lemmas found = record { cover = cover; lemmas = lemmas; found = found }

abbrev pub with_cover : State → Cubes → State
with_cover s cover = record { cover = cover; lemmas = s.lemmas; found = s.found }

-- what is said of the shown book, of its parts
pub at_inside : (problem : Problem) (opening : List Lemma) (events : List Event) (s : State) (b : Ledger) (k : ℕ) (o : Option Node) → ledger problem opening events ≡ b → s ≡ replayed opening events → node_at (state_of b).cover k ≡ o → node_at s.cover k ≡ o
at_inside problem opening events s b k o view same e = ap (λ (t : State). node_at t.cover k) (same ∙ ap state_of view) ∙ e

pub some_held : (nodes : List Node) (k seat : ℕ) → slice_get nodes k ≡ Some (Held seat) → 1 ≤ held_count nodes
some_held nodes k seat e = omega (arith, count_set nodes k (Held seat) Free e)

pub count_taken : (c now : Cubes) (k seat : ℕ) → node_at c k ≡ Some Free → now ≡ with_node c k (Held seat) → held_count now.nodes ≡ held_count c.nodes + 1
count_taken c now k seat e is = ap (λ (d : Cubes). held_count d.nodes) is ∙ omega (arith, count_set c.nodes k Free (Held seat) e)

pub count_freed : (c now : Cubes) (k seat : ℕ) → node_at c k ≡ Some (Held seat) → now ≡ with_node c k Free → held_count now.nodes + 1 ≡ held_count c.nodes
count_freed c now k seat e is = let n : held_count now.nodes ≡ held_count (set c.nodes k Free) = ap (λ (d : Cubes). held_count d.nodes) is in omega (arith, count_set c.nodes k (Held seat) Free e)

pub count_shut : (c now : Cubes) (k seat j : ℕ) → node_at c k ≡ Some (Held seat) → now ≡ with_node c k (Shut j) → held_count now.nodes + 1 ≡ held_count c.nodes
count_shut c now k seat j e is = let n : held_count now.nodes ≡ held_count (set c.nodes k (Shut j)) = ap (λ (d : Cubes). held_count d.nodes) is in omega (arith, count_set c.nodes k (Held seat) (Shut j) e)

pub count_divided : (c now : Cubes) (k seat : ℕ) (l : Literal) → node_at c k ≡ Some (Held seat) → now ≡ divided c k l → held_count now.nodes + 1 ≡ held_count c.nodes
count_divided c now k seat l e is =
    let split : Node = Split l (length c.nodes) in
    let n : held_count now.nodes ≡ held_count (set c.nodes k split ++ Free ∷ Free ∷ []) = ap (λ (d : Cubes). held_count d.nodes) is in
    omega (arith, count_set c.nodes k (Held seat) split e, count_two (set c.nodes k split))

pub inside : (P : Problem → State → Type 0) (problem : Problem) (opening : List Lemma) (events : List Event) (s : State) (b : Ledger) → ledger problem opening events ≡ b → s ≡ replayed opening events → P b.problem (state_of b) → P problem s
inside P problem opening events s b view same h = subst (λ (t : State). P problem t) (sym same) (subst (λ (k : Ledger). P k.problem (state_of k)) (sym view) h)

pub outside : (P : Problem → State → Type 0) (problem : Problem) (opening : List Lemma) (events : List Event) (s : State) (b : Ledger) → ledger problem opening events ≡ b → s ≡ replayed opening events → P problem s → P b.problem (state_of b)
outside P problem opening events s b view same h = subst (λ (k : Ledger). P k.problem (state_of k)) view (subst (λ (t : State). P problem t) same h)

pub not_found : (found : Option (List ℤ)) (b : Bool) → b ≡ false → b ≡ is_some found → found ≡ None
not_found None b e is = refl
not_found (Some v) b e is = absurd cc

pub state_is : (s t : State) → s.cover ≡ t.cover → s.lemmas ≡ t.lemmas → s.found ≡ t.found → s ≡ t
state_is s t a b d = ap (λ (c : Cubes). state c s.lemmas s.found) a ∙ (ap (λ (ls : List Lemma). state t.cover ls s.found) b ∙ ap (λ (f : Option (List ℤ)). state t.cover t.lemmas f) d)

pub count_delivered : (c now : Cubes) (n k seat seen : ℕ) (outcome : Outcome) → node_at c k ≡ Some (Held seat) → now ≡ cover_delivered c k seen n outcome → held_count now.nodes + 1 ≡ held_count c.nodes
count_delivered c now n k seat seen (Found values) e is = count_freed c now k seat e is
count_delivered c now n k seat seen (ShutBy j) e is = count_shut c now k seat (moved_number seen n j) e is
count_delivered c now n k seat seen (SplitBy l) e is = count_divided c now k seat l e is
count_delivered c now n k seat seen Open e is = count_freed c now k seat e is

-- the number of the excluding lemma fits
pub number_fits : (s : State) (batch : LemmaBatch) (j : ℕ) (clause : List Literal) → batch.seen ≤ length s.lemmas → slice_get (map stated (take batch.seen s.lemmas ++ batch.lemmas)) j ≡ Some clause → length s.lemmas + length batch.lemmas < 2 ^ 64 → moved_number batch.seen (length s.lemmas) j < 2 ^ 64
number_fits s batch j clause le e small =
    let lt = slice_get_within (map stated (take batch.seen s.lemmas ++ batch.lemmas)) j clause e in
    let count : length (map stated (take batch.seen s.lemmas ++ batch.lemmas)) ≡ batch.seen + length batch.lemmas = length-map (take batch.seen s.lemmas ++ batch.lemmas) stated ∙ (length-append (take batch.seen s.lemmas) batch.lemmas ∙ ap (λ (n : ℕ). n + length batch.lemmas) (length-take-le batch.seen s.lemmas le)) in
    elim (cases_lt j batch.seen) [
      | inl low ↦ (let t : nat_lt j batch.seen ≡ true = grind (arith, nat_tests) in subst (λ (b : Bool). (if b then j else (j - batch.seen) + length s.lemmas) < 2 ^ 64) (sym t) (omega arith))
      | inr high ↦ (let t : nat_lt j batch.seen ≡ false = grind (arith, nat_tests) in subst (λ (b : Bool). (if b then j else (j - batch.seen) + length s.lemmas) < 2 ^ 64) (sym t) (omega (arith, lt, count)))
    ]

pub number_of : (problem : Problem) (s : State) (cube : List Literal) (batch : LemmaBatch) (outcome : Outcome) → IsJustified problem s.lemmas cube batch outcome → length s.lemmas + length batch.lemmas < 2 ^ 64 → (j : ℕ) → outcome ≡ ShutBy j → moved_number batch.seen (length s.lemmas) j < 2 ^ 64
number_of problem s cube batch (Found values) h small j e = absurd cc
number_of problem s cube batch (SplitBy l) h small j e = absurd cc
number_of problem s cube batch Open h small j e = absurd cc
number_of problem s cube batch (ShutBy i) h small j e =
    let same : i ≡ j = cc in
    subst (λ (n : ℕ). moved_number batch.seen (length s.lemmas) n < 2 ^ 64) same (number_fits s batch i h.fits.0 h.seen h.fits.1 small)

-- a justified batch refers to the lemmas before it alone
pub refers_below : (problem : Problem) (s : State) (cube : List Literal) (batch : LemmaBatch) (outcome : Outcome) → IsJustified problem s.lemmas cube batch outcome → All (LemmaRefersBelow (batch.seen + length batch.lemmas)) batch.lemmas
refers_below problem s cube batch outcome h =
    let count : length (map stated (take batch.seen s.lemmas)) ≡ batch.seen = length-map (take batch.seen s.lemmas) stated ∙ length-take-le batch.seen s.lemmas h.seen in
    subst (λ (n : ℕ). All (LemmaRefersBelow (n + length batch.lemmas)) batch.lemmas) count (all_below problem.points problem.clauses (map stated (take batch.seen s.lemmas)) batch.lemmas h.refuted)

pub published : {A : Type 0} (value : A → Lemma) (old mid new shared : List A) (base : ℕ) (batch : LemmaBatch) → new ≡ mid ++ shared → mid ≡ old → map value shared ≡ (moved base batch).lemmas → base ≡ length (map value old) → map value new ≡ map value old ++ (moved (length (map value old)) batch).lemmas
published value old mid new shared base batch en em es eb =
    ap (map value) (en ∙ ap (λ xs. xs ++ shared) em) ∙ (map-append value old shared ∙ ap (λ (ls : List Lemma). map value old ++ ls) (es ∙ ap (λ (n : ℕ). (moved n batch).lemmas) eb))

-- a `take` makes one leaf more Held at most
pub count_held : (s : State) (now : Cubes) (seat : ℕ) (taken : Taken) → MayAnswer s taken → now ≡ cover_taken s.cover seat taken → held_count now.nodes ≤ held_count s.cover.nodes + 1
count_held s now seat Done h is = let n : held_count now.nodes ≡ held_count s.cover.nodes = ap (λ (d : Cubes). held_count d.nodes) is in omega (arith, n)
count_held s now seat Idle h is = let n : held_count now.nodes ≡ held_count s.cover.nodes = ap (λ (d : Cubes). held_count d.nodes) is in omega (arith, n)
count_held s now seat (Cube id) h is = let n = count_taken s.cover now id seat h.1 is in omega (arith, n)

-- each event of a run may come after those before it
allowed_from : (problem : Problem) (s : State) (events : List Event) (i : ℕ) (e : Event) → IsRunFrom problem s events → slice_get events i ≡ Some e → IsAllowed problem (replayed_from s (take i events)) e
allowed_from problem s [] i e r at = absurd cc
allowed_from problem s (x ∷ events) zero e r at = let same : x ≡ e = cc in subst (λ (y : Event). IsAllowed problem s y) same r.0
allowed_from problem s (x ∷ events) (suc i) e r at = allowed_from problem (after s x) events i e r.1 at

pub allowed_at : (problem : Problem) (opening : List Lemma) (events : List Event) (i : ℕ) (e : Event) (b : Ledger) → IsRun problem opening events → slice_get events i ≡ Some e → b ≡ ledger problem opening (take i events) → IsAllowed b.problem (state_of b) e
allowed_at problem opening events i e b r at is = subst (λ (k : Ledger). IsAllowed k.problem (state_of k) e) (sym is) (allowed_from problem (opened opening) events i e r at)
