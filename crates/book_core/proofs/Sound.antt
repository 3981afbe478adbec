-- What always holds in a run.
use Rattle.std.proofs.Common.{arith, ◌≡◌, ℕ, zero, suc, ◌≤◌, ◌+◌, inl, inr, List, [], ◌∷◌, ◌++◌, length, map, take, drop, get_or, set, Option, Some, None, All, Contains, ℤ, refl, sym, ap, ◌∙◌, subst, pos, neg_ℤ, ◌-ℤ◌}
use Rattle.std.proofs.lemmas.Int.{ints}
use Rattle.std.proofs.lemmas.Option.{slice_get_within}
use Rattle.std.specs.Prelude.{slice_get, IsSome, IfSome, AllPairs}
use Rattle.std.proofs.lemmas.List.{length-append, length-map, length-take-le, map-append, take-append-drop}
use Rattle.std.proofs.lemmas.List.Elements.{All-nil, All-append, All-map, All-weaker, Contains-get_or}
use Rattle.std.proofs.lemmas.List.Quantifiers.{all_pairs_push}
use Rattle.stn_core.specs.declared.literal.Literal.{Literal}
use Rattle.stn_core.specs.declared.problem.Problem.{Problem}
use Rattle.stn_core.specs.Literal.{negation_of}
use Rattle.refute_tree.specs.Trees.{stated}
use Rattle.refute_tree.specs.Moves.{moved_number}
use Rattle.refute_tree.specs.Batches.{LemmaBatch, AreRefuted, LemmaIsOver, MovedBatchLaw, JoinedLaw, moved_lemma}
use Rattle.refute_tree.proofs.Moved.{get_moved, stated_moved, lemma_over_moved}
use Rattle.cover_tree.specs.declared.node.Node.{Node}
use Rattle.cover_tree.specs.declared.node.Node.TheVariants.{Free, Held, Shut, Split}
use Rattle.cover_tree.specs.Covers.{Cubes, opening as no_split, changes, divides, IsLeaf, divided, with_node, whole, node_at, cube_at}
use Rattle.cover_tree.proofs.Sets.{by_eq, get_set_same, get_set_other, get_two, get_longer}
use Rattle.cover_tree.proofs.Parts.{as_long}
use Rattle.cover_tree.proofs.Branching.{cubes_all, cubes_every, cube_kept}
use Rattle.refute_tree.specs.declared.lemma.Lemma.{Lemma}
use Rattle.book_core.specs.declared.event.Event.{Event}
use Rattle.book_core.specs.declared.event.Event.TheVariants.{Take, Deliver, Release}
use Rattle.book_core.specs.declared.event.Taken.TheVariants.{Done, Idle, Cube}
use Rattle.book_core.specs.declared.event.Outcome.{Outcome}
use Rattle.book_core.specs.declared.event.Outcome.TheVariants.{Found, Shut as ShutBy, Split as SplitBy, Open}
use Rattle.book_core.specs.Books.{State, opened, IsOpening, IsDone, IsDecidable, IsShutBy, IsJustified, IsAllowed, first_found, found_delivered, lemmas_delivered, after}
use Rattle.stn_core.specs.Solution.{IsSolution, IsAtom}
use Rattle.book_core.specs.Runs.{IsRun, IsRunFrom, replayed_from, replayed}
use Rattle.book_core.specs.Facts.{IsApart, AreShut, IsSound}

shut_more : (clauses more : List (List Literal)) (cube : List Literal) (j : ℕ) → IsShutBy clauses cube j → IsShutBy (clauses ++ more) cube j
shut_more clauses more cube j h = (h.0, get_longer clauses more j h.0 h.1, h.2)

are_shut_more : (c : Cubes) (clauses more : List (List Literal)) → AreShut c clauses → AreShut c (clauses ++ more)
are_shut_more c clauses more h k j e = shut_more clauses more (cube_at c k) j (h k j e)

-- a leaf changes
shut_changed : (c : Cubes) (clauses : List (List Literal)) (k : ℕ) (old new : Node) → node_at c k ≡ Some old → AreShut c clauses → ((j : ℕ) → new ≡ Shut j → IsShutBy clauses (cube_at c k) j) → AreShut (with_node c k new) clauses
shut_changed c clauses k old new e h here i j is = elim (by_eq i k) [
  | inl s ↦
      (let at : slice_get (set c.nodes k new) i ≡ Some new = ap (slice_get (set c.nodes k new)) s ∙ get_set_same c.nodes k old new e in
      let same : new ≡ Shut j = cc in
      subst (λ (m : ℕ). IsShutBy clauses (cube_at c m) j) (sym s) (here j same))
  | inr ne ↦ h i j (sym (get_set_other c.nodes k i new ne) ∙ is)
]

-- a leaf is divided
shut_divided : (c : Cubes) (clauses : List (List Literal)) (k : ℕ) (old : Node) (l : Literal) → length c.paths ≡ length c.nodes → node_at c k ≡ Some old → AreShut c clauses → AreShut (divided c k l) clauses
shut_divided c clauses k old l long e h i j is = elim (get_two (set c.nodes k split) Free Free i (Shut j) is) [
  | inl a ↦ elim (by_eq i k) [
    | inl s ↦
        (let at : slice_get (set c.nodes k split) i ≡ Some split = ap (slice_get (set c.nodes k split)) s ∙ get_set_same c.nodes k old split e in
        let same : split ≡ Shut j = cc in absurd cc)
    | inr ne ↦
        (let there : node_at c i ≡ Some (Shut j) = sym (get_set_other c.nodes k i split ne) ∙ a in
        subst (λ (cube : List Literal). IsShutBy clauses cube j) (sym (cube_kept c k l long i (slice_get_within c.nodes i (Shut j) there))) (h i j there))
  ]
  | inr b ↦ elim b [ inl x ↦ (let y : Shut j ≡ Free = x.1 in absurd cc) | inr x ↦ (let y : Shut j ≡ Free = x.1 in absurd cc) ]
]
  where
    split : Node
    split = Split l (length c.nodes)

-- the other of an atom and its negation
negation_decidable : (problem : Problem) (involutive : (l : Literal) → negation_of (negation_of l) ≡ l) (l : Literal) → IsDecidable problem l → IsDecidable problem (negation_of l)
negation_decidable problem involutive l h = elim h [
  | inl a ↦ inr (subst (IsAtom problem) (sym (involutive l)) a)
  | inr b ↦ inl b
]

first_found_sound : (problem : Problem) (found : Option (List ℤ)) (values : List ℤ) → IfSome found (IsSolution problem) → IsSolution problem values → IfSome (first_found found values) (IsSolution problem)
first_found_sound problem None values h s = s
first_found_sound problem (Some first) values h s = h

pub negation_twice : (l : Literal) → negation_of (negation_of l) ≡ l
negation_twice l =
    let c : (neg_ℤ (neg_ℤ l.c -ℤ pos 1) -ℤ pos 1) ≡ l.c = omega (arith, ints) in
    ap (λ (z : ℤ). record { x = l.x; y = l.y; c = z }) c

-- a literal that isn't in the cube, nor its negation, is apart from the cube's
apart_push : (cube : List Literal) (l : Literal) → AllPairs IsApart cube → (Contains cube l → ⊥) → (Contains cube (negation_of l) → ⊥) → AllPairs IsApart (cube ++ l ∷ [])
apart_push cube l h out other = all_pairs_push IsApart cube l h (λ k d lt.
    (let m : Literal = get_or cube k d in
    let in_ : Contains cube m = Contains-get_or cube k d lt in (
      (λ (e : m ≡ l). out (subst (Contains cube) e in_)),
      (λ (e : negation_of m ≡ l). other (subst (Contains cube) (sym (negation_twice m) ∙ ap negation_of e) in_)),
    )))

apart_nil : AllPairs IsApart []
apart_nil i j d lt within = absurd (omega arith)

module _ (problem : Problem)
    (moved_batch : MovedBatchLaw)
    (joined : JoinedLaw) where
  pub opening_sound : (lemmas : List Lemma) → IsOpening problem lemmas → IsSound problem (opened lemmas)
  opening_sound lemmas opens = record {
    cover = no_split;
    decided = opening_decided;
    apart = opening_apart;
    refuted = opens.refuted;
    over = opens.over;
    shut = λ k j e. absurd (opening_shut k j e);
    found = tt;
  }
    where
      opening_decided : (k : ℕ) → All (IsDecidable problem) (cube_at whole k)
      opening_decided zero = All-nil (IsDecidable problem)
      opening_decided (suc k) = All-nil (IsDecidable problem)

      opening_apart : (k : ℕ) → AllPairs IsApart (cube_at whole k)
      opening_apart zero = apart_nil
      opening_apart (suc k) = apart_nil

      opening_shut : (k j : ℕ) → node_at whole k ≡ Some (Shut j) → ⊥
      opening_shut zero j e = absurd cc
      opening_shut (suc k) j e = absurd cc

  -- a leaf changes, and nothing else
  leaf_sound : (s : State) (k : ℕ) (old new : Node) → IsSound problem s → node_at s.cover k ≡ Some old → IsLeaf old → IsLeaf new → ((j : ℕ) → new ≡ Shut j → IsShutBy (map stated s.lemmas) (cube_at s.cover k) j) → IsSound problem (record { cover = with_node s.cover k new; lemmas = s.lemmas; found = s.found })
  leaf_sound s k old new h e lo ln here = record {
    cover = changes s.cover k old new h.cover e lo ln;
    decided = h.decided;
    apart = h.apart;
    refuted = h.refuted;
    over = h.over;
    shut = shut_changed s.cover (map stated s.lemmas) k old new e h.shut here;
    found = h.found;
  }

  -- the clauses of the lemmas, parted at `seen`
  parted : (s : State) (batch : LemmaBatch) → map stated s.lemmas ≡ map stated (take batch.seen s.lemmas) ++ map stated (drop batch.seen s.lemmas)
  parted s batch = ap (map stated) (sym (take-append-drop batch.seen s.lemmas)) ∙ map-append stated (take batch.seen s.lemmas) (drop batch.seen s.lemmas)

  count_first : (s : State) (batch : LemmaBatch) → batch.seen ≤ length s.lemmas → length (map stated (take batch.seen s.lemmas)) ≡ batch.seen
  count_first s batch le = length-map (take batch.seen s.lemmas) stated ∙ length-take-le batch.seen s.lemmas le

  count_both : (s : State) (batch : LemmaBatch) → length (map stated (take batch.seen s.lemmas)) + length (map stated (drop batch.seen s.lemmas)) ≡ length s.lemmas
  count_both s batch = sym (length-append (map stated (take batch.seen s.lemmas)) (map stated (drop batch.seen s.lemmas))) ∙ (ap length (sym (parted s batch)) ∙ length-map s.lemmas stated)

  -- the batch stands behind all lemmas
  added_refuted : (s : State) (batch : LemmaBatch) → IsSound problem s → batch.seen ≤ length s.lemmas → AreRefuted problem.points problem.clauses (map stated (take batch.seen s.lemmas)) batch.lemmas → AreRefuted problem.points problem.clauses [] (lemmas_delivered s.lemmas batch)
  added_refuted s batch h le r =
      let first = map stated (take batch.seen s.lemmas) in
      let later = map stated (drop batch.seen s.lemmas) in
      let m = moved_batch problem.points problem.clauses first later batch.lemmas r in
      let a = subst (λ (n : ℕ). AreRefuted problem.points problem.clauses (first ++ later) (map (moved_lemma n (length first + length later)) batch.lemmas)) (count_first s batch le) m in
      let b = subst (λ (n : ℕ). AreRefuted problem.points problem.clauses (first ++ later) (map (moved_lemma batch.seen n) batch.lemmas)) (count_both s batch) a in
      let d = subst (λ (k : List (List Literal)). AreRefuted problem.points problem.clauses k (map (moved_lemma batch.seen (length s.lemmas)) batch.lemmas)) (sym (parted s batch)) b in
      joined problem.points problem.clauses [] s.lemmas (map (moved_lemma batch.seen (length s.lemmas)) batch.lemmas) h.refuted d

  stated_after : (s : State) (batch : LemmaBatch) → map stated (lemmas_delivered s.lemmas batch) ≡ map stated s.lemmas ++ map stated batch.lemmas
  stated_after s batch = map-append stated s.lemmas (map (moved_lemma batch.seen (length s.lemmas)) batch.lemmas) ∙ ap (λ (k : List (List Literal)). map stated s.lemmas ++ k) (stated_moved batch.seen (length s.lemmas) batch.lemmas)

  -- the excluding lemma, by its number behind all lemmas
  excluded_at : (s : State) (batch : LemmaBatch) (j : ℕ) (clause : List Literal) → batch.seen ≤ length s.lemmas → slice_get (map stated (take batch.seen s.lemmas ++ batch.lemmas)) j ≡ Some clause → slice_get (map stated (lemmas_delivered s.lemmas batch)) (moved_number batch.seen (length s.lemmas) j) ≡ Some clause
  excluded_at s batch j clause le e =
      let first = map stated (take batch.seen s.lemmas) in
      let later = map stated (drop batch.seen s.lemmas) in
      let own = map stated batch.lemmas in
      let given : slice_get (first ++ own) j ≡ Some clause = ap (λ (k : List (List Literal)). slice_get k j) (sym (map-append stated (take batch.seen s.lemmas) batch.lemmas)) ∙ e in
      let m : slice_get ((first ++ later) ++ own) (moved_number (length first) (length first + length later) j) ≡ Some clause = get_moved first later own j clause given in
      let table : map stated (lemmas_delivered s.lemmas batch) ≡ (first ++ later) ++ own = stated_after s batch ∙ ap (λ (k : List (List Literal)). k ++ own) (parted s batch) in
      let number : moved_number batch.seen (length s.lemmas) j ≡ moved_number (length first) (length first + length later) j =
      ap (λ (n : ℕ). moved_number n (length s.lemmas) j) (sym (count_first s batch le)) ∙ ap (λ (n : ℕ). moved_number (length first) n j) (sym (count_both s batch)) in
      ap (λ (k : List (List Literal)). slice_get k (moved_number batch.seen (length s.lemmas) j)) table ∙ (ap (λ (n : ℕ). slice_get ((first ++ later) ++ own) n) number ∙ m)

  -- the lemmas are added, the cover and the schedule are as before
  added_sound : (s : State) (id : ℕ) (batch : LemmaBatch) (outcome : Outcome) → IsSound problem s → IsJustified problem s.lemmas (cube_at s.cover id) batch outcome → IsSound problem (record { cover = s.cover; lemmas = lemmas_delivered s.lemmas batch; found = s.found })
  added_sound s id batch outcome h j = record {
    cover = h.cover;
    decided = h.decided;
    apart = h.apart;
    refuted = added_refuted s batch h j.seen j.refuted;
    over = All-append (LemmaIsOver problem.points) s.lemmas (map (moved_lemma batch.seen (length s.lemmas)) batch.lemmas) h.over
        (All-map (LemmaIsOver problem.points) (moved_lemma batch.seen (length s.lemmas)) batch.lemmas (All-weaker (LemmaIsOver problem.points) (λ l. LemmaIsOver problem.points (moved_lemma batch.seen (length s.lemmas) l)) (lemma_over_moved problem.points batch.seen (length s.lemmas)) batch.lemmas j.over));
    shut = subst (AreShut s.cover) (sym (stated_after s batch)) (are_shut_more s.cover (map stated s.lemmas) (map stated batch.lemmas) h.shut);
    found = h.found;
  }

  delivered_sound : (s : State) (seat id : ℕ) (batch : LemmaBatch) (outcome : Outcome) → IsSound problem s → node_at s.cover id ≡ Some (Held seat) → IsJustified problem s.lemmas (cube_at s.cover id) batch outcome → IsSound problem (after s (Deliver seat id batch outcome))
  delivered_sound s seat id batch (Found values) h e j =
      let added = leaf_sound (record { cover = s.cover; lemmas = lemmas_delivered s.lemmas batch; found = s.found }) id (Held seat) Free (added_sound s id batch (Found values) h j) e tt tt (λ i is. absurd cc) in
      record { cover = added.cover; decided = added.decided; apart = added.apart; refuted = added.refuted; over = added.over; shut = added.shut; found = first_found_sound problem s.found values h.found j.fits }
  delivered_sound s seat id batch (ShutBy i) h e j =
      let number = moved_number batch.seen (length s.lemmas) i in
      let fits = j.fits in
      let here : IsShutBy (map stated (lemmas_delivered s.lemmas batch)) (cube_at s.cover id) number = (fits.0, excluded_at s batch i fits.0 j.seen fits.1, fits.2) in
      leaf_sound (record { cover = s.cover; lemmas = lemmas_delivered s.lemmas batch; found = s.found }) id (Held seat) (Shut number) (added_sound s id batch (ShutBy i) h j) e tt tt
      (λ n is. (let same : number ≡ n = cc in subst (IsShutBy (map stated (lemmas_delivered s.lemmas batch)) (cube_at s.cover id)) same here))
  delivered_sound s seat id batch (SplitBy l) h e j =
      let added = added_sound s id batch (SplitBy l) h j in
      let long = as_long s.cover h.cover in
      record {
        cover = divides s.cover id (Held seat) l h.cover e tt;
        decided = cubes_all s.cover id l long (IsDecidable problem) h.decided j.fits.0 (negation_decidable problem negation_twice l j.fits.0);
        apart = cubes_every s.cover id l long (AllPairs IsApart) h.apart (apart_push (cube_at s.cover id) l (h.apart id) j.fits.1.0 j.fits.1.1)
            (apart_push (cube_at s.cover id) (negation_of l) (h.apart id) j.fits.1.1 (λ x. j.fits.1.0 (subst (Contains (cube_at s.cover id)) (negation_twice l) x))) apart_nil;
        refuted = added.refuted;
        over = added.over;
        shut = shut_divided s.cover (map stated (lemmas_delivered s.lemmas batch)) id (Held seat) l long e added.shut;
        found = added.found;
      }
  delivered_sound s seat id batch Open h e j =
      leaf_sound (record { cover = s.cover; lemmas = lemmas_delivered s.lemmas batch; found = s.found }) id (Held seat) Free (added_sound s id batch Open h j) e tt tt (λ i is. absurd cc)

  pub event_sound : (s : State) (e : Event) → IsSound problem s → IsAllowed problem s e → IsSound problem (after s e)
  event_sound s (Take seat Done) h a = h
  event_sound s (Take seat Idle) h a = h
  event_sound s (Take seat (Cube id)) h a = leaf_sound s id Free (Held seat) h a.1 tt tt (λ j is. absurd cc)
  event_sound s (Deliver seat id batch outcome) h a = delivered_sound s seat id batch outcome h a.0 a.1
  event_sound s (Release seat id) h a = leaf_sound s id (Held seat) Free h a tt tt (λ j is. absurd cc)

  run_sound : (s : State) (events : List Event) → IsSound problem s → IsRunFrom problem s events → IsSound problem (replayed_from s events)
  run_sound s [] h r = h
  run_sound s (e ∷ es) h r = run_sound (after s e) es (event_sound s e h r.0) r.1

  pub sound : (opening : List Lemma) (events : List Event) → IsOpening problem opening → IsRun problem opening events → IsSound problem (replayed opening events)
  sound opening events opens r = run_sound (opened opening) events (opening_sound opening opens) r

some_first : (found : Option (List ℤ)) (values : List ℤ) → IsSome (first_found found values)
some_first None values = refl
some_first (Some first) values = refl

pub found_stays : (s : State) (outcome : Outcome) → IsSome s.found → IsSome (found_delivered s.found outcome)
found_stays s (Found values) h = some_first s.found values
found_stays s (ShutBy j) h = h
found_stays s (SplitBy l) h = h
found_stays s Open h = h

pub not_some : (found : Option (List ℤ)) → found ≡ None → IsSome found → ⊥
not_some None e h = absurd cc
not_some (Some v) e h = absurd cc

-- Done is kept
pub done_kept : (problem : Problem) (s : State) (e : Event) → IsDone s → IsAllowed problem s e → IsDone (after s e)
done_kept problem s (Take seat Done) d a = d
done_kept problem s (Take seat Idle) d a = d
done_kept problem s (Take seat (Cube id)) d a = elim d [
  | inl f ↦ absurd (not_some s.found a.0 f)
  | inr n ↦ absurd (n.0 id a.1)
]
done_kept problem s (Deliver seat id batch outcome) d a = elim d [
  | inl f ↦ inl (found_stays s outcome f)
  | inr n ↦ absurd (n.1 id seat a.0)
]
done_kept problem s (Release seat id) d a = elim d [
  | inl f ↦ inl f
  | inr n ↦ absurd (n.1 id seat a)
]
