-- Each delivery that says something of its cube leaves less to do.
use Rattle.std.proofs.Common.{arith, ◌≡◌, ℕ, zero, suc, ◌<◌, ◌≤◌, ◌+◌, ◌-◌, ◌⊎◌, inl, inr, List, [], ◌∷◌, ◌++◌, length, flat_map, get_or, set, Option, Some, None, All, Contains, ℤ, refl, sym, ap, ◌∙◌, subst, length-append}
use Rattle.std.specs.Prelude.{slice_get, AllPairs, IsSome}
use Rattle.std.proofs.lemmas.List.{length-set}
use Rattle.std.proofs.lemmas.List.Elements.{Contains-append_cases, Contains-append_left, Contains-append_right, All-weaker}
use Rattle.std.proofs.lemmas.Option.{slice_get_within}
use Rattle.stn_core.specs.declared.literal.Literal.{Literal}
use Rattle.stn_core.specs.declared.problem.Problem.{Problem}
use Rattle.stn_core.specs.Literal.{negation_of}
use Rattle.cover_tree.specs.declared.node.Node.{Node}
use Rattle.cover_tree.specs.declared.node.Node.TheVariants.{Free, Held, Shut, Split}
use Rattle.cover_tree.specs.Covers.{Cubes, cube_at, divided, node_at}
use Rattle.cover_tree.proofs.Parts.{as_long}
use Rattle.cover_tree.proofs.Branching.{cube_first}
use Rattle.refute_tree.specs.declared.lemma.Lemma.{Lemma}
use Rattle.book_core.specs.declared.event.Event.{Event}
use Rattle.book_core.specs.declared.event.Event.TheVariants.{Take, Deliver, Release}
use Rattle.book_core.specs.declared.event.Taken.TheVariants.{Done, Idle, Cube}
use Rattle.book_core.specs.declared.event.Outcome.TheVariants.{Found, Shut as ShutBy, Split as SplitBy, Open}
use Rattle.refute_tree.specs.Moves.{moved_number}
use Rattle.refute_tree.specs.Batches.{MovedBatchLaw, JoinedLaw}
use Rattle.book_core.specs.Books.{State, opened, IsOpening, IsDecidable, IsAllowed, after, first_found}
use Rattle.stn_core.specs.Solution.{IsAtom}
use Rattle.book_core.specs.Facts.{IsApart, IsSound}
use Rattle.book_core.specs.Runs.{IsRun, IsRunFrom, replayed, replayed_from}
use Rattle.book_core.specs.Ends.{all_literals, most_nodes, nodes_at, nodes_left, schedules_left, left_to_do, Leaves, deliveries}
use Rattle.book_core.proofs.Sound.{negation_twice, found_stays, not_some, event_sound, opening_sound}

-- a list at one of its items
record Parted {A : Type 0} (xs : List A) (x : A) : Type 0 where
  pub front : List A
  pub back : List A
  pub same : xs ≡ front ++ x ∷ back

parted_at : {A : Type 0} (xs : List A) (x : A) (k : ℕ) → k < length xs → get_or xs k x ≡ x → Parted xs x
parted_at [] x k lt e = absurd (omega arith)
parted_at (y ∷ xs) x zero lt e = record { front = []; back = xs; same = ap (λ z. z ∷ xs) e }
parted_at (y ∷ xs) x (suc k) lt e =
    let p = parted_at xs x k (omega arith) e in
    record { front = y ∷ p.front; back = p.back; same = ap (λ zs. y ∷ zs) p.same }

only : {A : Type 0} (x y : A) (k : ℕ) → k < 1 → get_or (x ∷ []) k y ≡ y → x ≡ y
only x y zero lt e = e
only x y (suc k) lt e = absurd (omega arith)

-- what isn't the item is in front of it or behind it
elsewhere : {A : Type 0} (front back : List A) (x y : A) → Contains (front ++ x ∷ back) y → (x ≡ y → ⊥) → Contains (front ++ back) y
elsewhere front back x y h ne = elim (Contains-append_cases front (x ∷ back) y h) [
  | inl a ↦ Contains-append_left front back y a
  | inr b ↦ elim (Contains-append_cases (x ∷ []) back y b) [
    | inl c ↦ absurd (ne (only x y c.0 c.1 c.2))
    | inr d ↦ Contains-append_right front back y d
  ]
]

-- the literal or its negation is among these
abbrev IsAmong : List Literal → Literal → Type 0
IsAmong all l = Contains all l ⊎ Contains all (negation_of l)

-- one of these is used up
used_up : (xs all : List Literal) (r : Literal) → Contains all r → ((k : ℕ) (d : Literal) → k < length xs → (r ≡ get_or xs k d → ⊥) × (r ≡ negation_of (get_or xs k d) → ⊥)) → All (IsAmong all) xs → ((others : List Literal) → All (IsAmong others) xs → length xs ≤ length others) → suc (length xs) ≤ length all
used_up xs all r c other h rest =
    let p = parted_at all r c.0 c.1 c.2 in
    let few = rest (p.front ++ p.back) (λ k d lt. elim (h k d lt) [
      | inl a ↦ inl (elsewhere p.front p.back r (get_or xs k d) (subst (λ (zs : List Literal). Contains zs (get_or xs k d)) p.same a) (other k d lt).0)
      | inr b ↦ inr (elsewhere p.front p.back r (negation_of (get_or xs k d)) (subst (λ (zs : List Literal). Contains zs (negation_of (get_or xs k d))) p.same b) (other k d lt).1)
    ]) in
    let count : length all ≡ length (p.front ++ r ∷ p.back) = ap (λ (zs : List Literal). length zs) p.same in
    omega (arith, count, length-append p.front (r ∷ p.back), length-append p.front p.back, few)

-- literals that are apart are at most as many as those among which each is or its negation
not_more : (xs all : List Literal) → All (IsAmong all) xs → AllPairs IsApart xs → length xs ≤ length all
not_more [] all h apart = omega arith
not_more (x ∷ xs) all h apart =
    let later : AllPairs IsApart xs = λ i j d lt within. apart (suc i) (suc j) d (omega arith) (omega arith) in
    let rest : (others : List Literal) → All (IsAmong others) xs → length xs ≤ length others = λ others g. not_more xs others g later in
    let those : All (IsAmong all) xs = λ k d lt. h (suc k) d (omega arith) in
    let from : (k : ℕ) (d : Literal) → k < length xs → IsApart x (get_or xs k d) = λ k d lt. apart 0 (suc k) d (omega arith) (omega arith) in
    elim (h 0 x (omega arith)) [
      | inl a ↦ used_up xs all x a (λ k d lt. (
        (from k d lt).0,
        λ (e : x ≡ negation_of (get_or xs k d)). (from k d lt).1 (ap negation_of e ∙ negation_twice (get_or xs k d)),
      )) those rest
      | inr b ↦ used_up xs all (negation_of x) b (λ k d lt. (
        (from k d lt).1,
        λ (e : negation_of x ≡ negation_of (get_or xs k d)). (from k d lt).0 (sym (negation_twice x) ∙ (ap negation_of e ∙ negation_twice (get_or xs k d))),
      )) those rest
    ]

-- a clause's literals are among all
in_all : (clauses : List (List Literal)) (clause : List Literal) (l : Literal) (k : ℕ) → k < length clauses → get_or clauses k clause ≡ clause → Contains clause l → Contains (flat_map (λ (c : List Literal). c) clauses) l
in_all [] clause l k lt e h = absurd (omega arith)
in_all (c ∷ cs) clause l zero lt e h = Contains-append_left c (flat_map (λ (d : List Literal). d) cs) l (subst (λ (d : List Literal). Contains d l) (sym e) h)
in_all (c ∷ cs) clause l (suc k) lt e h = Contains-append_right c (flat_map (λ (d : List Literal). d) cs) l (in_all cs clause l k (omega arith) e h)

atom_in_all : (problem : Problem) (l : Literal) → IsAtom problem l → Contains (all_literals problem) l
atom_in_all problem l a = in_all problem.clauses a.0 l a.1.0 a.1.1 a.1.2 a.2

pub short : (problem : Problem) (s : State) → IsSound problem s → (k : ℕ) → length (cube_at s.cover k) ≤ length (all_literals problem)
short problem s h k =
    let among : (l : Literal) → IsDecidable problem l → IsAmong (all_literals problem) l = λ l d. elim d [
      | inl a ↦ inl (atom_in_all problem l a)
      | inr b ↦ inr (atom_in_all problem (negation_of l) b)
    ] in
    not_more (cube_at s.cover k) (all_literals problem) (All-weaker (IsDecidable problem) (IsAmong (all_literals problem)) among (cube_at s.cover k) (h.decided k)) (h.apart k)

some_node : (n : ℕ) → 1 ≤ most_nodes n
some_node zero = omega arith
some_node (suc n) = omega arith

-- another node stands at the number
left_set : (most : ℕ) (cubes : List (List Literal)) (nodes : List Node) (k : ℕ) (old new : Node) → k < length cubes → slice_get nodes k ≡ Some old
    → nodes_left most cubes (set nodes k new) + nodes_at most (get_or cubes k []) old ≡ nodes_left most cubes nodes + nodes_at most (get_or cubes k []) new
left_set most [] nodes k old new lt e = absurd (omega arith)
left_set most (cube ∷ cubes) [] k old new lt e = absurd cc
left_set most (cube ∷ cubes) (node ∷ nodes) zero old new lt e =
    let same : node ≡ old = cc in
    let at : nodes_at most cube node ≡ nodes_at most cube old = ap (λ (n : Node). nodes_at most cube n) same in
    omega (arith, at)
left_set most (cube ∷ cubes) (node ∷ nodes) (suc k) old new lt e = omega (arith, left_set most cubes nodes k old new (omega arith) e)

left_append : (most : ℕ) (cubes more : List (List Literal)) (nodes added : List Node) → length cubes ≡ length nodes
    → nodes_left most (cubes ++ more) (nodes ++ added) ≡ nodes_left most cubes nodes + nodes_left most more added
left_append most [] more [] added e = omega arith
left_append most [] more (node ∷ nodes) added e = absurd (omega arith)
left_append most (cube ∷ cubes) more [] added e = absurd (omega arith)
left_append most (cube ∷ cubes) more (node ∷ nodes) added e = omega (arith, left_append most cubes more nodes added (omega arith))

found_first : (found : Option (List ℤ)) (values : List ℤ) → schedules_left (first_found found values) ≡ 0
found_first None values = refl
found_first (Some first) values = refl

-- what a leaf leaves that becomes another node
module _ (most : ℕ) (c : Cubes) (k : ℕ) (long : length c.paths ≡ length c.nodes) (old : Node) (e : node_at c k ≡ Some old) where
  within : k < length c.paths
  within = omega (arith, slice_get_within c.nodes k old e)

  left_changed : (new : Node) → nodes_left most c.paths (set c.nodes k new) + nodes_at most (cube_at c k) old ≡ nodes_left most c.paths c.nodes + nodes_at most (cube_at c k) new
  left_changed new = left_set most c.paths c.nodes k old new within e

  left_divided : (l : Literal) → length (cube_at c k) + 1 ≤ most → nodes_at most (cube_at c k) old ≡ most_nodes (most - length (cube_at c k)) → nodes_left most (divided c k l).paths (divided c k l).nodes < nodes_left most c.paths c.nodes
  left_divided l room leaf =
      let cube : List Literal = cube_at c k in
      let split : Node = Split l (length c.nodes) in
      let below : ℕ = most_nodes (most - (length cube + 1)) in
      let first : most_nodes (most - length (cube ++ l ∷ [])) ≡ below = ap (λ (n : ℕ). most_nodes (most - n)) (length-append cube (l ∷ [])) in
      let second : most_nodes (most - length (cube ++ negation_of l ∷ [])) ≡ below = ap (λ (n : ℕ). most_nodes (most - n)) (length-append cube (negation_of l ∷ [])) in
      let levels : most - length cube ≡ suc (most - (length cube + 1)) = omega arith in
      let here : most_nodes (most - length cube) ≡ 1 + (below + below) = ap most_nodes levels in
      let all = left_append most c.paths ((cube ++ l ∷ []) ∷ (cube ++ negation_of l ∷ []) ∷ []) (set c.nodes k split) (Free ∷ Free ∷ []) (omega (arith, length-set c.nodes k split)) in
      omega (arith, all, left_changed split, first, second, here, leaf)

-- a sound state, and the sound one after the event
pub leaves : (problem : Problem) (s : State) (e : Event) → IsSound problem s → IsSound problem (after s e) → IsAllowed problem s e → s.found ≡ None → Leaves e (left_to_do problem s) (left_to_do problem (after s e))
leaves problem s (Take seat Done) h now a none = refl
leaves problem s (Take seat Idle) h now a none = refl
leaves problem s (Take seat (Cube id)) h now a none =
    omega (arith, left_changed (length (all_literals problem)) s.cover id (as_long s.cover h.cover) Free a.1 (Held seat))
leaves problem s (Release seat id) h now a none =
    omega (arith, left_changed (length (all_literals problem)) s.cover id (as_long s.cover h.cover) (Held seat) a Free)
leaves problem s (Deliver seat id batch (Found values)) h now a none =
    let before : schedules_left s.found ≡ 1 = ap schedules_left none in
    (omega (arith, before, found_first s.found values, left_changed (length (all_literals problem)) s.cover id (as_long s.cover h.cover) (Held seat) a.0 Free), λ said. absurd cc)
leaves problem s (Deliver seat id batch (ShutBy j)) h now a none =
    let most : ℕ = length (all_literals problem) in
    (omega (arith, some_node (most - length (cube_at s.cover id)), left_changed most s.cover id (as_long s.cover h.cover) (Held seat) a.0 (Shut (moved_number batch.seen (length s.lemmas) j))), λ said. absurd cc)
leaves problem s (Deliver seat id batch (SplitBy l)) h now a none =
    let most : ℕ = length (all_literals problem) in
    let long = as_long s.cover h.cover in
    let longer : length (cube_at (divided s.cover id l) (length s.cover.nodes)) ≤ most = short problem (after s (Deliver seat id batch (SplitBy l))) now (length s.cover.nodes) in
    let count : length (cube_at (divided s.cover id l) (length s.cover.nodes)) ≡ length (cube_at s.cover id) + 1 = ap (λ (p : List Literal). length p) (cube_first s.cover id l long) ∙ length-append (cube_at s.cover id) (l ∷ []) in
    (omega (arith, left_divided most s.cover id long (Held seat) a.0 l (omega (arith, longer, count)) refl), λ said. absurd cc)
leaves problem s (Deliver seat id batch Open) h now a none =
    let as_much : left_to_do problem (after s (Deliver seat id batch Open)) ≡ left_to_do problem s = omega (arith, left_changed (length (all_literals problem)) s.cover id (as_long s.cover h.cover) (Held seat) a.0 Free) in
    (omega (arith, as_much), λ said. as_much)

found_after : (s : State) (e : Event) → IsSome s.found → IsSome (after s e).found
found_after s (Take seat taken) h = h
found_after s (Deliver seat id batch outcome) h = found_stays s outcome h
found_after s (Release seat id) h = h

-- no schedule was found before either
unfound_before : (s : State) (e : Event) → (after s e).found ≡ None → s.found ≡ None
unfound_before s e none = by s.found refl
  where
    by : (o : Option (List ℤ)) → s.found ≡ o → o ≡ None
    by None is = refl
    by (Some values) is = absurd (not_some (after s e).found none (found_after s e (subst IsSome (sym is) refl)))

-- from the start of a run to its end
unfound_start : (s : State) (events : List Event) → (replayed_from s events).found ≡ None → s.found ≡ None
unfound_start s [] none = none
unfound_start s (e ∷ events) none = unfound_before s e (unfound_start (after s e) events none)

counted : (e : Event) (events : List Event) (before now end : ℕ) → Leaves e before now → deliveries events + end ≤ now → deliveries (e ∷ events) + end ≤ before
counted (Take seat taken) events before now end l h = omega (arith, l, h)
counted (Deliver seat id batch outcome) events before now end l h = omega (arith, l.0, h)
counted (Release seat id) events before now end l h = omega (arith, l, h)

module _ (problem : Problem) (moved_batch : MovedBatchLaw) (joined : JoinedLaw) where
  few_from : (s : State) (events : List Event) → IsSound problem s → IsRunFrom problem s events → (replayed_from s events).found ≡ None
      → deliveries events + left_to_do problem (replayed_from s events) ≤ left_to_do problem s
  few_from s [] h r none = omega arith
  few_from s (e ∷ events) h r none =
      let next = event_sound problem moved_batch joined s e h r.0 in
      let first = leaves problem s e h next r.0 (unfound_start s (e ∷ events) none) in
      let later = few_from (after s e) events next r.1 none in
      counted e events (left_to_do problem s) (left_to_do problem (after s e)) (left_to_do problem (replayed_from (after s e) events)) first later

  pub few : (opening : List Lemma) (events : List Event) → IsOpening problem opening → IsRun problem opening events → (replayed opening events).found ≡ None
      → deliveries events + left_to_do problem (replayed opening events) ≤ left_to_do problem (opened opening)
  few opening events opens r none = few_from (opened opening) events (opening_sound problem moved_batch joined opening opens) r none
