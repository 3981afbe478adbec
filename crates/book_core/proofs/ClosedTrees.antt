-- The steps that close a cover are a tree.
use Rattle.std.proofs.Common.{arith, ◌≡◌, ℕ, suc, ◌<◌, ◌≤◌, ◌+◌, ◌-◌, ◌*◌, ◌^◌, inl, inr, List, [], ◌∷◌, ◌++◌, length, map, Some, All, Contains, refl, sym, ap, ◌∙◌, subst, append_assoc, append-nil}
use Rattle.std.specs.Prelude.{slice_get}
use Rattle.std.proofs.Math.Nat.{pow-le-pow_right, one-le-pow, pow-succ'}
use Rattle.std.proofs.lemmas.Int.{ints}
use Rattle.std.proofs.lemmas.List.{length-set}
use Rattle.std.proofs.lemmas.List.Elements.{All-nil, All-cons, All-push, All-append, Contains-append_left, Contains-append_right}
use Rattle.stn_core.specs.declared.literal.Literal.{Literal}
use Rattle.stn_core.specs.Literal.{negation_of, IsOver}
use Rattle.stn_core.specs.Answer.{IsCycleAmong}
use Rattle.refute_tree.specs.declared.step.Step.{Step}
use Rattle.refute_tree.specs.declared.step.Step.TheVariants.{Lemma as Earlier, Either}
use Rattle.refute_tree.specs.Trees.{Tree, Forest, IsDenied, leaf, cases, none, more}
use Rattle.refute_tree.specs.Batches.{NamesOver}
use Rattle.refute_tree.proofs.Kept.{tree_assuming_more, AreIn}
use Rattle.cover_tree.specs.Covers.{Cubes, IsCover, opening, changes, divides, cube_at}
use Rattle.cover_tree.specs.code.Branches.{AreBranches}
use Rattle.cover_tree.proofs.Parts.{as_long, all_but_last}
use Rattle.cover_tree.proofs.Branching.{branches, cube_kept, length_divided}
use Rattle.book_core.specs.Facts.{AreShut}
use Rattle.book_core.specs.code.Closing.{AreOver, two_cycle, leaf_steps, SplitWritten, LeafWritten, Written, writing}

-- the root has no literals
root_cube : (c : Cubes) → IsCover c → (cube_at c 0 ≡ []) × (0 < length c.nodes)
root_cube c opening = (refl, omega arith)
root_cube c (changes d k old new h e lo ln) = let r = root_cube d h in (r.0, omega (arith, r.1, length-set d.nodes k new))
root_cube c (divides d k old l h e lo) =
    let r = root_cube d h in
    let n = length_divided d k l (as_long d h) in
    (cube_kept d k l (as_long d h) 0 r.1 ∙ r.0, omega (arith, r.1, n))

module _ (inputs clauses : List (List Literal)) where
  two_cycle_among : (assumed : List Literal) (l : Literal) → Contains assumed (negation_of l) → IsCycleAmong (assumed ++ l ∷ []) (l ∷ negation_of l ∷ [])
  two_cycle_among assumed l h = record {
    negative = record { some = omega arith; closed = (l.x, (refl, (refl, refl))); negative = omega (arith, ints) };
    given = All-cons (Contains (assumed ++ l ∷ [])) l (negation_of l ∷ []) (Contains-append_right assumed (l ∷ []) l (0, omega arith, refl))
        (All-cons (Contains (assumed ++ l ∷ [])) (negation_of l) [] (Contains-append_left assumed (l ∷ []) (negation_of l) h) (All-nil (Contains (assumed ++ l ∷ []))));
  }

  leaf_forest : (cube assumed clause : List Literal) (rest : List Step) → AreIn cube assumed → IsDenied cube clause → Forest inputs clauses assumed clause (map two_cycle clause ++ rest) rest
  leaf_forest cube assumed [] rest in_ h = none
  leaf_forest cube assumed (l ∷ clause) rest in_ h =
      let here : Contains cube (negation_of l) = h 0 (negation_of l) (omega arith) in
      more (leaf (two_cycle_among assumed l (in_ (negation_of l) here)))
      (leaf_forest cube (assumed ++ negation_of l ∷ []) clause rest (λ m c. Contains-append_left assumed (negation_of l ∷ []) m (in_ m c)) (λ k d lt. h (suc k) d (omega arith)))

  pub leaf_tree : (cube clause : List Literal) (j : ℕ) (rest : List Step) → slice_get clauses j ≡ Some clause → IsDenied cube clause → Tree inputs clauses cube (leaf_steps j clause ++ rest) rest
  leaf_tree cube clause j rest e h = cases e (leaf_forest cube cube clause rest (λ l c. c) h)

  pub either_tree : (cube : List Literal) (l : Literal) (steps middle rest : List Step) → Tree inputs clauses (cube ++ l ∷ []) steps middle → Tree inputs clauses (cube ++ negation_of l ∷ []) middle rest → Tree inputs clauses cube (Either l ∷ steps) rest
  either_tree cube l steps middle rest t u =
      let more_assumed = tree_assuming_more inputs clauses (cube ++ negation_of l ∷ []) ((cube ++ negation_of l ∷ []) ++ negation_of l ∷ []) middle rest u (λ m c. Contains-append_left (cube ++ negation_of l ∷ []) (negation_of l ∷ []) m c) in
      cases refl (more t (more more_assumed none))

  module _ (c : Cubes) where
    -- the steps begin with one tree for each waiting node, the last one's first
    abbrev pub Reads : List ℕ → List Step → List Step → Type 0
    Reads [] steps rest = steps ≡ rest
    Reads (k ∷ ks) steps rest = (middle : List Step) × Reads ks steps middle × Tree inputs clauses (cube_at c k) middle rest

    reads_push : (ks : List ℕ) (k : ℕ) (steps middle rest : List Step) → Tree inputs clauses (cube_at c k) steps middle → Reads ks middle rest → Reads (ks ++ k ∷ []) steps rest
    reads_push [] k steps middle rest t r = (steps, refl, subst (λ (s : List Step). Tree inputs clauses (cube_at c k) steps s) r t)
    reads_push (j ∷ ks) k steps middle rest t r = (r.0, reads_push ks k steps middle r.0 t r.1, r.2)

    reads_pop : (ks : List ℕ) (k : ℕ) (steps rest : List Step) → Reads (ks ++ k ∷ []) steps rest → (middle : List Step) × Tree inputs clauses (cube_at c k) steps middle × Reads ks middle rest
    reads_pop [] k steps rest r = (rest, subst (λ (s : List Step). Tree inputs clauses (cube_at c k) s rest) (sym r.1) r.2, refl)
    reads_pop (j ∷ ks) k steps rest r = let h = reads_pop ks k steps r.0 r.1 in (h.0, h.1, (r.0, h.2, r.2))

    -- whatever reads as the waiting nodes' trees makes what is written the whole tree
    abbrev pub IsOnWay : List ℕ → List Step → Type 0
    IsOnWay ks steps = (later : List Step) → Reads ks later [] → Tree inputs clauses [] (steps ++ later) []

    begun : IsCover c → IsOnWay (0 ∷ []) []
    begun h later r = subst (λ (cube : List Literal). Tree inputs clauses cube later []) (root_cube c h).0 (subst (λ (s : List Step). Tree inputs clauses (cube_at c 0) s []) (sym r.1) r.2)

    turned_split : (ks : List ℕ) (k : ℕ) (steps : List Step) (l : Literal) (n : ℕ) → AreBranches c k l n → IsOnWay (ks ++ k ∷ []) steps → IsOnWay ((ks ++ (n + 1) ∷ []) ++ n ∷ []) (steps ++ Either l ∷ [])
    turned_split ks k steps l n b h later r =
        let one = reads_pop (ks ++ (n + 1) ∷ []) n later [] r in
        let two = reads_pop ks (n + 1) one.0 [] one.2 in
        let t = subst (λ (cube : List Literal). Tree inputs clauses cube later one.0) b.first one.1 in
        let u = subst (λ (cube : List Literal). Tree inputs clauses cube one.0 two.0) b.second two.1 in
        let both = either_tree (cube_at c k) l later one.0 two.0 t u in
        subst (λ (s : List Step). Tree inputs clauses [] s []) (sym (append_assoc steps (Either l ∷ []) later)) (h (Either l ∷ later) (reads_push ks k (Either l ∷ later) two.0 [] both two.2))

    turned_shut : (ks : List ℕ) (k : ℕ) (steps : List Step) (j : ℕ) (clause : List Literal) → slice_get clauses j ≡ Some clause → IsDenied (cube_at c k) clause → IsOnWay (ks ++ k ∷ []) steps → IsOnWay ks (steps ++ leaf_steps j clause)
    turned_shut ks k steps j clause e x h later r =
        subst (λ (s : List Step). Tree inputs clauses [] s []) (sym (append_assoc steps (leaf_steps j clause) later)) (h (leaf_steps j clause ++ later) (reads_push ks k (leaf_steps j clause ++ later) later [] (leaf_tree (cube_at c k) clause j later e x) r))

-- more is left below a node than below its branches
abbrev pub weight_of : ℕ → List ℕ → ℕ
weight_of n [] = 0
weight_of n (k ∷ ks) = 2 ^ (n - k) + weight_of n ks

weight_push : (n : ℕ) (ks : List ℕ) (k : ℕ) → weight_of n (ks ++ k ∷ []) ≡ weight_of n ks + 2 ^ (n - k)
weight_push n [] k = omega arith
weight_push n (j ∷ ks) k = omega (arith, weight_push n ks k)

branches_less : (count k n : ℕ) → k < n → n + 1 < count → 2 ^ (count - n) + 2 ^ (count - (n + 1)) < 2 ^ (count - k)
branches_less count k n lt high =
    let a : ℕ = count - (n + 1) in
    let ea : count - n ≡ suc a = omega arith in
    let low : suc (suc a) ≤ count - k = omega arith in
    let big : 2 ^ suc (suc a) ≤ 2 ^ (count - k) = pow-le-pow_right (omega arith) low in
    let some : 1 ≤ 2 ^ a = one-le-pow a 2 (omega arith) in
    let one : 2 ^ suc a ≡ 2 * 2 ^ a = pow-succ' 2 a in
    let two : 2 ^ suc (suc a) ≡ 2 * 2 ^ suc a = pow-succ' 2 (suc a) in
    subst (λ (m : ℕ). 2 ^ m + 2 ^ a < 2 ^ (count - k)) (sym ea) (omega arith)

-- one turn, with all that lasts
pub record IsPending (points : ℕ) (c : Cubes) (clauses : List (List Literal)) (ks : List ℕ) (steps : List Step) : Type 0 where
  pub there : All (λ k. k < length c.nodes) ks
  pub over : All (NamesOver points) steps
  pub reads : (inputs : List (List Literal)) → IsOnWay inputs clauses c ks steps

pub pending_begun : (points : ℕ) (c : Cubes) (clauses : List (List Literal)) → IsCover c → IsPending points c clauses (0 ∷ []) []
pending_begun points c clauses h = record {
  there = All-cons (λ (k : ℕ). k < length c.nodes) 0 [] (root_cube c h).1 (All-nil (λ (k : ℕ). k < length c.nodes));
  over = All-nil (NamesOver points);
  reads = λ inputs. begun inputs clauses c h;
}

pub pending_end : (points : ℕ) (c : Cubes) (clauses : List (List Literal)) (steps : List Step) (inputs : List (List Literal)) → IsPending points c clauses [] steps → Tree inputs clauses [] steps []
pending_end points c clauses steps inputs h = subst (λ (s : List Step). Tree inputs clauses [] s []) (append-nil steps) (h.reads inputs [] refl)

leaf_over : (points : ℕ) (clause : List Literal) → All (NamesOver points) (map two_cycle clause)
leaf_over points [] = All-nil (NamesOver points)
leaf_over points (l ∷ clause) = All-cons (NamesOver points) (two_cycle l) (map two_cycle clause) (All-nil (IsOver points)) (leaf_over points clause)

module _ (points : ℕ) (c : Cubes) (clauses : List (List Literal)) (cover : IsCover c) (shut : AreShut c clauses) (over : AreOver points c) where
  abbrev Within : ℕ → Type 0
  Within k = k < length c.nodes

  pub written_split : (waiting waiting_new : List ℕ) (k : ℕ) (steps steps_new : List Step) → IsPending points c clauses (waiting ++ k ∷ []) steps → SplitWritten c k (writing steps waiting) (writing steps_new waiting_new)
      → IsPending points c clauses waiting_new steps_new × (weight_of (length c.nodes) waiting_new < weight_of (length c.nodes) (waiting ++ k ∷ []))
  written_split waiting waiting_new k steps steps_new old s =
      let l = s.literal in
      let n = s.first in
      let rest = all_but_last Within waiting k old.there in
      let weight : weight_of (length c.nodes) (waiting ++ k ∷ []) ≡ weight_of (length c.nodes) waiting + 2 ^ (length c.nodes - k) = weight_push (length c.nodes) waiting k in
      let b = branches c cover k l n s.at in
      let low = b.below in
      let high = b.there in
      let one : IsOver points l = (all_but_last (IsOver points) (cube_at c k) l (subst (All (IsOver points)) b.first (over n))).1 in
      let names : NamesOver points (Either l) = All-cons (IsOver points) l [] one (All-nil (IsOver points)) in
      let less = branches_less (length c.nodes) k n low high in
      let pushed : weight_of (length c.nodes) ((waiting ++ (n + 1) ∷ []) ++ n ∷ []) ≡ weight_of (length c.nodes) waiting + 2 ^ (length c.nodes - (n + 1)) + 2 ^ (length c.nodes - n) =
      weight_push (length c.nodes) (waiting ++ (n + 1) ∷ []) n ∙ ap (λ (m : ℕ). m + 2 ^ (length c.nodes - n)) (weight_push (length c.nodes) waiting (n + 1)) in
      rw (s.written, s.waits) (
        record {
          there = All-push Within (waiting ++ (n + 1) ∷ []) n (All-push Within waiting (n + 1) rest.0 high) (omega arith);
          over = All-push (NamesOver points) steps (Either l) old.over names;
          reads = λ inputs. turned_split inputs clauses c waiting k steps l n b (old.reads inputs);
        },
        omega arith,
      )

  pub written_leaf : (waiting waiting_new : List ℕ) (k : ℕ) (steps steps_new : List Step) → IsPending points c clauses (waiting ++ k ∷ []) steps → LeafWritten c clauses k (writing steps waiting) (writing steps_new waiting_new)
      → IsPending points c clauses waiting_new steps_new × (weight_of (length c.nodes) waiting_new < weight_of (length c.nodes) (waiting ++ k ∷ []))
  written_leaf waiting waiting_new k steps steps_new old s =
      let rest = all_but_last Within waiting k old.there in
      let weight : weight_of (length c.nodes) (waiting ++ k ∷ []) ≡ weight_of (length c.nodes) waiting + 2 ^ (length c.nodes - k) = weight_push (length c.nodes) waiting k in
      let x = shut k s.lemma s.at in
      let same : Some x.0 ≡ Some s.clause = sym x.1 ∙ s.stated in
      let denied : IsDenied (cube_at c k) s.clause = subst (IsDenied (cube_at c k)) (some_same same) x.2 in
      let some : 1 ≤ 2 ^ (length c.nodes - k) = one-le-pow (length c.nodes - k) 2 (omega arith) in
      rw (s.written, s.waits) (
        record {
          there = rest.0;
          over = All-append (NamesOver points) steps (leaf_steps s.lemma s.clause) old.over (All-cons (NamesOver points) (Earlier s.lemma) (map two_cycle s.clause) (All-nil (IsOver points)) (leaf_over points s.clause));
          reads = λ inputs. turned_shut inputs clauses c waiting k steps s.lemma s.clause s.stated denied (old.reads inputs);
        },
        omega arith,
      )
    where
      some_same : {x y : List Literal} → Some x ≡ Some y → x ≡ y
      some_same e = cc

  pub written : (ks waiting waiting_new : List ℕ) (k : ℕ) (steps steps_new : List Step) → ks ≡ waiting ++ k ∷ [] → IsPending points c clauses ks steps → Written c clauses k (writing steps waiting) (writing steps_new waiting_new)
      → IsPending points c clauses waiting_new steps_new × (weight_of (length c.nodes) waiting_new < weight_of (length c.nodes) ks)
  written ks waiting waiting_new k steps steps_new e h t =
      let old : IsPending points c clauses (waiting ++ k ∷ []) steps = subst (λ (js : List ℕ). IsPending points c clauses js steps) e h in
      let both : IsPending points c clauses waiting_new steps_new × (weight_of (length c.nodes) waiting_new < weight_of (length c.nodes) (waiting ++ k ∷ [])) = elim t [
        | inl s ↦ written_split waiting waiting_new k steps steps_new old s
        | inr s ↦ written_leaf waiting waiting_new k steps steps_new old s
      ] in
      (both.0, subst (λ (js : List ℕ). weight_of (length c.nodes) waiting_new < weight_of (length c.nodes) js) (sym e) both.1)

pub pending_from : (points : ℕ) (c : Cubes) (clauses : List (List Literal)) (ks : List ℕ) (steps : List Step) → IsCover c → ks ≡ 0 ∷ [] → steps ≡ [] → IsPending points c clauses ks steps
pending_from points c clauses ks steps h ek es = rw (ek, es) (pending_begun points c clauses h)

pub pending_done : (points : ℕ) (c : Cubes) (clauses : List (List Literal)) (ks : List ℕ) (steps res : List Step) → ks ≡ [] → res ≡ steps → IsPending points c clauses ks steps → (inputs : List (List Literal)) → Tree inputs clauses [] res []
pending_done points c clauses ks steps res ek er h inputs =
    let at_end : IsPending points c clauses [] steps = subst (λ (js : List ℕ). IsPending points c clauses js steps) ek h in
    subst (λ (s : List Step). Tree inputs clauses [] s []) (sym er) (pending_end points c clauses steps inputs at_end)
