-- What is trimmed is refuted as it was.
use Rattle.std.proofs.Common.{arith, ◌≡◌, ◌<◌, ◌≤◌, ◌+◌, ◌-◌, ℕ, zero, suc, Bool, true, false, List, [], ◌∷◌, ◌++◌, length, map, take, Some, All, Contains, refl, sym, ap, subst, ◌∙◌, get_or, length-append}
use Rattle.std.specs.Prelude.{slice_get, nat_lt, if◌then◌else◌}
use Rattle.std.specs.List.{items_where_true}
use Rattle.std.proofs.lemmas.Bool.Decides.{nat_tests}
use Rattle.std.proofs.lemmas.List.{take-map, length-take-le, length-map}
use Rattle.std.proofs.lemmas.List.Elements.{All-head, All-tail, All-map, All-weaker, All-contains_itself}
use Rattle.std.proofs.lemmas.Option.{slice_get_within, slice_get-get_or}
use Rattle.stn_core.specs.declared.literal.Literal.{Literal}
use Rattle.refute_tree.specs.declared.step.Step.{Step}
use Rattle.refute_tree.specs.declared.step.Step.TheVariants.{Cycle, Input, Lemma as Earlier, Clash, Either}
use Rattle.refute_tree.specs.declared.lemma.Lemma.{Lemma}
use Rattle.refute_tree.specs.Trees.{clause_of, Tree, Forest, leaf, clash, cases, none, more, NamesPoints, IsRefuted, IsRefutation, stated}
use Rattle.refute_tree.specs.Batches.{LemmaBatch, AreRefuted, NamesOver, LemmaIsOver}
use Rattle.refute_tree.proofs.Moved.{get_behind}
use Rattle.refute_tree.proofs.Numbered.{each_refuted, refuted_each}
use Rattle.trim_lemmas.specs.Trimming.{root, cited, AreNeeded, IsLast, IsWanted, place, renumbered_number, renumbered_step, renumbered, shortened, IsTrimmed, IsTrimmedBatch, StaysRefutation, StaysRefuted, StaysOver, StaysStated, last_clause}
use Rattle.trim_lemmas.proofs.Picked.{picked_none, comes_from, goes_to, get_mapped, map_get, All-picked}

-- ---- a tree whose lemmas are all kept

-- the lemma that the step cites, if it is one of the list's first, is needed
abbrev CitesNeeded : ℕ → ℕ → List Bool → Step → Type 0
CitesNeeded seen count needed (Earlier j) = seen ≤ j → j < count → get_or needed (j - seen) false ≡ true
CitesNeeded seen count needed step = Unit {0}

module _ (seen : ℕ) (inputs lemmas fewer : List (List Literal)) (needed : List Bool)
    (kept : (j : ℕ) (clause : List Literal) → slice_get lemmas j ≡ Some clause → (seen ≤ j → get_or needed (j - seen) false ≡ true) → slice_get fewer (renumbered_number seen needed j) ≡ Some clause) where
  abbrev Good : Step → Type 0
  Good s = CitesNeeded seen (length lemmas) needed s

  opened : (s : Step) (clause : List Literal) → Good s → clause_of inputs lemmas s ≡ Some clause → clause_of inputs fewer (renumbered_step seen needed s) ≡ Some clause
  opened (Cycle cycle) clause h e = e
  opened (Input i) clause h e = e
  opened (Earlier j) clause h e = kept j clause e (λ le. h le (slice_get_within lemmas j clause e))
  opened (Clash i) clause h e = e
  opened (Either l) clause h e = e

  abbrev mapped : List Step → List Step
  mapped steps = map (renumbered_step seen needed) steps

  mutual
    tree_kept : {assumed : List Literal} {steps rest : List Step} → Tree inputs lemmas assumed steps rest → All Good steps → Tree inputs fewer assumed (mapped steps) (mapped rest) × All Good rest
    tree_kept (leaf {cycle = cycle} {rest = rest} h) all = (leaf h, All-tail Good (Cycle cycle) rest all)
    tree_kept (clash {i = i} {rest = rest} e h) all = (clash e h, All-tail Good (Clash i) rest all)
    tree_kept (cases {clause = clause} {step = step} {steps = steps} e f) all =
        let after = forest_kept f (All-tail Good step steps all) in
        (cases (opened step clause (All-head Good step steps all) e) after.0, after.1)

    forest_kept : {assumed clause : List Literal} {steps rest : List Step} → Forest inputs lemmas assumed clause steps rest → All Good steps → Forest inputs fewer assumed clause (mapped steps) (mapped rest) × All Good rest
    forest_kept none all = (none, all)
    forest_kept (more t f) all =
        let first = tree_kept t all in
        let after = forest_kept f first.1 in
        (more first.0 after.0, after.1)

-- ---- the last clause

last_of : (lemma : Lemma) (lemmas : List Lemma) → (c : List Literal) × (last_clause (lemma ∷ lemmas) ≡ Some c)
last_of lemma [] = (lemma.clause, refl)
last_of lemma (other ∷ lemmas) = last_of other lemmas

last_behind : (first lemma : Lemma) (lemmas others : List Lemma) → last_clause others ≡ last_clause (lemma ∷ lemmas) → last_clause (first ∷ others) ≡ last_clause (lemma ∷ lemmas)
last_behind first lemma lemmas [] e = let h = last_of lemma lemmas in let is = h.1 in absurd (cc)
last_behind first lemma lemmas (other ∷ others) e = e

last_picked : (needed : List Bool) (lemmas : List Lemma) → ((k : ℕ) → suc k ≡ length lemmas → get_or needed k false ≡ true) → last_clause (items_where_true needed lemmas) ≡ last_clause lemmas
last_picked needed [] h = ap last_clause (picked_none needed)
last_picked [] (lemma ∷ lemmas) h = let m = h (length lemmas) refl in absurd (cc)
last_picked (true ∷ needed) (lemma ∷ []) h = ap (λ (ls : List Lemma). last_clause (lemma ∷ ls)) (picked_none needed)
last_picked (false ∷ needed) (lemma ∷ []) h = let m = h 0 refl in absurd (cc)
last_picked (true ∷ needed) (lemma ∷ other ∷ lemmas) h = last_behind lemma other lemmas (items_where_true needed (other ∷ lemmas)) (last_picked needed (other ∷ lemmas) (λ k e. h (suc k) (ap suc e)))
last_picked (false ∷ needed) (lemma ∷ other ∷ lemmas) h = last_picked needed (other ∷ lemmas) (λ k e. h (suc k) (ap suc e))

last_renumbered : (seen : ℕ) (needed : List Bool) (lemmas : List Lemma) → last_clause (map (renumbered seen needed) lemmas) ≡ last_clause lemmas
last_renumbered seen needed [] = refl
last_renumbered seen needed (lemma ∷ []) = refl
last_renumbered seen needed (lemma ∷ other ∷ lemmas) = last_renumbered seen needed (other ∷ lemmas)

last_by : (lemmas : List Lemma) (k : ℕ) (lemma : Lemma) → suc k ≡ length lemmas → slice_get lemmas k ≡ Some lemma → last_clause lemmas ≡ Some lemma.clause
last_by [] k lemma long e = absurd (cc)
last_by (first ∷ []) zero lemma long e = let same : first ≡ lemma = cc in ap (λ (l : Lemma). Some l.clause) same
last_by (first ∷ []) (suc k) lemma long e = absurd (omega (arith, long))
last_by (first ∷ other ∷ lemmas) zero lemma long e = absurd (omega (arith, long))
last_by (first ∷ other ∷ lemmas) (suc k) lemma long e = last_by (other ∷ lemmas) k lemma (omega (arith, long)) e

last_at : (lemmas : List Lemma) (lemma : Lemma) → slice_get lemmas (length lemmas - 1) ≡ Some lemma → last_clause lemmas ≡ Some lemma.clause
last_at lemmas lemma e = let in_ = slice_get_within lemmas (length lemmas - 1) lemma e in last_by lemmas (length lemmas - 1) lemma (omega (arith, in_)) e

some_of_last : (lemmas : List Lemma) (c : List Literal) → last_clause lemmas ≡ Some c → 0 < length lemmas
some_of_last [] c e = absurd (cc)
some_of_last (lemma ∷ lemmas) c e = omega arith

stated_renumbered : (seen : ℕ) (needed : List Bool) (lemmas : List Lemma) → map stated (map (renumbered seen needed) lemmas) ≡ map stated lemmas
stated_renumbered seen needed [] = refl
stated_renumbered seen needed (lemma ∷ lemmas) = ap (λ (cs : List (List Literal)). lemma.clause ∷ cs) (stated_renumbered seen needed lemmas)

points_kept : (points seen : ℕ) (needed : List Bool) (s : Step) → NamesPoints points s → NamesPoints points (renumbered_step seen needed s)
points_kept points seen needed (Cycle cycle) h = h
points_kept points seen needed (Input i) h = h
points_kept points seen needed (Earlier j) h = h
points_kept points seen needed (Clash i) h = h
points_kept points seen needed (Either l) h = h

over_kept : (points seen : ℕ) (needed : List Bool) (s : Step) → NamesOver points s → NamesOver points (renumbered_step seen needed s)
over_kept points seen needed (Cycle cycle) h = h
over_kept points seen needed (Input i) h = h
over_kept points seen needed (Earlier j) h = h
over_kept points seen needed (Clash i) h = h
over_kept points seen needed (Either l) h = h

lemma_over : (points seen : ℕ) (needed : List Bool) (lemma : Lemma) → LemmaIsOver points lemma → LemmaIsOver points (renumbered seen needed lemma)
lemma_over points seen needed lemma h = record {
  clause = h.clause;
  steps = All-map (NamesOver points) (renumbered_step seen needed) lemma.steps (All-weaker (NamesOver points) (λ s. NamesOver points (renumbered_step seen needed s)) (over_kept points seen needed) lemma.steps h.steps);
}

-- what stands before the list, and in it
get_first : (first own other : List (List Literal)) (j : ℕ) (x : List Literal) → j < length first → slice_get (first ++ own) j ≡ Some x → slice_get (first ++ other) j ≡ Some x
get_first [] own other j x lt e = absurd (omega arith)
get_first (y ∷ first) own other zero x lt e = e
get_first (y ∷ first) own other (suc j) x lt e = get_first first own other j x (omega arith) e

-- ---- the list

module _ (Root : ℕ → Type 0) (seen : ℕ) (lemmas : List Lemma) (needed : List Bool) (are : AreNeeded Root seen lemmas needed) where
  over_shorter : StaysOver lemmas (shortened seen needed lemmas)
  over_shorter points h =
      let picked = items_where_true needed lemmas in
      All-map (LemmaIsOver points) (renumbered seen needed) picked
      (All-weaker (LemmaIsOver points) (λ l. LemmaIsOver points (renumbered seen needed l)) (lemma_over points seen needed) picked (All-picked (LemmaIsOver points) needed lemmas h))

  stated_shorter : StaysStated needed lemmas (shortened seen needed lemmas)
  stated_shorter j lemma e m = (
    renumbered seen needed lemma,
    map_get (renumbered seen needed) (items_where_true needed lemmas) (place needed j) lemma (goes_to needed lemmas j lemma e m),
    refl,
  )

  module _ (first : List (List Literal)) (is : length first ≡ seen) where
    -- a needed lemma cites needed ones alone
    cites_by : (k : ℕ) (lemma : Lemma) → slice_get lemmas k ≡ Some lemma → get_or needed k false ≡ true → (s : Step) → Contains lemma.steps s → CitesNeeded seen (length (first ++ map stated (take k lemmas))) needed s
    cites_by k lemma at m (Cycle cycle) c = tt
    cites_by k lemma at m (Input i) c = tt
    cites_by k lemma at m (Earlier j) c = λ le lt.
        let in_ = slice_get_within lemmas k lemma at in
        let below : j - seen < k = omega (arith, lt, le, is, length-append first (map stated (take k lemmas)), length-map (take k lemmas) stated, length-take-le k lemmas (omega arith)) in
        let same : j ≡ seen + (j - seen) = omega (arith, le) in
        let here = are.right k in
        let other = are.right (j - seen) in
        other.1 (cited (here.0 m) (record { lemma = lemma; at = at; before = below; cited = subst (λ (n : ℕ). Contains lemma.steps (Earlier n)) same c }))
    cites_by k lemma at m (Clash i) c = tt
    cites_by k lemma at m (Either l) c = tt

    kept_clause : (k j : ℕ) (clause : List Literal) (b : Bool) → nat_lt j seen ≡ b → slice_get (first ++ map stated (take k lemmas)) j ≡ Some clause → (seen ≤ j → get_or needed (j - seen) false ≡ true)
        → slice_get (first ++ map stated (items_where_true needed (take k lemmas))) (if b then j else seen + place needed (j - seen)) ≡ Some clause
    kept_clause k j clause true t e m =
        let below : j < seen = grind (arith, nat_tests) in
        get_first first (map stated (take k lemmas)) (map stated (items_where_true needed (take k lemmas))) j clause (omega (arith, below, is)) e
    kept_clause k j clause false t e m =
        let above : seen ≤ j = grind (arith, nat_tests) in
        let i = j - seen in
        let here : j ≡ length first + i = omega (arith, above, is) in
        let there : seen + place needed i ≡ length first + place needed i = omega (arith, is) in
        let own : slice_get (map stated (take k lemmas)) i ≡ Some clause = sym (get_behind first (map stated (take k lemmas)) i) ∙ ap (slice_get (first ++ map stated (take k lemmas))) (sym here) ∙ e in
        let found = get_mapped stated (take k lemmas) i clause own in
        ap (slice_get (first ++ map stated (items_where_true needed (take k lemmas)))) there
        ∙ get_behind first (map stated (items_where_true needed (take k lemmas))) (place needed i)
        ∙ map_get stated (items_where_true needed (take k lemmas)) (place needed i) found.0 (goes_to needed (take k lemmas) i found.0 found.1 (m above))
        ∙ ap (λ (c : List Literal). Some c) found.2

    module _ (points : ℕ) (clauses : List (List Literal))
        (h : (k : ℕ) (lemma : Lemma) → slice_get lemmas k ≡ Some lemma → IsRefuted points clauses (first ++ map stated (take k lemmas)) lemma) where
      -- the lemma of number k, over those before it that are kept
      refuted_at : (k : ℕ) (lemma : Lemma) → slice_get lemmas k ≡ Some lemma → get_or needed k false ≡ true
          → IsRefuted points clauses (first ++ map stated (items_where_true needed (take k lemmas))) (renumbered seen needed lemma)
      refuted_at k lemma at m =
          let r = h k lemma at in
          let earlier = first ++ map stated (take k lemmas) in
          let all : All (CitesNeeded seen (length earlier) needed) lemma.steps = All-weaker (Contains lemma.steps) (CitesNeeded seen (length earlier) needed) (cites_by k lemma at m) lemma.steps (All-contains_itself lemma.steps) in
          let tree = tree_kept seen clauses earlier (first ++ map stated (items_where_true needed (take k lemmas))) needed (λ j clause e n. kept_clause k j clause (nat_lt j seen) refl e n) r.tree all in
          record {
            clause = r.clause;
            steps = All-map (NamesPoints points) (renumbered_step seen needed) lemma.steps (All-weaker (NamesPoints points) (λ s. NamesPoints points (renumbered_step seen needed s)) (points_kept points seen needed) lemma.steps r.steps);
            tree = tree.0;
          }

      each_shorter : (i : ℕ) (lemma : Lemma) → slice_get (shortened seen needed lemmas) i ≡ Some lemma → IsRefuted points clauses (first ++ map stated (take i (shortened seen needed lemmas))) lemma
      each_shorter i lemma e =
          let picked = items_where_true needed lemmas in
          let found = get_mapped (renumbered seen needed) picked i lemma e in
          let from = comes_from needed lemmas i found.0 found.1 in
          let r = refuted_at from.number found.0 from.at from.marked in
          let earlier : map stated (take i (shortened seen needed lemmas)) ≡ map stated (items_where_true needed (take from.number lemmas)) =
          ap (map stated) (take-map (renumbered seen needed) i picked) ∙ stated_renumbered seen needed (take i picked) ∙ ap (map stated) from.before in
          subst (λ (cs : List (List Literal)). IsRefuted points clauses (first ++ cs) lemma) (sym earlier)
          (subst (IsRefuted points clauses (first ++ map stated (items_where_true needed (take from.number lemmas)))) found.2 r)

-- ---- a refutation

module _ (lemmas : List Lemma) (needed : List Bool) (are : AreNeeded (IsLast lemmas) 0 lemmas needed) where
  abbrev shorter : List Lemma
  shorter = shortened 0 needed lemmas

  marked_last : (k : ℕ) → suc k ≡ length lemmas → get_or needed k false ≡ true
  marked_last k e = let h = are.right k in h.1 (root (omega (arith, e)) (omega (arith, e)))

  last_shorter : last_clause shorter ≡ last_clause lemmas
  last_shorter = last_renumbered 0 needed (items_where_true needed lemmas) ∙ last_picked needed lemmas marked_last

  module _ (points : ℕ) (clauses : List (List Literal)) (h : IsRefutation points clauses lemmas) where
    clause_of_last : last_clause lemmas ≡ Some []
    clause_of_last =
        let some = h.some in
        let none_ : Lemma = record { clause = []; steps = [] } in
        let lt : length lemmas - 1 < length lemmas = omega arith in
        let lemma : Lemma = get_or lemmas (length lemmas - 1) none_ in
        let is = slice_get-get_or lemmas (length lemmas - 1) none_ lt in
        last_at lemmas lemma is ∙ ap (λ (c : List Literal). Some c) (h.last lemma is)

    refutation_shorter : IsRefutation points clauses shorter
    refutation_shorter = record {
      some = some_of_last shorter [] (last_shorter ∙ clause_of_last);
      each = each_shorter (IsLast lemmas) 0 lemmas needed are [] refl points clauses h.each;
      last = λ lemma e.
          let is : Some lemma.clause ≡ Some [] = sym (last_at shorter lemma e) ∙ last_shorter ∙ clause_of_last in
          cc;
    }

module _ (lemmas trimmed : List Lemma) (t : IsTrimmed lemmas trimmed) where
  pub trimmed_refutes : StaysRefutation lemmas trimmed
  trimmed_refutes points clauses h = subst (IsRefutation points clauses) (sym t.kept) (refutation_shorter lemmas t.needed t.are points clauses h)

  pub trimmed_over : StaysOver lemmas trimmed
  trimmed_over points h = subst (All (LemmaIsOver points)) (sym t.kept) (over_shorter (IsLast lemmas) 0 lemmas t.needed t.are points h)

  pub trimmed_last : last_clause trimmed ≡ last_clause lemmas
  trimmed_last = ap last_clause t.kept ∙ last_shorter lemmas t.needed t.are

-- ---- a batch

module _ (wanted : List Bool) (batch : LemmaBatch) (needed : List Bool) (left : LemmaBatch) (t : IsTrimmedBatch wanted batch needed left) where
  pub batch_refuted : StaysRefuted batch left
  batch_refuted points clauses earlier is h =
      subst (AreRefuted points clauses earlier) (sym t.kept) (refuted_each points clauses earlier (shortened batch.seen needed batch.lemmas)
      (each_shorter (IsWanted wanted) batch.seen batch.lemmas needed t.are earlier is points clauses (each_refuted points clauses earlier batch.lemmas h)))

  pub batch_over : StaysOver batch.lemmas left.lemmas
  batch_over points h = subst (All (LemmaIsOver points)) (sym t.kept) (over_shorter (IsWanted wanted) batch.seen batch.lemmas needed t.are points h)

  pub batch_stated : StaysStated needed batch.lemmas left.lemmas
  batch_stated = subst (StaysStated needed batch.lemmas) (sym t.kept) (stated_shorter (IsWanted wanted) batch.seen batch.lemmas needed t.are)

-- ---- what the code makes

pub as_trimmed : (lemmas given final made : List Lemma) (needed lent : List Bool) → given ≡ lemmas → AreNeeded (IsLast given) 0 given needed → lent ≡ needed → final ≡ shortened 0 lent given → made ≡ final → IsTrimmed lemmas made
as_trimmed lemmas given final made needed lent is are same short e = record {
  needed = needed;
  are = subst (λ (ls : List Lemma). AreNeeded (IsLast ls) 0 ls needed) is are;
  kept = e ∙ short ∙ ap (λ (bs : List Bool). shortened 0 bs given) same ∙ ap (shortened 0 needed) is;
}

pub as_trimmed_batch : (wanted : List Bool) (batch left : LemmaBatch) (seen : ℕ) (given lent made : List Lemma) (needed marks : List Bool) → seen ≡ batch.seen → given ≡ batch.lemmas → lent ≡ given → AreNeeded (IsWanted wanted) seen lent needed → marks ≡ needed
    → made ≡ shortened seen marks given → left.seen ≡ seen → left.lemmas ≡ made → IsTrimmedBatch wanted batch needed left
as_trimmed_batch wanted batch left seen given lent made needed marks is_seen is_given same are is_marks short at lemmas = record {
  are = subst (λ (n : ℕ). AreNeeded (IsWanted wanted) n batch.lemmas needed) is_seen (subst (λ (ls : List Lemma). AreNeeded (IsWanted wanted) seen ls needed) (same ∙ is_given) are);
  seen = at ∙ is_seen;
  kept = lemmas ∙ short ∙ ap (λ (bs : List Bool). shortened seen bs given) is_marks ∙ ap (λ (ls : List Lemma). shortened seen needed ls) is_given ∙ ap (λ (n : ℕ). shortened n needed batch.lemmas) is_seen;
}
