-- Clauses whose roots are true hold.
use Rattle.std.proofs.Common.{refl, sym, ap, subst, arith, ◌∙◌, ◌≡◌, ◌<◌, ◌≤◌, ◌+◌, ℕ, zero, suc, List, [], ◌∷◌, ◌++◌, map, length, get_or, replicate, Bool, true, false, ℤ, Some, slice_get, Contains, length-append}
use Rattle.std.specs.Prelude.{Option, None, slice_index, if◌then◌else◌}
use Rattle.std.proofs.lemmas.List.{length-map, length-replicate}
use Rattle.stn_core.specs.declared.literal.Literal.{Literal}
use Rattle.stn_core.specs.declared.named.NamedValue.{NamedValue}
use Rattle.stn_core.specs.Literal.{IsOver}
use Rattle.stn_core.specs.Problem.{ClauseHolds}
use Rattle.idl_node.specs.declared.sort.Sort.{Sort}
use Rattle.idl_node.specs.Nodes.{NodeValue, always, atom, denial, conjunction, disjunction}
use Rattle.idl_node.specs.Sorts.{IsAtomFor}
use Rattle.idl_node.specs.Tables.{IsTableOf}
use Rattle.idl_node.specs.Truth.{literal_truth, node_truth, truth, point_value, point_values}
use Rattle.clause_form.specs.Polarity.{is_among, node_at, Polarity, polarity_of, inner_nodes}
use Rattle.clause_form.specs.ClauseForm.{stands, inner_count, fresh_point, asserted_clauses, denied_clauses, inner_clauses, when, node_clauses, clauses_below, clauses_of, points_of}
use Rattle.clause_form.specs.Sources.{first_root, asserts, denies, HasRoot, asserted_count, denied_count, inner_clause_count, times_when, node_sources, sources_below, sources_of}
use Rattle.clause_form.specs.Sets.{IsAsserted, IsDenied, root, of_and, of_denied, of_or, of_asserted}
use Rattle.clause_form.specs.Laws.{IsTrueSource}
use Rattle.clause_form.specs.Restricting.{restricted, AreOfSorts}
use Rattle.clause_form.proofs.BothDirections.{IsTrueOf, spreads_below, true_asserted, false_denied, right_inner, members_needed, needs_asserted, needs_denied, needs_inner}
use Rattle.clause_form.proofs.ClauseTruths.{clause_truth, problem_truth, clause_from, asserted_says, denied_says, inner_says}
use Rattle.clause_form.proofs.Least.{asserted_least, denied_least}
use Rattle.clause_form.proofs.Literals.{AreRightBelow}
use Rattle.clause_form.proofs.Schedules.{schedule_count, restricted_back, longer_alike, fresh_values, fresh_count, fresh_says}
use Rattle.clause_form.proofs.Truths.{truth-node, truth-alike}
use Rattle.clause_form.proofs.Among.{at_among}
use Rattle.std.proofs.lemmas.Bool.{and_parts}

-- ---- the sets of all roots are those of each

record FromOne (nodes : List NodeValue) (roots : List ℕ) (Is : ℕ → Type 0) : Type 0 where
  pub root_is : ℕ
  pub in_ : Contains roots root_is
  pub is : Is root_is

mutual
  asserted_from : (nodes : List NodeValue) (roots : List ℕ) (k : ℕ) → IsAsserted nodes roots k → FromOne nodes roots (λ r. IsAsserted nodes (r ∷ []) k)
  asserted_from nodes roots k (root _ h) = record { root_is = k; in_ = h; is = root k (0, omega arith, refl) }
  asserted_from nodes roots k (of_and j _ ms h e m) = (let f = asserted_from nodes roots j h in record { root_is = f.root_is; in_ = f.in_; is = of_and j k ms f.is e m })
  asserted_from nodes roots k (of_denied j _ h e) = (let f = denied_from nodes roots j h in record { root_is = f.root_is; in_ = f.in_; is = of_denied j k f.is e })

  denied_from : (nodes : List NodeValue) (roots : List ℕ) (k : ℕ) → IsDenied nodes roots k → FromOne nodes roots (λ r. IsDenied nodes (r ∷ []) k)
  denied_from nodes roots k (of_or j _ ms h e m) = (let f = denied_from nodes roots j h in record { root_is = f.root_is; in_ = f.in_; is = of_or j k ms f.is e m })
  denied_from nodes roots k (of_asserted j _ h e) = (let f = asserted_from nodes roots j h in record { root_is = f.root_is; in_ = f.in_; is = of_asserted j k f.is e })

-- ---- the first root that passes a test

record IsFound (test : ℕ → Bool) (base : ℕ) (roots : List ℕ) : Type 0 where
  pub at : ℕ
  pub within : at < length roots
  pub is : first_root test base roots ≡ Some (base + at)
  pub passes : test (slice_index roots at) ≡ true

found_by : (test : ℕ → Bool) (base : ℕ) (roots : List ℕ) (n x : ℕ) → n < length roots → get_or roots n x ≡ x → test x ≡ true → IsFound test base roots
found_by test base [] n x lt e h = absurd (omega arith)
found_by test base (r ∷ roots) n x lt e h = go (test r) refl n lt e (λ m in_ f. found_by test (suc base) roots m x in_ f h)
  where
    go : (b : Bool) → test r ≡ b → (n : ℕ) → n < length (r ∷ roots) → get_or (r ∷ roots) n x ≡ x
        → ((m : ℕ) → m < length roots → get_or roots m x ≡ x → IsFound test (suc base) roots) → IsFound test base (r ∷ roots)
    go true f n lt e later = record {
      at = 0;
      within = omega arith;
      is = ap (λ (b : Bool). if b then Some base else first_root test (suc base) roots) f ∙ ap Some (omega arith);
      passes = f;
    }
    go false f zero lt e later = (let g : test r ≡ true = ap test e ∙ h in absurd (cc))
    go false f (suc n) lt e later =
        let rest = later n (omega arith) e in
        record {
          at = suc rest.at;
          within = (let w = rest.within in omega arith);
          is = ap (λ (b : Bool). if b then Some base else first_root test (suc base) roots) f ∙ rest.is ∙ ap Some (omega arith);
          passes = rest.passes;
        }

has_root : (test : ℕ → Bool) (roots : List ℕ) → IsFound test 0 roots → HasRoot test roots (first_root test 0 roots)
has_root test roots f =
    let is : first_root test 0 roots ≡ Some f.at = f.is ∙ ap Some (omega arith) in
    subst (HasRoot test roots) (sym is) (f.within, f.passes)

module _ (Good : Literal → Type 0) (nodes : List NodeValue) (table : IsTableOf Good nodes) (roots : List ℕ) (k : ℕ) where
  asserted_found : is_among k (polarity_of nodes roots).asserted ≡ true → IsFound (asserts nodes k) 0 roots
  asserted_found h =
      let f = asserted_from nodes roots k ((asserted_least nodes roots Good table k).0 h) in
      let c = f.in_ in
      found_by (asserts nodes k) 0 roots c.0 f.root_is c.1 c.2 ((asserted_least nodes (f.root_is ∷ []) Good table k).1 f.is)

  denied_found : is_among k (polarity_of nodes roots).denied ≡ true → IsFound (denies nodes k) 0 roots
  denied_found h =
      let f = denied_from nodes roots k ((denied_least nodes roots Good table k).0 h) in
      let c = f.in_ in
      found_by (denies nodes k) 0 roots c.0 f.root_is c.1 c.2 ((denied_least nodes (f.root_is ∷ []) Good table k).1 f.is)

  pub asserted_root : is_among k (polarity_of nodes roots).asserted ≡ true → HasRoot (asserts nodes k) roots (first_root (asserts nodes k) 0 roots)
  asserted_root h = has_root (asserts nodes k) roots (asserted_found h)

  pub denied_root : is_among k (polarity_of nodes roots).denied ≡ true → HasRoot (denies nodes k) roots (first_root (denies nodes k) 0 roots)
  denied_root h = has_root (denies nodes k) roots (denied_found h)

-- ---- clauses and their sources, side by side

Sides : (Option ℕ → Type 0) → List ℤ → List (List Literal) → List (Option ℕ) → Type 0
Sides IsTrueOne values [] [] = Unit {0}
Sides IsTrueOne values [] (s ∷ ss) = ⊥
Sides IsTrueOne values (c ∷ cs) [] = ⊥
Sides IsTrueOne values (c ∷ cs) (s ∷ ss) = (IsTrueOne s → clause_truth values c ≡ true) × Sides IsTrueOne values cs ss

module _ (IsTrueOne : Option ℕ → Type 0) (values : List ℤ) where
  sides_append : (cs ds : List (List Literal)) (ss ts : List (Option ℕ)) → Sides IsTrueOne values cs ss → Sides IsTrueOne values ds ts → Sides IsTrueOne values (cs ++ ds) (ss ++ ts)
  unfolding Sides
  sides_append [] ds [] ts h k = k
  sides_append [] ds (s ∷ ss) ts h k = absurd h
  sides_append (c ∷ cs) ds [] ts h k = absurd h
  sides_append (c ∷ cs) ds (s ∷ ss) ts h k = (h.0, sides_append cs ds ss ts h.1 k)

  sides_one : (cs : List (List Literal)) (s : Option ℕ) → (IsTrueOne s → problem_truth values cs ≡ true) → Sides IsTrueOne values cs (replicate (length cs) s)
  unfolding Sides
  sides_one [] s h = tt
  sides_one (c ∷ cs) s h = (
    λ t. (and_parts (clause_truth values c) (problem_truth values cs) (h t)).0,
    sides_one cs s (λ t. (and_parts (clause_truth values c) (problem_truth values cs) (h t)).1),
  )

  sides_when : (b : Bool) (cs : List (List Literal)) (n : ℕ) (s : Option ℕ) → length cs ≡ n → (b ≡ true → IsTrueOne s → problem_truth values cs ≡ true) → Sides IsTrueOne values (when b cs) (times_when b n s)
  unfolding Sides
  sides_when true cs n s e h = subst (λ (m : ℕ). Sides IsTrueOne values cs (replicate m s)) e (sides_one cs s (h refl))
  sides_when false cs n s e h = tt

  sides_at : (cs : List (List Literal)) (ss : List (Option ℕ)) (i : ℕ) (c : List Literal) → Sides IsTrueOne values cs ss → slice_get cs i ≡ Some c → IsTrueOne (get_or ss i None) → clause_truth values c ≡ true
  unfolding Sides
  sides_at [] ss i c h e t = absurd (cc)
  sides_at (d ∷ cs) [] i c h e t = absurd h
  sides_at (d ∷ cs) (s ∷ ss) zero c h e t = (let same : d ≡ c = cc in subst (λ (x : List Literal). clause_truth values x ≡ true) same (h.0 t))
  sides_at (d ∷ cs) (s ∷ ss) (suc i) c h e t = sides_at cs ss i c h.1 e t

-- ---- how many clauses

asserted_many : (points : ℕ) (nodes : List NodeValue) (inner : List ℕ) (k : ℕ) (node : NodeValue) → length (asserted_clauses points nodes inner k node) ≡ asserted_count node
asserted_many points nodes inner k always = refl
asserted_many points nodes inner k (atom l) = refl
asserted_many points nodes inner k (denial m) = refl
asserted_many points nodes inner k (conjunction ms) = refl
asserted_many points nodes inner k (disjunction ms) = refl

denied_many : (points : ℕ) (nodes : List NodeValue) (inner : List ℕ) (k : ℕ) (node : NodeValue) → length (denied_clauses points nodes inner k node) ≡ denied_count node
denied_many points nodes inner k always = refl
denied_many points nodes inner k (atom l) = refl
denied_many points nodes inner k (denial m) = refl
denied_many points nodes inner k (conjunction ms) = refl
denied_many points nodes inner k (disjunction ms) = refl

inner_many : (points : ℕ) (nodes : List NodeValue) (inner : List ℕ) (f : ℕ) (node : NodeValue) → length (inner_clauses points nodes inner f node) ≡ inner_clause_count node
inner_many points nodes inner f always = refl
inner_many points nodes inner f (atom l) = refl
inner_many points nodes inner f (denial m) = refl
inner_many points nodes inner f (conjunction ms) = length-append (map _ ms) (_ ∷ []) ∙ ap (λ (n : ℕ). n + 1) (length-map ms _)
inner_many points nodes inner f (disjunction ms) = ap suc (length-map ms _) ∙ omega arith

when_many : (b : Bool) (cs : List (List Literal)) (n : ℕ) (s : Option ℕ) → length cs ≡ n → length (times_when b n s) ≡ length (when b cs)
when_many true cs n s e = length-replicate n s ∙ sym e
when_many false cs n s e = refl

-- ---- all clauses

module _ (sorts : List Sort) (nodes : List NodeValue) (table : IsTableOf (IsAtomFor sorts) nodes) (roots : List ℕ) where
  -- a node that a true root asserts is true, and one that it denies is false
  root_says : (schedule : List ℤ) (r : ℕ) → truth nodes schedule r ≡ true → IsTrueOf (truth nodes schedule) (polarity_of nodes (r ∷ []))
  unfolding polarity_of
  root_says schedule r h =
      spreads_below schedule (truth nodes schedule) nodes (λ k. truth-node (IsAtomFor sorts) nodes table schedule k) (length nodes) (record { asserted = r ∷ []; denied = [] })
      (record { asserted = λ k e. at_among (λ m. truth nodes schedule m ≡ true) k (r ∷ []) (h, tt) e; denied = λ k e. absurd cc })

  module _ (schedule : List NamedValue) (of_sorts : AreOfSorts sorts schedule) where
    values_of : List ℤ
    values_of = point_values schedule ++ fresh_values (inner_nodes nodes (polarity_of nodes roots)) (truth nodes (point_values schedule)) (length nodes)

    base_count : length (point_values schedule) ≡ length sorts + 1
    base_count = (let named : length (map point_value schedule) ≡ length sorts = schedule_count sorts schedule of_sorts in omega arith)

    same_truth : (k : ℕ) → truth nodes (point_values schedule) k ≡ truth nodes values_of k
    unfolding values_of
    same_truth k =
        let base : List ℤ = point_values schedule in
        let fresh : List ℤ = fresh_values (inner_nodes nodes (polarity_of nodes roots)) (truth nodes base) (length nodes) in
        truth-alike (IsAtomFor sorts) nodes table base (base ++ fresh) (λ l a. longer_alike base fresh l (subst (λ (n : ℕ). IsOver n l) (sym base_count) a.over)) k

    values_count : length values_of ≡ points_of (length sorts + 1) nodes roots
    unfolding points_of values_of
    values_count =
        let inner : List ℕ = inner_nodes nodes (polarity_of nodes roots) in
        let base : List ℤ = point_values schedule in
        let fresh : List ℤ = fresh_values inner (truth nodes base) (length nodes) in
        let fresh_length : length fresh ≡ inner_count inner (length nodes) = fresh_count inner (truth nodes base) (length nodes) in
        let both : length (base ++ fresh) ≡ length base + length fresh = length-append base fresh in
        let count = base_count in
        omega (arith, count, fresh_length, both)

    values_back : restricted sorts values_of ≡ schedule
    unfolding values_of
    values_back = restricted_back sorts schedule (fresh_values (inner_nodes nodes (polarity_of nodes roots)) (truth nodes (point_values schedule)) (length nodes)) of_sorts

    right_all : AreRightBelow (IsAtomFor sorts) nodes table (length sorts + 1) (inner_nodes nodes (polarity_of nodes roots)) values_of (length nodes)
    unfolding values_of
    right_all k lt c h = fresh_says schedule (inner_nodes nodes (polarity_of nodes roots)) (truth nodes (point_values schedule)) (length nodes) k (length sorts + 1) base_count lt h ∙ same_truth k

    right_here : (k : ℕ) → k < length nodes → AreRightBelow (IsAtomFor sorts) nodes table (length sorts + 1) (inner_nodes nodes (polarity_of nodes roots)) values_of k
    right_here k lt j less c h = right_all j (omega arith) c h

    IsTrueHere : Option ℕ → Type 0
    IsTrueHere s = IsTrueSource nodes roots schedule s

    source_says : (test : ℕ → Bool) → HasRoot test roots (first_root test 0 roots) → IsTrueHere (first_root test 0 roots) → (r : ℕ) × (test r ≡ true) × (truth nodes (point_values schedule) r ≡ true)
    unfolding IsTrueHere
    source_says test h t = go (first_root test 0 roots) h t
      where
        go : (s : Option ℕ) → HasRoot test roots s → IsTrueSource nodes roots schedule s → (r : ℕ) × (test r ≡ true) × (truth nodes (point_values schedule) r ≡ true)
        go None h t = absurd h
        go (Some r) h t = (slice_index roots r, h.1, t)

    node_sides : (k : ℕ) → k < length nodes → Sides IsTrueHere values_of
        (node_clauses (length sorts + 1) nodes (polarity_of nodes roots) (inner_nodes nodes (polarity_of nodes roots)) k)
        (node_sources nodes roots (polarity_of nodes roots) (inner_nodes nodes (polarity_of nodes roots)) k)
    node_sides k lt =
        let points : ℕ = length sorts + 1 in
        let Good : Literal → Type 0 = IsAtomFor sorts in
        let p : Polarity = polarity_of nodes roots in
        let inner : List ℕ = inner_nodes nodes p in
        let node : NodeValue = node_at nodes k in
        let a : Bool = is_among k p.asserted in
        let d : Bool = is_among k p.denied in
        let i : Bool = is_among k inner in
        let at : ℕ → Bool = truth nodes values_of in
        let is : truth nodes values_of k ≡ node_truth values_of at node = truth-node Good nodes table values_of k in
        sides_append IsTrueHere values_of (when a (asserted_clauses points nodes inner k node)) (when d (denied_clauses points nodes inner k node) ++ when i (inner_clauses points nodes inner (fresh_point points inner k) node))
        (times_when a (asserted_count node) (first_root (asserts nodes k) 0 roots)) (times_when d (denied_count node) (first_root (denies nodes k) 0 roots) ++ times_when i (inner_clause_count node) None)
        (sides_when IsTrueHere values_of a (asserted_clauses points nodes inner k node) (asserted_count node) (first_root (asserts nodes k) 0 roots) (asserted_many points nodes inner k node)
        (λ h t. (
        let from = source_says (asserts nodes k) (asserted_root Good nodes table roots k h) t in
        let holds : truth nodes (point_values schedule) k ≡ true = (root_says (point_values schedule) from.0 from.2).asserted k from.1 in
        asserted_says points nodes inner values_of k node (λ e. members_needed Good nodes table roots points values_of k lt (right_here k lt) (needs_asserted a d i node h e)) ∙ true_asserted values_of at node (sym is ∙ sym (same_truth k) ∙ holds))))
        (sides_append IsTrueHere values_of (when d (denied_clauses points nodes inner k node)) (when i (inner_clauses points nodes inner (fresh_point points inner k) node))
        (times_when d (denied_count node) (first_root (denies nodes k) 0 roots)) (times_when i (inner_clause_count node) None)
        (sides_when IsTrueHere values_of d (denied_clauses points nodes inner k node) (denied_count node) (first_root (denies nodes k) 0 roots) (denied_many points nodes inner k node)
        (λ h t. (
        let from = source_says (denies nodes k) (denied_root Good nodes table roots k h) t in
        let fails : truth nodes (point_values schedule) k ≡ false = (root_says (point_values schedule) from.0 from.2).denied k from.1 in
        denied_says points nodes inner values_of k node (λ e. members_needed Good nodes table roots points values_of k lt (right_here k lt) (needs_denied a d i node h e)) ∙ false_denied values_of at node (sym is ∙ sym (same_truth k) ∙ fails))))
        (sides_when IsTrueHere values_of i (inner_clauses points nodes inner (fresh_point points inner k) node) (inner_clause_count node) None (inner_many points nodes inner (fresh_point points inner k) node)
        (λ h t. inner_says points nodes inner values_of (fresh_point points inner k) node (λ e. members_needed Good nodes table roots points values_of k lt (right_here k lt) (needs_inner a d i node h e))
        ∙ right_inner values_of at (literal_truth values_of (stands (fresh_point points inner k))) node (λ c. right_all k lt c h ∙ is))))

    sides_below : (n : ℕ) → n ≤ length nodes → Sides IsTrueHere values_of
        (clauses_below (length sorts + 1) nodes (polarity_of nodes roots) (inner_nodes nodes (polarity_of nodes roots)) n)
        (sources_below nodes roots (polarity_of nodes roots) (inner_nodes nodes (polarity_of nodes roots)) n)
    unfolding Sides
    sides_below zero le = tt
    sides_below (suc n) le =
        let p : Polarity = polarity_of nodes roots in
        let inner : List ℕ = inner_nodes nodes p in
        sides_append IsTrueHere values_of (clauses_below (length sorts + 1) nodes p inner n) (node_clauses (length sorts + 1) nodes p inner n)
        (sources_below nodes roots p inner n) (node_sources nodes roots p inner n) (sides_below n (omega arith)) (node_sides n (omega arith))

    pub sources_follow : (values : List ℤ) × (length values ≡ points_of (length sorts + 1) nodes roots) × (restricted sorts values ≡ schedule)
        × ((i : ℕ) (clause : List Literal) → slice_get (clauses_of (length sorts + 1) nodes roots) i ≡ Some clause
        → IsTrueSource nodes roots schedule (get_or (sources_of nodes roots) i None) → ClauseHolds values clause)
    unfolding clauses_of sources_of IsTrueHere
    sources_follow =
        let p : Polarity = polarity_of nodes roots in
        let inner : List ℕ = inner_nodes nodes p in (
          values_of,
          values_count,
          values_back,
          λ i clause e t. clause_from values_of clause (sides_at IsTrueHere values_of (clauses_below (length sorts + 1) nodes p inner (length nodes)) (sources_below nodes roots p inner (length nodes)) i clause (sides_below (length nodes) (omega arith)) e t),
        )

pub sources_parallel : (points : ℕ) (nodes : List NodeValue) (roots : List ℕ) → length (sources_of nodes roots) ≡ length (clauses_of points nodes roots)
unfolding clauses_of sources_of
sources_parallel points nodes roots = below (length nodes)
  where
    p : Polarity
    p = polarity_of nodes roots

    inner : List ℕ
    inner = inner_nodes nodes (polarity_of nodes roots)

    many : (xs : List (Option ℕ)) (ys : List (Option ℕ)) (cs ds : List (List Literal)) → length xs ≡ length cs → length ys ≡ length ds → length (xs ++ ys) ≡ length (cs ++ ds)
    many xs ys cs ds e f = length-append xs ys ∙ ap (λ (n : ℕ). n + length ys) e ∙ ap (λ (n : ℕ). length cs + n) f ∙ sym (length-append cs ds)

    node : (k : ℕ) → length (node_sources nodes roots (polarity_of nodes roots) (inner_nodes nodes (polarity_of nodes roots)) k) ≡ length (node_clauses points nodes (polarity_of nodes roots) (inner_nodes nodes (polarity_of nodes roots)) k)
    node k =
        let p : Polarity = polarity_of nodes roots in
        let inner : List ℕ = inner_nodes nodes p in
        let v : NodeValue = node_at nodes k in
        let a : Bool = is_among k p.asserted in
        let d : Bool = is_among k p.denied in
        let i : Bool = is_among k inner in
        many (times_when a (asserted_count v) (first_root (asserts nodes k) 0 roots)) (times_when d (denied_count v) (first_root (denies nodes k) 0 roots) ++ times_when i (inner_clause_count v) None)
        (when a (asserted_clauses points nodes inner k v)) (when d (denied_clauses points nodes inner k v) ++ when i (inner_clauses points nodes inner (fresh_point points inner k) v))
        (when_many a (asserted_clauses points nodes inner k v) (asserted_count v) (first_root (asserts nodes k) 0 roots) (asserted_many points nodes inner k v))
        (many (times_when d (denied_count v) (first_root (denies nodes k) 0 roots)) (times_when i (inner_clause_count v) None)
        (when d (denied_clauses points nodes inner k v)) (when i (inner_clauses points nodes inner (fresh_point points inner k) v))
        (when_many d (denied_clauses points nodes inner k v) (denied_count v) (first_root (denies nodes k) 0 roots) (denied_many points nodes inner k v))
        (when_many i (inner_clauses points nodes inner (fresh_point points inner k) v) (inner_clause_count v) None (inner_many points nodes inner (fresh_point points inner k) v)))

    below : (n : ℕ) → length (sources_below nodes roots (polarity_of nodes roots) (inner_nodes nodes (polarity_of nodes roots)) n) ≡ length (clauses_below points nodes (polarity_of nodes roots) (inner_nodes nodes (polarity_of nodes roots)) n)
    below zero = refl
    below (suc n) =
        let p : Polarity = polarity_of nodes roots in
        let inner : List ℕ = inner_nodes nodes p in
        many (sources_below nodes roots p inner n) (node_sources nodes roots p inner n) (clauses_below points nodes p inner n) (node_clauses points nodes p inner n) (below n) (node n)
