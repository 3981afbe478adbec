-- How many points there are, and that the problem's literals are over them.
use Rattle.std.proofs.Common.{refl, sym, ap, subst, arith, inl, inr, ◌∙◌, ◌≡◌, ◌<◌, ◌≤◌, ◌+◌, ℕ, zero, suc, List, [], ◌∷◌, ◌++◌, map, length, Bool, true, false, All, if◌then◌else◌, eq-or-lt_of_le}
use Rattle.std.specs.List.{AllByRecursion}
use Rattle.std.proofs.lemmas.Int.{ints}
use Rattle.std.proofs.lemmas.List.Elements.{All-from_recursion}
use Rattle.stn_core.specs.declared.literal.Literal.{Literal}
use Rattle.stn_core.specs.Literal.{IsOver}
use Rattle.stn_core.proofs.Consequences.{IsOver-negation_of}
use Rattle.idl_node.specs.Nodes.{NodeValue, always, atom, denial, conjunction, disjunction}
use Rattle.idl_node.specs.Tables.{IsDeniable, IsNodeOf, IsTableOf}
use Rattle.clause_form.specs.Polarity.{is_among, node_at, Polarity, polarity_of, body_of, is_compound, inner_nodes}
use Rattle.clause_form.specs.ClauseForm.{inner_count, stands, fails, fresh_point, body_literal, node_literal, literal_of, denied_literal, literals_of, denied_literals, asserted_clauses, denied_clauses, inner_clauses, when, node_clauses, clauses_below, clauses_of, points_of}
use Rattle.clause_form.proofs.Among.{each}
use Rattle.clause_form.proofs.BothDirections.{needs_asserted, needs_denied, needs_inner}
use Rattle.clause_form.proofs.Inner.{IsHeld, MembersHeld, needs, inner_closed}
use Rattle.clause_form.proofs.Least.{in_table}
use Rattle.clause_form.proofs.Truths.{node_is}

-- ---- counts

count_by : (b : Bool) (n : ℕ) → n ≤ (if b then n + 1 else n)
count_by true n = omega arith
count_by false n = omega arith

count_most : (b : Bool) (n m : ℕ) → n ≤ m → (if b then n + 1 else n) ≤ suc m
count_most true n m h = omega arith
count_most false n m h = omega arith

pub inner_count_few : (inner : List ℕ) (n : ℕ) → inner_count inner n ≤ n
inner_count_few inner zero = omega arith
inner_count_few inner (suc n) = count_most (is_among n inner) (inner_count inner n) n (inner_count_few inner n)

count_here : (inner : List ℕ) (k : ℕ) → is_among k inner ≡ true → inner_count inner (suc k) ≡ inner_count inner k + 1
count_here inner k e = ap (λ (b : Bool). if b then inner_count inner k + 1 else inner_count inner k) e

-- an inner node has fewer inner nodes before it than a later node
pub inner_count_below : (inner : List ℕ) (n k : ℕ) → k < n → is_among k inner ≡ true → inner_count inner k < inner_count inner n
inner_count_below inner zero k lt e = absurd (omega arith)
inner_count_below inner (suc n) k lt e =
    let le : k ≤ n = omega arith in
    elim (eq-or-lt_of_le le) [
      | inl f ↦ (let here : inner_count inner (suc n) ≡ inner_count inner n + 1 = count_here inner n (subst (λ (j : ℕ). is_among j inner ≡ true) f e) in
          subst (λ (j : ℕ). inner_count inner j < inner_count inner (suc n)) (sym f) (omega (arith, here)))
      | inr less ↦ (let h : inner_count inner k < inner_count inner n = inner_count_below inner n k less e in
          let g : inner_count inner n ≤ inner_count inner (suc n) = count_by (is_among n inner) (inner_count inner n) in
          omega (arith, h, g))
    ]

pub points_few : (points : ℕ) (nodes : List NodeValue) (roots : List ℕ) → points_of points nodes roots ≤ points + length nodes
unfolding points_of
points_few points nodes roots = let h = inner_count_few (inner_nodes nodes (polarity_of nodes roots)) (length nodes) in omega (arith, h)

pub points_some : (points : ℕ) (nodes : List NodeValue) (roots : List ℕ) → points ≤ points_of points nodes roots
unfolding points_of
points_some points nodes roots = omega arith

-- ---- literals over the points

over_more : (few many : ℕ) (l : Literal) → few ≤ many → IsOver few l → IsOver many l
over_more few many l le h = record { x_in = omega (arith, le, h.x_in); y_in = omega (arith, le, h.y_in); low = h.low; high = h.high }

stands_over : (many p : ℕ) → p < many → IsOver many (stands p)
stands_over many p lt = record { x_in = lt; y_in = omega arith; low = omega (arith, ints); high = omega (arith, ints) }

fails_over : (many p : ℕ) → p < many → IsOver many (fails p)
fails_over many p lt = IsOver-negation_of many (stands p) (stands_over many p lt)

abbrev pub AreOver : ℕ → List (List Literal) → Type 0
AreOver many clauses = AllByRecursion (λ clause. AllByRecursion (IsOver many) clause) clauses

over_append : {A : Type 0} (P : A → Type 0) (xs ys : List A) → AllByRecursion P xs → AllByRecursion P ys → AllByRecursion P (xs ++ ys)
over_append P [] ys h k = k
over_append P (x ∷ xs) ys h k = (h.0, over_append P xs ys h.1 k)

over_map : {A B : Type 0} (P : B → Type 0) (f : A → B) (xs : List A) → AllByRecursion (λ x. P (f x)) xs → AllByRecursion P (map f xs)
over_map P f [] h = tt
over_map P f (x ∷ xs) h = (h.0, over_map P f xs h.1)

over_when : (many : ℕ) (b : Bool) (clauses : List (List Literal)) → (b ≡ true → AreOver many clauses) → AreOver many (when b clauses)
over_when many true clauses h = h refl
over_when many false clauses h = tt

module _ (points : ℕ) (nodes : List NodeValue) (table : IsTableOf (IsOver points) nodes) (inner : List ℕ) (many : ℕ) (le : points ≤ many) (some : 0 < many)
    (fresh : (k : ℕ) → k < length nodes → is_among k inner ≡ true → fresh_point points inner k < many) where
  LiteralOver : ℕ → Type 0
  LiteralOver m = IsOver many (literal_of points nodes inner m)

  fresh_in : (k : ℕ) (node : NodeValue) → node_at nodes k ≡ node → is_compound node ≡ true → (is_compound (node_at nodes k) ≡ true → is_among k inner ≡ true) → fresh_point points inner k < many
  fresh_in k node e c held = fresh k (in_table nodes [] (IsOver points) table k node e (λ f. let no : is_compound node ≡ false = ap is_compound f in absurd cc)) (held (ap is_compound e ∙ c))

  body_over : (b : ℕ) (node : NodeValue) → node_at nodes b ≡ node → IsDeniable node → (is_compound (node_at nodes b) ≡ true → is_among b inner ≡ true) → IsOver many (body_literal points inner b node)
  body_over b always e d held = stands_over many 0 some
  body_over b (atom l) e d held = absurd d
  body_over b (denial m) e d held = absurd d
  body_over b (conjunction ms) e d held = stands_over many (fresh_point points inner b) (fresh_in b (conjunction ms) e refl held)
  body_over b (disjunction ms) e d held = stands_over many (fresh_point points inner b) (fresh_in b (disjunction ms) e refl held)

  node_literal_over : (m : ℕ) (node : NodeValue) → node_at nodes m ≡ node → IsNodeOf (IsOver points) nodes m node → (is_compound (node_at nodes (body_of node m)) ≡ true → is_among (body_of node m) inner ≡ true)
      → IsOver many (node_literal points nodes inner m node)
  node_literal_over m always e is held = stands_over many 0 some
  node_literal_over m (atom l) e is held = over_more points many l le is
  node_literal_over m (denial b) e is held = IsOver-negation_of many (body_literal points inner b (node_at nodes b)) (body_over b (node_at nodes b) refl is.1 held)
  node_literal_over m (conjunction ms) e is held = stands_over many (fresh_point points inner m) (fresh_in m (conjunction ms) e refl held)
  node_literal_over m (disjunction ms) e is held = stands_over many (fresh_point points inner m) (fresh_in m (disjunction ms) e refl held)

  literal_over : (m : ℕ) → IsHeld nodes inner m → LiteralOver m
  unfolding LiteralOver
  literal_over m held = node_literal_over m (node_at nodes m) refl (node_is (IsOver points) nodes table m) held

  literals_over : (ms : List ℕ) → AllByRecursion LiteralOver ms → AllByRecursion (IsOver many) (literals_of points nodes inner ms)
  unfolding LiteralOver
  literals_over ms h = over_map (IsOver many) (literal_of points nodes inner) ms h

  denied_over : (ms : List ℕ) → AllByRecursion LiteralOver ms → AllByRecursion (IsOver many) (denied_literals points nodes inner ms)
  unfolding LiteralOver
  denied_over ms h = over_map (IsOver many) (denied_literal points nodes inner) ms (each LiteralOver (λ m. IsOver many (denied_literal points nodes inner m)) ms (λ m o. IsOver-negation_of many (literal_of points nodes inner m) o) h)

  held_over : (ms : List ℕ) → AllByRecursion (IsHeld nodes inner) ms → AllByRecursion LiteralOver ms
  held_over ms h = each (IsHeld nodes inner) LiteralOver ms (λ m held. literal_over m held) h

  asserted_over : (k : ℕ) (node : NodeValue) → IsNodeOf (IsOver points) nodes k node → (needs true false false node ≡ true → MembersHeld nodes inner node) → AreOver many (asserted_clauses points nodes inner k node)
  asserted_over k always is held = ((stands_over many 0 some, tt), tt)
  asserted_over k (atom l) is held = ((over_more points many l le is, tt), tt)
  asserted_over k (denial m) is held = tt
  asserted_over k (conjunction ms) is held = tt
  asserted_over k (disjunction ms) is held = (literals_over ms (held_over ms (held refl)), tt)

  denied_are_over : (k : ℕ) (node : NodeValue) → IsNodeOf (IsOver points) nodes k node → (needs false true false node ≡ true → MembersHeld nodes inner node) → AreOver many (denied_clauses points nodes inner k node)
  denied_are_over k always is held = ((fails_over many 0 some, tt), tt)
  denied_are_over k (atom l) is held = ((IsOver-negation_of many l (over_more points many l le is), tt), tt)
  denied_are_over k (denial m) is held = tt
  denied_are_over k (conjunction ms) is held = (denied_over ms (held_over ms (held refl)), tt)
  denied_are_over k (disjunction ms) is held = tt

  inner_over : (f : ℕ) (node : NodeValue) → (is_compound node ≡ true → f < many) → (needs false false true node ≡ true → MembersHeld nodes inner node) → AreOver many (inner_clauses points nodes inner f node)
  unfolding LiteralOver
  inner_over f always lt held = tt
  inner_over f (atom l) lt held = tt
  inner_over f (denial m) lt held = tt
  inner_over f (conjunction ms) lt held =
      let all : AllByRecursion LiteralOver ms = held_over ms (held refl) in
      over_append (λ clause. AllByRecursion (IsOver many) clause) (map (λ m. fails f ∷ literal_of points nodes inner m ∷ []) ms) ((stands f ∷ denied_literals points nodes inner ms) ∷ [])
      (over_map (λ clause. AllByRecursion (IsOver many) clause) (λ m. fails f ∷ literal_of points nodes inner m ∷ []) ms (each LiteralOver (λ m. AllByRecursion (IsOver many) (fails f ∷ literal_of points nodes inner m ∷ [])) ms (λ m o. (fails_over many f (lt refl), (o, tt))) all))
      ((stands_over many f (lt refl), denied_over ms all), tt)
  inner_over f (disjunction ms) lt held =
      let all : AllByRecursion LiteralOver ms = held_over ms (held refl) in (
        (fails_over many f (lt refl), literals_over ms all),
        over_map (λ clause. AllByRecursion (IsOver many) clause) (λ m. stands f ∷ denied_literal points nodes inner m ∷ []) ms
            (each LiteralOver (λ m. AllByRecursion (IsOver many) (stands f ∷ denied_literal points nodes inner m ∷ [])) ms (λ m o. (stands_over many f (lt refl), (IsOver-negation_of many (literal_of points nodes inner m) o, tt))) all),
      )

  -- ---- all clauses

  node_over : (p : Polarity) (k : ℕ) → (needs (is_among k p.asserted) (is_among k p.denied) (is_among k inner) (node_at nodes k) ≡ true → MembersHeld nodes inner (node_at nodes k)) → AreOver many (node_clauses points nodes p inner k)
  node_over p k held =
      let node : NodeValue = node_at nodes k in
      let a : Bool = is_among k p.asserted in
      let d : Bool = is_among k p.denied in
      let i : Bool = is_among k inner in
      let is : IsNodeOf (IsOver points) nodes k node = node_is (IsOver points) nodes table k in
      let P : List Literal → Type 0 = λ clause. AllByRecursion (IsOver many) clause in
      over_append P (when a (asserted_clauses points nodes inner k node)) _
      (over_when many a (asserted_clauses points nodes inner k node) (λ h. asserted_over k node is (λ e. held (needs_asserted a d i node h e))))
      (over_append P (when d (denied_clauses points nodes inner k node)) _
      (over_when many d (denied_clauses points nodes inner k node) (λ h. denied_are_over k node is (λ e. held (needs_denied a d i node h e))))
      (over_when many i (inner_clauses points nodes inner (fresh_point points inner k) node)
      (λ h. inner_over (fresh_point points inner k) node (λ c. fresh_in k node refl c (λ f. h)) (λ e. held (needs_inner a d i node h e)))))

  below_over : (p : Polarity) → ((k : ℕ) → k < length nodes → needs (is_among k p.asserted) (is_among k p.denied) (is_among k inner) (node_at nodes k) ≡ true → MembersHeld nodes inner (node_at nodes k))
      → (n : ℕ) → n ≤ length nodes → AreOver many (clauses_below points nodes p inner n)
  below_over p held zero h = tt
  below_over p held (suc n) h =
      over_append (λ clause. AllByRecursion (IsOver many) clause) (clauses_below points nodes p inner n) (node_clauses points nodes p inner n) (below_over p held n (omega arith)) (node_over p n (held n (omega arith)))

clauses_by_recursion : (points : ℕ) (nodes : List NodeValue) (roots : List ℕ) → 0 < points → IsTableOf (IsOver points) nodes → AreOver (points_of points nodes roots) (clauses_of points nodes roots)
unfolding points_of clauses_of
clauses_by_recursion points nodes roots some table =
    let p : Polarity = polarity_of nodes roots in
    let inner : List ℕ = inner_nodes nodes p in
    below_over points nodes table inner (fresh_point points inner (length nodes)) (omega arith) (omega arith)
    (λ k lt e. let h = inner_count_below inner (length nodes) k lt e in omega (arith, h))
    p (λ k lt e. inner_closed nodes (IsOver points) table p k lt e) (length nodes) (omega arith)

pub clauses_over : (points : ℕ) (nodes : List NodeValue) (roots : List ℕ) → 0 < points → IsTableOf (IsOver points) nodes → All (λ clause. All (IsOver (points_of points nodes roots)) clause) (clauses_of points nodes roots)
clauses_over points nodes roots some table =
    let many : ℕ = points_of points nodes roots in
    All-from_recursion (λ (clause : List Literal). All (IsOver many) clause) (clauses_of points nodes roots)
    (each (λ (clause : List Literal). AllByRecursion (IsOver many) clause) (λ (clause : List Literal). All (IsOver many) clause) (clauses_of points nodes roots)
    (λ clause over. All-from_recursion (IsOver many) clause over) (clauses_by_recursion points nodes roots some table))
