-- The truth of a node is that of its members, in any table that begins with this one.
use Rattle.std.proofs.Common.{refl, ap, arith, ◌∙◌, ◌≡◌, ◌<◌, ℕ, zero, suc, List, [], ◌∷◌, ◌++◌, length, map, get_or, Bool, not, ◌&&◌, ◌||◌, ℤ}
use Rattle.std.proofs.Math.ListN.{get_or-append}
use Rattle.std.specs.List.{AllByRecursion, list_all, list_any}
use Rattle.stn_core.specs.declared.literal.Literal.{Literal}
use Rattle.idl_node.specs.Nodes.{NodeValue, always, atom, denial, conjunction, disjunction}
use Rattle.idl_node.specs.Tables.{IsNodeOf, IsTableOf}
use Rattle.idl_node.specs.Truth.{node_truth, truth_within, truth}

-- ---- members that are as true as others

module _ (f g : ℕ → Bool) (k : ℕ) (same : (j : ℕ) → j < k → f j ≡ g j) where
  pub list_all-agree : (ms : List ℕ) → AllByRecursion (λ m. m < k) ms → list_all f ms ≡ list_all g ms
  list_all-agree [] below = refl
  list_all-agree (m ∷ ms) below = ap (λ (x : Bool). x && list_all f ms) (same m below.0) ∙ ap (λ (x : Bool). g m && x) (list_all-agree ms below.1)

  pub list_any-agree : (ms : List ℕ) → AllByRecursion (λ m. m < k) ms → list_any f ms ≡ list_any g ms
  list_any-agree [] below = refl
  list_any-agree (m ∷ ms) below = ap (λ (x : Bool). x || list_any f ms) (same m below.0) ∙ ap (λ (x : Bool). g m || x) (list_any-agree ms below.1)

  pub map-agree : (ms : List ℕ) → AllByRecursion (λ m. m < k) ms → map f ms ≡ map g ms
  map-agree [] below = refl
  map-agree (m ∷ ms) below = ap (λ (x : Bool). x ∷ map f ms) (same m below.0) ∙ ap (λ (xs : List Bool). g m ∷ xs) (map-agree ms below.1)

  pub node_truth-agree : (values : List ℤ) (Good : Literal → Type 0) (nodes : List NodeValue) (node : NodeValue) → IsNodeOf Good nodes k node → node_truth values f node ≡ node_truth values g node
  node_truth-agree values Good nodes always table = refl
  node_truth-agree values Good nodes (atom l) table = refl
  node_truth-agree values Good nodes (denial m) table = ap not (same m table.0)
  node_truth-agree values Good nodes (conjunction ms) table = list_all-agree ms table
  node_truth-agree values Good nodes (disjunction ms) table = list_any-agree ms table

-- ---- enough levels are enough

module _ (Good : Literal → Type 0) (nodes longer : List NodeValue) (values : List ℤ) (table : IsTableOf Good nodes) (same : (j : ℕ) → j < length nodes → get_or longer j always ≡ get_or nodes j always) where
  truth_within-agree : (m n k : ℕ) → k < length nodes → k < m → k < n → truth_within m longer values k ≡ truth_within n nodes values k
  unfolding truth_within
  truth_within-agree zero n k h p q = absurd (omega arith)
  truth_within-agree (suc m) zero k h p q = absurd (omega arith)
  truth_within-agree (suc m) (suc n) k h p q =
      ap (node_truth values (λ j. truth_within m longer values j)) (same k h)
      ∙ node_truth-agree (λ j. truth_within m longer values j) (λ j. truth_within n nodes values j) k
      (λ j b. truth_within-agree m n j (omega arith) (omega arith) (omega arith)) values Good nodes (get_or nodes k always) (table k h)

  truth-agree : (k : ℕ) → k < length nodes → truth longer values k ≡ truth nodes values k
  unfolding truth
  truth-agree k h = truth_within-agree (suc k) (suc k) k h (omega arith) (omega arith)

  truth_level : (k : ℕ) → k < length nodes → truth_within (suc k) longer values k ≡ node_truth values (λ j. truth nodes values j) (get_or nodes k always)
  unfolding truth truth_within
  truth_level k h =
      ap (node_truth values (λ j. truth_within k longer values j)) (same k h)
      ∙ node_truth-agree (λ j. truth_within k longer values j) (λ j. truth_within (suc j) nodes values j) k
      (λ j b. truth_within-agree k (suc j) j (omega arith) b (omega arith)) values Good nodes (get_or nodes k always) (table k h)

module _ (Good : Literal → Type 0) (nodes : List NodeValue) (values : List ℤ) (table : IsTableOf Good nodes) where
  -- the truth of a node, by that of its members
  pub truth-node : (k : ℕ) → k < length nodes → truth nodes values k ≡ node_truth values (truth nodes values) (get_or nodes k always)
  unfolding truth
  truth-node k h = truth_level Good nodes nodes values table (λ j b. refl) k h

  -- a node is as true in a longer table
  pub truth-longer : (added : List NodeValue) (k : ℕ) → k < length nodes → truth (nodes ++ added) values k ≡ truth nodes values k
  truth-longer added k h = truth-agree Good nodes (nodes ++ added) values table (λ j b. get_or-append nodes added always j b) k h
