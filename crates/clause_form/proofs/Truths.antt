-- The truth of a node by that of its members.
use Rattle.std.proofs.Common.{refl, sym, ap, subst, arith, inl, inr, ◌∙◌, ◌≡◌, ◌<◌, ℕ, zero, suc, List, [], ◌∷◌, length, get_or, Bool, not, ◌&&◌, ◌||◌, ℤ}
use Rattle.std.specs.List.{AllByRecursion, list_all, list_any}
use Rattle.std.proofs.lemmas.Bool.{cases_lt}
use Rattle.std.proofs.lemmas.List.{get_or_past}
use Rattle.stn_core.specs.declared.literal.Literal.{Literal}
use Rattle.idl_node.specs.Nodes.{NodeValue, always, atom, denial, conjunction, disjunction}
use Rattle.idl_node.specs.Tables.{IsNodeOf, IsTableOf}
use Rattle.idl_node.specs.Truth.{literal_truth, node_truth, truth_within, truth}
use Rattle.clause_form.specs.Polarity.{node_at}

-- ---- members that are as true as others

module _ (f g : ℕ → Bool) (k : ℕ) (same : (j : ℕ) → j < k → f j ≡ g j) where
  list_all-agree : (ms : List ℕ) → AllByRecursion (λ m. m < k) ms → list_all f ms ≡ list_all g ms
  list_all-agree [] below = refl
  list_all-agree (m ∷ ms) below = ap (λ (x : Bool). x && list_all f ms) (same m below.0) ∙ ap (λ (x : Bool). g m && x) (list_all-agree ms below.1)

  list_any-agree : (ms : List ℕ) → AllByRecursion (λ m. m < k) ms → list_any f ms ≡ list_any g ms
  list_any-agree [] below = refl
  list_any-agree (m ∷ ms) below = ap (λ (x : Bool). x || list_any f ms) (same m below.0) ∙ ap (λ (x : Bool). g m || x) (list_any-agree ms below.1)

  node_truth-agree : (values : List ℤ) (Good : Literal → Type 0) (nodes : List NodeValue) (node : NodeValue) → IsNodeOf Good nodes k node → node_truth values f node ≡ node_truth values g node
  node_truth-agree values Good nodes always table = refl
  node_truth-agree values Good nodes (atom l) table = refl
  node_truth-agree values Good nodes (denial m) table = ap not (same m table.0)
  node_truth-agree values Good nodes (conjunction ms) table = list_all-agree ms table
  node_truth-agree values Good nodes (disjunction ms) table = list_any-agree ms table

module _ (Good : Literal → Type 0) (nodes : List NodeValue) (table : IsTableOf Good nodes) where
  -- behind the last node stands `always`
  pub node_is : (k : ℕ) → IsNodeOf Good nodes k (node_at nodes k)
  node_is k = elim (cases_lt k (length nodes)) [ inl h ↦ table k h | inr h ↦ subst (λ (node : NodeValue). IsNodeOf Good nodes k node) (sym (get_or_past nodes k always h)) tt ]

  -- ---- enough levels are enough

  truth_within-agree : (values : List ℤ) (m n k : ℕ) → k < m → k < n → truth_within m nodes values k ≡ truth_within n nodes values k
  unfolding truth_within
  truth_within-agree values zero n k p q = absurd (omega arith)
  truth_within-agree values (suc m) zero k p q = absurd (omega arith)
  truth_within-agree values (suc m) (suc n) k p q =
      node_truth-agree (λ j. truth_within m nodes values j) (λ j. truth_within n nodes values j) k
      (λ j b. truth_within-agree values m n j (omega arith) (omega arith)) values Good nodes (get_or nodes k always) (node_is k)

  -- the truth of a node, by that of its members
  pub truth-node : (values : List ℤ) (k : ℕ) → truth nodes values k ≡ node_truth values (truth nodes values) (node_at nodes k)
  unfolding truth truth_within
  truth-node values k =
      node_truth-agree (λ j. truth_within k nodes values j) (λ j. truth_within (suc j) nodes values j) k
      (λ j b. truth_within-agree values k (suc j) j b (omega arith)) values Good nodes (get_or nodes k always) (node_is k)

  -- ---- other values, on which the atoms are as true

  module _ (u v : List ℤ) (alike : (l : Literal) → Good l → literal_truth u l ≡ literal_truth v l) where
    node_truth-alike : (f : ℕ → Bool) (k : ℕ) (node : NodeValue) → IsNodeOf Good nodes k node → node_truth u f node ≡ node_truth v f node
    node_truth-alike f k always table = refl
    node_truth-alike f k (atom l) table = alike l table
    node_truth-alike f k (denial m) table = refl
    node_truth-alike f k (conjunction ms) table = refl
    node_truth-alike f k (disjunction ms) table = refl

    truth_within-alike : (n k : ℕ) → truth_within n nodes u k ≡ truth_within n nodes v k
    unfolding truth_within
    truth_within-alike zero k = refl
    truth_within-alike (suc n) k =
        node_truth-agree (λ j. truth_within n nodes u j) (λ j. truth_within n nodes v j) k (λ j b. truth_within-alike n j) u Good nodes (get_or nodes k always) (node_is k)
        ∙ node_truth-alike (λ j. truth_within n nodes v j) k (get_or nodes k always) (node_is k)

    pub truth-alike : (k : ℕ) → truth nodes u k ≡ truth nodes v k
    unfolding truth
    truth-alike k = truth_within-alike (suc k) k
