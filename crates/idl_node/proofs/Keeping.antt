-- Nodes that are equal are one, and a table with a node more is made of earlier nodes still.
use Rattle.std.proofs.Common.{refl, sym, ap, subst, arith, ◌≡◌, ◌<◌, ◌≤◌, inl, inr, ℕ, List, [], ◌∷◌, ◌++◌, length, take, drop, get_or, true, Some, length-append}
use Rattle.std.proofs.Math.ListN.{get_or-append}
use Rattle.std.proofs.lemmas.Bool.{eqb-true, cases_lt}
use Rattle.std.proofs.lemmas.List.{get_or_push, length_push, take-append-drop}
use Rattle.std.proofs.lemmas.List.Quantifiers.{position-Some}
use Rattle.std.proofs.lemmas.Slice.Eq.{bytes_eq-Decides}
use Rattle.stn_core.specs.declared.literal.Literal.{Literal}
use Rattle.stn_core.proofs.SameLiteral.{same_literal_decides}
use Rattle.idl_node.specs.Nodes.{NodeValue, always, atom, denial, conjunction, disjunction, same_node, number_in}
use Rattle.idl_node.specs.Tables.{IsDeniable, IsNodeOf, IsTableOf}

-- ---- equal nodes

pub same_node_is : (a b : NodeValue) → same_node a b ≡ true → a ≡ b
same_node_is always always e = refl
same_node_is (atom l) (atom m) e = ap atom ((same_literal_decides l m).0 e)
same_node_is (denial k) (denial m) e = ap denial (eqb-true k m e)
same_node_is (conjunction a) (conjunction b) e = ap conjunction ((bytes_eq-Decides a b).0 e)
same_node_is (disjunction a) (disjunction b) e = ap disjunction ((bytes_eq-Decides a b).0 e)
same_node_is always (atom b) e = absurd cc
same_node_is always (denial b) e = absurd cc
same_node_is always (conjunction b) e = absurd cc
same_node_is always (disjunction b) e = absurd cc
same_node_is (atom a) always e = absurd cc
same_node_is (atom a) (denial b) e = absurd cc
same_node_is (atom a) (conjunction b) e = absurd cc
same_node_is (atom a) (disjunction b) e = absurd cc
same_node_is (denial a) always e = absurd cc
same_node_is (denial a) (atom b) e = absurd cc
same_node_is (denial a) (conjunction b) e = absurd cc
same_node_is (denial a) (disjunction b) e = absurd cc
same_node_is (conjunction a) always e = absurd cc
same_node_is (conjunction a) (atom b) e = absurd cc
same_node_is (conjunction a) (denial b) e = absurd cc
same_node_is (conjunction a) (disjunction b) e = absurd cc
same_node_is (disjunction a) always e = absurd cc
same_node_is (disjunction a) (atom b) e = absurd cc
same_node_is (disjunction a) (denial b) e = absurd cc
same_node_is (disjunction a) (conjunction b) e = absurd cc

-- the node that is found is in the table, and is the one that was looked for
pub number_is : (nodes : List NodeValue) (node : NodeValue) (k : ℕ) → number_in nodes node ≡ Some k → (k < length nodes) × (node ≡ get_or nodes k always)
number_is nodes node k e =
    let found = position-Some (same_node node) nodes k always e in
    (found.0, same_node_is node (get_or nodes k always) found.1)

-- ---- a longer table

pub node_of-longer : (Good : Literal → Type 0) (nodes added : List NodeValue) (k : ℕ) (node : NodeValue) → k ≤ length nodes → IsNodeOf Good nodes k node → IsNodeOf Good (nodes ++ added) k node
node_of-longer Good nodes added k always le h = tt
node_of-longer Good nodes added k (atom l) le h = h
node_of-longer Good nodes added k (denial m) le h =
    let below : m < length nodes = omega (arith, h.0) in
    (h.0, subst IsDeniable (sym (get_or-append nodes added always m below)) h.1)
node_of-longer Good nodes added k (conjunction ms) le h = h
node_of-longer Good nodes added k (disjunction ms) le h = h

module _ (Good : Literal → Type 0) (nodes : List NodeValue) (node : NodeValue) (table : IsTableOf Good nodes) (here : IsNodeOf Good nodes (length nodes) node) where
  old_of : (k : ℕ) → k < length nodes → IsNodeOf Good (nodes ++ node ∷ []) k (get_or (nodes ++ node ∷ []) k always)
  old_of k h =
      subst (λ (n : NodeValue). IsNodeOf Good (nodes ++ node ∷ []) k n) (sym (get_or-append nodes (node ∷ []) always k h))
      (node_of-longer Good nodes (node ∷ []) k (get_or nodes k always) (omega arith) (table k h))

  new_of : (k : ℕ) → length nodes ≡ k → IsNodeOf Good (nodes ++ node ∷ []) k (get_or (nodes ++ node ∷ []) k always)
  new_of k e =
      subst (λ (n : NodeValue). IsNodeOf Good (nodes ++ node ∷ []) k n) (sym (get_or_push nodes node always k e))
      (node_of-longer Good nodes (node ∷ []) k node (omega arith) (subst (λ (j : ℕ). IsNodeOf Good nodes j node) e here))

  -- a node of earlier nodes may go last
  pub table_of-push : IsTableOf Good (nodes ++ node ∷ [])
  table_of-push k h =
      elim (cases_lt k (length nodes)) [ inl lt ↦ old_of k lt | inr le ↦ new_of k (omega (arith, h, length_push nodes node)) ]

-- ---- other tables

node_of-better : (Good Better : Literal → Type 0) → ((l : Literal) → Good l → Better l) → (nodes : List NodeValue) (k : ℕ) (node : NodeValue) → IsNodeOf Good nodes k node → IsNodeOf Better nodes k node
node_of-better Good Better better nodes k always h = tt
node_of-better Good Better better nodes k (atom l) h = better l h
node_of-better Good Better better nodes k (denial m) h = h
node_of-better Good Better better nodes k (conjunction ms) h = h
node_of-better Good Better better nodes k (disjunction ms) h = h

-- what is so of good literals is so of a table of them
pub table_of-better : (Good Better : Literal → Type 0) → ((l : Literal) → Good l → Better l) → (nodes : List NodeValue) → IsTableOf Good nodes → IsTableOf Better nodes
table_of-better Good Better better nodes table k h = node_of-better Good Better better nodes k (get_or nodes k always) (table k h)
