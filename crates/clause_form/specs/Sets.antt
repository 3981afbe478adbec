-- The same sets as the least ones that are closed under their rules: what the lists of Polarity are said to be, by a law.
use Rattle.std.specs.Prelude.{◌≡◌, ℕ, List, Contains, true}
use Rattle.idl_node.specs.Nodes.{NodeValue, conjunction, disjunction, denial}
use Rattle.clause_form.specs.Polarity.{node_at, body_at, is_compound}

mutual
  -- the least sets with: each root is asserted; an asserted `and` has its members asserted; ..
  pub data IsAsserted (nodes : List NodeValue) (roots : List ℕ) : ℕ → Type 0 where
    root : (k : ℕ) → Contains roots k → IsAsserted nodes roots k
    of_and : (k m : ℕ) (ms : List ℕ) → IsAsserted nodes roots k → node_at nodes k ≡ conjunction ms → Contains ms m → IsAsserted nodes roots m
    of_denied : (k m : ℕ) → IsDenied nodes roots k → node_at nodes k ≡ denial m → IsAsserted nodes roots m

  pub data IsDenied (nodes : List NodeValue) (roots : List ℕ) : ℕ → Type 0 where
    of_or : (k m : ℕ) (ms : List ℕ) → IsDenied nodes roots k → node_at nodes k ≡ disjunction ms → Contains ms m → IsDenied nodes roots m
    of_asserted : (k m : ℕ) → IsAsserted nodes roots k → node_at nodes k ≡ denial m → IsDenied nodes roots m

-- the body of a member of an asserted `or`, of a denied `and` and of an inner node, where it is an `and` or an `or`
pub data IsInner (nodes : List NodeValue) (roots : List ℕ) : ℕ → Type 0 where
  of_or : (k m : ℕ) (ms : List ℕ) → IsAsserted nodes roots k → node_at nodes k ≡ disjunction ms → Contains ms m → is_compound (node_at nodes (body_at nodes m)) ≡ true → IsInner nodes roots (body_at nodes m)
  of_and : (k m : ℕ) (ms : List ℕ) → IsDenied nodes roots k → node_at nodes k ≡ conjunction ms → Contains ms m → is_compound (node_at nodes (body_at nodes m)) ≡ true → IsInner nodes roots (body_at nodes m)
  of_inner_or : (k m : ℕ) (ms : List ℕ) → IsInner nodes roots k → node_at nodes k ≡ disjunction ms → Contains ms m → is_compound (node_at nodes (body_at nodes m)) ≡ true → IsInner nodes roots (body_at nodes m)
  of_inner_and : (k m : ℕ) (ms : List ℕ) → IsInner nodes roots k → node_at nodes k ≡ conjunction ms → Contains ms m → is_compound (node_at nodes (body_at nodes m)) ≡ true → IsInner nodes roots (body_at nodes m)
