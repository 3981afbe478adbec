-- Each source is the number of a root.
use Rattle.std.proofs.Common.{arith, ◌≡◌, ◌<◌, ◌+◌, ℕ, zero, suc, List, [], ◌∷◌, ◌++◌, length, replicate, Bool, true, false, Some, slice_get}
use Rattle.std.specs.Prelude.{Option, None, if◌then◌else◌}
use Rattle.idl_node.specs.Nodes.{NodeValue}
use Rattle.clause_form.specs.Polarity.{is_among, node_at, Polarity, polarity_of, inner_nodes}
use Rattle.clause_form.specs.Sources.{first_root, asserts, denies, asserted_count, denied_count, inner_clause_count, times_when, node_sources, sources_below, sources_of}

abbrev IsBelow : ℕ → Option ℕ → Type 0
IsBelow n None = Unit {0}
IsBelow n (Some r) = r < n

abbrev AreBelow : ℕ → List (Option ℕ) → Type 0
AreBelow n [] = Unit {0}
AreBelow n (s ∷ ss) = IsBelow n s × AreBelow n ss

below_first : (test : ℕ → Bool) (n number : ℕ) (roots : List ℕ) → number + length roots ≡ n → IsBelow n (first_root test number roots)
below_first test n number [] e = tt
below_first test n number (root ∷ roots) e = turn (test root) (below_first test n (suc number) roots (omega arith))
  where
    turn : (b : Bool) → IsBelow n (first_root test (suc number) roots) → IsBelow n (if b then Some number else first_root test (suc number) roots)
    turn true rest = omega arith
    turn false rest = rest

module _ (n : ℕ) where
  below_append : (ss ts : List (Option ℕ)) → AreBelow n ss → AreBelow n ts → AreBelow n (ss ++ ts)
  below_append [] ts h k = k
  below_append (s ∷ ss) ts h k = (h.0, below_append ss ts h.1 k)

  below_times : (count : ℕ) (s : Option ℕ) → IsBelow n s → AreBelow n (replicate count s)
  below_times zero s h = tt
  below_times (suc count) s h = (h, below_times count s h)

  below_when : (b : Bool) (count : ℕ) (s : Option ℕ) → IsBelow n s → AreBelow n (times_when b count s)
  below_when true count s h = below_times count s h
  below_when false count s h = tt

  below_at : (ss : List (Option ℕ)) (i r : ℕ) → AreBelow n ss → slice_get ss i ≡ Some (Some r) → r < n
  below_at [] i r h e = absurd (cc)
  below_at (None ∷ ss) zero r h e = absurd (cc)
  below_at (Some k ∷ ss) zero r h e = (let same : k ≡ r = cc in let lt : k < n = h.0 in omega arith)
  below_at (s ∷ ss) (suc i) r h e = below_at ss i r h.1 e

module _ (nodes : List NodeValue) (roots : List ℕ) (p : Polarity) (inner : List ℕ) where
  below_node : (k : ℕ) → AreBelow (length roots) (node_sources nodes roots p inner k)
  below_node k =
      let n : ℕ = length roots in
      let a : Option ℕ = first_root (asserts nodes k) 0 roots in
      let d : Option ℕ = first_root (denies nodes k) 0 roots in
      below_append n _ _ (below_when n (is_among k p.asserted) (asserted_count (node_at nodes k)) a (below_first (asserts nodes k) n 0 roots (omega arith)))
      (below_append n _ _ (below_when n (is_among k p.denied) (denied_count (node_at nodes k)) d (below_first (denies nodes k) n 0 roots (omega arith)))
      (below_when n (is_among k inner) (inner_clause_count (node_at nodes k)) None tt))

  below_all : (k : ℕ) → AreBelow (length roots) (sources_below nodes roots p inner k)
  below_all zero = tt
  below_all (suc k) = below_append (length roots) _ _ (below_all k) (below_node k)

pub sources_within : (nodes : List NodeValue) (roots : List ℕ) (i r : ℕ) → slice_get (sources_of nodes roots) i ≡ Some (Some r) → r < length roots
unfolding sources_of
sources_within nodes roots i r e =
    let p : Polarity = polarity_of nodes roots in
    below_at (length roots) _ i r (below_all nodes roots p (inner_nodes nodes p) (length nodes)) e
