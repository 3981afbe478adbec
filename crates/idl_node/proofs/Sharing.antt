-- Nodes are shared by what they are, and not by where they lie in memory.
use Rattle.std.proofs.Common.{arith, ◌<◌, ◌≤◌, refl, sym, ap, ◌∙◌, ◌≡◌, ◌+◌, ℕ, List, [], ◌∷◌, ◌++◌, length, take, Bool, true, false, ◌||◌, Option, Some, None}
use Rattle.std.specs.Prelude.{cond, nat_lt}
use Rattle.std.specs.List.{position, position_from, position_or_len, list_any}
use Rattle.std.proofs.lemmas.Iterator.Adapters.{position_from-zero}
use Rattle.std.proofs.lemmas.List.{map-append, length-map, length_push, take_at}
use Rattle.std.proofs.lemmas.Bool.Decides.{nat_tests}
use Rattle.indexmap.specs.IndexSet.{insert_key}
use Rattle.idl_node.specs.contracts.node.NodePartialEq.TheImpl.{eq-value}
use Rattle.idl_node.specs.declared.node.Node.{Node}
use Rattle.idl_node.specs.declared.node.Node.TheVariants.{True, Atom, Not, And, Or}
use Rattle.idl_node.specs.Limits.{nodes_limit}
use Rattle.idl_node.specs.Nodes.{NodeValue, node_value, same_node, number_in, shown, placed, placed_by}

pub node_eq : (a b : Node) → eq-value.it a b ≡ same_node (node_value a) (node_value b)
node_eq True True = refl
node_eq True (Atom b) = refl
node_eq True (Not b) = refl
node_eq True (And b) = refl
node_eq True (Or b) = refl
node_eq (Atom a) True = refl
node_eq (Atom a) (Atom b) = refl
node_eq (Atom a) (Not b) = refl
node_eq (Atom a) (And b) = refl
node_eq (Atom a) (Or b) = refl
node_eq (Not a) True = refl
node_eq (Not a) (Atom b) = refl
node_eq (Not a) (Not b) = refl
node_eq (Not a) (And b) = refl
node_eq (Not a) (Or b) = refl
node_eq (And a) True = refl
node_eq (And a) (Atom b) = refl
node_eq (And a) (Not b) = refl
node_eq (And a) (And b) = refl
node_eq (And a) (Or b) = refl
node_eq (Or a) True = refl
node_eq (Or a) (Atom b) = refl
node_eq (Or a) (Not b) = refl
node_eq (Or a) (And b) = refl
node_eq (Or a) (Or b) = refl

from_shown : (node : Node) (i : ℕ) (nodes : List Node) → position_from (eq-value.it node) i nodes ≡ position_from (same_node (node_value node)) i (shown nodes)
from_shown node i [] = refl
from_shown node i (n ∷ nodes) = rw (node_eq node n) (ap (cond (same_node (node_value node) (node_value n)) (Some i)) (from_shown node (i + 1) nodes))

pub position_shown : (node : Node) (nodes : List Node) → position (eq-value.it node) nodes ≡ number_in (shown nodes) (node_value node)
position_shown node nodes = position_from-zero (eq-value.it node) nodes ∙ from_shown node 0 nodes ∙ sym (position_from-zero (same_node (node_value node)) (shown nodes))

absent_step : {A : Type 0} (test : A → Bool) (i : ℕ) (x : A) (xs : List A) (b : Bool) → (position_from test (i + 1) xs ≡ None → list_any test xs ≡ false) → test x ≡ b → cond b (Some i) (position_from test (i + 1) xs) ≡ None
    → (test x || list_any test xs) ≡ false
absent_step test i x xs true rest t e = absurd cc
absent_step test i x xs false rest t e = rw t (rest e)

absent_from : {A : Type 0} (test : A → Bool) (i : ℕ) (xs : List A) → position_from test i xs ≡ None → list_any test xs ≡ false
absent_from test i [] e = refl
absent_from test i (x ∷ xs) e = absent_step test i x xs (test x) (absent_from test (i + 1) xs) refl e

-- a node that isn't there goes last
pub node_added : (keys : List Node) (node : Node) → number_in (shown keys) (node_value node) ≡ None → shown (insert_key eq-value.it keys node) ≡ shown keys ++ node_value node ∷ []
node_added keys node e =
    let found : position_from (eq-value.it node) 0 keys ≡ None = from_shown node 0 keys ∙ sym (position_from-zero (same_node (node_value node)) (shown keys)) ∙ e in
    let absent : list_any (eq-value.it node) keys ≡ false = absent_from (eq-value.it node) 0 keys found in
    rw absent (map-append node_value keys (node ∷ []))

pub placed_new : (nodes : List NodeValue) (node : NodeValue) (count : ℕ) → number_in nodes node ≡ None → count ≡ length nodes → count < 1048576 → placed nodes node ≡ Some (record { nodes = nodes ++ node ∷ []; number = count })
placed_new nodes node count e f lt =
    let within : length nodes < 1048576 = omega (arith, f, lt) in
    let room : nat_lt (length nodes) 1048576 ≡ true = grind (arith, nat_tests) in
    let added : placed_by None nodes node ≡ Some (record { nodes = nodes ++ node ∷ []; number = length nodes }) = rw room refl in
    ap (λ (k : Option ℕ). placed_by k nodes node) e ∙ added ∙ ap (λ (n : ℕ). Some (record { nodes = nodes ++ node ∷ []; number = n })) (sym f)

present_step : {A : Type 0} (test : A → Bool) (i k : ℕ) (x : A) (xs : List A) (b : Bool) → (position_from test (i + 1) xs ≡ Some k → list_any test xs ≡ true)
    → test x ≡ b → cond b (Some i) (position_from test (i + 1) xs) ≡ Some k → (test x || list_any test xs) ≡ true
present_step test i k x xs true rest t e = rw t refl
present_step test i k x xs false rest t e = rw t (rest e)

present_from : {A : Type 0} (test : A → Bool) (i k : ℕ) (xs : List A) → position_from test i xs ≡ Some k → list_any test xs ≡ true
present_from test i k [] e = absurd cc
present_from test i k (x ∷ xs) e = present_step test i k x xs (test x) (present_from test (i + 1) k xs) refl e

-- ---- a node that is inserted: its place is where an equal one stands, or the end

place_found : (at count k : ℕ) (b : Bool) → nat_lt at count ≡ b → cond b (Some at) None ≡ Some k → (at ≡ k) × (at < count)
place_found at count k true t e =
    let same : at ≡ k = cc in
    let within : at < count = grind (arith, nat_tests) in
    (same, within)
place_found at count k false t e = absurd cc

place_behind : (at count : ℕ) (b : Bool) → nat_lt at count ≡ b → cond b (Some at) None ≡ None → count ≤ at
place_behind at count true t e = absurd cc
place_behind at count false t e = grind (arith, nat_tests)

full_table : (count : ℕ) → nodes_limit ≤ count → nat_lt count nodes_limit ≡ false
full_table count h = grind (arith, nat_tests)

module _ (keys after : List Node) (node : Node) (number : ℕ) (is : after ≡ insert_key eq-value.it keys node)
    (at : number ≡ position_or_len (eq-value.it node) keys) (within : number < length after) where
  -- an equal node is there
  there_already : (k : ℕ) → number_in (shown keys) (node_value node) ≡ Some k → (after ≡ keys) × (number ≡ k) × (number < length keys)
  there_already k e =
      let found : position (eq-value.it node) keys ≡ Some k = position_shown node keys ∙ e in
      let any : list_any (eq-value.it node) keys ≡ true = present_from (eq-value.it node) 0 k keys (sym (position_from-zero (eq-value.it node) keys) ∙ found) in
      let place = place_found (position_or_len (eq-value.it node) keys) (length keys) k (nat_lt (position_or_len (eq-value.it node) keys) (length keys)) refl found in
      let same : after ≡ keys = is ∙ rw any refl in
      (same, at ∙ place.0, omega (arith, at, place.1))

  -- it is new
  goes_last : number_in (shown keys) (node_value node) ≡ None → (shown after ≡ shown keys ++ node_value node ∷ []) × (number ≡ length (shown keys))
  goes_last e =
      let none : position (eq-value.it node) keys ≡ None = position_shown node keys ∙ e in
      let behind : length keys ≤ position_or_len (eq-value.it node) keys = place_behind _ _ (nat_lt (position_or_len (eq-value.it node) keys) (length keys)) refl none in
      let added : shown after ≡ shown keys ++ node_value node ∷ [] = ap shown is ∙ node_added keys node e in
      let count : length after ≡ length keys + 1 =
      sym (length-map after node_value) ∙ ap length added ∙ length_push (shown keys) (node_value node) ∙ ap (λ (n : ℕ). n + 1) (length-map keys node_value) in
      let last : number ≡ length (shown keys) = omega (arith, behind, at, count, within, length-map keys node_value) in
      (added, last)

  -- within the limit the node is placed
  placed_by_insertion : (found : Option ℕ) → number_in (shown keys) (node_value node) ≡ found → number < nodes_limit
      → placed (shown keys) (node_value node) ≡ Some (record { nodes = shown after; number = number })
  placed_by_insertion (Some k) e lt =
      let there = there_already k e in
      ap (λ (o : Option ℕ). placed_by o (shown keys) (node_value node)) e
      ∙ ap (λ (n : ℕ). Some (record { nodes = shown keys; number = n })) (sym there.1)
      ∙ ap (λ (ns : List Node). Some (record { nodes = shown ns; number = number })) (sym there.0)
  placed_by_insertion None e lt =
      let last = goes_last e in
      placed_new (shown keys) (node_value node) number e last.1 lt
      ∙ ap (λ (ns : List NodeValue). Some (record { nodes = ns; number = number })) (sym last.0)

  pub placed_within : number < nodes_limit → placed (shown keys) (node_value node) ≡ Some (record { nodes = shown after; number = number })
  placed_within lt = placed_by_insertion (number_in (shown keys) (node_value node)) refl lt

  full_by : (found : Option ℕ) → number_in (shown keys) (node_value node) ≡ found → length (shown keys) ≤ nodes_limit → nodes_limit ≤ number
      → (placed (shown keys) (node_value node) ≡ None) × (take nodes_limit (shown after) ≡ shown keys)
  full_by (Some k) e few many =
      let there = there_already k e in
      absurd (omega (arith, there.2, few, many, length-map keys node_value))
  full_by None e few many =
      let last = goes_last e in
      let full : nodes_limit ≡ length (shown keys) = omega (arith, last.1, few, many) in
      let none : placed_by None (shown keys) (node_value node) ≡ None =
      ap (λ (b : Bool). cond b (Some (record { nodes = shown keys ++ node_value node ∷ []; number = length (shown keys) })) None)
      (full_table (length (shown keys)) (omega (arith, full))) in (
        ap (λ (o : Option ℕ). placed_by o (shown keys) (node_value node)) e ∙ none,
        ap (take nodes_limit) last.0 ∙ take_at (shown keys) (node_value node ∷ []) nodes_limit (sym full),
      )

  -- beyond it there is no room, and the table is cut back to what it was
  pub placed_nowhere : length (shown keys) ≤ nodes_limit → nodes_limit ≤ number
      → (placed (shown keys) (node_value node) ≡ None) × (take nodes_limit (shown after) ≡ shown keys)
  placed_nowhere few many = full_by (number_in (shown keys) (node_value node)) refl few many
