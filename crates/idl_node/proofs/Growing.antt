-- What a making leaves, of one node and of one after another.
use Rattle.std.proofs.Common.{refl, sym, ap, subst, arith, ◌∙◌, ◌≡◌, ◌<◌, ℕ, List, [], ◌∷◌, ◌++◌, length, Bool, true, false, Option, Some, None, ℤ, append_assoc, append-nil}
use Rattle.std.specs.Prelude.{nat_lt, if◌then◌else◌}
use Rattle.std.specs.List.{AllByRecursion}
use Rattle.std.proofs.lemmas.Bool.Decides.{nat_tests}
use Rattle.std.proofs.lemmas.List.{get_or_push, length_push, length-append}
use Rattle.stn_core.specs.declared.literal.Literal.{Literal}
use Rattle.idl_node.specs.Limits.{nodes_limit}
use Rattle.idl_node.specs.Nodes.{NodeValue, always, number_in, Placed, placed, placed_by}
use Rattle.idl_node.specs.Making.{then, there}
use Rattle.idl_node.specs.Meaning.{IsMade}
use Rattle.idl_node.specs.Tables.{IsNodeOf, IsTableOf}
use Rattle.idl_node.specs.Truth.{node_truth, truth}
use Rattle.idl_node.proofs.Keeping.{number_is, table_of-push}
use Rattle.idl_node.proofs.Truths.{node_truth-agree, truth-node, truth-longer}

-- ---- members of a longer table

-- members that are there
abbrev pub AreThere : List NodeValue → List ℕ → Type 0
AreThere nodes ms = AllByRecursion (λ m. m < length nodes) ms

pub there_longer : (nodes added : List NodeValue) (k : ℕ) → k < length nodes → k < length (nodes ++ added)
there_longer nodes added k h = omega (arith, h, length-append nodes added)

pub are_there_longer : (nodes added : List NodeValue) (ms : List ℕ) → AreThere nodes ms → AreThere (nodes ++ added) ms
are_there_longer nodes added [] h = tt
are_there_longer nodes added (m ∷ ms) h = (there_longer nodes added m h.0, are_there_longer nodes added ms h.1)

pub are_there_push : (nodes : List NodeValue) (ms : List ℕ) (m : ℕ) → AreThere nodes ms → m < length nodes → AreThere nodes (ms ++ m ∷ [])
are_there_push nodes [] m h one = (one, tt)
are_there_push nodes (k ∷ ms) m h one = (h.0, are_there_push nodes ms m h.1 one)

module _ (Good : Literal → Type 0) (nodes : List NodeValue) (p : Placed) (meaning : List ℤ → Bool) (made : IsMade Good nodes p meaning) where
  -- what was there is there
  pub made-there : (k : ℕ) → k < length nodes → k < length p.nodes
  made-there k h = omega (arith, there_longer nodes made.added k h, ap length made.grows)

  pub made-are_there : (ms : List ℕ) → AreThere nodes ms → AreThere p.nodes ms
  made-are_there ms h = subst (λ (ns : List NodeValue). AreThere ns ms) (sym made.grows) (are_there_longer nodes made.added ms h)

  -- and is as true
  pub made-keeps : IsTableOf Good nodes → (values : List ℤ) (k : ℕ) → k < length nodes → truth p.nodes values k ≡ truth nodes values k
  made-keeps table values k h = ap (λ (ns : List NodeValue). truth ns values k) made.grows ∙ truth-longer Good nodes values table made.added k h

  -- another reading of its meaning
  pub made-means : (other : List ℤ → Bool) → ((values : List ℤ) → meaning values ≡ other values) → IsMade Good nodes p other
  made-means other same = record {
    added = made.added;
    grows = made.grows;
    in_range = made.in_range;
    few = made.few;
    table = made.table;
    says = λ values. made.says values ∙ same values;
  }

  -- a making after it
  pub made-on : (q : Placed) (later : List ℤ → Bool) → IsMade Good p.nodes q later → IsMade Good nodes q later
  made-on q later next = record {
    added = made.added ++ next.added;
    grows = next.grows ∙ ap (λ (ns : List NodeValue). ns ++ next.added) made.grows ∙ append_assoc nodes made.added next.added;
    in_range = next.in_range;
    few = λ h. next.few (made.few h);
    table = next.table;
    says = next.says;
  }

-- ---- tables that begin with one

pub record IsLonger (base nodes : List NodeValue) : Type 0 where
  pub added : List NodeValue
  pub grows : nodes ≡ base ++ added

pub longer-itself : (base : List NodeValue) → IsLonger base base
longer-itself base = record { added = []; grows = sym (append-nil base) }

module _ (base nodes : List NodeValue) (longer : IsLonger base nodes) where
  pub longer-there : (k : ℕ) → k < length base → k < length nodes
  longer-there k h = omega (arith, there_longer base longer.added k h, ap length longer.grows)

  pub longer-keeps : (Good : Literal → Type 0) → IsTableOf Good base → (values : List ℤ) (k : ℕ) → k < length base → truth nodes values k ≡ truth base values k
  longer-keeps Good table values k h = ap (λ (ns : List NodeValue). truth ns values k) longer.grows ∙ truth-longer Good base values table longer.added k h

  pub longer-made : (Good : Literal → Type 0) (p : Placed) (meaning : List ℤ → Bool) → IsMade Good nodes p meaning → IsLonger base p.nodes
  longer-made Good p meaning made = record {
    added = longer.added ++ made.added;
    grows = made.grows ∙ ap (λ (ns : List NodeValue). ns ++ made.added) longer.grows ∙ append_assoc base longer.added made.added;
  }

-- ---- a making that goes on

-- the node on the way
pub record IsThen (first : Option Placed) (next : Placed → Option Placed) (q : Placed) : Type 0 where
  pub middle : Placed
  pub begins : first ≡ Some middle
  pub goes_on : next middle ≡ Some q

pub then-is : (first : Option Placed) (next : Placed → Option Placed) (q : Placed) → (then) first next ≡ Some q → IsThen first next q
then-is None next q e = absurd cc
then-is (Some p) next q e = record { middle = p; begins = refl; goes_on = e }

-- ---- one node

module _ (Good : Literal → Type 0) (nodes : List NodeValue) (table : IsTableOf Good nodes) where
  -- a node that is there
  pub there-made : (k : ℕ) (p : Placed) → k < length nodes → there nodes k ≡ Some p → IsMade Good nodes p (λ values. truth nodes values k)
  there-made k p h e =
      let is : record { nodes = nodes; number = k } ≡ p = cc in
      subst (λ (q : Placed). IsMade Good nodes q (λ values. truth nodes values k)) is (record {
        added = [];
        grows = sym (append-nil nodes);
        in_range = h;
        few = λ le. le;
        table = table;
        says = λ values. refl;
      })

  module _ (node : NodeValue) (here : IsNodeOf Good nodes (length nodes) node) where
    found-made : (k : ℕ) (p : Placed) → number_in nodes node ≡ Some k → there nodes k ≡ Some p → IsMade Good nodes p (λ values. node_truth values (truth nodes values) node)
    found-made k p e f =
        let found = number_is nodes node k e in
        made-means Good nodes p (λ values. truth nodes values k) (there-made k p found.0 f) (λ values. node_truth values (truth nodes values) node)
        (λ values. truth-node Good nodes values table k found.0 ∙ ap (node_truth values (truth nodes values)) (sym found.1))

    -- the node's truth in the table that ends with it
    last_truth : (values : List ℤ) → truth (nodes ++ node ∷ []) values (length nodes) ≡ node_truth values (truth nodes values) node
    last_truth values =
        let longer : List NodeValue = nodes ++ node ∷ [] in
        truth-node Good longer values (table_of-push Good nodes node table here) (length nodes) (omega (arith, length_push nodes node))
        ∙ ap (node_truth values (truth longer values)) (get_or_push nodes node always (length nodes) refl)
        ∙ node_truth-agree (truth longer values) (truth nodes values) (length nodes) (λ j h. truth-longer Good nodes values table (node ∷ []) j h) values Good nodes node here

    last-made : (p : Placed) (test : Bool) → nat_lt (length nodes) nodes_limit ≡ test → (if test then Some (record { nodes = nodes ++ node ∷ []; number = length nodes }) else None) ≡ Some p
        → IsMade Good nodes p (λ values. node_truth values (truth nodes values) node)
    last-made p false e f = absurd cc
    last-made p true e f =
        let is : record { nodes = nodes ++ node ∷ []; number = length nodes } ≡ p = cc in
        let room : length nodes < nodes_limit = grind (arith, nat_tests) in
        subst (λ (q : Placed). IsMade Good nodes q (λ values. node_truth values (truth nodes values) node)) is (record {
          added = node ∷ [];
          grows = refl;
          in_range = omega (arith, length_push nodes node);
          few = λ h. omega (arith, length_push nodes node, room);
          table = table_of-push Good nodes node table here;
          says = last_truth;
        })

    by_number-made : (p : Placed) (found : Option ℕ) → number_in nodes node ≡ found → placed_by found nodes node ≡ Some p → IsMade Good nodes p (λ values. node_truth values (truth nodes values) node)
    by_number-made p (Some k) e f = found-made k p e f
    by_number-made p None e f = last-made p (nat_lt (length nodes) nodes_limit) refl f

    -- a node that is placed is true where its members say so
    pub placed-made : (p : Placed) → placed nodes node ≡ Some p → IsMade Good nodes p (λ values. node_truth values (truth nodes values) node)
    placed-made p e = by_number-made p (number_in nodes node) refl e
