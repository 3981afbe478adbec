-- How the asserted and the denied nodes spread from the last node down.
use Rattle.std.proofs.Common.{refl, sym, subst, arith, inl, inr, ◌∙◌, ◌≡◌, ◌<◌, ◌≤◌, ℕ, zero, suc, List, [], ◌++◌, length, Bool, true, false, eq-or-lt_of_le}
use Rattle.std.specs.List.{AllByRecursion}
use Rattle.stn_core.specs.declared.literal.Literal.{Literal}
use Rattle.idl_node.specs.Nodes.{NodeValue, always, atom, denial, conjunction, disjunction}
use Rattle.idl_node.specs.Tables.{IsNodeOf, IsTableOf}
use Rattle.clause_form.specs.Polarity.{is_among, node_at, Polarity, spread_asserted, spread_denied, spread, polarity_below, polarity_of}
use Rattle.clause_form.proofs.Among.{each, each_among, among_left, among_right, among_first, among_later, among_smaller, among_other}
use Rattle.clause_form.proofs.Truths.{node_is}

-- ---- what is asserted or denied stays so

pub record Grows (p q : Polarity) : Type 0 where
  pub asserted : (k : ℕ) → is_among k p.asserted ≡ true → is_among k q.asserted ≡ true
  pub denied : (k : ℕ) → is_among k p.denied ≡ true → is_among k q.denied ≡ true

grows_same : (p : Polarity) → Grows p p
grows_same p = record { asserted = λ k h. h; denied = λ k h. h }

grows_on : (p q r : Polarity) → Grows p q → Grows q r → Grows p r
grows_on p q r g h = record { asserted = λ k a. h.asserted k (g.asserted k a); denied = λ k a. h.denied k (g.denied k a) }

grows_asserted : (a : Bool) (node : NodeValue) (p : Polarity) → Grows p (spread_asserted a node p)
grows_asserted false node p = grows_same p
grows_asserted true always p = grows_same p
grows_asserted true (atom l) p = grows_same p
grows_asserted true (denial m) p = record { asserted = λ k h. h; denied = λ k h. among_later k m p.denied h }
grows_asserted true (conjunction ms) p = record { asserted = λ k h. among_right k ms p.asserted h; denied = λ k h. h }
grows_asserted true (disjunction ms) p = grows_same p

grows_denied : (d : Bool) (node : NodeValue) (p : Polarity) → Grows p (spread_denied d node p)
grows_denied false node p = grows_same p
grows_denied true always p = grows_same p
grows_denied true (atom l) p = grows_same p
grows_denied true (denial m) p = record { asserted = λ k h. among_later k m p.asserted h; denied = λ k h. h }
grows_denied true (conjunction ms) p = grows_same p
grows_denied true (disjunction ms) p = record { asserted = λ k h. h; denied = λ k h. among_right k ms p.denied h }

grows_spread : (j : ℕ) (node : NodeValue) (p : Polarity) → Grows p (spread j node p)
grows_spread j node p =
    let q : Polarity = spread_asserted (is_among j p.asserted) node p in
    grows_on p q (spread j node p) (grows_asserted (is_among j p.asserted) node p) (grows_denied (is_among j p.denied) node q)

pub grows_below : (n : ℕ) (nodes : List NodeValue) (p : Polarity) → Grows p (polarity_below n nodes p)
grows_below zero nodes p = grows_same p
grows_below (suc n) nodes p =
    let q : Polarity = spread n (node_at nodes n) p in
    grows_on p q (polarity_below n nodes q) (grows_spread n (node_at nodes n) p) (grows_below n nodes q)

-- ---- a node that was passed gets nothing more

pub record IsSameAt (k : ℕ) (p q : Polarity) : Type 0 where
  pub asserted : is_among k q.asserted ≡ is_among k p.asserted
  pub denied : is_among k q.denied ≡ is_among k p.denied

same_at : (k : ℕ) (p : Polarity) → IsSameAt k p p
same_at k p = record { asserted = refl; denied = refl }

same_on : (k : ℕ) (p q r : Polarity) → IsSameAt k p q → IsSameAt k q r → IsSameAt k p r
same_on k p q r g h = record { asserted = h.asserted ∙ g.asserted; denied = h.denied ∙ g.denied }

module _ (Good : Literal → Type 0) (nodes : List NodeValue) where
  late_asserted : (a : Bool) (j k : ℕ) (node : NodeValue) (p : Polarity) → IsNodeOf Good nodes j node → j ≤ k → IsSameAt k p (spread_asserted a node p)
  late_asserted false j k node p is le = same_at k p
  late_asserted true j k always p is le = same_at k p
  late_asserted true j k (atom l) p is le = same_at k p
  late_asserted true j k (denial m) p is le = record { asserted = refl; denied = among_other j k m p.denied is.0 le }
  late_asserted true j k (conjunction ms) p is le = record { asserted = among_smaller j k ms p.asserted is le; denied = refl }
  late_asserted true j k (disjunction ms) p is le = same_at k p

  late_denied : (d : Bool) (j k : ℕ) (node : NodeValue) (p : Polarity) → IsNodeOf Good nodes j node → j ≤ k → IsSameAt k p (spread_denied d node p)
  late_denied false j k node p is le = same_at k p
  late_denied true j k always p is le = same_at k p
  late_denied true j k (atom l) p is le = same_at k p
  late_denied true j k (denial m) p is le = record { asserted = among_other j k m p.asserted is.0 le; denied = refl }
  late_denied true j k (conjunction ms) p is le = same_at k p
  late_denied true j k (disjunction ms) p is le = record { asserted = refl; denied = among_smaller j k ms p.denied is le }

  late_spread : (j k : ℕ) (node : NodeValue) (p : Polarity) → IsNodeOf Good nodes j node → j ≤ k → IsSameAt k p (spread j node p)
  late_spread j k node p is le =
      let q : Polarity = spread_asserted (is_among j p.asserted) node p in
      same_on k p q (spread j node p) (late_asserted (is_among j p.asserted) j k node p is le) (late_denied (is_among j p.denied) j k node q is le)

  pub late_below : (table : IsTableOf Good nodes) (n k : ℕ) (p : Polarity) → n ≤ suc k → IsSameAt k p (polarity_below n nodes p)
  late_below table zero k p le = same_at k p
  late_below table (suc n) k p le =
      let q : Polarity = spread n (node_at nodes n) p in
      same_on k p q (polarity_below n nodes q) (late_spread n k (node_at nodes n) p (node_is Good nodes table n) (omega arith)) (late_below table n k q (omega arith))

-- ---- the rules

-- what an asserted node, and a denied one, has in the lists
abbrev pub AssertedSpreads : NodeValue → Polarity → Type 0
AssertedSpreads (conjunction ms) p = AllByRecursion (λ m. is_among m p.asserted ≡ true) ms
AssertedSpreads (denial m) p = is_among m p.denied ≡ true
AssertedSpreads _ p = Unit {0}

abbrev pub DeniedSpreads : NodeValue → Polarity → Type 0
DeniedSpreads (disjunction ms) p = AllByRecursion (λ m. is_among m p.denied ≡ true) ms
DeniedSpreads (denial m) p = is_among m p.asserted ≡ true
DeniedSpreads _ p = Unit {0}

grows_AssertedSpreads : (node : NodeValue) (p q : Polarity) → Grows p q → AssertedSpreads node p → AssertedSpreads node q
grows_AssertedSpreads always p q g h = tt
grows_AssertedSpreads (atom l) p q g h = tt
grows_AssertedSpreads (denial m) p q g h = g.denied m h
grows_AssertedSpreads (conjunction ms) p q g h = each (λ m. is_among m p.asserted ≡ true) (λ m. is_among m q.asserted ≡ true) ms (λ m a. g.asserted m a) h
grows_AssertedSpreads (disjunction ms) p q g h = tt

grows_DeniedSpreads : (node : NodeValue) (p q : Polarity) → Grows p q → DeniedSpreads node p → DeniedSpreads node q
grows_DeniedSpreads always p q g h = tt
grows_DeniedSpreads (atom l) p q g h = tt
grows_DeniedSpreads (denial m) p q g h = g.asserted m h
grows_DeniedSpreads (conjunction ms) p q g h = tt
grows_DeniedSpreads (disjunction ms) p q g h = each (λ m. is_among m p.denied ≡ true) (λ m. is_among m q.denied ≡ true) ms (λ m a. g.denied m a) h

asserted_spreads : (node : NodeValue) (p : Polarity) → AssertedSpreads node (spread_asserted true node p)
asserted_spreads always p = tt
asserted_spreads (atom l) p = tt
asserted_spreads (denial m) p = among_first m p.denied
asserted_spreads (conjunction ms) p = each_among (λ m. is_among m (ms ++ p.asserted) ≡ true) ms (λ k h. among_left k ms p.asserted h)
asserted_spreads (disjunction ms) p = tt

denied_spreads : (node : NodeValue) (p : Polarity) → DeniedSpreads node (spread_denied true node p)
denied_spreads always p = tt
denied_spreads (atom l) p = tt
denied_spreads (denial m) p = among_first m p.asserted
denied_spreads (conjunction ms) p = tt
denied_spreads (disjunction ms) p = each_among (λ m. is_among m (ms ++ p.denied) ≡ true) ms (λ k h. among_left k ms p.denied h)

spread_asserts : (j : ℕ) (node : NodeValue) (p : Polarity) → is_among j p.asserted ≡ true → AssertedSpreads node (spread j node p)
spread_asserts j node p h =
    let q : Polarity = spread_asserted (is_among j p.asserted) node p in
    grows_AssertedSpreads node q (spread j node p) (grows_denied (is_among j p.denied) node q)
    (subst (λ (b : Bool). AssertedSpreads node (spread_asserted b node p)) (sym h) (asserted_spreads node p))

spread_denies : (j : ℕ) (node : NodeValue) (p : Polarity) → is_among j p.denied ≡ true → DeniedSpreads node (spread j node p)
spread_denies j node p h =
    let q : Polarity = spread_asserted (is_among j p.asserted) node p in
    subst (λ (b : Bool). DeniedSpreads node (spread_denied b node q)) (sym h) (denied_spreads node q)

-- the lists are closed under the rules at node k
pub record IsClosedAt (node : NodeValue) (k : ℕ) (p : Polarity) : Type 0 where
  pub asserted : is_among k p.asserted ≡ true → AssertedSpreads node p
  pub denied : is_among k p.denied ≡ true → DeniedSpreads node p

module _ (Good : Literal → Type 0) (nodes : List NodeValue) (table : IsTableOf Good nodes) where
  closed_here : (n : ℕ) (p : Polarity) → IsClosedAt (node_at nodes n) n (polarity_below (suc n) nodes p)
  closed_here n p =
      let node : NodeValue = node_at nodes n in
      let q : Polarity = spread n node p in
      let r : Polarity = polarity_below n nodes q in
      let same : IsSameAt n p r = same_on n p q r (late_spread Good nodes n n node p (node_is Good nodes table n) (omega arith)) (late_below Good nodes table n n q (omega arith)) in
      record {
        asserted = λ h. grows_AssertedSpreads node q r (grows_below n nodes q) (spread_asserts n node p (sym same.asserted ∙ h));
        denied = λ h. grows_DeniedSpreads node q r (grows_below n nodes q) (spread_denies n node p (sym same.denied ∙ h));
      }

  pub closed_below : (n k : ℕ) (p : Polarity) → k < n → IsClosedAt (node_at nodes k) k (polarity_below n nodes p)
  closed_below zero k p h = absurd (omega arith)
  closed_below (suc n) k p h =
      let le : k ≤ n = omega arith in
      elim (eq-or-lt_of_le le) [
        | inl e ↦ subst (λ (j : ℕ). IsClosedAt (node_at nodes j) j (polarity_below (suc n) nodes p)) (sym e) (closed_here n p)
        | inr lt ↦ closed_below n k (spread n (node_at nodes n) p) lt
      ]

  pub closed : (roots : List ℕ) (k : ℕ) → k < length nodes → IsClosedAt (node_at nodes k) k (polarity_of nodes roots)
  unfolding polarity_of
  closed roots k h = closed_below (length nodes) k (record { asserted = roots; denied = [] }) h

pub root_asserted : (nodes : List NodeValue) (roots : List ℕ) (k : ℕ) → is_among k roots ≡ true → is_among k (polarity_of nodes roots).asserted ≡ true
unfolding polarity_of
root_asserted nodes roots k h = (grows_below (length nodes) nodes (record { asserted = roots; denied = [] })).asserted k h
