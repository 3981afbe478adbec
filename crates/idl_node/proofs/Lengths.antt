-- A making only adds nodes, whatever the table and the members, and stays within the table's limit.
use Rattle.std.proofs.Common.{refl, sym, ap, subst, arith, ◌∙◌, ◌≡◌, ◌<◌, ◌≤◌, ℕ, List, [], ◌∷◌, ◌++◌, length, Bool, true, false, Option, Some, None, append_assoc, append-nil}
use Rattle.std.specs.Prelude.{nat_lt, cond, slice_get}
use Rattle.std.proofs.lemmas.Bool.Decides.{nat_tests}
use Rattle.std.proofs.lemmas.List.{length_push}
use Rattle.stn_core.specs.Literal.{negation_of}
use Rattle.idl_node.specs.Limits.{nodes_limit}
use Rattle.idl_node.specs.Nodes.{NodeValue, always, atom, denial, conjunction, disjunction, number_in, Placed, placed, placed_by}
use Rattle.idl_node.specs.Making.{then, there, denied_by, denied, conjoined, disjoined, not_or, or_not, and_not, not_and, equal, different, chosen, exclusive, implied, neighbours, pairs, each_pair, all_equal, all_different, constant, falsehood}
use Rattle.idl_node.proofs.Growing.{then-is}

pub record IsGrown (nodes : List NodeValue) (p : Placed) : Type 0 where
  pub added : List NodeValue
  pub grows : p.nodes ≡ nodes ++ added
  pub few : length nodes ≤ nodes_limit → length p.nodes ≤ nodes_limit

pub grown-on : (nodes : List NodeValue) (p q : Placed) → IsGrown nodes p → IsGrown p.nodes q → IsGrown nodes q
grown-on nodes p q one two = record {
  added = one.added ++ two.added;
  grows = two.grows ∙ ap (λ (ns : List NodeValue). ns ++ two.added) one.grows ∙ append_assoc nodes one.added two.added;
  few = λ h. two.few (one.few h);
}

pub then-grows : (nodes : List NodeValue) (first : Option Placed) (next : Placed → Option Placed) (q : Placed) → ((p : Placed) → first ≡ Some p → IsGrown nodes p) → ((p r : Placed) → next p ≡ Some r → IsGrown p.nodes r) → then first next ≡ Some q → IsGrown nodes q
then-grows nodes first next q one two e =
    let t = then-is first next q e in
    grown-on nodes t.middle q (one t.middle t.begins) (two t.middle q t.goes_on)

-- ---- one node

pub there-grows : (nodes : List NodeValue) (k : ℕ) (p : Placed) → there nodes k ≡ Some p → IsGrown nodes p
there-grows nodes k p e =
    let is : record { nodes = nodes; number = k } ≡ p = cc in
    subst (λ (q : Placed). IsGrown nodes q) is (record { added = []; grows = sym (append-nil nodes); few = λ h. h })

last-grows : (nodes : List NodeValue) (node : NodeValue) (p : Placed) (test : Bool) → nat_lt (length nodes) nodes_limit ≡ test → cond test (Some (record { nodes = nodes ++ node ∷ []; number = length nodes })) None ≡ Some p → IsGrown nodes p
last-grows nodes node p false e f = absurd cc
last-grows nodes node p true e f =
    let is : record { nodes = nodes ++ node ∷ []; number = length nodes } ≡ p = cc in
    let room : length nodes < nodes_limit = grind (arith, nat_tests) in
    subst (λ (q : Placed). IsGrown nodes q) is (record { added = node ∷ []; grows = refl; few = λ h. omega (arith, length_push nodes node, room) })

placed_by-grows : (nodes : List NodeValue) (node : NodeValue) (p : Placed) (found : Option ℕ) → placed_by found nodes node ≡ Some p → IsGrown nodes p
placed_by-grows nodes node p (Some k) e = there-grows nodes k p e
placed_by-grows nodes node p None e = last-grows nodes node p (nat_lt (length nodes) nodes_limit) refl e

pub placed-grows : (nodes : List NodeValue) (node : NodeValue) (p : Placed) → placed nodes node ≡ Some p → IsGrown nodes p
placed-grows nodes node p e = placed_by-grows nodes node p (number_in nodes node) e

denied_by-grows : (found : Option NodeValue) (nodes : List NodeValue) (k : ℕ) (p : Placed) → denied_by found nodes k ≡ Some p → IsGrown nodes p
denied_by-grows (Some (atom l)) nodes k p e = placed-grows nodes (atom (negation_of l)) p e
denied_by-grows (Some (denial m)) nodes k p e = there-grows nodes m p e
denied_by-grows (Some always) nodes k p e = placed-grows nodes (denial k) p e
denied_by-grows (Some (conjunction ms)) nodes k p e = placed-grows nodes (denial k) p e
denied_by-grows (Some (disjunction ms)) nodes k p e = placed-grows nodes (denial k) p e
denied_by-grows None nodes k p e = placed-grows nodes (denial k) p e

pub denied-grows : (nodes : List NodeValue) (k : ℕ) (p : Placed) → denied nodes k ≡ Some p → IsGrown nodes p
denied-grows nodes k p e = denied_by-grows (slice_get nodes k) nodes k p e

pub conjoined-grows : (nodes : List NodeValue) (members : List ℕ) (p : Placed) → conjoined nodes members ≡ Some p → IsGrown nodes p
conjoined-grows nodes [] p e = placed-grows nodes (conjunction []) p e
conjoined-grows nodes (k ∷ []) p e = there-grows nodes k p e
conjoined-grows nodes (k ∷ j ∷ ms) p e = placed-grows nodes (conjunction (k ∷ j ∷ ms)) p e

pub disjoined-grows : (nodes : List NodeValue) (members : List ℕ) (p : Placed) → disjoined nodes members ≡ Some p → IsGrown nodes p
disjoined-grows nodes [] p e = placed-grows nodes (disjunction []) p e
disjoined-grows nodes (k ∷ []) p e = there-grows nodes k p e
disjoined-grows nodes (k ∷ j ∷ ms) p e = placed-grows nodes (disjunction (k ∷ j ∷ ms)) p e

-- ---- a few nodes

module _ (nodes : List NodeValue) (a b : ℕ) (q : Placed) where
  pub not_or-grows : not_or nodes a b ≡ Some q → IsGrown nodes q
  not_or-grows e = then-grows nodes (denied nodes a) (λ p. placed p.nodes (disjunction (p.number ∷ b ∷ []))) q (denied-grows nodes a) (λ p r f. placed-grows p.nodes (disjunction (p.number ∷ b ∷ [])) r f) e

  pub or_not-grows : or_not nodes a b ≡ Some q → IsGrown nodes q
  or_not-grows e = then-grows nodes (denied nodes b) (λ p. placed p.nodes (disjunction (a ∷ p.number ∷ []))) q (denied-grows nodes b) (λ p r f. placed-grows p.nodes (disjunction (a ∷ p.number ∷ [])) r f) e

  pub and_not-grows : and_not nodes a b ≡ Some q → IsGrown nodes q
  and_not-grows e = then-grows nodes (denied nodes b) (λ p. placed p.nodes (conjunction (a ∷ p.number ∷ []))) q (denied-grows nodes b) (λ p r f. placed-grows p.nodes (conjunction (a ∷ p.number ∷ [])) r f) e

  pub not_and-grows : not_and nodes a b ≡ Some q → IsGrown nodes q
  not_and-grows e = then-grows nodes (denied nodes a) (λ p. placed p.nodes (conjunction (p.number ∷ b ∷ []))) q (denied-grows nodes a) (λ p r f. placed-grows p.nodes (conjunction (p.number ∷ b ∷ [])) r f) e

-- a node of two others, which are made one after the other
two-grows : (nodes : List NodeValue) (first : Option Placed) (second : Placed → Option Placed) (join : ℕ → ℕ → NodeValue) (q : Placed)
    → ((p : Placed) → first ≡ Some p → IsGrown nodes p) → ((p r : Placed) → second p ≡ Some r → IsGrown p.nodes r)
    → then first (λ p. then (second p) (λ r. placed r.nodes (join p.number r.number))) ≡ Some q → IsGrown nodes q
two-grows nodes first second join q one two e =
    then-grows nodes first (λ p. then (second p) (λ r. placed r.nodes (join p.number r.number))) q one
    (λ p s f. then-grows p.nodes (second p) (λ r. placed r.nodes (join p.number r.number)) s (two p) (λ r t g. placed-grows r.nodes (join p.number r.number) t g) f) e

pub different-grows : (nodes : List NodeValue) (a b : ℕ) (q : Placed) → different nodes a b ≡ Some q → IsGrown nodes q
different-grows nodes a b q e = two-grows nodes (and_not nodes a b) (λ p. not_and p.nodes a b) (λ j k. disjunction (j ∷ k ∷ [])) q (λ p. and_not-grows nodes a b p) (λ p r. not_and-grows p.nodes a b r) e

-- ---- lists

pub exclusive-grows : (nodes : List NodeValue) (a : ℕ) (bs : List ℕ) (q : Placed) → exclusive nodes a bs ≡ Some q → IsGrown nodes q
exclusive-grows nodes a [] q e = there-grows nodes a q e
exclusive-grows nodes a (b ∷ bs) q e = then-grows nodes (different nodes a b) (λ p. exclusive p.nodes p.number bs) q (different-grows nodes a b) (λ p r f. exclusive-grows p.nodes p.number bs r f) e

pub implied-grows : (nodes : List NodeValue) (members xs : List ℕ) (q : Placed) → implied nodes members xs ≡ Some q → IsGrown nodes q
implied-grows nodes members [] q e = disjoined-grows nodes members q e
implied-grows nodes members (a ∷ []) q e = disjoined-grows nodes (members ++ a ∷ []) q e
implied-grows nodes members (a ∷ b ∷ rest) q e =
    then-grows nodes (denied nodes a) (λ p. implied p.nodes (members ++ p.number ∷ []) (b ∷ rest)) q (denied-grows nodes a) (λ p r f. implied-grows p.nodes (members ++ p.number ∷ []) (b ∷ rest) r f) e

pub each_pair-grows : (make : List NodeValue → ℕ → ℕ → Option Placed) → ((nodes : List NodeValue) (a b : ℕ) (p : Placed) → make nodes a b ≡ Some p → IsGrown nodes p)
    → (nodes : List NodeValue) (members : List ℕ) (ps : List (ℕ × ℕ)) (q : Placed) → each_pair make nodes members ps ≡ Some q → IsGrown nodes q
each_pair-grows make grows nodes members [] q e = conjoined-grows nodes members q e
each_pair-grows make grows nodes members (pair ∷ rest) q e =
    then-grows nodes (make nodes pair.0 pair.1) (λ p. each_pair make p.nodes (members ++ p.number ∷ []) rest) q (grows nodes pair.0 pair.1) (λ p r f. each_pair-grows make grows p.nodes (members ++ p.number ∷ []) rest r f) e
