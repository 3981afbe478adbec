-- The node that denies another, by what the other is.
use Rattle.std.proofs.Common.{refl, sym, ap, arith, ◌∙◌, ◌≡◌, ◌<◌, ◌≢◌, ℕ, List, [], ◌∷◌, length, get_or, true, Option, Some}
use Rattle.std.specs.Prelude.{slice_get, option_map, nat_lt}
use Rattle.std.proofs.lemmas.Bool.Decides.{nat_tests}
use Rattle.std.proofs.lemmas.Option.{slice_get-map, slice_get-get_or}
use Rattle.stn_core.specs.declared.literal.Literal.{Literal}
use Rattle.stn_core.specs.Literal.{negation_of}
use Rattle.idl_node.specs.declared.node.Node.{Node}
use Rattle.idl_node.specs.declared.node.Node.TheVariants.{True, Atom, Not, And, Or}
use Rattle.idl_node.specs.Nodes.{NodeValue, node_value, shown, atom, denial, conjunction, disjunction, placed}
use Rattle.idl_node.specs.Making.{there, denied_by, denied, conjoined, disjoined}

module _ (nodes : List Node) (table : List NodeValue) (same : shown nodes ≡ table) (k : ℕ) (node : Node) (test : true ≡ nat_lt k (length nodes)) (is : node ≡ get_or nodes k node) where
  denied_found : denied table k ≡ denied_by (Some (node_value node)) table k
  denied_found =
      let within : k < length nodes = grind (arith, nat_tests) in
      let found : slice_get nodes k ≡ Some node = slice_get-get_or nodes k node within ∙ ap (λ (n : Node). Some n) (sym is) in
      ap (λ (o : Option NodeValue). denied_by o table k)
      (ap (λ (ns : List NodeValue). slice_get ns k) (sym same) ∙ slice_get-map node_value nodes k ∙ ap (option_map node_value) found)

  denied_as : (n : Node) → node ≡ n → denied table k ≡ denied_by (Some (node_value n)) table k
  denied_as n e = denied_found ∙ ap (λ (m : Node). denied_by (Some (node_value m)) table k) e

  pub denied_atom : (l : Literal) → node ≡ Atom l → denied table k ≡ placed table (atom (negation_of l))
  denied_atom l e = denied_as (Atom l) e

  pub denied_denial : (m : ℕ) → node ≡ Not m → denied table k ≡ there table m
  denied_denial m e = denied_as (Not m) e

  denied_other_by : (n : Node) → node ≡ n → ((l : Literal) → n ≡ Atom l → ⊥) → ((m : ℕ) → n ≡ Not m → ⊥) → denied table k ≡ placed table (denial k)
  denied_other_by True e no_atom no_denial = denied_as True e
  denied_other_by (Atom l) e no_atom no_denial = absurd (no_atom l refl)
  denied_other_by (Not m) e no_atom no_denial = absurd (no_denial m refl)
  denied_other_by (And ms) e no_atom no_denial = denied_as (And ms) e
  denied_other_by (Or ms) e no_atom no_denial = denied_as (Or ms) e

  pub denied_other : ((l : Literal) → node ≡ Atom l → ⊥) → ((m : ℕ) → node ≡ Not m → ⊥) → denied table k ≡ placed table (denial k)
  denied_other no_atom no_denial = denied_other_by node refl no_atom no_denial

-- ---- `and` and `or` of a number of members that isn't one

pub conjoined_many : (nodes : List NodeValue) (members : List ℕ) → length members ≢ 1 → conjoined nodes members ≡ placed nodes (conjunction members)
conjoined_many nodes [] h = refl
conjoined_many nodes (k ∷ []) h = absurd (h refl)
conjoined_many nodes (k ∷ j ∷ ms) h = refl

pub disjoined_many : (nodes : List NodeValue) (members : List ℕ) → length members ≢ 1 → disjoined nodes members ≡ placed nodes (disjunction members)
disjoined_many nodes [] h = refl
disjoined_many nodes (k ∷ []) h = absurd (h refl)
disjoined_many nodes (k ∷ j ∷ ms) h = refl
