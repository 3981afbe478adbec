-- The marks of the nodes so far are their truth.
use Rattle.std.proofs.Common.{sym, ap, subst, arith, ◌∙◌, ◌≡◌, ◌<◌, ◌≤◌, ℕ, List, length, take, drop, get_or, Bool, false, Some, ℤ, get_or-take, ◌+◌, ◌++◌, ◌∷◌, []}
use Rattle.std.specs.Prelude.{slice_get, option_map}
use Rattle.std.proofs.lemmas.Grind.{common_steps}
use Rattle.std.proofs.lemmas.List.{length-take, length-take-le, length-map, take-append-le, take-append-drop}
use Rattle.std.proofs.lemmas.Option.{slice_get-map, slice_get-get_or, get_or_from_slice_get}
use Rattle.stn_core.specs.declared.literal.Literal.{Literal}
use Rattle.idl_node.specs.declared.node.Node.{Node}
use Rattle.idl_node.specs.Nodes.{NodeValue, node_value, shown, always}
use Rattle.idl_node.specs.Tables.{IsNodeOf, IsTableOf}
use Rattle.idl_node.specs.Truth.{node_truth, truth, AreTruths, BeginsWith}
use Rattle.idl_node.proofs.Truths.{node_truth-agree, truth-node}

module _ (all : List Node) (table : List NodeValue) (same : shown all ≡ table) (i : ℕ) (node : Node) (within : i < length table) (is : node ≡ get_or all i node) where
  node_at : get_or table i always ≡ node_value node
  node_at =
      let in_all : i < length all = omega (arith, within, ap length same, length-map all node_value) in
      let found : slice_get all i ≡ Some node = slice_get-get_or all i node in_all ∙ ap (λ (n : Node). Some n) (sym is) in
      get_or_from_slice_get table i (node_value node) always
      (ap (λ (ns : List NodeValue). slice_get ns i) (sym same) ∙ slice_get-map node_value all i ∙ ap (option_map node_value) found)

  module _ (Good : Literal → Type 0) (over : IsTableOf Good table) (marks : List Bool) (room : i ≤ length marks) where
    pub node_fits : IsNodeOf Good table (length (take i marks)) (node_value node)
    node_fits =
        let count : i ≡ length (take i marks) = sym (length-take-le i marks room) in
        subst (λ (k : ℕ). IsNodeOf Good table k (node_value node)) count (subst (λ (n : NodeValue). IsNodeOf Good table i n) node_at (over i within))

    pub mark_is : (values : List ℤ) → ((k : ℕ) → k < i → get_or marks k false ≡ truth table values k) → node_truth values (λ j. get_or (take i marks) j false) (node_value node) ≡ truth table values i
    mark_is values done =
        node_truth-agree (λ j. get_or (take i marks) j false) (truth table values) i (λ j b. get_or-take i marks j false b ∙ done j b) values Good table (node_value node)
        (subst (λ (n : NodeValue). IsNodeOf Good table i n) node_at (over i within))
        ∙ ap (node_truth values (truth table values)) (sym node_at)
        ∙ sym (truth-node Good table values over i within)

-- one mark more
pub truths_pushed : (nodes : List NodeValue) (values : List ℤ) (marks now : List Bool) (holds : Bool) → length marks < length nodes → AreTruths nodes values marks → holds ≡ truth nodes values (length marks) → now ≡ marks ++ holds ∷ []
    → AreTruths nodes values now
truths_pushed nodes values marks now holds room h is e = record {
  within = grind (arith, common_steps, e, room);
  each = λ k b. grind (arith, common_steps, e, is, h.each k);
}

-- what one mark more begins with
pub front_pushed : (front marks now : List Bool) (holds : Bool) → BeginsWith marks front → now ≡ marks ++ holds ∷ [] → BeginsWith now front
front_pushed front marks now holds h e =
    let few : length front ≤ length marks = omega (arith, ap length h, length-take (length front) marks) in
    ap (take (length front)) e ∙ take-append-le (length front) marks (holds ∷ []) few ∙ h
