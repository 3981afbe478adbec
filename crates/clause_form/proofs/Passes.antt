-- The pass over the nodes, from the last down: what is marked so far goes on to what is to be marked.
use Rattle.std.proofs.Common.{refl, sym, ap, subst, arith, ◌∙◌, ◌≡◌, ◌<◌, ◌≤◌, ◌-◌, ℕ, zero, suc, List, [], ◌∷◌, ◌++◌, length, get_or, take, replicate, Bool, true, false, ◌||◌}
use Rattle.std.proofs.lemmas.List.{take_at, length-map, length-replicate, get_or-replicate}
use Rattle.idl_node.specs.declared.node.Node.{Node}
use Rattle.stn_core.specs.Literal.{IsOver}
use Rattle.idl_node.specs.Nodes.{NodeValue, node_value, shown}
use Rattle.idl_node.specs.Tables.{IsTableOver}
use Rattle.clause_form.specs.code.Marking.{AreMarks, AreNodeMarks, ArePolarityMarks}
use Rattle.clause_form.specs.Polarity.{Polarity, is_among, node_at, spread, polarity_below, polarity_of, compounds, inner_of, inner_below, inner_nodes}
use Rattle.clause_form.proofs.Among.{among_append}
use Rattle.clause_form.proofs.Spreading.{IsSameAt, late_below}

pub shown_at : (nodes : List Node) (k : ℕ) (node : Node) → k < length nodes → node ≡ get_or nodes k node → node_value node ≡ node_at (shown nodes) k
shown_at [] k node lt e = absurd (omega arith)
shown_at (n ∷ nodes) zero node lt e = ap node_value e
shown_at (n ∷ nodes) (suc k) node lt e = shown_at nodes k node (omega arith) e

pub shown_get : (nodes : List Node) (k : ℕ) (d : Node) → k < length nodes → node_value (get_or nodes k d) ≡ node_at (shown nodes) k
shown_get [] k d lt = absurd (omega arith)
shown_get (n ∷ nodes) zero d lt = refl
shown_get (n ∷ nodes) (suc k) d lt = shown_get nodes k d (omega arith)

added_marks : (count : ℕ) (marks more : List Bool) (xs ys : List ℕ) → AreMarks count marks ys → length more ≡ length marks → ((k : ℕ) → k < length marks → get_or more k false ≡ (is_among k xs || get_or marks k false)) → AreMarks count more (xs ++ ys)
added_marks count marks more xs ys h same each = record {
  count_is = same ∙ h.count_is;
  each = λ k lt. (let l : k < length marks = (let c = h.count_is in omega arith) in each k l ∙ ap (λ (b : Bool). is_among k xs || b) (h.each k lt) ∙ sym (among_append k xs ys));
}

-- ---- the first marks

pub none_marked : (count : ℕ) (marks : List Bool) → marks ≡ replicate count false → AreMarks count marks []
none_marked count marks e = subst (λ (xs : List Bool). AreMarks count xs []) (sym e) (record { count_is = length-replicate count false; each = λ k lt. get_or-replicate count k false false lt })

or_nothing : (a b : Bool) → b ≡ false → (a || b) ≡ a
or_nothing true b e = refl
or_nothing false b e = e

pub roots_marked : (nodes : List Node) (roots : List ℕ) (a d marked : List Bool) → AreMarks (length nodes) a [] → AreMarks (length nodes) d [] → length marked ≡ length a
    → ((k : ℕ) → k < length a → get_or marked k false ≡ (is_among k roots || get_or a k false)) → ArePolarityMarks (length nodes) marked d (record { asserted = roots; denied = [] })
roots_marked nodes roots a d marked none_a none_d same each = record {
  asserted_are = record {
    count_is = same ∙ none_a.count_is;
    each = λ k lt. (let l : k < length a = (let c = none_a.count_is in omega arith) in each k l ∙ or_nothing (is_among k roots) (get_or a k false) (none_a.each k lt));
  };
  denied_are = none_d;
}

-- marks that a call wrote into a `Vec`
pub written : (count len : ℕ) (marks rest : List Bool) (xs : List ℕ) → AreMarks count marks xs → len ≡ count → AreMarks count (take len (marks ++ rest)) xs
written count len marks rest xs h e = subst (λ (ms : List Bool). AreMarks count ms xs) (sym (take_at marks rest len (h.count_is ∙ sym e))) h

-- ---- the pass

pub shown_count : (nodes : List Node) → length nodes ≡ length (shown nodes)
shown_count nodes = sym (length-map nodes node_value)

-- what is marked from the node count left on goes on to what is to be marked
pub record IsMarked (nodes : List Node) (roots : List ℕ) (left : ℕ) (asserted denied inner : List Bool) : Type 0 where
  pub polarity : Polarity
  pub numbers : List ℕ
  pub polarity_are : ArePolarityMarks (length nodes) asserted denied polarity
  pub inner_are : AreMarks (length nodes) inner numbers
  pub polarity_goes_on : polarity_below left (shown nodes) polarity ≡ polarity_of (shown nodes) roots
  pub inner_goes_on : inner_below left (shown nodes) (polarity_of (shown nodes) roots) numbers ≡ inner_nodes (shown nodes) (polarity_of (shown nodes) roots)

pub marked_start : (nodes : List Node) (roots : List ℕ) (a d i marked : List Bool) → AreMarks (length nodes) a [] → AreMarks (length nodes) d [] → AreMarks (length nodes) i [] → length marked ≡ length a
    → ((k : ℕ) → k < length a → get_or marked k false ≡ (is_among k roots || get_or a k false)) → IsMarked nodes roots (length nodes) marked d i
unfolding polarity_of inner_nodes
marked_start nodes roots a d i marked none_a none_d none_i same each =
    let first : Polarity = record { asserted = roots; denied = [] } in
    record {
      polarity = first;
      numbers = [];
      polarity_are = roots_marked nodes roots a d marked none_a none_d same each;
      inner_are = none_i;
      polarity_goes_on = ap (λ (n : ℕ). polarity_below n (shown nodes) first) (shown_count nodes);
      inner_goes_on = ap (λ (n : ℕ). inner_below n (shown nodes) (polarity_below (length (shown nodes)) (shown nodes) first) []) (shown_count nodes);
    }

module _ (points : ℕ) (nodes : List Node) (roots : List ℕ) (left : ℕ) (node : Node) (members : List ℕ) (a d i b e more : List Bool) where
  pub marked_turn : IsTableOver points (shown nodes) → length a ≡ length nodes → 0 < left → left ≤ length nodes → node ≡ get_or nodes (left - 1) node
      → ((p : Polarity) → ArePolarityMarks (length a) a d p → ArePolarityMarks (length a) b e (spread (left - 1) (node_value node) p))
      → ((values : List NodeValue) → inner_of (get_or b (left - 1) false) (get_or e (left - 1) false) (get_or i (left - 1) false) values (node_value node) ≡ compounds values members)
      → length more ≡ length i → ((k : ℕ) → k < length i → get_or more k false ≡ (is_among k (compounds (shown nodes) members) || get_or i k false))
      → IsMarked nodes roots left a d i → IsMarked nodes roots (left - 1) b e more
  marked_turn table count some within at turn needed same each m =
      let k : ℕ = left - 1 in
      let lt : k < length nodes = omega arith in
      let is : left ≡ suc k = omega arith in
      let all : Polarity = polarity_of (shown nodes) roots in
      let here : node_value node ≡ node_at (shown nodes) k = shown_at nodes k node lt at in
      let p : Polarity = spread k (node_at (shown nodes) k) m.polarity in
      let spread_marks : ArePolarityMarks (length nodes) b e (spread k (node_value node) m.polarity) =
      subst (λ (n : ℕ). ArePolarityMarks n b e (spread k (node_value node) m.polarity)) count (turn m.polarity (subst (λ (n : ℕ). ArePolarityMarks n a d m.polarity) (sym count) m.polarity_are)) in
      let marks : ArePolarityMarks (length nodes) b e p = subst (λ (v : NodeValue). ArePolarityMarks (length nodes) b e (spread k v m.polarity)) here spread_marks in
      let goes_on : polarity_below k (shown nodes) p ≡ all = subst (λ (n : ℕ). polarity_below n (shown nodes) m.polarity ≡ all) is m.polarity_goes_on in
      let final : IsSameAt k p all = subst (λ (q : Polarity). IsSameAt k p q) goes_on (late_below (IsOver points) (shown nodes) table k k p (omega arith)) in
      let added : compounds (shown nodes) members ≡ inner_of (is_among k all.asserted) (is_among k all.denied) (is_among k m.numbers) (shown nodes) (node_at (shown nodes) k) =
      sym (needed (shown nodes))
      ∙ ap (λ (c : Bool). inner_of c (get_or e k false) (get_or i k false) (shown nodes) (node_value node)) (marks.asserted_are.each k lt ∙ sym final.asserted)
      ∙ ap (λ (c : Bool). inner_of (is_among k all.asserted) c (get_or i k false) (shown nodes) (node_value node)) (marks.denied_are.each k lt ∙ sym final.denied)
      ∙ ap (λ (c : Bool). inner_of (is_among k all.asserted) (is_among k all.denied) c (shown nodes) (node_value node)) (m.inner_are.each k lt)
      ∙ ap (λ (v : NodeValue). inner_of (is_among k all.asserted) (is_among k all.denied) (is_among k m.numbers) (shown nodes) v) here in
      let inner : AreMarks (length nodes) more (compounds (shown nodes) members ++ m.numbers) = added_marks (length nodes) i more (compounds (shown nodes) members) m.numbers m.inner_are same each in
      record {
        polarity = p;
        numbers = inner_of (is_among k all.asserted) (is_among k all.denied) (is_among k m.numbers) (shown nodes) (node_at (shown nodes) k) ++ m.numbers;
        polarity_are = marks;
        inner_are = subst (λ (xs : List ℕ). AreMarks (length nodes) more (xs ++ m.numbers)) added inner;
        polarity_goes_on = goes_on;
        inner_goes_on = subst (λ (n : ℕ). inner_below n (shown nodes) all m.numbers ≡ inner_nodes (shown nodes) all) is m.inner_goes_on;
      }

pub marked_end : (nodes : List Node) (roots : List ℕ) (left : ℕ) (a d i : List Bool) → left ≤ 0 → IsMarked nodes roots left a d i → AreNodeMarks (length nodes) a d i (shown nodes) roots
marked_end nodes roots left a d i none m =
    let all : Polarity = polarity_of (shown nodes) roots in
    let is : left ≡ 0 = omega arith in
    let polarity : m.polarity ≡ all = subst (λ (n : ℕ). polarity_below n (shown nodes) m.polarity ≡ all) is m.polarity_goes_on in
    let inner : m.numbers ≡ inner_nodes (shown nodes) all = subst (λ (n : ℕ). inner_below n (shown nodes) all m.numbers ≡ inner_nodes (shown nodes) all) is m.inner_goes_on in
    record {
      polarity_are = subst (λ (p : Polarity). ArePolarityMarks (length nodes) a d p) polarity m.polarity_are;
      inner_are = subst (λ (xs : List ℕ). AreMarks (length nodes) i xs) inner m.inner_are;
    }

pub same_marks : (count : ℕ) (a b : List Bool) (xs : List ℕ) → b ≡ a → AreMarks count a xs → AreMarks count b xs
same_marks count a b xs f h = subst (λ (ms : List Bool). AreMarks count ms xs) (sym f) h
