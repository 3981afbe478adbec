-- The truth of a node on values of the time points.
use Rattle.std.specs.Prelude.{◌≡◌, ◌≤◌, ◌<◌, ℕ, zero, suc, List, [], ◌∷◌, length, take, map, Bool, true, false, not, ◌&&◌, ◌||◌, slice_index_or, ℤ, pos, ◌-ℤ◌, int_le}
use Rattle.std.specs.List.{list_all, list_any}
use Rattle.stn_core.specs.declared.literal.Literal.{Literal}
use Rattle.stn_core.specs.declared.named.NamedValue.{NamedValue}
use Rattle.stn_core.specs.declared.named.NamedValue.TheVariants.{Int, Truth}
use Rattle.stn_core.specs.Literal.{value_at}
use Rattle.idl_node.specs.Nodes.{NodeValue, always, atom, denial, conjunction, disjunction}

-- whether the literal holds
abbrev pub literal_truth : List ℤ → Literal → Bool
literal_truth values l = int_le (value_at values l.x -ℤ value_at values l.y) l.c

-- the truth of a node by that of its members
abbrev pub node_truth : List ℤ → (ℕ → Bool) → NodeValue → Bool
node_truth values at always = true
node_truth values at (atom l) = literal_truth values l
node_truth values at (denial m) = not (at m)
node_truth values at (conjunction ms) = list_all at ms
node_truth values at (disjunction ms) = list_any at ms

-- down to so many levels of members
unfoldable pub truth_within : ℕ → List NodeValue → List ℤ → ℕ → Bool
truth_within zero nodes values k = false
truth_within (suc depth) nodes values k = node_truth values (λ j. truth_within depth nodes values j) (slice_index_or nodes k always)

-- the truth of node k; the members of a node have smaller numbers, so that k + 1 levels are enough
unfoldable pub truth : List NodeValue → List ℤ → ℕ → Bool
truth nodes values k = truth_within (suc k) nodes values k

-- these tell the truth of the table's first nodes, as many as they are
pub record AreTruths (nodes : List NodeValue) (values : List ℤ) (marks : List Bool) : Type 0 where
  pub within : length marks ≤ length nodes
  pub each : (k : ℕ) → k < length marks → slice_index_or marks k false ≡ truth nodes values k

-- the first list begins with the second
abbrev pub BeginsWith : List Bool → List Bool → Type 0
BeginsWith marks front = take (length front) marks ≡ front

-- the value of a name's time point: of an Int name its value, of a Bool name 0 where it is true, else 1
abbrev pub point_value : NamedValue → ℤ
point_value (Int n) = n
point_value (Truth true) = pos 0
point_value (Truth false) = pos 1

-- the zero point's value, and then each name's
abbrev pub point_values : List NamedValue → List ℤ
point_values values = pos 0 ∷ map point_value values

-- two truth values are equal
abbrev pub equal_truth : Bool → Bool → Bool
equal_truth true b = b
equal_truth false b = not b

-- they differ
abbrev pub different_truth : Bool → Bool → Bool
different_truth true b = not b
different_truth false b = b

-- `xor` of one or more, from the left
abbrev pub exclusive_truth : Bool → List Bool → Bool
exclusive_truth a [] = a
exclusive_truth a (b ∷ bs) = exclusive_truth (different_truth a b) bs

-- `=>` of one or more, from the right: (=> a b c) is (=> a (=> b c))
abbrev pub implied_truth : List Bool → Bool
implied_truth [] = false
implied_truth (a ∷ []) = a
implied_truth (a ∷ b ∷ rest) = not a || implied_truth (b ∷ rest)

-- the test holds of all neighbours in a list
abbrev pub chain : {A : Type 0} → (A → A → Bool) → List A → Bool
chain test [] = true
chain test (a ∷ []) = true
chain test (a ∷ b ∷ rest) = test a b && chain test (b ∷ rest)

-- the test holds of all pairs of a list, an item and one behind it
abbrev pub all_pairs : {A : Type 0} → (A → A → Bool) → List A → Bool
all_pairs test [] = true
all_pairs test (a ∷ rest) = list_all (test a) rest && all_pairs test rest
