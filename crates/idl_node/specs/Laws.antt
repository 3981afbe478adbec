-- The laws of the definitions, each said once: its function ensures it, and who stands on it names it.
use Rattle.std.specs.Prelude.{◌≡◌, ◌<◌, ◌++◌, [], ℕ, ℤ, List, Some, false, if◌then◌else◌, length, map, not, slice_index_or, true}
use Rattle.std.specs.List.{AllByRecursion, list_all, list_any}
use Rattle.stn_core.specs.Literal.{IsOver}
use Rattle.idl_node.specs.Making.{all_different, all_equal, chosen, conjoined, constant, denied, different, disjoined, equal, exclusive, falsehood, implied}
use Rattle.idl_node.specs.Meaning.{IsMade}
use Rattle.idl_node.specs.Nodes.{NodeValue, Placed, always, placed}
use Rattle.idl_node.specs.Tables.{IsNodeOf, IsTableOver}
use Rattle.idl_node.specs.Truth.{all_pairs, chain, different_truth, equal_truth, exclusive_truth, implied_truth, node_truth, truth}

abbrev pub NodeTruth : Type 0
NodeTruth =
    (points : ℕ) (nodes : List NodeValue) (values : List ℤ) → IsTableOver points nodes → (k : ℕ)
    → k < length nodes
    → truth nodes values k ≡ node_truth values (truth nodes values) (slice_index_or nodes k always)

abbrev pub TruthStays : Type 0
TruthStays =
    (points : ℕ) (nodes : List NodeValue) (values : List ℤ) → IsTableOver points nodes
    → (added : List NodeValue) (k : ℕ) → k < length nodes
    → truth (nodes ++ added) values k ≡ truth nodes values k

abbrev pub PlacedSays : Type 0
PlacedSays =
    (points : ℕ) (nodes : List NodeValue) (node : NodeValue) (p : Placed) → IsTableOver points nodes
    → IsNodeOf (IsOver points) nodes (length nodes) node → placed nodes node ≡ Some p
    → IsMade (IsOver points) nodes p (λ values. node_truth values (truth nodes values) node)

abbrev pub AlwaysSays : Type 0
AlwaysSays =
    (points : ℕ) (nodes : List NodeValue) (p : Placed) → IsTableOver points nodes → constant nodes ≡ Some p
    → IsMade (IsOver points) nodes p (λ values. true)

abbrev pub NeverSays : Type 0
NeverSays =
    (points : ℕ) (nodes : List NodeValue) (p : Placed) → IsTableOver points nodes → falsehood nodes ≡ Some p
    → IsMade (IsOver points) nodes p (λ values. false)

abbrev pub NegationSays : Type 0
NegationSays =
    (points : ℕ) (nodes : List NodeValue) (k : ℕ) (p : Placed) → IsTableOver points nodes → k < length nodes
    → denied nodes k ≡ Some p → IsMade (IsOver points) nodes p (λ values. not (truth nodes values k))

abbrev pub EqualitySays : Type 0
EqualitySays =
    (points : ℕ) (nodes : List NodeValue) (a b : ℕ) (p : Placed) → IsTableOver points nodes
    → a < length nodes → b < length nodes → equal nodes a b ≡ Some p
    → IsMade (IsOver points) nodes p (λ values. equal_truth (truth nodes values a) (truth nodes values b))

abbrev pub DifferenceSays : Type 0
DifferenceSays =
    (points : ℕ) (nodes : List NodeValue) (a b : ℕ) (p : Placed) → IsTableOver points nodes
    → a < length nodes → b < length nodes → different nodes a b ≡ Some p
    → IsMade (IsOver points) nodes p (λ values. different_truth (truth nodes values a) (truth nodes values b))

abbrev pub ChoiceSays : Type 0
ChoiceSays =
    (points : ℕ) (nodes : List NodeValue) (c a b : ℕ) (p : Placed) → IsTableOver points nodes
    → c < length nodes → a < length nodes → b < length nodes → chosen nodes c a b ≡ Some p
    → IsMade (IsOver points) nodes p (λ values. if truth nodes values c then truth nodes values a else truth nodes values b)

abbrev pub EverySays : Type 0
EverySays =
    (points : ℕ) (nodes : List NodeValue) (members : List ℕ) (p : Placed) → IsTableOver points nodes
    → AllByRecursion (λ m. m < length nodes) members → conjoined nodes members ≡ Some p
    → IsMade (IsOver points) nodes p (λ values. list_all (truth nodes values) members)

abbrev pub SomeSays : Type 0
SomeSays =
    (points : ℕ) (nodes : List NodeValue) (members : List ℕ) (p : Placed) → IsTableOver points nodes
    → AllByRecursion (λ m. m < length nodes) members → disjoined nodes members ≡ Some p
    → IsMade (IsOver points) nodes p (λ values. list_any (truth nodes values) members)

abbrev pub ExclusionSays : Type 0
ExclusionSays =
    (points : ℕ) (nodes : List NodeValue) (a : ℕ) (others : List ℕ) (p : Placed) → IsTableOver points nodes
    → a < length nodes → AllByRecursion (λ m. m < length nodes) others → exclusive nodes a others ≡ Some p
    → IsMade (IsOver points) nodes p (λ values. exclusive_truth (truth nodes values a) (map (truth nodes values) others))

abbrev pub ImplicationSays : Type 0
ImplicationSays =
    (points : ℕ) (nodes : List NodeValue) (members : List ℕ) (p : Placed) → IsTableOver points nodes
    → AllByRecursion (λ m. m < length nodes) members → implied nodes [] members ≡ Some p
    → IsMade (IsOver points) nodes p (λ values. implied_truth (map (truth nodes values) members))

abbrev pub AllEqualSays : Type 0
AllEqualSays =
    (points : ℕ) (nodes : List NodeValue) (members : List ℕ) (p : Placed) → IsTableOver points nodes
    → AllByRecursion (λ m. m < length nodes) members → all_equal nodes members ≡ Some p
    → IsMade (IsOver points) nodes p (λ values. chain equal_truth (map (truth nodes values) members))

abbrev pub AllDifferentSays : Type 0
AllDifferentSays =
    (points : ℕ) (nodes : List NodeValue) (members : List ℕ) (p : Placed) → IsTableOver points nodes
    → AllByRecursion (λ m. m < length nodes) members → all_different nodes members ≡ Some p
    → IsMade (IsOver points) nodes p (λ values. all_pairs different_truth (map (truth nodes values) members))
