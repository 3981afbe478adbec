-- What was made of a pair before, and items that are repeated in a list. These are words of the code, and no part of the meaning.
use Rattle.std.specs.Prelude.{◌≡◌, ℕ, ◌+◌, ◌-◌, ◌<◌, ◌≤◌, List, length, take, drop, slice_get, slice_index, slice_index_or, Option, Some}
use Rattle.idl_node.specs.Making.{different}
use Rattle.idl_node.specs.Nodes.{NodeValue, Placed}

-- the table begins with another one
abbrev pub IsFront : List NodeValue → List NodeValue → Type 0
IsFront nodes later = take (length nodes) later ≡ nodes

-- the making gives this number, and no node more, in each table that begins with this one
abbrev pub IsSettled : (List NodeValue → Option Placed) → List NodeValue → ℕ → Type 0
IsSettled make nodes number = (later : List NodeValue) → IsFront nodes later → make later ≡ Some (record { nodes = later; number = number })

-- that two formulas differ was made before
abbrev pub AreToldApart : List NodeValue → ℕ → ℕ → ℕ → Type 0
AreToldApart nodes a b number = IsSettled (λ (later : List NodeValue). different later a b) nodes number

-- members are among the first nodes, so many
abbrev pub AreBelow : ℕ → List ℕ → Type 0
AreBelow count members = (k : ℕ) → k < length members → slice_index members k < count

-- the place of an equal item before this one, or else its own
abbrev pub place_before : List ℕ → ℕ → ℕ
place_before earlier place = slice_index_or earlier place place

-- where a place leads to one before it, the items are equal
abbrev pub LeadsBack : {A : Type 0} → List A → List ℕ → Type 0
LeadsBack items earlier = (place : ℕ) → place_before earlier place < place → slice_get items (place_before earlier place) ≡ slice_get items place

-- some place does
abbrev pub HasRepeats : List ℕ → Type 0
HasRepeats earlier = (place : ℕ) × (place_before earlier place < place)

-- these numbers are what was made of the item at a place and each behind it, up to another place
abbrev pub IsRow : {A : Type 0} → (A → A → ℕ → Type 0) → List A → ℕ → ℕ → List ℕ → Type 0
IsRow {A} Is items i upto row = (j : ℕ) (a b : A) → i < j → j < upto → slice_get items i ≡ Some a → slice_get items j ≡ Some b → Is a b (slice_index_or row (j - (i + 1)) 0)

-- the rows of the first items stand in the parts from these places on
pub record AreRows {A : Type 0} (Known : Type 0) (Is : A → A → ℕ → Type 0) (items : List A) (starts parts : List ℕ) : Type 0 where
  pub room : (i : ℕ) → i < length starts → slice_index starts i + (length items - (i + 1)) ≤ length parts
  pub rows : Known → (i : ℕ) → i < length starts → IsRow Is items i (length items) (drop (slice_index starts i) parts)
