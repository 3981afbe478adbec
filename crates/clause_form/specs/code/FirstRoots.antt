-- Of the code and not of the meaning: the least of some numbers, or a number beyond them.
use Rattle.std.specs.Prelude.{◌≡◌, ℕ, ◌<◌, List, [], ◌∷◌, length, Bool, true, false, if◌then◌else◌, nat_lt, Option, Some, None, slice_index, slice_index_or}
use Rattle.idl_node.specs.Nodes.{NodeValue}
use Rattle.clause_form.specs.Polarity.{is_among, Polarity, polarity_of}

-- the first number below `count` that passes the test, or `count`
pub record IsFirst (test : ℕ → Bool) (count first : ℕ) : Type 0 where
  pub before : (r : ℕ) → r < first → r < count → test r ≡ false
  pub there : first < count → test first ≡ true

-- for each of so many nodes the first number by which it is among these
pub record AreFirst (nodes_count count : ℕ) (firsts : List ℕ) (among : ℕ → List ℕ) : Type 0 where
  pub count_is : length firsts ≡ nodes_count
  pub each : (k : ℕ) → k < nodes_count → IsFirst (λ r. is_among k (among r)) count (slice_index_or firsts k count)

abbrev pub lowered : Bool → ℕ → ℕ → ℕ
lowered true first number = if nat_lt first number then first else number
lowered false first number = number

-- the numbers of the nodes that pass the test are lowered to this one
abbrev pub Lowers : (ℕ → Bool) → ℕ → List ℕ → List ℕ → Type 0
Lowers test first old new =
    (k d : ℕ) → k < length old → slice_index_or new k d ≡ lowered (test k) first (slice_index_or old k d)

pub record AreFirstPolarities (nodes_count count : ℕ) (asserted denied : List ℕ) (p : ℕ → Polarity) : Type 0 where
  pub asserted_are : AreFirst nodes_count count asserted (λ r. (p r).asserted)
  pub denied_are : AreFirst nodes_count count denied (λ r. (p r).denied)

-- those of each root alone
abbrev pub alone : List NodeValue → List ℕ → ℕ → Polarity
alone nodes roots r = polarity_of nodes (slice_index roots r ∷ [])

abbrev pub number_before : ℕ → ℕ → Option ℕ
number_before count first = if nat_lt first count then Some first else None
