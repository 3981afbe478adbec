-- Of the code and not of the meaning: lists of marks and of points, one for each node. Contracts of private functions alone
-- cite it.
use Rattle.std.specs.Prelude.{◌≡◌, ℕ, ◌<◌, List, [], ◌∷◌, length, Bool, false, ◌||◌, if◌then◌else◌, slice_index, slice_index_or, Option, Some, None}
use Rattle.stn_core.specs.declared.literal.Literal.{Literal}
use Rattle.idl_node.specs.Nodes.{NodeValue, denial}
use Rattle.clause_form.specs.Polarity.{is_among, Polarity, polarity_of, inner_nodes}
use Rattle.clause_form.specs.ClauseForm.{fresh_point, literal_of, denied_literal}

-- each of so many marks says whether its place is among the numbers
pub record AreMarks (count : ℕ) (marks : List Bool) (numbers : List ℕ) : Type 0 where
  pub count_is : length marks ≡ count
  pub each : (k : ℕ) → k < count → slice_index_or marks k false ≡ is_among k numbers

-- the marks that were there, and those of the numbers that pass the test
abbrev pub MarksMore : List Bool → List Bool → (ℕ → Bool) → Type 0
MarksMore old new test =
    (k : ℕ) → k < length old → slice_index_or new k false ≡ (test k || slice_index_or old k false)

pub record ArePolarityMarks (count : ℕ) (asserted denied : List Bool) (p : Polarity) : Type 0 where
  pub asserted_are : AreMarks count asserted p.asserted
  pub denied_are : AreMarks count denied p.denied

pub record AreNodeMarks (count : ℕ) (asserted denied inner : List Bool) (nodes : List NodeValue) (roots : List ℕ) : Type 0 where
  pub polarity_are : ArePolarityMarks count asserted denied (polarity_of nodes roots)
  pub inner_are : AreMarks count inner (inner_nodes nodes (polarity_of nodes roots))

-- at each of so many places stands the fresh point that an inner node there has
pub record IsNumbering (points : ℕ) (inner : List ℕ) (count : ℕ) (fresh : List ℕ) : Type 0 where
  pub count_is : length fresh ≡ count
  pub each : (k : ℕ) → k < count → slice_index fresh k ≡ fresh_point points inner k

-- the literal of node k, or its negation
abbrev pub signed_literal : Bool → ℕ → List NodeValue → List ℕ → ℕ → Literal
signed_literal denied points nodes inner k = if denied then denied_literal points nodes inner k else literal_of points nodes inner k

-- the member of a `not`
abbrev pub denied_member : NodeValue → Option ℕ
denied_member (denial m) = Some m
denied_member _ = None

-- a literal, and that of node k or its negation
abbrev pub literal_pair : Literal → Bool → ℕ → List NodeValue → List ℕ → ℕ → List Literal
literal_pair first denied points nodes inner k = first ∷ signed_literal denied points nodes inner k ∷ []
