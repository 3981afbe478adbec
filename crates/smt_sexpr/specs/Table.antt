-- S-expressions in a flat table, and what its ids mean.
use Rattle.std.specs.Prelude.{◌≡◌, ℕ, ◌+◌, ◌<◌, ◌≤◌, List, [], ◌∷◌, ◌++◌, length, take, drop, Option, Some, None, slice_get, slice_range}
use Rattle.smt_lex.specs.declared.token.TokenKind.{TokenKind}
use Rattle.smt_lex.specs.declared.token.Token.{Token}
use Rattle.smt_sexpr.specs.declared.node.Node.{Node}
use Rattle.smt_sexpr.specs.declared.node.Node.TheVariants.{Leaf, List as ListOf}
use Rattle.smt_sexpr.specs.Tree.{Sexpr, Items, leaf, list, none, more, leaf_text, IsLeaf, item_of}

pub record Table : Type 0 where
  -- the source: tokens are places in it
  pub bytes : List ℕ
  -- the s-expressions; an id is a place among them
  pub nodes : List Node
  -- the ids of the items of all lists, those of one list side by side
  pub items : List ℕ

abbrev pub table_of : List ℕ → List Node → List ℕ → Table
table_of bytes nodes items = record { bytes = bytes; nodes = nodes; items = items }

-- the token's bytes are those of a leaf of this kind with this text
pub record Shows (bytes : List ℕ) (token : Token) (kind : TokenKind) (text : List ℕ) : Type 0 where
  pub same_kind : token.kind ≡ kind
  pub order : token.start ≤ token.end
  pub within : token.end ≤ length bytes
  pub same_text : leaf_text kind (slice_range bytes token.start token.end) ≡ text
  pub fits : IsLeaf kind text

abbrev pub AreBelow : ℕ → List ℕ → Type 0
AreBelow bound [] = Unit {0}
AreBelow bound (id ∷ ids) = (id < bound) × AreBelow bound ids

abbrev mutual
  -- The id stands for the s-expression. The items of a list have smaller ids than the list.
  pub Means : Table → ℕ → Sexpr → Type 0
  Means t id (leaf kind text) = (token : Token) × (slice_get t.nodes id ≡ Some (Leaf token)) × Shows t.bytes token kind text
  Means t id (list xs) = (first : ℕ) × (count : ℕ) × (slice_get t.nodes id ≡ Some (ListOf first count)) × (first + count ≤ length t.items)
      × AreBelow id (take count (drop first t.items)) × MeansEach t (take count (drop first t.items)) xs

  -- the ids stand for the s-expressions, one for one
  pub MeansEach : Table → List ℕ → Items → Type 0
  MeansEach t [] none = Unit {0}
  MeansEach t [] (more x xs) = ⊥
  MeansEach t (id ∷ ids) none = ⊥
  MeansEach t (id ∷ ids) (more x xs) = Means t id x × MeansEach t ids xs

abbrev pub HasMeaning : Table → ℕ → Type 0
HasMeaning t id = (x : Sexpr) × Means t id x

-- the id stands for a list with an item k
abbrev pub HasItem : Table → ℕ → ℕ → Type 0
HasItem t id k = (x : Sexpr) × (y : Sexpr) × Means t id x × (item_of x k ≡ Some y)

-- what a node is whose id stands for the s-expression
abbrev pub IsNodeOf : Table → Sexpr → Node → Type 0
IsNodeOf t (leaf kind text) (Leaf token) = Shows t.bytes token kind text
IsNodeOf t (leaf kind text) (ListOf first count) = ⊥
IsNodeOf t (list xs) (Leaf token) = ⊥
IsNodeOf t (list xs) (ListOf first count) = (first + count ≤ length t.items) × MeansEach t (take count (drop first t.items)) xs

-- of a list the ids of its items, of a leaf nothing
abbrev pub ItemsAre : Table → Sexpr → Option (List ℕ) → Type 0
ItemsAre t (leaf kind text) None = Unit {0}
ItemsAre t (leaf kind text) (Some ids) = ⊥
ItemsAre t (list xs) None = ⊥
ItemsAre t (list xs) (Some ids) = MeansEach t ids xs

-- new has what old has, and more behind it
pub record Grows (old new : Table) : Type 0 where
  pub bytes : new.bytes ≡ old.bytes
  pub nodes : (added : List Node) × (new.nodes ≡ old.nodes ++ added)
  pub items : (added : List ℕ) × (new.items ≡ old.items ++ added)
