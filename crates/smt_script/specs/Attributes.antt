-- The attributes of an annotated term (SMT-LIB 2.6, section 3.4 and section 3.6.5): keywords, each with at most one value, which
-- is no keyword. `:named` takes a symbol, and stands at most once.
use Rattle.std.specs.Prelude.{ℕ, List, [], ◌∷◌, codes, if◌then◌else◌, Option, None, Some}
use Rattle.std.specs.Str.{bytes_eq}
use Rattle.smt_sexpr.specs.Tree.{Sexpr, Items, none, more, symbol_of, keyword_of}

pub record Attribute : Type 0 where
  pub keyword : List ℕ
  pub value : Option Sexpr

-- an attribute with those behind it
abbrev pub with_attribute : Option (List ℕ) → Option Sexpr → Option (List Attribute) → Option (List Attribute)
with_attribute (Some keyword) value (Some behind) =
    Some (record { keyword = keyword; value = value } ∷ behind)
with_attribute _ _ _ = None

-- the attributes that the items are; nothing where they are none
abbrev pub attributes_of : Items → Option (List Attribute)
attributes_of none = Some []
attributes_of (more k none) = with_attribute (keyword_of k) None (Some [])
attributes_of (more k (more v rest)) = elim (keyword_of v) [
  | None ↦ with_attribute (keyword_of k) (Some v) (attributes_of rest)
  | Some next ↦ with_attribute (keyword_of k) None (attributes_of (more v rest))
]

-- what attributes give the term: no name, or a name
pub data Named : Type 0 where
  unnamed : Named
  named : (name : List ℕ) → Named

abbrev pub symbol_in : Option Sexpr → Option (List ℕ)
symbol_in None = None
symbol_in (Some v) = symbol_of v

-- a name, where the attributes behind it give none
abbrev pub only_name : Option (List ℕ) → Option Named → Option Named
only_name (Some name) (Some unnamed) = Some (named name)
only_name _ _ = None

abbrev pub name_given : List Attribute → Option Named
name_given [] = Some unnamed
name_given (a ∷ rest) =
    if bytes_eq a.keyword (codes ":named") then only_name (symbol_in a.value) (name_given rest)
    else name_given rest

abbrev pub name_by : Option (List Attribute) → Option Named
name_by (Some attributes) = name_given attributes
name_by None = None

-- nothing where the items are no attributes, or where a `:named` has no symbol or is the second
abbrev pub named_in : Items → Option Named
named_in items = name_by (attributes_of items)
