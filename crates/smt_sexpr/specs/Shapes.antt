-- Words for s-expressions by their shape: symbols and lists as they are made, and lists that begin with a symbol.
use Rattle.std.specs.Prelude.{◌≡◌, ℕ, Bool, false, List, [], ◌∷◌, Option, Some, None, option_map}
use Rattle.std.specs.Option.{option_map_or}
use Rattle.std.specs.Str.{bytes_eq}
use Rattle.smt_lex.specs.declared.token.TokenKind.TheVariants.{Symbol}
use Rattle.smt_sexpr.specs.Table.{Table, MeansEach}
use Rattle.smt_sexpr.specs.Tree.{Sexpr, Items, leaf, list, none, more, symbol_of}

-- ---- how they are made

abbrev pub symbol : List ℕ → Sexpr
symbol text = leaf Symbol text

abbrev pub items_of : List Sexpr → Items
items_of [] = none
items_of (x ∷ xs) = more x (items_of xs)

abbrev pub list_of : List Sexpr → Sexpr
list_of xs = list (items_of xs)

-- the list of a symbol and what follows it
abbrev pub form : List ℕ → List Sexpr → Sexpr
form head xs = list_of (symbol head ∷ xs)

-- ---- how they are taken apart

-- whether the s-expression is this symbol
abbrev pub is_symbol : List ℕ → Sexpr → Bool
is_symbol text x = option_map_or (λ name. bytes_eq name text) (symbol_of x) false

-- of a list that begins with a symbol: its bytes, and what follows it
abbrev pub headed_of : Sexpr → Option (List ℕ × Items)
headed_of (list (more head xs)) = option_map (λ name. (name, xs)) (symbol_of head)
headed_of _ = None

-- ---- in a table

-- ids that stand for s-expressions
abbrev pub HaveMeaning : Table → List ℕ → Type 0
HaveMeaning t ids = (xs : Items) × MeansEach t ids xs

-- of a list that begins with a symbol: its bytes, and the ids of what follows it
abbrev pub HeadIs : Table → Sexpr → Option (List ℕ × List ℕ) → Type 0
HeadIs t x (Some p) = (xs : Items) × (headed_of x ≡ Some (p.0, xs)) × MeansEach t p.1 xs
HeadIs t x None = headed_of x ≡ None
