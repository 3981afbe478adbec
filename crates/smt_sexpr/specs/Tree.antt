-- S-expressions as values (SMT-LIB 2.6, section 3.2): a token that is no parenthesis, or a list.
use Rattle.std.specs.Prelude.{ℕ, zero, suc, IsTrue, Option, Some, None, List}
use Rattle.std.specs.List.{list_all}
use Rattle.smt_lex.specs.declared.token.TokenKind.{TokenKind}
use Rattle.smt_lex.specs.declared.token.TokenKind.TheVariants.{Left, Right, Numeral, Symbol, Keyword}
use Rattle.smt_lex.specs.Bytes.{is_quoted_byte}
use Rattle.smt_lex.specs.Grammar.{IsToken}
use Rattle.smt_lex.specs.Symbols.{symbol_content}

mutual
  -- a leaf's text is its token's bytes, of a quoted symbol without the bars
  pub data Sexpr : Type 0 where
    leaf : (kind : TokenKind) (text : List ℕ) → Sexpr
    list : (items : Items) → Sexpr

  pub data Items : Type 0 where
    none : Items
    more : (first : Sexpr) (rest : Items) → Items

-- a leaf's text, where its token's bytes are these
abbrev pub leaf_text : TokenKind → List ℕ → List ℕ
leaf_text Symbol raw = symbol_content raw
leaf_text kind raw = raw

-- the texts that leaves of a kind have
abbrev pub IsLeaf : TokenKind → List ℕ → Type 0
IsLeaf Left text = ⊥
IsLeaf Right text = ⊥
IsLeaf Symbol text = IsTrue (list_all is_quoted_byte text)
IsLeaf kind text = IsToken kind text

-- the kind and the text of a leaf
abbrev pub leaf_of : Sexpr → Option (TokenKind × List ℕ)
leaf_of (leaf kind text) = Some (kind, text)
leaf_of (list xs) = None

-- the bytes of a symbol
abbrev pub symbol_of : Sexpr → Option (List ℕ)
symbol_of (leaf Symbol text) = Some text
symbol_of x = None

-- the bytes of a keyword, with its colon
abbrev pub keyword_of : Sexpr → Option (List ℕ)
keyword_of (leaf Keyword text) = Some text
keyword_of x = None

-- the digits of a numeral
abbrev pub numeral_of : Sexpr → Option (List ℕ)
numeral_of (leaf Numeral text) = Some text
numeral_of x = None

-- the item k, counted from 0
abbrev pub item_at : Items → ℕ → Option Sexpr
item_at none k = None
item_at (more x xs) zero = Some x
item_at (more x xs) (suc k) = item_at xs k

abbrev pub item_of : Sexpr → ℕ → Option Sexpr
item_of (leaf kind text) k = None
item_of (list xs) k = item_at xs k
