-- How s-expressions are written: one space between the items of a list, and no other white space.
use Rattle.std.specs.Prelude.{ℕ, if◌then◌else◌, List, [], ◌∷◌, ◌++◌}
use Rattle.smt_lex.specs.declared.token.TokenKind.{TokenKind}
use Rattle.smt_lex.specs.declared.token.TokenKind.TheVariants.{Symbol}
use Rattle.smt_lex.specs.Grammar.{EndsToken, is_simple_symbol}
use Rattle.smt_sexpr.specs.Tree.{Sexpr, Items, leaf, list, none, more, IsLeaf}

-- a symbol is written plain exactly where its bytes are a simple symbol, else in bars; other tokens as they are
abbrev pub written : TokenKind → List ℕ → List ℕ
written Symbol text = if is_simple_symbol text then text else 124 ∷ text ++ 124 ∷ []
written kind text = text

abbrev mutual
  pub text_of : Sexpr → List ℕ
  text_of (leaf kind text) = written kind text
  text_of (list none) = 40 ∷ 41 ∷ []
  text_of (list (more x xs)) = 40 ∷ (text_of x ++ text_behind xs)

  -- what stands behind an item: the others, each behind a space, and the closing parenthesis
  pub text_behind : Items → List ℕ
  text_behind none = 41 ∷ []
  text_behind (more x xs) = 32 ∷ (text_of x ++ text_behind xs)

abbrev mutual
  -- each leaf has a text that a leaf of its kind can have
  pub IsWritable : Sexpr → Type 0
  IsWritable (leaf kind text) = IsLeaf kind text
  IsWritable (list xs) = AreWritable xs

  pub AreWritable : Items → Type 0
  AreWritable none = Unit {0}
  AreWritable (more x xs) = IsWritable x × AreWritable xs

-- these bytes don't go on with the s-expression: a list is ended by its own parenthesis
abbrev pub EndsSexpr : Sexpr → List ℕ → Type 0
EndsSexpr (leaf kind text) after = EndsToken kind after
EndsSexpr (list xs) after = Unit {0}
