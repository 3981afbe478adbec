-- The grammar of s-expressions over bytes (SMT-LIB 2.6, section 3.2), its refusals, and what a call of the reader gives.
use Rattle.std.specs.Prelude.{◌≡◌, ◌≢◌, ℕ, ◌⊎◌, List, slice_range, Option, Some, None, Result, Ok, Err}
use Rattle.smt_lex.specs.declared.token.TokenKind.TheVariants.{Left, Right}
use Rattle.smt_lex.specs.declared.token.Token.{Token}
use Rattle.smt_lex.specs.declared.token.LexError.{LexError}
use Rattle.smt_lex.specs.Grammar.{Reads}
use Rattle.smt_sexpr.specs.declared.error.SexprError.{SexprError}
use Rattle.smt_sexpr.specs.declared.error.SexprError.TheVariants.{Refused, OutOfMemory}
use Rattle.smt_sexpr.specs.declared.error.SexprRefusal.{SexprRefusal}
use Rattle.smt_sexpr.specs.declared.error.SexprRefusal.TheVariants.{Lex, UnclosedList, StrayClose}
use Rattle.smt_sexpr.specs.Table.{Table, Means}
use Rattle.smt_sexpr.specs.Tree.{Sexpr, Items, leaf, list, none, more, leaf_text}

-- a token is read at the place, and after is the place behind it
abbrev pub ReadsToken : List ℕ → ℕ → Token → ℕ → Type 0
ReadsToken bytes place token after = Reads bytes place (Ok (Some token)) after

unfoldable mutual
  -- at the place the bytes spell the s-expression, and after is the place behind it
  pub Spells : List ℕ → ℕ → Sexpr → ℕ → Type 0
  Spells bytes place (leaf kind text) after =
      (token : Token) × ReadsToken bytes place token after × (token.kind ≡ kind) × (kind ≢ Left) × (kind ≢ Right)
      × (leaf_text kind (slice_range bytes token.start token.end) ≡ text)
  Spells bytes place (list xs) after =
      (opening : Token) × (mid : ℕ) × (last : ℕ) × (closing : Token) × ReadsToken bytes place opening mid × (opening.kind ≡ Left)
      × SpellsEach bytes mid xs last × ReadsToken bytes last closing after × (closing.kind ≡ Right)

  -- one s-expression after the other
  pub SpellsEach : List ℕ → ℕ → Items → ℕ → Type 0
  SpellsEach bytes place none after = place ≡ after
  SpellsEach bytes place (more x xs) after = (mid : ℕ) × Spells bytes place x mid × SpellsEach bytes mid xs after

-- From the place to here there are whole s-expressions and opening parentheses, one behind the other.
pub data IsInside (bytes : List ℕ) (here : ℕ) : ℕ → Type 0 where
  reached : (place : ℕ) → place ≡ here → IsInside bytes here place
  behind : (place : ℕ) (x : Sexpr) (mid : ℕ) → Spells bytes place x mid → IsInside bytes here mid → IsInside bytes here place
  deeper : (place : ℕ) (opening : Token) (mid : ℕ) → ReadsToken bytes place opening mid → opening.kind ≡ Left
      → IsInside bytes here mid → IsInside bytes here place

-- at the place a list is opened, its parenthesis stands at outer, and here is inside it
abbrev pub IsOpen : List ℕ → ℕ → ℕ → ℕ → Type 0
IsOpen bytes place outer here =
    (opening : Token) × (mid : ℕ) × ReadsToken bytes place opening mid × (opening.kind ≡ Left) × (opening.start ≡ outer) × IsInside bytes here mid

-- why there is no s-expression: no token can be read; or the text ends in a list, whose outermost parenthesis stands at
-- outer; or a closing parenthesis, which stands at start, closes nothing
abbrev pub Refuses : List ℕ → ℕ → SexprRefusal → ℕ → Type 0
Refuses bytes place (Lex error) after =
    (here : ℕ) × ((place ≡ here) ⊎ ((outer : ℕ) × IsOpen bytes place outer here)) × Reads bytes here (Err error) after
Refuses bytes place (UnclosedList outer) after = (here : ℕ) × IsOpen bytes place outer here × Reads bytes here (Ok None) after
Refuses bytes place (StrayClose start) after =
    (token : Token) × ReadsToken bytes place token after × (token.kind ≡ Right) × (token.start ≡ start)

pub data Outcome : Type 0 where
  expression : (x : Sexpr) → Outcome
  -- nothing but white space and comments is left
  finished : Outcome
  refused : (why : SexprRefusal) → Outcome

-- what stands at the place, and the place behind it
abbrev pub Outcomes : List ℕ → ℕ → Outcome → ℕ → Type 0
Outcomes bytes place (expression x) after = Spells bytes place x after
Outcomes bytes place finished after = Reads bytes place (Ok None) after
Outcomes bytes place (refused why) after = Refuses bytes place why after

-- what an error says of the text; want of memory says nothing
abbrev pub Explains : List ℕ → ℕ → SexprError → ℕ → Type 0
Explains bytes place (Refused why) after = Outcomes bytes place (refused why) after
Explains bytes place OutOfMemory after = Unit {0}

-- What one call gives at the place, where t is the table after it.
abbrev pub Finds : Table → ℕ → Result (Option ℕ) SexprError → ℕ → Type 0
Finds t place (Ok (Some id)) after = (x : Sexpr) × Means t id x × Outcomes t.bytes place (expression x) after
Finds t place (Ok None) after = Outcomes t.bytes place finished after
Finds t place (Err error) after = Explains t.bytes place error after

-- the error of the lexer after such a call
abbrev pub failed_of : Result (Option ℕ) SexprError → Option LexError
failed_of (Err (Refused (Lex error))) = Some error
failed_of result = None
