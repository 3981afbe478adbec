-- What callers see of a lexer.
use Rattle.std.specs.Prelude.{ℕ, List, Option, Some, None, Result, Ok, Err}
use Rattle.smt_lex.specs.declared.token.Token.{Token}
use Rattle.smt_lex.specs.declared.token.LexError.{LexError}

pub record Lexing : Type 0 where
  pub bytes : List ℕ
  -- how many of them are behind it
  pub place : ℕ
  -- the error that it gave, and gives again
  pub failed : Option LexError

-- the error that a lexer keeps from what it answered
abbrev pub err_of : Result (Option Token) LexError → Option LexError
err_of (Ok t) = None
err_of (Err e) = Some e
