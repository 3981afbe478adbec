-- Classes of bytes, as SMT-LIB 2.6, section 3.1, has them.
use Rattle.std.specs.Prelude.{ℕ, Bool, ◌==◌, ◌||◌, ◌&&◌, not}
use Rattle.std.specs.Char.{is_ascii_alphanumeric}
use Rattle.std.specs.List.{list_any}
use Rattle.std.specs.Prelude.{codes}

-- tab, line feed, carriage return, space
unfoldable pub is_space : ℕ → Bool
is_space b = b == 9 || b == 10 || b == 13 || b == 32

-- line feed, carriage return
unfoldable pub is_line_end : ℕ → Bool
is_line_end b = b == 10 || b == 13

unfoldable pub is_binary_digit : ℕ → Bool
is_binary_digit b = b == 48 || b == 49

-- the bytes of a simple symbol
unfoldable pub is_symbol_byte : ℕ → Bool
is_symbol_byte b = is_ascii_alphanumeric b || list_any (λ x. x == b) (codes "~!@$%^&*_-+=<>.?/")

-- what may stand between the bars of a quoted symbol: neither a bar nor a backslash
unfoldable pub is_quoted_byte : ℕ → Bool
is_quoted_byte b = not (b == 124) && not (b == 92)
