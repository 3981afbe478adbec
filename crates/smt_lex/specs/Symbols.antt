-- What a symbol is, whichever way it is written.
use Rattle.std.specs.Prelude.{ℕ, ◌-◌, ◌==◌, if◌then◌else◌, List, [], ◌∷◌, length, take}

-- The bytes of a symbol without its bars: a quoted symbol's bytes between the bars, and a simple symbol's own bytes.
-- SMT-LIB 2.6, section 3.1: a quoted symbol whose content is a simple symbol is that symbol.
unfoldable pub symbol_content : List ℕ → List ℕ
symbol_content [] = []
symbol_content (b ∷ rest) = if b == 124 then take (length rest - 1) rest else b ∷ rest
