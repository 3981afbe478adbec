-- The symbols that may not be declared, by their lengths. These are words of the code, and no part of the meaning.
use Rattle.std.specs.Prelude.{ℕ, List, ◌++◌, length, ◌==◌, filter}
use Rattle.idl_apply.specs.Operators.{theory_symbols, reserved_words}

abbrev pub of_length : ℕ → List (List ℕ) → List (List ℕ)
of_length n words = filter (λ (word : List ℕ). length word == n) words

abbrev pub words_of_length : ℕ → List (List ℕ)
words_of_length n = of_length n (theory_symbols ++ reserved_words)
