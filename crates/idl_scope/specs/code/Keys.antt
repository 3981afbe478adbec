-- Names as keys of a table. These are words of the code, and no part of the meaning.
use Rattle.std.specs.Prelude.{◌≡◌, ℕ, zero, suc, min, drop, length, List, [], ◌∷◌, IsTrue}
use Rattle.std.proofs.Common.{ap}
use Rattle.std.specs.Cmp.Lexicographic.{bytes_decides}
use Rattle.std.specs.Str.{bytes_eq}

-- the first bytes of a name, and zeros where there are no more
abbrev pub padded : ℕ → List ℕ → List ℕ
padded zero bytes = []
padded (suc n) [] = 0 ∷ padded n []
padded (suc n) (b ∷ bytes) = b ∷ padded n bytes

-- what a name feeds a hasher: its first bytes, and then the others
abbrev pub fed_by : List ℕ → List (List ℕ)
fed_by bytes = padded 8 bytes ∷ drop (min (length bytes) 8) bytes ∷ []

-- equal names feed it the same
pub equal_feed : (xs ys : List ℕ) → IsTrue (bytes_eq xs ys) → fed_by xs ≡ fed_by ys
equal_feed xs ys e = ap fed_by ((bytes_decides xs ys).0 e)
