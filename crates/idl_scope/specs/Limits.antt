-- This project's own limits.
use Rattle.std.specs.Prelude.{ℕ}

-- the greatest number of declared names
abbrev pub names_limit : ℕ
names_limit = 65536
