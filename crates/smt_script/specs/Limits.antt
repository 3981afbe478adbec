-- This project's own limit.
use Rattle.std.specs.Prelude.{ℕ}

-- the greatest number of levels above the bottom
abbrev pub levels_limit : ℕ
levels_limit = 65536
