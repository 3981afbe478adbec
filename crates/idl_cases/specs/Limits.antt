-- This project's own limits.
use Rattle.std.specs.Prelude.{ℕ}

-- the greatest number of cases of an Int term, and of a pair of them that is compared
abbrev pub cases_limit : ℕ
cases_limit = 4096
