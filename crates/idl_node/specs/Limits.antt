-- This project's own limit.
use Rattle.std.specs.Prelude.{ℕ}

-- the greatest number of nodes in a table: 2 to the 20
abbrev pub nodes_limit : ℕ
nodes_limit = 1048576
