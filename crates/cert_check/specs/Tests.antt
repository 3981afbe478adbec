-- The tests that the definition of the first flaw asks, by computing. Laws of this crate say that they answer what the
-- definition of refutations says.
use Rattle.std.specs.Prelude.{ℕ, List, [], ◌∷◌, Bool, false, ◌==◌, ◌&&◌, nat_lt, int_lt, pos}
use Rattle.std.specs.List.{list_any}
use Rattle.stn_core.specs.declared.literal.Literal.{Literal}
use Rattle.stn_core.specs.Literal.{same_literal}
use Rattle.stn_core.specs.Cycle.{weight_of}

-- the literal is one of the assumptions
abbrev pub is_assumed : List Literal → Literal → Bool
is_assumed assumed l = list_any (same_literal l) assumed

-- its time points are among so many
abbrev pub is_on_points : ℕ → Literal → Bool
is_on_points points l = nat_lt l.x points && nat_lt l.y points

-- the literals lead from one time point to another
abbrev pub leads_to : ℕ → List Literal → ℕ → Bool
leads_to from [] to = from == to
leads_to from (l ∷ ls) to = l.x == from && leads_to l.y ls to

abbrev pub is_negative_cycle : List Literal → Bool
is_negative_cycle [] = false
is_negative_cycle (l ∷ ls) = leads_to l.x (l ∷ ls) l.x && int_lt (weight_of (l ∷ ls)) (pos 0)
