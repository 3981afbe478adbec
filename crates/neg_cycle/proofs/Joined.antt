-- Walks one after the other, and cycles read from another literal on.
use Rattle.std.proofs.Common.{arith, refl, sym, subst, ◌≡◌, ℕ, List, [], ◌∷◌, ◌++◌, take, drop, ◌+ℤ◌}
use Rattle.std.proofs.lemmas.Int.{ints}
use Rattle.std.proofs.lemmas.List.{take-append-drop, length-append}
use Rattle.stn_core.specs.declared.literal.Literal.{Literal}
use Rattle.stn_core.specs.Cycle.{Leads, weight_of, IsNegativeCycle}

pub weight_of-append : (ls ms : List Literal) → weight_of (ls ++ ms) ≡ weight_of ls +ℤ weight_of ms
weight_of-append [] ms = omega (arith, ints)
weight_of-append (l ∷ ls) ms = let h = weight_of-append ls ms in omega (arith, ints)

pub Leads-append : (from : ℕ) (ls : List Literal) (over : ℕ) (ms : List Literal) (to : ℕ) → Leads from ls over → Leads over ms to → Leads from (ls ++ ms) to
Leads-append from [] over ms to h k = subst (λ (p : ℕ). Leads p ms to) (sym h) k
Leads-append from (l ∷ ls) over ms to h k = (h.0, Leads-append l.y ls over ms to h.1 k)

-- the point between the two
pub Leads-split : (from : ℕ) (ls ms : List Literal) (to : ℕ) → Leads from (ls ++ ms) to → (over : ℕ) × Leads from ls over × Leads over ms to
Leads-split from [] ms to h = (from, refl, h)
Leads-split from (l ∷ ls) ms to h = let rest = Leads-split l.y ls ms to h.1 in (rest.0, (h.0, rest.1), rest.2)

pub turned : (ls ms : List Literal) → IsNegativeCycle (ls ++ ms) → IsNegativeCycle (ms ++ ls)
turned ls ms n =
    let parts = Leads-split n.closed.0 ls ms n.closed.0 n.closed.1 in
    let w = weight_of-append ls ms in
    let w' = weight_of-append ms ls in
    let below = n.negative in
    let some = n.some in
    record {
      some = omega (arith, length-append ls ms, length-append ms ls);
      closed = (parts.0, Leads-append parts.0 ms n.closed.0 ls parts.0 parts.2 parts.1);
      negative = omega (arith, ints);
    }

pub rotated : (ls : List Literal) (k : ℕ) → IsNegativeCycle ls → IsNegativeCycle (drop k ls ++ take k ls)
rotated ls k n = turned (take k ls) (drop k ls) (rw (take-append-drop k ls) n)
