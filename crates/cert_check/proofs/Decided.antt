-- The tests answer what the definitions say.
use Rattle.std.proofs.Common.{arith, refl, sym, subst, ◌≡◌, inl, inr, ℕ, zero, suc, List, [], ◌∷◌, true, ◌==◌, ℤ, pos, ◌<ℤ◌}
use Rattle.std.specs.Prelude.{All, Contains, nat_lt, int_lt}
use Rattle.std.specs.Bool.{Decides}
use Rattle.std.specs.List.{list_all}
use Rattle.std.proofs.lemmas.Bool.{and_parts, and_from, or_cases, or_left, or_right, eqb-true, eq-eqb, ltb-true, lt-ltb}
use Rattle.std.proofs.lemmas.Bool.Decides.{Decides-by_and}
use Rattle.std.proofs.lemmas.Int.{ints}
use Rattle.stn_core.specs.declared.literal.Literal.{Literal}
use Rattle.stn_core.specs.Cycle.{Leads, weight_of, IsNegativeCycle}
use Rattle.refute_tree.specs.Trees.{IsOnPoints}
use Rattle.stn_core.specs.Literal.{same_literal}
use Rattle.stn_core.proofs.SameLiteral.{same_literal_decides}
use Rattle.cert_check.specs.Tests.{is_assumed, is_on_points, leads_to, is_negative_cycle}

contains_first : (l : Literal) (ls : List Literal) → Contains (l ∷ ls) l
contains_first l ls = (0, omega arith, refl)

contains_other : (l m : Literal) (ls : List Literal) → Contains ls l → Contains (m ∷ ls) l
contains_other l m ls h = (suc h.0, omega (arith, h.1), h.2)

assumed_forth : (assumed : List Literal) (l : Literal) → is_assumed assumed l ≡ true → Contains assumed l
assumed_forth [] l e = absurd (cc)
assumed_forth (m ∷ ms) l e = elim (or_cases (same_literal l m) (is_assumed ms l) e) [
  | inl a ↦ subst (Contains (m ∷ ms)) (sym ((same_literal_decides l m).0 a)) (contains_first m ms)
  | inr b ↦ contains_other l m ms (assumed_forth ms l b)
]

assumed_back : (assumed : List Literal) (l : Literal) → Contains assumed l → is_assumed assumed l ≡ true
assumed_back [] l h = absurd (omega (arith, h.1))
assumed_back (m ∷ ms) l (zero, lt, e) = or_left (same_literal l m) (is_assumed ms l) ((same_literal_decides l m).1 (sym e))
assumed_back (m ∷ ms) l (suc k, lt, e) = or_right (same_literal l m) (is_assumed ms l) (assumed_back ms l (k, omega arith, e))

pub is_assumed_decides : (assumed : List Literal) (l : Literal) → Decides (is_assumed assumed l) (Contains assumed l)
is_assumed_decides assumed l = (assumed_forth assumed l, assumed_back assumed l)

pub all_assumed_decides : (assumed cycle : List Literal) → Decides (list_all (is_assumed assumed) cycle) (All (Contains assumed) cycle)
all_assumed_decides assumed cycle = Decides-by_and (is_assumed assumed) (Contains assumed) (list_all (is_assumed assumed)) (is_assumed_decides assumed) refl (λ _ _. refl) cycle

pub is_on_points_decides : (points : ℕ) (l : Literal) → Decides (is_on_points points l) (IsOnPoints points l)
is_on_points_decides points l = (λ e. forth e, λ h. and_from (nat_lt l.x points) (nat_lt l.y points) (lt-ltb _ _ h.x_in) (lt-ltb _ _ h.y_in))
  where
    forth : is_on_points points l ≡ true → IsOnPoints points l
    forth e = let parts = and_parts (nat_lt l.x points) (nat_lt l.y points) e in record { x_in = ltb-true _ _ parts.0; y_in = ltb-true _ _ parts.1 }

pub all_on_points_decides : (points : ℕ) (clause : List Literal) → Decides (list_all (is_on_points points) clause) (All (IsOnPoints points) clause)
all_on_points_decides points clause = Decides-by_and (is_on_points points) (IsOnPoints points) (list_all (is_on_points points)) (is_on_points_decides points) refl (λ _ _. refl) clause

leads_forth : (from : ℕ) (ls : List Literal) (to : ℕ) → leads_to from ls to ≡ true → Leads from ls to
leads_forth from [] to e = eqb-true _ _ e
leads_forth from (l ∷ ls) to e = let parts = and_parts (l.x == from) (leads_to l.y ls to) e in (eqb-true _ _ parts.0, leads_forth l.y ls to parts.1)

leads_back : (from : ℕ) (ls : List Literal) (to : ℕ) → Leads from ls to → leads_to from ls to ≡ true
leads_back from [] to h = eq-eqb _ _ h
leads_back from (l ∷ ls) to h = and_from (l.x == from) (leads_to l.y ls to) (eq-eqb _ _ h.0) (leads_back l.y ls to h.1)

below_from_test : (a b : ℤ) → int_lt a b ≡ true → a <ℤ b
below_from_test a b e = grind (arith, ints)

test_from_below : (a b : ℤ) → a <ℤ b → int_lt a b ≡ true
test_from_below a b h = grind (arith, ints)

cycle_forth : (cycle : List Literal) → is_negative_cycle cycle ≡ true → IsNegativeCycle cycle
cycle_forth [] e = absurd (cc)
cycle_forth (l ∷ ls) e =
    let parts = and_parts (leads_to l.x (l ∷ ls) l.x) (int_lt (weight_of (l ∷ ls)) (pos 0)) e in
    record { some = omega arith; closed = (l.x, leads_forth l.x (l ∷ ls) l.x parts.0); negative = below_from_test _ _ parts.1 }

cycle_back : (cycle : List Literal) → IsNegativeCycle cycle → is_negative_cycle cycle ≡ true
cycle_back [] h = let some = h.some in absurd (omega arith)
cycle_back (l ∷ ls) h =
    let closed = h.closed in
    let first : closed.0 ≡ l.x = sym closed.1.0 in
    let round : Leads l.x (l ∷ ls) l.x = subst (λ (p : ℕ). Leads p (l ∷ ls) p) first closed.1 in
    and_from (leads_to l.x (l ∷ ls) l.x) (int_lt (weight_of (l ∷ ls)) (pos 0)) (leads_back l.x (l ∷ ls) l.x round) (test_from_below _ _ h.negative)

pub is_negative_cycle_decides : (cycle : List Literal) → Decides (is_negative_cycle cycle) (IsNegativeCycle cycle)
is_negative_cycle_decides cycle = (cycle_forth cycle, cycle_back cycle)
