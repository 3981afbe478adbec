-- Which clauses hold on some values.
use Rattle.std.proofs.Common.{arith, ◌≡◌, ◌≢◌, ℕ, zero, suc, ◌<◌, ◌≤◌, ◌+◌, inl, inr, List, [], ◌∷◌, length, take, Bool, true, false, Option, Some, None, All, get_or, subst, sym, ap, ◌∙◌, refl, IsTrue, ◌==◌, ℤ}
use Rattle.std.specs.Prelude.{slice_get, MatchOption, IfSome}
use Rattle.std.proofs.lemmas.Bool.{cases_lt}
use Rattle.std.proofs.lemmas.Bool.Decides.{nat_tests}
use Rattle.std.proofs.lemmas.List.{take_all}
use Rattle.std.proofs.lemmas.List.Elements.{All-more, All-same, All-from_get_or}
use Rattle.std.proofs.lemmas.Option.{slice_get-get_or}
use Rattle.stn_core.specs.declared.literal.Literal.{Literal}
use Rattle.stn_core.specs.Problem.{ClauseHolds, ProblemHolds}
use Rattle.branch_search.specs.code.Clauses.{IsNotEmpty, clause_at, IsFalseAt, HoldBetween, IsNext}

pub All-whole_of : {X : Type 0} (P : X → Type 0) (items xs : List X) (i : ℕ) → items ≡ xs → length items ≤ i → All P (take i xs) → All P xs
All-whole_of P items xs i same le all = All-same P xs (take i xs) (sym (take_all i xs (let n : length items ≡ length xs = ap length same in omega arith))) all

pub All-whole : {X : Type 0} (P : X → Type 0) (xs : List X) (i : ℕ) → length xs ≤ i → All P (take i xs) → All P xs
All-whole P xs i le all = All-same P xs (take i xs) (sym (take_all i xs le)) all

-- the literal whose test fails doesn't hold
pub not_held : (P : Literal → Type 0) (items clause : List Literal) (i : ℕ) (d : Literal) (test : Bool) → items ≡ clause → test ≡ false → (P (get_or items i d) → IsTrue test) → i < length items → All (λ (l : Literal). P l → ⊥) (take i clause) → All (λ (l : Literal). P l → ⊥) (take (i + 1) clause)
not_held P items clause i d true same fails shows within before = absurd cc
not_held P items clause i d false same fails shows within before =
    All-more (λ (l : Literal). P l → ⊥) clause i d (let n : length items ≡ length clause = ap length same in omega arith) before (λ h. let t = shows (subst (λ (ls : List Literal). P (get_or ls i d)) (sym same) h) in absurd cc)

not_empty : (clause items : List Literal) → items ≡ clause → false ≡ (length items == 0) → IsNotEmpty clause
not_empty [] items same e =
    let some : length items ≢ 0 = grind (arith, nat_tests) in
    absurd (some (ap length same))
not_empty (l ∷ clause) items same e = omega arith

is_empty : (clause items : List Literal) → items ≡ clause → true ≡ (length items == 0) → clause ≡ []
is_empty [] items same e = refl
is_empty (l ∷ clause) items same e =
    let none : length items ≡ 0 = grind (arith, nat_tests) in
    let some : length items ≡ suc (length clause) = ap length same in
    absurd (omega arith)

is_at : (clauses : List (List Literal)) (i : ℕ) (clause : List Literal) → i < length clauses → clause ≡ get_or clauses i clause → clause ≡ clause_at clauses i
is_at [] i clause within at = absurd (omega arith)
is_at (c ∷ clauses) zero clause within at = at
is_at (c ∷ clauses) (suc i) clause within at = is_at clauses i clause (omega arith) at

pub hold_more : (values : List ℤ) (clauses : List (List Literal)) (low i : ℕ) (clause : List Literal) → i < length clauses → clause ≡ get_or clauses i clause → ClauseHolds values clause → HoldBetween values clauses low i → HoldBetween values clauses low (i + 1)
hold_more values clauses low i clause within at holds before j le lt = elim (cases_lt j i) [
  | inl less ↦ before j le less
  | inr past ↦ (let last : i ≡ j = omega arith in subst (λ (k : ℕ). ClauseHolds values (clause_at clauses k)) last (subst (ClauseHolds values) (is_at clauses i clause within at) holds))
]

-- from a number on all clauses hold, and so do those before it
all_hold : (values : List ℤ) (clauses : List (List Literal)) (from : ℕ) → HoldBetween values clauses from (length clauses) → HoldBetween values clauses 0 from → ProblemHolds values clauses
all_hold values clauses from late early = All-from_get_or (ClauseHolds values) clauses [] (λ i within. elim (cases_lt i from) [
  | inl less ↦ early i (omega arith) less
  | inr past ↦ late i (omega arith) within
])

pub all_hold_by : (values : List ℤ) (clauses : List (List Literal)) (from : ℕ) (found : Option ℕ) → HoldBetween values clauses from (length clauses) → MatchOption found (HoldBetween values clauses 0 from) (IsFalseAt values clauses) → MatchOption found (ProblemHolds values clauses) (IsFalseAt values clauses)
all_hold_by values clauses from None late early = all_hold values clauses from late early
all_hold_by values clauses from (Some i) late found = found

pub next_late : (values : List ℤ) (clauses : List (List Literal)) (from i : ℕ) → from ≤ i → HoldBetween values clauses from i → IsNext values clauses from i
next_late values clauses from i le hold = record { late = λ _. hold; early = λ lt. absurd (omega arith) }

pub next_early : (values : List ℤ) (clauses : List (List Literal)) (from : ℕ) (found : Option ℕ) → HoldBetween values clauses from (length clauses) → IfSome found (λ i. (0 ≤ i) × (i < from) × HoldBetween values clauses 0 i) → IfSome found (IsNext values clauses from)
next_early values clauses from None late early = early
next_early values clauses from (Some i) late early = let lt = early.1 in record { late = λ le. absurd (omega arith); early = λ _. (late, early.2) }
