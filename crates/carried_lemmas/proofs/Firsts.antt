-- Clauses found by hash, each by the number of the first that equals it.
use Rattle.std.proofs.Common.{arith, ◌≡◌, ◌≢◌, ◌<◌, ◌≤◌, ◌+◌, inl, inr, ℕ, Bool, true, false, cond, List, [], ◌∷◌, ◌++◌, length, get_or, Option, Some, None, refl, sym, ap, subst, ◌∙◌}
use Rattle.std.specs.Prelude.{slice_get}
use Rattle.std.specs.HashMap.{HashMap, get, IsEmpty}
use Rattle.std.proofs.lemmas.Bool.{cases_lt, both_ways}
use Rattle.std.proofs.lemmas.List.{get_or_append_left, get_or_push}
use Rattle.std.proofs.lemmas.Option.{slice_get-get_or, slice_get_past, same_Some}
use denote.Ref.{Bor}
use lib.Pointwise.{pointwise, pointwise_decides}
use Rattle.stn_core.specs.declared.literal.Literal.{Literal}
use Rattle.stn_core.specs.Literal.{same_literal}
use Rattle.stn_core.proofs.SameLiteral.{same_literal_decides}
use Rattle.carried_lemmas.specs.Carried.{IsEqualAt}
use Rattle.carried_lemmas.specs.code.Carrying.{same_clause, HasFirsts}

-- of the clauses from number i on the first that equals this one
abbrev pub IsEqualFrom : ℕ → List (List Literal) → List Literal → Option ℕ → Type 0
IsEqualFrom i clauses clause None = (k : ℕ) → i ≤ k → slice_get clauses k ≢ Some clause
IsEqualFrom i clauses clause (Some n) = (slice_get clauses n ≡ Some clause) × ((k : ℕ) → i ≤ k → k < n → slice_get clauses k ≢ Some clause)

abbrev pub HasFirstsFrom : {S : Type 0} → ℕ → List (List Literal) → HashMap (Bor (List Literal)) ℕ S → Type 0
HasFirstsFrom i clauses firsts = (clause : Bor (List Literal)) → IsEqualFrom i clauses clause.now (get same_clause firsts clause)

decides : (a b : List Literal) → (pointwise same_literal a b ≡ true → a ≡ b) × (a ≡ b → pointwise same_literal a b ≡ true)
decides = pointwise_decides {K = Literal} {E = same_literal} same_literal_decides

none_past : (clauses : List (List Literal)) (clause : List Literal) (found : Option ℕ) → found ≡ None → IsEqualFrom (length clauses) clauses clause found
none_past clauses clause found e =
    subst (IsEqualFrom (length clauses) clauses clause) (sym e) (λ k le is. (let past : slice_get clauses k ≡ None = slice_get_past clauses k le in absurd (cc)))

pub no_firsts : {S : Type 0} (clauses : List (List Literal)) (firsts : HashMap (Bor (List Literal)) ℕ S) → IsEmpty firsts → HasFirstsFrom (length clauses) clauses firsts
no_firsts clauses firsts empty clause = none_past clauses clause.now (get same_clause firsts clause) (rw empty refl)

module _ (clauses : List (List Literal)) (i : ℕ) (here : List Literal) (at : slice_get clauses i ≡ Some here) (clause : List Literal) where
  -- the clause in front doesn't equal it
  not_here : pointwise same_literal here clause ≡ false → slice_get clauses i ≢ Some clause
  not_here differ is =
      let same : here ≡ clause = same_Some here clause (sym at ∙ is) in
      both_ways (pointwise same_literal here clause) differ ((decides here clause).1 same)

  not_from : pointwise same_literal here clause ≡ false → (k : ℕ) → i ≤ k → (i + 1 ≤ k → slice_get clauses k ≢ Some clause) → slice_get clauses k ≢ Some clause
  not_from differ k le h = elim (cases_lt i k) [
    | inl lt ↦ h (omega (arith, lt))
    | inr ge ↦ (let same : i ≡ k = omega (arith, le, ge) in subst (λ (j : ℕ). slice_get clauses j ≢ Some clause) same (not_here differ))
  ]

  next : (b : Bool) → pointwise same_literal here clause ≡ b → (old : Option ℕ) → IsEqualFrom (i + 1) clauses clause old → IsEqualFrom i clauses clause (cond b (Some i) old)
  next true e old h = (at ∙ ap (λ (z : List Literal). Some z) ((decides here clause).0 e), λ k le lt. absurd (omega (arith, le, lt)))
  next false e None h = λ k le. not_from e k le (λ more. h k more)
  next false e (Some n) h = (h.0, λ k le lt. not_from e k le (λ more. h.1 k more lt))

-- one more clause in front
pub more_firsts : {S : Type 0} (clauses : List (List Literal)) (i : ℕ) (here : Bor (List Literal)) (before after : HashMap (Bor (List Literal)) ℕ S)
    → slice_get clauses i ≡ Some here.now → HasFirstsFrom (i + 1) clauses before
    → ((q : Bor (List Literal)) → get same_clause after q ≡ cond (same_clause here q) (Some i) (get same_clause before q))
    → HasFirstsFrom i clauses after
more_firsts clauses i here before after at h updates clause =
    subst (IsEqualFrom i clauses clause.now) (sym (updates clause)) (next clauses i here.now at clause.now (same_clause here clause) refl (get same_clause before clause) (h clause))

from_start : (clauses : List (List Literal)) (clause : List Literal) (found : Option ℕ) → IsEqualFrom 0 clauses clause found → IsEqualAt clauses clause found
from_start clauses clause None h = λ in_. h in_.0 (omega arith) (slice_get-get_or clauses in_.0 clause in_.1 ∙ ap (λ (z : List Literal). Some z) in_.2)
from_start clauses clause (Some n) h = record { at = h.0; first = λ k lt. h.1 k (omega arith) lt }

pub all_firsts : {S : Type 0} (clauses : List (List Literal)) (i : ℕ) (firsts : HashMap (Bor (List Literal)) ℕ S) → i ≤ 0 → HasFirstsFrom i clauses firsts → HasFirsts clauses firsts
all_firsts clauses i firsts le h clause =
    let zero_ : i ≡ 0 = omega arith in
    from_start clauses clause.now (get same_clause firsts clause) (subst (λ (j : ℕ). IsEqualFrom j clauses clause.now (get same_clause firsts clause)) zero_ (h clause))

-- one more number, of the next clause
pub numbers_next : (old new : List (List Literal)) (numbers more : List (Option ℕ)) (k : ℕ) (number : Option ℕ) (here : List Literal)
    → length numbers ≡ k → more ≡ numbers ++ number ∷ [] → slice_get old k ≡ Some here → IsEqualAt new here number
    → ((i : ℕ) (clause : List Literal) → i < k → slice_get old i ≡ Some clause → IsEqualAt new clause (get_or numbers i None))
    → (i : ℕ) (clause : List Literal) → i < k + 1 → slice_get old i ≡ Some clause → IsEqualAt new clause (get_or more i None)
numbers_next old new numbers more k number here long e at equal each i clause lt is = elim (cases_lt i k) [
  | inl below ↦
      let same : get_or more i None ≡ get_or numbers i None = ap (λ (ns : List (Option ℕ)). get_or ns i None) e ∙ get_or_append_left numbers (number ∷ []) None i (omega (arith, long, below)) in
      subst (IsEqualAt new clause) (sym same) (each i clause below is)
  | inr above ↦
      let last : i ≡ k = omega (arith, lt, above) in
      let same : get_or more i None ≡ number = ap (λ (ns : List (Option ℕ)). get_or ns i None) e ∙ get_or_push numbers number None i (omega (arith, long, last)) in
      let clause_is : here ≡ clause = same_Some here clause (sym at ∙ ap (slice_get old) (sym last) ∙ is) in
      subst (λ (c : List Literal). IsEqualAt new c (get_or more i None)) clause_is (subst (IsEqualAt new here) (sym same) equal)
]
