-- The literals of unit clauses, and the leaves that rest on them.
use Rattle.std.proofs.Common.{arith, ◌≡◌, ℕ, zero, suc, ◌<◌, ◌≤◌, ◌+◌, inl, inr, ◌⊎◌, List, [], ◌∷◌, ◌++◌, length, flat_map, take, Bool, true, false, Option, Some, None, All, Contains, get_or, subst, sym, ap, ◌∙◌, refl, ◌&&◌, append_assoc, append-nil}
use Rattle.std.specs.Prelude.{slice_get, slice_index, option_map, if◌then◌else◌}
use Rattle.std.specs.List.{position, position_or_len, list_any}
use Rattle.std.proofs.lemmas.Grind.{common_steps, flat_map-append}
use Rattle.std.proofs.lemmas.Bool.{cases_lt}
use Rattle.std.proofs.lemmas.Bool.Decides.{nat_tests}
use Rattle.std.proofs.lemmas.Int.{ints}
use Rattle.std.proofs.lemmas.List.{get_or_append_left, get_or_at, length_push, take_more, take_all}
use Rattle.std.proofs.lemmas.List.Quantifiers.{position-Some}
use Rattle.std.proofs.lemmas.List.Sums.{fails_before_first}
use Rattle.std.proofs.lemmas.List.Elements.{Contains-append_cases, Contains-append_left, Contains-push, Contains-get_or, All-weaker}
use Rattle.std.proofs.lemmas.Option.{slice_get-get_or, slice_get_within, get_or_from_slice_get}
use Rattle.stn_core.specs.declared.literal.Literal.{Literal}
use Rattle.stn_core.proofs.SameLiteral.{same_literal_decides}
use Rattle.stn_core.specs.Cycle.{IsNegativeCycle}
use Rattle.stn_core.specs.Answer.{IsCycleAmong}
use Rattle.refute_tree.specs.declared.step.Step.{Step}
use Rattle.refute_tree.specs.declared.step.Step.TheVariants.{Cycle}
use Rattle.stn_core.specs.Literal.{IsOver, same_literal}
use Rattle.refute_tree.specs.Trees.{Tree, leaf, cases, none, more}
use Rattle.book_search.specs.code.Base.{Base, IsBase, with_unit, number_of, steps_of, unit_steps, cycle_steps}

and_both : (a b : Bool) → (a && b) ≡ true → (a ≡ true) × (b ≡ true)
and_both true true e = (refl, refl)
and_both true false e = absurd cc
and_both false b e = absurd cc

same_is : (l m : Literal) → same_literal l m ≡ true → l ≡ m
same_is l m e = (same_literal_decides l m).0 e

-- the clause of the number has the literal alone
number_right : (clauses : List (List Literal)) (base : Base) (l : Literal) (number : ℕ) → IsBase clauses base → number_of base l ≡ Some number → slice_get clauses number ≡ Some (l ∷ [])
number_right clauses base l number h e = by (position (same_literal l) base.literals) refl e
  where
    by : (p : Option ℕ) → position (same_literal l) base.literals ≡ p → option_map (λ (k : ℕ). slice_index base.numbers k) p ≡ Some number → slice_get clauses number ≡ Some (l ∷ [])
    by None is f = absurd cc
    by (Some k) is f =
        let found = position-Some (same_literal l) base.literals k l is in
        let here : slice_get base.literals k ≡ Some l = slice_get-get_or base.literals k l found.0 ∙ ap (λ (m : Literal). Some m) (sym (same_is l (get_or base.literals k l) found.1)) in
        let n : slice_index base.numbers k ≡ number = cc in
        ap (λ (j : ℕ). slice_get clauses j) (sym n) ∙ h.each k l here

unit_added : (clauses : List (List Literal)) (base : Base) (l : Literal) (number : ℕ) → IsBase clauses base → slice_get clauses number ≡ Some (l ∷ []) → IsBase clauses (record { literals = base.literals ++ l ∷ []; numbers = base.numbers ++ number ∷ [] })
unit_added clauses base l number h at = record {
  count = let before = h.count in grind (arith, common_steps);
  each = λ k m is. elim (cases_lt k (length base.literals)) [
    | inl less ↦ (let old : slice_get base.literals k ≡ Some m = sym (slice_get_front base.literals (l ∷ []) k less) ∙ is in
        let same : slice_index (base.numbers ++ number ∷ []) k ≡ slice_index base.numbers k = get_or_append_left base.numbers (number ∷ []) 0 k (let before = h.count in omega arith) in
        ap (λ (j : ℕ). slice_get clauses j) same ∙ h.each k m old)
    | inr past ↦ (let inside = slice_get_within (base.literals ++ l ∷ []) k m is in
        let grown = length_push base.literals l in
        let last : k ≡ length base.literals = omega arith in
        let new : l ≡ m = last_is base.literals l k m last is in
        let same : slice_index (base.numbers ++ number ∷ []) k ≡ number = get_or_at base.numbers number [] 0 k (let before = h.count in omega arith) in
        ap (λ (j : ℕ). slice_get clauses j) same ∙ at ∙ ap (λ (x : Literal). Some (x ∷ [])) new)
  ];
}
  where
    slice_get_front : (xs ys : List Literal) (k : ℕ) → k < length xs → slice_get (xs ++ ys) k ≡ slice_get xs k
    slice_get_front [] ys k lt = absurd (omega arith)
    slice_get_front (x ∷ xs) ys zero lt = refl
    slice_get_front (x ∷ xs) ys (suc k) lt = slice_get_front xs ys k (omega arith)

    last_is : (xs : List Literal) (x : Literal) (k : ℕ) (m : Literal) → k ≡ length xs → slice_get (xs ++ x ∷ []) k ≡ Some m → x ≡ m
    last_is [] x zero m e is = cc
    last_is [] x (suc k) m e is = absurd (omega arith)
    last_is (y ∷ xs) x zero m e is = absurd (omega arith)
    last_is (y ∷ xs) x (suc k) m e is = last_is xs x k m (omega arith) is

with_unit_by : (clauses : List (List Literal)) (base : Base) (l : Literal) (number : ℕ) (test : Bool) → IsBase clauses base → slice_get clauses number ≡ Some (l ∷ []) → IsBase clauses (if test then base else record { literals = base.literals ++ l ∷ []; numbers = base.numbers ++ number ∷ [] })
with_unit_by clauses base l number true h at = h
with_unit_by clauses base l number false h at = unit_added clauses base l number h at

-- the unit clause at a place
pub with_unit_at : (clauses : List (List Literal)) (base new : Base) (l : Literal) (number : ℕ) (clause : List Literal) → IsBase clauses base → number < length clauses → clause ≡ get_or clauses number clause → clause ≡ l ∷ [] → new ≡ with_unit base l number → IsBase clauses new
with_unit_at clauses base new l number clause h within at is e =
    let here : slice_get clauses number ≡ Some (l ∷ []) = slice_get-get_or clauses number clause within ∙ ap (λ (c : List Literal). Some c) (sym at ∙ is) in
    subst (IsBase clauses) (sym e) (with_unit_by clauses base l number (list_any (same_literal l) base.literals) h here)

pub same_self : (l : Literal) → same_literal l l ≡ true
same_self l = grind (arith, ints, nat_tests)

-- a literal that is listed has a number
numbered : (base : Base) (l : Literal) → Contains base.literals l → number_of base l ≡ None → ⊥
numbered base l h e = by base.literals (position (same_literal l) base.literals) refl h e
  where
    by : (literals : List Literal) (p : Option ℕ) → position (same_literal l) literals ≡ p → Contains literals l → option_map (λ (k : ℕ). slice_index base.numbers k) p ≡ None → ⊥
    by literals (Some k) is c f = absurd cc
    by literals None is c f =
        let past : length literals ≤ position_or_len (same_literal l) literals = grind (arith, common_steps) in
        let inside = c.1 in
        let no = fails_before_first (same_literal l) literals c.0 l (omega arith) in
        let off : same_literal l l ≡ false = subst (λ (m : Literal). same_literal l m ≡ false) c.2 no in
        let both : true ≡ false = sym (same_self l) ∙ off in
        absurd cc

-- the literals of unit clauses that are still to be assumed are coming
leaf_from : (clauses : List (List Literal)) (base : Base) → IsBase clauses base → (cycle : List Literal) → IsNegativeCycle cycle → (rest : List Step) (assumed coming : List Literal)
    → All (λ (m : Literal). Contains assumed m ⊎ (Contains base.literals m × Contains coming m)) cycle
    → Tree clauses [] assumed (flat_map (λ (l : Literal). unit_steps base l) coming ++ Cycle cycle ∷ rest) rest
leaf_from clauses base b cycle n rest assumed [] all =
    leaf (record { negative = n; given = All-weaker (λ (m : Literal). Contains assumed m ⊎ (Contains base.literals m × Contains [] m)) (Contains assumed) (λ m h. elim h [ inl a ↦ a | inr c ↦ absurd (omega (arith, c.1.1)) ]) cycle all })
leaf_from clauses base b cycle n rest assumed (l ∷ coming) all =
    by (number_of base l) refl (λ h. leaf_from clauses base b cycle n rest assumed coming h) (λ h. leaf_from clauses base b cycle n rest (assumed ++ l ∷ []) coming h)
  where
    Before : Literal → Type 0
    Before m = Contains assumed m ⊎ (Contains base.literals m × Contains (l ∷ coming) m)

    After : List Literal → Literal → Type 0
    After now m = Contains now m ⊎ (Contains base.literals m × Contains coming m)

    steps : List Step
    steps = flat_map (λ (k : Literal). unit_steps base k) coming

    first : (m : Literal) → Contains (l ∷ coming) m → (l ≡ m) ⊎ Contains coming m
    first m (zero, lt, e) = inl e
    first m (suc k, lt, e) = inr (k, omega arith, e)

    by : (number : Option ℕ) → number_of base l ≡ number
        → (All (After assumed) cycle → Tree clauses [] assumed (steps ++ Cycle cycle ∷ rest) rest)
        → (All (After (assumed ++ l ∷ [])) cycle → Tree clauses [] (assumed ++ l ∷ []) (steps ++ Cycle cycle ∷ rest) rest)
        → Tree clauses [] assumed ((steps_of number ++ steps) ++ Cycle cycle ∷ rest) rest
    by None is same grown =
        same (All-weaker Before (After assumed) (λ m h. elim h [
          | inl a ↦ inl a
          | inr c ↦ elim (first m c.1) [
            | inl e ↦ absurd (numbered base l (subst (Contains base.literals) (sym e) c.0) is)
            | inr k ↦ inr (c.0, k)
          ]
        ]) cycle all)
    by (Some number) is same grown =
        let all_grown = All-weaker Before (After (assumed ++ l ∷ [])) (λ m h. elim h [
          | inl a ↦ inl (Contains-append_left assumed (l ∷ []) m a)
          | inr c ↦ elim (first m c.1) [
            | inl e ↦ inl (subst (Contains (assumed ++ l ∷ [])) e (Contains-push assumed l))
            | inr k ↦ inr (c.0, k)
          ]
        ]) cycle all in
        cases (number_right clauses base l number b is) (more (grown all_grown) none)

-- a negative cycle of unit clauses' literals and assumed ones closes the case
pub leaf_closes : (clauses : List (List Literal)) (base : Base) (assumed cycle : List Literal) (rest : List Step) → IsBase clauses base → IsCycleAmong (base.literals ++ assumed) cycle → Tree clauses [] assumed (cycle_steps base cycle ++ rest) rest
leaf_closes clauses base assumed cycle rest b h =
    let given : All (λ (m : Literal). Contains assumed m ⊎ (Contains base.literals m × Contains cycle m)) cycle = λ k d lt. elim (Contains-append_cases base.literals assumed (get_or cycle k d) (h.given k d lt)) [
      | inl a ↦ inr (a, Contains-get_or cycle k d lt)
      | inr c ↦ inl c
    ] in
    let whole = leaf_from clauses base b cycle h.negative rest assumed cycle given in
    subst (λ (s : List Step). Tree clauses [] assumed s rest) (sym (append_assoc (flat_map (λ (l : Literal). unit_steps base l) cycle) (Cycle cycle ∷ []) rest)) whole

-- one more literal of the cycle is looked at
pub one_more : (f : Literal → List Step) (old now new : List Step) (items : List Literal) (i : ℕ) (d : Literal) → i < length items → now ≡ old ++ flat_map f (take i items) → new ≡ now ++ f (get_or items i d) → new ≡ old ++ flat_map f (take (i + 1) items)
one_more f old now new items i d within so_far is =
    let grown : flat_map f (take (i + 1) items) ≡ flat_map f (take i items) ++ f (get_or items i d) =
    ap (flat_map f) (take_more items i d within) ∙ flat_map-append f (take i items) (get_or items i d ∷ []) ∙ ap (λ (s : List Step). flat_map f (take i items) ++ s) (append-nil (f (get_or items i d))) in
    is ∙ ap (λ (s : List Step). s ++ f (get_or items i d)) so_far ∙ append_assoc old (flat_map f (take i items)) (f (get_or items i d)) ∙ ap (λ (s : List Step). old ++ s) (sym grown)

pub all_looked_at : (f : Literal → List Step) (old now new : List Step) (items cycle : List Literal) (i : ℕ) (last : Step) → items ≡ cycle → length items ≤ i → now ≡ old ++ flat_map f (take i items) → new ≡ now ++ last ∷ [] → new ≡ old ++ (flat_map f cycle ++ last ∷ [])
all_looked_at f old now new items cycle i last same past so_far is =
    is ∙ ap (λ (s : List Step). s ++ last ∷ []) (so_far ∙ ap (λ (ls : List Literal). old ++ flat_map f ls) (take_all i items past ∙ same)) ∙ append_assoc old (flat_map f cycle) (last ∷ [])

-- the literals of unit clauses are within the problem's limits
pub base_over : (points : ℕ) (clauses : List (List Literal)) (base : Base) → IsBase clauses base → All (λ (clause : List Literal). All (IsOver points) clause) clauses → All (IsOver points) base.literals
base_over points clauses base h over k d lt =
    let l = get_or base.literals k d in
    let at = h.each k l (slice_get-get_or base.literals k d lt) in
    let inside = slice_get_within clauses (slice_index base.numbers k) (l ∷ []) at in
    let clause : get_or clauses (slice_index base.numbers k) (l ∷ []) ≡ l ∷ [] = get_or_from_slice_get clauses (slice_index base.numbers k) (l ∷ []) (l ∷ []) at in
    let all : All (IsOver points) (l ∷ []) = subst (All (IsOver points)) clause (over (slice_index base.numbers k) (l ∷ []) inside) in
    all 0 l (omega arith)
