-- Which literals and clauses a marked set keeps.
use Rattle.std.proofs.Common.{arith, inl, inr, ◌⊎◌, ◌≡◌, ◌≢◌, ◌<◌, ◌≤◌, ◌+◌, ◌==◌, ℕ, zero, suc, List, [], ◌∷◌, ◌++◌, length, take, get_or, set, nat_eq, Bool, true, false, All, Contains, ℤ, refl, sym, ap, ◌∙◌, subst}
use Rattle.std.specs.Prelude.{IsTrue, ◌↔◌, ◌&&◌, ◌||◌, not}
use Rattle.std.proofs.lemmas.Bool.{iff_false, cases_Bool, eqb-true}
use Rattle.std.proofs.lemmas.Bool.Decides.{nat_tests}
use Rattle.std.proofs.lemmas.List.{get_or_default, get_or-set_same, get_or-set_other, take_more, length-set}
use Rattle.std.proofs.lemmas.List.Elements.{All-more, All-contains, Contains-push, Contains-append_left, Contains-append_cases}
use Rattle.stn_core.specs.declared.literal.Literal.{Literal}
use Rattle.stn_core.specs.Literal.{Holds, IsOver}
use Rattle.best_values.specs.Bests.{IsCut, IsKept, ClauseIsKept}
use Rattle.best_values.specs.FreeSets.{AreMarks, IsFirstNotKept}

take_past : {A : Type 0} (n : ℕ) (xs : List A) → length xs ≤ n → take n xs ≡ xs
take_past zero [] le = refl
take_past zero (x ∷ xs) le = absurd (omega arith)
take_past (suc n) [] le = refl
take_past {A = A} (suc n) (x ∷ xs) le = ap (λ (ys : List A). x ∷ ys) (take_past n xs (omega arith))

only : (a b : ℕ) → Contains (a ∷ []) b → a ≡ b
only a b (zero, lt, e) = e
only a b (suc k, lt, e) = absurd (omega (arith, lt))

-- one more point is marked
marked_at : (points q p : ℕ) (before : List ℕ) (marks : List Bool) → AreMarks points before marks → q < points → p < points → (((p == q) ≡ true) ⊎ ((p == q) ≡ false)) → (get_or (set marks q true) p false ≡ true) ↔ Contains (before ++ q ∷ []) p
marked_at points q p before marks are q_in p_in (inl e) =
    let same : q ≡ p = sym (eqb-true p q e) in
    let count = are.count in (
      λ t. subst (λ (z : ℕ). Contains (before ++ q ∷ []) z) same (Contains-push before q),
      λ h. ap (λ (z : ℕ). get_or (set marks q true) z false) (sym same) ∙ get_or-set_same marks q true false (omega (arith, count, q_in)),
    )
marked_at points q p before marks are q_in p_in (inr e) =
    let differ : p ≢ q = λ s. (let t : (p == q) ≡ true = grind (arith, nat_tests, s) in absurd (cc)) in
    let stays : get_or (set marks q true) p false ≡ get_or marks p false = get_or-set_other marks q p true false differ in (
      λ t. Contains-append_left before (q ∷ []) p ((are.each p p_in).0 (sym stays ∙ t)),
      λ c. elim (Contains-append_cases before (q ∷ []) p c) [
        | inl a ↦ stays ∙ (are.each p p_in).1 a
        | inr b ↦ absurd (differ (sym (only q p b)))
      ],
    )

pub marked_more : (points i : ℕ) (xs : List ℕ) (marks : List Bool) → i < length xs → get_or xs i 0 < points → AreMarks points (take i xs) marks → AreMarks points (take (i + 1) xs) (set marks (get_or xs i 0) true)
marked_more points i xs marks lt q_in are =
    let q : ℕ = get_or xs i 0 in
    subst (λ (ys : List ℕ). AreMarks points ys (set marks q true)) (sym (take_more xs i 0 lt)) (record {
      count = length-set marks q true ∙ are.count;
      each = λ p h. marked_at points q p (take i xs) marks are q_in h (cases_Bool (p == q));
    })

pub marked_all : (points i : ℕ) (xs : List ℕ) (marks : List Bool) → length xs ≤ i → AreMarks points (take i xs) marks → AreMarks points xs marks
marked_all points i xs marks le are = subst (λ (ys : List ℕ). AreMarks points ys marks) (take_past i xs le) are

-- a literal whose test is so made up
pub kept_by : (values : List ℤ) (set : List ℕ) (l : Literal) (h n : Bool) → (IsTrue h ↔ Holds values l) → (IsTrue n ↔ (IsCut set l → ⊥)) → (IsTrue (h && n) ↔ IsKept values set l)
kept_by values set l true n holds cut = (λ t. (holds.0 refl, cut.0 t), λ k. cut.1 k.1)
kept_by values set l false n holds cut = (λ t. absurd (cc), λ k. let t = holds.1 k.0 in absurd (cc))

abbrev Fails : List ℤ → List ℕ → Literal → Type 0
Fails values set l = ¬ IsKept values set l

pub one_more_fails : (values : List ℤ) (set : List ℕ) (clause : List Literal) (i : ℕ) (d : Literal) (b : Bool) → All (Fails values set) (take i clause) → i < length clause → (IsTrue b ↔ IsKept values set (get_or clause i d)) → b ≡ false → All (Fails values set) (take (i + 1) clause)
one_more_fails values set clause i d b all lt exact e = All-more (Fails values set) clause i d lt all (λ h. iff_false exact e h)

pub none_kept : (values : List ℤ) (set : List ℕ) (clause : List Literal) (i : ℕ) → All (Fails values set) (take i clause) → length clause ≤ i → ClauseIsKept values set clause → ⊥
none_kept values set clause i all le h =
    let every : All (Fails values set) clause = subst (All (Fails values set)) (take_past i clause le) all in
    All-contains (Fails values set) clause h.0 every h.1 h.2

pub all_kept : (values : List ℤ) (set : List ℕ) (clauses : List (List Literal)) (i : ℕ) → All (ClauseIsKept values set) (take i clauses) → length clauses ≤ i → All (ClauseIsKept values set) clauses
all_kept values set clauses i all le = subst (All (ClauseIsKept values set)) (take_past i clauses le) all

-- a clause with a literal that is kept
pub one_kept : (values : List ℤ) (set : List ℕ) (clause : List Literal) (i : ℕ) (d : Literal) (b : Bool) → i < length clause → (IsTrue b ↔ IsKept values set (get_or clause i d)) → b ≡ true → (IsTrue true ↔ ClauseIsKept values set clause)
one_kept values set clause i d b lt exact e =
    (λ t. (get_or clause i d, (i, lt, get_or_default clause i (get_or clause i d) d lt), exact.0 e), λ h. refl)

-- and one without
pub none_is_kept : (values : List ℤ) (set : List ℕ) (clause : List Literal) (i : ℕ) → All (Fails values set) (take i clause) → length clause ≤ i → (IsTrue false ↔ ClauseIsKept values set clause)
none_is_kept values set clause i all le = (λ t. absurd (cc), λ h. absurd (none_kept values set clause i all le h))

-- a clause as the code reads it
module _ (values : List ℤ) (set : List ℕ) (clauses items : List (List Literal)) (i : ℕ) (clause given : List Literal) (b : Bool)
    (same_items : items ≡ clauses) (lt : i < length items) (is : clause ≡ get_or items i clause) (same : given ≡ clause) (exact : IsTrue b ↔ ClauseIsKept values set given) where
  within : i < length clauses
  within = subst (λ (cs : List (List Literal)). i < length cs) same_items lt

  given_is : given ≡ get_or clauses i clause
  given_is = same ∙ is ∙ ap (λ (cs : List (List Literal)). get_or cs i clause) same_items

  here : (IsTrue b → ClauseIsKept values set (get_or clauses i clause)) × (ClauseIsKept values set (get_or clauses i clause) → IsTrue b)
  here = subst (λ (c : List Literal). (IsTrue b → ClauseIsKept values set c) × (ClauseIsKept values set c → IsTrue b)) given_is exact

  pub one_more_kept : All (ClauseIsKept values set) (take i clauses) → b ≡ true → All (ClauseIsKept values set) (take (i + 1) clauses)
  one_more_kept all e = All-more (ClauseIsKept values set) clauses i clause within all (here.0 e)

  pub first_not_kept : All (ClauseIsKept values set) (take i clauses) → b ≡ false → IsFirstNotKept values set clauses i
  first_not_kept all e = record {
    within = within;
    before = all;
    fails = λ h. absurd (iff_false here e (subst (ClauseIsKept values set) (get_or_default clauses i [] clause within) h));
  }
