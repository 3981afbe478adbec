-- What has a refutation holds on no values.
use Rattle.std.proofs.Common.{arith, ◌≡◌, ℕ, zero, suc, ◌<◌, ◌≤◌, ◌+◌, ◌-◌, inl, inr, ◌⊎◌, List, [], ◌∷◌, length, map, take, get_or, Some, All, Contains, ℤ, subst, sym, ap, refl}
use Rattle.std.specs.Prelude.{slice_get}
use Rattle.std.proofs.lemmas.List.Elements.{All-nil, All-cons, All-push, All-weaker, All-contains, All-map, All-more}
use Rattle.std.proofs.lemmas.Option.{slice_get-get_or}
use Rattle.stn_core.specs.declared.literal.Literal.{Literal}
use Rattle.stn_core.specs.Literal.{Holds, negation_of}
use Rattle.stn_core.specs.Cycle.{IsNegativeCycle}
use Rattle.stn_core.specs.Problem.{ClauseHolds, ProblemHolds}
use Rattle.refute_tree.specs.declared.step.Step.{Step}
use Rattle.refute_tree.specs.declared.step.Step.TheVariants.{Cycle, Input, Lemma as Earlier, Clash, Either}
use Rattle.refute_tree.specs.declared.lemma.Lemma.{Lemma}
use Rattle.refute_tree.specs.Trees.{clause_of, Tree, Forest, IsDenied, leaf, clash, cases, none, more, IsRefuted, stated, IsRefutation}

clause_at : (values : List ℤ) (clauses : List (List Literal)) (i : ℕ) (clause : List Literal) → ProblemHolds values clauses → slice_get clauses i ≡ Some clause → ClauseHolds values clause
clause_at values [] i clause h e = absurd (cc)
clause_at values (c ∷ cs) zero clause h e = let s : c ≡ clause = cc in subst (ClauseHolds values) s (h 0 c (omega arith))
clause_at values (c ∷ cs) (suc i) clause h e = clause_at values cs i clause (λ k d lt. h (suc k) d (omega arith)) e

-- the clause holds by its first literal, or by another
first_or_other : (values : List ℤ) (l : Literal) (clause : List Literal) → ClauseHolds values (l ∷ clause) → Holds values l ⊎ ClauseHolds values clause
first_or_other values l clause (m, (zero, lt, e), h) = inl (subst (Holds values) (sym e) h)
first_or_other values l clause (m, (suc k, lt, e), h) = inr (m, (k, omega arith, e), h)

by_first : (values : List ℤ) (l : Literal) (clause : List Literal) → Holds values l → ClauseHolds values (l ∷ clause)
by_first values l clause h = (l, (0, omega arith, refl), h)

by_other : (values : List ℤ) (l : Literal) (clause : List Literal) → ClauseHolds values clause → ClauseHolds values (l ∷ clause)
by_other values l clause h = (h.0, (suc h.1.0, omega (arith, h.1.1), h.1.2), h.2)

contains_negation : (clause : List Literal) (l : Literal) → Contains clause l → Contains (map negation_of clause) (negation_of l)
contains_negation [] l (k, lt, e) = absurd (omega arith)
contains_negation (m ∷ clause) l (zero, lt, e) = (zero, omega arith, ap negation_of e)
contains_negation (m ∷ clause) l (suc k, lt, e) =
    let rest = contains_negation clause l (k, omega arith, e) in
    (suc rest.0, omega (arith, rest.1), rest.2)

module _ (values : List ℤ)
    (cycle_fails : (cycle : List Literal) → IsNegativeCycle cycle → All (Holds values) cycle → ⊥)
    (either : (l : Literal) → Holds values l ⊎ Holds values (negation_of l))
    (not_both : (l : Literal) → Holds values l → Holds values (negation_of l) → ⊥) where
  opened_holds : (inputs lemmas : List (List Literal)) (s : Step) (clause : List Literal) → ProblemHolds values inputs → ProblemHolds values lemmas → clause_of inputs lemmas s ≡ Some clause → ClauseHolds values clause
  opened_holds inputs lemmas (Cycle cycle) clause a b e = absurd (cc)
  opened_holds inputs lemmas (Input i) clause a b e = clause_at values inputs i clause a e
  opened_holds inputs lemmas (Earlier j) clause a b e = clause_at values lemmas j clause b e
  opened_holds inputs lemmas (Clash i) clause a b e = absurd (cc)
  opened_holds inputs lemmas (Either l) clause a b e =
      let s : (l ∷ negation_of l ∷ []) ≡ clause = cc in
      subst (ClauseHolds values) s (elim (either l) [ inl h ↦ by_first values l (negation_of l ∷ []) h | inr h ↦ by_other values l (negation_of l ∷ []) (by_first values (negation_of l) [] h) ])

  -- a denied clause doesn't hold
  denied_fails : (assumed clause : List Literal) → IsDenied assumed clause → All (Holds values) assumed → ClauseHolds values clause → ⊥
  denied_fails assumed clause h all (l, in_, holds) =
      let denied : Contains (map negation_of clause) (negation_of l) = contains_negation clause l in_ in
      let given : Contains assumed (negation_of l) = All-contains (Contains assumed) (map negation_of clause) (negation_of l) h denied in
      not_both l holds (All-contains (Holds values) assumed (negation_of l) all given)

  mutual
    tree_sound : {inputs lemmas : List (List Literal)} {assumed : List Literal} {steps rest : List Step} → ProblemHolds values inputs → ProblemHolds values lemmas → Tree inputs lemmas assumed steps rest → All (Holds values) assumed → ⊥
    tree_sound a b (leaf {assumed = assumed} {cycle = cycle} h) all =
        cycle_fails cycle h.negative (All-weaker (Contains assumed) (Holds values) (λ l c. All-contains (Holds values) assumed l all c) cycle h.given)
    tree_sound a b (clash {assumed = assumed} {clause = clause} {i = i} e h) all = denied_fails assumed clause h all (clause_at values _ i clause a e)
    tree_sound {inputs} {lemmas} a b (cases {clause = clause} {step = step} e f) all = forest_sound a b f all (opened_holds inputs lemmas step clause a b e)

    forest_sound : {inputs lemmas : List (List Literal)} {assumed clause : List Literal} {steps rest : List Step} → ProblemHolds values inputs → ProblemHolds values lemmas → Forest inputs lemmas assumed clause steps rest → All (Holds values) assumed → ClauseHolds values clause → ⊥
    forest_sound a b none all h = absurd (omega (arith, h.1.1))
    forest_sound a b (more {assumed = assumed} {clause = clause} {l = l} t f) all h = elim (either l) [
      | inl x ↦ tree_sound a b t (All-push (Holds values) assumed l all x)
      | inr y ↦ elim (first_or_other values l clause h) [
        | inl x ↦ tree_sound a b t (All-push (Holds values) assumed l all x)
        | inr z ↦ forest_sound a b f (All-push (Holds values) assumed (negation_of l) all y) z
      ]
    ]

  -- a clause holds, or all its literals' negations do
  holds_or_denied : (clause : List Literal) → ClauseHolds values clause ⊎ All (Holds values) (map negation_of clause)
  holds_or_denied [] = inr (All-nil (Holds values))
  holds_or_denied (l ∷ clause) = elim (either l) [
    | inl x ↦ inl (by_first values l clause x)
    | inr y ↦ elim (holds_or_denied clause) [
      | inl z ↦ inl (by_other values l clause z)
      | inr w ↦ inr (All-cons (Holds values) (negation_of l) (map negation_of clause) y w)
    ]
  ]

  -- a refuted lemma's clause holds where the problem and the clauses before it do
  lemma_holds : (points : ℕ) (clauses earlier : List (List Literal)) (lemma : Lemma) → ProblemHolds values clauses → ProblemHolds values earlier → IsRefuted points clauses earlier lemma → ClauseHolds values lemma.clause
  lemma_holds points clauses earlier lemma a b r = elim (holds_or_denied lemma.clause) [
    | inl h ↦ h
    | inr all ↦ absurd (tree_sound a b r.tree all)
  ]

  abbrev StatedHolds : Lemma → Type 0
  StatedHolds lemma = ClauseHolds values lemma.clause

  lemmas_hold : (points : ℕ) (clauses : List (List Literal)) (lemmas : List Lemma) (none_ : Lemma) → ProblemHolds values clauses → IsRefutation points clauses lemmas → (j : ℕ) → j ≤ length lemmas → All StatedHolds (take j lemmas)
  lemmas_hold points clauses lemmas none_ a r zero le = All-nil StatedHolds
  lemmas_hold points clauses lemmas none_ a r (suc j) le =
      let before = lemmas_hold points clauses lemmas none_ a r j (omega arith) in
      let lt : j < length lemmas = omega arith in
      let lemma : Lemma = get_or lemmas j none_ in
      let held = lemma_holds points clauses (map stated (take j lemmas)) lemma a (All-map (ClauseHolds values) stated (take j lemmas) before) (r.each j lemma (slice_get-get_or lemmas j none_ lt)) in
      let all : All StatedHolds (take (j + 1) lemmas) = All-more StatedHolds lemmas j none_ lt before held in
      let next : j + 1 ≡ suc j = omega arith in
      subst (λ (k : ℕ). All StatedHolds (take k lemmas)) next all

  pub refutation_sound : (points : ℕ) (clauses : List (List Literal)) (lemmas : List Lemma) → IsRefutation points clauses lemmas → ProblemHolds values clauses → ⊥
  refutation_sound points clauses lemmas r a =
      let none_ : Lemma = record { clause = []; steps = [] } in
      let some = r.some in
      let lt : length lemmas - 1 < length lemmas = omega arith in
      let lemma : Lemma = get_or lemmas (length lemmas - 1) none_ in
      let is = slice_get-get_or lemmas (length lemmas - 1) none_ lt in
      let all = lemmas_hold points clauses lemmas none_ a r (length lemmas - 1) (omega arith) in
      let held = lemma_holds points clauses (map stated (take (length lemmas - 1) lemmas)) lemma a (All-map (ClauseHolds values) stated (take (length lemmas - 1) lemmas) all) (r.each (length lemmas - 1) lemma is) in
      let h : ClauseHolds values [] = subst (ClauseHolds values) (r.last lemma is) held in
      absurd (omega (arith, h.1.1))
