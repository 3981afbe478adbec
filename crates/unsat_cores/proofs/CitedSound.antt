-- What is cited of a problem doesn't hold.
use Rattle.std.proofs.Common.{arith, ◌≡◌, ℕ, zero, suc, ◌<◌, ◌+◌, ◌-◌, inl, inr, ◌⊎◌, List, [], ◌∷◌, length, map, take, get_or, true, false, Some, All, Contains, ℤ, subst, sym, ap, refl}
use Rattle.std.specs.Prelude.{slice_get}
use Rattle.std.specs.List.{list_any}
use Rattle.std.proofs.lemmas.List.Elements.{All-nil, All-cons, All-push, All-weaker, All-contains}
use Rattle.std.proofs.lemmas.Option.{slice_get-get_or}
use Rattle.stn_core.specs.declared.literal.Literal.{Literal}
use Rattle.stn_core.specs.Literal.{Holds, negation_of}
use Rattle.stn_core.specs.Cycle.{IsNegativeCycle}
use Rattle.stn_core.specs.Problem.{ClauseHolds}
use Rattle.refute_tree.specs.declared.step.Step.{Step}
use Rattle.refute_tree.specs.declared.step.Step.TheVariants.{Cycle, Input, Lemma as Earlier, Clash, Either}
use Rattle.refute_tree.specs.declared.lemma.Lemma.{Lemma}
use Rattle.refute_tree.specs.Trees.{clause_of, Tree, Forest, IsDenied, leaf, clash, cases, none, more, stated, IsRefutation}
use Rattle.unsat_cores.specs.Cited.{names_clause, cites_lemma, needed_from, cites_clause}
use Rattle.unsat_cores.proofs.Marks.{is_itself}
use Rattle.unsat_cores.proofs.NeededLemmas.{any_step, marked_at, last_needed, cited_needed}

-- the clause holds by its first literal, or by another
first_or_other : (values : List ℤ) (l : Literal) (clause : List Literal) → ClauseHolds values (l ∷ clause) → Holds values l ⊎ ClauseHolds values clause
first_or_other values l clause (m, (zero, lt, e), h) = inl (subst (Holds values) (sym e) h)
first_or_other values l clause (m, (suc k, lt, e), h) = inr (m, (k, omega arith, e), h)

by_first : (values : List ℤ) (l : Literal) (clause : List Literal) → Holds values l → ClauseHolds values (l ∷ clause)
by_first values l clause h = (l, (0, omega arith, refl), h)

by_other : (values : List ℤ) (l : Literal) (clause : List Literal) → ClauseHolds values clause → ClauseHolds values (l ∷ clause)
by_other values l clause h = (h.0, (suc h.1.0, omega (arith, h.1.1), h.1.2), h.2)

contains_negation : (clause : List Literal) (l : Literal) → Contains clause l → Contains (map negation_of clause) (negation_of l)
contains_negation [] l (k, lt, e) = absurd (omega arith)
contains_negation (m ∷ clause) l (zero, lt, e) = (zero, omega arith, ap negation_of e)
contains_negation (m ∷ clause) l (suc k, lt, e) =
    let rest = contains_negation clause l (k, omega arith, e) in
    (suc rest.0, omega (arith, rest.1), rest.2)

later : (s : Step) (steps : List Step) (x : Step) → Contains steps x → Contains (s ∷ steps) x
later s steps x (k, lt, e) = (suc k, omega (arith, lt), e)

first : (s : Step) (steps : List Step) → Contains (s ∷ steps) s
first s steps = (0, omega arith, refl)

-- what follows a tree is of its list
mutual
  tree_rest : {inputs lemmas : List (List Literal)} {assumed : List Literal} {steps rest : List Step} → Tree inputs lemmas assumed steps rest → (x : Step) → Contains rest x → Contains steps x
  tree_rest (leaf {cycle = cycle} {rest = rest} h) x c = later (Cycle cycle) rest x c
  tree_rest (clash {i = i} {rest = rest} e h) x c = later (Clash i) rest x c
  tree_rest (cases {step = step} {steps = steps} e f) x c = later step steps x (forest_rest f x c)

  forest_rest : {inputs lemmas : List (List Literal)} {assumed clause : List Literal} {steps rest : List Step} → Forest inputs lemmas assumed clause steps rest → (x : Step) → Contains rest x → Contains steps x
  forest_rest none x c = c
  forest_rest (more t f) x c = tree_rest t x (forest_rest f x c)

-- what the clause of an earlier lemma is
stated_at : (lemmas : List Lemma) (k j : ℕ) (clause : List Literal) → slice_get (map stated (take k lemmas)) j ≡ Some clause
    → (lemma : Lemma) × (slice_get lemmas j ≡ Some lemma) × (lemma.clause ≡ clause) × (j < k)
stated_at [] zero j clause e = absurd (cc)
stated_at [] (suc k) j clause e = absurd (cc)
stated_at (l ∷ lemmas) zero j clause e = absurd (cc)
stated_at (l ∷ lemmas) (suc k) zero clause e = (l, refl, (let s : l.clause ≡ clause = cc in s), omega arith)
stated_at (l ∷ lemmas) (suc k) (suc j) clause e =
    let h = stated_at lemmas k j clause e in
    (h.0, h.1, h.2, omega (arith, h.3))

module _ (values : List ℤ)
    (cycle_fails : (cycle : List Literal) → IsNegativeCycle cycle → All (Holds values) cycle → ⊥)
    (either : (l : Literal) → Holds values l ⊎ Holds values (negation_of l))
    (not_both : (l : Literal) → Holds values l → Holds values (negation_of l) → ⊥) where
  -- a denied clause doesn't hold
  denied_fails : (assumed clause : List Literal) → IsDenied assumed clause → All (Holds values) assumed → ClauseHolds values clause → ⊥
  denied_fails assumed clause h all (l, in_, holds) =
      let denied : Contains (map negation_of clause) (negation_of l) = contains_negation clause l in_ in
      let given : Contains assumed (negation_of l) = All-contains (Contains assumed) (map negation_of clause) (negation_of l) h denied in
      not_both l holds (All-contains (Holds values) assumed (negation_of l) all given)

  -- a clause holds, or all its literals' negations do
  holds_or_denied : (clause : List Literal) → ClauseHolds values clause ⊎ All (Holds values) (map negation_of clause)
  holds_or_denied [] = inr (All-nil (Holds values))
  holds_or_denied (l ∷ clause) = elim (either l) [
    | inl x ↦ inl (by_first values l clause x)
    | inr y ↦ elim (holds_or_denied clause) [
      | inl z ↦ inl (by_other values l clause z)
      | inr w ↦ inr (All-cons (Holds values) (negation_of l) (map negation_of clause) y w)
    ]
  ]

  -- the clauses that the steps open hold, and those that they deny
  record HoldAt (inputs lemmas : List (List Literal)) (steps : List Step) : Type 0 where
    pub opened : (s : Step) (clause : List Literal) → Contains steps s → clause_of inputs lemmas s ≡ Some clause → ClauseHolds values clause
    pub clashed : (i : ℕ) (clause : List Literal) → Contains steps (Clash i) → slice_get inputs i ≡ Some clause → ClauseHolds values clause

  fewer : {inputs lemmas : List (List Literal)} (steps rest : List Step) → ((x : Step) → Contains rest x → Contains steps x) → HoldAt inputs lemmas steps → HoldAt inputs lemmas rest
  fewer steps rest in_ h = record {
    opened = λ s clause c e. h.opened s clause (in_ s c) e;
    clashed = λ i clause c e. h.clashed i clause (in_ (Clash i) c) e;
  }

  mutual
    tree_fails : {inputs lemmas : List (List Literal)} {assumed : List Literal} {steps rest : List Step} → HoldAt inputs lemmas steps → Tree inputs lemmas assumed steps rest → All (Holds values) assumed → ⊥
    tree_fails a (leaf {assumed = assumed} {cycle = cycle} h) all =
        cycle_fails cycle h.negative (All-weaker (Contains assumed) (Holds values) (λ l c. All-contains (Holds values) assumed l all c) cycle h.given)
    tree_fails a (clash {assumed = assumed} {clause = clause} {i = i} {rest = rest} e h) all =
        denied_fails assumed clause h all (a.clashed i clause (first (Clash i) rest) e)
    tree_fails a (cases {clause = clause} {step = step} {steps = steps} e f) all =
        forest_fails (fewer (step ∷ steps) steps (λ x c. later step steps x c) a) f all (a.opened step clause (first step steps) e)

    forest_fails : {inputs lemmas : List (List Literal)} {assumed clause : List Literal} {steps rest : List Step} → HoldAt inputs lemmas steps → Forest inputs lemmas assumed clause steps rest → All (Holds values) assumed → ClauseHolds values clause → ⊥
    forest_fails a none all h = absurd (omega (arith, h.1.1))
    forest_fails a (more {assumed = assumed} {clause = clause} {l = l} {steps = steps} {others = others} t f) all h = elim (either l) [
      | inl x ↦ tree_fails a t (All-push (Holds values) assumed l all x)
      | inr y ↦ elim (first_or_other values l clause h) [
        | inl x ↦ tree_fails a t (All-push (Holds values) assumed l all x)
        | inr z ↦ forest_fails (fewer steps others (λ x c. tree_rest t x c) a) f (All-push (Holds values) assumed (negation_of l) all y) z
      ]
    ]

  module _ (points : ℕ) (clauses : List (List Literal)) (lemmas : List Lemma) (refutes : IsRefutation points clauses lemmas)
      (holds : (i : ℕ) (clause : List Literal) → cites_clause lemmas i ≡ true → slice_get clauses i ≡ Some clause → ClauseHolds values clause) where
    IsNeeded : ℕ → Type 0
    IsNeeded k = get_or (needed_from 0 lemmas) k false ≡ true

    -- a clause that a needed lemma names
    named_holds : (k : ℕ) (lemma : Lemma) → slice_get lemmas k ≡ Some lemma → IsNeeded k
        → (x : Step) (i : ℕ) (clause : List Literal) → Contains lemma.steps x → names_clause i x ≡ true → slice_get clauses i ≡ Some clause → ClauseHolds values clause
    unfolding IsNeeded
    named_holds k lemma at needed x i clause c names e =
        holds i clause (marked_at (names_clause i) k lemma (needed_from 0 lemmas) lemmas at needed (any_step (names_clause i) lemma.steps x c names)) e

    -- the clauses that the steps of a needed lemma open hold, where those of the lemmas before it do
    opens : (k : ℕ) (lemma : Lemma) → slice_get lemmas k ≡ Some lemma → IsNeeded k
        → ((j : ℕ) (other : Lemma) → j < k → slice_get lemmas j ≡ Some other → IsNeeded j → ClauseHolds values other.clause)
        → (s : Step) (clause : List Literal) → Contains lemma.steps s → clause_of clauses (map stated (take k lemmas)) s ≡ Some clause → ClauseHolds values clause
    unfolding IsNeeded
    opens k lemma at needed before (Cycle cycle) clause c e = absurd (cc)
    opens k lemma at needed before (Input i) clause c e = named_holds k lemma at needed (Input i) i clause c (is_itself i) e
    opens k lemma at needed before (Earlier j) clause c e =
        let h = stated_at lemmas k j clause e in
        let here : j ≡ 0 + j = omega arith in
        let cites : list_any (cites_lemma (0 + j)) lemma.steps ≡ true = subst (λ (i : ℕ). list_any (cites_lemma i) lemma.steps ≡ true) here (any_step (cites_lemma j) lemma.steps (Earlier j) c (is_itself j)) in
        subst (ClauseHolds values) h.2 (before j h.0 h.3 h.1 (cited_needed 0 lemmas k j lemma at needed h.3 cites))
    opens k lemma at needed before (Clash i) clause c e = absurd (cc)
    opens k lemma at needed before (Either l) clause c e =
        let s : (l ∷ negation_of l ∷ []) ≡ clause = cc in
        subst (ClauseHolds values) s (elim (either l) [ inl h ↦ by_first values l (negation_of l ∷ []) h | inr h ↦ by_other values l (negation_of l ∷ []) (by_first values (negation_of l) [] h) ])

    -- the clause of a lemma that the last one needs
    needed_holds : (fuel k : ℕ) (lemma : Lemma) → k < fuel → slice_get lemmas k ≡ Some lemma → IsNeeded k → ClauseHolds values lemma.clause
    needed_holds zero k lemma lt at needed = absurd (omega arith)
    needed_holds (suc fuel) k lemma lt at needed =
        let here : HoldAt clauses (map stated (take k lemmas)) lemma.steps = record {
          opened = opens k lemma at needed (λ j other less there is. needed_holds fuel j other (omega arith) there is);
          clashed = λ i clause c e. named_holds k lemma at needed (Clash i) i clause c (is_itself i) e;
        } in
        elim (holds_or_denied lemma.clause) [
          | inl h ↦ h
          | inr all ↦ absurd (tree_fails here (refutes.each k lemma at).tree all)
        ]

    pub cited_sound : ⊥
    unfolding IsNeeded
    cited_sound =
        let none_ : Lemma = record { clause = []; steps = [] } in
        let some = refutes.some in
        let lt : length lemmas - 1 < length lemmas = omega arith in
        let lemma : Lemma = get_or lemmas (length lemmas - 1) none_ in
        let at = slice_get-get_or lemmas (length lemmas - 1) none_ lt in
        let last : suc (length lemmas - 1) ≡ length lemmas = omega arith in
        let held = needed_holds (length lemmas) (length lemmas - 1) lemma lt at (last_needed 0 lemmas (length lemmas - 1) last) in
        let h : ClauseHolds values [] = subst (ClauseHolds values) (refutes.last lemma at) held in
        absurd (omega (arith, h.1.1))
