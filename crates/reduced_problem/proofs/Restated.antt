-- A refutation of the reduced problem refutes the other.
use Rattle.std.proofs.Common.{arith, ◌⊎◌, inl, inr, ◌≡◌, ◌<◌, ◌≤◌, ◌+◌, ◌-◌, ◌^◌, ℕ, zero, suc, List, [], ◌∷◌, ◌++◌, length, map, take, Some, None, All, get_or, refl, sym, ap, subst, ◌∙◌, append_assoc, append-nil, length-append}
use Rattle.std.specs.Prelude.{slice_get}
use Rattle.std.proofs.lemmas.List.{length-map}
use Rattle.std.proofs.lemmas.List.Elements.{All-nil, All-cons, All-head, All-tail, All-append}
use Rattle.std.proofs.lemmas.Option.{slice_get_within, slice_get-get_or, get_or_from_slice_get}
use Rattle.stn_core.specs.declared.literal.Literal.{Literal}
use Rattle.stn_core.specs.declared.problem.Problem.{Problem}
use Rattle.stn_core.specs.Literal.{IsOver}
use Rattle.refute_tree.specs.declared.step.Step.{Step}
use Rattle.refute_tree.specs.declared.step.Step.TheVariants.{Cycle, Input, Lemma as Earlier, Clash, Either}
use Rattle.refute_tree.specs.declared.lemma.Lemma.{Lemma}
use Rattle.refute_tree.specs.Lengths.{pair_step}
use Rattle.refute_tree.specs.Trees.{clause_of, Tree, Forest, IsDenied, leaf, clash, cases, none, more, IsOnPoints, literals_named, IsRefuted, IsRefutation, stated}
use Rattle.refute_tree.specs.Batches.{AreRefuted, LemmaIsOver, LemmaRefersBelow, JoinedLaw}
use Rattle.refute_tree.proofs.Lengthened.{pairs_forest}
use Rattle.refute_tree.proofs.Numbered.{each_refuted, refuted_each}
use Rattle.refute_tree.proofs.References.{all_below}
use Rattle.atom_elimination.specs.declared.derivation.Origin.{Origin}
use Rattle.atom_elimination.specs.declared.derivation.Origin.TheVariants.{Input as Given, Lemma as Derived}
use Rattle.more_inputs.specs.Laws.{MoreInputsRefuteEach}
use Rattle.reduced_problem.specs.Reduced.{IsFrom, AreFrom, Reduced, IsReductionOf}
use Rattle.reduced_problem.specs.code.Restating.{origin_at, opened_by, closed_by, restated_step, restated, restated_lemma}

-- ---- lists, one behind the other

behind : {X : Type 0} (xs ys : List X) (j : ℕ) → slice_get (xs ++ ys) (length xs + j) ≡ slice_get ys j
behind [] ys j = ap (slice_get ys) (omega arith)
behind (x ∷ xs) ys j =
    let next : length (x ∷ xs) + j ≡ suc (length xs + j) = omega arith in
    ap (slice_get (x ∷ (xs ++ ys))) next ∙ behind xs ys j

still_there : {X : Type 0} (xs ys : List X) (j : ℕ) (x : X) → slice_get xs j ≡ Some x → slice_get (xs ++ ys) j ≡ Some x
still_there [] ys j x e = absurd (cc)
still_there (y ∷ xs) ys zero x e = e
still_there (y ∷ xs) ys (suc j) x e = still_there xs ys j x e

mapped_get : (f : Lemma → Lemma) (xs : List Lemma) (k : ℕ) (y : Lemma) → slice_get (map f xs) k ≡ Some y → (x : Lemma) × (slice_get xs k ≡ Some x) × (f x ≡ y)
mapped_get f [] k y e = absurd (cc)
mapped_get f (x ∷ xs) zero y e = (x, refl, cc)
mapped_get f (x ∷ xs) (suc k) y e = mapped_get f xs k y e

-- ---- trees

module _ (inputs : List (List Literal)) (lemmas : List Lemma) (origins : List Origin) (clauses : List (List Literal)) (from : AreFrom inputs lemmas origins clauses) where
  origin_of : (i : ℕ) (clause : List Literal) → slice_get clauses i ≡ Some clause → IsFrom inputs lemmas (origin_at origins i) clause
  origin_of i clause e =
      let lt : i < length origins = omega (arith, from.one_each, slice_get_within clauses i clause e) in
      from.each i (get_or origins i (Given i)) clause (slice_get-get_or origins i (Given i) lt) e

  module _ (known : List (List Literal)) where
    opened : (o : Origin) (clause : List Literal) → IsFrom inputs lemmas o clause → clause_of inputs (map stated lemmas ++ known) (opened_by o) ≡ Some clause
    opened (Given i) clause h = h
    opened (Derived j) clause h = still_there (map stated lemmas) known j clause h

    closed : (o : Origin) (clause assumed : List Literal) (rest : List Step) → IsFrom inputs lemmas o clause → IsDenied assumed clause
        → Tree inputs (map stated lemmas ++ known) assumed (closed_by o clause ++ rest) rest
    closed (Given i) clause assumed rest h d = clash h d
    closed (Derived j) clause assumed rest h d =
        cases (still_there (map stated lemmas) known j clause h) (pairs_forest inputs (map stated lemmas ++ known) assumed clause rest d)

    cited : (j : ℕ) (clause : List Literal) → slice_get known j ≡ Some clause → slice_get (map stated lemmas ++ known) (length lemmas + j) ≡ Some clause
    cited j clause e =
        ap (λ (n : ℕ). slice_get (map stated lemmas ++ known) (n + j)) (sym (length-map lemmas stated)) ∙ behind (map stated lemmas) known j ∙ e

    opened_tree : (assumed clause : List Literal) (step : Step) (steps rest : List Step) → clause_of clauses known step ≡ Some clause
        → Forest inputs (map stated lemmas ++ known) assumed clause (restated origins clauses (length lemmas) steps) (restated origins clauses (length lemmas) rest)
        → Tree inputs (map stated lemmas ++ known) assumed (restated origins clauses (length lemmas) (step ∷ steps)) (restated origins clauses (length lemmas) rest)
    opened_tree assumed clause (Cycle cycle) steps rest e f = absurd (cc)
    opened_tree assumed clause (Input i) steps rest e f = cases (opened (origin_at origins i) clause (origin_of i clause e)) f
    opened_tree assumed clause (Earlier j) steps rest e f = cases (cited j clause e) f
    opened_tree assumed clause (Clash i) steps rest e f = absurd (cc)
    opened_tree assumed clause (Either l) steps rest e f = cases e f

    mutual
      tree_restated : {assumed : List Literal} {steps rest : List Step} → Tree clauses known assumed steps rest
          → Tree inputs (map stated lemmas ++ known) assumed (restated origins clauses (length lemmas) steps) (restated origins clauses (length lemmas) rest)
      tree_restated (leaf h) = leaf h
      tree_restated (clash {assumed = assumed} {clause = clause} {i = i} {rest = rest} e h) =
          subst (λ (c : List Literal). Tree inputs (map stated lemmas ++ known) assumed (closed_by (origin_at origins i) c ++ restated origins clauses (length lemmas) rest) (restated origins clauses (length lemmas) rest))
          (sym (get_or_from_slice_get clauses i clause [] e))
          (closed (origin_at origins i) clause assumed (restated origins clauses (length lemmas) rest) (origin_of i clause e) h)
      tree_restated (cases {assumed = assumed} {clause = clause} {step = step} {steps = steps} {rest = rest} e f) =
          opened_tree assumed clause step steps rest e (forest_restated f)

      forest_restated : {assumed clause : List Literal} {steps rest : List Step} → Forest clauses known assumed clause steps rest
          → Forest inputs (map stated lemmas ++ known) assumed clause (restated origins clauses (length lemmas) steps) (restated origins clauses (length lemmas) rest)
      forest_restated none = none
      forest_restated (more t f) = more (tree_restated t) (forest_restated f)

-- ---- what steps name

module _ (P : Literal → Type 0) (origins : List Origin) (clauses : List (List Literal)) (base : ℕ) where
  Names : Step → Type 0
  Names s = All P (literals_named s)

  opened_names : (o : Origin) → Names (opened_by o)
  unfolding Names
  opened_names (Given i) = All-nil P
  opened_names (Derived j) = All-nil P

  pairs_name : (clause : List Literal) → All Names (map pair_step clause)
  unfolding Names
  pairs_name [] = All-nil Names
  pairs_name (l ∷ clause) = All-cons Names (pair_step l) (map pair_step clause) (All-nil P) (pairs_name clause)

  closed_names : (o : Origin) (clause : List Literal) → All Names (closed_by o clause)
  unfolding Names
  closed_names (Given i) clause = All-cons Names (Clash i) [] (All-nil P) (All-nil Names)
  closed_names (Derived j) clause = All-cons Names (Earlier j) (map pair_step clause) (All-nil P) (pairs_name clause)

  step_names : (s : Step) → Names s → All Names (restated_step origins clauses base s)
  unfolding Names
  step_names (Cycle cycle) h = All-cons Names (Cycle cycle) [] h (All-nil Names)
  step_names (Input i) h = All-cons Names (opened_by (origin_at origins i)) [] (opened_names (origin_at origins i)) (All-nil Names)
  step_names (Earlier j) h = All-cons Names (Earlier (base + j)) [] (All-nil P) (All-nil Names)
  step_names (Clash i) h = closed_names (origin_at origins i) (get_or clauses i [])
  step_names (Either l) h = All-cons Names (Either l) [] h (All-nil Names)

  all_named : (steps : List Step) → All Names steps → All Names (restated origins clauses base steps)
  all_named [] h = All-nil Names
  all_named (s ∷ steps) h =
      All-append Names (restated_step origins clauses base s) (restated origins clauses base steps)
      (step_names s (All-head Names s steps h)) (all_named steps (All-tail Names s steps h))

  pub named : (steps : List Step) → All (λ s. All P (literals_named s)) steps → All (λ s. All P (literals_named s)) (restated origins clauses base steps)
  unfolding Names
  named steps h = all_named steps h

-- ---- lemmas

module _ (inputs : List (List Literal)) (lemmas : List Lemma) (origins : List Origin) (clauses : List (List Literal)) (from : AreFrom inputs lemmas origins clauses) (points : ℕ) where
  one_refuted : (known : List (List Literal)) (lemma : Lemma) → IsRefuted points clauses known lemma
      → IsRefuted points inputs (map stated lemmas ++ known) (restated_lemma origins clauses (length lemmas) lemma)
  one_refuted known lemma r = record {
    clause = r.clause;
    steps = named (IsOnPoints points) origins clauses (length lemmas) lemma.steps r.steps;
    tree = tree_restated inputs lemmas origins clauses from known r.tree;
  }

  all_refuted : (known : List (List Literal)) (others : List Lemma) → AreRefuted points clauses known others
      → AreRefuted points inputs (map stated lemmas ++ known) (map (restated_lemma origins clauses (length lemmas)) others)
  all_refuted known [] h = tt
  all_refuted known (l ∷ others) h = (
    one_refuted known l h.0,
    subst (λ (cs : List (List Literal)). AreRefuted points inputs cs (map (restated_lemma origins clauses (length lemmas)) others))
        (sym (append_assoc (map stated lemmas) known (l.clause ∷ [])))
        (all_refuted (known ++ l.clause ∷ []) others h.1),
  )

each_over : (points : ℕ) (origins : List Origin) (clauses : List (List Literal)) (base : ℕ) (others : List Lemma)
    → All (LemmaIsOver points) others → All (LemmaIsOver points) (map (restated_lemma origins clauses base) others)
each_over points origins clauses base [] h = All-nil (LemmaIsOver points)
each_over points origins clauses base (l ∷ others) h =
    let one = All-head (LemmaIsOver points) l others h in
    All-cons (LemmaIsOver points) (restated_lemma origins clauses base l) (map (restated_lemma origins clauses base) others)
    (record { clause = one.clause; steps = named (IsOver points) origins clauses base l.steps one.steps })
    (each_over points origins clauses base others (All-tail (LemmaIsOver points) l others h))

-- lemmas that are refuted one after the other, of which the last has no literals
refutes : (points : ℕ) (clauses : List (List Literal)) (xs ys : List Lemma) → AreRefuted points clauses [] (xs ++ ys) → 0 < length ys
    → ((lemma : Lemma) → slice_get ys (length ys - 1) ≡ Some lemma → lemma.clause ≡ []) → IsRefutation points clauses (xs ++ ys)
refutes points clauses xs ys h some last = record {
  some = omega (arith, length-append xs ys, some);
  each = λ j lemma at. each_refuted points clauses [] (xs ++ ys) h j lemma at;
  last = λ lemma at.
      let place : length xs + (length ys - 1) ≡ length (xs ++ ys) - 1 = omega (arith, length-append xs ys, some) in
      last lemma (sym (behind xs ys (length ys - 1)) ∙ ap (slice_get (xs ++ ys)) place ∙ at);
}

last_restated : (origins : List Origin) (clauses : List (List Literal)) (base : ℕ) (others : List Lemma)
    → ((lemma : Lemma) → slice_get others (length others - 1) ≡ Some lemma → lemma.clause ≡ [])
    → (lemma : Lemma) → slice_get (map (restated_lemma origins clauses base) others) (length (map (restated_lemma origins clauses base) others) - 1) ≡ Some lemma → lemma.clause ≡ []
last_restated origins clauses base others last lemma at =
    let f : Lemma → Lemma = restated_lemma origins clauses base in
    let same : length (map f others) ≡ length others = length-map others f in
    let found = mapped_get f others (length others - 1) lemma (ap (λ (n : ℕ). slice_get (map f others) (n - 1)) (sym same) ∙ at) in
    ap (λ (l : Lemma). l.clause) (sym found.2) ∙ last found.0 found.1

-- a refutation as lemmas one after the other
in_order : (points : ℕ) (clauses : List (List Literal)) (others : List Lemma) → IsRefutation points clauses others → AreRefuted points clauses [] others
in_order points clauses others r = refuted_each points clauses [] others (λ k lemma at. r.each k lemma at)

behind_none : (n : ℕ) → 0 + n ≡ n
behind_none n = omega arith

-- lemmas over these clauses, and behind them a refutation of the clauses that come from there
module _ (joined : JoinedLaw) (points : ℕ) (inputs : List (List Literal)) (lemmas : List Lemma) (origins : List Origin) (clauses : List (List Literal))
    (from : AreFrom inputs lemmas origins clauses) (others : List Lemma) where
  moved : List Lemma
  moved = map (restated_lemma origins clauses (length lemmas)) others

  both_refuted : AreRefuted points inputs [] lemmas → IsRefutation points clauses others → AreRefuted points inputs [] (lemmas ++ moved)
  unfolding moved
  both_refuted first refutation =
      let all : AreRefuted points inputs (map stated lemmas ++ []) moved = all_refuted inputs lemmas origins clauses from points [] others (in_order points clauses others refutation) in
      joined points inputs [] lemmas moved first (subst (λ (cs : List (List Literal)). AreRefuted points inputs cs moved) (append-nil (map stated lemmas)) all)

  refutes_inputs : AreRefuted points inputs [] lemmas → IsRefutation points clauses others → IsRefutation points inputs (lemmas ++ map (restated_lemma origins clauses (length lemmas)) others)
  unfolding moved
  refutes_inputs first refutation =
      let f : Lemma → Lemma = restated_lemma origins clauses (length lemmas) in
      refutes points inputs lemmas moved (both_refuted first refutation) (omega (arith, length-map others f, refutation.some))
      (last_restated origins clauses (length lemmas) others refutation.last)

  are_over : All (LemmaIsOver points) lemmas → All (LemmaIsOver points) others → All (LemmaIsOver points) (lemmas ++ map (restated_lemma origins clauses (length lemmas)) others)
  are_over first over =
      All-append (LemmaIsOver points) lemmas (map (restated_lemma origins clauses (length lemmas)) others) first
      (each_over points origins clauses (length lemmas) others over)

-- what is refuted, and within the limits
abbrev pub Refutes : ℕ → List (List Literal) → List Lemma → Type 0
Refutes points clauses lemmas = IsRefutation points clauses lemmas × All (LemmaIsOver points) lemmas

pub refutes_problem : (joined : JoinedLaw) (problem : Problem) (r : Reduced) → IsReductionOf problem r → (others : List Lemma) → Refutes r.problem.points r.problem.clauses others
    → Refutes problem.points problem.clauses (r.lemmas ++ map (restated_lemma r.origins r.problem.clauses (length r.lemmas)) others)
refutes_problem joined problem r h others right =
    let own : Refutes problem.points r.problem.clauses others = subst (λ (n : ℕ). Refutes n r.problem.clauses others) h.points right in (
      refutes_inputs joined problem.points problem.clauses r.lemmas r.origins r.problem.clauses h.from others h.opening.refuted own.0,
      are_over joined problem.points problem.clauses r.lemmas r.origins r.problem.clauses h.from others h.opening.over own.1,
    )

-- ---- with one clause more

pushed_get : {X : Type 0} (xs : List X) (x y : X) (i : ℕ) → slice_get (xs ++ x ∷ []) i ≡ Some y → (slice_get xs i ≡ Some y) ⊎ ((i ≡ length xs) × (x ≡ y))
pushed_get [] x y zero e = inr (refl, cc)
pushed_get [] x y (suc i) e = absurd (cc)
pushed_get (z ∷ xs) x y zero e = inl e
pushed_get (z ∷ xs) x y (suc i) e = elim (pushed_get xs x y i e) [
  | inl a ↦ inl a
  | inr b ↦ inr (omega (arith, b.0), b.1)
]

at_end : {X : Type 0} (xs : List X) (x : X) → slice_get (xs ++ x ∷ []) (length xs) ≡ Some x
at_end [] x = refl
at_end (y ∷ xs) x = at_end xs x

is_from_more : (inputs later : List (List Literal)) (lemmas : List Lemma) (o : Origin) (clause : List Literal) → IsFrom inputs lemmas o clause → IsFrom (inputs ++ later) lemmas o clause
is_from_more inputs later lemmas (Given i) clause h = still_there inputs later i clause h
is_from_more inputs later lemmas (Derived j) clause h = h

module _ (inputs : List (List Literal)) (lemmas : List Lemma) (origins : List Origin) (clauses : List (List Literal)) (more_clause : List Literal) (from : AreFrom inputs lemmas origins clauses) where
  one_more : (i : ℕ) (origin : Origin) (clause : List Literal)
      → slice_get (origins ++ Given (length inputs) ∷ []) i ≡ Some origin → slice_get (clauses ++ more_clause ∷ []) i ≡ Some clause
      → IsFrom (inputs ++ more_clause ∷ []) lemmas origin clause
  one_more i origin clause at_origin at_clause = elim (pushed_get origins (Given (length inputs)) origin i at_origin) [
    | inl a ↦ elim (pushed_get clauses more_clause clause i at_clause) [
      | inl b ↦ is_from_more inputs (more_clause ∷ []) lemmas origin clause (from.each i origin clause a b)
      | inr b ↦ absurd (omega (arith, from.one_each, slice_get_within origins i origin a, b.0))
    ]
    | inr a ↦ elim (pushed_get clauses more_clause clause i at_clause) [
      | inl b ↦ absurd (omega (arith, from.one_each, slice_get_within clauses i clause b, a.0))
      | inr b ↦ subst (λ (o : Origin). IsFrom (inputs ++ more_clause ∷ []) lemmas o clause) a.1 (at_end inputs more_clause ∙ ap (λ (c : List Literal). Some c) b.1)
    ]
  ]

  from_more : AreFrom (inputs ++ more_clause ∷ []) lemmas (origins ++ Given (length inputs) ∷ []) (clauses ++ more_clause ∷ [])
  from_more = record {
    one_each = omega (arith, length-append origins (Given (length inputs) ∷ []), length-append clauses (more_clause ∷ []), from.one_each);
    each = one_more;
  }

pub refutes_below : (joined : JoinedLaw) (wider : MoreInputsRefuteEach) (problem : Problem) (r : Reduced) → IsReductionOf problem r → (more_clause : List Literal) (others : List Lemma)
    → Refutes r.problem.points (r.problem.clauses ++ more_clause ∷ []) others
    → Refutes problem.points (problem.clauses ++ more_clause ∷ [])
    (r.lemmas ++ map (restated_lemma (r.origins ++ Given (length problem.clauses) ∷ []) (r.problem.clauses ++ more_clause ∷ []) (length r.lemmas)) others)
refutes_below joined wider problem r h more_clause others right =
    let clauses = r.problem.clauses ++ more_clause ∷ [] in
    let inputs = problem.clauses ++ more_clause ∷ [] in
    let origins = r.origins ++ Given (length problem.clauses) ∷ [] in
    let own : Refutes problem.points (r.problem.clauses ++ more_clause ∷ []) others = subst (λ (n : ℕ). Refutes n (r.problem.clauses ++ more_clause ∷ []) others) h.points right in
    let from = from_more problem.clauses r.lemmas r.origins r.problem.clauses more_clause h.from in
    let first = wider problem.points problem.clauses (more_clause ∷ []) [] r.lemmas h.opening.refuted in (
      refutes_inputs joined problem.points inputs r.lemmas origins clauses from others first own.0,
      are_over joined problem.points inputs r.lemmas origins clauses from others h.opening.over own.1,
    )

-- lemmas of a refutation cite those of it
pub refer_within : (points : ℕ) (clauses : List (List Literal)) (others : List Lemma) → IsRefutation points clauses others → All (LemmaRefersBelow (length others)) others
refer_within points clauses others r =
    subst (λ (n : ℕ). All (LemmaRefersBelow n) others) (behind_none (length others)) (all_below points clauses [] others (in_order points clauses others r))

-- the same by equal parts
pub same_restated : (lemmas given : List Lemma) (origins from : List Origin) (clauses seen : List (List Literal)) (others all : List Lemma)
    → given ≡ lemmas → from ≡ origins → seen ≡ clauses → all ≡ given ++ map (restated_lemma from seen (length given)) others
    → all ≡ lemmas ++ map (restated_lemma origins clauses (length lemmas)) others
same_restated lemmas given origins from clauses seen others all given_is from_is seen_is all_is =
    all_is
    ∙ ap (λ (ls : List Lemma). ls ++ map (restated_lemma from seen (length ls)) others) given_is
    ∙ ap (λ (os : List Origin). lemmas ++ map (restated_lemma os seen (length lemmas)) others) from_is
    ∙ ap (λ (cs : List (List Literal)). lemmas ++ map (restated_lemma origins cs (length lemmas)) others) seen_is
