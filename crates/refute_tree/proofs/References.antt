-- Refuted lemmas refer to those before them.
use Rattle.std.proofs.Common.{arith, ◌≡◌, ℕ, zero, suc, ◌<◌, ◌≤◌, ◌+◌, List, [], ◌∷◌, ◌++◌, length, Some, All, length-append, subst, sym}
use Rattle.std.specs.Prelude.{slice_get}
use Rattle.std.proofs.lemmas.List.Elements.{All-nil, All-cons, All-weaker}
use Rattle.stn_core.specs.declared.literal.Literal.{Literal}
use Rattle.refute_tree.specs.declared.step.Step.{Step}
use Rattle.refute_tree.specs.declared.step.Step.TheVariants.{Cycle, Input, Lemma as Earlier, Clash, Either}
use Rattle.refute_tree.specs.declared.lemma.Lemma.{Lemma}
use Rattle.refute_tree.specs.Trees.{clause_of, Tree, Forest, leaf, clash, cases, none, more}
use Rattle.refute_tree.specs.Limits.{lemmas_limit}
use Rattle.refute_tree.specs.Moves.{MovesWithin}
use Rattle.refute_tree.specs.Batches.{LemmaBatch, AreRefuted, RefersBelow, LemmaRefersBelow, LemmaMovesWithin}

pub get_below : (xs : List (List Literal)) (j : ℕ) (x : List Literal) → slice_get xs j ≡ Some x → j < length xs
get_below [] j x e = absurd (cc)
get_below (y ∷ xs) zero x e = omega arith
get_below (y ∷ xs) (suc j) x e = let h = get_below xs j x e in omega arith

opened_below : (inputs lemmas : List (List Literal)) (s : Step) (clause : List Literal) → clause_of inputs lemmas s ≡ Some clause → RefersBelow (length lemmas) s
opened_below inputs lemmas (Cycle cycle) clause e = tt
opened_below inputs lemmas (Input i) clause e = tt
opened_below inputs lemmas (Earlier j) clause e = get_below lemmas j clause e
opened_below inputs lemmas (Clash i) clause e = tt
opened_below inputs lemmas (Either l) clause e = tt

module _ (inputs lemmas : List (List Literal)) where
  mutual
    tree_below : {assumed : List Literal} {steps rest : List Step} → Tree inputs lemmas assumed steps rest → All (RefersBelow (length lemmas)) rest → All (RefersBelow (length lemmas)) steps
    tree_below (leaf {cycle = cycle} {rest = rest} h) after = All-cons (RefersBelow (length lemmas)) (Cycle cycle) rest tt after
    tree_below (clash {i = i} {rest = rest} e h) after = All-cons (RefersBelow (length lemmas)) (Clash i) rest tt after
    tree_below (cases {clause = clause} {step = step} {steps = steps} e f) after = All-cons (RefersBelow (length lemmas)) step steps (opened_below inputs lemmas step clause e) (forest_below f after)

    forest_below : {assumed clause : List Literal} {steps rest : List Step} → Forest inputs lemmas assumed clause steps rest → All (RefersBelow (length lemmas)) rest → All (RefersBelow (length lemmas)) steps
    forest_below none after = after
    forest_below (more t f) after = tree_below t (forest_below f after)

below_more : (m n : ℕ) → m ≤ n → (s : Step) → RefersBelow m s → RefersBelow n s
below_more m n le (Cycle cycle) h = tt
below_more m n le (Input i) h = tt
below_more m n le (Earlier j) h = omega arith
below_more m n le (Clash i) h = tt
below_more m n le (Either l) h = tt

lemma_below_more : (m n : ℕ) → m ≤ n → (lemma : Lemma) → LemmaRefersBelow m lemma → LemmaRefersBelow n lemma
lemma_below_more m n le lemma h = All-weaker (RefersBelow m) (RefersBelow n) (below_more m n le) lemma.steps h

pub all_below : (points : ℕ) (clauses earlier : List (List Literal)) (lemmas : List Lemma) → AreRefuted points clauses earlier lemmas → All (LemmaRefersBelow (length earlier + length lemmas)) lemmas
all_below points clauses earlier [] h = All-nil (LemmaRefersBelow (length earlier + 0))
all_below points clauses earlier (lemma ∷ lemmas) h =
    let one = tree_below clauses earlier h.0.tree (All-nil (RefersBelow (length earlier))) in
    let rest = all_below points clauses (earlier ++ lemma.clause ∷ []) lemmas h.1 in
    let n : ℕ = length earlier + length (lemma ∷ lemmas) in
    All-cons (LemmaRefersBelow n) lemma lemmas
    (lemma_below_more (length earlier) n (omega arith) lemma one)
    (All-weaker (LemmaRefersBelow (length (earlier ++ lemma.clause ∷ []) + length lemmas)) (LemmaRefersBelow n) (lemma_below_more (length (earlier ++ lemma.clause ∷ []) + length lemmas) n (omega (arith, length-append earlier (lemma.clause ∷ [])))) lemmas rest)

step_within : (seen base count : ℕ) → base + count ≤ lemmas_limit → (s : Step) → RefersBelow (seen + count) s → MovesWithin seen base s
step_within seen base count fits (Cycle cycle) h = tt
step_within seen base count fits (Input i) h = tt
step_within seen base count fits (Earlier j) h = λ le. omega arith
step_within seen base count fits (Clash i) h = tt
step_within seen base count fits (Either l) h = tt

-- references to a batch's own lemmas and those before it move to numbers within the limit
pub lemmas_within : (seen base : ℕ) (lemmas : List Lemma) → base + length lemmas ≤ lemmas_limit → All (LemmaRefersBelow (seen + length lemmas)) lemmas → All (LemmaMovesWithin seen base) lemmas
lemmas_within seen base lemmas fits h =
    All-weaker (LemmaRefersBelow (seen + length lemmas)) (LemmaMovesWithin seen base)
    (λ lemma b. All-weaker (RefersBelow (seen + length lemmas)) (MovesWithin seen base) (step_within seen base (length lemmas) fits) lemma.steps b)
    lemmas h

-- the same of a shown batch, and the list that is moved
pub list_within : (base : ℕ) (shown : LemmaBatch) (seen : ℕ) (inner given : List Lemma) → record { seen = seen; lemmas = inner } ≡ shown → given ≡ inner → base + length shown.lemmas ≤ lemmas_limit → All (LemmaRefersBelow (shown.seen + length shown.lemmas)) shown.lemmas → All (LemmaMovesWithin seen base) given
list_within base shown seen inner given view is fits below =
    let small = subst (λ (b : LemmaBatch). base + length b.lemmas ≤ lemmas_limit) (sym view) fits in
    let refer = subst (λ (b : LemmaBatch). All (LemmaRefersBelow (b.seen + length b.lemmas)) b.lemmas) (sym view) below in
    subst (All (LemmaMovesWithin seen base)) (sym is) (lemmas_within seen base inner small refer)
