-- Lists of kinds, numbers, points, bounds and literals, and their appends.
use Rattle.std.proofs.Common.{ℕ, ℤ, ◌≡◌, ◌+◌, ◌≤◌, ◌<◌, zero, suc, take, arith, List, [], ◌∷◌, length, ◌++◌, drop, ap, ◌∙◌, refl, slice_index_or}
use Rattle.std.proofs.lemmas.List.{drop-append-le, length-append, length-drop, take-append-le}
use Rattle.stn_core.specs.declared.literal.Literal.{Literal}
use Rattle.stn_core.specs.Literal.{literal_at}
use Rattle.refute_tree.specs.declared.step.Step.{Step}
use Rattle.refute_tree.specs.declared.step.Step.TheVariants.{Cycle, Input, Lemma as Earlier, Clash, Either}
use Rattle.refute_tree.specs.declared.kind.Kind.{Kind}
use Rattle.refute_tree.specs.declared.kind.Kind.TheVariants.{Path as PathKind, Cycle as CycleKind, Pair as PairKind, LargePair as LargePairKind, Input as InputKind, LargeInput as LargeInputKind, Lemma as LemmaKind, LargeLemma as LargeLemmaKind, Clash as ClashKind, LargeClash as LargeClashKind, Either as EitherKind, LargeEither as LargeEitherKind}
use Rattle.refute_tree.specs.code.Paths.{path_of, narrow_literal}
use Rattle.refute_tree.specs.code.Store.{Parts, parts, together, small_by, large_by, points_by, bounds_by, literals_by, first_number, first_path, used, used_items, IsWhole, step_by, behind, steps_by}
use Rattle.refute_tree.specs.Pairs.{pair_of}

-- equal parts
pub parts_same : (s s' l l' p p' : List ℕ) (b b' : List ℤ) (ls ls' : List Literal) → s ≡ s' → l ≡ l' → p ≡ p' → b ≡ b' → ls ≡ ls' → parts s l p b ls ≡ parts s' l' p' b' ls'
parts_same s s' l l' p p' b b' ls ls' d e f g h =
    ap (λ (xs : List ℕ). parts xs l p b ls) d
    ∙ ap (λ (xs : List ℕ). parts s' xs p b ls) e
    ∙ ap (λ (xs : List ℕ). parts s' l' xs b ls) f
    ∙ ap (λ (xs : List ℤ). parts s' l' p' xs ls) g
    ∙ ap (λ (xs : List Literal). parts s' l' p' b' xs) h

pub first_number-append : (ns ms : List ℕ) → 0 < length ns → first_number (ns ++ ms) ≡ first_number ns
first_number-append [] ms h = absurd (omega arith)
first_number-append (n ∷ ns) ms h = refl

literal_at-append : (ls ks : List Literal) → 0 < length ls → literal_at (ls ++ ks) 0 ≡ literal_at ls 0
literal_at-append [] ks h = absurd (omega arith)
literal_at-append (l ∷ ls) ks h = refl

narrow-append : (ps qs : List ℕ) (bs cs : List ℤ) → 2 ≤ length ps → 1 ≤ length bs → narrow_literal (ps ++ qs) (bs ++ cs) ≡ narrow_literal ps bs
narrow-append [] qs bs cs h k = absurd (omega arith)
narrow-append (x ∷ []) qs bs cs h k = absurd (omega arith)
narrow-append (x ∷ y ∷ ps) qs [] cs h k = absurd (omega arith)
narrow-append (x ∷ y ∷ ps) qs (b ∷ bs) cs h k = refl

pub points_by-append : (kind : Kind) (ns ms : List ℕ) → small_by kind ≤ length ns → points_by kind (ns ++ ms) ≡ points_by kind ns
points_by-append PathKind ns ms h = ap (λ n. n + 1) (first_number-append ns ms (omega arith))
points_by-append CycleKind ns ms h = refl
points_by-append PairKind ns ms h = refl
points_by-append LargePairKind ns ms h = refl
points_by-append InputKind ns ms h = refl
points_by-append LargeInputKind ns ms h = refl
points_by-append LemmaKind ns ms h = refl
points_by-append LargeLemmaKind ns ms h = refl
points_by-append ClashKind ns ms h = refl
points_by-append LargeClashKind ns ms h = refl
points_by-append EitherKind ns ms h = refl
points_by-append LargeEitherKind ns ms h = refl

pub bounds_by-append : (kind : Kind) (ns ms : List ℕ) → small_by kind ≤ length ns → bounds_by kind (ns ++ ms) ≡ bounds_by kind ns
bounds_by-append PathKind ns ms h = first_number-append ns ms (omega arith)
bounds_by-append CycleKind ns ms h = refl
bounds_by-append PairKind ns ms h = refl
bounds_by-append LargePairKind ns ms h = refl
bounds_by-append InputKind ns ms h = refl
bounds_by-append LargeInputKind ns ms h = refl
bounds_by-append LemmaKind ns ms h = refl
bounds_by-append LargeLemmaKind ns ms h = refl
bounds_by-append ClashKind ns ms h = refl
bounds_by-append LargeClashKind ns ms h = refl
bounds_by-append EitherKind ns ms h = refl
bounds_by-append LargeEitherKind ns ms h = refl

pub literals_by-append : (kind : Kind) (ns ms : List ℕ) → large_by kind ≤ length ns → literals_by kind (ns ++ ms) ≡ literals_by kind ns
literals_by-append PathKind ns ms h = refl
literals_by-append CycleKind ns ms h = first_number-append ns ms (omega arith)
literals_by-append PairKind ns ms h = refl
literals_by-append LargePairKind ns ms h = refl
literals_by-append InputKind ns ms h = refl
literals_by-append LargeInputKind ns ms h = refl
literals_by-append LemmaKind ns ms h = refl
literals_by-append LargeLemmaKind ns ms h = refl
literals_by-append ClashKind ns ms h = refl
literals_by-append LargeClashKind ns ms h = refl
literals_by-append EitherKind ns ms h = refl
literals_by-append LargeEitherKind ns ms h = refl

-- what the first kind has is there
pub record HasRoom (k : Kind) (p : Parts) : Type 0 where
  pub small_in : small_by k ≤ length p.small
  pub large_in : large_by k ≤ length p.large
  pub points_in : points_by k p.small ≤ length p.points
  pub bounds_in : bounds_by k p.small ≤ length p.bounds
  pub literals_in : literals_by k p.large ≤ length p.literals

path-append : (p q : Parts) → HasRoom PathKind p → first_path (p.small ++ q.small) (p.points ++ q.points) (p.bounds ++ q.bounds) ≡ first_path p.small p.points p.bounds
path-append p q h =
    let n = first_number p.small in
    ap (λ m. path_of (take (m + 1) (p.points ++ q.points)) (take m (p.bounds ++ q.bounds))) (first_number-append p.small q.small (omega (arith, h.small_in)))
    ∙ ap (λ (xs : List ℕ). path_of xs (take n (p.bounds ++ q.bounds))) (take-append-le (n + 1) p.points q.points h.points_in)
    ∙ ap (λ (xs : List ℤ). path_of (take (n + 1) p.points) xs) (take-append-le n p.bounds q.bounds h.bounds_in)

step_by-append : (k : Kind) (p q : Parts) → HasRoom k p → step_by k (together p q) ≡ step_by k p
step_by-append PathKind p q h = ap Cycle (path-append p q h)
step_by-append CycleKind p q h =
    ap (λ n. Cycle (take n (p.literals ++ q.literals))) (first_number-append p.large q.large (omega (arith, h.large_in)))
    ∙ ap Cycle (take-append-le (first_number p.large) p.literals q.literals h.literals_in)
step_by-append PairKind p q h = ap (λ (l : Literal). Cycle (pair_of l)) (narrow-append p.points q.points p.bounds q.bounds h.points_in h.bounds_in)
step_by-append LargePairKind p q h = ap (λ (l : Literal). Cycle (pair_of l)) (literal_at-append p.literals q.literals (omega (arith, h.literals_in)))
step_by-append InputKind p q h = ap Input (first_number-append p.small q.small (omega (arith, h.small_in)))
step_by-append LargeInputKind p q h = ap Input (first_number-append p.large q.large (omega (arith, h.large_in)))
step_by-append LemmaKind p q h = ap Earlier (first_number-append p.small q.small (omega (arith, h.small_in)))
step_by-append LargeLemmaKind p q h = ap Earlier (first_number-append p.large q.large (omega (arith, h.large_in)))
step_by-append ClashKind p q h = ap Clash (first_number-append p.small q.small (omega (arith, h.small_in)))
step_by-append LargeClashKind p q h = ap Clash (first_number-append p.large q.large (omega (arith, h.large_in)))
step_by-append EitherKind p q h = ap Either (narrow-append p.points q.points p.bounds q.bounds h.points_in h.bounds_in)
step_by-append LargeEitherKind p q h = ap Either (literal_at-append p.literals q.literals (omega (arith, h.literals_in)))

behind-together : (k : Kind) (p q : Parts) → HasRoom k p → behind k (together p q) ≡ together (behind k p) q
behind-together k p q h =
    parts_same _ _ _ _ _ _ _ _ _ _
    (drop-append-le (small_by k) p.small q.small h.small_in)
    (drop-append-le (large_by k) p.large q.large h.large_in)
    (ap (λ n. drop n (p.points ++ q.points)) (points_by-append k p.small q.small h.small_in) ∙ drop-append-le (points_by k p.small) p.points q.points h.points_in)
    (ap (λ n. drop n (p.bounds ++ q.bounds)) (bounds_by-append k p.small q.small h.small_in) ∙ drop-append-le (bounds_by k p.small) p.bounds q.bounds h.bounds_in)
    (ap (λ n. drop n (p.literals ++ q.literals)) (literals_by-append k p.large q.large h.large_in) ∙ drop-append-le (literals_by k p.large) p.literals q.literals h.literals_in)

-- a list of numbers, of which a step has `by` its kind
module _ (by : Kind → ℕ) where
  pub used-append : (ks ms : List Kind) → used by (ks ++ ms) ≡ used by ks + used by ms
  used-append [] ms = omega arith
  used-append (k ∷ ks) ms = omega (arith, used-append ks ms)

  pub used-more : (n : ℕ) (ks : List Kind) (d : Kind) → n < length ks → used by (take (suc n) ks) ≡ used by (take n ks) + by (slice_index_or ks n d)
  used-more n [] d h = absurd (omega arith)
  used-more zero (m ∷ ks) d h = omega arith
  used-more (suc n) (m ∷ ks) d h = omega (arith, used-more n ks d (omega arith))

  -- items that are counted by the numbers
  module _ (items_by : Kind → List ℕ → ℕ) (same : (k : Kind) (ns ms : List ℕ) → by k ≤ length ns → items_by k (ns ++ ms) ≡ items_by k ns) where
    -- further numbers don't count
    pub items-longer : (ks : List Kind) (ns more : List ℕ) → used by ks ≤ length ns → used_items by items_by ks (ns ++ more) ≡ used_items by items_by ks ns
    items-longer [] ns more h = refl
    items-longer (k ∷ ks) ns more h =
        let here : by k ≤ length ns = omega arith in
        let rest : used by ks ≤ length (drop (by k) ns) = omega (arith, length-drop (by k) ns) in
        ap (λ n. n + used_items by items_by ks (drop (by k) (ns ++ more))) (same k ns more here)
        ∙ ap (λ xs. items_by k ns + used_items by items_by ks xs) (drop-append-le (by k) ns more here)
        ∙ ap (λ n. items_by k ns + n) (items-longer ks (drop (by k) ns) more rest)

    pub items-append : (ks ms : List Kind) (ns more : List ℕ) → used by ks ≡ length ns → used_items by items_by (ks ++ ms) (ns ++ more) ≡ used_items by items_by ks ns + used_items by items_by ms more
    items-append [] ms [] more h = omega arith
    items-append [] ms (n ∷ ns) more h = absurd (omega arith)
    items-append (k ∷ ks) ms ns more h =
        let here : by k ≤ length ns = omega arith in
        let rest : used by ks ≡ length (drop (by k) ns) = omega (arith, length-drop (by k) ns) in
        ap (λ n. n + used_items by items_by (ks ++ ms) (drop (by k) (ns ++ more))) (same k ns more here)
        ∙ ap (λ xs. items_by k ns + used_items by items_by (ks ++ ms) xs) (drop-append-le (by k) ns more here)
        ∙ omega (arith, items-append ks ms (drop (by k) ns) more rest)

pub whole-append : (ks ms : List Kind) (p q : Parts) → IsWhole ks p → IsWhole ms q → IsWhole (ks ++ ms) (together p q)
whole-append ks ms p q h k = record {
  small_all = omega (arith, used-append small_by ks ms, length-append p.small q.small, h.small_all, k.small_all);
  large_all = omega (arith, used-append large_by ks ms, length-append p.large q.large, h.large_all, k.large_all);
  points_all = omega (arith, items-append small_by points_by points_by-append ks ms p.small q.small h.small_all, length-append p.points q.points, h.points_all, k.points_all);
  bounds_all = omega (arith, items-append small_by bounds_by bounds_by-append ks ms p.small q.small h.small_all, length-append p.bounds q.bounds, h.bounds_all, k.bounds_all);
  literals_all = omega (arith, items-append large_by literals_by literals_by-append ks ms p.large q.large h.large_all, length-append p.literals q.literals, h.literals_all, k.literals_all);
}

pub whole-room : (k : Kind) (ks : List Kind) (p : Parts) → IsWhole (k ∷ ks) p → HasRoom k p
whole-room k ks p h = record {
  small_in = omega (arith, h.small_all);
  large_in = omega (arith, h.large_all);
  points_in = omega (arith, h.points_all);
  bounds_in = omega (arith, h.bounds_all);
  literals_in = omega (arith, h.literals_all);
}

pub whole-rest : (k : Kind) (ks : List Kind) (p : Parts) → IsWhole (k ∷ ks) p → IsWhole ks (behind k p)
whole-rest k ks p h = record {
  small_all = omega (arith, h.small_all, length-drop (small_by k) p.small);
  large_all = omega (arith, h.large_all, length-drop (large_by k) p.large);
  points_all = omega (arith, h.points_all, length-drop (points_by k p.small) p.points);
  bounds_all = omega (arith, h.bounds_all, length-drop (bounds_by k p.small) p.bounds);
  literals_all = omega (arith, h.literals_all, length-drop (literals_by k p.large) p.literals);
}

none_length : {X : Type 0} (xs ys : List X) → 0 ≡ length xs → xs ++ ys ≡ ys
none_length [] ys h = refl
none_length (x ∷ xs) ys h = absurd (omega arith)

pub steps_by-append : (ks ms : List Kind) (p q : Parts) → IsWhole ks p → steps_by (ks ++ ms) (together p q) ≡ steps_by ks p ++ steps_by ms q
steps_by-append [] ms p q h =
    ap (steps_by ms) (parts_same _ _ _ _ _ _ _ _ _ _ (none_length p.small q.small h.small_all) (none_length p.large q.large h.large_all) (none_length p.points q.points h.points_all) (none_length p.bounds q.bounds h.bounds_all) (none_length p.literals q.literals h.literals_all))
steps_by-append (k ∷ ks) ms p q h =
    let room = whole-room k ks p h in
    ap (λ (s : Step). s ∷ steps_by (ks ++ ms) (behind k (together p q))) (step_by-append k p q room)
    ∙ ap (λ (r : Parts). step_by k p ∷ steps_by (ks ++ ms) r) (behind-together k p q room)
    ∙ ap (λ (ss : List Step). step_by k p ∷ ss) (steps_by-append ks ms (behind k p) q (whole-rest k ks p h))

pub length-steps_by : (ks : List Kind) (p : Parts) → length (steps_by ks p) ≡ length ks
length-steps_by [] p = refl
length-steps_by (k ∷ ks) p = ap suc (length-steps_by ks (behind k p))
