-- Moved references.
use Rattle.std.proofs.Common.{ℕ, ℤ, ◌≡◌, ◌+◌, ◌≤◌, ◌<◌, ◌++◌, Bool, true, false, List, [], ◌∷◌, zero, suc, length, take, drop, map, All, ap, ◌∙◌, sym, refl, subst, arith, append_assoc, slice_index_or, slice_set, Vec}
use Rattle.std.specs.Vec.{with_items}
use Rattle.std.proofs.lemmas.List.{take_at, drop_at, length-append, length-take-le, length-drop, take-append-drop, set_split, drop-drop, with_items_is}
use Rattle.std.proofs.lemmas.List.Elements.{All-head, All-tail}
use Rattle.stn_core.specs.declared.literal.Literal.{Literal}
use Rattle.refute_tree.specs.declared.step.Step.{Step}
use Rattle.refute_tree.specs.declared.kind.Kind.{Kind}
use Rattle.refute_tree.specs.declared.kind.Kind.TheVariants.{Path as PathKind, Cycle as CycleKind, Pair as PairKind, LargePair as LargePairKind, Input as InputKind, LargeInput as LargeInputKind, Lemma as LemmaKind, LargeLemma as LargeLemmaKind, Clash as ClashKind, LargeClash as LargeClashKind, Either as EitherKind, LargeEither as LargeEitherKind}
use Rattle.refute_tree.specs.code.Store.{Parts, parts, small_by, large_by, points_by, bounds_by, literals_by, first_number, used, used_items, IsWhole, step_by, behind, steps_by}
use Rattle.refute_tree.proofs.Flats.{parts_same}
use Rattle.refute_tree.specs.Moves.{named_step, MovesWithin}
use Rattle.refute_tree.specs.code.MovedParts.{is_lemma, is_large_lemma, named_part, named_numbers, HasNamedPart, PartMovesWithin, NumbersMoveWithin}

-- a kind that names a lemma in the list has one number there
abbrev pub NamesByOne : (Kind → ℕ) → (Kind → Bool) → Type 0
NamesByOne by names = (k : Kind) → names k ≡ true → by k ≡ 1

pub small_by_one : NamesByOne small_by is_lemma
small_by_one PathKind e = absurd (cc)
small_by_one CycleKind e = absurd (cc)
small_by_one PairKind e = absurd (cc)
small_by_one LargePairKind e = absurd (cc)
small_by_one InputKind e = absurd (cc)
small_by_one LargeInputKind e = absurd (cc)
small_by_one LemmaKind e = refl
small_by_one LargeLemmaKind e = absurd (cc)
small_by_one ClashKind e = absurd (cc)
small_by_one LargeClashKind e = absurd (cc)
small_by_one EitherKind e = absurd (cc)
small_by_one LargeEitherKind e = absurd (cc)

pub large_by_one : NamesByOne large_by is_large_lemma
large_by_one PathKind e = absurd (cc)
large_by_one CycleKind e = absurd (cc)
large_by_one PairKind e = absurd (cc)
large_by_one LargePairKind e = absurd (cc)
large_by_one InputKind e = absurd (cc)
large_by_one LargeInputKind e = absurd (cc)
large_by_one LemmaKind e = absurd (cc)
large_by_one LargeLemmaKind e = refl
large_by_one ClashKind e = absurd (cc)
large_by_one LargeClashKind e = absurd (cc)
large_by_one EitherKind e = absurd (cc)
large_by_one LargeEitherKind e = absurd (cc)

length_by : (number : ℕ → ℕ) (count : ℕ) (named : Bool) (ns : List ℕ) → (named ≡ true → count ≡ 1) → count ≤ length ns → length (named_part number count named ns) ≡ count
length_by number count true ns one h = sym (one refl)
length_by number count false ns one h = length-take-le count ns h

first_at : (at : ℕ) (ns : List ℕ) → first_number (drop at ns) ≡ slice_index_or ns at 0
first_at zero [] = refl
first_at zero (n ∷ ns) = refl
first_at (suc at) [] = refl
first_at (suc at) (n ∷ ns) = first_at at ns

-- one of the two lists of numbers
module _ (by : Kind → ℕ) (names : Kind → Bool) (one : NamesByOne by names) (number : ℕ → ℕ) where
  abbrev part_of : Kind → List ℕ → List ℕ
  part_of k ns = named_part number (by k) (names k) ns

  abbrev moved_of : List Kind → List ℕ → List ℕ
  moved_of ks ns = named_numbers by names number ks ns

  pub length-part : (k : Kind) (ns : List ℕ) → by k ≤ length ns → length (part_of k ns) ≡ by k
  length-part k ns h = length_by number (by k) (names k) ns (one k) h

  pub length-moved : (ks : List Kind) (ns : List ℕ) → used by ks ≤ length ns → length (moved_of ks ns) ≡ length ns
  length-moved [] ns h = refl
  length-moved (k ∷ ks) ns h =
      let rest = drop (by k) ns in
      length-append (part_of k ns) (moved_of ks rest)
      ∙ omega (arith, length-part k ns (omega arith), length-moved ks rest (omega (arith, length-drop (by k) ns)), length-drop (by k) ns)

  pub rest_moved : (k : Kind) (ks : List Kind) (ns : List ℕ) → by k ≤ length ns → drop (by k) (moved_of (k ∷ ks) ns) ≡ moved_of ks (drop (by k) ns)
  rest_moved k ks ns h = drop_at (part_of k ns) (moved_of ks (drop (by k) ns)) (by k) (length-part k ns h)

  -- items that are counted by the numbers, of which none is a lemma's
  pub items_kept : (items_by : Kind → List ℕ → ℕ) → ((k : Kind) (ns rest : List ℕ) → by k ≤ length ns → items_by k (part_of k ns ++ rest) ≡ items_by k ns) → (ks : List Kind) (ns : List ℕ) → used by ks ≤ length ns → used_items by items_by ks (moved_of ks ns) ≡ used_items by items_by ks ns
  items_kept items_by kept [] ns h = refl
  items_kept items_by kept (k ∷ ks) ns h =
      let here : by k ≤ length ns = omega arith in
      let rest = drop (by k) ns in
      ap (λ n. n + used_items by items_by ks (drop (by k) (moved_of (k ∷ ks) ns))) (kept k ns (moved_of ks rest) here)
      ∙ ap (λ xs. items_by k ns + used_items by items_by ks xs) (rest_moved k ks ns here)
      ∙ ap (λ n. items_by k ns + n) (items_kept items_by kept ks rest (omega (arith, length-drop (by k) ns)))

  -- one turn of the loop over the kinds
  module _ (k : Kind) (rest : List Kind) (now after whole : List ℕ) (at next : ℕ)
      (left : at + used by (k ∷ rest) ≡ length now)
      (moved : HasNamedPart number (by k) (names k) at now after)
      (on : next ≡ at + by k) where
    abbrev part : List ℕ
    part = part_of k (drop at now)

    abbrev others : List ℕ
    others = drop (by k) (drop at now)

    room : by k ≤ length (drop at now)
    room = omega (arith, length-drop at now)

    front-length : length (take at now ++ part) ≡ next
    front-length = omega (arith, length-append (take at now) part, length-part k (drop at now) room, length-take-le at now (omega arith))

    after_is : after ≡ (take at now ++ part) ++ others
    after_is = moved ∙ sym (append_assoc (take at now) part others)

    pub turn_front : take next after ≡ take at now ++ part
    turn_front = ap (take next) after_is ∙ take_at (take at now ++ part) others next front-length

    pub turn_rest : drop next after ≡ others
    turn_rest = ap (drop next) after_is ∙ drop_at (take at now ++ part) others next front-length

    pub turn_left : next + used by rest ≡ length after
    turn_left = omega (arith, ap length after_is, length-append (take at now ++ part) others, front-length, length-drop (by k) (drop at now), length-drop at now)

    pub turn_same : take at now ++ moved_of (k ∷ rest) (drop at now) ≡ whole → take next after ++ moved_of rest (drop next after) ≡ whole
    turn_same same =
        ap (λ (xs : List ℕ). xs ++ moved_of rest (drop next after)) turn_front
        ∙ ap (λ (xs : List ℕ). (take at now ++ part) ++ moved_of rest xs) turn_rest
        ∙ append_assoc (take at now) part (moved_of rest others)
        ∙ same

    pub turn_within : (seen base : ℕ) → NumbersMoveWithin by names seen base (k ∷ rest) (drop at now) → NumbersMoveWithin by names seen base rest (drop next after)
    turn_within seen base h = subst (λ (xs : List ℕ). NumbersMoveWithin by names seen base rest xs) (sym turn_rest) h.1

  pub items_moved : {Z : Type 0} (kinds : List Kind) (v : Vec ℕ Z) (ks : List Kind) (now ws : List ℕ) → ks ≡ kinds → now ≡ v.items → ws ≡ moved_of ks now → used by kinds ≡ length v.items → (with_items v ws).items ≡ moved_of kinds v.items
  items_moved kinds v ks now ws e f g h =
      let moved : ws ≡ moved_of kinds v.items = g ∙ ap (λ (k : List Kind). moved_of k now) e ∙ ap (moved_of kinds) f in
      with_items_is v ws (ap length moved ∙ length-moved kinds v.items (omega (arith, h)) ∙ sym v.ok.0) ∙ moved

module _ (number : ℕ → ℕ) where
  abbrev small_part : Kind → List ℕ → List ℕ
  small_part k small = named_part number (small_by k) (is_lemma k) small

  abbrev large_part : Kind → List ℕ → List ℕ
  large_part k large = named_part number (large_by k) (is_large_lemma k) large

  abbrev pub moved_small : List Kind → List ℕ → List ℕ
  moved_small ks small = named_numbers small_by is_lemma number ks small

  abbrev pub moved_large : List Kind → List ℕ → List ℕ
  moved_large ks large = named_numbers large_by is_large_lemma number ks large

  points_by-part : (k : Kind) (ns rest : List ℕ) → small_by k ≤ length ns → points_by k (small_part k ns ++ rest) ≡ points_by k ns
  points_by-part PathKind [] rest h = absurd (omega arith)
  points_by-part PathKind (n ∷ ns) rest h = refl
  points_by-part CycleKind ns rest h = refl
  points_by-part PairKind ns rest h = refl
  points_by-part LargePairKind ns rest h = refl
  points_by-part InputKind ns rest h = refl
  points_by-part LargeInputKind ns rest h = refl
  points_by-part LemmaKind ns rest h = refl
  points_by-part LargeLemmaKind ns rest h = refl
  points_by-part ClashKind ns rest h = refl
  points_by-part LargeClashKind ns rest h = refl
  points_by-part EitherKind ns rest h = refl
  points_by-part LargeEitherKind ns rest h = refl

  bounds_by-part : (k : Kind) (ns rest : List ℕ) → small_by k ≤ length ns → bounds_by k (small_part k ns ++ rest) ≡ bounds_by k ns
  bounds_by-part PathKind [] rest h = absurd (omega arith)
  bounds_by-part PathKind (n ∷ ns) rest h = refl
  bounds_by-part CycleKind ns rest h = refl
  bounds_by-part PairKind ns rest h = refl
  bounds_by-part LargePairKind ns rest h = refl
  bounds_by-part InputKind ns rest h = refl
  bounds_by-part LargeInputKind ns rest h = refl
  bounds_by-part LemmaKind ns rest h = refl
  bounds_by-part LargeLemmaKind ns rest h = refl
  bounds_by-part ClashKind ns rest h = refl
  bounds_by-part LargeClashKind ns rest h = refl
  bounds_by-part EitherKind ns rest h = refl
  bounds_by-part LargeEitherKind ns rest h = refl

  literals_by-part : (k : Kind) (ns rest : List ℕ) → large_by k ≤ length ns → literals_by k (large_part k ns ++ rest) ≡ literals_by k ns
  literals_by-part PathKind ns rest h = refl
  literals_by-part CycleKind [] rest h = absurd (omega arith)
  literals_by-part CycleKind (n ∷ ns) rest h = refl
  literals_by-part PairKind ns rest h = refl
  literals_by-part LargePairKind ns rest h = refl
  literals_by-part InputKind ns rest h = refl
  literals_by-part LargeInputKind ns rest h = refl
  literals_by-part LemmaKind ns rest h = refl
  literals_by-part LargeLemmaKind ns rest h = refl
  literals_by-part ClashKind ns rest h = refl
  literals_by-part LargeClashKind ns rest h = refl
  literals_by-part EitherKind ns rest h = refl
  literals_by-part LargeEitherKind ns rest h = refl

  step_by-part : (k : Kind) (small rest large rest' points : List ℕ) (bounds : List ℤ) (ls : List Literal) → small_by k ≤ length small → large_by k ≤ length large → step_by k (parts (small_part k small ++ rest) (large_part k large ++ rest') points bounds ls) ≡ named_step number (step_by k (parts small large points bounds ls))
  step_by-part PathKind [] rest large rest' points bounds ls h h' = absurd (omega arith)
  step_by-part PathKind (n ∷ small) rest large rest' points bounds ls h h' = refl
  step_by-part CycleKind small rest [] rest' points bounds ls h h' = absurd (omega arith)
  step_by-part CycleKind small rest (n ∷ large) rest' points bounds ls h h' = refl
  step_by-part PairKind small rest large rest' points bounds ls h h' = refl
  step_by-part LargePairKind small rest large rest' points bounds ls h h' = refl
  step_by-part InputKind [] rest large rest' points bounds ls h h' = absurd (omega arith)
  step_by-part InputKind (n ∷ small) rest large rest' points bounds ls h h' = refl
  step_by-part LargeInputKind small rest [] rest' points bounds ls h h' = absurd (omega arith)
  step_by-part LargeInputKind small rest (n ∷ large) rest' points bounds ls h h' = refl
  step_by-part LemmaKind small rest large rest' points bounds ls h h' = refl
  step_by-part LargeLemmaKind small rest large rest' points bounds ls h h' = refl
  step_by-part ClashKind [] rest large rest' points bounds ls h h' = absurd (omega arith)
  step_by-part ClashKind (n ∷ small) rest large rest' points bounds ls h h' = refl
  step_by-part LargeClashKind small rest [] rest' points bounds ls h h' = absurd (omega arith)
  step_by-part LargeClashKind small rest (n ∷ large) rest' points bounds ls h h' = refl
  step_by-part EitherKind small rest large rest' points bounds ls h h' = refl
  step_by-part LargeEitherKind small rest large rest' points bounds ls h h' = refl

  -- the parts of steps of these kinds, moved
  abbrev pub moved_parts : List Kind → Parts → Parts
  moved_parts ks p = parts (moved_small ks p.small) (moved_large ks p.large) p.points p.bounds p.literals

  pub moved_whole : (ks : List Kind) (p : Parts) → IsWhole ks p → IsWhole ks (moved_parts ks p)
  moved_whole ks p h =
      let few : used small_by ks ≤ length p.small = omega (arith, h.small_all) in
      let few_large : used large_by ks ≤ length p.large = omega (arith, h.large_all) in
      record {
        small_all = h.small_all ∙ sym (length-moved small_by is_lemma small_by_one number ks p.small few);
        large_all = h.large_all ∙ sym (length-moved large_by is_large_lemma large_by_one number ks p.large few_large);
        points_all = items_kept small_by is_lemma small_by_one number points_by points_by-part ks p.small few ∙ h.points_all;
        bounds_all = items_kept small_by is_lemma small_by_one number bounds_by bounds_by-part ks p.small few ∙ h.bounds_all;
        literals_all = items_kept large_by is_large_lemma large_by_one number literals_by literals_by-part ks p.large few_large ∙ h.literals_all;
      }

  behind-moved : (k : Kind) (ks : List Kind) (p : Parts) → small_by k ≤ length p.small → large_by k ≤ length p.large → behind k (moved_parts (k ∷ ks) p) ≡ moved_parts ks (behind k p)
  behind-moved k ks p h h' =
      parts_same _ _ _ _ _ _ _ _ _ _
      (rest_moved small_by is_lemma small_by_one number k ks p.small h)
      (rest_moved large_by is_large_lemma large_by_one number k ks p.large h')
      (ap (λ n. drop n p.points) (points_by-part k p.small (moved_small ks (drop (small_by k) p.small)) h))
      (ap (λ n. drop n p.bounds) (bounds_by-part k p.small (moved_small ks (drop (small_by k) p.small)) h))
      (ap (λ n. drop n p.literals) (literals_by-part k p.large (moved_large ks (drop (large_by k) p.large)) h'))

  pub moved_steps : (ks : List Kind) (p : Parts) → used small_by ks ≤ length p.small → used large_by ks ≤ length p.large → steps_by ks (moved_parts ks p) ≡ map (named_step number) (steps_by ks p)
  moved_steps [] p h h' = refl
  moved_steps (k ∷ ks) p h h' =
      let here : small_by k ≤ length p.small = omega arith in
      let here' : large_by k ≤ length p.large = omega arith in
      let first : Step = named_step number (step_by k p) in
      ap (λ (s : Step). s ∷ steps_by ks (behind k (moved_parts (k ∷ ks) p))) (step_by-part k p.small (moved_small ks (drop (small_by k) p.small)) p.large (moved_large ks (drop (large_by k) p.large)) p.points p.bounds p.literals here here')
      ∙ ap (λ (r : Parts). first ∷ steps_by ks r) (behind-moved k ks p here here')
      ∙ ap (λ (ss : List Step). first ∷ ss) (moved_steps ks (behind k p) (omega (arith, length-drop (small_by k) p.small)) (omega (arith, length-drop (large_by k) p.large)))

  -- a part of which nothing moves
  pub part_stays : (count at : ℕ) (ns : List ℕ) → HasNamedPart number count false at ns ns
  part_stays count at ns =
      sym (ap (λ (xs : List ℕ). take at ns ++ xs) (take-append-drop count (drop at ns)) ∙ take-append-drop at ns)

  pub part_moved : (at j : ℕ) (ns after : List ℕ) → at < length ns → j ≡ slice_index_or ns at 0 → after ≡ slice_set ns at (number j) → HasNamedPart number 1 true at ns after
  part_moved at j ns after h e is =
      is
      ∙ set_split ns at (number j) h
      ∙ ap (λ n. take at ns ++ number n ∷ drop (suc at) ns) (e ∙ sym (first_at at ns))
      ∙ ap (λ (xs : List ℕ). take at ns ++ number (first_number (drop at ns)) ∷ xs) (ap (λ n. drop n ns) (let next : suc at ≡ at + 1 = omega arith in next) ∙ sym (drop-drop 1 at ns))

module _ (seen base : ℕ) where
  small_part_within : (k : Kind) (p : Parts) → MovesWithin seen base (step_by k p) → PartMovesWithin seen base (is_lemma k) p.small
  small_part_within PathKind p h = tt
  small_part_within CycleKind p h = tt
  small_part_within PairKind p h = tt
  small_part_within LargePairKind p h = tt
  small_part_within InputKind p h = tt
  small_part_within LargeInputKind p h = tt
  small_part_within LemmaKind p h = h
  small_part_within LargeLemmaKind p h = tt
  small_part_within ClashKind p h = tt
  small_part_within LargeClashKind p h = tt
  small_part_within EitherKind p h = tt
  small_part_within LargeEitherKind p h = tt

  pub small_within : (ks : List Kind) (p : Parts) → All (MovesWithin seen base) (steps_by ks p) → NumbersMoveWithin small_by is_lemma seen base ks p.small
  small_within [] p h = tt
  small_within (k ∷ ks) p h = (
    small_part_within k p (All-head (MovesWithin seen base) (step_by k p) (steps_by ks (behind k p)) h),
    small_within ks (behind k p) (All-tail (MovesWithin seen base) (step_by k p) (steps_by ks (behind k p)) h),
  )

  large_part_within : (k : Kind) (p : Parts) → MovesWithin seen base (step_by k p) → PartMovesWithin seen base (is_large_lemma k) p.large
  large_part_within PathKind p h = tt
  large_part_within CycleKind p h = tt
  large_part_within PairKind p h = tt
  large_part_within LargePairKind p h = tt
  large_part_within InputKind p h = tt
  large_part_within LargeInputKind p h = tt
  large_part_within LemmaKind p h = tt
  large_part_within LargeLemmaKind p h = h
  large_part_within ClashKind p h = tt
  large_part_within LargeClashKind p h = tt
  large_part_within EitherKind p h = tt
  large_part_within LargeEitherKind p h = tt

  pub large_within : (ks : List Kind) (p : Parts) → All (MovesWithin seen base) (steps_by ks p) → NumbersMoveWithin large_by is_large_lemma seen base ks p.large
  large_within [] p h = tt
  large_within (k ∷ ks) p h = (
    large_part_within k p (All-head (MovesWithin seen base) (step_by k p) (steps_by ks (behind k p)) h),
    large_within ks (behind k p) (All-tail (MovesWithin seen base) (step_by k p) (steps_by ks (behind k p)) h),
  )
