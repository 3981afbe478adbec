-- Lists of kinds, numbers, points, bounds and literals, cut at a step.
use Rattle.std.proofs.Common.{ℕ, ◌≡◌, ◌+◌, ◌-◌, ◌≤◌, ◌<◌, zero, suc, take, sym, arith, List, [], ◌∷◌, length, ◌++◌, drop, ap, ◌∙◌, slice_index_or}
use Rattle.std.proofs.lemmas.List.{length-drop, take-append-drop, take_at, drop_at, drop-drop, length-take-le}
use Rattle.refute_tree.specs.declared.step.Step.{Step}
use Rattle.refute_tree.specs.declared.kind.Kind.{Kind}
use Rattle.refute_tree.specs.code.Store.{Parts, parts, together, small_by, large_by, points_by, bounds_by, literals_by, used, used_items, IsWhole, steps_by}
use Rattle.refute_tree.proofs.Flats.{parts_same, used-append, used-more, points_by-append, bounds_by-append, literals_by-append, items-longer, items-append, whole-append, steps_by-append, length-steps_by}

-- a list of numbers, cut behind so many kinds
module _ (by : Kind → ℕ) (n : ℕ) (ks : List Kind) (ns : List ℕ) (all : used by ks ≡ length ns) where
  abbrev cut : ℕ
  cut = used by (take n ks)

  split_used : used by ks ≡ cut + used by (drop n ks)
  split_used = sym (ap (used by) (take-append-drop n ks)) ∙ used-append by (take n ks) (drop n ks)

  pub numbers_within : cut ≤ length ns
  numbers_within = omega (arith, split_used, all)

  pub numbers_front : cut ≡ length (take cut ns)
  numbers_front = sym (length-take-le cut ns numbers_within)

  pub numbers_back : used by (drop n ks) ≡ length (drop cut ns)
  numbers_back = omega (arith, split_used, all, length-drop cut ns)

  -- the items that the numbers count
  module _ (items_by : Kind → List ℕ → ℕ) (same : (k : Kind) (xs ms : List ℕ) → by k ≤ length xs → items_by k (xs ++ ms) ≡ items_by k xs) {X : Type 0} (items : List X) (whole : used_items by items_by ks ns ≡ length items) where
    abbrev used_front : ℕ
    used_front = used_items by items_by (take n ks) ns

    same_front : used_items by items_by (take n ks) (take cut ns) ≡ used_front
    same_front =
        sym (items-longer by items_by same (take n ks) (take cut ns) (drop cut ns) (omega (arith, numbers_front)))
        ∙ ap (used_items by items_by (take n ks)) (take-append-drop cut ns)

    split_items : used_items by items_by ks ns ≡ used_front + used_items by items_by (drop n ks) (drop cut ns)
    split_items =
        sym (ap (λ (kinds : List Kind). used_items by items_by kinds ns) (take-append-drop n ks))
        ∙ sym (ap (used_items by items_by (take n ks ++ drop n ks)) (take-append-drop cut ns))
        ∙ items-append by items_by same (take n ks) (drop n ks) (take cut ns) (drop cut ns) numbers_front
        ∙ ap (λ m. m + used_items by items_by (drop n ks) (drop cut ns)) same_front

    pub items_within : used_front ≤ length items
    items_within = omega (arith, split_items, whole)

    pub items_front : used_items by items_by (take n ks) (take cut ns) ≡ length (take used_front items)
    items_front = same_front ∙ sym (length-take-le used_front items items_within)

    pub items_back : used_items by items_by (drop n ks) (drop cut ns) ≡ length (drop used_front items)
    items_back = omega (arith, split_items, whole, length-drop used_front items)

-- the parts of the first so many kinds, and those behind them
abbrev pub front_of : ℕ → List Kind → Parts → Parts
front_of n ks p =
    parts (take (used small_by (take n ks)) p.small) (take (used large_by (take n ks)) p.large)
    (take (used_items small_by points_by (take n ks) p.small) p.points)
    (take (used_items small_by bounds_by (take n ks) p.small) p.bounds)
    (take (used_items large_by literals_by (take n ks) p.large) p.literals)

abbrev pub back_of : ℕ → List Kind → Parts → Parts
back_of n ks p =
    parts (drop (used small_by (take n ks)) p.small) (drop (used large_by (take n ks)) p.large)
    (drop (used_items small_by points_by (take n ks) p.small) p.points)
    (drop (used_items small_by bounds_by (take n ks) p.small) p.bounds)
    (drop (used_items large_by literals_by (take n ks) p.large) p.literals)

module _ (n : ℕ) (ks : List Kind) (p : Parts) (within : n ≤ length ks) (whole : IsWhole ks p) where
  pub front_whole : IsWhole (take n ks) (front_of n ks p)
  front_whole = record {
    small_all = numbers_front small_by n ks p.small whole.small_all;
    large_all = numbers_front large_by n ks p.large whole.large_all;
    points_all = items_front small_by n ks p.small whole.small_all points_by points_by-append p.points whole.points_all;
    bounds_all = items_front small_by n ks p.small whole.small_all bounds_by bounds_by-append p.bounds whole.bounds_all;
    literals_all = items_front large_by n ks p.large whole.large_all literals_by literals_by-append p.literals whole.literals_all;
  }

  pub back_whole : IsWhole (drop n ks) (back_of n ks p)
  back_whole = record {
    small_all = numbers_back small_by n ks p.small whole.small_all;
    large_all = numbers_back large_by n ks p.large whole.large_all;
    points_all = items_back small_by n ks p.small whole.small_all points_by points_by-append p.points whole.points_all;
    bounds_all = items_back small_by n ks p.small whole.small_all bounds_by bounds_by-append p.bounds whole.bounds_all;
    literals_all = items_back large_by n ks p.large whole.large_all literals_by literals_by-append p.literals whole.literals_all;
  }

  both : together (front_of n ks p) (back_of n ks p) ≡ p
  both =
      parts_same _ _ _ _ _ _ _ _ _ _
      (take-append-drop (used small_by (take n ks)) p.small)
      (take-append-drop (used large_by (take n ks)) p.large)
      (take-append-drop (used_items small_by points_by (take n ks) p.small) p.points)
      (take-append-drop (used_items small_by bounds_by (take n ks) p.small) p.bounds)
      (take-append-drop (used_items large_by literals_by (take n ks) p.large) p.literals)

  split_steps : steps_by (take n ks) (front_of n ks p) ++ steps_by (drop n ks) (back_of n ks p) ≡ steps_by ks p
  split_steps =
      sym (steps_by-append (take n ks) (drop n ks) (front_of n ks p) (back_of n ks p) front_whole)
      ∙ ap (λ (kinds : List Kind). steps_by kinds (together (front_of n ks p) (back_of n ks p))) (take-append-drop n ks)
      ∙ ap (steps_by ks) both

  front_length : length (steps_by (take n ks) (front_of n ks p)) ≡ n
  front_length = length-steps_by (take n ks) (front_of n ks p) ∙ length-take-le n ks within

  pub front_steps : steps_by (take n ks) (front_of n ks p) ≡ take n (steps_by ks p)
  front_steps = sym (take_at _ _ n front_length) ∙ ap (take n) split_steps

  pub back_steps : steps_by (drop n ks) (back_of n ks p) ≡ drop n (steps_by ks p)
  back_steps = sym (drop_at _ _ n front_length) ∙ ap (drop n) split_steps

-- without the steps from one place up to another
module _ (low high : ℕ) (ks : List Kind) (p : Parts) (order : low ≤ high) (within : high ≤ length ks) (whole : IsWhole ks p) where
  low_within : low ≤ length ks
  low_within = omega (arith, order, within)

  pub removed_whole : IsWhole (take low ks ++ drop high ks) (together (front_of low ks p) (back_of high ks p))
  removed_whole = whole-append (take low ks) (drop high ks) (front_of low ks p) (back_of high ks p) (front_whole low ks p low_within whole) (back_whole high ks p within whole)

  pub removed_steps : steps_by (take low ks ++ drop high ks) (together (front_of low ks p) (back_of high ks p)) ≡ take low (steps_by ks p) ++ drop high (steps_by ks p)
  removed_steps =
      steps_by-append (take low ks) (drop high ks) (front_of low ks p) (back_of high ks p) (front_whole low ks p low_within whole)
      ∙ ap (λ (ss : List Step). ss ++ steps_by (drop high ks) (back_of high ks p)) (front_steps low ks p low_within whole)
      ∙ ap (λ (ss : List Step). take low (steps_by ks p) ++ ss) (back_steps high ks p within whole)

module _ (by : Kind → ℕ) where
  pub used-ordered : (low high : ℕ) (ks : List Kind) → low ≤ high → used by (take low ks) ≤ used by (take high ks)
  used-ordered zero high ks h = omega arith
  used-ordered (suc low) zero ks h = absurd (omega arith)
  used-ordered (suc low) (suc high) [] h = omega arith
  used-ordered (suc low) (suc high) (k ∷ ks) h = omega (arith, used-ordered low high ks (omega arith))

  module _ (items_by : Kind → List ℕ → ℕ) where
    pub items-ordered : (low high : ℕ) (ks : List Kind) (ns : List ℕ) → low ≤ high → used_items by items_by (take low ks) ns ≤ used_items by items_by (take high ks) ns
    items-ordered zero high ks ns h = omega arith
    items-ordered (suc low) zero ks ns h = absurd (omega arith)
    items-ordered (suc low) (suc high) [] ns h = omega arith
    items-ordered (suc low) (suc high) (k ∷ ks) ns h = omega (arith, items-ordered low high ks (drop (by k) ns) (omega arith))

    items-more : (n : ℕ) (ks : List Kind) (ns : List ℕ) (d : Kind) → n < length ks → used_items by items_by (take (suc n) ks) ns ≡ used_items by items_by (take n ks) ns + items_by (slice_index_or ks n d) (drop (used by (take n ks)) ns)
    items-more n [] ns d h = absurd (omega arith)
    items-more zero (m ∷ ks) ns d h = omega arith
    items-more (suc n) (m ∷ ks) ns d h =
        omega (arith, items-more n ks (drop (by m) ns) d (omega arith), ap (items_by (slice_index_or ks n d)) (drop-drop (used by (take n ks)) (by m) ns))

  -- one kind less
  module _ (k : ℕ) (ks : List Kind) (d : Kind) (some : 0 < k) (within : k ≤ length ks) where
    last_one : suc (k - 1) ≡ k
    last_one = omega arith

    pub used-before : used by (take k ks) ≡ used by (take (k - 1) ks) + by (slice_index_or ks (k - 1) d)
    used-before = sym (ap (λ n. used by (take n ks)) last_one) ∙ used-more by (k - 1) ks d (omega arith)

    pub items-before : (items_by : Kind → List ℕ → ℕ) (a : ℕ) (ns : List ℕ) → a ≡ used by (take (k - 1) ks) → used_items by items_by (take k ks) ns ≡ used_items by items_by (take (k - 1) ks) ns + items_by (slice_index_or ks (k - 1) d) (drop a ns)
    items-before items_by a ns e =
        sym (ap (λ n. used_items by items_by (take n ks) ns) last_one)
        ∙ items-more items_by (k - 1) ks ns d (omega arith)
        ∙ ap (λ n. used_items by items_by (take (k - 1) ks) ns + items_by (slice_index_or ks (k - 1) d) (drop n ns)) (sym e)
