-- Of the code and not of the meaning: how a list of steps is kept. The kinds of the steps stand in one list; what a step
-- has beside its kind stands in five more, behind what the steps before it have: numbers below 2^32, other numbers,
-- points and bounds of paths, and literals.
use Rattle.std.specs.Prelude.{◌≡◌, ℕ, ℤ, ◌+◌, List, [], ◌∷◌, ◌++◌, length, take, drop, slice_index}
use Rattle.stn_core.specs.declared.literal.Literal.{Literal}
use Rattle.stn_core.specs.Literal.{negation_of, literal_at}
use Rattle.refute_tree.specs.declared.step.Step.{Step}
use Rattle.refute_tree.specs.declared.step.Step.TheVariants.{Cycle, Input, Lemma as Earlier, Clash, Either}
use Rattle.refute_tree.specs.declared.kind.Kind.{Kind}
use Rattle.refute_tree.specs.declared.kind.Kind.TheVariants.{Path as PathKind, Cycle as CycleKind, Pair as PairKind, LargePair as LargePairKind, Input as InputKind, LargeInput as LargeInputKind, Lemma as LemmaKind, LargeLemma as LargeLemmaKind, Clash as ClashKind, LargeClash as LargeClashKind, Either as EitherKind, LargeEither as LargeEitherKind}
use Rattle.refute_tree.specs.code.Paths.{path_of, narrow_literal}
use Rattle.refute_tree.specs.Pairs.{pair_of}

-- what stands beside the kinds
pub record Parts : Type 0 where
  pub small : List ℕ
  pub large : List ℕ
  pub points : List ℕ
  pub bounds : List ℤ
  pub literals : List Literal

abbrev pub parts : List ℕ → List ℕ → List ℕ → List ℤ → List Literal → Parts
parts small large points bounds literals =
    record { small = small; large = large; points = points; bounds = bounds; literals = literals }

-- those of a step of a narrow literal
abbrev pub narrow_parts : Literal → Parts
narrow_parts l = parts [] [] (l.x ∷ l.y ∷ []) (l.c ∷ []) []

-- the parts, and others behind them
abbrev pub together : Parts → Parts → Parts
together p q =
    parts (p.small ++ q.small) (p.large ++ q.large) (p.points ++ q.points) (p.bounds ++ q.bounds)
    (p.literals ++ q.literals)

-- how many small numbers stand for a step of the kind
abbrev pub small_by : Kind → ℕ
small_by PathKind = 1
small_by InputKind = 1
small_by LemmaKind = 1
small_by ClashKind = 1
small_by kind = 0

-- how many large numbers
abbrev pub large_by : Kind → ℕ
large_by CycleKind = 1
large_by LargeInputKind = 1
large_by LargeLemmaKind = 1
large_by LargeClashKind = 1
large_by kind = 0

abbrev pub first_number : List ℕ → ℕ
first_number numbers = slice_index numbers 0

-- how many points, where its small numbers are the first of these
abbrev pub points_by : Kind → List ℕ → ℕ
points_by PathKind small = first_number small + 1
points_by PairKind small = 2
points_by EitherKind small = 2
points_by kind small = 0

-- how many bounds, where its small numbers are the first of these
abbrev pub bounds_by : Kind → List ℕ → ℕ
bounds_by PathKind small = first_number small
bounds_by PairKind small = 1
bounds_by EitherKind small = 1
bounds_by kind small = 0

-- how many literals, where its large numbers are the first of these
abbrev pub literals_by : Kind → List ℕ → ℕ
literals_by CycleKind large = first_number large
literals_by LargePairKind large = 1
literals_by LargeEitherKind large = 1
literals_by kind large = 0

-- how many numbers stand for steps of these kinds, in the list of which a step has `by` its kind
abbrev pub used : (Kind → ℕ) → List Kind → ℕ
used by [] = 0
used by (kind ∷ kinds) = by kind + used by kinds

-- how many of what a step has by its kind and these numbers
abbrev pub used_items : (Kind → ℕ) → (Kind → List ℕ → ℕ) → List Kind → List ℕ → ℕ
used_items by items_by [] numbers = 0
used_items by items_by (kind ∷ kinds) numbers = items_by kind numbers + used_items by items_by kinds (drop (by kind) numbers)

-- what stands in the lists is what the kinds need
pub record IsWhole (kinds : List Kind) (p : Parts) : Type 0 where
  pub small_all : used small_by kinds ≡ length p.small
  pub large_all : used large_by kinds ≡ length p.large
  pub points_all : used_items small_by points_by kinds p.small ≡ length p.points
  pub bounds_all : used_items small_by bounds_by kinds p.small ≡ length p.bounds
  pub literals_all : used_items large_by literals_by kinds p.large ≡ length p.literals

-- the path of so many literals as the first number
abbrev pub first_path : List ℕ → List ℕ → List ℤ → List Literal
first_path small points bounds = path_of (take (first_number small + 1) points) (take (first_number small) bounds)

-- the step of a kind whose parts are the first of these
abbrev pub step_by : Kind → Parts → Step
step_by PathKind p = Cycle (first_path p.small p.points p.bounds)
step_by CycleKind p = Cycle (take (first_number p.large) p.literals)
step_by PairKind p = Cycle (pair_of (narrow_literal p.points p.bounds))
step_by LargePairKind p = Cycle (pair_of (literal_at p.literals 0))
step_by InputKind p = Input (first_number p.small)
step_by LargeInputKind p = Input (first_number p.large)
step_by LemmaKind p = Earlier (first_number p.small)
step_by LargeLemmaKind p = Earlier (first_number p.large)
step_by ClashKind p = Clash (first_number p.small)
step_by LargeClashKind p = Clash (first_number p.large)
step_by EitherKind p = Either (narrow_literal p.points p.bounds)
step_by LargeEitherKind p = Either (literal_at p.literals 0)

-- what stands behind the first step, which is of this kind
abbrev pub behind : Kind → Parts → Parts
behind kind p =
    parts (drop (small_by kind) p.small) (drop (large_by kind) p.large) (drop (points_by kind p.small) p.points)
    (drop (bounds_by kind p.small) p.bounds) (drop (literals_by kind p.large) p.literals)

-- the steps of these kinds
abbrev pub steps_by : List Kind → Parts → List Step
steps_by [] p = []
steps_by (kind ∷ kinds) p = step_by kind p ∷ steps_by kinds (behind kind p)

-- the two kinds of the same steps, with a small number and with a large one
abbrev pub AreNumberKinds : Kind → Kind → Type 0
AreNumberKinds InputKind LargeInputKind = Unit {0}
AreNumberKinds LemmaKind LargeLemmaKind = Unit {0}
AreNumberKinds ClashKind LargeClashKind = Unit {0}
AreNumberKinds kind large_kind = ⊥

-- the two kinds of the same steps, with a narrow literal and with any
abbrev pub AreLiteralKinds : Kind → Kind → Type 0
AreLiteralKinds PairKind LargePairKind = Unit {0}
AreLiteralKinds EitherKind LargeEitherKind = Unit {0}
AreLiteralKinds kind large_kind = ⊥
