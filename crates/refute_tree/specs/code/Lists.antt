-- Of the code and not of the meaning: the lists of a store of steps.
use Rattle.std.specs.Prelude.{◌≡◌, ◌≤◌, ◌<◌, ◌+◌, ◌-◌, ℕ, List, [], ◌∷◌, ◌++◌, take, drop, length}
use Rattle.stn_core.specs.declared.literal.Literal.{Literal}
use Rattle.refute_tree.specs.declared.kind.Kind.{Kind}
use Rattle.refute_tree.specs.declared.kind.Kind.TheVariants.{Path as PathKind}
use Rattle.refute_tree.specs.declared.step.Step.{Step}
use Rattle.refute_tree.specs.declared.lists.Slices.{Slices}
use Rattle.refute_tree.specs.declared.lists.Lists.{Lists}
use Rattle.refute_tree.specs.declared.lists.Place.{Place}
use Rattle.refute_tree.specs.code.Paths.{points_of, bounds_of}
use Rattle.refute_tree.specs.code.Store.{Parts, parts, small_by, large_by, points_by, bounds_by, literals_by, IsWhole, steps_by, used, used_items}

abbrev pub parts_of_slices : Slices → Parts
parts_of_slices s = parts s.small.now s.large.now s.points.now s.bounds.now s.literals.now

abbrev pub steps_of_slices : Slices → List Step
steps_of_slices s = steps_by s.kinds.now (parts_of_slices s)

abbrev pub SlicesAreWhole : Slices → Type 0
SlicesAreWhole s = IsWhole s.kinds.now (parts_of_slices s)

abbrev pub parts_of_lists : Lists → Parts
parts_of_lists l = parts l.small.items l.large.items l.points.items l.bounds.items l.literals.items

abbrev pub steps_of_lists : Lists → List Step
steps_of_lists l = steps_by l.kinds.items (parts_of_lists l)

abbrev pub ListsAreWhole : Lists → Type 0
ListsAreWhole l = IsWhole l.kinds.items (parts_of_lists l)

-- the slices show the lists
pub record AreSlices (l : Lists) (s : Slices) : Type 0 where
  pub kinds : s.kinds.now ≡ l.kinds.items
  pub small : s.small.now ≡ l.small.items
  pub large : s.large.now ≡ l.large.items
  pub points : s.points.now ≡ l.points.items
  pub bounds : s.bounds.now ≡ l.bounds.items
  pub literals : s.literals.now ≡ l.literals.items

-- the same lists
pub record AreSame (before after : Lists) : Type 0 where
  pub kinds : after.kinds.items ≡ before.kinds.items
  pub small : after.small.items ≡ before.small.items
  pub large : after.large.items ≡ before.large.items
  pub points : after.points.items ≡ before.points.items
  pub bounds : after.bounds.items ≡ before.bounds.items
  pub literals : after.literals.items ≡ before.literals.items

-- each list begins as before
pub record BeginAs (before after : Lists) : Type 0 where
  pub kinds : take (length before.kinds.items) after.kinds.items ≡ before.kinds.items
  pub small : take (length before.small.items) after.small.items ≡ before.small.items
  pub large : take (length before.large.items) after.large.items ≡ before.large.items
  pub points : take (length before.points.items) after.points.items ≡ before.points.items
  pub bounds : take (length before.bounds.items) after.bounds.items ≡ before.bounds.items
  pub literals : take (length before.literals.items) after.literals.items ≡ before.literals.items

-- each list with the slice behind it
pub record AreExtended (before : Lists) (more : Slices) (after : Lists) : Type 0 where
  pub kinds : after.kinds.items ≡ before.kinds.items ++ more.kinds.now
  pub small : after.small.items ≡ before.small.items ++ more.small.now
  pub large : after.large.items ≡ before.large.items ++ more.large.now
  pub points : after.points.items ≡ before.points.items ++ more.points.now
  pub bounds : after.bounds.items ≡ before.bounds.items ++ more.bounds.now
  pub literals : after.literals.items ≡ before.literals.items ++ more.literals.now

-- each list with what a cycle has that is kept as a path
pub record HavePath (before : Lists) (cycle : List Literal) (after : Lists) : Type 0 where
  pub kinds : after.kinds.items ≡ before.kinds.items ++ PathKind ∷ []
  pub small : after.small.items ≡ before.small.items ++ length cycle ∷ []
  pub large : after.large.items ≡ before.large.items
  pub points : after.points.items ≡ before.points.items ++ points_of cycle
  pub bounds : after.bounds.items ≡ before.bounds.items ++ bounds_of cycle
  pub literals : after.literals.items ≡ before.literals.items

-- each list with what a step of this kind has: a narrow literal
pub record HaveNarrow (before : Lists) (kind : Kind) (l : Literal) (after : Lists) : Type 0 where
  pub kinds : after.kinds.items ≡ before.kinds.items ++ kind ∷ []
  pub small : after.small.items ≡ before.small.items
  pub large : after.large.items ≡ before.large.items
  pub points : after.points.items ≡ before.points.items ++ l.x ∷ l.y ∷ []
  pub bounds : after.bounds.items ≡ before.bounds.items ++ l.c ∷ []
  pub literals : after.literals.items ≡ before.literals.items

-- each list with what a step of this kind has: a small number
pub record HaveSmall (before : Lists) (kind : Kind) (number : ℕ) (after : Lists) : Type 0 where
  pub kinds : after.kinds.items ≡ before.kinds.items ++ kind ∷ []
  pub small : after.small.items ≡ before.small.items ++ number ∷ []
  pub large : after.large.items ≡ before.large.items
  pub points : after.points.items ≡ before.points.items
  pub bounds : after.bounds.items ≡ before.bounds.items
  pub literals : after.literals.items ≡ before.literals.items

-- what a step of this kind has stands first in each
pub record HaveStep (kind : Kind) (s : Slices) : Type 0 where
  pub small : small_by kind ≤ length s.small.now
  pub large : large_by kind ≤ length s.large.now
  pub points : points_by kind s.small.now ≤ length s.points.now
  pub bounds : bounds_by kind s.small.now ≤ length s.bounds.now
  pub literals : literals_by kind s.large.now ≤ length s.literals.now

-- the slices behind the first step, which is of this kind
pub record IsBehindStep (kind : Kind) (s after : Slices) : Type 0 where
  pub kinds : after.kinds.now ≡ drop 1 s.kinds.now
  pub small : after.small.now ≡ drop (small_by kind) s.small.now
  pub large : after.large.now ≡ drop (large_by kind) s.large.now
  pub points : after.points.now ≡ drop (points_by kind s.small.now) s.points.now
  pub bounds : after.bounds.now ≡ drop (bounds_by kind s.small.now) s.bounds.now
  pub literals : after.literals.now ≡ drop (literals_by kind s.large.now) s.literals.now

-- the places where what a step has stands in each list
pub record IsPlaceOf (s : Slices) (step : ℕ) (p : Place) : Type 0 where
  pub kinds : p.kinds ≡ step
  pub small : p.small ≡ used small_by (take step s.kinds.now)
  pub large : p.large ≡ used large_by (take step s.kinds.now)
  pub points : p.points ≡ used_items small_by points_by (take step s.kinds.now) s.small.now
  pub bounds : p.bounds ≡ used_items small_by bounds_by (take step s.kinds.now) s.small.now
  pub literals : p.literals ≡ used_items large_by literals_by (take step s.kinds.now) s.large.now

abbrev pub AreNone : Lists → Type 0
AreNone l =
    (l.kinds.items ≡ []) × (l.small.items ≡ []) × (l.large.items ≡ []) × (l.points.items ≡ [])
    × (l.bounds.items ≡ []) × (l.literals.items ≡ [])

-- where the lists end
pub record IsEnd (l : Lists) (p : Place) : Type 0 where
  pub kinds : p.kinds ≡ length l.kinds.items
  pub small : p.small ≡ length l.small.items
  pub large : p.large ≡ length l.large.items
  pub points : p.points ≡ length l.points.items
  pub bounds : p.bounds ≡ length l.bounds.items
  pub literals : p.literals ≡ length l.literals.items

pub record IsBefore (low high : Place) : Type 0 where
  pub kinds : low.kinds ≤ high.kinds
  pub small : low.small ≤ high.small
  pub large : low.large ≤ high.large
  pub points : low.points ≤ high.points
  pub bounds : low.bounds ≤ high.bounds
  pub literals : low.literals ≤ high.literals

pub record IsWithin (l : Lists) (p : Place) : Type 0 where
  pub kinds : p.kinds ≤ length l.kinds.items
  pub small : p.small ≤ length l.small.items
  pub large : p.large ≤ length l.large.items
  pub points : p.points ≤ length l.points.items
  pub bounds : p.bounds ≤ length l.bounds.items
  pub literals : p.literals ≤ length l.literals.items

-- each list up to the place
pub record AreCut (before : Lists) (end : Place) (after : Lists) : Type 0 where
  pub kinds : after.kinds.items ≡ take end.kinds before.kinds.items
  pub small : after.small.items ≡ take end.small before.small.items
  pub large : after.large.items ≡ take end.large before.large.items
  pub points : after.points.items ≡ take end.points before.points.items
  pub bounds : after.bounds.items ≡ take end.bounds before.bounds.items
  pub literals : after.literals.items ≡ take end.literals before.literals.items

-- each list without what stands from one place up to another
pub record AreCutOut (before : Lists) (low high : Place) (after : Lists) : Type 0 where
  pub kinds : after.kinds.items ≡ take low.kinds before.kinds.items ++ drop high.kinds before.kinds.items
  pub small : after.small.items ≡ take low.small before.small.items ++ drop high.small before.small.items
  pub large : after.large.items ≡ take low.large before.large.items ++ drop high.large before.large.items
  pub points : after.points.items ≡ take low.points before.points.items ++ drop high.points before.points.items
  pub bounds : after.bounds.items ≡ take low.bounds before.bounds.items ++ drop high.bounds before.bounds.items
  pub literals : after.literals.items ≡ take low.literals before.literals.items ++ drop high.literals before.literals.items

-- a step of this kind may end at the place
pub record EndsStep (s : Slices) (kind : Kind) (p : Place) : Type 0 where
  pub kinds : 0 < p.kinds
  pub small : small_by kind ≤ p.small
  pub small_in : p.small ≤ length s.small.now
  pub large : large_by kind ≤ p.large
  pub large_in : p.large ≤ length s.large.now
  pub points : points_by kind (drop (p.small - small_by kind) s.small.now) ≤ p.points
  pub bounds : bounds_by kind (drop (p.small - small_by kind) s.small.now) ≤ p.bounds
  pub literals : literals_by kind (drop (p.large - large_by kind) s.large.now) ≤ p.literals

-- the place where what it has begins
pub record IsBeforeStep (s : Slices) (kind : Kind) (p before : Place) : Type 0 where
  pub kinds : before.kinds + 1 ≡ p.kinds
  pub small : before.small + small_by kind ≡ p.small
  pub large : before.large + large_by kind ≡ p.large
  pub points : before.points + points_by kind (drop before.small s.small.now) ≡ p.points
  pub bounds : before.bounds + bounds_by kind (drop before.small s.small.now) ≡ p.bounds
  pub literals : before.literals + literals_by kind (drop before.large s.large.now) ≡ p.literals
