-- Stores with more, and with less.
use Rattle.std.proofs.Common.{ℕ, ◌≡◌, ◌≤◌, ◌++◌, ◌∷◌, [], length, take, drop, ap, ◌∙◌, sym, refl, subst, List, arith}
use Rattle.stn_core.specs.declared.literal.Literal.{Literal}
use Rattle.refute_tree.specs.declared.kind.Kind.{Kind}
use Rattle.refute_tree.specs.declared.kind.Kind.TheVariants.{Path as PathKind}
use Rattle.refute_tree.specs.declared.step.Step.{Step}
use Rattle.refute_tree.specs.declared.step.Step.TheVariants.{Cycle}
use Rattle.refute_tree.specs.declared.lists.Slices.{Slices}
use Rattle.refute_tree.specs.declared.lists.Lists.{Lists}
use Rattle.refute_tree.specs.declared.lists.Place.{Place}
use Rattle.refute_tree.specs.code.Paths.{IsShortPath}
use Rattle.refute_tree.specs.code.Store.{Parts, parts, narrow_parts, step_by, together, small_by, large_by, points_by, bounds_by, literals_by, used, used_items, IsWhole, steps_by}
use Rattle.refute_tree.specs.code.Lists.{parts_of_slices, parts_of_lists, steps_of_slices, SlicesAreWhole, steps_of_lists, ListsAreWhole, AreSlices, AreSame, AreExtended, HavePath, HaveNarrow, HaveSmall, AreCutOut, IsPlaceOf, IsBefore, IsWithin}
use Rattle.refute_tree.proofs.Flats.{parts_same, points_by-append, bounds_by-append, literals_by-append, whole-append, steps_by-append, length-steps_by}
use Rattle.refute_tree.proofs.Cuts.{front_of, back_of, removed_whole, removed_steps, numbers_within, items_within, used-ordered, items-ordered}
use Rattle.refute_tree.proofs.PathParts.{path_parts, path_whole, path_step}

-- a store and what is behind it
module _ (before after : Lists) (ks : List Kind) (q : Parts) (kinds_are : after.kinds.items ≡ before.kinds.items ++ ks) (parts_are : parts_of_lists after ≡ together (parts_of_lists before) q) (h : ListsAreWhole before) where
  behind_whole : IsWhole ks q → ListsAreWhole after
  behind_whole m =
      subst (λ (kinds : List Kind). IsWhole kinds (parts_of_lists after)) (sym kinds_are)
      (subst (λ (p : Parts). IsWhole (before.kinds.items ++ ks) p) (sym parts_are) (whole-append before.kinds.items ks (parts_of_lists before) q h m))

  behind_steps : (steps : List Step) → steps_of_lists before ≡ steps → steps_of_lists after ≡ steps ++ steps_by ks q
  behind_steps steps v =
      ap (λ (kinds : List Kind). steps_by kinds (parts_of_lists after)) kinds_are
      ∙ ap (steps_by (before.kinds.items ++ ks)) parts_are
      ∙ steps_by-append before.kinds.items ks (parts_of_lists before) q h
      ∙ ap (λ (ss : List Step). ss ++ steps_by ks q) v

extended_parts : (before after : Lists) (more : Slices) → AreExtended before more after → parts_of_lists after ≡ together (parts_of_lists before) (parts_of_slices more)
extended_parts before after more e = parts_same _ _ _ _ _ _ _ _ _ _ e.small e.large e.points e.bounds e.literals

pub extended_whole : (before after : Lists) (more : Slices) → ListsAreWhole before → SlicesAreWhole more → AreExtended before more after → ListsAreWhole after
extended_whole before after more h m e = behind_whole before after more.kinds.now (parts_of_slices more) e.kinds (extended_parts before after more e) h m

pub extended_steps : (before after : Lists) (more : Slices) (steps : List Step) → ListsAreWhole before → steps_of_lists before ≡ steps → AreExtended before more after → steps_of_lists after ≡ steps ++ steps_of_slices more
extended_steps before after more steps h v e = behind_steps before after more.kinds.now (parts_of_slices more) e.kinds (extended_parts before after more e) h steps v

none_behind : {X : Type 0} (xs : List X) → xs ≡ xs ++ []
none_behind [] = refl
none_behind (x ∷ xs) = ap (λ ys. x ∷ ys) (none_behind xs)

-- a cycle that is kept as a path
path_behind : (before after : Lists) (cycle : List Literal) → HavePath before cycle after → parts_of_lists after ≡ together (parts_of_lists before) (path_parts cycle)
path_behind before after cycle e =
    parts_same _ _ _ _ _ _ _ _ _ _ e.small (e.large ∙ none_behind before.large.items) e.points e.bounds (e.literals ∙ none_behind before.literals.items)

pub path_added_whole : (before after : Lists) (cycle : List Literal) → ListsAreWhole before → IsShortPath cycle → HavePath before cycle after → ListsAreWhole after
path_added_whole before after cycle h s e = behind_whole before after (PathKind ∷ []) (path_parts cycle) e.kinds (path_behind before after cycle e) h (path_whole cycle s)

pub path_added_steps : (before after : Lists) (cycle : List Literal) (steps : List Step) → ListsAreWhole before → steps_of_lists before ≡ steps → IsShortPath cycle → HavePath before cycle after → steps_of_lists after ≡ steps ++ Cycle cycle ∷ []
path_added_steps before after cycle steps h v s e =
    behind_steps before after (PathKind ∷ []) (path_parts cycle) e.kinds (path_behind before after cycle e) h steps v
    ∙ ap (λ (step : Step). steps ++ step ∷ []) (path_step cycle s)

-- a step of a narrow literal
narrow_behind : (before after : Lists) (kind : Kind) (l : Literal) → HaveNarrow before kind l after → parts_of_lists after ≡ together (parts_of_lists before) (narrow_parts l)
narrow_behind before after kind l e =
    parts_same _ _ _ _ _ _ _ _ _ _ (e.small ∙ none_behind before.small.items) (e.large ∙ none_behind before.large.items) e.points e.bounds (e.literals ∙ none_behind before.literals.items)

pub narrow_added_whole : (before after : Lists) (kind : Kind) (l : Literal) → ListsAreWhole before → IsWhole (kind ∷ []) (narrow_parts l) → HaveNarrow before kind l after → ListsAreWhole after
narrow_added_whole before after kind l h w e = behind_whole before after (kind ∷ []) (narrow_parts l) e.kinds (narrow_behind before after kind l e) h w

pub narrow_added_steps : (before after : Lists) (kind : Kind) (l : Literal) (steps : List Step) → ListsAreWhole before → steps_of_lists before ≡ steps → HaveNarrow before kind l after → steps_of_lists after ≡ steps ++ step_by kind (narrow_parts l) ∷ []
narrow_added_steps before after kind l steps h v e = behind_steps before after (kind ∷ []) (narrow_parts l) e.kinds (narrow_behind before after kind l e) h steps v

-- a step of a small number
abbrev small_parts : ℕ → Parts
small_parts n = parts (n ∷ []) [] [] [] []

small_behind : (before after : Lists) (kind : Kind) (n : ℕ) → HaveSmall before kind n after → parts_of_lists after ≡ together (parts_of_lists before) (small_parts n)
small_behind before after kind n e =
    parts_same _ _ _ _ _ _ _ _ _ _ e.small (e.large ∙ none_behind before.large.items) (e.points ∙ none_behind before.points.items) (e.bounds ∙ none_behind before.bounds.items) (e.literals ∙ none_behind before.literals.items)

pub small_added_whole : (before after : Lists) (kind : Kind) (n : ℕ) → ListsAreWhole before → IsWhole (kind ∷ []) (parts (n ∷ []) [] [] [] []) → HaveSmall before kind n after → ListsAreWhole after
small_added_whole before after kind n h w e = behind_whole before after (kind ∷ []) (small_parts n) e.kinds (small_behind before after kind n e) h w

pub small_added_steps : (before after : Lists) (kind : Kind) (n : ℕ) (steps : List Step) → ListsAreWhole before → steps_of_lists before ≡ steps → HaveSmall before kind n after → steps_of_lists after ≡ steps ++ step_by kind (parts (n ∷ []) [] [] [] []) ∷ []
small_added_steps before after kind n steps h v e = behind_steps before after (kind ∷ []) (small_parts n) e.kinds (small_behind before after kind n e) h steps v

-- a store that is as before
pub same_whole : (before after : Lists) → ListsAreWhole before → AreSame before after → ListsAreWhole after
same_whole before after h e =
    subst (λ (kinds : List Kind). IsWhole kinds (parts_of_lists after)) (sym e.kinds)
    (subst (λ (p : Parts). IsWhole before.kinds.items p) (sym (parts_same _ _ _ _ _ _ _ _ _ _ e.small e.large e.points e.bounds e.literals)) h)

pub lists_length : (l : Lists) (steps : List Step) → steps_of_lists l ≡ steps → length steps ≡ length l.kinds.items
lists_length l steps v = sym (ap length v) ∙ length-steps_by l.kinds.items (parts_of_lists l)

slices_parts : (l : Lists) (s : Slices) → AreSlices l s → parts_of_slices s ≡ parts_of_lists l
slices_parts l s e = parts_same _ _ _ _ _ _ _ _ _ _ e.small e.large e.points e.bounds e.literals

module _ (l : Lists) (s : Slices) (h : ListsAreWhole l) (e : AreSlices l s) where
  pub slices_whole : SlicesAreWhole s
  slices_whole =
      subst (λ (kinds : List Kind). IsWhole kinds (parts_of_slices s)) (sym e.kinds)
      (subst (λ (p : Parts). IsWhole l.kinds.items p) (sym (slices_parts l s e)) h)

-- the places in the lists of a step
pub record IsPlaceIn (l : Lists) (step : ℕ) (p : Place) : Type 0 where
  pub kinds : p.kinds ≡ step
  pub small : p.small ≡ used small_by (take step l.kinds.items)
  pub large : p.large ≡ used large_by (take step l.kinds.items)
  pub points : p.points ≡ used_items small_by points_by (take step l.kinds.items) l.small.items
  pub bounds : p.bounds ≡ used_items small_by bounds_by (take step l.kinds.items) l.small.items
  pub literals : p.literals ≡ used_items large_by literals_by (take step l.kinds.items) l.large.items

place_in : (l : Lists) (s : Slices) (step : ℕ) (p : Place) → AreSlices l s → IsPlaceOf s step p → IsPlaceIn l step p
place_in l s step p e h = record {
  kinds = h.kinds;
  small = h.small ∙ ap (λ (ks : List Kind). used small_by (take step ks)) e.kinds;
  large = h.large ∙ ap (λ (ks : List Kind). used large_by (take step ks)) e.kinds;
  points = h.points ∙ ap (λ (ks : List Kind). used_items small_by points_by (take step ks) s.small.now) e.kinds ∙ ap (used_items small_by points_by (take step l.kinds.items)) e.small;
  bounds = h.bounds ∙ ap (λ (ks : List Kind). used_items small_by bounds_by (take step ks) s.small.now) e.kinds ∙ ap (used_items small_by bounds_by (take step l.kinds.items)) e.small;
  literals = h.literals ∙ ap (λ (ks : List Kind). used_items large_by literals_by (take step ks) s.large.now) e.kinds ∙ ap (used_items large_by literals_by (take step l.kinds.items)) e.large;
}

module _ (steps : List Step) (l after : Lists) (s s' : Slices) (low high : ℕ) (p q : Place) (whole : ListsAreWhole l) (view : steps_of_lists l ≡ steps) (order : low ≤ high) (within : high ≤ length steps) (e : AreSlices l s) (e' : AreSlices l s') (h : IsPlaceOf s low p) (k : IsPlaceOf s' high q) where
  at_low : IsPlaceIn l low p
  at_low = place_in l s low p e h

  at_high : IsPlaceIn l high q
  at_high = place_in l s' high q e' k

  pub high_within : high ≤ length l.kinds.items
  high_within = omega (arith, within, lists_length l steps view)

  pub places_ordered : IsBefore p q
  places_ordered = record {
    kinds = omega (arith, at_low.kinds, at_high.kinds, order);
    small = omega (arith, at_low.small, at_high.small, used-ordered small_by low high l.kinds.items order);
    large = omega (arith, at_low.large, at_high.large, used-ordered large_by low high l.kinds.items order);
    points = omega (arith, at_low.points, at_high.points, items-ordered small_by points_by low high l.kinds.items l.small.items order);
    bounds = omega (arith, at_low.bounds, at_high.bounds, items-ordered small_by bounds_by low high l.kinds.items l.small.items order);
    literals = omega (arith, at_low.literals, at_high.literals, items-ordered large_by literals_by low high l.kinds.items l.large.items order);
  }

  pub place_within : IsWithin l q
  place_within = record {
    kinds = omega (arith, at_high.kinds, high_within);
    small = omega (arith, at_high.small, numbers_within small_by high l.kinds.items l.small.items whole.small_all);
    large = omega (arith, at_high.large, numbers_within large_by high l.kinds.items l.large.items whole.large_all);
    points = omega (arith, at_high.points, items_within small_by high l.kinds.items l.small.items whole.small_all points_by points_by-append l.points.items whole.points_all);
    bounds = omega (arith, at_high.bounds, items_within small_by high l.kinds.items l.small.items whole.small_all bounds_by bounds_by-append l.bounds.items whole.bounds_all);
    literals = omega (arith, at_high.literals, items_within large_by high l.kinds.items l.large.items whole.large_all literals_by literals_by-append l.literals.items whole.literals_all);
  }

  cut_parts : AreCutOut l p q after → parts_of_lists after ≡ together (front_of low l.kinds.items (parts_of_lists l)) (back_of high l.kinds.items (parts_of_lists l))
  cut_parts c =
      parts_same _ _ _ _ _ _ _ _ _ _
      (c.small ∙ ap (λ n. take n l.small.items ++ drop q.small l.small.items) at_low.small ∙ ap (λ n. take (used small_by (take low l.kinds.items)) l.small.items ++ drop n l.small.items) at_high.small)
      (c.large ∙ ap (λ n. take n l.large.items ++ drop q.large l.large.items) at_low.large ∙ ap (λ n. take (used large_by (take low l.kinds.items)) l.large.items ++ drop n l.large.items) at_high.large)
      (c.points ∙ ap (λ n. take n l.points.items ++ drop q.points l.points.items) at_low.points ∙ ap (λ n. take (used_items small_by points_by (take low l.kinds.items) l.small.items) l.points.items ++ drop n l.points.items) at_high.points)
      (c.bounds ∙ ap (λ n. take n l.bounds.items ++ drop q.bounds l.bounds.items) at_low.bounds ∙ ap (λ n. take (used_items small_by bounds_by (take low l.kinds.items) l.small.items) l.bounds.items ++ drop n l.bounds.items) at_high.bounds)
      (c.literals ∙ ap (λ n. take n l.literals.items ++ drop q.literals l.literals.items) at_low.literals ∙ ap (λ n. take (used_items large_by literals_by (take low l.kinds.items) l.large.items) l.literals.items ++ drop n l.literals.items) at_high.literals)

  cut_kinds : AreCutOut l p q after → after.kinds.items ≡ take low l.kinds.items ++ drop high l.kinds.items
  cut_kinds c = c.kinds ∙ ap (λ n. take n l.kinds.items ++ drop q.kinds l.kinds.items) at_low.kinds ∙ ap (λ n. take low l.kinds.items ++ drop n l.kinds.items) at_high.kinds

  pub cut_whole : AreCutOut l p q after → ListsAreWhole after
  cut_whole c =
      subst (λ (kinds : List Kind). IsWhole kinds (parts_of_lists after)) (sym (cut_kinds c))
      (subst (λ (r : Parts). IsWhole (take low l.kinds.items ++ drop high l.kinds.items) r) (sym (cut_parts c)) (removed_whole low high l.kinds.items (parts_of_lists l) order high_within whole))

  pub cut_steps : AreCutOut l p q after → steps_of_lists after ≡ take low steps ++ drop high steps
  cut_steps c =
      ap (λ (kinds : List Kind). steps_by kinds (parts_of_lists after)) (cut_kinds c)
      ∙ ap (steps_by (take low l.kinds.items ++ drop high l.kinds.items)) (cut_parts c)
      ∙ removed_steps low high l.kinds.items (parts_of_lists l) order high_within whole
      ∙ ap (λ (ss : List Step). take low ss ++ drop high ss) view
