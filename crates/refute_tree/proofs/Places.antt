-- Places in the lists, from the end back.
use Rattle.std.proofs.Common.{arith, ◌≡◌, ℕ, ◌≤◌, ◌<◌, ◌+◌, ◌-◌, List, length, take, drop, ap, ◌∙◌, sym, refl, subst, slice_index_or}
use Rattle.std.proofs.lemmas.List.{take_all}
use Rattle.refute_tree.specs.declared.kind.Kind.{Kind}
use Rattle.refute_tree.specs.declared.kind.Kind.TheVariants.{Path}
use Rattle.refute_tree.specs.declared.lists.Slices.{Slices}
use Rattle.refute_tree.specs.declared.lists.Place.{Place}
use Rattle.refute_tree.specs.code.Store.{small_by, large_by, points_by, bounds_by, literals_by, used, used_items}
use Rattle.refute_tree.specs.code.Lists.{SlicesAreWhole, IsPlaceOf, EndsStep, IsBeforeStep}
use Rattle.refute_tree.proofs.Cuts.{numbers_within, used-before, items-before}

module _ (s : Slices) (p : Place) (whole : SlicesAreWhole s) (some : 0 < p.kinds) (most : p.kinds ≤ length s.kinds.now) (here : IsPlaceOf s p.kinds p) where
  abbrev kind : Kind
  kind = slice_index_or s.kinds.now (p.kinds - 1) Path

  abbrev smalls : ℕ
  smalls = used small_by (take (p.kinds - 1) s.kinds.now)

  abbrev larges : ℕ
  larges = used large_by (take (p.kinds - 1) s.kinds.now)

  small_is : p.small ≡ smalls + small_by kind
  small_is = here.small ∙ used-before small_by p.kinds s.kinds.now Path some most

  large_is : p.large ≡ larges + large_by kind
  large_is = here.large ∙ used-before large_by p.kinds s.kinds.now Path some most

  points_is : (a : ℕ) → a ≡ smalls → p.points ≡ used_items small_by points_by (take (p.kinds - 1) s.kinds.now) s.small.now + points_by kind (drop a s.small.now)
  points_is a e = here.points ∙ items-before small_by p.kinds s.kinds.now Path some most points_by a s.small.now e

  bounds_is : (a : ℕ) → a ≡ smalls → p.bounds ≡ used_items small_by bounds_by (take (p.kinds - 1) s.kinds.now) s.small.now + bounds_by kind (drop a s.small.now)
  bounds_is a e = here.bounds ∙ items-before small_by p.kinds s.kinds.now Path some most bounds_by a s.small.now e

  literals_is : (a : ℕ) → a ≡ larges → p.literals ≡ used_items large_by literals_by (take (p.kinds - 1) s.kinds.now) s.large.now + literals_by kind (drop a s.large.now)
  literals_is a e = here.literals ∙ items-before large_by p.kinds s.kinds.now Path some most literals_by a s.large.now e

  pub ends_step : EndsStep s kind p
  ends_step = record {
    kinds = some;
    small = omega (arith, small_is);
    small_in = omega (arith, here.small, numbers_within small_by p.kinds s.kinds.now s.small.now whole.small_all);
    large = omega (arith, large_is);
    large_in = omega (arith, here.large, numbers_within large_by p.kinds s.kinds.now s.large.now whole.large_all);
    points = omega (arith, points_is (p.small - small_by kind) (omega (arith, small_is)));
    bounds = omega (arith, bounds_is (p.small - small_by kind) (omega (arith, small_is)));
    literals = omega (arith, literals_is (p.large - large_by kind) (omega (arith, large_is)));
  }

  pub place_before : (q : Place) → IsBeforeStep s kind p q → IsPlaceOf s q.kinds q
  place_before q b =
      let less : p.kinds - 1 ≡ q.kinds = omega (arith, b.kinds) in
      let front : take (p.kinds - 1) s.kinds.now ≡ take q.kinds s.kinds.now = ap (λ n. take n s.kinds.now) less in
      let small_at : q.small ≡ smalls = omega (arith, b.small, small_is) in
      let large_at : q.large ≡ larges = omega (arith, b.large, large_is) in
      record {
        kinds = refl;
        small = small_at ∙ ap (used small_by) front;
        large = large_at ∙ ap (used large_by) front;
        points = (let t : q.points ≡ used_items small_by points_by (take (p.kinds - 1) s.kinds.now) s.small.now = omega (arith, b.points, points_is q.small small_at) in t) ∙ ap (λ (ks : List Kind). used_items small_by points_by ks s.small.now) front;
        bounds = (let t : q.bounds ≡ used_items small_by bounds_by (take (p.kinds - 1) s.kinds.now) s.small.now = omega (arith, b.bounds, bounds_is q.small small_at) in t) ∙ ap (λ (ks : List Kind). used_items small_by bounds_by ks s.small.now) front;
        literals = (let t : q.literals ≡ used_items large_by literals_by (take (p.kinds - 1) s.kinds.now) s.large.now = omega (arith, b.literals, literals_is q.large large_at) in t) ∙ ap (λ (ks : List Kind). used_items large_by literals_by ks s.large.now) front;
      }

pub place_at : (s : Slices) (p : Place) (step : ℕ) → p.kinds ≡ step → IsPlaceOf s p.kinds p → IsPlaceOf s step p
place_at s p step e h = subst (λ n. IsPlaceOf s n p) e h
