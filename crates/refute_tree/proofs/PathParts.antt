-- Paths, by their points and bounds.
use Rattle.std.proofs.Common.{All, ◌^◌, ℕ, ℤ, pos, ◌≡◌, ◌+◌, ◌≤◌, ◌<◌, zero, suc, List, [], ◌∷◌, length, take, drop, map, ap, ◌∙◌, sym, refl, subst, arith, Some, slice_index, slice_index_or, ◌+ℤ◌, ◌<ℤ◌}
use Rattle.std.specs.Prelude.{slice_get}
use Rattle.std.proofs.lemmas.List.{length-map, take_all, take_more, drop_more, drop_all}
use Rattle.std.proofs.lemmas.List.Elements.{All-push}
use Rattle.stn_core.specs.Literal.{literal_at}
use Rattle.stn_core.specs.declared.literal.Literal.{Literal}
use Rattle.stn_core.specs.Cycle.{Leads, weight_of, IsNegativeCycle}
use Rattle.refute_tree.specs.declared.kind.Kind.TheVariants.{Path as PathKind}
use Rattle.refute_tree.specs.declared.step.Step.TheVariants.{Cycle}
use Rattle.refute_tree.specs.code.Paths.{path_of, points_of, bounds_of, IsNarrow, IsShortPath}
use Rattle.refute_tree.specs.code.Store.{Parts, parts, IsWhole, step_by}

-- what a cycle has that is kept as a path
abbrev pub path_parts : List Literal → Parts
path_parts cycle = parts (length cycle ∷ []) [] (points_of cycle) (bounds_of cycle) []

abbrev ends_of : List Literal → List ℕ
ends_of ls = map (λ (l : Literal). l.y) ls

path_back : (from to : ℕ) (ls : List Literal) → Leads from ls to → path_of (from ∷ ends_of ls) (bounds_of ls) ≡ ls
path_back from to [] h = refl
path_back from to (l ∷ ls) h =
    ap (λ n. record { x = n; y = l.y; c = l.c } ∷ path_of (l.y ∷ ends_of ls) (bounds_of ls)) (sym h.0)
    ∙ ap (λ (ms : List Literal). l ∷ ms) (path_back l.y to ls h.1)

pub path_is : (ls : List Literal) → IsShortPath ls → path_of (points_of ls) (bounds_of ls) ≡ ls
path_is [] h = refl
path_is (l ∷ ls) h =
    path_back l.x h.leads.1 (l ∷ ls) (refl, h.leads.2.1)

points_length : (ls : List Literal) → 0 < length ls → length (points_of ls) ≡ length ls + 1
points_length [] h = absurd (omega arith)
points_length (l ∷ ls) h = omega (arith, length-map ls (λ (m : Literal). m.y))

pub path_whole : (ls : List Literal) → IsShortPath ls → IsWhole (PathKind ∷ []) (path_parts ls)
path_whole ls h = record {
  small_all = refl;
  large_all = refl;
  points_all = omega (arith, points_length ls h.some);
  bounds_all = omega (arith, length-map ls (λ (m : Literal). m.c));
  literals_all = refl;
}

pub path_step : (ls : List Literal) → IsShortPath ls → step_by PathKind (path_parts ls) ≡ Cycle ls
path_step ls h =
    ap (λ (ps : List ℕ). Cycle (path_of ps (take (length ls) (bounds_of ls)))) (take_all (length ls + 1) (points_of ls) (omega (arith, points_length ls h.some)))
    ∙ ap (λ (bs : List ℤ). Cycle (path_of (points_of ls) bs)) (take_all (length ls) (bounds_of ls) (omega (arith, length-map ls (λ (m : Literal). m.c))))
    ∙ ap Cycle (path_is ls h)

-- ---- paths that are read

pub path_length : (points : List ℕ) (bounds : List ℤ) → length points ≡ length bounds + 1 → length (path_of points bounds) ≡ length bounds
path_length [] bounds h = absurd (omega arith)
path_length (x ∷ []) [] h = refl
path_length (x ∷ []) (c ∷ bounds) h = absurd (omega arith)
path_length (x ∷ y ∷ points) [] h = absurd (omega arith)
path_length (x ∷ y ∷ points) (c ∷ bounds) h = ap suc (path_length (y ∷ points) bounds (omega arith))

pub path_at : (points : List ℕ) (bounds : List ℤ) (k : ℕ) → length points ≡ length bounds + 1 → k < length bounds → slice_get (path_of points bounds) k ≡ Some (record { x = slice_index points k; y = slice_index points (suc k); c = slice_index_or bounds k (pos 0) })
path_at [] bounds k h lt = absurd (omega arith)
path_at (x ∷ []) [] k h lt = absurd (omega arith)
path_at (x ∷ []) (c ∷ bounds) k h lt = absurd (omega arith)
path_at (x ∷ y ∷ points) [] k h lt = absurd (omega arith)
path_at (x ∷ y ∷ points) (c ∷ bounds) zero h lt = refl
path_at (x ∷ y ∷ points) (c ∷ bounds) (suc k) h lt = path_at (y ∷ points) bounds k (omega arith) (omega arith)

-- the sum of bounds
abbrev pub sum_of : List ℤ → ℤ
sum_of [] = pos 0
sum_of (c ∷ bounds) = c +ℤ sum_of bounds

pub path_weight : (points : List ℕ) (bounds : List ℤ) → length points ≡ length bounds + 1 → weight_of (path_of points bounds) ≡ sum_of bounds
path_weight [] bounds h = absurd (omega arith)
path_weight (x ∷ []) [] h = refl
path_weight (x ∷ []) (c ∷ bounds) h = absurd (omega arith)
path_weight (x ∷ y ∷ points) [] h = absurd (omega arith)
path_weight (x ∷ y ∷ points) (c ∷ bounds) h = ap (λ s. c +ℤ s) (path_weight (y ∷ points) bounds (omega arith))

pub path_leads : (points : List ℕ) (bounds : List ℤ) → length points ≡ length bounds + 1 → Leads (slice_index points 0) (path_of points bounds) (slice_index points (length bounds))
path_leads [] bounds h = absurd (omega arith)
path_leads (x ∷ []) [] h = refl
path_leads (x ∷ []) (c ∷ bounds) h = absurd (omega arith)
path_leads (x ∷ y ∷ points) [] h = absurd (omega arith)
path_leads (x ∷ y ∷ points) (c ∷ bounds) h = (refl, path_leads (y ∷ points) bounds (omega arith))

leads_once : (from a b : ℕ) (ls : List Literal) → Leads from ls a → Leads from ls b → a ≡ b
leads_once from a b [] h k = sym h ∙ k
leads_once from a b (l ∷ ls) h k = leads_once l.y a b ls h.1 k.1

leads_from : (from from' a b : ℕ) (ls : List Literal) → 0 < length ls → Leads from ls a → Leads from' ls b → from ≡ from'
leads_from from from' a b [] lt h k = absurd (omega arith)
leads_from from from' a b (l ∷ ls) lt h k = sym h.0 ∙ k.0

-- a path that closes leads from its first point to that
pub path_closed : (points : List ℕ) (bounds : List ℤ) (point : ℕ) → length points ≡ length bounds + 1 → 0 < length bounds → Leads point (path_of points bounds) point → slice_index points 0 ≡ slice_index points (length bounds)
path_closed points bounds point h some leads =
    let own = path_leads points bounds h in
    let last = slice_index points (length bounds) in
    let from : slice_index points 0 ≡ point = leads_from (slice_index points 0) point last point (path_of points bounds) (omega (arith, path_length points bounds h)) own leads in
    let moved : Leads point (path_of points bounds) last = subst (λ n. Leads n (path_of points bounds) last) from own in
    from ∙ sym (leads_once point last point (path_of points bounds) moved leads)

abbrev literal : ℕ → ℕ → ℤ → Literal
literal x y c = record { x = x; y = y; c = c }

pub path_at_by : (points : List ℕ) (bounds : List ℤ) (k x y : ℕ) (c : ℤ) → length points ≡ length bounds + 1 → k < length bounds → x ≡ slice_index points k → y ≡ slice_index points (k + 1) → c ≡ slice_index_or bounds k (pos 0) → slice_get (path_of points bounds) k ≡ Some (record { x = x; y = y; c = c })
path_at_by points bounds k x y c h lt e f g =
    let next : suc k ≡ k + 1 = omega arith in
    path_at points bounds k h lt
    ∙ ap (λ n. Some (literal n (slice_index points (suc k)) (slice_index_or bounds k (pos 0)))) (sym e)
    ∙ ap (λ n. Some (literal x (slice_index points n) (slice_index_or bounds k (pos 0)))) next
    ∙ ap (λ n. Some (literal x (n) (slice_index_or bounds k (pos 0)))) (sym f)
    ∙ ap (λ (n : ℤ). Some (literal x (y) (n))) (sym g)

pub negative_is : (points : List ℕ) (bounds : List ℤ) → length points ≡ length bounds + 1 → 0 < length bounds → slice_index points 0 ≡ slice_index points (length bounds) → sum_of bounds <ℤ pos 0 → IsNegativeCycle (path_of points bounds)
negative_is points bounds h some closed negative = record {
  some = omega (arith, path_length points bounds h);
  closed = (slice_index points 0, subst (λ n. Leads (slice_index points 0) (path_of points bounds) n) (sym closed) (path_leads points bounds h));
  negative = subst (λ (n : ℤ). n <ℤ pos 0) (sym (path_weight points bounds h)) negative;
}

pub negative_sum : (points : List ℕ) (bounds : List ℤ) → length points ≡ length bounds + 1 → IsNegativeCycle (path_of points bounds) → sum_of bounds <ℤ pos 0
negative_sum points bounds h n = subst (λ (m : ℤ). m <ℤ pos 0) (path_weight points bounds h) n.negative

pub negative_some : (points : List ℕ) (bounds : List ℤ) → length points ≡ length bounds + 1 → IsNegativeCycle (path_of points bounds) → 0 < length bounds
negative_some points bounds h n = omega (arith, n.some, path_length points bounds h)

pub negative_closed : (points : List ℕ) (bounds : List ℤ) → length points ≡ length bounds + 1 → IsNegativeCycle (path_of points bounds) → slice_index points 0 ≡ slice_index points (length bounds)
negative_closed points bounds h n = path_closed points bounds n.closed.0 h (negative_some points bounds h n) n.closed.1

-- ---- the look at a list

pub narrow_more : (ls : List Literal) (i : ℕ) → i < length ls → All IsNarrow (take i ls) → IsNarrow (literal_at ls i) → All IsNarrow (take (i + 1) ls)
narrow_more ls i lt h n =
    subst (All IsNarrow) (sym (take_more ls i (literal 0 0 (pos 0)) lt)) (All-push IsNarrow _ _ h n)

-- what leads on from behind a literal leads on from before it
pub leads_more : (ls : List Literal) (i point : ℕ) → i < length ls → (literal_at ls i).x ≡ point → ((to : ℕ) → Leads point (drop i ls) to → Leads (literal_at ls 0).x ls to) → (to : ℕ) → Leads (literal_at ls i).y (drop (i + 1) ls) to → Leads (literal_at ls 0).x ls to
leads_more ls i point lt here h to rest =
    h to (subst (λ (ms : List Literal). Leads point ms to) (sym (drop_more ls i (literal 0 0 (pos 0)) lt)) (here, rest))

pub short_path : (ls : List Literal) (i point : ℕ) → 0 < length ls → length ls < 2 ^ 32 → length ls ≤ i → All IsNarrow (take i ls) → ((to : ℕ) → Leads point (drop i ls) to → Leads (literal_at ls 0).x ls to) → IsShortPath ls
short_path ls i point some few all narrow leads =
    let ends : Leads point (drop i ls) point = subst (λ (ms : List Literal). Leads point ms point) (sym (drop_all i ls all)) refl in
    record {
      some = some;
      few = few;
      narrow = subst (All IsNarrow) (take_all i ls all) narrow;
      leads = ((literal_at ls 0).x, point, leads point ends);
    }
