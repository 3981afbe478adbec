-- The path along a walk, out of which closed parts are cut.
use Rattle.std.proofs.Common.{arith, refl, ap, sym, ◌∙◌, subst, inl, inr, ◌≡◌, ◌≢◌, ℕ, ◌<◌, ◌≤◌, ◌+◌, List, [], ◌∷◌, ◌++◌, length, take, drop, map, slice_index, get_or, eqb, position, Option, Some, None, true, false, All, Contains, pos, ◌+ℤ◌, ◌<ℤ◌, ◌≤ℤ◌}
use Rattle.std.proofs.lemmas.Int.{ints}
use Rattle.std.proofs.lemmas.Bool.{cases_lt, ne_eqb}
use Rattle.std.proofs.lemmas.Bool.Decides.{nat_tests}
use Rattle.std.proofs.lemmas.List.Folds.{list_any_at, list_any_none}
use Rattle.std.proofs.lemmas.Grind.{get_or_default_zero}
use Rattle.std.proofs.lemmas.List.Quantifiers.{position-Some}
use Rattle.std.proofs.lemmas.List.{take-append-drop, length-drop, length-take, length_push, get_or_append_left, get_or_push, get_or-drop, get_or-take, drop_more, drop_all, map_push, length-map, take-map}
use Rattle.std.proofs.Math.ListN.{get_or-map}
use Rattle.std.specs.List.{list_any}
use Rattle.std.specs.Option.{is_some, IfSome, IfNone}
use Rattle.std.proofs.lemmas.List.Elements.{All-push, All-take, All-drop, Contains-get_or}
use Rattle.stn_core.specs.declared.literal.Literal.{Literal}
use Rattle.stn_core.specs.Cycle.{Leads, weight_of, IsNegativeCycle}
use Rattle.stn_core.proofs.Walks.{Leads-push, Leads-drop}
use Rattle.neg_cycle.specs.Simple.{x_at, IsSimple, LacksPoint}
use Rattle.stn_core.proofs.Cycles.{weight_of-push, Leads-take}
use Rattle.neg_cycle.proofs.Joined.{weight_of-append}

abbrev pub none : Literal
none = record { x = 0; y = 0; c = pos 0 }

-- the path leads from the start to the point that the rest of the walk leads back from
pub record IsPath (walk path : List Literal) (start point place : ℕ) : Type 0 where
  pub simple : IsSimple path
  pub leads : Leads start path point
  pub rest : Leads point (drop place walk) start
  pub negative : (weight_of path +ℤ weight_of (drop place walk)) <ℤ pos 0
  pub given : All (Contains walk) path

-- the point is not on the path yet
abbrev pub IsFresh : List Literal → ℕ → Type 0
IsFresh path point = (k : ℕ) → k < length path → x_at path k ≢ point

pub record IsWalking (walk path : List Literal) (place : ℕ) : Type 0 where
  pub start : ℕ
  pub point : ℕ
  pub along : IsPath walk path start point place
  pub fresh : IsFresh path point

pub begins : (walk : List Literal) → IsNegativeCycle walk → IsWalking walk [] 0
begins walk n =
    let below = n.negative in
    record {
      start = n.closed.0;
      point = n.closed.0;
      along = record { simple = λ i j lt h. absurd (omega arith); leads = refl; rest = n.closed.1; negative = omega (arith, ints); given = λ d k h. absurd (omega arith) };
      fresh = λ k h. absurd (omega arith);
    }

simple-push : (path : List Literal) (l : Literal) → IsSimple path → IsFresh path l.x → IsSimple (path ++ l ∷ [])
simple-push path l simple fresh = λ i j lt h.
    let longer = length_push path l in
    let front : x_at (path ++ l ∷ []) i ≡ x_at path i = ap (λ (m : Literal). m.x) (get_or_append_left path (l ∷ []) none i (omega arith)) in
    elim (cases_lt j (length path)) [
      | inl below ↦
          let there : x_at (path ++ l ∷ []) j ≡ x_at path j = ap (λ (m : Literal). m.x) (get_or_append_left path (l ∷ []) none j below) in
          λ e. simple i j lt below (sym front ∙ e ∙ there)
      | inr above ↦
          let last : x_at (path ++ l ∷ []) j ≡ l.x = ap (λ (m : Literal). m.x) (get_or_push path l none j (omega arith)) in
          λ e. fresh i (omega arith) (sym front ∙ e ∙ last)
    ]

-- one more literal of the walk
pub longer : (walk path : List Literal) (place : ℕ) (w : IsWalking walk path place) → place < length walk → IsPath walk (path ++ get_or walk place none ∷ []) w.start (get_or walk place none).y (place + 1)
longer walk path place w lt =
    let l : Literal = get_or walk place none in
    let at : drop place walk ≡ l ∷ drop (place + 1) walk = drop_more walk place none lt in
    let p = w.along in
    let rest : (l.x ≡ w.point) × Leads l.y (drop (place + 1) walk) w.start = subst (λ (ls : List Literal). Leads w.point ls w.start) at p.rest in
    let sum : weight_of (drop place walk) ≡ l.c +ℤ weight_of (drop (place + 1) walk) = ap weight_of at in
    let pushed = weight_of-push path l in
    let below = p.negative in
    record {
      simple = simple-push path l p.simple (λ k h e. w.fresh k h (e ∙ rest.0));
      leads = Leads-push w.start path w.point l p.leads rest.0;
      rest = rest.1;
      negative = omega (arith, ints);
      given = All-push (Contains walk) path l p.given (Contains-get_or walk place none lt);
    }

-- the path goes on where the new point isn't on it
pub goes_on : (walk path : List Literal) (start point place : ℕ) → IsPath walk path start point place → IsFresh path point → IsWalking walk path place
goes_on walk path start point place p fresh = record { start = start; point = point; along = p; fresh = fresh }

-- where it comes back to a point of its own, the part since then is a simple cycle
pub part_closed : (walk path : List Literal) (start point place k : ℕ) → IsPath walk path start point place → k < length path → x_at path k ≡ point → Leads point (drop k path) point
part_closed walk path start point place k p lt e =
    subst (λ (q : ℕ). Leads q (drop k path) point) e (Leads-drop start path point k none p.leads lt)

part_simple : (path : List Literal) (k : ℕ) → IsSimple path → IsSimple (drop k path)
part_simple path k simple = λ i j lt h.
    let shorter = length-drop k path in
    let first = ap (λ (m : Literal). m.x) (get_or-drop k path i none) in
    let second = ap (λ (m : Literal). m.x) (get_or-drop k path j none) in
    λ e. simple (k + i) (k + j) (omega arith) (omega arith) (sym first ∙ e ∙ second)

-- a simple negative cycle of the walk's literals
pub record IsCutOut (walk cycle : List Literal) : Type 0 where
  pub negative : IsNegativeCycle cycle
  pub simple : IsSimple cycle
  pub given : All (Contains walk) cycle

pub cut_out : (walk path : List Literal) (start point place k : ℕ) → IsPath walk path start point place → k < length path → x_at path k ≡ point → weight_of (drop k path) <ℤ pos 0 → IsCutOut walk (drop k path)
cut_out walk path start point place k p lt e below = record {
  negative = record {
    some = omega (arith, length-drop k path);
    closed = (point, part_closed walk path start point place k p lt e);
    negative = below;
  };
  simple = part_simple path k p.simple;
  given = All-drop (Contains walk) k path p.given;
}

-- the path without that part, which has no sum below 0
pub cut_off : (walk path : List Literal) (start point place k : ℕ) → IsPath walk path start point place → k < length path → x_at path k ≡ point → pos 0 ≤ℤ weight_of (drop k path) → IsWalking walk (take k path) place
cut_off walk path start point place k p lt e above =
    let shorter = length-take k path in
    let sums : weight_of (take k path ++ drop k path) ≡ weight_of (take k path) +ℤ weight_of (drop k path) = weight_of-append (take k path) (drop k path) in
    let whole : weight_of (take k path ++ drop k path) ≡ weight_of path = ap weight_of (take-append-drop k path) in
    let below = p.negative in
    let at : (i : ℕ) → i < k → x_at (take k path) i ≡ x_at path i = λ i h. ap (λ (m : Literal). m.x) (get_or-take k path i none h) in
    record {
      start = start;
      point = point;
      along = record {
        simple = λ i j less h. (λ same. p.simple i j less (omega arith) (sym (at i (omega arith)) ∙ same ∙ at j (omega arith)));
        leads = subst (λ (q : ℕ). Leads start (take k path) q) e (Leads-take start path point k none p.leads lt);
        rest = p.rest;
        negative = omega (arith, ints);
        given = All-take (Contains walk) k path p.given;
      };
      fresh = λ i h. (λ same. p.simple i k (omega arith) lt (sym (at i (omega arith)) ∙ same ∙ sym e));
    }

-- the walk does not end before a part is cut out
pub not_ended : (walk path : List Literal) (place : ℕ) → length walk ≤ place → IsWalking walk path place → ⊥
not_ended walk path place ended w =
    let p = w.along in
    let at : drop place walk ≡ [] = drop_all place walk ended in
    let home : w.point ≡ w.start = subst (λ (ls : List Literal). Leads w.point ls w.start) at p.rest in
    let sum : weight_of (drop place walk) ≡ pos 0 = ap weight_of at in
    let below = p.negative in
    let negative : weight_of path <ℤ pos 0 = omega (arith, ints) in
    back path w.start w.point p.leads negative w.fresh home
  where
    back : (path : List Literal) (start point : ℕ) → Leads start path point → weight_of path <ℤ pos 0 → IsFresh path point → point ≡ start → ⊥
    back [] start point leads below fresh e = absurd (omega (arith, ints))
    back (l ∷ ls) start point leads below fresh e = fresh 0 (omega arith) (leads.0 ∙ sym e)

abbrev pub x_of : Literal → ℕ
x_of l = l.x

-- the list of the path's points
key_at : (path : List Literal) (k : ℕ) → slice_index (map x_of path) k ≡ x_at path k
key_at path k = get_or-map x_of path k none

pub lacks_from_fresh : (keys : List ℕ) (path : List Literal) (point : ℕ) → keys ≡ map x_of path → IsFresh path point → LacksPoint keys point
lacks_from_fresh keys path point e fresh = λ k h.
    let same : length keys ≡ length path = ap (length {A = ℕ}) e ∙ length-map path x_of in
    let at : slice_index keys k ≡ x_at path k = ap (λ (ks : List ℕ). slice_index ks k) e ∙ key_at path k in
    λ here. fresh k (omega arith) (sym at ∙ here)

pub fresh_from_lacks : (keys : List ℕ) (path : List Literal) (point : ℕ) → keys ≡ map x_of path → LacksPoint keys point → IsFresh path point
fresh_from_lacks keys path point e lacks = λ k h.
    let same : length keys ≡ length path = ap (length {A = ℕ}) e ∙ length-map path x_of in
    let at : slice_index keys k ≡ x_at path k = ap (λ (ks : List ℕ). slice_index ks k) e ∙ key_at path k in
    λ here. lacks k (omega arith) (at ∙ here)

pub place_found : (keys : List ℕ) (path : List Literal) (point k : ℕ) → keys ≡ map x_of path → (k < length keys) × (slice_index keys k ≡ point) → (k < length path) × (x_at path k ≡ point)
place_found keys path point k e found =
    let same : length keys ≡ length path = ap (length {A = ℕ}) e ∙ length-map path x_of in
    let at : slice_index keys k ≡ x_at path k = ap (λ (ks : List ℕ). slice_index ks k) e ∙ key_at path k in
    let within = found.0 in
    (omega arith, sym at ∙ found.1)

pub keys-push : (keys : List ℕ) (path : List Literal) (l : Literal) → keys ≡ map x_of path → keys ++ l.x ∷ [] ≡ map x_of (path ++ l ∷ [])
keys-push keys path l e = ap (λ (ks : List ℕ). ks ++ l.x ∷ []) e ∙ sym (map_push x_of path l)

pub next_fresh : (walk path : List Literal) (place : ℕ) → IsWalking walk path place → place < length walk → IsFresh path (get_or walk place none).x
next_fresh walk path place w lt =
    let at : drop place walk ≡ get_or walk place none ∷ drop (place + 1) walk = drop_more walk place none lt in
    let rest : ((get_or walk place none).x ≡ w.point) × Leads (get_or walk place none).y (drop (place + 1) walk) w.start = subst (λ (ls : List Literal). Leads w.point ls w.start) at w.along.rest in
    λ k h e. w.fresh k h (e ∙ rest.0)

-- the answers of a set of numbers
pub place_some : (keys : List ℕ) (point k : ℕ) → position (eqb point) keys ≡ Some k → (k < length keys) × (slice_index keys k ≡ point)
place_some keys point k e =
    let found = position-Some (eqb point) keys k 0 e in
    let same : eqb point (get_or keys k 0) ≡ true = found.1 in
    (found.0, grind (arith, nat_tests))

pub place_none : (keys : List ℕ) (point : ℕ) → list_any (eqb point) keys ≡ false → LacksPoint keys point
place_none keys point none_there = λ k h e.
    let yes : eqb point (get_or keys k 0) ≡ true = grind (arith, nat_tests) in
    let there : list_any (eqb point) keys ≡ true = list_any_at (eqb point) keys k 0 h yes in
    cc

pub none_any : (keys : List ℕ) (point : ℕ) → LacksPoint keys point → list_any (eqb point) keys ≡ false
none_any keys point lacks = list_any_none (eqb point) keys (λ k d h.
    let away : get_or keys k 0 ≢ point = lacks k h in
    let same : get_or keys k d ≡ get_or keys k 0 = get_or_default_zero keys k d h in
    let away' : (point ≡ get_or keys k d) → ⊥ = λ e. away (sym same ∙ sym e) in
    ne_eqb point (get_or keys k d) away')

pub place_by : (keys : List ℕ) (point : ℕ) (r : Option ℕ) → r ≡ position (eqb point) keys → IfSome r (λ k. (k < length keys) × (slice_index keys k ≡ point))
place_by keys point None e = tt
place_by keys point (Some k) e = place_some keys point k (sym e)

pub lacks_by : (keys : List ℕ) (point : ℕ) (r : Option ℕ) → is_some r ≡ list_any (eqb point) keys → IfNone r (LacksPoint keys point)
lacks_by keys point None e = place_none keys point (sym e)
lacks_by keys point (Some k) e = tt

-- one turn along the walk, with the list of the path's points: the path takes a literal, and then the new point is looked for
module _ (walk path longer_path : List Literal) (keys longer_keys : List ℕ) (place : ℕ) (w : IsWalking walk path place) (e : keys ≡ map x_of path) (lt : place < length walk) (pushed : longer_path ≡ path ++ get_or walk place none ∷ []) (noted : longer_keys ≡ keys ++ (get_or walk place none).x ∷ []) where
  pub same_keys : longer_keys ≡ map x_of longer_path
  same_keys = noted ∙ keys-push keys path (get_or walk place none) e ∙ ap (map x_of) (sym pushed)

  pub further : IsPath walk longer_path w.start (get_or walk place none).y (place + 1)
  further = subst (λ (ls : List Literal). IsPath walk ls w.start (get_or walk place none).y (place + 1)) (sym pushed) (longer walk path place w lt)

  pub turn_on : LacksPoint longer_keys (get_or walk place none).y → IsWalking walk longer_path (place + 1)
  turn_on lacks = goes_on walk longer_path w.start (get_or walk place none).y (place + 1) further (fresh_from_lacks longer_keys longer_path (get_or walk place none).y same_keys lacks)

  pub turn_out : (k : ℕ) → (k < length longer_keys) × (slice_index longer_keys k ≡ (get_or walk place none).y) → weight_of (drop k longer_path) <ℤ pos 0 → IsCutOut walk (drop k longer_path)
  turn_out k found below =
      let at = place_found longer_keys longer_path (get_or walk place none).y k same_keys found in
      cut_out walk longer_path w.start (get_or walk place none).y (place + 1) k further at.0 at.1 below

  pub turn_off : (k : ℕ) → (k < length longer_keys) × (slice_index longer_keys k ≡ (get_or walk place none).y) → pos 0 ≤ℤ weight_of (drop k longer_path) → IsWalking walk (take k longer_path) (place + 1)
  turn_off k found above =
      let at = place_found longer_keys longer_path (get_or walk place none).y k same_keys found in
      cut_off walk longer_path w.start (get_or walk place none).y (place + 1) k further at.0 at.1 above

  pub cut_keys : (k : ℕ) → take k longer_keys ≡ map x_of (take k longer_path)
  cut_keys k = ap (take k) same_keys ∙ take-map x_of k longer_path
