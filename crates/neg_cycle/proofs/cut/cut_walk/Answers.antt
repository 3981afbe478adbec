use Rattle.std.proofs.Common.{arith, rules, refl, sym, ap, subst, ◌∙◌, ◌≡◌, ◌<◌, List, Vec, Global, length, [], drop, take, pos, ◌≤ℤ◌, ◌<ℤ◌}
use Rattle.std.proofs.lemmas.Int.{ints}
use Rattle.stn_core.specs.declared.literal.Literal.{Literal}
use Rattle.stn_core.specs.Cycle.{weight_of}
use Rattle.neg_cycle.proofs.Cuts.{IsWalking, IsCutOut, begins, not_ended, lacks_from_fresh, next_fresh, turn_on, turn_out, turn_off, same_keys, cut_keys}
use Rattle.neg_cycle.proofs.cut.cut_walk.Goals.{in-Some+else-sum_from-lt0, in_default}
use Rattle.neg_cycle.proofs.cut.cut_walk.Goals as goal

pub walk-init : goal.walk-init
walk-init c =
    let path : c.new-path.result.items ≡ [] = search rules in
    let points : c.new-points.result.keys ≡ [] = search rules in
    rw (path, points) (record { walking = begins c.args.walk c.requires; points = refl })

pub append-requires : goal.append-requires
append-requires c =
    let same : c.deref-literal-items.result.now ≡ c.args.walk = c.deref-literal-items.ensures.value ∙ c.into_vec-literals.ensures in
    let count : length c.deref-literal-items.result.now ≡ length c.args.walk = ap (length {A = Literal}) same in
    let lt : c.walk.literal-index < length c.args.walk = omega arith in
    rw same (lacks_from_fresh c.walk.points.keys c.walk.path.items _ c.walk.invariant.points (next_fresh c.args.walk c.walk.path.items c.walk.literal-index c.walk.invariant.walking lt))

found : (c : goal.After-drop-literals-then-sum_from-lt0) → IsCutOut c.args.walk c.new.result
found c =
    let same : c.deref-literal-items.result.now ≡ c.args.walk = c.deref-literal-items.ensures.value ∙ c.into_vec-literals.ensures in
    let now = c.deref-literal-items.result.now in
    let walking : IsWalking now c.walk.path.items c.walk.literal-index = subst (λ (ls : List Literal). IsWalking ls c.walk.path.items c.walk.literal-index) (sym same) c.walk.invariant.walking in
    let lt : c.walk.literal-index < length now = omega arith in
    let sum : c.sum_from.result ≡ weight_of (drop c.in-Some.place c.push.new.self.items) = c.sum_from.ensures ∙ ap (λ (ls : List Literal). weight_of (drop c.in-Some.place ls)) c.deref.ensures.value in
    let side = c.if-sum_from-lt0.true in
    let sign : weight_of (drop c.in-Some.place c.push.new.self.items) <ℤ pos 0 = grind (arith, ints, sum, side) in
    rw (c.new.ensures ∙ c.in_ok-split_off.ensures.tail, sym same) (turn_out now c.walk.path.items c.push.new.self.items c.walk.points.keys c.append.new.points.keys c.walk.literal-index walking c.walk.invariant.points lt c.in_ok-push.ensures.items c.in_ok-append.ensures c.in-Some.place c.in-Some.ensures.some sign)

pub returns-then-sum_from-lt0-clause-negative : goal.returns-then-sum_from-lt0-clause-negative
returns-then-sum_from-lt0-clause-negative c = (found c).negative

pub returns-then-sum_from-lt0-clause-simple : goal.returns-then-sum_from-lt0-clause-simple
returns-then-sum_from-lt0-clause-simple c = (found c).simple

pub returns-then-sum_from-lt0-clause-given : goal.returns-then-sum_from-lt0-clause-given
returns-then-sum_from-lt0-clause-given c = (found c).given

pub walk-preserved : goal.walk-preserved
walk-preserved c =
    let same : c.deref-literal-items.result.now ≡ c.args.walk = c.deref-literal-items.ensures.value ∙ c.into_vec-literals.ensures in
    let now = c.deref-literal-items.result.now in
    let walking : IsWalking now c.walk.path.items c.walk.literal-index = subst (λ (ls : List Literal). IsWalking ls c.walk.path.items c.walk.literal-index) (sym same) c.walk.invariant.walking in
    let lt : c.walk.literal-index < length now = omega arith in
    elim c.match-place_of.branch [
      | in-Some+else-sum_from-lt0 w ↦
          let sum : w.sum_from.result ≡ weight_of (drop w.in-Some.place c.push.new.self.items) = w.sum_from.ensures ∙ ap (λ (ls : List Literal). weight_of (drop w.in-Some.place ls)) w.deref.ensures.value in
          let side = w.if-sum_from-lt0.false in
          let sign : pos 0 ≤ℤ weight_of (drop w.in-Some.place c.push.new.self.items) = grind (arith, ints, sum, side) in
          let path : c.match-place_of.path.items ≡ take w.in-Some.place c.push.new.self.items = ap (λ (v : Vec Literal Global). v.items) w.path-is ∙ w.truncate.ensures.items in
          let points : c.match-place_of.points.keys ≡ take w.in-Some.place c.append.new.points.keys = rw w.points-is w.truncate-in-Some.ensures.keys in
          rw (path, points, sym same) (record { walking = turn_off now c.walk.path.items c.push.new.self.items c.walk.points.keys c.append.new.points.keys c.walk.literal-index walking c.walk.invariant.points lt c.in_ok-push.ensures.items c.in_ok-append.ensures w.in-Some.place w.in-Some.ensures.some sign; points = cut_keys now c.walk.path.items c.push.new.self.items c.walk.points.keys c.append.new.points.keys c.walk.literal-index walking c.walk.invariant.points lt c.in_ok-push.ensures.items c.in_ok-append.ensures w.in-Some.place })
      | in_default w ↦
          let path : c.match-place_of.path.items ≡ c.push.new.self.items = ap (λ (v : Vec Literal Global). v.items) w.path-is in
          let points : c.match-place_of.points.keys ≡ c.append.new.points.keys = rw w.points-is refl in
          rw (path, points, sym same) (record { walking = turn_on now c.walk.path.items c.push.new.self.items c.walk.points.keys c.append.new.points.keys c.walk.literal-index walking c.walk.invariant.points lt c.in_ok-push.ensures.items c.in_ok-append.ensures w.in_default.ensures.none; points = same_keys now c.walk.path.items c.push.new.self.items c.walk.points.keys c.append.new.points.keys c.walk.literal-index walking c.walk.invariant.points lt c.in_ok-push.ensures.items c.in_ok-append.ensures })
    ]

pub unreachable-requires : goal.unreachable-requires
unreachable-requires c =
    let same : c.deref-literal-items.result.now ≡ c.args.walk = c.deref-literal-items.ensures.value ∙ c.into_vec-literals.ensures in
    let count : length c.deref-literal-items.result.now ≡ length c.args.walk = ap (length {A = Literal}) same in
    not_ended c.args.walk c.walk.path.items c.walk.literal-index (omega arith) c.walk.invariant.walking
