use Rattle.std.proofs.Common.{rules, arith, ◌≡◌, ◌<◌, ◌≤◌, length, ◌+◌, ◌-◌, get_or, vec_len, drop, pos}
use Rattle.std.proofs.lemmas.List.{get_or_read}
use Rattle.stn_core.specs.Limits.{points_limit}
use Rattle.stn_core.specs.code.Rounds.{round_of}
use Rattle.stn_core.proofs.Walks.{marks-room, walked_more, cycle_found, not_late}
use Rattle.stn_core.proofs.cycle.cycle_from.Goals as goal

pub returns-then-label-eq0-clause-late : goal.returns-then-label-eq0-clause-late
returns-then-label-eq0-clause-late c late =
    let w = c.steps.invariant in
    let in_places : c.steps.point < length c.steps.places.items = omega arith in
    let read = get_or_read c.steps.places.items c.steps.point c.index.result.now in_places c.index.ensures 0 in
    let free : get_or c.steps.places.items c.steps.point 0 ≡ 0 = omega (arith, c.steps-test.true) in
    absurd (not_late c.args.labels.now c.args.start c.steps.places.items c.steps.walk.items c.steps.point w free c.if-label-eq0.true late)

pub overflow_cast-len : goal.overflow_cast-len
overflow_cast-len c =
    let w = c.steps.invariant in
    let in_places : c.steps.point < length c.steps.places.items = omega arith in
    let read = get_or_read c.steps.places.items c.steps.point c.index.result.now in_places c.index.ensures 0 in
    let free : get_or c.steps.places.items c.steps.point 0 ≡ 0 = omega (arith, c.steps-test.true) in
    let room = marks-room c.steps.places.items c.steps.point in_places free in
    let few : length c.args.labels.now ≤ points_limit = c.requires.few in
    let longer : vec_len c.push.new.self ≡ length c.steps.walk.items + 1 = search rules in
    omega arith

pub steps-smaller : goal.steps-smaller
steps-smaller c =
    let w = c.steps.invariant in
    let in_places : c.steps.point < length c.steps.places.items = omega arith in
    let read = get_or_read c.steps.places.items c.steps.point c.index.result.now in_places c.index.ensures 0 in
    let free : get_or c.steps.places.items c.steps.point 0 ≡ 0 = omega (arith, c.steps-test.true) in
    let room = marks-room c.steps.places.items c.steps.point in_places free in
    let longer : length c.push.new.self.items ≡ length c.steps.walk.items + 1 = search rules in
    omega arith

pub steps-preserved : goal.steps-preserved
steps-preserved c =
    let w = c.steps.invariant in
    let in_places : c.steps.point < length c.steps.places.items = omega arith in
    let read = get_or_read c.steps.places.items c.steps.point c.index.result.now in_places c.index.ensures 0 in
    let free : get_or c.steps.places.items c.steps.point 0 ≡ 0 = omega (arith, c.steps-test.true) in
    let moved : 0 < round_of c.args.labels.now c.steps.point = omega (arith, c.if-label-eq0.false) in
    let longer : c.len.result ≡ length c.steps.walk.items + 1 = search rules in
    rw (longer, c.in_ok-push.ensures.items) (walked_more c.args.labels.now c.args.start c.steps.places.items c.steps.walk.items c.steps.point c.requires.fallen w free moved)

pub split_off-requires : goal.split_off-requires
split_off-requires c =
    let w = c.steps.invariant in
    let in_places : c.steps.point < length c.steps.places.items = omega arith in
    let read = get_or_read c.steps.places.items c.steps.point c.index.result.now in_places c.index.ensures 0 in
    let same = get_or_read c.steps.places.items c.steps.point c.index-2.result.now in_places c.index-2.ensures 0 in
    let again : 0 < get_or c.steps.places.items c.steps.point 0 = omega (arith, c.steps-test.false) in
    let length_is : vec_len c.steps.walk ≡ length c.steps.walk.items = search rules in
    omega (arith, (w.marked c.steps.point (record { x = 0; y = 0; c = pos 0 }) again).0)

pub returns-clause-cycle : goal.returns-clause-cycle
returns-clause-cycle c =
    let w = c.steps.invariant in
    let in_places : c.steps.point < length c.steps.places.items = omega arith in
    let read = get_or_read c.steps.places.items c.steps.point c.index.result.now in_places c.index.ensures 0 in
    let same = get_or_read c.steps.places.items c.steps.point c.index-2.result.now in_places c.index-2.ensures 0 in
    let again : 0 < get_or c.steps.places.items c.steps.point 0 = omega (arith, c.steps-test.false) in
    let e : c.in_ok-split_off.field-0.items ≡ drop (c.index-2.result.now - 1) c.steps.walk.items = c.in_ok-split_off.ensures.tail in
    rw (c.new.ensures, e, same) (cycle_found c.args.labels.now c.args.start c.steps.places.items c.steps.walk.items c.steps.point c.requires.fallen w again)
