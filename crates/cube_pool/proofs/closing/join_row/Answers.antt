use Rattle.std.proofs.Common.{arith, ◌≡◌, ◌≤◌, ◌+◌, ◌∙◌, ◌-◌, map, length}
use Rattle.std.proofs.lemmas.List.{length-map}
use Rattle.cube_pool.specs.Lanes.{whole}
use Rattle.cube_pool.specs.Hands.{deque_of}
use Rattle.cube_pool.proofs.Lists.{length_pushed}
use Rattle.cube_pool.proofs.Endings.{becomes_joint, row_left_front}
use Rattle.cube_pool.proofs.Parts.{joins_own, put_nothing, row_left, takers_left, joining, put_joined, taken_joined}
use Rattle.cube_pool.proofs.closing.join_row.Goals as goal

pub join-requires-clause-pass : goal.join-requires-clause-pass
join-requires-clause-pass c =
    let pool = map deque_of c.args.row.items in
    let many : length pool ≡ length c.args.row.items = length-map c.args.row.items deque_of in
    let few : length c.row.row.items ≤ length pool = omega (arith, many, c.row.invariant.few) in
    (joins_own pool c.row.lanes.items _ (whole - c.args.left) c.row.row.items c.pop.new.self.items c.in-Some.pass c.in-Some.ensures.items c.row.invariant.row c.row.invariant.takers c.row.invariant.ends few (omega (arith, c.len.ensures, c.len-in-Some.ensures)) c.index_mut.result.now c.index_mut.ensures.value).0

pub join-requires-clause-put : goal.join-requires-clause-put
join-requires-clause-put c =
    let pool = map deque_of c.args.row.items in
    let many : length pool ≡ length c.args.row.items = length-map c.args.row.items deque_of in
    let few : length c.row.row.items ≤ length pool = omega (arith, many, c.row.invariant.few) in
    put_nothing pool c.row.lanes.items (c.len.result - 1 - c.len-in-Some.result) (whole - c.args.left) c.row.row.items c.pop.new.self.items c.in-Some.pass c.in-Some.ensures.items c.row.invariant.row c.row.invariant.takers c.row.invariant.ends few (omega (arith, c.len.ensures, c.len-in-Some.ensures))

pub join-requires-clause-parts : goal.join-requires-clause-parts
join-requires-clause-parts c =
    let pool = map deque_of c.args.row.items in
    let many : length pool ≡ length c.args.row.items = length-map c.args.row.items deque_of in
    let few : length c.row.row.items ≤ length pool = omega (arith, many, c.row.invariant.few) in
    let own = joins_own pool c.row.lanes.items _ (whole - c.args.left) c.row.row.items c.pop.new.self.items c.in-Some.pass c.in-Some.ensures.items c.row.invariant.row c.row.invariant.takers c.row.invariant.ends few (omega (arith, c.len.ensures, c.len-in-Some.ensures)) c.index_mut.result.now c.index_mut.ensures.value in
    (own.2, omega (arith, own.1, c.requires.left.1))

pub returns-clause-joint : goal.returns-clause-joint
returns-clause-joint c k d l = (c.row.invariant.joint_ k d l).0 (omega (arith, c.in_default.ensures.cases.0))

pub row-preserved : goal.row-preserved
row-preserved c =
    let pool = map deque_of c.args.row.items in
    let many : length pool ≡ length c.args.row.items = length-map c.args.row.items deque_of in
    let few : length c.row.row.items ≤ length pool = omega (arith, many, c.row.invariant.few) in
    let place = c.len.result - 1 - c.len-in-Some.result in
    let at : place ≡ length c.row.lanes.items - 1 - length c.pop.new.self.items = omega (arith, c.len.ensures, c.len-in-Some.ensures) in
    let s = c.row.row.items in
    let t = c.pop.new.self.items in
    let e = c.in-Some.ensures.items in
    let v = c.row.invariant in
    let was = c.index_mut.ensures.value in
    let knows = c.join.ensures.views in
    let popped : length s ≡ length t + 1 = length_pushed s t c.in-Some.pass e in
    let count : length c.row.lanes.items ≡ length c.args.row.items = omega (arith, v.ends.0, many) in
    record {
      few = omega (arith, popped, v.few);
      row = row_left pool c.row.lanes.items place (whole - c.args.left) s t c.in-Some.pass e v.row v.takers v.ends few at;
      takers = takers_left pool c.row.lanes.items place (whole - c.args.left) s t c.in-Some.pass e v.row v.takers v.ends few at;
      ends = joining pool c.row.lanes.items place (whole - c.args.left) s t c.in-Some.pass e v.row v.takers v.ends few at c.index_mut.result.now c.join.new.lane was c.join.ensures.same.0 knows;
      put = λ h. put_joined pool c.row.lanes.items place (whole - c.args.left) s t c.in-Some.pass e v.row v.takers v.ends few at h c.index_mut.result.now c.join.new.lane was knows ∙ v.put h;
      taken = λ h. taken_joined pool c.row.lanes.items place (whole - c.args.left) s t c.in-Some.pass e v.row v.takers v.ends few at h c.index_mut.result.now c.join.new.lane was knows ∙ v.taken h;
      front = row_left_front c.row.lanes.items c.row.lanes.items c.args.row.items s t c.in-Some.pass c.index_mut.result.now c.join.new.lane place e v.front count v.few at was knows;
      joint_ = becomes_joint c.args.lanes.now.items c.row.lanes.items c.args.row.items s t c.in-Some.pass c.index_mut.result.now c.join.new.lane place e v.front count v.few at was knows v.joint_;
    }
