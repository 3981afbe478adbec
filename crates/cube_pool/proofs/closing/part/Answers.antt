use Rattle.std.proofs.Common.{arith, ◌≡◌, ℕ, ◌+◌, ◌-◌, ◌∙◌, ap, length, refl}
use Rattle.std.specs.Prelude.{slice_get}
use Rattle.cube_pool.specs.Lanes.{whole}
use Rattle.cube_pool.specs.Hands.{Doings}
use Rattle.cube_pool.specs.code.Closings.{Lane, Row, IsEnd, IsRow}
use Rattle.cube_pool.proofs.Endings.{all_parted, fetched_parted, known_parted, owns_parted}
use Rattle.cube_pool.proofs.Lists.{all_pushed, front_popped, length_pushed}
use Rattle.cube_pool.proofs.Parts.{hands_left, row_parted, end_parted, put_parted, taken_parted}
use Rattle.cube_pool.proofs.closing.part.Goals as goal

pub hands-preserved : goal.hands-preserved
hands-preserved c =
    let pool = c.args.pool.now in
    let s = c.hands.hands.items in
    let t = c.pop.new.self.items in
    let lanes = c.hands.lanes.items in
    let lane = c.hand.inside.lane in
    let row = c.hand.inside.passes in
    let number = c.hand.inside.number in
    let e = c.in-Some.ensures.items in
    let is_pool = ap (λ (d : Doings). d.pool) c.hand.view_is in
    let is_number = ap (λ (d : Doings). d.number) c.hand.view_is in
    let is_pushed = ap (λ (d : Doings). d.pushed) c.hand.view_is in
    let is_fetched = ap (λ (d : Doings). d.fetched) c.hand.view_is in
    let is_known = ap (λ (d : Doings). d.known_by_pushes) c.hand.view_is in
    let is_seen = ap (λ (d : Doings). d.known_by_fetches) c.hand.view_is in
    let v = c.hands.invariant in
    let h = c.hand.invariant in
    let hands = c.hands.invariant.hands in
    let el = c.in_ok-push.ensures.items in
    let er = c.in_ok-push-2.ensures.items in
    let P : ℕ → Lane → Type 0 = λ k l. IsEnd (slice_get pool (length pool - 1 - k)) (whole - length pool) l in
    let Q : ℕ → Row → Type 0 = λ k r. IsRow pool r.items in
    let popped : length s ≡ length t + 1 = length_pushed s t c.in-Some.hand e in
    let longer : length c.push.new.self.items ≡ length lanes + 1 = length_pushed c.push.new.self.items lanes lane el in
    let more : length c.push-in-Some.new.self.items ≡ length c.hands.rows.items + 1 = length_pushed c.push-in-Some.new.self.items c.hands.rows.items row er in
    let count = c.hands.invariant.count in
    let same = c.hands.invariant.same in
    record {
      hands = hands_left pool s t c.in-Some.hand number c.hand.inside.pushes lane row.items e h hands is_pool is_number is_pushed is_fetched;
      ends = all_pushed P c.push.new.self.items lanes lane el c.hands.invariant.ends
          (end_parted pool s t c.in-Some.hand number c.hand.inside.pushes lane row.items e h hands is_pool is_number is_pushed is_fetched (length lanes) (omega (arith, count, popped)));
      count = omega (arith, count, popped, longer);
      same = omega (arith, same, more, longer);
      rows = all_pushed Q c.push-in-Some.new.self.items c.hands.rows.items row er c.hands.invariant.rows
          (row_parted pool s t c.in-Some.hand number c.hand.inside.pushes lane row.items e h hands is_pool is_number is_pushed is_fetched);
      put = λ w. put_parted pool s t c.in-Some.hand number c.hand.inside.pushes lane row.items e h hands is_pool is_number is_pushed is_fetched w lanes c.push.new.self.items el ∙ c.hands.invariant.put w;
      taken = λ w. taken_parted pool s t c.in-Some.hand number c.hand.inside.pushes lane row.items e h hands is_pool is_number is_pushed is_fetched w lanes c.push.new.self.items c.hands.rows.items c.push-in-Some.new.self.items row el er refl ∙ c.hands.invariant.taken w;
      front = front_popped c.args.hands.items s t c.in-Some.hand e v.front;
      own = owns_parted c.in-Some.hand lane row.items h is_pushed is_known pool c.args.hands.items s t lanes c.push.new.self.items e el (omega (arith, count)) v.front v.own;
      fetched = λ k w. fetched_parted k s t c.in-Some.hand c.hands.rows.items c.push-in-Some.new.self.items row e er w is_fetched ∙ v.fetched k w;
      known = λ k log all rest. (
          let both = known_parted k s t c.in-Some.hand c.hands.rows.items c.push-in-Some.new.self.items row e er log is_seen all rest in
          v.known k log both.0 both.1);
    }

pub returns : goal.returns
returns c =
    let v = c.hands.invariant in
    all_parted c.args.pool.now c.args.hands.items c.hands.hands.items c.hands.lanes.items c.hands.rows.items (omega (arith, c.in_default.ensures.cases.0)) (omega (arith, v.count)) (omega (arith, v.same)) v.ends v.rows v.put v.taken v.own v.fetched v.known
