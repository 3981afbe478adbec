use Rattle.std.proofs.Common.{arith, ◌≡◌, ◌∙◌, ◌+◌, ◌-◌, ap, ℕ, List, length, subst, sym, ◌<◌}
use Rattle.std.proofs.Math.ListN.{get_or}
use Rattle.std.proofs.lemmas.List.{length-map}
use Rattle.crossbeam_deque.specs.Handles.{worker_view}
use Rattle.cube_pool.specs.Lanes.{joint, whole}
use Rattle.cube_pool.specs.Hands.{Deque, deque_of}
use Rattle.cube_pool.specs.code.Closings.{Row, AreEnds, IsRow, seen_at, taken_in, taken_over}
use Rattle.cube_pool.proofs.Endings.{has_taken_in, none_over, takes_in}
use Rattle.cube_pool.proofs.Lists.{first_of, last_of, length_pushed}
use Rattle.cube_pool.proofs.Parts.{sum_popped}
use Rattle.cube_pool.proofs.closing.join_all.Goals as goal

pub rows-preserved : goal.rows-preserved
rows-preserved c =
    let pool = c.args.pool.now in
    let P : ℕ → Row → Type 0 = λ k r. IsRow pool r.items in
    let s = c.rows.rows.items in
    let t = c.pop.new.self.items in
    let e = c.in-Some.ensures.items in
    let v = c.rows.invariant in
    let popped : length s ≡ length t + 1 = length_pushed s t c.in-Some.row e in
    let row : IsRow pool c.in-Some.row.items = last_of P s t c.in-Some.row e v.rows in
    let parts : whole - (c.len.result + 1) + 1 ≡ whole - c.len.result = omega (arith, c.len.ensures, popped, v.few, c.requires.few) in
    let ends = subst (λ (p : List Deque). AreEnds p (whole - (c.len.result + 1) + 1) c.join_row.new.lanes.items) row.0 c.join_row.ensures.lanes in
    record {
      few = omega (arith, popped, v.few);
      rows = first_of P s t c.in-Some.row e v.rows;
      ends = subst (λ (n : ℕ). AreEnds pool n c.join_row.new.lanes.items) (parts ∙ ap (λ (n : ℕ). whole - n) c.len.ensures) ends;
      put = λ h. c.join_row.ensures.put h ∙ v.put h;
      taken = λ h. (
          let one = c.join_row.ensures.taken h in
          let two : taken_over h s ≡ taken_over h t + taken_in h c.in-Some.row.items = sum_popped (λ (r : Row). taken_in h r.items) s t c.in-Some.row e in
          let three = v.taken h in
          omega (arith, one, two, three));
      each = λ k d l. (
          let many : length c.in-Some.row.items ≡ length pool = sym (length-map c.in-Some.row.items deque_of) ∙ ap length row.0 in
          let before : k < length c.rows.lanes.items = omega (arith, l, v.ends.0, c.join_row.ensures.lanes.0, length-map c.in-Some.row.items deque_of, many) in
          let joint_ = c.join_row.ensures.joint k d l ∙ ap (λ (n : ℕ). joint (worker_view (get_or c.rows.lanes.items k d)) (seen_at (n - 1 - k) c.in-Some.row.items)) many in
          takes_in (length pool - 1 - k) c.args.rows.items s t c.in-Some.row (worker_view (get_or c.args.lanes.now.items k d)) (worker_view (get_or c.rows.lanes.items k d)) (worker_view (get_or c.join_row.new.lanes.items k d)) e row.1 joint_ (v.each k d before));
    }

pub returns : goal.returns
returns c =
    let v = c.rows.invariant in
    let pool = c.args.pool.now in
    let none : length c.rows.rows.items ≡ 0 = omega (arith, c.in_default.ensures.cases.0) in
    record {
      ends = subst (λ (n : ℕ). AreEnds pool (whole - n) c.rows.lanes.items) c.in_default.ensures.cases.0 v.ends;
      put = v.put;
      taken = λ h. (let t = v.taken h in let z = none_over h c.rows.rows.items none in omega (arith, t, z));
      each = λ k d l. has_taken_in (length pool - 1 - k) c.rows.rows.items c.args.rows.items (worker_view (get_or c.args.lanes.now.items k d)) (worker_view (get_or c.rows.lanes.items k d)) none (v.each k d l);
    }
