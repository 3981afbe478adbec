use Rattle.std.proofs.Common.{◌<◌, ◌≤◌, ◌+◌, [], ◌∷◌, ◌≡◌, length, refl, ap, arith}
use Rattle.std.proofs.lemmas.Option.{slice_get_read}
use Rattle.std.proofs.lemmas.List.{length-append, nil_from_length as empty_list}
use Rattle.std.specs.Vec.{vec_len}
use Rattle.smt_sexpr.proofs.PrinterLoop.{size, Writing, writing_starts, top_means, listed, writing_closes, writing_goes, item_means, writing_ends, writing_bound, writing_front, front_of_more}
use Rattle.smt_sexpr.proofs.printer.write.Goals as goal
use Rattle.smt_sexpr.proofs.printer.write.Goals.{In_ok-push-in-None, In_ok-begin-in-Some-get}

pub lists-init : goal.lists-init
lists-init c = writing_starts _ _ c.requires.0 _ _ _ _ c.requires.1 c.new-stack.ensures.items (c.in_ok-begin.ensures.leaf, c.in_ok-begin.ensures.list)

pub items-requires : goal.items-requires
items-requires c = top_means _ _ _ _ _ _ _ c.lists.invariant c.in-Some.ensures.items

closed : (c : In_ok-push-in-None) → Writing c.args.table.now c.args.id c.args.out.now.items c.pop.new.self.items c.push.new.self.items
closed c =
    writing_closes _ _ _ _ _ _ _ _ _ c.lists.invariant c.in-Some.ensures.items
    (listed (λ s. s.now) _ _ _ _ c.unwrap_or-items.result c.items.ensures c.unwrap_or-items.ensures)
    c.in-None.ensures.lookup.3 c.in_ok-push-in-None.ensures.items

pub lists-preserved-in-Continue-branch-2 : goal.lists-preserved-in-Continue-branch-2
lists-preserved-in-Continue-branch-2 c = closed c

pub lists-smaller-in-Continue-branch-2 : goal.lists-smaller-in-Continue-branch-2
lists-smaller-in-Continue-branch-2 c =
    let bound : length c.push.new.self.items ≤ length c.args.out.now.items + size c.args.table.now c.args.id = writing_bound _ _ _ _ _ _ c.requires.1 (closed c) in
    omega (arith, ap length c.in_ok-push-in-None.ensures.items, length-append c.lists.out.items (41 ∷ []))

pub begin-requires-in-Some-get : goal.begin-requires-in-Some-get
begin-requires-in-Some-get c =
    item_means _ _ _ _ _ _ _ _ _ c.lists.invariant c.in-Some.ensures.items
    (listed (λ s. s.now) _ _ _ _ c.unwrap_or-items.result c.items.ensures c.unwrap_or-items.ensures)
    (slice_get_read _ _ _ _ refl c.in-Some-get.ensures.lookup.3.0 c.in-Some-get.ensures.lookup.1)

gone : (c : In_ok-begin-in-Some-get) → Writing c.args.table.now c.args.id c.args.out.now.items c.begin-in-Some-get.new.stack.items c.begin-in-Some-get.new.out.items × (length c.lists.out.items < length c.begin-in-Some-get.new.out.items)
gone c =
    writing_goes _ _ _ _ _ _ _ _ _ _ _ _ _ c.lists.invariant c.in-Some.ensures.items
    (listed (λ s. s.now) _ _ _ _ c.unwrap_or-items.result c.items.ensures c.unwrap_or-items.ensures)
    (slice_get_read _ _ _ _ refl c.in-Some-get.ensures.lookup.3.0 c.in-Some-get.ensures.lookup.1) c.in_ok-separate-in-Some-get.ensures.ok c.in_ok-push-in-Some-get.ensures.items
    (c.in_ok-begin-in-Some-get.ensures.leaf, c.in_ok-begin-in-Some-get.ensures.list)

pub lists-preserved : goal.lists-preserved
lists-preserved c = (gone c).0

pub lists-smaller : goal.lists-smaller
lists-smaller c =
    let bound : length c.begin-in-Some-get.new.out.items ≤ length c.args.out.now.items + size c.args.table.now c.args.id = writing_bound _ _ _ _ _ _ c.requires.1 (gone c).0 in
    let more : length c.lists.out.items < length c.begin-in-Some-get.new.out.items = (gone c).1 in
    omega arith

pub returns-in_err-separate-in-Some-get-clause-front : goal.returns-in_err-separate-in-Some-get-clause-front
returns-in_err-separate-in-Some-get-clause-front c =
    let n : vec_len c.args.out.now ≡ length c.args.out.now.items = omega arith in
    let k : vec_len c.lists.out ≡ length c.lists.out.items = omega arith in
    rw n (writing_front _ _ _ _ _ _ c.lists.invariant (rw (← k) c.in_err-separate-in-Some-get.ensures.front))

pub returns-in_err-begin-in-Some-get-clause-front : goal.returns-in_err-begin-in-Some-get-clause-front
returns-in_err-begin-in-Some-get-clause-front c =
    let n : vec_len c.args.out.now ≡ length c.args.out.now.items = omega arith in
    let k : vec_len c.separate.new.out ≡ length c.separate.new.out.items = omega arith in
    rw n (writing_front _ _ _ _ _ _ c.lists.invariant (front_of_more _ _ _ _ c.in_ok-separate-in-Some-get.ensures.ok (rw (← k) c.in_err-begin-in-Some-get.ensures.front)))

pub returns-clause-ok : goal.returns-clause-ok
returns-clause-ok c = λ x m. writing_ends _ _ _ _ _ c.lists.invariant (empty_list _ (omega (arith, c.in_default.ensures.cases.0))) x m
