use Rattle.std.proofs.Common.{ap, sym, arith, ◌∙◌, ◌+◌, ◌*◌, ◌≤◌, ℕ, length}
use Rattle.idl_cases.specs.code.CaseSums.{added_each}
use Rattle.idl_cases.proofs.CaseBounds.{bounded_added, over_bounded}
use Rattle.idl_cases.proofs.CaseLaws.{length-added, fewer_product}
use Rattle.idl_cases.proofs.choices.Choices.sum.Goals as goal

pub invariant_of-tree : goal.invariant_of-tree
invariant_of-tree c =
    let first = c.args.first in
    let second = c.args.second in
    let long = length-added first second in
    let some = c.len.ensures.many in
    let more = c.len-2.ensures.many in
    let few = fewer_product (length first) (length second) some more in
    let fewer : length first + length second ≤ length (added_each first second) = omega (arith, long, few) in
    record {
      fewer = (some, more, fewer, over_bounded c.bounds.result first c.bounds.ensures.each, over_bounded c.bounds-2.result second c.bounds-2.ensures.each);
      counted = ap (λ (n : ℕ). n * c.len-2.result) c.len.ensures.count ∙ ap (λ (n : ℕ). length first * n) c.len-2.ensures.count ∙ sym long;
      many = omega (arith, fewer, some, more);
      limits = c.in-Some.ensures.0;
      each = bounded_added c.bounds.result c.bounds-2.result c.in-Some.bounds c.in-Some.ensures.1 first second c.bounds.ensures.each c.bounds-2.ensures.each;
    }
