use Rattle.std.proofs.Common.{rules, arith, ap, sym, subst, ◌∙◌, ◌≡◌, ◌<◌, ◌+◌, ◌++◌, ◌+ℤ◌, ℤ, Bool, List, to_z, of_z}
use Rattle.std.proofs.lemmas.Int.{ints}
use Rattle.std.specs.Int.{w128}
use Rattle.idl_linear.specs.declared.summand.Summand.{Summand}
use Rattle.idl_linear.specs.declared.tree.Part.{Part}
use Rattle.idl_linear.specs.Limits.{coefficient_limit}
use Rattle.idl_linear.specs.Linear.{with_summand, is_within}
use Rattle.idl_linear.specs.Forms.{AscendAbove}
use Rattle.idl_linear.specs.code.Steps.{IsRest, Refuses}
use Rattle.idl_linear.specs.code.TreeParts.{tree_in, IsParted}
use Rattle.idl_linear.specs.code.Trees.{TreeValue, coefficient_at}
use Rattle.std.proofs.lemmas.Result.{err_from_is_err_and}
use Rattle.idl_linear.proofs.Coefficients.{summand, ascend-with}
use Rattle.idl_linear.proofs.Forks.{left_rest, right_rest, left_with, right_with, left_stays, right_stays, left_coefficient, right_coefficient}
use Rattle.idl_linear.proofs.tree.+with_more.Goals as goal

pub build-requires : goal.build-requires
build-requires t c =
    let seen : c.args.tree.now.summands ≡ c.in-Leaf.items.items = sym (ap (λ (v : TreeValue). v.summands) c.tree.view_is) ∙ ap (λ (p : Part). (tree_in p).summands) c.in-Leaf.is in
    let s = summand c.args.point (to_z w128 (of_z w128 c.args.more)) in
    let list : c.deref-in-Leaf.result.now ≡ with_summand s c.args.tree.now.summands = c.deref-in-Leaf.ensures.value ∙ c.in_ok-items-in-Leaf.ensures.ok ∙ ap (with_summand s) (c.deref.ensures.value ∙ sym seen) in
    subst (λ (l : List Summand). AscendAbove 0 l) (sym list) (ascend-with 0 s c.args.tree.now.summands c.requires.above c.requires.rest.ascends)

pub with_more-requires : goal.with_more-requires
with_more-requires t c =
    let seen : c.args.tree.now.summands ≡ c.in-Fork.left.value.summands ++ c.in-Fork.right.value.summands = sym (ap (λ (v : TreeValue). v.summands) c.tree.view_is) ∙ ap (λ (p : Part). (tree_in p).summands) c.in-Fork.is in
    let tall : c.args.tree.now.height ≡ 1 + (c.in-Fork.left.value.height + c.in-Fork.right.value.height) = sym (ap (λ (v : TreeValue). v.height) c.tree.view_is) ∙ ap (λ (p : Part). (tree_in p).height) c.in-Fork.is in
    let parted = (subst (λ (p : Part). IsParted p) c.in-Fork.is c.tree.invariant).0 in
    let same = c.deref-then-point-middle.ensures in
    let list = ap (λ (v : TreeValue). v.summands) same in
    let tall_side = ap (λ (v : TreeValue). v.height) same in
    let number : to_z w128 (of_z w128 c.args.more) ≡ c.args.more = omega (arith, ints, c.requires.low, c.requires.high) in
    let smaller : c.deref-then-point-middle.result.now.height < c.args.tree.now.height = omega (arith, tall, tall_side) in
    let rest : IsRest c.deref-then-point-middle.result.now.summands = left_rest c.in-Fork.middle c.args.tree.now.summands c.in-Fork.left.value.summands c.in-Fork.right.value.summands seen parted _ list c.requires.rest in
    let low = c.requires.low in
    let high = c.requires.high in
    rw number (search rules)

pub returns-in_err-left-in-Fork-clause-refused : goal.returns-in_err-left-in-Fork-clause-refused
returns-in_err-left-in-Fork-clause-refused t c =
    let seen : c.args.tree.now.summands ≡ c.in-Fork.left.value.summands ++ c.in-Fork.right.value.summands = sym (ap (λ (v : TreeValue). v.summands) c.tree.view_is) ∙ ap (λ (p : Part). (tree_in p).summands) c.in-Fork.is in
    let parted = (subst (λ (p : Part). IsParted p) c.in-Fork.is c.tree.invariant).0 in
    let list = ap (λ (v : TreeValue). v.summands) c.deref-then-point-middle.ensures in
    let number : to_z w128 (of_z w128 c.args.more) ≡ c.args.more = omega (arith, ints, c.requires.low, c.requires.high) in
    let total : is_within coefficient_limit (coefficient_at c.args.point c.deref-then-point-middle.result.now.summands +ℤ to_z w128 (of_z w128 c.args.more)) ≡ is_within coefficient_limit (coefficient_at c.args.point c.args.tree.now.summands +ℤ c.args.more) = ap (λ (z : ℤ). is_within coefficient_limit (z +ℤ to_z w128 (of_z w128 c.args.more))) (left_coefficient c.in-Fork.middle c.args.tree.now.summands c.in-Fork.left.value.summands c.in-Fork.right.value.summands seen parted c.args.point c.if-point-middle.true c.deref-then-point-middle.result.now.summands list) ∙ ap (λ (z : ℤ). is_within coefficient_limit (coefficient_at c.args.point c.args.tree.now.summands +ℤ z)) number in
    let refused : Refuses c.in_err-left-in-Fork.field-0.0 (is_within coefficient_limit (coefficient_at c.args.point c.args.tree.now.summands +ℤ c.args.more)) = subst (λ (b : Bool). Refuses c.in_err-left-in-Fork.field-0.0 b) total c.in_err-left-in-Fork.ensures.refused in
    let p = err_from_is_err_and c.from_residual-in_err-left-in-Fork.result c.from_residual-in_err-left-in-Fork.ensures.1 in
    rw (p.1, p.2) refused

pub fork-requires-clause-left : goal.fork-requires-clause-left
fork-requires-clause-left t c =
    let seen : c.args.tree.now.summands ≡ c.in-Fork.left.value.summands ++ c.in-Fork.right.value.summands = sym (ap (λ (v : TreeValue). v.summands) c.tree.view_is) ∙ ap (λ (p : Part). (tree_in p).summands) c.in-Fork.is in
    let parted = (subst (λ (p : Part). IsParted p) c.in-Fork.is c.tree.invariant).0 in
    let list = ap (λ (v : TreeValue). v.summands) c.deref-then-point-middle.ensures in
    let s = summand c.args.point (to_z w128 (of_z w128 c.args.more)) in
    let shared : c.in_ok-left-in-Fork-2.left.value.summands ≡ with_summand s c.deref-then-point-middle.result.now.summands = ap (λ (v : TreeValue). v.summands) c.in_ok-left-in-Fork-2.ensures.ok ∙ c.in_ok-left-in-Fork.ensures.ok in
    left_stays c.in-Fork.middle c.args.tree.now.summands c.in-Fork.left.value.summands c.in-Fork.right.value.summands seen parted s c.if-point-middle.true c.deref-then-point-middle.result.now.summands c.in_ok-left-in-Fork-2.left.value.summands list shared

pub with_more-requires-else-point-middle : goal.with_more-requires-else-point-middle
with_more-requires-else-point-middle t c =
    let seen : c.args.tree.now.summands ≡ c.in-Fork.left.value.summands ++ c.in-Fork.right.value.summands = sym (ap (λ (v : TreeValue). v.summands) c.tree.view_is) ∙ ap (λ (p : Part). (tree_in p).summands) c.in-Fork.is in
    let tall : c.args.tree.now.height ≡ 1 + (c.in-Fork.left.value.height + c.in-Fork.right.value.height) = sym (ap (λ (v : TreeValue). v.height) c.tree.view_is) ∙ ap (λ (p : Part). (tree_in p).height) c.in-Fork.is in
    let parted = (subst (λ (p : Part). IsParted p) c.in-Fork.is c.tree.invariant).0 in
    let same = c.deref-else-point-middle.ensures in
    let list = ap (λ (v : TreeValue). v.summands) same in
    let tall_side = ap (λ (v : TreeValue). v.height) same in
    let number : to_z w128 (of_z w128 c.args.more) ≡ c.args.more = omega (arith, ints, c.requires.low, c.requires.high) in
    let smaller : c.deref-else-point-middle.result.now.height < c.args.tree.now.height = omega (arith, tall, tall_side) in
    let rest : IsRest c.deref-else-point-middle.result.now.summands = right_rest c.in-Fork.middle c.args.tree.now.summands c.in-Fork.left.value.summands c.in-Fork.right.value.summands seen parted _ list c.requires.rest in
    let low = c.requires.low in
    let high = c.requires.high in
    rw number (search rules)

pub returns-in_err-right-in-Fork-2-clause-refused :
    goal.returns-in_err-right-in-Fork-2-clause-refused
returns-in_err-right-in-Fork-2-clause-refused t c =
    let seen : c.args.tree.now.summands ≡ c.in-Fork.left.value.summands ++ c.in-Fork.right.value.summands = sym (ap (λ (v : TreeValue). v.summands) c.tree.view_is) ∙ ap (λ (p : Part). (tree_in p).summands) c.in-Fork.is in
    let parted = (subst (λ (p : Part). IsParted p) c.in-Fork.is c.tree.invariant).0 in
    let list = ap (λ (v : TreeValue). v.summands) c.deref-else-point-middle.ensures in
    let number : to_z w128 (of_z w128 c.args.more) ≡ c.args.more = omega (arith, ints, c.requires.low, c.requires.high) in
    let total : is_within coefficient_limit (coefficient_at c.args.point c.deref-else-point-middle.result.now.summands +ℤ to_z w128 (of_z w128 c.args.more)) ≡ is_within coefficient_limit (coefficient_at c.args.point c.args.tree.now.summands +ℤ c.args.more) = ap (λ (z : ℤ). is_within coefficient_limit (z +ℤ to_z w128 (of_z w128 c.args.more))) (right_coefficient c.in-Fork.middle c.args.tree.now.summands c.in-Fork.left.value.summands c.in-Fork.right.value.summands seen parted c.args.point c.if-point-middle.false c.deref-else-point-middle.result.now.summands list) ∙ ap (λ (z : ℤ). is_within coefficient_limit (coefficient_at c.args.point c.args.tree.now.summands +ℤ z)) number in
    let refused : Refuses c.in_err-right-in-Fork-2.field-0.0 (is_within coefficient_limit (coefficient_at c.args.point c.args.tree.now.summands +ℤ c.args.more)) = subst (λ (b : Bool). Refuses c.in_err-right-in-Fork-2.field-0.0 b) total c.in_err-right-in-Fork-2.ensures.refused in
    let p = err_from_is_err_and c.from_residual-in_err-right-in-Fork-2.result c.from_residual-in_err-right-in-Fork-2.ensures.1 in
    rw (p.1, p.2) refused

pub fork-requires-else-point-middle-clause-right :
    goal.fork-requires-else-point-middle-clause-right
fork-requires-else-point-middle-clause-right t c =
    let seen : c.args.tree.now.summands ≡ c.in-Fork.left.value.summands ++ c.in-Fork.right.value.summands = sym (ap (λ (v : TreeValue). v.summands) c.tree.view_is) ∙ ap (λ (p : Part). (tree_in p).summands) c.in-Fork.is in
    let parted = (subst (λ (p : Part). IsParted p) c.in-Fork.is c.tree.invariant).0 in
    let list = ap (λ (v : TreeValue). v.summands) c.deref-else-point-middle.ensures in
    let s = summand c.args.point (to_z w128 (of_z w128 c.args.more)) in
    let shared : c.in_ok-right-in-Fork-3.right.value.summands ≡ with_summand s c.deref-else-point-middle.result.now.summands = ap (λ (v : TreeValue). v.summands) c.in_ok-right-in-Fork-3.ensures.ok ∙ c.in_ok-right-in-Fork-2.ensures.ok in
    right_stays c.in-Fork.middle c.args.tree.now.summands c.in-Fork.left.value.summands c.in-Fork.right.value.summands seen parted s c.if-point-middle.false c.deref-else-point-middle.result.now.summands c.in_ok-right-in-Fork-3.right.value.summands list shared

pub returns-in_ok-right-in-Fork-clause-ok : goal.returns-in_ok-right-in-Fork-clause-ok
returns-in_ok-right-in-Fork-clause-ok t c =
    let seen : c.args.tree.now.summands ≡ c.in-Fork.left.value.summands ++ c.in-Fork.right.value.summands = sym (ap (λ (v : TreeValue). v.summands) c.tree.view_is) ∙ ap (λ (p : Part). (tree_in p).summands) c.in-Fork.is in
    let parted = (subst (λ (p : Part). IsParted p) c.in-Fork.is c.tree.invariant).0 in
    let list = ap (λ (v : TreeValue). v.summands) c.deref-then-point-middle.ensures in
    let number : to_z w128 (of_z w128 c.args.more) ≡ c.args.more = omega (arith, ints, c.requires.low, c.requires.high) in
    let s = summand c.args.point (to_z w128 (of_z w128 c.args.more)) in
    let shared : c.in_ok-left-in-Fork-2.left.value.summands ≡ with_summand s c.deref-then-point-middle.result.now.summands = ap (λ (v : TreeValue). v.summands) c.in_ok-left-in-Fork-2.ensures.ok ∙ c.in_ok-left-in-Fork.ensures.ok in
    let whole = c.fork.ensures ∙ ap (λ (v : TreeValue). c.in_ok-left-in-Fork-2.left.value.summands ++ v.summands) c.in_ok-right-in-Fork.ensures in
    whole ∙ left_with c.in-Fork.middle c.args.tree.now.summands c.in-Fork.left.value.summands c.in-Fork.right.value.summands seen parted s c.if-point-middle.true c.deref-then-point-middle.result.now.summands c.in_ok-left-in-Fork-2.left.value.summands list shared
    ∙ ap (λ (z : ℤ). with_summand (summand c.args.point z) c.args.tree.now.summands) number

pub returns-in_ok-right-in-Fork-clause-limited : goal.returns-in_ok-right-in-Fork-clause-limited
returns-in_ok-right-in-Fork-clause-limited t c =
    let seen : c.args.tree.now.summands ≡ c.in-Fork.left.value.summands ++ c.in-Fork.right.value.summands = sym (ap (λ (v : TreeValue). v.summands) c.tree.view_is) ∙ ap (λ (p : Part). (tree_in p).summands) c.in-Fork.is in
    let tall : c.args.tree.now.height ≡ 1 + (c.in-Fork.left.value.height + c.in-Fork.right.value.height) = sym (ap (λ (v : TreeValue). v.height) c.tree.view_is) ∙ ap (λ (p : Part). (tree_in p).height) c.in-Fork.is in
    let parted = (subst (λ (p : Part). IsParted p) c.in-Fork.is c.tree.invariant).0 in
    let same = c.deref-then-point-middle.ensures in
    let list = ap (λ (v : TreeValue). v.summands) same in
    let tall_side = ap (λ (v : TreeValue). v.height) same in
    let number : to_z w128 (of_z w128 c.args.more) ≡ c.args.more = omega (arith, ints, c.requires.low, c.requires.high) in
    let total : is_within coefficient_limit (coefficient_at c.args.point c.deref-then-point-middle.result.now.summands +ℤ to_z w128 (of_z w128 c.args.more)) ≡ is_within coefficient_limit (coefficient_at c.args.point c.args.tree.now.summands +ℤ c.args.more) = ap (λ (z : ℤ). is_within coefficient_limit (z +ℤ to_z w128 (of_z w128 c.args.more))) (left_coefficient c.in-Fork.middle c.args.tree.now.summands c.in-Fork.left.value.summands c.in-Fork.right.value.summands seen parted c.args.point c.if-point-middle.true c.deref-then-point-middle.result.now.summands list) ∙ ap (λ (z : ℤ). is_within coefficient_limit (coefficient_at c.args.point c.args.tree.now.summands +ℤ z)) number in
    sym total ∙ c.in_ok-left-in-Fork.ensures.limited

pub returns-in_ok-left-in-Fork-3-clause-ok : goal.returns-in_ok-left-in-Fork-3-clause-ok
returns-in_ok-left-in-Fork-3-clause-ok t c =
    let seen : c.args.tree.now.summands ≡ c.in-Fork.left.value.summands ++ c.in-Fork.right.value.summands = sym (ap (λ (v : TreeValue). v.summands) c.tree.view_is) ∙ ap (λ (p : Part). (tree_in p).summands) c.in-Fork.is in
    let parted = (subst (λ (p : Part). IsParted p) c.in-Fork.is c.tree.invariant).0 in
    let list = ap (λ (v : TreeValue). v.summands) c.deref-else-point-middle.ensures in
    let number : to_z w128 (of_z w128 c.args.more) ≡ c.args.more = omega (arith, ints, c.requires.low, c.requires.high) in
    let s = summand c.args.point (to_z w128 (of_z w128 c.args.more)) in
    let shared : c.in_ok-right-in-Fork-3.right.value.summands ≡ with_summand s c.deref-else-point-middle.result.now.summands = ap (λ (v : TreeValue). v.summands) c.in_ok-right-in-Fork-3.ensures.ok ∙ c.in_ok-right-in-Fork-2.ensures.ok in
    let whole = c.fork-else-point-middle.ensures ∙ ap (λ (v : TreeValue). v.summands ++ c.in_ok-right-in-Fork-3.right.value.summands) c.in_ok-left-in-Fork-3.ensures in
    whole ∙ right_with c.in-Fork.middle c.args.tree.now.summands c.in-Fork.left.value.summands c.in-Fork.right.value.summands seen parted s c.if-point-middle.false c.deref-else-point-middle.result.now.summands c.in_ok-right-in-Fork-3.right.value.summands list shared
    ∙ ap (λ (z : ℤ). with_summand (summand c.args.point z) c.args.tree.now.summands) number

pub returns-in_ok-left-in-Fork-3-clause-limited : goal.returns-in_ok-left-in-Fork-3-clause-limited
returns-in_ok-left-in-Fork-3-clause-limited t c =
    let seen : c.args.tree.now.summands ≡ c.in-Fork.left.value.summands ++ c.in-Fork.right.value.summands = sym (ap (λ (v : TreeValue). v.summands) c.tree.view_is) ∙ ap (λ (p : Part). (tree_in p).summands) c.in-Fork.is in
    let tall : c.args.tree.now.height ≡ 1 + (c.in-Fork.left.value.height + c.in-Fork.right.value.height) = sym (ap (λ (v : TreeValue). v.height) c.tree.view_is) ∙ ap (λ (p : Part). (tree_in p).height) c.in-Fork.is in
    let parted = (subst (λ (p : Part). IsParted p) c.in-Fork.is c.tree.invariant).0 in
    let same = c.deref-else-point-middle.ensures in
    let list = ap (λ (v : TreeValue). v.summands) same in
    let tall_side = ap (λ (v : TreeValue). v.height) same in
    let number : to_z w128 (of_z w128 c.args.more) ≡ c.args.more = omega (arith, ints, c.requires.low, c.requires.high) in
    let total : is_within coefficient_limit (coefficient_at c.args.point c.deref-else-point-middle.result.now.summands +ℤ to_z w128 (of_z w128 c.args.more)) ≡ is_within coefficient_limit (coefficient_at c.args.point c.args.tree.now.summands +ℤ c.args.more) = ap (λ (z : ℤ). is_within coefficient_limit (z +ℤ to_z w128 (of_z w128 c.args.more))) (right_coefficient c.in-Fork.middle c.args.tree.now.summands c.in-Fork.left.value.summands c.in-Fork.right.value.summands seen parted c.args.point c.if-point-middle.false c.deref-else-point-middle.result.now.summands list) ∙ ap (λ (z : ℤ). is_within coefficient_limit (coefficient_at c.args.point c.args.tree.now.summands +ℤ z)) number in
    sym total ∙ c.in_ok-right-in-Fork-2.ensures.limited
