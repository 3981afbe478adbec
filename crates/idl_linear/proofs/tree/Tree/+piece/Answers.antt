use Rattle.std.proofs.Common.{rules, arith, ap, sym, subst, ◌∙◌, ◌≡◌, ◌<◌, ◌+◌, ◌++◌}
use Rattle.idl_linear.specs.declared.tree.Part.{Part}
use Rattle.idl_linear.specs.Forms.{AscendAbove}
use Rattle.idl_linear.specs.code.TreeParts.{tree_in, IsParted}
use Rattle.idl_linear.specs.code.Trees.{TreeValue, AllUpTo}
use Rattle.idl_linear.proofs.Forks.{left_ascends, right_ascends, right_over, left_min, min_below, none_left, leaf_same, leaf_empty, right_same, left_same, both_same, right_empty, both_empty}
use Rattle.idl_linear.proofs.tree.Tree.+piece.Goals as goal

pub piece-requires : goal.piece-requires
piece-requires t c =
    let seen : c.args.self.now.summands ≡ c.in-Fork.left.value.summands ++ c.in-Fork.right.value.summands = sym (ap (λ (v : TreeValue). v.summands) c.self.view_is) ∙ ap (λ (p : Part). (tree_in p).summands) c.in-Fork.is in
    let tall : c.args.self.now.height ≡ 1 + (c.in-Fork.left.value.height + c.in-Fork.right.value.height) = sym (ap (λ (v : TreeValue). v.height) c.self.view_is) ∙ ap (λ (p : Part). (tree_in p).height) c.in-Fork.is in
    let parted = (subst (λ (p : Part). IsParted p) c.in-Fork.is c.self.invariant).0 in
    let same : c.deref-then-from-middle.result.now ≡ c.in-Fork.right.value = c.deref-then-from-middle.ensures in
    let list = ap (λ (v : TreeValue). v.summands) same in
    let tall_side = ap (λ (v : TreeValue). v.height) same in
    let smaller : c.deref-then-from-middle.result.now.height < c.args.self.now.height = omega (arith, tall, tall_side) in
    let ascends : AscendAbove 0 c.deref-then-from-middle.result.now.summands = right_ascends c.in-Fork.middle c.args.self.now.summands c.in-Fork.left.value.summands c.in-Fork.right.value.summands seen parted _ list c.requires.ascends in
    let over : AllUpTo c.args.end c.deref-then-from-middle.result.now.summands = right_over c.in-Fork.middle c.args.self.now.summands c.in-Fork.left.value.summands c.in-Fork.right.value.summands seen parted c.args.end _ list c.requires.over in
    search rules

pub returns-then-from-middle-clause-same : goal.returns-then-from-middle-clause-same
returns-then-from-middle-clause-same t c =
    let seen : c.args.self.now.summands ≡ c.in-Fork.left.value.summands ++ c.in-Fork.right.value.summands = sym (ap (λ (v : TreeValue). v.summands) c.self.view_is) ∙ ap (λ (p : Part). (tree_in p).summands) c.in-Fork.is in
    let tall : c.args.self.now.height ≡ 1 + (c.in-Fork.left.value.height + c.in-Fork.right.value.height) = sym (ap (λ (v : TreeValue). v.height) c.self.view_is) ∙ ap (λ (p : Part). (tree_in p).height) c.in-Fork.is in
    let parted = (subst (λ (p : Part). IsParted p) c.in-Fork.is c.self.invariant).0 in
    let same : c.deref-then-from-middle.result.now ≡ c.in-Fork.right.value = c.deref-then-from-middle.ensures in
    let list = ap (λ (v : TreeValue). v.summands) same in
    let tall_side = ap (λ (v : TreeValue). v.height) same in
    right_same c.in-Fork.middle c.args.self.now.summands c.in-Fork.left.value.summands c.in-Fork.right.value.summands seen parted c.args.from c.piece.result.next c.piece.result.items.now _ list c.if-from-middle.true c.piece.ensures.low c.piece.ensures.same

pub returns-then-from-middle-clause-none : goal.returns-then-from-middle-clause-none
returns-then-from-middle-clause-none t c =
    let seen : c.args.self.now.summands ≡ c.in-Fork.left.value.summands ++ c.in-Fork.right.value.summands = sym (ap (λ (v : TreeValue). v.summands) c.self.view_is) ∙ ap (λ (p : Part). (tree_in p).summands) c.in-Fork.is in
    let tall : c.args.self.now.height ≡ 1 + (c.in-Fork.left.value.height + c.in-Fork.right.value.height) = sym (ap (λ (v : TreeValue). v.height) c.self.view_is) ∙ ap (λ (p : Part). (tree_in p).height) c.in-Fork.is in
    let parted = (subst (λ (p : Part). IsParted p) c.in-Fork.is c.self.invariant).0 in
    let same : c.deref-then-from-middle.result.now ≡ c.in-Fork.right.value = c.deref-then-from-middle.ensures in
    let list = ap (λ (v : TreeValue). v.summands) same in
    let tall_side = ap (λ (v : TreeValue). v.height) same in
    λ none. right_empty c.in-Fork.middle c.args.self.now.summands c.in-Fork.left.value.summands c.in-Fork.right.value.summands seen parted c.args.from _ list c.if-from-middle.true (c.piece.ensures.none none)

pub piece-piece-requires : goal.piece-piece-requires
piece-piece-requires t c =
    let seen : c.args.self.now.summands ≡ c.in-Fork.left.value.summands ++ c.in-Fork.right.value.summands = sym (ap (λ (v : TreeValue). v.summands) c.self.view_is) ∙ ap (λ (p : Part). (tree_in p).summands) c.in-Fork.is in
    let tall : c.args.self.now.height ≡ 1 + (c.in-Fork.left.value.height + c.in-Fork.right.value.height) = sym (ap (λ (v : TreeValue). v.height) c.self.view_is) ∙ ap (λ (p : Part). (tree_in p).height) c.in-Fork.is in
    let parted = (subst (λ (p : Part). IsParted p) c.in-Fork.is c.self.invariant).0 in
    let same : c.deref-in-Fork.result.now ≡ c.in-Fork.left.value = c.deref-in-Fork.ensures in
    let list = ap (λ (v : TreeValue). v.summands) same in
    let tall_side = ap (λ (v : TreeValue). v.height) same in
    let smaller : c.deref-in-Fork.result.now.height < c.args.self.now.height = omega (arith, tall, tall_side) in
    let ascends : AscendAbove 0 c.deref-in-Fork.result.now.summands = left_ascends c.in-Fork.middle c.args.self.now.summands c.in-Fork.left.value.summands c.in-Fork.right.value.summands seen parted _ list c.requires.ascends in
    let over : AllUpTo c.min-split.result c.deref-in-Fork.result.now.summands = left_min c.in-Fork.middle c.args.self.now.summands c.in-Fork.left.value.summands c.in-Fork.right.value.summands seen parted c.args.end c.min-split.result _ c.min-split.ensures list c.requires.over in
    search rules

pub piece-requires-then-is_empty : goal.piece-requires-then-is_empty
piece-requires-then-is_empty t c =
    let seen : c.args.self.now.summands ≡ c.in-Fork.left.value.summands ++ c.in-Fork.right.value.summands = sym (ap (λ (v : TreeValue). v.summands) c.self.view_is) ∙ ap (λ (p : Part). (tree_in p).summands) c.in-Fork.is in
    let tall : c.args.self.now.height ≡ 1 + (c.in-Fork.left.value.height + c.in-Fork.right.value.height) = sym (ap (λ (v : TreeValue). v.height) c.self.view_is) ∙ ap (λ (p : Part). (tree_in p).height) c.in-Fork.is in
    let parted = (subst (λ (p : Part). IsParted p) c.in-Fork.is c.self.invariant).0 in
    let same : c.deref-then-is_empty.result.now ≡ c.in-Fork.right.value = c.deref-then-is_empty.ensures in
    let list = ap (λ (v : TreeValue). v.summands) same in
    let tall_side = ap (λ (v : TreeValue). v.height) same in
    let smaller : c.deref-then-is_empty.result.now.height < c.args.self.now.height = omega (arith, tall, tall_side) in
    let ascends : AscendAbove 0 c.deref-then-is_empty.result.now.summands = right_ascends c.in-Fork.middle c.args.self.now.summands c.in-Fork.left.value.summands c.in-Fork.right.value.summands seen parted _ list c.requires.ascends in
    let over : AllUpTo c.args.end c.deref-then-is_empty.result.now.summands = right_over c.in-Fork.middle c.args.self.now.summands c.in-Fork.left.value.summands c.in-Fork.right.value.summands seen parted c.args.end _ list c.requires.over in
    search rules

pub returns-in-Leaf-clause-same : goal.returns-in-Leaf-clause-same
returns-in-Leaf-clause-same t c =
    let seen : c.args.self.now.summands ≡ c.in-Leaf.items.items = sym (ap (λ (v : TreeValue). v.summands) c.self.view_is) ∙ ap (λ (p : Part). (tree_in p).summands) c.in-Leaf.is in
    leaf_same c.args.from c.args.end c.count_below-count.result c.args.self.now.summands c.in-Leaf.items.items c.deref.result.now c.deref-in-Leaf.result.now seen c.deref.ensures.value c.deref-in-Leaf.ensures.value c.count_below-count.ensures.below c.count_below-count.ensures.from c.requires.over

pub returns-in-Leaf-clause-none : goal.returns-in-Leaf-clause-none
returns-in-Leaf-clause-none t c =
    let seen : c.args.self.now.summands ≡ c.in-Leaf.items.items = sym (ap (λ (v : TreeValue). v.summands) c.self.view_is) ∙ ap (λ (p : Part). (tree_in p).summands) c.in-Leaf.is in
    leaf_empty c.args.from c.args.end c.count_below-count.result c.args.self.now.summands c.in-Leaf.items.items c.deref.result.now c.deref-in-Leaf.result.now seen c.deref.ensures.value c.deref-in-Leaf.ensures.value c.count_below-count.ensures.below c.count_below-count.ensures.from

pub returns-then-is_empty-clause-same : goal.returns-then-is_empty-clause-same
returns-then-is_empty-clause-same t c =
    let seen : c.args.self.now.summands ≡ c.in-Fork.left.value.summands ++ c.in-Fork.right.value.summands = sym (ap (λ (v : TreeValue). v.summands) c.self.view_is) ∙ ap (λ (p : Part). (tree_in p).summands) c.in-Fork.is in
    let parted = (subst (λ (p : Part). IsParted p) c.in-Fork.is c.self.invariant).0 in
    let left = ap (λ (v : TreeValue). v.summands) c.deref-in-Fork.ensures in
    let few = min_below c.in-Fork.middle c.args.end c.min-split.result c.min-split.ensures in
    let right = ap (λ (v : TreeValue). v.summands) c.deref-then-is_empty.ensures in
    let up = left_min c.in-Fork.middle c.args.self.now.summands c.in-Fork.left.value.summands c.in-Fork.right.value.summands seen parted c.args.end c.min-split.result c.deref-in-Fork.result.now.summands c.min-split.ensures left c.requires.over in
    let empty = c.piece-piece.ensures.none (none_left _ c.is_empty.result c.is_empty.ensures c.if-is_empty.true) in
    both_same c.in-Fork.middle c.args.self.now.summands c.in-Fork.left.value.summands c.in-Fork.right.value.summands seen parted c.args.from c.piece-then-is_empty.result.next c.piece-then-is_empty.result.items.now c.min-split.result c.deref-in-Fork.result.now.summands c.deref-then-is_empty.result.now.summands left right up (omega (arith, c.if-from-middle.false)) few empty
    c.piece-then-is_empty.ensures.low c.piece-then-is_empty.ensures.same

pub returns-then-is_empty-clause-none : goal.returns-then-is_empty-clause-none
returns-then-is_empty-clause-none t c =
    let seen : c.args.self.now.summands ≡ c.in-Fork.left.value.summands ++ c.in-Fork.right.value.summands = sym (ap (λ (v : TreeValue). v.summands) c.self.view_is) ∙ ap (λ (p : Part). (tree_in p).summands) c.in-Fork.is in
    let parted = (subst (λ (p : Part). IsParted p) c.in-Fork.is c.self.invariant).0 in
    let left = ap (λ (v : TreeValue). v.summands) c.deref-in-Fork.ensures in
    let few = min_below c.in-Fork.middle c.args.end c.min-split.result c.min-split.ensures in
    let right = ap (λ (v : TreeValue). v.summands) c.deref-then-is_empty.ensures in
    let up = left_min c.in-Fork.middle c.args.self.now.summands c.in-Fork.left.value.summands c.in-Fork.right.value.summands seen parted c.args.end c.min-split.result c.deref-in-Fork.result.now.summands c.min-split.ensures left c.requires.over in
    let empty = c.piece-piece.ensures.none (none_left _ c.is_empty.result c.is_empty.ensures c.if-is_empty.true) in
    λ none. both_empty c.in-Fork.middle c.args.self.now.summands c.in-Fork.left.value.summands c.in-Fork.right.value.summands seen parted c.args.from c.min-split.result c.deref-in-Fork.result.now.summands c.deref-then-is_empty.result.now.summands left right up (omega (arith, c.if-from-middle.false)) few empty (c.piece-then-is_empty.ensures.none none)

pub returns-else-is_empty-clause-same : goal.returns-else-is_empty-clause-same
returns-else-is_empty-clause-same t c =
    let seen : c.args.self.now.summands ≡ c.in-Fork.left.value.summands ++ c.in-Fork.right.value.summands = sym (ap (λ (v : TreeValue). v.summands) c.self.view_is) ∙ ap (λ (p : Part). (tree_in p).summands) c.in-Fork.is in
    let parted = (subst (λ (p : Part). IsParted p) c.in-Fork.is c.self.invariant).0 in
    let left = ap (λ (v : TreeValue). v.summands) c.deref-in-Fork.ensures in
    let few = min_below c.in-Fork.middle c.args.end c.min-split.result c.min-split.ensures in
    left_same c.in-Fork.middle c.args.self.now.summands c.in-Fork.left.value.summands c.in-Fork.right.value.summands seen parted c.args.from c.piece-piece.result.next c.piece-piece.result.items.now c.deref-in-Fork.result.now.summands left (omega (arith, c.if-from-middle.false)) (omega (arith, few, c.piece-piece.ensures.high)) c.piece-piece.ensures.same
