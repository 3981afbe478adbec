use Rattle.std.proofs.Common.{List, sym, ap, ◌∙◌, map, subst, length, ◌≤◌, arith, refl}
use Rattle.refute_tree.specs.code.Store.{Parts, small_by, large_by, IsWhole, steps_by, used}
use Rattle.refute_tree.specs.code.Lists.{steps_of_lists, parts_of_lists}
use Rattle.refute_tree.specs.Moves.{listed_number, named_step}
use Rattle.refute_tree.specs.code.MovedParts.{is_lemma, is_large_lemma}
use Rattle.refute_tree.proofs.Flats.{parts_same}
use Rattle.refute_tree.proofs.MovedNumbers.{small_by_one, large_by_one, moved_whole, moved_steps, items_moved}
use Rattle.refute_tree.proofs.store.Steps.renumber_lemmas.Goals as goal

pub invariant_of-self : goal.invariant_of-self
invariant_of-self c =
    let lists = c.self.inside.lists in
    let smalls = items_moved small_by is_lemma small_by_one (listed_number c.args.seen c.args.numbers.now c.args.end) lists.kinds.items lists.small c.as_slice.result.now c.as_mut_slice.result.now c.list_numbers.new.small c.as_slice.ensures.value c.as_mut_slice.ensures.value c.list_numbers.ensures.small c.self.invariant.small_all in
    let larges = items_moved large_by is_large_lemma large_by_one (listed_number c.args.seen c.args.numbers.now c.args.end) lists.kinds.items lists.large c.as_slice.result.now c.as_mut_slice-2.result.now c.list_numbers.new.large c.as_slice.ensures.value c.as_mut_slice-2.ensures.value c.list_numbers.ensures.large c.self.invariant.large_all in
    subst (λ (p : Parts). IsWhole lists.kinds.items p) (sym (parts_same _ _ _ _ lists.points.items _ lists.bounds.items _ lists.literals.items _ smalls larges refl refl refl))
    (moved_whole (listed_number c.args.seen c.args.numbers.now c.args.end) lists.kinds.items (parts_of_lists lists) c.self.invariant)

pub returns : goal.returns
returns c =
    let lists = c.self.inside.lists in
    let smalls = items_moved small_by is_lemma small_by_one (listed_number c.args.seen c.args.numbers.now c.args.end) lists.kinds.items lists.small c.as_slice.result.now c.as_mut_slice.result.now c.list_numbers.new.small c.as_slice.ensures.value c.as_mut_slice.ensures.value c.list_numbers.ensures.small c.self.invariant.small_all in
    let larges = items_moved large_by is_large_lemma large_by_one (listed_number c.args.seen c.args.numbers.now c.args.end) lists.kinds.items lists.large c.as_slice.result.now c.as_mut_slice-2.result.now c.list_numbers.new.large c.as_slice.ensures.value c.as_mut_slice-2.ensures.value c.list_numbers.ensures.large c.self.invariant.large_all in
    let few : used small_by lists.kinds.items ≤ length lists.small.items = omega (arith, c.self.invariant.small_all) in
    let few_large : used large_by lists.kinds.items ≤ length lists.large.items = omega (arith, c.self.invariant.large_all) in
    ap (steps_by lists.kinds.items) (parts_same _ _ _ _ lists.points.items _ lists.bounds.items _ lists.literals.items _ smalls larges refl refl refl)
    ∙ moved_steps (listed_number c.args.seen c.args.numbers.now c.args.end) lists.kinds.items (parts_of_lists lists) few few_large
    ∙ ap (map (named_step (listed_number c.args.seen c.args.numbers.now c.args.end))) c.self.view_is
