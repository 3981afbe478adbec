use Rattle.std.proofs.Common.{arith, rules, refl, ap, sym, ◌≡◌, ◌∙◌, length, true}
use Rattle.cover_tree.specs.Covers.{Cubes, divided}
use Rattle.cover_tree.proofs.Tables.{some_held, fresh_first, fresh_second, free_long, divided_is, divided_tables, at_inside, links_chain, nodes_chain, free_chain, held_chain, old_flag, held_flag}
use Rattle.cover_tree.proofs.cover.Cover.split.Goals as goal

pub overflow_sub-self : goal.overflow_sub-self
overflow_sub-self c = some_held _ _ _ _ _ c.self.invariant c.args.id _ (at_inside c.self.inside.links.items c.self.inside.nodes.items c.args.self.now c.args.id _ c.self.view_is c.requires.1)

pub remove-requires : goal.remove-requires
remove-requires c =
    let here = at_inside c.self.inside.links.items c.self.inside.nodes.items c.args.self.now c.args.id _ c.self.view_is c.requires.1 in
    old_flag _ _ _ _ _ _ (held_flag _ _ _ _ _ c.self.invariant c.args.id _ true here refl) c.in_ok-reserve-4.ensures.flags c.push_reserved-5.ensures.flags c.push_reserved-6.ensures.flags

pub insert-requires : goal.insert-requires
insert-requires c =
    let first : c.len-first.result ≡ length c.self.inside.nodes.items = search rules in
    fresh_first _ _ _ _ _ (free_long _ _ _ _ _ c.self.invariant ∙ sym first) c.in_ok-reserve-3.ensures.flags c.push_reserved-7.ensures.flags c.push_reserved-8.ensures.flags

pub insert-requires-2 : goal.insert-requires-2
insert-requires-2 c =
    let first : c.len-first.result ≡ length c.self.inside.nodes.items = search rules in
    fresh_second _ _ _ _ _ _ (free_long _ _ _ _ _ c.self.invariant ∙ sym first) c.in_ok-reserve-3.ensures.flags c.push_reserved-7.ensures.flags c.push_reserved-8.ensures.flags c.insert.ensures.flags

pub invariant_of-self-2 : goal.invariant_of-self-2
invariant_of-self-2 c =
    let first : c.len-first.result ≡ length c.self.inside.nodes.items = search rules in
    let here = at_inside c.self.inside.links.items c.self.inside.nodes.items c.args.self.now c.args.id _ c.self.view_is c.requires.1 in
    let some = some_held _ _ _ _ _ c.self.invariant c.args.id _ here in
    divided_tables _ _ _ _ _ c.self.invariant c.args.id c.requires.0 c.args.literal here _ _ _ _ _ _ _ refl refl refl c.negate.ensures
    (links_chain _ _ _ _ _ _ c.in_ok-reserve.ensures.items c.push_reserved.ensures.items c.push_reserved-2.ensures.items)
    (nodes_chain _ _ _ _ _ _ _ c.in_ok-reserve-2.ensures.items first c.push_reserved-3.ensures.items c.push_reserved-4.ensures.items)
    (free_chain _ _ _ _ _ _ _ _ first c.in_ok-reserve-3.ensures.flags c.push_reserved-7.ensures.flags c.push_reserved-8.ensures.flags c.insert.ensures.flags c.insert-2.ensures.flags)
    (held_chain _ _ _ _ _ _ c.in_ok-reserve-4.ensures.flags c.push_reserved-5.ensures.flags c.push_reserved-6.ensures.flags c.remove.ensures.flags)
    (omega arith)

pub returns-clause-ok : goal.returns-clause-ok
returns-clause-ok c =
    let first : c.len-first.result ≡ length c.self.inside.nodes.items = search rules in
    let here = at_inside c.self.inside.links.items c.self.inside.nodes.items c.args.self.now c.args.id _ c.self.view_is c.requires.1 in
    let count = ap (λ (k : Cubes). length k.nodes) c.self.view_is in (
      divided_is _ _ _ _ _ c.self.invariant c.args.id c.requires.0 c.args.literal here _ _ _ _ refl refl refl c.negate.ensures
          (links_chain _ _ _ _ _ _ c.in_ok-reserve.ensures.items c.push_reserved.ensures.items c.push_reserved-2.ensures.items)
          (nodes_chain _ _ _ _ _ _ _ c.in_ok-reserve-2.ensures.items first c.push_reserved-3.ensures.items c.push_reserved-4.ensures.items)
          ∙ ap (λ (k : Cubes). divided k c.args.id c.args.literal) c.self.view_is,
      first ∙ count,
      omega (arith, first ∙ count),
    )
