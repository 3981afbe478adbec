use Rattle.std.proofs.Common.{◌∙◌, ◌-◌, false, ap, sym, subst, set}
use Rattle.cover_tree.specs.code.Members.{NumberSet, IsMember, flags}
use Rattle.cover_tree.proofs.Orders.{removed, removed_set, is_in_set}
use Rattle.cover_tree.proofs.members.Members.remove.Goals as goal

pub overflow_sub-to : goal.overflow_sub-to
overflow_sub-to c =
    let here : IsMember (flags c.self.inside.count c.self.inside.place.items) c.args.k = subst (λ (s : NumberSet). IsMember s.flags c.args.k) (sym c.self.view_is) c.requires in
    (is_in_set _ _ _ _ c.self.invariant here).1

pub invariant_of-self : goal.invariant_of-self
invariant_of-self c =
    let here : IsMember (flags c.self.inside.count c.self.inside.place.items) c.args.k = subst (λ (s : NumberSet). IsMember s.flags c.args.k) (sym c.self.view_is) c.requires in
    removed_set _ _ _ _ _ _ c.self.invariant here c.bring.ensures.order c.bring.ensures.place

pub returns : goal.returns
returns c =
    let here : IsMember (flags c.self.inside.count c.self.inside.place.items) c.args.k = subst (λ (s : NumberSet). IsMember s.flags c.args.k) (sym c.self.view_is) c.requires in
    record { flags = ap (flags (c.self.inside.count - 1)) c.bring.ensures.place ∙ (removed _ _ _ _ c.self.invariant here ∙ ap (λ (s : NumberSet). set s.flags c.args.k false) c.self.view_is) }
