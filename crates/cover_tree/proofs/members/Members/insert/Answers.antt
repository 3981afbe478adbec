use Rattle.std.proofs.Common.{◌≡◌, ◌∙◌, ◌+◌, Some, true, false, ap, sym, subst, set}
use Rattle.std.specs.Prelude.{slice_get}
use Rattle.cover_tree.specs.code.Members.{NumberSet, flags}
use Rattle.cover_tree.proofs.Orders.{inserted, inserted_set, has_room}
use Rattle.cover_tree.proofs.members.Members.insert.Goals as goal

pub invariant_of-self : goal.invariant_of-self
invariant_of-self c =
    let out : slice_get (flags c.self.inside.count c.self.inside.place.items) c.args.k ≡ Some false = subst (λ (s : NumberSet). slice_get s.flags c.args.k ≡ Some false) (sym c.self.view_is) c.requires in
    inserted_set _ _ _ _ _ _ c.self.invariant out c.bring.ensures.order c.bring.ensures.place

pub returns : goal.returns
returns c =
    let out : slice_get (flags c.self.inside.count c.self.inside.place.items) c.args.k ≡ Some false = subst (λ (s : NumberSet). slice_get s.flags c.args.k ≡ Some false) (sym c.self.view_is) c.requires in
    record { flags = ap (flags (c.self.inside.count + 1)) c.bring.ensures.place ∙ (inserted _ _ _ _ c.self.invariant.inverse out ∙ ap (λ (s : NumberSet). set s.flags c.args.k true) c.self.view_is) }

pub bring-requires-clause-to : goal.bring-requires-clause-to
bring-requires-clause-to c =
    let out : slice_get (flags c.self.inside.count c.self.inside.place.items) c.args.k ≡ Some false = subst (λ (s : NumberSet). slice_get s.flags c.args.k ≡ Some false) (sym c.self.view_is) c.requires in
    has_room _ _ _ _ c.self.invariant out
