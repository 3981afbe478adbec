use Rattle.std.proofs.Common.{◌≡◌, ◌∙◌, sym, subst, ℕ, Option, Some, None, refl}
use Rattle.std.specs.Prelude.{IsSome, reverse, length}
use Rattle.idl_scope.specs.code.LocalNames.{place_in}
use Rattle.idl_scope.proofs.LocalsKept.{keeps_unbound, place_of_last, not_none, Sets}
use Rattle.idl_scope.proofs.locals.Locals.unbind_last.Goals as goal

pub invariant_of-self : goal.invariant_of-self
invariant_of-self c =
    let new = c.get_mut.follows.lender c.in-Some-hidden.place in
    let sets : Sets c.self.inside.latest new c.in-Some.variable.name (Some c.in-Some-hidden.place) = ((c.get_mut.follows.holds c.in-Some-hidden.place).3 (subst IsSome c.in-Some-get_mut.ensures.value refl)).0 in
    keeps_unbound c.self.inside.latest new c.self.inside.variables.items c.pop.new.self.items c.in-Some.variable c.self.invariant (subst (λ (o : Option ℕ). Sets c.self.inside.latest new c.in-Some.variable.name o) (sym c.in-Some-hidden.is) sets) c.in-Some.ensures.items

-- its name has a place
pub invariant_of-self-in-Some-hidden : goal.invariant_of-self-in-Some-hidden
invariant_of-self-in-Some-hidden c =
    let v = c.in-Some.variable in
    let last : place_in v.name.now (reverse c.self.inside.variables.items) ≡ Some (length (reverse c.pop.new.self.items)) = place_of_last c.self.inside.variables.items c.pop.new.self.items v c.in-Some.ensures.items in
    absurd (not_none _ _ c.in_default-get_mut.ensures.value (c.self.invariant.places v.name ∙ last))

pub invariant_of-self-in-None : goal.invariant_of-self-in-None
invariant_of-self-in-None c =
    let sets : Sets c.self.inside.latest c.swap_remove.new.self c.in-Some.variable.name None = c.swap_remove.ensures.updates.0 in
    keeps_unbound c.self.inside.latest c.swap_remove.new.self c.self.inside.variables.items c.pop.new.self.items c.in-Some.variable c.self.invariant (subst (λ (o : Option ℕ). Sets c.self.inside.latest c.swap_remove.new.self c.in-Some.variable.name o) (sym c.in-None.is) sets) c.in-Some.ensures.items
