use Rattle.std.proofs.Common.{arith, ◌≡◌, ◌∙◌, ap, List, length, ◌++◌, [], ◌∷◌}
use Rattle.idl_scope.specs.declared.locals.Variable.{Variable}
use Rattle.idl_scope.proofs.LocalsKept.{keeps_bound}
use Rattle.idl_scope.proofs.locals.Locals.bind.Goals as goal

pub invariant_of-self-2 : goal.invariant_of-self-2
invariant_of-self-2 c =
    let v : Variable = record { name = c.args.name; term = c.args.term; hidden = c.in_ok-hidden.hidden } in
    let pushed : c.push_reserved.new.self.items ≡ c.self.inside.variables.items ++ v ∷ [] = c.push_reserved.ensures.items ∙ ap (λ (vs : List Variable). vs ++ v ∷ []) c.reserve.ensures.items in
    let place : c.len-place.result ≡ length c.self.inside.variables.items = omega (arith, ap length c.reserve.ensures.items) in
    keeps_bound c.self.inside.latest c.insert.new.self c.self.inside.variables.items c.push_reserved.new.self.items v c.len-place.result c.self.invariant c.in_ok-hidden.ensures.updates.0 place c.in_ok-hidden.ensures.old pushed
