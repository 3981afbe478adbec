use Rattle.std.proofs.Common.{refl, arith, sym, ap, subst, ◌∙◌, ◌≡◌, ◌≤◌, ◌-◌, ℕ, List, [], ◌∷◌, length, drop, length-drop, Option}
use Rattle.idl_node.specs.code.Made.{Makes}
use Rattle.idl_node.specs.Making.{equal, neighbours, each_pair}
use Rattle.idl_node.specs.Nodes.{Placed}
use Rattle.idl_node.proofs.nodes.Nodes.add_equality.Goals as goal

-- one member has no neighbour
neighbours_none : (members : List ℕ) → length members ≤ 1 → neighbours members ≡ []
neighbours_none [] h = refl
neighbours_none (a ∷ []) h = refl
neighbours_none (a ∷ b ∷ rest) h = absurd (omega arith)

pub returns-clause-makes : goal.returns-clause-makes
returns-clause-makes c =
    let few : length (drop (c.loop-i.i - 1) c.args.members.now) ≤ 1 = omega (arith, length-drop (c.loop-i.i - 1) c.args.members.now) in
    subst (λ (o : Option Placed). Makes c.conjoin.new.self o c.conjoin.result)
    (sym (c.loop-i.invariant.rest ∙ ap (each_pair equal c.loop-i.self c.loop-i.parts.items) (neighbours_none _ few))) c.conjoin.ensures.makes
