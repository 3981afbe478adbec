use Rattle.std.proofs.Common.{ap, sym, subst, ◌∙◌, List}
use mathlib.Core.Bool.{not, beq}
use Rattle.idl_linear.specs.declared.summand.Summand.{Summand}
use Rattle.idl_linear.specs.declared.held.Held.{Held as Holding}
use Rattle.idl_linear.specs.code.Held.{held_summands}
use Rattle.idl_linear.specs.code.Steps.{IsRest}
use Rattle.idl_linear.specs.code.Trees.{TreeValue, signed}
use Rattle.idl_linear.proofs.Walking.{signed-signed, rest-unsigned}
use Rattle.idl_linear.proofs.held.Held.cursor.Goals as goal

pub of_tree-requires : goal.of_tree-requires
of_tree-requires c =
    let list = ap (λ (v : TreeValue). v.summands) c.deref.ensures in
    let here : IsRest (signed c.in-Shared.is_tree_negated c.in-Shared.tree.value.summands) = subst (λ (h : Holding). IsRest (held_summands h)) c.in-Shared.is c.requires in
    subst (λ (l : List Summand). IsRest l) (sym list) (rest-unsigned c.in-Shared.is_tree_negated c.in-Shared.tree.value.summands here)

pub returns-in-Shared : goal.returns-in-Shared
returns-in-Shared c =
    let list = ap (λ (v : TreeValue). v.summands) c.deref.ensures in
    c.of_tree.ensures ∙ ap (λ (l : List Summand). signed (not (beq c.in-Shared.is_tree_negated c.args.is_negated)) l) list
    ∙ signed-signed c.in-Shared.is_tree_negated c.args.is_negated c.in-Shared.tree.value.summands
    ∙ ap (λ (h : Holding). signed c.args.is_negated (held_summands h)) (sym c.in-Shared.is)
