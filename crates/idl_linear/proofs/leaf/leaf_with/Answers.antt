use Rattle.std.proofs.Common.{arith, ap, sym, ◌∙◌, ◌≡◌, ◌++◌, ◌+ℤ◌, ℤ, List, take, drop, to_z, of_z}
use Rattle.std.proofs.lemmas.Int.{ints}
use Rattle.std.proofs.lemmas.List.{take_rest}
use Rattle.std.specs.Int.{w128}
use Rattle.idl_linear.specs.declared.summand.Summand.{Summand}
use Rattle.idl_linear.specs.Linear.{with_summand, put_before}
use Rattle.idl_linear.specs.code.Trees.{coefficient_at}
use Rattle.idl_linear.proofs.Coefficients.{summand}
use Rattle.idl_linear.proofs.LeafMade.{made_with, made_without, made_within}
use Rattle.idl_linear.proofs.leaf.leaf_with.Goals as goal
use Rattle.idl_linear.proofs.leaf.leaf_with.Goals.{then-coefficient-ne0+in_ok-push, else-coefficient-ne0}

pub returns-clause-ok : goal.returns-clause-ok
returns-clause-ok c =
    let items = c.args.items.now in
    let total = c.meeting-total.result.coefficient in
    let behind = c.meeting-total.result.behind in
    let kept : to_z w128 (of_z w128 c.meeting-total.result.coefficient) ≡ c.meeting-total.result.coefficient = omega (arith, ints) in
    let number : to_z w128 (of_z w128 c.args.more) ≡ c.args.more = omega (arith, ints, c.requires.low, c.requires.high) in
    let whole : with_summand (summand c.args.point c.args.more) items ≡ take c.count_below-before.result items ++ put_before (summand c.args.point total) (drop behind items) =
    ap (λ (z : ℤ). with_summand (summand c.args.point z) items) (sym number) ∙ c.meeting-total.ensures.with in
    elim c.if-coefficient-ne0.branch [
      | then-coefficient-ne0+in_ok-push w ↦
          made_with _ _ _ c.args.point total _ (rw kept at c.in-Some.ensures) whole w.if-coefficient-ne0.true c.in_ok-made.made.items w.push.new.self.items c.extend_from_slice.new.self.items c.in_ok-made.ensures.items w.in_ok-push.ensures.items
          (rw w.made-is at c.in_ok-extend_from_slice.ensures.items ∙ ap (λ (l : List Summand). w.push.new.self.items ++ l) (take_rest items behind))
      | else-coefficient-ne0 w ↦
          made_without _ _ _ c.args.point total _ (rw kept at c.in-Some.ensures) whole w.if-coefficient-ne0.false c.in_ok-made.made.items c.extend_from_slice.new.self.items c.in_ok-made.ensures.items
          (rw w.made-is at c.in_ok-extend_from_slice.ensures.items ∙ ap (λ (l : List Summand). c.in_ok-made.made.items ++ l) (take_rest items behind))
    ]

pub returns-clause-limited : goal.returns-clause-limited
returns-clause-limited c =
    let kept : to_z w128 (of_z w128 c.meeting-total.result.coefficient) ≡ c.meeting-total.result.coefficient = omega (arith, ints) in
    let number : to_z w128 (of_z w128 c.args.more) ≡ c.args.more = omega (arith, ints, c.requires.low, c.requires.high) in
    made_within c.meeting-total.result.coefficient _ _ (rw kept at c.in-Some.ensures) (c.meeting-total.ensures.coefficient ∙ ap (λ (z : ℤ). coefficient_at c.args.point c.args.items.now +ℤ z) number)
