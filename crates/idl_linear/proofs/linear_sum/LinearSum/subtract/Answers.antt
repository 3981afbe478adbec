use Rattle.std.proofs.Common.{ap, ◌∙◌, arith, ◌≡◌, ◌++◌, ◌+◌, ◌<◌, ◌^◌, map, List}
use Rattle.std.proofs.lemmas.Int.{ints}
use Rattle.idl_linear.specs.declared.summand.Summand.{Summand}
use Rattle.idl_linear.specs.Linear.{negative_summand}
use Rattle.idl_linear.specs.Forms.{SumValue}
use Rattle.idl_linear.proofs.Summing.{sum_less, sum_less_is}
use Rattle.idl_linear.proofs.linear_sum.LinearSum.subtract.Goals as goal

pub invariant_of-self-2 : goal.invariant_of-self-2
invariant_of-self-2 c =
    let inside : SumValue = record { summands = c.self.inside.summands.items; constant = c.self.inside.constant; terms = c.self.inside.terms } in
    let seen : inside.terms ≡ c.args.self.now.terms = ap (λ (s : SumValue). s.terms) c.self.view_is in
    let few : inside.terms + 1 < 2 ^ 64 = omega (arith, seen, c.requires) in
    let items : c.extend.new.list.items ≡ inside.summands ++ map negative_summand c.args.term.now.summands =
    c.in_ok-extend.ensures.ok ∙ ap (λ (l : List Summand). inside.summands ++ l) c.negative_cursor.ensures.items in
    let number : c.from.result ≡ c.args.term.now.constant = omega (arith, ints) in
    sum_less inside c.args.term.now _ _ c.self.invariant c.negative_cursor.ensures.linear few items number

pub returns-clause-ok : goal.returns-clause-ok
returns-clause-ok c =
    let inside : SumValue = record { summands = c.self.inside.summands.items; constant = c.self.inside.constant; terms = c.self.inside.terms } in
    let seen : inside.terms ≡ c.args.self.now.terms = ap (λ (s : SumValue). s.terms) c.self.view_is in
    let few : inside.terms + 1 < 2 ^ 64 = omega (arith, seen, c.requires) in
    let items : c.extend.new.list.items ≡ inside.summands ++ map negative_summand c.args.term.now.summands =
    c.in_ok-extend.ensures.ok ∙ ap (λ (l : List Summand). inside.summands ++ l) c.negative_cursor.ensures.items in
    let number : c.from.result ≡ c.args.term.now.constant = omega (arith, ints) in
    sum_less_is inside c.args.self.now c.args.term.now _ _ c.self.view_is c.self.invariant c.negative_cursor.ensures.linear few items number
