use Rattle.std.proofs.Common.{rules, ap, sym, ◌∙◌, ℤ, Option, FitsSigned}
use Rattle.std.proofs.lemmas.Int.{to_z-of_z}
use Rattle.std.specs.Int.{w128}
use Rattle.idl_value.specs.code.Evaluating.{both_values, first_value}
use Rattle.idl_value.specs.code.Looking.{whole_number, whole_of, whole_value}
use Rattle.idl_value.proofs.Looking.{whole_summed}
use Rattle.idl_value.proofs.pending.Pending.summed.Goals as goal

pub returns-in-Some-clause-value : goal.returns-in-Some-clause-value
returns-in-Some-clause-value c = λ test values.
    let part = c.args.self in
    let others = first_value test values c.args.choices.now in
    let fits : FitsSigned w128 c.with.result = search rules in
    let value_fits : FitsSigned w128 c.in-Some.value = search rules in
    let read = to_z-of_z w128 c.in-Some.value value_fits in
    ap (λ (sum : ℤ). whole_of part.is_negated sum part.otherwise others) (to_z-of_z w128 c.with.result fits ∙ c.with.ensures ∙ ap (whole_number part.is_negated part.sum) read)
    ∙ whole_summed part.sum part.otherwise part.is_negated c.in-Some.value others
    ∙ ap (λ (o : Option ℤ). whole_value part (both_values o others)) (sym c.in-Some.is)
