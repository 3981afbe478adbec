use Rattle.std.proofs.Common.{arith, sym, ◌∙◌, map, List, Bor}
use Rattle.std.proofs.lemmas.List.{at_drop_all}
use Rattle.idl_cases.specs.Guarded.{CaseValue}
use Rattle.idl_cases.specs.code.CaseSums.{added_all, signed_cases, summed_cases}
use Rattle.idl_apply.proofs.Arguments.{seen}
use Rattle.idl_apply.proofs.ChoiceSums.{one_more_added}
use Rattle.idl_apply.proofs.choices.add_all.Goals as goal

pub loop-term-preserved : goal.loop-term-preserved
loop-term-preserved c =
    c.loop-term.invariant
    ∙ one_more_added c.args.is_negated c.args.terms.now c.loop-term.term-index c.term-item.result (summed_cases c.loop-term.sum) (summed_cases c.add.new.self) c.loop-term-test.true c.in_ok-add.ensures c.term-item.is

pub returns : goal.returns
returns c =
    sym (c.loop-term.invariant
    ∙ at_drop_all (λ (ts : List (Bor (List CaseValue))). added_all (summed_cases c.loop-term.sum) (map (signed_cases c.args.is_negated) (seen ts))) c.args.terms.now c.loop-term.term-index (omega (arith, c.loop-term-test.false)))
