use Rattle.std.proofs.Common.{arith, ◌∙◌, ◌<◌, ◌≤◌, length}
use Rattle.std.proofs.lemmas.Result.{err_from_is_err_and}
use Rattle.idl_node.proofs.Steps.{front_on}
use Rattle.idl_cases.specs.code.CaseSums.{summed_cases}
use Rattle.idl_apply.proofs.CasesRelated.{each_ends, each_fails, each_step}
use Rattle.idl_apply.proofs.pairing.compare_each.Goals as goal

pub case_at-requires-clause-place : goal.case_at-requires-clause-place
case_at-requires-clause-place c = omega (arith, c.loop-place-test.true, c.len-place-end.ensures)

pub returns-in_err-compare_case-clause-makes : goal.returns-in_err-compare_case-clause-makes
returns-in_err-compare_case-clause-makes c =
    let q = err_from_is_err_and c.from_residual-in_err-compare_case.result c.from_residual-in_err-compare_case.ensures.1 in
    let cases = summed_cases c.args.difference.now in
    let within : c.loop-place.place < length cases = omega (arith, c.loop-place-test.true, c.len-place-end.ensures) in
    rw (q.1, q.2) (each_fails c.args.relation cases c.loop-place.place within c.loop-place.nodes c.loop-place.parts.items c.case_at.new.case c.in_ok-case_at.ensures _ c.compare_case.new.nodes c.in_err-compare_case.field-0.0 c.loop-place.invariant.rest c.in_err-compare_case.ensures.makes)

pub loop-place-preserved : goal.loop-place-preserved
loop-place-preserved c =
    let cases = summed_cases c.args.difference.now in
    let within : c.loop-place.place < length cases = omega (arith, c.loop-place-test.true, c.len-place-end.ensures) in
    record {
      rest = c.loop-place.invariant.rest ∙ each_step c.args.relation cases c.loop-place.place within c.loop-place.nodes c.loop-place.parts.items c.case_at.new.case c.in_ok-case_at.ensures c.compare_case.new.nodes c.in_ok-compare_case.field-0 c.push.new.self.items c.in_ok-compare_case.ensures.makes c.in_ok-push.ensures.items;
      front = front_on c.args.nodes.now c.loop-place.nodes c.compare_case.new.nodes c.loop-place.invariant.front c.in_ok-compare_case.ensures.front;
    }

pub returns-clause-makes : goal.returns-clause-makes
returns-clause-makes c =
    let cases = summed_cases c.args.difference.now in
    let all : length cases ≤ c.loop-place.place = omega (arith, c.loop-place-test.false, c.len-place-end.ensures, c.requires) in
    each_ends c.args.relation cases c.loop-place.place c.loop-place.nodes c.conjoin.new.nodes c.loop-place.parts.items _ c.conjoin.result all c.loop-place.invariant.rest c.conjoin.ensures.makes
