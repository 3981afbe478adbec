use Rattle.std.proofs.Common.{arith, ap, ◌∙◌, ◌<◌, ◌≤◌, List, Bor, length}
use Rattle.std.proofs.lemmas.List.{length-map, length_push}
use Rattle.std.proofs.lemmas.Result.{err_from_is_err_and}
use Rattle.idl_node.proofs.Steps.{front_on}
use Rattle.idl_cases.specs.Guarded.{CaseValue}
use Rattle.idl_apply.specs.code.Repeats.{term_at}
use Rattle.idl_apply.proofs.Arguments.{seen}
use Rattle.idl_apply.proofs.PairsCompared.{refused_behind, row_ends, row_grows, row_steps, row_stops}
use Rattle.idl_apply.proofs.rows.compare_others.Goals as goal

pub returns-in_err-compare_at-clause-refused : goal.returns-in_err-compare_at-clause-refused
returns-in_err-compare_at-clause-refused c =
    let q = err_from_is_err_and c.from_residual.result c.from_residual.ensures.1 in
    let within : c.loop-j.j < length (seen c.args.all.terms.now) = omega (arith, c.loop-j-test.true, length-map c.args.all.terms.now (λ (b : Bor (List CaseValue)). b.now)) in
    rw (q.1, q.2) (λ before rest. refused_behind c.compare_at.new.nodes _ _ c.in_err-compare_at.field-0.0 (c.loop-j.invariant.made before rest)
    (row_stops c.args.all.relation (term_at (seen c.args.all.terms.now) c.args.i) c.loop-j.nodes (seen c.args.all.terms.now) c.loop-j.j rest before c.loop-j.row.items c.compare_at.new.nodes c.in_err-compare_at.field-0.0 within c.in_err-compare_at.ensures.makes))

pub loop-j-preserved : goal.loop-j-preserved
loop-j-preserved c =
    let within : c.loop-j.j < length (seen c.args.all.terms.now) = omega (arith, c.loop-j-test.true, length-map c.args.all.terms.now (λ (b : Bor (List CaseValue)). b.now)) in
    record {
      made = λ before rest. c.loop-j.invariant.made before rest
          ∙ row_steps c.args.all.relation (term_at (seen c.args.all.terms.now) c.args.i) c.loop-j.nodes (seen c.args.all.terms.now) c.loop-j.j rest before c.loop-j.row.items c.compare_at.new.nodes c.in_ok-compare_at.field-0 c.push.new.self.items within c.in_ok-compare_at.ensures.makes c.in_ok-push.ensures.items;
      count = omega (arith, c.loop-j.invariant.count, ap length c.in_ok-push.ensures.items, length_push c.loop-j.row.items c.in_ok-compare_at.field-0, c.loop-j.auto.j);
      row = λ repeats. row_grows c.args.all.relation c.loop-j.nodes c.compare_at.new.nodes (seen c.args.all.terms.now) c.args.i c.loop-j.j c.loop-j.row.items c.push.new.self.items c.in_ok-compare_at.field-0 c.in_ok-compare_at.ensures.front c.loop-j.invariant.count (omega (arith, c.loop-j.auto.j)) c.in_ok-push.ensures.items
          (c.loop-j.invariant.row repeats) (c.in_ok-compare_at.ensures.settled repeats);
      front = front_on c.args.nodes.now c.loop-j.nodes c.compare_at.new.nodes c.loop-j.invariant.front c.in_ok-compare_at.ensures.front;
    }

pub returns-clause-made : goal.returns-clause-made
returns-clause-made c =
    let all : length (seen c.args.all.terms.now) ≤ c.loop-j.j = omega (arith, c.loop-j-test.false, length-map c.args.all.terms.now (λ (b : Bor (List CaseValue)). b.now)) in
    λ before rest. c.loop-j.invariant.made before rest
    ∙ row_ends c.args.all.relation (term_at (seen c.args.all.terms.now) c.args.i) c.loop-j.nodes (seen c.args.all.terms.now) c.loop-j.j rest before c.loop-j.row.items all
