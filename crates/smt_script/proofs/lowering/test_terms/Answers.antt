use Rattle.std.proofs.Common.{arith, sym, ap, ◌∙◌, ◌≡◌, length, take}
use Rattle.std.proofs.lemmas.Result.{err_from_is_err_and}
use Rattle.std.proofs.lemmas.List.{drop_all}
use Rattle.smt_sexpr.proofs.Shapes.{next_of}
use Rattle.smt_script.proofs.Testing.{tested_more, tested_error, tested_all}
use Rattle.smt_script.proofs.lowering.test_terms.Goals as goal

pub lower-requires-clause-meaning : goal.lower-requires-clause-meaning
lower-requires-clause-meaning c =
    let so_far = c.loop-term.invariant.tested c.requires.meaning.0 c.requires.meaning.1 in
    let n = next_of c.args.sexprs.now c.args.terms.now c.loop-term.term-index so_far.0 (omega arith) so_far.1 in
    (n.first, n.first_means)

pub returns-in_err-lower-clause-tested : goal.returns-in_err-lower-clause-tested
returns-in_err-lower-clause-tested c = λ ts means.
    let q = err_from_is_err_and c.from_residual.result c.from_residual.ensures.1 in
    rw (← c.loop-term.invariant.same, q.1)
    (tested_error c.args.sexprs.now c.args.terms.now c.args.scope.now c.loop-term.nodes c.loop-term.term-index c.loop-term.invariant.tested (omega arith) c.lower.new.nodes c.in_err-lower.field-0.0 q.0 q.2 c.in_err-lower.ensures.lowers ts means)

pub loop-term-preserved : goal.loop-term-preserved
loop-term-preserved c =
    let same : c.cut.new.self ≡ c.loop-term.nodes = c.cut.ensures ∙ ap (λ n. take n c.lower.new.nodes) (c.len-before.ensures.count ∙ sym (ap length c.loop-term.invariant.same)) ∙ c.lower.ensures.front in
    record {
      same = same ∙ c.loop-term.invariant.same;
      tested = rw same (tested_more c.args.sexprs.now c.args.terms.now c.args.scope.now c.loop-term.nodes c.loop-term.term-index c.loop-term.invariant.tested (omega arith)
          (λ x means. (_, c.in_ok-lower.ensures.lowers x means)));
    }

pub returns-clause-tested : goal.returns-clause-tested
returns-clause-tested c = λ ts means.
    rw (← c.loop-term.invariant.same) (tested_all c.args.sexprs.now c.args.terms.now c.args.scope.now c.loop-term.nodes c.loop-term.term-index c.loop-term.invariant.tested (drop_all c.loop-term.term-index c.args.terms.now (omega arith)) ts means)
