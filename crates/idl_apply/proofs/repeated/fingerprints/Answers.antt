use Rattle.std.proofs.Common.{arith, List, Bor}
use Rattle.std.proofs.lemmas.List.{length-map}
use Rattle.idl_cases.specs.Guarded.{CaseValue}
use Rattle.idl_apply.proofs.RepeatedTerms.{guarded_more}
use Rattle.idl_apply.proofs.repeated.fingerprints.Goals as goal

pub loop-term-preserved : goal.loop-term-preserved
loop-term-preserved c = record {
  guarded = guarded_more c.args.count c.args.terms.now c.loop-term.term-index c.term-item.result c.loop-term-test.true c.term-item.is c.in-Some.ensures c.loop-term.invariant.guarded;
}

pub returns : goal.returns
returns c = λ k h. c.loop-term.invariant.guarded k (omega (arith, h, length-map c.args.terms.now (λ (b : Bor (List CaseValue)). b.now), c.loop-term-test.false))
