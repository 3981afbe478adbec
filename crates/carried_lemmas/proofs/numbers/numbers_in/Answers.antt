use Rattle.std.proofs.Common.{arith, ◌≡◌, ◌+◌, ℕ, List, length, Some, refl, sym, ap, subst, ◌∙◌}
use Rattle.std.specs.Prelude.{slice_get}
use Rattle.std.proofs.lemmas.List.{length_push}
use Rattle.std.proofs.lemmas.Option.{slice_get_read, slice_get_within}
use Rattle.stn_core.specs.declared.literal.Literal.{Literal}
use Rattle.carried_lemmas.specs.Carried.{IsEqualAt}
use Rattle.carried_lemmas.proofs.Firsts.{numbers_next}
use Rattle.carried_lemmas.proofs.numbers.numbers_in.Goals as goal

pub loop-clause-preserved : goal.loop-clause-preserved
loop-clause-preserved c =
    let old = c.args.old.now in
    let k = c.loop-clause.clause-index in
    let numbers = c.loop-clause.numbers.items in
    let number = c.copied-number.result in
    let here : slice_get old k ≡ Some c.as_slice.result.now =
    slice_get_read old (length old) k c.clause-item.result refl c.loop-clause-test.true c.clause-item.is ∙ ap (λ (z : List Literal). Some z) (sym c.as_slice.ensures) in
    record {
      count = ap length c.in_ok-push.ensures.items ∙ length_push numbers number ∙ ap (λ (n : ℕ). n + 1) c.loop-clause.invariant.count;
      each = numbers_next old c.args.new.now numbers c.push.new.self.items k number c.as_slice.result.now c.loop-clause.invariant.count c.in_ok-push.ensures.items here
          (subst (IsEqualAt c.args.new.now c.as_slice.result.now) (sym (c.copied-number.ensures ∙ c.get.ensures.value)) (c.in_ok-firsts.ensures c.as_slice.result)) c.loop-clause.invariant.each;
    }

pub returns : goal.returns
returns c =
    let all : c.loop-clause.clause-index ≡ length c.args.old.now = omega (arith, c.loop-clause-test.false, c.loop-clause.auto.clause-index-end) in
    record {
      one_each = c.loop-clause.invariant.count ∙ all;
      each = λ i clause at. c.loop-clause.invariant.each i clause (omega (arith, all, slice_get_within c.args.old.now i clause at)) at;
    }
