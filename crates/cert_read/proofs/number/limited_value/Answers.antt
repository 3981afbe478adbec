use Rattle.std.proofs.Common.{◌≡◌, ◌<◌, ◌+◌, ◌-◌, ◌*◌, sym, ap, ◌∙◌, get_or, arith}
use Rattle.smt_lex.specs.Numbers.{value_of}
use Rattle.smt_lex.proofs.NumeralValues.{value_at_most, value_from_step, value_from_end}
use Rattle.cert_read.specs.Parts.{limited}
use Rattle.cert_read.proofs.EntryBack.{limited_is, limited_past}
use Rattle.cert_read.proofs.number.limited_value.Goals as goal

pub returns-then-value-most : goal.returns-then-value-most
returns-then-value-most c =
    let least = value_at_most c.loop-digit.value c.loop-digit.digit-index c.args.digits.now c.loop-digit-test.true c.loop-digit.invariant.reads in
    let past : c.args.most < value_of c.args.digits.now = omega (arith, c.if-value-most.true, least, c.from.ensures) in
    sym (limited_past c.args.most (value_of c.args.digits.now) past)

pub loop-digit-preserved : goal.loop-digit-preserved
loop-digit-preserved c =
    let next : 10 * c.loop-digit.value + c.from.result ≡ c.loop-digit.value * 10 + (get_or c.args.digits.now c.loop-digit.digit-index 0 - 48) = omega (arith, c.from.ensures) in
    record {
      reads = rw next (sym (value_from_step c.loop-digit.value c.loop-digit.digit-index c.args.digits.now c.loop-digit-test.true) ∙ c.loop-digit.invariant.reads);
      fits = omega (arith, c.if-value-most.false);
    }

pub returns : goal.returns
returns c =
    let whole : c.loop-digit.value ≡ value_of c.args.digits.now = sym (value_from_end c.loop-digit.value c.loop-digit.digit-index c.args.digits.now (omega (arith, c.loop-digit-test.false))) ∙ c.loop-digit.invariant.reads in
    sym (limited_is c.args.most c.loop-digit.value c.loop-digit.invariant.fits) ∙ ap (limited c.args.most) whole
