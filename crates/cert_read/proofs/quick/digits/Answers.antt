use Rattle.std.proofs.Common.{◌∙◌, ◌≡◌, true, get_or, sym, refl, arith}
use Rattle.std.specs.Char.{is_ascii_digit}
use Rattle.std.proofs.lemmas.List.Folds.{list_all_more}
use Rattle.smt_lex.specs.Numbers.{value_from}
use Rattle.cert_read.proofs.NumeralTexts.{digit_is}
use Rattle.cert_read.proofs.QuickTexts.{value_more}
use Rattle.cert_read.proofs.quick.digits.Goals as goal

pub loop-count-init : goal.loop-count-init
unfolding value_from
loop-count-init c = record { within = omega arith; digits = refl; value = refl; small = omega arith }

pub loop-count-preserved : goal.loop-count-preserved
loop-count-preserved c =
    let passes : is_ascii_digit (get_or c.args.bytes.now c.loop-count.count 0) ≡ true = sym c.if-is_ascii_digit.ensures.value in
    let digit = digit_is (get_or c.args.bytes.now c.loop-count.count 0) passes in
    let value = c.loop-count.invariant.value in
    let next = value_more c.args.bytes.now c.loop-count.count c.loop-count-test.true in
    record {
      within = omega (arith, c.loop-count-test.true);
      digits = list_all_more is_ascii_digit c.args.bytes.now c.loop-count.count 0 c.loop-count-test.true ∙ rw c.loop-count.invariant.digits passes;
      value = omega (arith, value, next, c.from.ensures, digit.0);
      small = omega (arith, c.if-value-lt100000000000000000.true, c.from.ensures, digit.0, digit.1);
    }
