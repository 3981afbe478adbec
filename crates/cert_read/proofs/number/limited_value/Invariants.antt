use Rattle.std.proofs.Common.{◌≡◌, ◌≤◌, drop}
use Rattle.smt_lex.specs.Numbers.{value_from, value_of}
use Rattle.cert_read.proofs.number.limited_value.Given as goal

abbrev pub invariant-loop-digit : goal.invariant-loop-digit
invariant-loop-digit l = record {
  reads : value_from l.value (drop l.digit-index l.digits) ≡ value_of l.digits;
  fits : l.value ≤ l.most;
}
