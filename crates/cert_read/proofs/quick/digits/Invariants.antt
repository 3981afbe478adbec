use Rattle.std.proofs.Common.{length, ◌-◌, ◌≡◌, ◌<◌, ◌≤◌, ◌^◌, take, IsTrue}
use Rattle.std.specs.Char.{is_ascii_digit}
use Rattle.std.specs.List.{list_all}
use Rattle.smt_lex.specs.Numbers.{value_of}
use Rattle.cert_read.proofs.quick.digits.Given as goal

abbrev pub invariant-loop-count : goal.invariant-loop-count
invariant-loop-count l = record {
  within : l.count ≤ length l.bytes;
  digits : IsTrue (list_all is_ascii_digit (take l.count l.bytes));
  value : l.value ≡ value_of (take l.count l.bytes);
  small : l.value < 10 ^ 18;
}

abbrev pub decreases-loop-count : goal.decreases-loop-count
decreases-loop-count l = length l.bytes - l.count
