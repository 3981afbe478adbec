use Rattle.std.proofs.Common.{refl}
use Rattle.smt_lex.specs.Numbers.{value_from}
use Rattle.cert_read.proofs.laws.examples_law.Goals as goal

pub returns : goal.returns
unfolding value_from
returns c = record {
  entry = refl;
  minus_zero = refl;
  beyond_points = refl;
  beyond_limit = refl;
  greatest_value = refl;
  beyond_values = refl;
  clash_in_one = refl;
  clash_in_two = refl;
  clash_of_two = refl;
  keep_in_one = refl;
  keep_in_two = refl;
  keep_of_one = refl;
  kept_entry = refl;
  best = refl;
  best_without_values = refl;
  unbounded = refl;
  point_twice = refl;
  points_beyond = refl;
  end = refl;
  end_with_more = refl;
}
