use Rattle.std.proofs.Common.{rules, arith, ◌≡◌, ◌<◌, ◌+◌, length, drop, get_or, pos, ◌+ℤ◌, FitsSigned, w64}
use Rattle.std.proofs.lemmas.Int.{ints}
use Rattle.std.proofs.lemmas.List.{at_drop_more, at_drop_all}
use Rattle.stn_core.specs.declared.literal.Literal.{Literal}
use Rattle.stn_core.specs.Cycle.{weight_of}
use Rattle.neg_cycle.proofs.cut.sum_from.Goals as goal

abbrev none : Literal
none = record { x = 0; y = 0; c = pos 0 }

pub bounds-preserved : goal.bounds-preserved
bounds-preserved c =
    let i = c.bounds.i in
    let i_in : i < length c.args.literals.now = omega arith in
    let next : weight_of (drop i c.args.literals.now) ≡ (get_or c.args.literals.now i none).c +ℤ weight_of (drop (i + 1) c.args.literals.now) = at_drop_more weight_of c.args.literals.now i none i_in in
    let fits : FitsSigned w64 (get_or c.args.literals.now i none).c = search rules in
    let inv = c.bounds.invariant in
    record {
      from = omega arith;
      rest = omega (arith, ints, next);
      low = omega (arith, ints);
      high = omega (arith, ints);
    }

pub returns : goal.returns
returns c =
    let at : weight_of (drop c.bounds.i c.args.literals.now) ≡ pos 0 = at_drop_all weight_of c.args.literals.now c.bounds.i (omega arith) in
    let inv = c.bounds.invariant.rest in
    omega (arith, ints)
