use Rattle.std.proofs.Common.{sym, subst, arith, ◌<◌, List, length}
use Rattle.idl_cases.specs.Guarded.{CaseValue, branched}
use Rattle.idl_cases.specs.code.Bounded.{AreBounded, AreLinear, AreOver}
use Rattle.idl_cases.proofs.CaseBounds.{bounded_below, bounded_branched, linear_each, over_bounded}
use Rattle.idl_cases.proofs.CaseLaws.{length-branched}
use Rattle.idl_cases.proofs.cases.Cases.branched.Goals as goal

pub invariant_of-tree : goal.invariant_of-tree
invariant_of-tree c =
    let b = c.of_both-bounds.result in
    let long = length-branched c.args.condition c.args.denial c.args.yes c.args.no in
    let first = c.len.ensures.count in
    let second = c.len-2.ensures.count in
    let some = c.len.ensures.some in
    let more = c.len-2.ensures.some in
    record {
      fewer = (some, more);
      counted = omega (arith, long, first, second);
      many = omega (arith, long, some, more);
      limits = c.of_both-bounds.ensures.limits;
      each = bounded_branched b c.args.condition c.args.denial c.args.yes c.args.no (bounded_below c.bounds.result b c.args.yes c.of_both-bounds.ensures.first c.bounds.ensures.each) (bounded_below c.bounds-2.result b c.args.no c.of_both-bounds.ensures.second c.bounds-2.ensures.each);
    }

pub invariant_of-result : goal.invariant_of-result
invariant_of-result c =
    let b = c.of_both-bounds.result in
    let whole = branched c.args.condition c.args.denial c.args.yes c.args.no in
    let long = length-branched c.args.condition c.args.denial c.args.yes c.args.no in
    let some = c.len.ensures.some in
    let more = c.len-2.ensures.some in
    let many : 1 < length whole = omega (arith, long, some, more) in
    let each : AreBounded b whole = bounded_branched b c.args.condition c.args.denial c.args.yes c.args.no (bounded_below c.bounds.result b c.args.yes c.of_both-bounds.ensures.first c.bounds.ensures.each) (bounded_below c.bounds-2.result b c.args.no c.of_both-bounds.ensures.second c.bounds-2.ensures.each) in
    subst (λ (cs : List CaseValue). (1 < length cs) × AreOver cs × AreLinear cs) (sym c.in_ok-choices.ensures) (many, over_bounded b whole each, linear_each b whole c.of_both-bounds.ensures.limits each)
