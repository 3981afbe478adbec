use Rattle.std.proofs.Common.{rules, arith, subst, ◌∙◌, ◌<◌, length}
use Rattle.idl_linear.specs.code.Bounded.{IsOver}
use Rattle.idl_cases.specs.code.CaseSums.{added}
use Rattle.idl_cases.specs.code.CasePlaces.{place_case, IsOpened}
use Rattle.idl_cases.specs.declared.places.Behind.{Behind}
use Rattle.idl_cases.proofs.Going.{went_first}
use Rattle.idl_cases.proofs.places.+go_to.Goals as goal

pub loop-next-preserved-in-One : goal.loop-next-preserved-in-One
loop-next-preserved-in-One t c =
    let opened = subst (λ (b : Behind). IsOpened (length c.loop-next.at.choices.now) (added c.loop-next.case (place_case c.loop-next.at)) c.open.new.case b) c.in-One.is c.in_ok-open.ensures.opened in
    record {
      same = opened.1 ∙ c.loop-next.invariant.same;
      within = opened.0.within;
      few = omega (arith, opened.0.fewer, c.loop-next.invariant.few);
      over = c.in_ok-open.ensures.over;
    }

pub loop-next-smaller-in-One : goal.loop-next-smaller-in-One
loop-next-smaller-in-One t c =
    let opened = subst (λ (b : Behind). IsOpened (length c.loop-next.at.choices.now) (added c.loop-next.case (place_case c.loop-next.at)) c.open.new.case b) c.in-One.is c.in_ok-open.ensures.opened in
    opened.0.fewer

pub go_to-requires : goal.go_to-requires
go_to-requires t c =
    let opened = subst (λ (b : Behind). IsOpened (length c.loop-next.at.choices.now) (added c.loop-next.case (place_case c.loop-next.at)) c.open.new.case b) c.in-Two.is c.in_ok-open.ensures.opened in
    let smaller : length c.in-Two.first.choices.now < length c.args.at.choices.now = omega (arith, opened.0.fewer, c.loop-next.invariant.few) in
    let within : c.in-Two.first.place < length c.in-Two.first.choices.now = opened.0.within in
    let over : IsOver c.open.new.case.linear = c.in_ok-open.ensures.over in
    search rules

pub loop-next-smaller : goal.loop-next-smaller
loop-next-smaller t c =
    let opened = subst (λ (b : Behind). IsOpened (length c.loop-next.at.choices.now) (added c.loop-next.case (place_case c.loop-next.at)) c.open.new.case b) c.in-Two.is c.in_ok-open.ensures.opened in
    opened.1.fewer

pub loop-next-preserved : goal.loop-next-preserved
loop-next-preserved t c =
    let opened = subst (λ (b : Behind). IsOpened (length c.loop-next.at.choices.now) (added c.loop-next.case (place_case c.loop-next.at)) c.open.new.case b) c.in-Two.is c.in_ok-open.ensures.opened in
    record {
      same = went_first c.open.new.case c.go_to.new.case c.in-Two.first c.in-Two.second c.in_ok-go_to-in-Two.ensures.added opened.2 ∙ c.loop-next.invariant.same;
      within = opened.1.within;
      few = omega (arith, opened.1.fewer, c.loop-next.invariant.few);
      over = c.in_ok-go_to-in-Two.ensures.over;
    }
