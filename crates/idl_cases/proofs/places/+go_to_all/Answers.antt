use Rattle.std.proofs.Common.{rules, arith, ap, ◌∙◌, ◌≡◌, ◌<◌, ◌/◌, ◌%◌, ◌∷◌, [], length}
use Rattle.std.specs.List.{AllByRecursion}
use Rattle.idl_linear.specs.code.Bounded.{IsOver}
use Rattle.idl_cases.specs.Guarded.{CaseValue}
use Rattle.idl_cases.specs.code.CaseSums.{added, added_all, case_at, AreChoices}
use Rattle.idl_cases.specs.code.CasePlaces.{place_case, signed_lists}
use Rattle.idl_cases.specs.declared.places.Place.{Place}
use Rattle.idl_cases.proofs.Going.{on_better, others_are, place_before, gone}
use Rattle.idl_cases.proofs.places.+go_to_all.Goals as goal

pub go_to_all-requires : goal.go_to_all-requires
go_to_all-requires t c =
    let split = c.in-Some.ensures.cases in
    let smaller : length c.in-Some.others.now < length c.args.choices.now = omega (arith, split.1) in
    let each : AllByRecursion AreChoices (signed_lists c.in-Some.others.now) = others_are c.args.choices.now c.in-Some.others.now c.in-Some.last.now split.0 c.args.case.now c.requires.each in
    let place : c.args.place / c.len-count.result < length (added_all (c.args.case.now ∷ []) (signed_lists c.in-Some.others.now)) =
    place_before c.args.choices.now c.in-Some.others.now c.in-Some.last.now split.0 c.args.case.now c.requires.each c.args.place c.len-count.result c.len-count.ensures.count c.requires.place in
    let over : IsOver c.args.case.now.linear = c.requires.over in
    search rules

pub returns-clause-added : goal.returns-clause-added
returns-clause-added t c =
    let split = c.in-Some.ensures.cases in
    let count = c.len-count.result in
    let inside : Place = record { is_negated = c.in-Some.last.now.is_negated; choices = c.in-Some.last.now.choices; place = c.args.place % count } in
    let same = gone c.args.choices.now c.in-Some.others.now c.in-Some.last.now split.0 c.args.case.now c.requires.each c.args.place count c.len-count.ensures.count c.len-count.ensures.many c.requires.place in
    on_better c.go_to.result (c.go_to.new.case ≡ added c.go_to_all.new.case (place_case inside)) (c.go_to.new.case ≡ case_at (added_all (c.args.case.now ∷ []) (signed_lists c.args.choices.now)) c.args.place)
    (λ e. e ∙ ap (λ (v : CaseValue). added v (place_case inside)) c.in_ok-go_to_all.ensures.added ∙ same) c.go_to.ensures.added
