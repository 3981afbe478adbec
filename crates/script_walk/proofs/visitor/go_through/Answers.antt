use Rattle.std.proofs.Common.{rules, subst, Option}
use Rattle.std.specs.Prelude.{IfSome}
use Rattle.script_walk.specs.declared.walk.Event.TheVariants.{Told, Asked, Ended, Failed}
use Rattle.script_walk.specs.code.Visiting.{IsAt}
use Rattle.script_walk.proofs.Visiting.{at_event, ok_at, err_at}
use Rattle.script_walk.proofs.visitor.go_through.Goals as goal

pub events-smaller-in-Continue-branch-4 : goal.events-smaller-in-Continue-branch-4
events-smaller-in-Continue-branch-4 g c =
    let v = g.V.Visitor in
    (c.in_ok-told-in-Told.ensures.so_far (at_event v.so_far v.comes c.args.visitor.now c.events.visitor c.next.new.self c.args.lent.now c.events.lent _ (Told c.in-Told.id c.in-Told.notice) c.in-Told.is c.events.invariant c.in_ok-id.ensures.comes)).1

pub events-preserved-in-Continue-branch-4 : goal.events-preserved-in-Continue-branch-4
events-preserved-in-Continue-branch-4 g c =
    let v = g.V.Visitor in
    (c.in_ok-told-in-Told.ensures.so_far (at_event v.so_far v.comes c.args.visitor.now c.events.visitor c.next.new.self c.args.lent.now c.events.lent _ (Told c.in-Told.id c.in-Told.notice) c.in-Told.is c.events.invariant c.in_ok-id.ensures.comes)).0

pub returns-in_err-told-in-Told-clause-breaks : goal.returns-in_err-told-in-Told-clause-breaks
returns-in_err-told-in-Told-clause-breaks g c =
    let v = g.V.Visitor in
    let h = c.in_err-told-in-Told.ensures.breaks (at_event v.so_far v.comes c.args.visitor.now c.events.visitor c.next.new.self c.args.lent.now c.events.lent _ (Told c.in-Told.id c.in-Told.notice) c.in-Told.is c.events.invariant c.in_ok-id.ensures.comes) in
    search rules

pub returns-in_err-end-in-Asked-clause-breaks : goal.returns-in_err-end-in-Asked-clause-breaks
returns-in_err-end-in-Asked-clause-breaks g c =
    let v = g.V.Visitor in
    let h = c.in_err-end-in-Asked.ensures.breaks (at_event v.so_far v.comes c.args.visitor.now c.events.visitor c.next.new.self c.args.lent.now c.events.lent _ (Asked c.in-Asked.id c.in-Asked.question) c.in-Asked.is c.events.invariant c.in_ok-id.ensures.comes) in
    search rules

pub returns-in-Some-clause-ends : goal.returns-in-Some-clause-ends
returns-in-Some-clause-ends g c =
    let v = g.V.Visitor in
    let h = subst (λ (o : Option g.row.V-End.Denot). IfSome o (λ last. (x : IsAt v.so_far v.comes c.next.new.self c.events.lent (Asked c.in-Asked.id c.in-Asked.question)) → v.ends x.first x.lent_first c.asked.new.self c.asked.new.lent last)) c.in-Some.is c.in_ok-end-in-Asked.ensures.ends (at_event v.so_far v.comes c.args.visitor.now c.events.visitor c.next.new.self c.args.lent.now c.events.lent _ (Asked c.in-Asked.id c.in-Asked.question) c.in-Asked.is c.events.invariant c.in_ok-id.ensures.comes) in
    h

pub events-smaller : goal.events-smaller
events-smaller g c =
    let v = g.V.Visitor in
    (c.in_ok-end-in-Asked.ensures.so_far c.in_default.is (at_event v.so_far v.comes c.args.visitor.now c.events.visitor c.next.new.self c.args.lent.now c.events.lent _ (Asked c.in-Asked.id c.in-Asked.question) c.in-Asked.is c.events.invariant c.in_ok-id.ensures.comes)).1

pub events-preserved : goal.events-preserved
events-preserved g c =
    let v = g.V.Visitor in
    (c.in_ok-end-in-Asked.ensures.so_far c.in_default.is (at_event v.so_far v.comes c.args.visitor.now c.events.visitor c.next.new.self c.args.lent.now c.events.lent _ (Asked c.in-Asked.id c.in-Asked.question) c.in-Asked.is c.events.invariant c.in_ok-id.ensures.comes)).0

pub returns-in-Ended-clause-ends : goal.returns-in-Ended-clause-ends
returns-in-Ended-clause-ends g c =
    let v = g.V.Visitor in
    let at = at_event v.so_far v.comes c.args.visitor.now c.events.visitor c.next.new.self c.args.lent.now c.events.lent _ Ended c.in-Ended.is c.events.invariant c.in_ok-id.ensures.comes in
    ok_at at (λ (x : IsAt v.so_far v.comes c.next.new.self c.events.lent Ended). v.ends x.first x.lent_first c.ended.new.self c.ended.new.lent) c.ended.result c.ended.ensures.ends

pub returns-in-Ended-clause-breaks : goal.returns-in-Ended-clause-breaks
returns-in-Ended-clause-breaks g c =
    let v = g.V.Visitor in
    let at = at_event v.so_far v.comes c.args.visitor.now c.events.visitor c.next.new.self c.args.lent.now c.events.lent _ Ended c.in-Ended.is c.events.invariant c.in_ok-id.ensures.comes in
    err_at at (λ (x : IsAt v.so_far v.comes c.next.new.self c.events.lent Ended). v.breaks x.first x.lent_first c.ended.new.self c.ended.new.lent) c.ended.result c.ended.ensures.breaks

pub returns-in-Failed-clause-ends : goal.returns-in-Failed-clause-ends
returns-in-Failed-clause-ends g c =
    let v = g.V.Visitor in
    let at = at_event v.so_far v.comes c.args.visitor.now c.events.visitor c.next.new.self c.args.lent.now c.events.lent _ (Failed c.in-Failed.kind) c.in-Failed.is c.events.invariant c.in_ok-id.ensures.comes in
    ok_at at (λ (x : IsAt v.so_far v.comes c.next.new.self c.events.lent (Failed c.in-Failed.kind)). v.ends x.first x.lent_first c.failed.new.self c.failed.new.lent) c.failed.result c.failed.ensures.ends

pub returns-in-Failed-clause-breaks : goal.returns-in-Failed-clause-breaks
returns-in-Failed-clause-breaks g c =
    let v = g.V.Visitor in
    let at = at_event v.so_far v.comes c.args.visitor.now c.events.visitor c.next.new.self c.args.lent.now c.events.lent _ (Failed c.in-Failed.kind) c.in-Failed.is c.events.invariant c.in_ok-id.ensures.comes in
    err_at at (λ (x : IsAt v.so_far v.comes c.next.new.self c.events.lent (Failed c.in-Failed.kind)). v.breaks x.first x.lent_first c.failed.new.self c.failed.new.lent) c.failed.result c.failed.ensures.breaks
