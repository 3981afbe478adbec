use Rattle.std.proofs.Common.{refl, subst, List, Option}
use Rattle.std.specs.Prelude.{IfSome}
use Rattle.stn_core.specs.declared.named.NamedValue.{NamedValue}
use Rattle.stn_core.specs.Named.{AreWithinLimit}
use Rattle.smt_script.specs.declared.state.Question.TheVariants.{CheckSat}
use Rattle.smt_script.specs.States.{State}
use Rattle.script_walk.specs.code.Standing.{Stands}
use Rattle.dtp_entry.specs.Bests.{Satisfies}
use Rattle.dtp_session.proofs.Answering.{holds_aside, checked_aside, answered_aside}
use Rattle.dtp_session.proofs.session.Session.ask_anew.Goals as goal

pub returns-in-Some-clause-answered : goal.returns-in-Some-clause-answered
returns-in-Some-clause-answered g c = λ s x holds asked.
    let p = c.args.self.now in
    let mid = c.satisfying.new.self in
    let same = c.satisfying.ensures.same in
    let there = subst (λ (found : Option (List NamedValue)). IfSome found (λ values. (t : State) → Stands p.walk.state t → Satisfies t.context values × AreWithinLimit values)) c.in-Some.is c.in_ok-values.ensures.found in
    let fits = there s holds.stands in
    (refl, checked_aside p mid c.satisfy_by.new.self s CheckSat x same (c.in_ok-satisfy_by.ensures.checked s x (holds_aside p mid s same holds) asked fits.0 fits.1))

pub returns-clause-answered : goal.returns-clause-answered
returns-clause-answered g c = λ s x holds asked.
    let p = c.args.self.now in
    let mid = c.satisfying.new.self in
    let same = c.satisfying.ensures.same in
    answered_aside p mid c.ask_problem.new.self s CheckSat x c.in_ok-piece.piece same (c.in_ok-piece.ensures.answered s x (holds_aside p mid s same holds) asked)
