use Rattle.std.proofs.Common.{subst}
use Rattle.book_core.specs.Verdicts.{IsRight}
use Rattle.best_bound.specs.code.Hearings.{IsHeard}
use Rattle.best_bound.proofs.Replies.{heard_at_once, heard_later, known_at_once, known_later}
use Rattle.best_bound.proofs.questions.best_by.Goals.{in-Some, in-None+in_ok-verdict-in-None, in-Heard, in-Open+in_ok-verdict-in-Open+in_ok-heard-in-Open}
use Rattle.best_bound.proofs.questions.best_by.Goals as goal

pub returns-in-Unsat : goal.returns-in-Unsat
returns-in-Unsat g c =
    let right : IsRight c.args.problem.now c.match-verdict.verdict = elim c.match-verdict.branch [
      | in-Some w ↦ known_at_once c.args.problem.now c.in_ok-begun.begun.verdict w.in-Some.verdict c.match-verdict.verdict c.in_ok-begun.ensures.verdict w.in-Some.is w.verdict-is
      | in-None+in_ok-verdict-in-None w ↦ known_later c.args.problem.now w.in_ok-verdict-in-None.verdict c.match-verdict.verdict w.in_ok-verdict-in-None.ensures w.verdict-is
    ] in
    subst (IsRight c.args.problem.now) c.in-Unsat.is right

pub questions-preserved : goal.questions-preserved
questions-preserved g c =
    let turn = c.in_ok-turn.ensures in
    let heard : IsHeard c.args.problem.now c.args.x c.args.y c.questions.descent c.match-asked.heard = elim c.match-asked.branch [
      | in-Heard w ↦ heard_at_once c.args.problem.now c.args.x c.args.y c.questions.descent c.in_ok-turn.turn.asked w.in-Heard.heard c.match-asked.heard turn.asked w.in-Heard.is w.heard-is
      | in-Open+in_ok-verdict-in-Open+in_ok-heard-in-Open w ↦ heard_later c.args.problem.now c.args.x c.args.y c.questions.descent w.in-Open.same w.in-Open.open c.in_ok-turn.turn.asked w.in_ok-heard-in-Open.heard c.match-asked.heard turn.asked w.in-Open.is w.in_ok-heard-in-Open.ensures w.heard-is
    ] in
    record { descent = (subst (IsHeard c.args.problem.now c.args.x c.args.y c.questions.descent) c.in-GoesOn.is heard).descent; search = turn.search }
