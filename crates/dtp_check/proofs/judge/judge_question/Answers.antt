use Rattle.std.proofs.Common.{refl}
use Rattle.dtp_check.proofs.Judging.{question_taken, question_barred}
use Rattle.dtp_check.proofs.judge.judge_question.Goals as goal

pub refusal-requires-clause-stands : goal.refusal-requires-clause-stands
refusal-requires-clause-stands g c = let asked = c.requires.asked in (asked.0, asked.2.stands)

pub returns-in-Some-clause-turn : goal.returns-in-Some-clause-turn
returns-in-Some-clause-turn g c = λ s x before asked held.
    let walk = c.args.walk.now in
    question_barred g.K.Keeps.leads c.args.keeps.now c.args.keeps.now c.args.question x s walk.number before c.args.entries.now c.args.entries.now walk.number walk.state c.args.earlier.now _ c.in-Some.kind
    (c.in_ok-kind.ensures.refusal s x asked.stands) c.in-Some.is refl

pub returns-in_ok-progress-in-None-clause-turn : goal.returns-in_ok-progress-in-None-clause-turn
returns-in_ok-progress-in-None-clause-turn g c = λ s x before asked held.
    let walk = c.args.walk.now in
    let new = c.judge_answer.new.walk in
    question_taken g.K.Keeps.leads c.args.keeps.now c.judge_answer.new.keeps c.args.question x s walk.number before c.args.entries.now c.judge_answer.new.entries new.number new.state c.judge_answer.new.earlier _ c.in_ok-progress-in-None.progress
    (c.in_ok-kind.ensures.refusal s x asked.stands) c.in-None.is (c.in_ok-progress-in-None.ensures.turn s x before asked held)
