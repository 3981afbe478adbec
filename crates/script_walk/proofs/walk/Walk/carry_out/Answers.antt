use Rattle.std.proofs.Common.{refl, ap, ◌∙◌, ◌+◌, Err}
use Rattle.smt_answer.specs.Kinds.{kind_of}
use Rattle.script_walk.specs.declared.walk.Walk.{Walk}
use Rattle.script_walk.proofs.Carrying.{told_carries, asked_carries, exit_carries, refused_carries}
use Rattle.script_walk.proofs.walk.Walk.carry_out.Goals as goal

pub returns-in-Ok-Tell-clause-carries : goal.returns-in-Ok-Tell-clause-carries
returns-in-Ok-Tell-clause-carries c = λ s x stands means.
    let w : Walk = record c.args.self.now { state = c.step.new.self; number = c.args.self.now.number + 1 } in
    told_carries c.state_law.ensures.step c.args.self.now w s x c.args.id _ c.in-Ok-Tell.notice c.in-Ok-Tell.field-0-is means (c.in-Ok-Tell.ensures.ok s x stands.stands means) stands.made refl

pub returns-in-Ok-Ask-clause-carries : goal.returns-in-Ok-Ask-clause-carries
returns-in-Ok-Ask-clause-carries c = λ s x stands means.
    let w : Walk = record c.args.self.now { state = c.step.new.self } in
    asked_carries c.state_law.ensures.step c.args.self.now w s x c.args.id _ c.in-Ok-Ask.question c.in-Ok-Ask.field-0-is means (c.in-Ok-Ask.ensures.ok s x stands.stands means) stands.made refl

pub returns-in-Ok-Exit-clause-carries : goal.returns-in-Ok-Exit-clause-carries
returns-in-Ok-Exit-clause-carries c = λ s x stands means.
    let w : Walk = record c.args.self.now { state = c.step.new.self } in
    exit_carries c.state_law.ensures.step c.args.self.now w s x _ c.in-Ok-Exit.field-0-is (c.in-Ok-Exit.ensures.ok s x stands.stands means) stands.made refl

pub returns-in-Err-Refused-clause-carries : goal.returns-in-Err-Refused-clause-carries
returns-in-Err-Refused-clause-carries c = λ s x stands means.
    let w : Walk = record c.args.self.now { state = c.step.new.self } in
    refused_carries c.args.self.now w s x c.in-Err-Refused.why c.kind_of.result
    (c.in-Err-Refused.ensures.refused c.in-Err-Refused.why (ap Err c.in-Err-Refused.field-0-is) s x stands.stands means)
    (c.kind_of.ensures ∙ ap kind_of c.in-Err-Refused.why-is) c.in-Err-Refused.ensures.err refl
