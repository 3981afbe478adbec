use Rattle.std.proofs.Common.{sym, subst, ◌∙◌}
use Rattle.smt_script.specs.declared.state.Satisfiability.{Satisfiability}
use Rattle.smt_script.specs.States.{settled}
use Rattle.script_walk.specs.code.Standing.{Stands}
use Rattle.dtp_check.proofs.Making.{made_settled}
use Rattle.dtp_check.proofs.judge.judge_entry.Goals as goal

pub returns-in-None-clause-right : goal.returns-in-None-clause-right
returns-in-None-clause-right g c = λ none s x before asked held. record {
  right = sym (c.in_ok-flaw.ensures.flaw s x before asked held) ∙ c.in-None.is;
  led = c.in_ok-flaw.ensures.kept c.in-None.is s x before asked held;
  stands = subst (λ (v : Satisfiability). Stands c.settle.new.self.state (settled v s)) c.told_by.ensures (c.settle.ensures.stands s asked.stands);
  held = c.in_ok-flaw.ensures.held c.in-None.is s x before asked held;
}

pub returns-in-None-clause-made : goal.returns-in-None-clause-made
returns-in-None-clause-made g c = λ none.
    let asked = c.requires.asked in
    let stands = c.settle.ensures.stands asked.0 asked.2.stands in
    made_settled c.args.walk.now.state c.settle.new.self.state asked.0 c.told_by.result c.let_go_if_assumed.new.made asked.2.stands stands c.let_go_if_assumed.ensures.made c.let_go_if_assumed.ensures.gone

pub returns-in_err-flaw-clause-trees : goal.returns-in_err-flaw-clause-trees
returns-in_err-flaw-clause-trees g c = c.keep.ensures.trees g.K.Keeps.trees c.requires.trees

pub returns-in-Some-clause-trees : goal.returns-in-Some-clause-trees
returns-in-Some-clause-trees g c = c.keep.ensures.trees g.K.Keeps.trees c.requires.trees

pub returns-in-None-clause-trees : goal.returns-in-None-clause-trees
returns-in-None-clause-trees g c = c.keep.ensures.trees g.K.Keeps.trees c.requires.trees
