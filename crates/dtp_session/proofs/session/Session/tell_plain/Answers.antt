use Rattle.dtp_session.proofs.Saying.{inform_is}
use Rattle.dtp_session.proofs.session.Session.tell_plain.Goals as goal

pub returns-in_ok-info_text-in-Inform-clause-told : goal.returns-in_ok-info_text-in-Inform-clause-told
returns-in_ok-info_text-in-Inform-clause-told c = λ s x holds means.
    inform_is c.args.self.now.held s x c.args.notice c.in-Inform.information c.args.self.now.walk.state c.levels-levels.result c.args.self.now.text.items c.info_text.new.out.items c.in-Inform.is holds.stands c.levels-levels.ensures c.requires.empty c.in_ok-info_text-in-Inform.ensures.ok
