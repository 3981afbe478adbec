use Rattle.dtp_session.proofs.Telling.{piece_as}
use Rattle.dtp_session.proofs.session.Session.write.Goals as goal

pub returns-in-Decision : goal.returns-in-Decision
returns-in-Decision g c = piece_as c.args.self.now c.args.piece _ _ _ _ _ _ c.in-Decision.is c.write_decision.ensures

pub returns-in-Proof : goal.returns-in-Proof
returns-in-Proof g c = piece_as c.args.self.now c.args.piece _ _ _ _ _ _ c.in-Proof.is c.write_proof.ensures

pub returns-in-Told : goal.returns-in-Told
returns-in-Told g c = piece_as c.args.self.now c.args.piece _ _ _ _ _ _ c.in-Told.is c.write_told.ensures
