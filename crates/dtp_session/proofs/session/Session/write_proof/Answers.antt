use Rattle.dtp_session.proofs.Telling.{proof_told, nothing_told, no_proof}
use Rattle.dtp_session.specs.declared.piece.Piece.TheVariants.{Proof}
use Rattle.dtp_session.proofs.session.Session.write_proof.Goals as goal

pub returns-in-Some : goal.returns-in-Some
returns-in-Some g c = proof_told c.args.self.now c.in-Some.found _ _ _ _ _ c.in-Some.is c.write.ensures

pub returns-in-None : goal.returns-in-None
returns-in-None g c = nothing_told c.args.self.now Proof _ _ (no_proof c.args.self.now c.in-None.is)
