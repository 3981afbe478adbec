use Rattle.dtp_session.proofs.Telling.{decision_told, nothing_told, no_decision}
use Rattle.dtp_session.specs.declared.piece.Piece.TheVariants.{Decision}
use Rattle.dtp_session.proofs.session.Session.write_decision.Goals as goal

pub returns-in-Some : goal.returns-in-Some
returns-in-Some g c = decision_told c.args.self.now c.in-Some.found c.as_slice.result.now _ _ _ _ _ c.as_slice.ensures c.in-Some.is c.write_line.ensures

pub returns-in-None : goal.returns-in-None
returns-in-None g c = nothing_told c.args.self.now Decision _ _ (no_decision c.args.self.now c.in-None.is)
