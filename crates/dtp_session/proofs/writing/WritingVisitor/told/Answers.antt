use Rattle.std.proofs.Common.{sym, subst}
use Rattle.dtp_session.specs.code.Asking.{TakesAt, GivesAt, IsAsker}
use Rattle.dtp_session.proofs.Looping.{ok_quiet}
use Rattle.dtp_session.proofs.Visiting.{told_may, told_is_next, told_readies, told_goes, told_report, told_bytes, told_less, answering_lacks, answering_goes, answering_breaks, err_and}
use Rattle.dtp_session.proofs.writing.WritingVisitor.told.Goals as goal

pub tell-requires : goal.tell-requires
tell-requires g c =
    let at = c.requires in
    told_may at.before.session c.args.self.now.session at.so_far.0.so_far.s c.args.id c.args.notice at.comes.0 at.so_far.0.so_far.stands c.mode_law.ensures.kept c.mode_law.ensures.model c.mode_law.ensures.values c.mode_law.ensures.proof c.mode_law.ensures.core c.mode_law.ensures.assumptions

pub returns-in_err-piece-clause-breaks : goal.returns-in_err-piece-clause-breaks
returns-in_err-piece-clause-breaks g c =
    err_and c.from_residual.result _ _ c.from_residual.ensures.1 (λ why is at. answering_lacks at.first.session at.before.session _ _ _ _ at.so_far.0 why is)

pub returns-in_err-write-clause-breaks : goal.returns-in_err-write-clause-breaks
returns-in_err-write-clause-breaks g c =
    err_and c.from_residual-in_err-write.result _ _ c.from_residual-in_err-write.ensures.1 (λ why is at. answering_breaks at.first.session at.before.session _ _ _ _ at.so_far.0 c.tell.new.self _ _ c.in_ok-piece.piece why c.in_err-write.field-0.0 is (told_is_next at.before.session c.args.self.now.session at.so_far.0.so_far.s c.args.id c.args.notice at.comes.0 at.so_far.0.so_far.stands c.mode_law.ensures.kept c.mode_law.ensures.model c.mode_law.ensures.values c.mode_law.ensures.proof c.mode_law.ensures.core c.mode_law.ensures.assumptions c.tell.new.self c.in_ok-piece.piece c.in_ok-piece.ensures.keeps c.in_ok-piece.ensures.tells) c.in_err-write.ensures.part c.in_err-write.ensures.fault)

pub returns-clause-so_far : goal.returns-clause-so_far
returns-clause-so_far g c = λ at.
    let q = c.tell.new.self in
    let piece = c.in_ok-piece.piece in
    let keeps = c.in_ok-piece.ensures.keeps in
    let tells = c.in_ok-piece.ensures.tells in (
      (
        answering_goes at.first.session at.before.session _ _ _ _ at.so_far.0 q _ _ piece
            (told_is_next at.before.session c.args.self.now.session at.so_far.0.so_far.s c.args.id c.args.notice at.comes.0 at.so_far.0.so_far.stands c.mode_law.ensures.kept c.mode_law.ensures.model c.mode_law.ensures.values c.mode_law.ensures.proof c.mode_law.ensures.core c.mode_law.ensures.assumptions q piece keeps tells) (told_goes at.before.session c.args.self.now.session at.so_far.0.so_far.s c.args.id c.args.notice at.comes.0 at.so_far.0.so_far.stands c.mode_law.ensures.kept c.mode_law.ensures.model c.mode_law.ensures.values c.mode_law.ensures.proof c.mode_law.ensures.core c.mode_law.ensures.assumptions q piece keeps tells) (told_readies at.before.session c.args.self.now.session at.so_far.0.so_far.s c.args.id c.args.notice at.comes.0 at.so_far.0.so_far.stands c.mode_law.ensures.kept c.mode_law.ensures.model c.mode_law.ensures.values c.mode_law.ensures.proof c.mode_law.ensures.core c.mode_law.ensures.assumptions q piece keeps tells)
            (told_report at.before.session c.args.self.now.session at.so_far.0.so_far.s c.args.id c.args.notice at.comes.0 at.so_far.0.so_far.stands c.mode_law.ensures.kept c.mode_law.ensures.model c.mode_law.ensures.values c.mode_law.ensures.proof c.mode_law.ensures.core c.mode_law.ensures.assumptions q piece keeps tells) (told_bytes at.before.session c.args.self.now.session at.so_far.0.so_far.s c.args.id c.args.notice at.comes.0 at.so_far.0.so_far.stands c.mode_law.ensures.kept c.mode_law.ensures.model c.mode_law.ensures.values c.mode_law.ensures.proof c.mode_law.ensures.core c.mode_law.ensures.assumptions q piece keeps tells)
            c.in_ok-write.ensures.whole (ok_quiet _ _ _ c.in_ok-write.ensures.fault),
        subst (λ (d : g.row.D.Denot). IsAsker (TakesAt g.D.Fn d) (GivesAt g.D.Fn d)) (sym at.comes.1) at.so_far.1,
      ),
      told_less at.before.session c.args.self.now.session at.so_far.0.so_far.s c.args.id c.args.notice at.comes.0 at.so_far.0.so_far.stands c.mode_law.ensures.kept c.mode_law.ensures.model c.mode_law.ensures.values c.mode_law.ensures.proof c.mode_law.ensures.core c.mode_law.ensures.assumptions q piece keeps tells,
    )
