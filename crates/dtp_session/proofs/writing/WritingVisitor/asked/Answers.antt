use Rattle.std.proofs.Common.{refl, sym, subst}
use Rattle.dtp_session.specs.code.Asking.{TakesAt, GivesAt, IsAsker}
use Rattle.dtp_session.proofs.Looping.{ok_quiet}
use Rattle.dtp_session.proofs.Visiting.{asked_may, asked_few, asked_is_next, asked_goes, asked_readies, asked_report, asked_bytes, asked_less, answering_lacks, answering_goes, answering_breaks, answering_stops, err_and, given_by}
use Rattle.dtp_session.proofs.writing.WritingVisitor.asked.Goals as goal

pub ask_by-requires : goal.ask_by-requires
ask_by-requires g c = λ lifetimes.
    let at = c.requires in (
      (refl, tt),
      (subst (λ (d : g.row.D.Denot). IsAsker (TakesAt g.D.Fn d) (GivesAt g.D.Fn d)) (sym at.comes.1) at.so_far.1, record { holds = asked_may at.before.session c.args.self.now.session at.so_far.0.so_far.s c.args._id c.args.question at.comes.0 at.so_far.0.so_far.stands c.mode_law.ensures.kept c.objective_law.ensures c.mode_law.ensures.asking; few = asked_few at.before.session c.args.self.now.session at.so_far.0.so_far.s c.args._id c.args.question at.comes.0 at.so_far.0.so_far.stands c.mode_law.ensures.kept c.objective_law.ensures c.mode_law.ensures.asking }),
    )

pub returns-in_err-piece-clause-breaks : goal.returns-in_err-piece-clause-breaks
returns-in_err-piece-clause-breaks g c =
    err_and c.from_residual.result _ _ c.from_residual.ensures.1 (λ why is at. answering_lacks at.first.session at.before.session _ _ _ _ at.so_far.0 why is)

pub returns-in_err-write-clause-breaks : goal.returns-in_err-write-clause-breaks
returns-in_err-write-clause-breaks g c =
    let given = given_by c.args.self.now.session c.ask_by.new.session c.args.question c.ask_by.result c.in_ok-piece.piece c.ask_by.ensures c.in_ok-piece.was in
    err_and c.from_residual-in_err-write.result _ _ c.from_residual-in_err-write.ensures.1 (λ why is at. answering_breaks at.first.session at.before.session _ _ _ _ at.so_far.0 c.ask_by.new.session _ _ c.in_ok-piece.piece why c.in_err-write.field-0.0 is (asked_is_next at.before.session c.args.self.now.session at.so_far.0.so_far.s c.args._id c.args.question at.comes.0 at.so_far.0.so_far.stands c.mode_law.ensures.kept c.objective_law.ensures c.mode_law.ensures.asking c.ask_by.new.session c.in_ok-piece.piece given.keeps given.answered) c.in_err-write.ensures.part c.in_err-write.ensures.fault)

pub returns-in-Error-clause-ends : goal.returns-in-Error-clause-ends
returns-in-Error-clause-ends g c = λ at.
    let q = c.ask_by.new.session in
    let piece = c.in_ok-piece.piece in
    let given = given_by c.args.self.now.session c.ask_by.new.session c.args.question c.ask_by.result c.in_ok-piece.piece c.ask_by.ensures c.in_ok-piece.was in
    answering_stops at.first.session at.before.session _ _ _ _ at.so_far.0 q _ _ piece c.in-Error.field-0 c.in-Error.is
    (asked_is_next at.before.session c.args.self.now.session at.so_far.0.so_far.s c.args._id c.args.question at.comes.0 at.so_far.0.so_far.stands c.mode_law.ensures.kept c.objective_law.ensures c.mode_law.ensures.asking q piece given.keeps given.answered) c.in_ok-write.ensures.whole (ok_quiet _ _ _ c.in_ok-write.ensures.fault)

pub returns-in_default-clause-so_far : goal.returns-in_default-clause-so_far
returns-in_default-clause-so_far g c = λ none at.
    let q = c.ask_by.new.session in
    let piece = c.in_ok-piece.piece in
    let given = given_by c.args.self.now.session c.ask_by.new.session c.args.question c.ask_by.result c.in_ok-piece.piece c.ask_by.ensures c.in_ok-piece.was in
    let keeps = given.keeps in
    let answered = given.answered in
    let apart = c.in_default.not-Error in (
      (
        answering_goes at.first.session at.before.session _ _ _ _ at.so_far.0 q _ _ piece
            (asked_is_next at.before.session c.args.self.now.session at.so_far.0.so_far.s c.args._id c.args.question at.comes.0 at.so_far.0.so_far.stands c.mode_law.ensures.kept c.objective_law.ensures c.mode_law.ensures.asking q piece keeps answered) (asked_goes at.before.session c.args.self.now.session at.so_far.0.so_far.s c.args._id c.args.question at.comes.0 at.so_far.0.so_far.stands c.mode_law.ensures.kept c.objective_law.ensures c.mode_law.ensures.asking q piece keeps answered apart) (asked_readies at.before.session c.args.self.now.session at.so_far.0.so_far.s c.args._id c.args.question at.comes.0 at.so_far.0.so_far.stands c.mode_law.ensures.kept c.objective_law.ensures c.mode_law.ensures.asking q piece keeps answered apart)
            (asked_report at.before.session c.args.self.now.session at.so_far.0.so_far.s c.args._id c.args.question at.comes.0 at.so_far.0.so_far.stands c.mode_law.ensures.kept c.objective_law.ensures c.mode_law.ensures.asking q piece keeps answered) (asked_bytes at.before.session c.args.self.now.session at.so_far.0.so_far.s c.args._id c.args.question at.comes.0 at.so_far.0.so_far.stands c.mode_law.ensures.kept c.objective_law.ensures c.mode_law.ensures.asking q piece keeps answered)
            c.in_ok-write.ensures.whole (ok_quiet _ _ _ c.in_ok-write.ensures.fault),
        subst (λ (d : g.row.D.Denot). IsAsker (TakesAt g.D.Fn d) (GivesAt g.D.Fn d)) (sym at.comes.1) at.so_far.1,
      ),
      asked_less at.before.session c.args.self.now.session at.so_far.0.so_far.s c.args._id c.args.question at.comes.0 at.so_far.0.so_far.stands c.mode_law.ensures.kept c.objective_law.ensures c.mode_law.ensures.asking q piece keeps answered,
    )
