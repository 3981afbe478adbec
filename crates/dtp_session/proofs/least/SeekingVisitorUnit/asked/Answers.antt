use Rattle.dtp_session.specs.code.Asking.{TakesAt, GivesAt, IsAsker}
use Rattle.std.proofs.Common.{refl, sym, ap, subst, ◌∙◌}
use Rattle.smt_script.specs.declared.state.Question.{Question}
use Rattle.dtp_session.proofs.Leading.{least_stops}
use Rattle.dtp_session.proofs.Stepping.{minimum_told}
use Rattle.dtp_session.proofs.Visiting.{asked_may, asked_few, asked_led, asked_readies, asked_barred, asked_bytes, asked_less, seeking_goes, given_by}
use Rattle.dtp_session.proofs.least.SeekingVisitorUnit.asked.Goals as goal

pub ask_by-requires : goal.ask_by-requires
ask_by-requires g c = λ lifetimes.
    let at = c.requires in (
      (refl, tt),
      (subst (λ (d : g.row.D.Denot). IsAsker (TakesAt g.D.Fn d) (GivesAt g.D.Fn d)) (sym at.comes.2) at.so_far.1, record { holds = asked_may at.before.session c.args.self.now.session at.so_far.0.so_far.s c.args._id c.args.question at.comes.0 at.so_far.0.so_far.stands c.mode_law.ensures.kept c.objective_law.ensures c.mode_law.ensures.asking; few = asked_few at.before.session c.args.self.now.session at.so_far.0.so_far.s c.args._id c.args.question at.comes.0 at.so_far.0.so_far.stands c.mode_law.ensures.kept c.objective_law.ensures c.mode_law.ensures.asking }),
    )

pub returns-in-Error-default-clause-ends : goal.returns-in-Error-default-clause-ends
returns-in-Error-default-clause-ends g c = λ at.
    let q = c.ask_by.new.session in
    let piece = c.in_ok-piece.piece in
    let given = given_by c.args.self.now.session c.ask_by.new.session c.args.question c.ask_by.result c.in_ok-piece.piece c.ask_by.ensures c.in_ok-piece.was in
    least_stops at.first.session.walk.lexer.bytes at.before.session at.before.least at.so_far.0.so_far
    (asked_barred at.before.session c.args.self.now.session at.so_far.0.so_far.s c.args._id c.args.question at.comes.0 at.so_far.0.so_far.stands c.mode_law.ensures.kept c.objective_law.ensures c.mode_law.ensures.asking q piece given.keeps given.answered c.in-Error-default.field-0-0 c.in-Error-default.is-0)

pub returns-in_default-CheckSat-clause-so_far : goal.returns-in_default-CheckSat-clause-so_far
returns-in_default-CheckSat-clause-so_far g c = λ none at.
    let q = c.ask_by.new.session in
    let piece = c.in_ok-piece.piece in
    let given = given_by c.args.self.now.session c.ask_by.new.session c.args.question c.ask_by.result c.in_ok-piece.piece c.ask_by.ensures c.in_ok-piece.was in
    let keeps = given.keeps in
    let answered = given.answered in
    let apart = c.in_default-CheckSat.not-Error-0 in
    let now = c.args.self.now.least in (
      (
        seeking_goes at.first.session at.before.session q at.before.least now at.so_far.0
            (asked_led at.before.session c.args.self.now.session at.so_far.0.so_far.s c.args._id c.args.question at.comes.0 at.so_far.0.so_far.stands c.mode_law.ensures.kept c.objective_law.ensures c.mode_law.ensures.asking q piece keeps answered at.before.least now apart
            (at.comes.1 ∙ sym (ap (λ (n : Question). minimum_told n at.before.least q.held) c.in_default-CheckSat.is-1)))
            (asked_readies at.before.session c.args.self.now.session at.so_far.0.so_far.s c.args._id c.args.question at.comes.0 at.so_far.0.so_far.stands c.mode_law.ensures.kept c.objective_law.ensures c.mode_law.ensures.asking q piece keeps answered apart) (asked_bytes at.before.session c.args.self.now.session at.so_far.0.so_far.s c.args._id c.args.question at.comes.0 at.so_far.0.so_far.stands c.mode_law.ensures.kept c.objective_law.ensures c.mode_law.ensures.asking q piece keeps answered),
        subst (λ (d : g.row.D.Denot). IsAsker (TakesAt g.D.Fn d) (GivesAt g.D.Fn d)) (sym at.comes.2) at.so_far.1,
      ),
      asked_less at.before.session c.args.self.now.session at.so_far.0.so_far.s c.args._id c.args.question at.comes.0 at.so_far.0.so_far.stands c.mode_law.ensures.kept c.objective_law.ensures c.mode_law.ensures.asking q piece keeps answered,
    )

pub returns-in_ok-self-in_default-Minimize-clause-so_far : goal.returns-in_ok-self-in_default-Minimize-clause-so_far
returns-in_ok-self-in_default-Minimize-clause-so_far g c = λ none at.
    let q = c.ask_by.new.session in
    let piece = c.in_ok-piece.piece in
    let given = given_by c.args.self.now.session c.ask_by.new.session c.args.question c.ask_by.result c.in_ok-piece.piece c.ask_by.ensures c.in_ok-piece.was in
    let keeps = given.keeps in
    let answered = given.answered in
    let apart = c.in_default-Minimize.not-Error-0 in
    let found = c.in_ok-self-in_default-Minimize in (
      (
        seeking_goes at.first.session at.before.session q at.before.least found.field-0 at.so_far.0
            (asked_led at.before.session c.args.self.now.session at.so_far.0.so_far.s c.args._id c.args.question at.comes.0 at.so_far.0.so_far.stands c.mode_law.ensures.kept c.objective_law.ensures c.mode_law.ensures.asking q piece keeps answered at.before.least found.field-0 apart
            (found.ensures ∙ sym (ap (λ (n : Question). minimum_told n at.before.least q.held) c.in_default-Minimize.is-1)))
            (asked_readies at.before.session c.args.self.now.session at.so_far.0.so_far.s c.args._id c.args.question at.comes.0 at.so_far.0.so_far.stands c.mode_law.ensures.kept c.objective_law.ensures c.mode_law.ensures.asking q piece keeps answered apart) (asked_bytes at.before.session c.args.self.now.session at.so_far.0.so_far.s c.args._id c.args.question at.comes.0 at.so_far.0.so_far.stands c.mode_law.ensures.kept c.objective_law.ensures c.mode_law.ensures.asking q piece keeps answered),
        subst (λ (d : g.row.D.Denot). IsAsker (TakesAt g.D.Fn d) (GivesAt g.D.Fn d)) (sym at.comes.2) at.so_far.1,
      ),
      asked_less at.before.session c.args.self.now.session at.so_far.0.so_far.s c.args._id c.args.question at.comes.0 at.so_far.0.so_far.stands c.mode_law.ensures.kept c.objective_law.ensures c.mode_law.ensures.asking q piece keeps answered,
    )
