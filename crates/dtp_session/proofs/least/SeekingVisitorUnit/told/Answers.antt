use Rattle.dtp_session.specs.code.Asking.{TakesAt, GivesAt, IsAsker}
use Rattle.std.proofs.Common.{sym, subst, Option}
use Rattle.dtp_session.specs.declared.least.Minimum.{Minimum}
use Rattle.dtp_session.specs.code.Leading.{IsSeeking}
use Rattle.dtp_session.proofs.Visiting.{told_may, told_led, told_readies, told_bytes, told_less, seeking_goes}
use Rattle.dtp_session.proofs.least.SeekingVisitorUnit.told.Goals as goal

pub tell-requires : goal.tell-requires
tell-requires g c =
    let at = c.requires in
    told_may at.before.session c.args.self.now.session at.so_far.0.so_far.s c.args.id c.args.notice at.comes.0 at.so_far.0.so_far.stands c.mode_law.ensures.kept c.mode_law.ensures.model c.mode_law.ensures.values c.mode_law.ensures.proof c.mode_law.ensures.core c.mode_law.ensures.assumptions

pub returns-clause-so_far : goal.returns-clause-so_far
returns-clause-so_far g c = λ at.
    let q = c.tell.new.self in
    let piece = c.in_ok-tell.field-0 in
    let keeps = c.in_ok-tell.ensures.keeps in
    let tells = c.in_ok-tell.ensures.tells in
    let before = at.before.least in (
      (
        subst (λ (m : Option Minimum). IsSeeking at.first.session q m) (sym at.comes.1)
            (seeking_goes at.first.session at.before.session q before before at.so_far.0 (told_led at.before.session c.args.self.now.session at.so_far.0.so_far.s c.args.id c.args.notice at.comes.0 at.so_far.0.so_far.stands c.mode_law.ensures.kept c.mode_law.ensures.model c.mode_law.ensures.values c.mode_law.ensures.proof c.mode_law.ensures.core c.mode_law.ensures.assumptions q piece keeps tells before) (told_readies at.before.session c.args.self.now.session at.so_far.0.so_far.s c.args.id c.args.notice at.comes.0 at.so_far.0.so_far.stands c.mode_law.ensures.kept c.mode_law.ensures.model c.mode_law.ensures.values c.mode_law.ensures.proof c.mode_law.ensures.core c.mode_law.ensures.assumptions q piece keeps tells) (told_bytes at.before.session c.args.self.now.session at.so_far.0.so_far.s c.args.id c.args.notice at.comes.0 at.so_far.0.so_far.stands c.mode_law.ensures.kept c.mode_law.ensures.model c.mode_law.ensures.values c.mode_law.ensures.proof c.mode_law.ensures.core c.mode_law.ensures.assumptions q piece keeps tells)),
        subst (λ (d : g.row.D.Denot). IsAsker (TakesAt g.D.Fn d) (GivesAt g.D.Fn d)) (sym at.comes.2) at.so_far.1,
      ),
      told_less at.before.session c.args.self.now.session at.so_far.0.so_far.s c.args.id c.args.notice at.comes.0 at.so_far.0.so_far.stands c.mode_law.ensures.kept c.mode_law.ensures.model c.mode_law.ensures.values c.mode_law.ensures.proof c.mode_law.ensures.core c.mode_law.ensures.assumptions q piece keeps tells,
    )
