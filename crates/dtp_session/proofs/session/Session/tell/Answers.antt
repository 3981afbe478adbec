use Rattle.std.proofs.Common.{refl, sym, ap, ◌∙◌}
use Rattle.dtp_entry.specs.declared.report.Report.{Report}
use Rattle.dtp_entry.specs.Transcripts.{told}
use Rattle.dtp_session.proofs.Answering.{told_tells}
use Rattle.dtp_session.proofs.session.Session.tell.Goals as goal

pub tell_in_transcript-requires-clause-may : goal.tell_in_transcript-requires-clause-may
tell_in_transcript-requires-clause-may c = (c.requires.0, c.requires.1, record { stands = c.requires.2.stands; shows = c.requires.2.shows }, c.requires.3, c.requires.4)

pub returns-in-Certificate-clause-tells : goal.returns-in-Certificate-clause-tells
returns-in-Certificate-clause-tells c = λ s x holds means may.
    told_tells c.args.self.now _ s x c.args.notice (record { stands = holds.stands; shows = holds.shows }) refl
    (c.clear.ensures.items ∙ ap (λ (r : Report). told r c.args.self.now.held s x c.args.notice) (sym c.in-Certificate.is))

pub returns-in_ok-piece-in-Verdicts-clause-tells : goal.returns-in_ok-piece-in-Verdicts-clause-tells
returns-in_ok-piece-in-Verdicts-clause-tells c = λ s x holds means may.
    let h = c.in_ok-piece-in-Verdicts.ensures.tells s x (record { stands = holds.stands; shows = holds.shows }) means may in
    record { going = h.going; stands = h.stands; held = h.held; text = h.text }
