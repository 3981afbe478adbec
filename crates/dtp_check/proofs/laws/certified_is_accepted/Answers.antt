use Rattle.dtp_check.proofs.Accepting.{certified}
use Rattle.dtp_check.proofs.laws.certified_is_accepted.Goals as goal

pub returns : goal.returns
returns c =
    certified c.one_outcome.ensures c.reads_on.ensures.list c.reads_on.ensures.within c.flaw_law.ensures c.flaw_law-2.ensures.items c.flaw_law-2.ensures.own c.entries_law.ensures.shelf
    c.own_lemmas_alone.ensures.text c.own_lemmas_alone.ensures.fits c.exit_law.ensures.alone c.certificate_reads_back.ensures.text
