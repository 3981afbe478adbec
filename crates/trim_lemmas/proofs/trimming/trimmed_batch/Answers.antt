use Rattle.trim_lemmas.specs.Trimming.{IsTrimmedBatch}
use Rattle.trim_lemmas.proofs.Shorter.{as_trimmed_batch, batch_refuted, batch_over, batch_stated}
use Rattle.trim_lemmas.proofs.trimming.trimmed_batch.Goals as goal

facts : (c : goal.After-new) → IsTrimmedBatch c.args.wanted.items c.args.batch c.needed_by-needed.result.items c.new.result
facts c =
    as_trimmed_batch c.args.wanted.items c.args.batch c.new.result c.seen-seen.result c.into_lemmas-lemmas.result.items c.as_slice.result.now
    c.in_ok-shorter.shorter.items c.needed_by-needed.result.items _ c.seen-seen.ensures c.into_lemmas-lemmas.ensures c.as_slice.ensures.value
    c.needed_by-needed.ensures c.as_slice-2.ensures.value c.in_ok-shorter.ensures c.new.ensures.seen c.new.ensures.lemmas

pub returns-clause-trimmed : goal.returns-clause-trimmed
returns-clause-trimmed c = facts c

pub returns-clause-refuted : goal.returns-clause-refuted
returns-clause-refuted c = batch_refuted _ _ _ _ (facts c)

pub returns-clause-over : goal.returns-clause-over
returns-clause-over c = batch_over _ _ _ _ (facts c)

pub returns-clause-clauses : goal.returns-clause-clauses
returns-clause-clauses c = batch_stated _ _ _ _ (facts c)
