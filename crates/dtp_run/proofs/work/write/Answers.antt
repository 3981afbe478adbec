use Rattle.dtp_run.proofs.work.write.Goals as goal

pub returns-in-Err-clause-part : goal.returns-in-Err-clause-part
returns-in-Err-clause-part g c = rw c.in-Script.is c.in-Err.ensures.solved.part
