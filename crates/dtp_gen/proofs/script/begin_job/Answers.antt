use Rattle.dtp_gen.specs.Scripts.{begins}
use Rattle.dtp_gen.proofs.Texts.{three}
use Rattle.dtp_gen.proofs.script.begin_job.Goals as goal

pub returns : goal.returns
unfolding begins
returns c =
    three _ _ _ _ _ _ _ c.in_ok-push_str.ensures.ok c.in_ok-push_name.ensures c.in_ok-push_str-2.ensures.ok
