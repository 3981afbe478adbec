use Rattle.dtp_gen.specs.Scripts.{script}
use Rattle.dtp_gen.proofs.Texts.{five}
use Rattle.dtp_gen.proofs.script.push_script.Goals as goal

pub returns : goal.returns
unfolding script
returns c =
    five _ _ _ _ _ _ _ _ _ _ _ c.in_ok-push_str.ensures.ok c.in_ok-declare_all.ensures c.in_ok-bound_all.ensures
    c.in_ok-part_all.ensures c.in_ok-push_str-2.ensures.ok
