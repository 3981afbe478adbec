use Rattle.dtp_gen.specs.Scripts.{declaration}
use Rattle.dtp_gen.proofs.Texts.{three}
use Rattle.dtp_gen.proofs.script.push_declaration.Goals as goal

pub returns : goal.returns
unfolding declaration
returns c =
    three _ _ _ _ _ _ _ c.in_ok-push_str.ensures.ok c.in_ok-push_name.ensures c.in_ok-push_str-2.ensures.ok
