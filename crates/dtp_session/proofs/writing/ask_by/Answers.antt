use Rattle.std.proofs.Common.{refl}
use Rattle.dtp_session.proofs.writing.ask_by.Goals as goal

pub returns : goal.returns
returns g c = c.requires.asker.gives c.args.session.now c.ask.new.arg2 c.args.question c.ask.result (record { shown = _; shows = refl; left = _; met = c.ask.ensures; leaves = refl })
