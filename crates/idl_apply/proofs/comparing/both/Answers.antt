use Rattle.idl_apply.proofs.ComparisonNodes.{both_made}
use Rattle.idl_apply.proofs.comparing.both.Goals as goal

pub returns-clause-makes : goal.returns-clause-makes
returns-clause-makes c =
    both_made c.args.nodes.now c.place.new.self c.place-2.new.self c.place-3.new.self c.args.first c.args.second c.in_ok-first.first c.in_ok-second.second c.in_ok-members.members.items c.place-3.result
    c.in_ok-first.ensures.makes c.in_ok-second.ensures.makes c.in_ok-members.ensures.items c.place-3.ensures.makes
