use Rattle.std.proofs.Common.{ap, ◌∙◌, ◌++◌, ◌∷◌, [], Bool, cond}
use Rattle.neg_cycle.proofs.Cuts.{none_any}
use Rattle.neg_cycle.proofs.cut.append.Goals as goal

pub returns : goal.returns
returns c = c.in_ok-insert.ensures.keys ∙ ap (λ (b : Bool). cond b c.args.points.now.keys (c.args.points.now.keys ++ c.args.point ∷ [])) (none_any c.args.points.now.keys c.args.point c.requires)
