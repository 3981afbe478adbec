use Rattle.std.proofs.Common.{◌∙◌, ap, sym, length}
use Rattle.refute_tree.specs.declared.cycle.Cycle.{Cycle as CycleSeen}
use Rattle.refute_tree.specs.code.Views.{literals_of}
use Rattle.refute_tree.proofs.PathParts.{path_length}
use Rattle.refute_tree.proofs.cycle.Cycle.len.Goals as goal

pub returns-in-Path : goal.returns-in-Path
returns-in-Path c =
    let path = c.in-Path.path in
    sym (ap (λ (s : CycleSeen). length (literals_of s)) c.in-Path.is ∙ path_length path.points.now path.bounds.now path.shape)
