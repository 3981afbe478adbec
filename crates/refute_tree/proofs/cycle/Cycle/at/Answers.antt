use Rattle.std.proofs.Common.{arith, ◌<◌, ◌∙◌, ap, subst, length}
use Rattle.std.specs.Prelude.{slice_get}
use Rattle.std.proofs.lemmas.Option.{slice_get-get_or}
use Rattle.refute_tree.specs.declared.cycle.Cycle.{Cycle as CycleSeen}
use Rattle.refute_tree.specs.code.Paths.{path_of}
use Rattle.refute_tree.specs.code.Views.{literals_of}
use Rattle.refute_tree.proofs.PathParts.{path_length}
use Rattle.refute_tree.proofs.cycle.Cycle.at.Goals as goal

pub literal_of-requires-clause-place : goal.literal_of-requires-clause-place
literal_of-requires-clause-place c =
    let path = c.in-Path.path in
    let here : c.args.place < length (path_of path.points.now path.bounds.now) = subst (λ (s : CycleSeen). c.args.place < length (literals_of s)) c.in-Path.is c.requires in
    omega (arith, here, path_length path.points.now path.bounds.now path.shape)

pub returns-in-Literals : goal.returns-in-Literals
returns-in-Literals c =
    let here : c.args.place < length c.in-Literals.literals.now = subst (λ (s : CycleSeen). c.args.place < length (literals_of s)) c.in-Literals.is c.requires in
    ap (λ (s : CycleSeen). slice_get (literals_of s) c.args.place) c.in-Literals.is ∙ slice_get-get_or c.in-Literals.literals.now c.args.place _ here
