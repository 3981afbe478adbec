use Rattle.std.proofs.Common.{refl, ◌∙◌, subst, sym}
use Rattle.branch_search.specs.Slices.{AreProved}
use Rattle.branch_search.proofs.Splits.{empty_search, lemmas_over}
use Rattle.branch_search.proofs.slicing.divide_cube.Goals as goal

pub finish-requires-clause-state : goal.finish-requires-clause-state
finish-requires-clause-state g c =
    let q = c.args.task.now in
    empty_search q c.clear.new.self.own.items _ _ (g.N.Net.literals_of c.retract-2.new.self) c.clear.ensures.entries
    c.clear.ensures.levels (c.retract-2.ensures.literals ∙ refl)
    (lemmas_over q.problem.points q.handed c.args.state.now.own.items c.clear.new.self.own.items
    c.clear.ensures.own c.requires.lemmas c.requires.proved.1)
    (subst (AreProved q) (sym c.clear.ensures.own) c.requires.proved)
