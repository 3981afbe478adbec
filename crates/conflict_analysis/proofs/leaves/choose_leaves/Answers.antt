use Rattle.std.proofs.Common.{◌≡◌, arith, ℕ, subst}
use Rattle.conflict_analysis.specs.code.Leaves.{IsChosen}
use Rattle.conflict_analysis.proofs.Chosen.{chosen_fewer, cycle_stands, conflict_assumed}
use Rattle.conflict_analysis.proofs.leaves.choose_leaves.Goals as goal

pub assume_all-requires-clause-stand : goal.assume_all-requires-clause-stand
assume_all-requires-clause-stand g c =
    rw c.count.ensures (cycle_stands c.args.graph.now.trail c.args.roles.now c.args.graph.now.inputs c.args.graph.now.lemmas c.args.conflict.now c.in-Cycle.cycle c.as_slice.result.now c.requires.conflict c.in-Cycle.is c.as_slice.ensures)

pub returns-in-Cycle-clause-chosen : goal.returns-in-Cycle-clause-chosen
returns-in-Cycle-clause-chosen g c =
    let inputs = c.args.graph.now.inputs in
    let lemmas = c.args.graph.now.lemmas in
    let none : c.forth.left ≡ 0 = omega (arith, c.forth-test.false) in
    let P : ℕ → Type 0 = λ i. IsChosen inputs lemmas c.args.graph.now.trail c.args.roles.now c.args.passed.now i c.forth.leaves.items in
    chosen_fewer c.args.graph.now.trail c.args.roles.now inputs lemmas c.args.passed.now 0 c.forth.leaves.items c.assume_all.new.leaves.items (subst P none c.forth.invariant.chosen) c.assume_all.ensures.fewer

pub returns-in-Cycle-clause-conflict : goal.returns-in-Cycle-clause-conflict
returns-in-Cycle-clause-conflict g c =
    conflict_assumed c.args.graph.now.trail c.args.roles.now c.assume_all.new.leaves.items c.args.conflict.now c.in-Cycle.cycle c.as_slice.result.now c.in-Cycle.is c.as_slice.ensures (rw c.count.ensures at c.assume_all.ensures.assumed)
