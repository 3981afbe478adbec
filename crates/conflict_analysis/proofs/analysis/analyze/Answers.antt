use Rattle.std.proofs.Common.{List, length, refl, subst, sym}
use Rattle.conflict_analysis.specs.declared.entry.Role.{Role}
use Rattle.conflict_analysis.specs.code.Trails.{IsConflict, StandsUsed}
use Rattle.conflict_analysis.proofs.Analyzed.{learned_by, denials_by, used_conflict}
use Rattle.conflict_analysis.proofs.Passing.{waiting_start}
use Rattle.conflict_analysis.proofs.analysis.analyze.Goals as goal

pub mark_back-requires-clause-waiting : goal.mark_back-requires-clause-waiting
mark_back-requires-clause-waiting g c =
    waiting_start (length c.args.graph.now.trail) c.in_ok-marks.marks.roles.items _ _ _ c.in_ok-marks.ensures.clean
    c.in_ok-need_conflict.ensures.waiting

pub choose_leaves-requires-clause-conflict : goal.choose_leaves-requires-clause-conflict
choose_leaves-requires-clause-conflict g c =
    let inputs = c.args.graph.now.inputs in
    let lemmas = c.args.graph.now.lemmas in
    let P : List Role → Type 0 = λ rs. IsConflict inputs lemmas (StandsUsed c.args.graph.now.trail rs (length c.args.graph.now.trail)) c.args.conflict.now in
    subst P (sym c.deref-3.ensures.value) (used_conflict inputs lemmas c.args.graph.now.trail c.args.whole _ c.mark_back.new.marks.roles.items c.args.conflict.now c.in_ok-mark_back.ensures.marked c.in_ok-need_conflict.ensures.used)

pub steps_for-requires-clause-conflict : goal.steps_for-requires-clause-conflict
steps_for-requires-clause-conflict g c =
    let inputs = c.args.graph.now.inputs in
    let lemmas = c.args.graph.now.lemmas in
    let P : List Role → Type 0 = λ rs. IsConflict inputs lemmas (StandsUsed c.args.graph.now.trail rs (length c.args.graph.now.trail)) c.args.conflict.now in
    subst P (sym c.deref-5.ensures.value) (used_conflict inputs lemmas c.args.graph.now.trail c.args.whole _ c.mark_back.new.marks.roles.items c.args.conflict.now c.in_ok-mark_back.ensures.marked c.in_ok-need_conflict.ensures.used)

pub returns-clause-proved : goal.returns-clause-proved
returns-clause-proved g c =
    learned_by c.args.graph.now.inputs c.args.graph.now.lemmas c.args.graph.now.trail c.args.whole _ c.mark_back.new.marks.roles.items _ _ _
    c.in_ok-mark_back.ensures.marked c.deref.ensures.value c.in_ok-clause.ensures.denied c.new.ensures c.args.graph.now.points _ _ _
    c.requires.over c.deref-5.ensures.value c.in_ok-clause.ensures.kept c.in_ok-steps.ensures refl

pub returns-clause-denials : goal.returns-clause-denials
returns-clause-denials g c =
    denials_by c.args.graph.now.inputs c.args.graph.now.lemmas c.args.graph.now.trail c.args.whole _
    c.mark_back.new.marks.roles.items _ _ _ c.in_ok-mark_back.ensures.marked c.deref.ensures.value
    c.in_ok-clause.ensures.denied c.new.ensures
