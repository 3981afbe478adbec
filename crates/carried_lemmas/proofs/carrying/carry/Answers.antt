use Rattle.std.proofs.Common.{length, ap, ◌∙◌}
use Rattle.std.specs.Arc.{arc_value}
use Rattle.std.proofs.lemmas.List.{length-map}
use Rattle.refute_tree.specs.declared.lemma.Lemma.{Lemma as Stated}
use Rattle.carried_lemmas.specs.Shared.{lemmas_of}
use Rattle.carried_lemmas.specs.Carried.{IsCarried}
use Rattle.carried_lemmas.proofs.Flagged.{flags_each}
use Rattle.carried_lemmas.proofs.CarriedSound.{refer_back}
use Rattle.carried_lemmas.proofs.Assembled.{is_carried}
use Rattle.carried_lemmas.proofs.carrying.carry.Goals.{After-drop-numbers-2}
use Rattle.carried_lemmas.proofs.carrying.carry.Goals as goal

pub carried-requires-clause-each : goal.carried-requires-clause-each
carried-requires-clause-each c =
    ap length (c.as_slice-5.ensures.value ∙ c.in_ok-kept.ensures) ∙ flags_each c.args.new.now.points c.as_slice-3.result.now (lemmas_of c.args.lemmas.now)
    ∙ length-map c.args.lemmas.now (λ a. arc_value {X = Stated} a)

pub carried-requires-clause-back : goal.carried-requires-clause-back
carried-requires-clause-back c = refer_back c.args.old.now.points c.args.old.now.clauses (lemmas_of c.args.lemmas.now) c.requires

carries : (c : After-drop-numbers-2) → IsCarried c.args.old.now.clauses (lemmas_of c.args.lemmas.now) c.args.new.now.points c.args.new.now.clauses c.new.result
carries c =
    is_carried c.args.old.now.clauses (lemmas_of c.args.lemmas.now) c.args.new.now.points c.args.new.now.clauses c.new.result
    c.as_slice.result.now c.as_slice-2.result.now c.in_ok-numbers.numbers.items c.as_slice-3.result.now c.as_slice-4.result.now c.in_ok-kept.kept.items c.as_slice-5.result.now c.in_ok-all.all.items
    c.as_slice.ensures c.as_slice-2.ensures c.in_ok-numbers.ensures c.as_slice-3.ensures.value c.in_ok-kept.ensures c.as_slice-4.ensures.value c.as_slice-5.ensures.value c.in_ok-all.ensures
    c.new.ensures.seen c.new.ensures.lemmas

pub returns-clause-carried : goal.returns-clause-carried
returns-clause-carried c = carries c

pub returns-clause-refuted : goal.returns-clause-refuted
returns-clause-refuted c = c.carried_law.ensures.refuted _ _ _ _ c.new.result (carries c) c.args.old.now.points c.requires

pub returns-clause-over : goal.returns-clause-over
returns-clause-over c = c.carried_law.ensures.over _ _ _ _ c.new.result (carries c) c.args.old.now.points
