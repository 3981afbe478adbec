use Rattle.std.proofs.Common.{[], ◌<◌, ◌+◌, arith, ap, length}
use Rattle.refute_tree.specs.declared.lemma.Lemma.{Lemma}
use Rattle.trim_lemmas.proofs.Picked.{keeps_no, keeps_swap, keeps_as}
use Rattle.trim_lemmas.proofs.trimming.keep.Goals.{then-is_needed, else-is_needed}
use Rattle.trim_lemmas.proofs.trimming.keep.Goals as goal

pub loop-j-preserved : goal.loop-j-preserved
loop-j-preserved c =
    let needed = c.args.needed.now in
    let all = c.args.lemmas.now.items in
    let at = c.loop-j in
    let none_ : Lemma = record { clause = []; steps = [] } in
    let within : at.j < length all = omega (arith, c.loop-j-test.true, at.invariant.each) in
    elim c.if-is_needed.branch [
      | then-is_needed w ↦
          let kept = keeps_swap needed all at.lemmas.items at.kept at.j at.invariant w.swap.new.self.items none_ within w.if-is_needed.true w.swap.ensures.by_index in
          keeps_as needed all _ _ _ _ (at.j + 1) (ap (λ v. v.items) w.lemmas-is) w.kept-is kept
      | else-is_needed w ↦
          let kept = keeps_no needed all at.lemmas.items at.kept at.j at.invariant none_ within w.if-is_needed.false in
          keeps_as needed all _ _ _ _ (at.j + 1) (ap (λ v. v.items) w.lemmas-is) w.kept-is kept
    ]
