use Rattle.std.proofs.Common.{arith, ◌≡◌, ℕ, List, length, drop, subst, sym}
use Rattle.refute_tree.specs.declared.step.Step.{Step}
use Rattle.conflict_analysis.specs.code.Spines.{AreOpened, Refutes}
use Rattle.conflict_analysis.proofs.Written.{AreWritten, written_first, written_next, written_all}
use Rattle.conflict_analysis.proofs.spine.steps_for.Goals as goal

pub back-init : goal.back-init
back-init g c =
    let inputs = c.args.graph.now.inputs in
    let lemmas = c.args.graph.now.lemmas in
    let none : c.forth.left ≡ 0 = omega (arith, c.forth-test.false) in
    let P : ℕ → Type 0 = λ i. AreOpened inputs lemmas c.args.graph.now.trail c.args.outline.now.roles.now c.args.outline.now.leaves.now (drop i c.args.passed.now) c.forth.steps in
    let grows = c.in_ok-push_conflict.ensures in
    record {
      written = written_first inputs lemmas c.args.graph.now.trail c.args.outline.now.roles.now c.args.outline.now.leaves.now c.args.passed.now c.requires.passed c.requires.closed c.requires.chosen c.forth.steps _ grows.0 (subst P none c.forth.invariant.opened) grows.1 grows.2;
    }

pub back-preserved : goal.back-preserved
back-preserved g c =
    let grows = c.in_ok-push_closing_at.ensures in
    record {
      written = written_next c.args.graph.now.inputs c.args.graph.now.lemmas c.args.graph.now.trail c.args.outline.now.roles.now c.args.outline.now.leaves.now c.args.passed.now c.requires.passed c.requires.closed c.requires.chosen c.back.i c.back.steps _ grows.0 (omega (arith, c.back-test.true)) c.back.invariant.written grows.1 grows.2;
    }

pub returns : goal.returns
returns g c =
    let inputs = c.args.graph.now.inputs in
    let lemmas = c.args.graph.now.lemmas in
    let end = c.back.auto.i-end in
    let all : c.back.i ≡ length c.args.passed.now = omega (arith, end, c.back-test.false) in
    let P : ℕ → Type 0 = λ i. AreWritten inputs lemmas c.args.graph.now.trail c.args.outline.now.roles.now c.args.outline.now.leaves.now c.args.passed.now i c.back.steps in
    let R : List Step → Type 0 = Refutes inputs lemmas c.args.graph.now.trail c.args.outline.now.roles.now in
    subst R (sym c.in_ok-copy.ensures) (written_all inputs lemmas c.args.graph.now.trail c.args.outline.now.roles.now c.args.outline.now.leaves.now c.args.passed.now c.requires.passed c.requires.closed c.requires.chosen c.back.steps (subst P all c.back.invariant.written))
