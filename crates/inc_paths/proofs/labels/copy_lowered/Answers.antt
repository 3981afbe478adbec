use Rattle.std.proofs.Common.{arith}
use Rattle.inc_paths.proofs.Undoing.{copied_first, copied_all}
use Rattle.inc_paths.proofs.labels.copy_lowered.Goals as goal

pub lowerings-init : goal.lowerings-init
lowerings-init c =
    let start = c.args.start in
    record {
      count = c.requires.count;
      copied = copied_first c.args.values.now c.args.trail.now c.args.before.now start c.requires.before;
    }

pub returns : goal.returns
returns c =
    copied_all c.args.values.now c.args.trail.now c.lowerings.before c.lowerings.place (omega (arith, c.lowerings-test.false)) c.lowerings.invariant.count c.lowerings.invariant.copied
