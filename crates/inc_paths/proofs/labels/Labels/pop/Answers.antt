use Rattle.std.proofs.Common.{ap}
use Rattle.inc_paths.specs.code.Trails.{Labelled}
use Rattle.inc_paths.proofs.Queues.{popped}
use Rattle.inc_paths.proofs.labels.Labels.pop.Goals as goal

pub returns-clause-greatest : goal.returns-clause-greatest
returns-clause-greatest c =
    popped c.pop.result _ _ c.args.self.now.queue c.self.invariant.1 c.pop.ensures.heap_order (ap (λ (l : Labelled). l.queue) c.self.view_is)
