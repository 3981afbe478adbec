-- What is handed in of a cube.
use Rattle.refute_tree.specs.Batches.{LemmaBatch}
use Rattle.book_core.specs.declared.event.Outcome.{Outcome}

pub record Handing : Type 0 where
  pub batch : LemmaBatch
  pub outcome : Outcome

abbrev pub handing : LemmaBatch → Outcome → Handing
handing batch outcome = record { batch = batch; outcome = outcome }
