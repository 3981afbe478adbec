use Rattle.idl_linear.specs.code.Held.{held_summands}
use Rattle.idl_linear.proofs.Merging.{rest_from_linear}
use Rattle.idl_linear.proofs.linear.Linear.cursor.Goals as goal

pub cursor-requires : goal.cursor-requires
cursor-requires c = rest_from_linear (record { summands = held_summands c.self.inside.summands; constant = c.self.inside.constant }) c.self.invariant
