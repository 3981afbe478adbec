-- What the code keeps of a state that came about by commands.
-- These are words of the code's inner contracts, and no part of the meaning.
use Rattle.smt_script.specs.code.Kept.{Kept, StandsFor}
use Rattle.smt_script.specs.States.{State, IsMadeState}

-- what is kept stands for a state that came about by declarations, definitions and assertions
pub record Stands (kept : Kept) (s : State) : Type 0 where
  pub stands : StandsFor kept s
  pub made : IsMadeState s
