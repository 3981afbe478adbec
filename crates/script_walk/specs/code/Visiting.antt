-- Where a visitor is when an event of a script comes. What it has come to so far, and how the event came, are its own words.
-- These are words of the code's contracts, and no part of the meaning.
use Rattle.script_walk.specs.declared.walk.Event.{Event}

-- it began as the first one, with what was lent to it then, and had come so far before this event came
pub record IsAt {V L : Type 0} (SoFar : V → L → V → L → Type 0) (Comes : V → V → Event → Type 0) (now : V) (lent : L) (event : Event) : Type 0 where
  pub first : V
  pub lent_first : L
  pub before : V
  pub so_far : SoFar first lent_first before lent
  pub comes : Comes before now event
