-- The commands of a text, and how the text ends.
use Rattle.std.specs.Prelude.{◌≡◌, ℕ, List, [], ◌∷◌}
use Rattle.smt_sexpr.specs.Reading.{Spells, Outcomes, finished, refused}
use Rattle.smt_sexpr.specs.declared.error.SexprRefusal.{SexprRefusal}
use Rattle.smt_sexpr.specs.Tree.{Sexpr}

-- the s-expressions of the text from the place on, in order, up to here
abbrev pub Commands : List ℕ → ℕ → List Sexpr → ℕ → Type 0
Commands bytes place [] here = place ≡ here
Commands bytes place (x ∷ xs) here = (mid : ℕ) × Spells bytes place x mid × Commands bytes mid xs here

pub data Ending : Type 0 where
  -- nothing but white space and comments follows
  ended : Ending
  -- what follows isn't looked at
  stopped : Ending
  -- what follows is refused
  unread : (why : SexprRefusal) → Ending

-- how the text ends behind the last of its commands
abbrev pub EndsAs : List ℕ → ℕ → Ending → Type 0
EndsAs bytes here ended = (after : ℕ) × Outcomes bytes here finished after
EndsAs bytes here stopped = Unit {0}
EndsAs bytes here (unread why) = (after : ℕ) × Outcomes bytes here (refused why) after
