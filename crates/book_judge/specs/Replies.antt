-- What a `take` was answered, beside the cover after it, and what is delivered of it.
use Rattle.std.specs.Prelude.{◌≡◌, ℕ, Bool, true, false}
use Rattle.refute_tree.specs.Batches.{LemmaBatch}
use Rattle.cover_tree.specs.Covers.{Cubes, cube_at}
use Rattle.book_core.specs.declared.answer.Answer.{Answer}
use Rattle.book_core.specs.declared.answer.Answer.TheVariants.{Cube, Idle, Done}
use Rattle.book_core.specs.declared.event.Event.TheVariants.{Deliver}
use Rattle.book_core.specs.declared.event.Outcome.{Outcome}
use Rattle.book_core.specs.Books.{IsAllowed}
use Rattle.book_core.specs.Runs.{Ledger, Records, state_of}

-- the literals are those of the cube
abbrev pub IsCubeOf : Cubes → Answer → Type 0
IsCubeOf c (Cube id cube) = cube ≡ cube_at c id
IsCubeOf c Idle = Unit {0}
IsCubeOf c Done = Unit {0}

-- the seat delivered this of the cube that it was answered: it held it, and it was justified
abbrev pub Delivers : Ledger → ℕ → Answer → LemmaBatch → Outcome → Ledger → Type 0
Delivers old seat (Cube id cube) batch outcome new = Records old (Deliver seat id batch outcome) new
Delivers old seat Idle batch outcome new = ⊥
Delivers old seat Done batch outcome new = ⊥

-- the seat may deliver this of the cube that it was answered: it holds it, and it is justified
abbrev pub MayDeliver : Ledger → ℕ → Answer → LemmaBatch → Outcome → Type 0
MayDeliver old seat (Cube id cube) batch outcome = IsAllowed old.problem (state_of old) (Deliver seat id batch outcome)
MayDeliver old seat Idle batch outcome = ⊥
MayDeliver old seat Done batch outcome = ⊥

-- it is told whether it was delivered; where not, it may not be, and nothing changed
abbrev pub DeliversIf : Bool → Ledger → ℕ → Answer → LemmaBatch → Outcome → Ledger → Type 0
DeliversIf true old seat answer batch outcome new = Delivers old seat answer batch outcome new
DeliversIf false old seat answer batch outcome new = (new ≡ old) × ¬ MayDeliver old seat answer batch outcome
