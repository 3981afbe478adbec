-- Of the code and not of the meaning: the schedule that a delivery brings, and the lemma by which it excludes its cube.
use Rattle.std.specs.Prelude.{◌≡◌, ℕ, List, ℤ, Option, Some, None}
use Rattle.refute_tree.specs.Moves.{moved_number}
use Rattle.book_core.specs.declared.event.Outcome.{Outcome}
use Rattle.book_core.specs.declared.event.Outcome.TheVariants.{Found, Shut}

abbrev pub given_schedule : Outcome → Option (List ℤ)
given_schedule (Found values) = Some values
given_schedule outcome = None

-- where a lemma excludes the cube, its number behind the first `base` ones
abbrev pub IsClosingNumber : ℕ → ℕ → Outcome → ℕ → Type 0
IsClosingNumber seen base outcome number = (j : ℕ) → outcome ≡ Shut j → number ≡ moved_number seen base j
