-- The two halves of the cube that was divided last, by their numbers.
use Rattle.std.specs.Prelude.{ℕ, ◌+◌, List, [], ◌∷◌, length, Option, Some, None}
use Rattle.cover_tree.specs.Covers.{Cubes}
use Rattle.book_core.specs.declared.event.Event.{Event}
use Rattle.book_core.specs.declared.event.Event.TheVariants.{Take, Deliver, Release}
use Rattle.book_core.specs.declared.event.Outcome.{Outcome}
use Rattle.book_core.specs.declared.event.Outcome.TheVariants.{Found, Shut, Split, Open}
use Rattle.refute_tree.specs.declared.lemma.Lemma.{Lemma}
use Rattle.book_core.specs.Books.{State, opened, after}

-- what a delivery leaves of its cube, where it divides it
abbrev pub halves_made : Cubes → Outcome → Option (ℕ × ℕ)
halves_made c (Found values) = None
halves_made c (Shut j) = None
halves_made c (Split l) = Some (length c.nodes, length c.nodes + 1)
halves_made c Open = None

-- a delivery takes the place of those before it
abbrev pub halves_after : State → Event → Option (ℕ × ℕ) → Option (ℕ × ℕ)
halves_after s (Take seat taken) last = last
halves_after s (Deliver seat id batch outcome) last = halves_made s.cover outcome
halves_after s (Release seat id) last = last

abbrev pub halves_from : State → Option (ℕ × ℕ) → List Event → Option (ℕ × ℕ)
halves_from s last [] = last
halves_from s last (e ∷ es) = halves_from (after s e) (halves_after s e last) es

-- those of the last delivery, where it divided its cube
abbrev pub halves_of : List Lemma → List Event → Option (ℕ × ℕ)
halves_of opening events = halves_from (opened opening) None events
