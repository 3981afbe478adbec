-- Of the code and not of the meaning: which events bring a schedule.
use Rattle.std.specs.Prelude.{List, [], Bool, true, false, if◌then◌else◌}
use Rattle.refute_tree.specs.declared.lemma.Lemma.{Lemma}
use Rattle.book_core.specs.declared.event.Event.{Event}
use Rattle.book_core.specs.declared.event.Event.TheVariants.{Take, Deliver, Release}
use Rattle.book_core.specs.declared.event.Outcome.{Outcome}
use Rattle.book_core.specs.declared.event.Outcome.TheVariants.{Found, Shut, Split, Open}

abbrev pub is_schedule : Outcome → Bool
is_schedule (Found values) = true
is_schedule (Shut j) = false
is_schedule (Split l) = false
is_schedule Open = false

abbrev pub brings_schedule : Event → Bool
brings_schedule (Take seat taken) = false
brings_schedule (Deliver seat id batch outcome) = is_schedule outcome
brings_schedule (Release seat id) = false

-- these lemmas, or none
abbrev pub lemmas_where : Bool → List Lemma → List Lemma
lemmas_where has_schedule lemmas = if has_schedule then lemmas else []
