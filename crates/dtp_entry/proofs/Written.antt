-- What is written, and fronts of it.
use Rattle.std.proofs.Common.{sym, inr, ℕ, List, [], Option, Some, None, Result, Ok, Err}
use Rattle.std.specs.Prelude.{OnErr}
use Rattle.std.specs.Io.KnownBytes.{Appends}
use Rattle.std.proofs.lemmas.List.{append-nil}
use Rattle.dtp_entry.specs.Written.{IsFront, IsPartOf}

pub on_err : {A E : Type 0} (r : Result A E) (P : Type 0) → P → OnErr r P
on_err (Ok x) P h = tt
on_err (Err e) P h = h

pub appends_nothing : (held : Option (List ℕ)) → Appends held held []
appends_nothing None = tt
appends_nothing (Some bytes) = sym (append-nil bytes)

pub part_of : (Legal : List ℕ → Type 0) (whole added : List ℕ) → Legal whole → IsFront added whole → IsPartOf Legal added
part_of Legal whole added legal front = inr (whole, legal, front)
