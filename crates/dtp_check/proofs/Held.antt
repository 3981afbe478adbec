-- What is held of the entries before.
use Rattle.std.proofs.Common.{◌≡◌, Option, None, Result, Ok, Err}
use Rattle.std.specs.Prelude.{OnOk}
use Rattle.cert_check.specs.declared.flaw.Flaw.{Flaw}
use Rattle.cert_check.specs.declared.flaw.CheckError.{CheckError}
use Rattle.cert_check.specs.declared.flaw.CheckError.TheVariants.{OutOfMemory, Refused}
use Rattle.cert_check.specs.Flaws.{TellsFlaw}
use Rattle.kept_lemmas.specs.Facts.{Shelf}

-- no flaw on any shelf
pub none_anywhere : (flaw : Shelf → Option Flaw) (r : Result (Unit {0}) CheckError) → ((shelf : Shelf) → TellsFlaw (flaw shelf) r) → OnOk r ((shelf : Shelf) → flaw shelf ≡ None)
none_anywhere flaw (Ok u) h = h
none_anywhere flaw (Err OutOfMemory) h = tt
none_anywhere flaw (Err (Refused f)) h = tt

-- none on this shelf
pub right_on : (flaw : Shelf → Option Flaw) (r : Result (Unit {0}) CheckError) (shelf : Shelf) → TellsFlaw (flaw shelf) r → OnOk r ((shelf : Shelf) × (flaw shelf ≡ None))
right_on flaw (Ok u) shelf h = (shelf, h)
right_on flaw (Err OutOfMemory) shelf h = tt
right_on flaw (Err (Refused f)) shelf h = tt
