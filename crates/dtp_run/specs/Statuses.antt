-- The numbers of the statuses, those where a text was written whole, and the status where the source isn't read to its end.
use Rattle.std.specs.Prelude.{ℕ}
use Rattle.dtp_io.specs.declared.all.ReadError.{ReadError}
use Rattle.dtp_io.specs.declared.all.ReadError.TheVariants as reading
use Rattle.dtp_run.specs.declared.status.Status.{Status}
use Rattle.dtp_run.specs.declared.status.Status.TheVariants.{Done, Refused, Usage, ReadFault, WriteFault, OutOfMemory, NotAccepted, TooLong}

abbrev pub code_of : Status → ℕ
code_of Done = 0
code_of Refused = 1
code_of Usage = 2
code_of ReadFault = 3
code_of WriteFault = 4
code_of OutOfMemory = 5
code_of NotAccepted = 6
code_of TooLong = 7

-- a line's text is written whole
abbrev pub EndsWhole : Status → Type 0
EndsWhole Done = Unit {0}
EndsWhole Refused = Unit {0}
EndsWhole NotAccepted = Unit {0}
EndsWhole _ = ⊥

abbrev pub unread_status : ReadError → Status
unread_status reading.OutOfMemory = OutOfMemory
unread_status reading.ReadFault = ReadFault
unread_status reading.TooLong = TooLong
