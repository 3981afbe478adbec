-- How the code reads the script's part of a source.
-- These are words of the code's inner contracts, and no part of the meaning.
use Rattle.std.specs.Prelude.{ℕ, List}
use Rattle.smt_sexpr.specs.Tree.{Sexpr}
use Rattle.smt_sexpr.specs.Table.{Table, Means}
use Rattle.smt_sexpr.specs.Reading.{Spells}
use Rattle.dtp_check.specs.declared.script_part.PartEnd.{PartEnd}
use Rattle.dtp_check.specs.declared.script_part.PartEnd.TheVariants.{Exit, Header, Unread}
use Rattle.dtp_check.specs.declared.script_part.Next.{Next}
use Rattle.dtp_check.specs.declared.script_part.Next.TheVariants.{Command, Ended}
use Rattle.dtp_check.specs.Judged.{EndsPart, IsApart}

-- what stands at the place, and the place behind it
abbrev pub IsNext : List ℕ → ℕ → Table → ℕ → Next → Type 0
IsNext bytes place t after (Command id) =
    (x : Sexpr) × Means t id x × Spells bytes place x after × IsApart x
IsNext bytes place t after (Ended end) = EndsPart bytes place end after

-- more may follow it
abbrev pub GoesOn : Next → Type 0
GoesOn (Command id) = Unit {0}
GoesOn (Ended (Header version)) = Unit {0}
GoesOn (Ended _) = ⊥

-- a certificate may follow the script
abbrev pub IsBefore : PartEnd → Type 0
IsBefore Exit = Unit {0}
IsBefore (Header version) = Unit {0}
IsBefore _ = ⊥

-- all of the script can be read
abbrev pub IsReadable : PartEnd → Type 0
IsReadable (Unread kind) = ⊥
IsReadable _ = Unit {0}
