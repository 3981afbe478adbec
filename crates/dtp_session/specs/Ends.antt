-- The status of a script whose answers were all written. It is this project's choice.
use Rattle.std.specs.Prelude.{ℕ}
use Rattle.dtp_session.specs.declared.session.Solved.{Solved}
use Rattle.dtp_session.specs.declared.session.Solved.TheVariants.{Done, ScriptStopped}

-- 1 exactly where a command was refused
abbrev pub status_of : Solved → ℕ
status_of Done = 0
status_of ScriptStopped = 1
