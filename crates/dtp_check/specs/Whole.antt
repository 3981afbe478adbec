-- Scripts behind which their certificate can be appended: the source is read as that script and that certificate.
use Rattle.std.specs.Prelude.{◌≡◌, ℕ, List, [], ◌∷◌, drop}
use Rattle.smt_sexpr.specs.Tree.{Sexpr}
use Rattle.smt_sexpr.specs.Reading.{Spells}
use Rattle.cert_read.specs.Written.{IsClosedGap}
use Rattle.smt_script.specs.Commands.{is_exit}
use Rattle.dtp_check.specs.Judged.{FollowsExit}

-- From the place on there are these commands, up to the first `(exit)` or to the end of the script. Behind the last of them
-- there is nothing but white space and comments, the last of which is ended by a line's end.
abbrev pub IsWholeFrom : List ℕ → ℕ → List Sexpr → Type 0
IsWholeFrom script place [] = IsClosedGap (drop place script)
IsWholeFrom script place (x ∷ xs) =
    (mid : ℕ) × Spells script place x mid
    × FollowsExit (is_exit x) ((xs ≡ []) × IsClosedGap (drop mid script)) (IsWholeFrom script mid xs)

-- a script that is cut behind its `(exit)`, where it has one, and doesn't end in a comment
abbrev pub IsWhole : List ℕ → Type 0
IsWhole script = (commands : List Sexpr) × IsWholeFrom script 0 commands
