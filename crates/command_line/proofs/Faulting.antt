-- Where clap finds no fault in the words, one of the commands is found.
use Rattle.std.proofs.Common.{◌≡◌, Bool, true, false, List, [], ◌∷◌, Option, Some, None, refl, is_some}
use Rattle.std.specs.Prelude.{not, ◌&&◌, option_map, cond, find}
use Rattle.clap.specs.Words.{Kinds, Row, Shape, Text, built, fault_of, subcommand_of}
use Rattle.clap.specs.Kinds.{check_kinds, or_else}
use Rattle.clap.specs.Faults.{check_fault, defaults_fault, entered_fault, level_fault, settle_fault, walk_fault}
use Rattle.clap.specs.Simple.{entered, label_of, names_of, rows_at}
use Rattle.clap.specs.Walk.{Held, Names, answers_to, finished, nothing_held, settled, walk, walk_from}
use Rattle.command_line.specs.Apps.{dtp_app}
use Rattle.command_line.specs.Lines.{asked, command_of, line_of}
use Rattle.command_line.specs.declared.line.Line.{Line}

or_else_second : (a b : Kinds) → or_else a b ≡ [] → b ≡ []
or_else_second [] b e = e
or_else_second (k ∷ ks) b e = cc

is_there : (b : Bool) → check_kinds (not b && false) (not b && true) (not (false && b) && false) ≡ [] → b ≡ true
is_there true e = refl
is_there false e = cc

abbrev stop_of : List Text → Option (Text × List Text)
stop_of words = (walk (built dtp_app).top.rules (names_of (built dtp_app)) nothing_held words).stopped

level_last : (s : Shape) (names : Names) (h : Held) (words : List Text) (b : Bool) (below : Kinds) → level_fault s names h words b below ≡ []
    → check_fault s (finished s.rules (walk s.rules names h words).held) b ≡ []
level_last s names h words b below e =
    let end = (walk s.rules names h words).held in
    or_else_second (defaults_fault (settled s.rules end).rows s.rules) _
    (or_else_second (settle_fault s.rules s.args_override_self end) _
    (or_else_second below _
    (or_else_second (walk_fault s names (walk_from h) words) _ e)))

entered_there : (words : List Text) → fault_of dtp_app words ≡ [] → is_some (entered (built dtp_app) (stop_of words)) ≡ true
entered_there words e = is_there _ (level_last (built dtp_app).top (names_of (built dtp_app)) nothing_held words (is_some (entered (built dtp_app) (stop_of words))) (entered_fault (built dtp_app) (stop_of words)) e)

-- each command has a line, whatever its rows are
abbrev have_lines : List Shape → List Row → Bool
have_lines [] rows = true
have_lines (s ∷ shapes) rows = is_some (command_of s.name rows) && have_lines shapes rows

all_have : (rows : List Row) → have_lines (built dtp_app).subs rows ≡ true
all_have rows = refl

both : (a b : Bool) → (a && b) ≡ true → (a ≡ true) × (b ≡ true)
both true b e = (refl, e)
both false b e = cc

is_none : (o : Option Line) → is_some o ≡ true → o ≡ None → ⊥
is_none None e f = cc
is_none (Some line) e f = cc

abbrev NoneIsFound : List Text → Option Shape → Type 0
NoneIsFound rest found = is_some (option_map (λ s. rows_at s rest) found) ≡ true → asked [] (option_map (λ s. rows_at s rest) found) ≡ None → ⊥

found_first : (s : Shape) (rest : List Text) (others : Option Shape) (b : Bool) → ((rows : List Row) → is_some (command_of s.name rows) ≡ true)
    → NoneIsFound rest others → NoneIsFound rest (cond b (Some s) others)
found_first s rest others true has behind e f = is_none (command_of s.name (rows_at s rest).1) (has (rows_at s rest).1) f
found_first s rest others false has behind e f = behind e f

found_among : (shapes : List Shape) (test : Shape → Bool) (rest : List Text) → ((rows : List Row) → have_lines shapes rows ≡ true) → NoneIsFound rest (find test shapes)
found_among [] test rest have e f = cc
found_among (s ∷ shapes) test rest have e f =
    found_first s rest (find test shapes) (test s) (λ rows. (both _ (have_lines shapes rows) (have rows)).0)
    (found_among shapes test rest (λ rows. (both (is_some (command_of s.name rows)) _ (have rows)).1)) e f

line_there : (stop : Option (Text × List Text)) → is_some (entered (built dtp_app) stop) ≡ true → asked [] (entered (built dtp_app) stop) ≡ None → ⊥
line_there None e f = cc
line_there (Some p) e f = found_among (built dtp_app).subs (λ s. answers_to p.0 (label_of s)) p.1 all_have e f

asked_none : (kinds : Kinds) (words : List Text) → kinds ≡ [] → asked kinds (subcommand_of dtp_app words) ≡ None → asked [] (subcommand_of dtp_app words) ≡ None
asked_none [] words e f = f
asked_none (k ∷ ks) words e f = cc

pub no_line_has_fault : (words : List Text) → line_of words ≡ None → fault_of dtp_app words ≡ [] → ⊥
no_line_has_fault words none e = line_there (stop_of words) (entered_there words e) (asked_none (fault_of dtp_app words) words e none)
