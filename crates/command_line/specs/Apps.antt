-- The command line, as clap sees it: the commands and their options.
use Rattle.std.specs.Prelude.{ℕ, List, [], ◌∷◌, true, Some, codes, map}
use Rattle.std.specs.Borrow.{Bor}
use Rattle.clap.specs.Words.{App, Rule, Text, new_app, new_rule, with_rule, with_subcommand}
use Rattle.clap.specs.declared.builder.value_parser.ValueParser.TheVariants as vp

-- `--name N`, N from 1 to the most
abbrev pub number_rule : Text → ℕ → Rule
number_rule name most = record (new_rule name) { long = Some name; parser = Some (vp.Unsigned 1 most) }

abbrev pub workers_rule : Rule
workers_rule = number_rule (codes "workers") 64

abbrev pub slice_rule : Rule
slice_rule = number_rule (codes "slice") 1000000

abbrev pub format_rule : Rule
format_rule = number_rule (codes "format") 2

-- without help and version words
abbrev pub silent : App → App
silent a = record a { top = record a.top { disable_help_flag = true; disable_version_flag = true; disable_help_subcommand = true } }

abbrev pub searching_app : Text → App
searching_app name = with_rule (with_rule (silent (new_app name)) workers_rule) slice_rule

abbrev pub top_app : App
top_app = let a = silent (new_app (codes "dtp")) in record a { top = record a.top { no_binary_name = true; subcommand_required = true } }

abbrev pub certifying_app : App
certifying_app = with_rule (searching_app (codes "certify")) format_rule

-- a command of one word
abbrev pub plain_app : Text → App
plain_app name = silent (new_app name)

-- a number at its place among the words, which has to be there, from the least to the most
abbrev pub place_rule : Text → ℕ → ℕ → Rule
place_rule name least most = record (new_rule name) { required = true; parser = Some (vp.Unsigned least most) }

abbrev pub jobs_rule : Rule
jobs_rule = place_rule (codes "jobs") 1 40

abbrev pub machines_rule : Rule
machines_rule = place_rule (codes "machines") 1 40

abbrev pub start_rule : Rule
start_rule = place_rule (codes "start") 0 4294967295

abbrev pub deadline_rule : Rule
deadline_rule = place_rule (codes "deadline") 0 1000000

-- four numbers, then options
abbrev pub benching_app : App
benching_app =
    with_rule (with_rule (with_rule (with_rule (with_rule (silent (new_app (codes "bench"))) jobs_rule) machines_rule) start_rule) deadline_rule) workers_rule

-- `--emit E`, E one of the words
abbrev pub emit_rule : Bor (List (Bor Text)) → Rule
emit_rule words = record (new_rule (codes "emit")) { long = Some (codes "emit"); parser = Some (vp.Names words) }

abbrev pub jobshop_app : Bor (List (Bor Text)) → App
jobshop_app words = with_rule (searching_app (codes "jobshop")) (emit_rule words)

-- the commands without `--emit`: `solve`, `certify`, `check`, `convert` and `bench`
abbrev pub first_app : App
first_app =
    with_subcommand (with_subcommand (with_subcommand (with_subcommand (with_subcommand top_app (searching_app (codes "solve")).top) certifying_app.top) (plain_app (codes "check")).top) (plain_app (codes "convert")).top) benching_app.top

-- and `jobshop`, with the words that `--emit` takes
abbrev pub dtp_with : Bor (List (Bor Text)) → App
dtp_with words = with_subcommand first_app (jobshop_app words).top

abbrev pub emit_texts : List Text
emit_texts = codes "plan" ∷ codes "script" ∷ codes "certificate" ∷ []

-- clap is lent its words; where they lie is of no matter, here they lie at no place
abbrev pub lent : {X : Type 0} → X → Bor X
lent x = record { ref_ptr = (0, 0); now = x }

abbrev pub emit_words : Bor (List (Bor Text))
emit_words = lent (map lent emit_texts)

abbrev pub dtp_app : App
dtp_app = dtp_with emit_words
