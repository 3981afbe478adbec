-- Which words ask for what. The words are read as clap's written definitions read them, by the command line of `Apps`.
use Rattle.std.specs.Prelude.{⊤, ◌==◌, ◌≤◌, ℕ, List, [], Option, Some, None, codes, if◌then◌else◌}
use Rattle.std.specs.Option.{option_map_or}
use Rattle.std.specs.Str.{bytes_eq}
use Rattle.std.specs.Str.Parse.{digits_value, without_leading_plus}
use Rattle.clap.specs.Words.{Kinds, Row, Text, fault_of, first_of, one_of, subcommand_of}
use Rattle.clap.specs.ValueTests.{is_unsigned_in}
use Rattle.command_line.specs.Apps.{dtp_app}
use Rattle.command_line.specs.declared.line.Line.{Line}
use Rattle.command_line.specs.declared.line.Line.TheVariants.{Solve, Certify, Check, Convert, Bench, Jobshop}
use Rattle.command_line.specs.declared.line.Emit.{Emit}
use Rattle.command_line.specs.declared.line.Emit.TheVariants.{Plan, Script, Certificate}
use Rattle.command_line.specs.declared.line.Format.{Format}
use Rattle.command_line.specs.declared.line.Format.TheVariants.{One, Two}
use Rattle.command_line.specs.declared.line.Search.{Search}
use Rattle.command_line.specs.declared.line.Shop.{Shop}

-- the number that was given, from the least to the most; else the default
abbrev pub number_of : Option Text → ℕ → ℕ → ℕ → ℕ
number_of None least most default = default
number_of (Some text) least most default = if is_unsigned_in least most text then digits_value 10 (without_leading_plus text) else default

-- 4 workers where the words don't say it
abbrev pub workers_of : List Row → ℕ
workers_of rows = number_of (one_of (codes "workers") rows) 1 64 4

-- and slices of 1,000
abbrev pub search_of : List Row → Search
search_of rows = record { workers = workers_of rows; slice = number_of (one_of (codes "slice") rows) 1 1000000 1000 }

-- the first version where the words don't say it
abbrev pub format_of : List Row → Format
format_of rows = if number_of (one_of (codes "format") rows) 1 2 1 == 2 then Two else One

abbrev pub emit_named : Text → Emit
emit_named word = if bytes_eq word (codes "script") then Script else (if bytes_eq word (codes "certificate") then Certificate else Plan)

-- the plan where the words don't say it
abbrev pub emit_of : List Row → Emit
emit_of rows = option_map_or emit_named (first_of (codes "emit") rows) Plan

-- all four are there where clap finds no fault
abbrev pub shop_of : List Row → Shop
shop_of rows = record {
  jobs = number_of (one_of (codes "jobs") rows) 1 40 1;
  machines = number_of (one_of (codes "machines") rows) 1 40 1;
  start = number_of (one_of (codes "start") rows) 0 4294967295 0;
  deadline = number_of (one_of (codes "deadline") rows) 0 1000000 0;
}

abbrev pub command_of : Text → List Row → Option Line
command_of name rows =
    if bytes_eq name (codes "solve") then Some (Solve (search_of rows))
    else (if bytes_eq name (codes "certify") then Some (Certify (search_of rows) (format_of rows))
    else (if bytes_eq name (codes "check") then Some Check
    else (if bytes_eq name (codes "convert") then Some Convert
    else (if bytes_eq name (codes "bench") then Some (Bench (shop_of rows) (workers_of rows))
    else (if bytes_eq name (codes "jobshop") then Some (Jobshop (search_of rows) (emit_of rows)) else None)))))

abbrev pub asked : Kinds → Option (Text × List Row) → Option Line
asked [] (Some found) = command_of found.0 found.1
asked _ _ = None

-- what the words ask for; nothing where clap finds a fault in them
abbrev pub line_of : List Text → Option Line
line_of words = asked (fault_of dtp_app words) (subcommand_of dtp_app words)

abbrev pub IsSearchInRange : Search → Type 0
IsSearchInRange s = ((1 ≤ s.workers) × (s.workers ≤ 64)) × ((1 ≤ s.slice) × (s.slice ≤ 1000000))

abbrev pub IsShopInRange : Shop → Type 0
IsShopInRange s = ((1 ≤ s.jobs) × (s.jobs ≤ 40)) × ((1 ≤ s.machines) × (s.machines ≤ 40)) × (s.start ≤ 4294967295) × (s.deadline ≤ 1000000)

abbrev pub IsInRange : Line → Type 0
IsInRange (Solve s) = IsSearchInRange s
IsInRange (Certify s format) = IsSearchInRange s
IsInRange Check = ⊤
IsInRange Convert = ⊤
IsInRange (Bench shop workers) = IsShopInRange shop × ((1 ≤ workers) × (workers ≤ 64))
IsInRange (Jobshop s emit) = IsSearchInRange s
