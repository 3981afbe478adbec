-- What the last minimize of a script comes to.
use Rattle.std.specs.Prelude.{◌≡◌, ℕ, zero, suc, List, [], ◌∷◌, Option, None, option_map, ℤ}
use Rattle.stn_core.specs.declared.named.NamedValue.{NamedValue}
use Rattle.cert_text.specs.declared.entry.Entry.{Entry}
use Rattle.cert_text.specs.Form.{least_in}
use Rattle.smt_script.specs.declared.state.Question.{Question}
use Rattle.smt_script.specs.declared.state.Question.TheVariants.{CheckSat, Minimize}
use Rattle.script_walk.specs.Course.{Turn, Outcome, tells, answers, asks, ends, fails}
use Rattle.dtp_entry.specs.declared.report.Report.TheVariants.{Verdicts}
use Rattle.dtp_entry.specs.Transcripts.{Output, IsOutput}
use Rattle.dtp_session.specs.declared.least.Minimum.{Minimum}

-- the least value that an entry tells, and its schedule
abbrev pub minimum_of : Entry → Option Minimum
minimum_of entry = option_map (λ (p : ℤ × List NamedValue). record { value = p.0; schedule = p.1 }) (least_in entry)

-- a check-sat leaves what the last minimize came to
abbrev pub minimum_at : Question → Option Minimum → Entry → Option Minimum
minimum_at CheckSat last entry = last
minimum_at (Minimize o) last entry = minimum_of entry

abbrev pub minimum_by : Option Minimum → Outcome Entry → Option Minimum
minimum_by last (tells x notice) = last
minimum_by last (answers question x entry) = minimum_at question last entry
minimum_by last (asks question x) = last
minimum_by last ends = last
minimum_by last (fails kind) = last

-- behind these turns, where this was so before them
abbrev pub last_minimum : Option Minimum → List (Turn Entry) → Option Minimum
last_minimum last [] = last
last_minimum last (t ∷ ts) = last_minimum (minimum_by last t.outcome) ts

-- of a script without an error; else none
abbrev pub least_by : ℕ → List (Turn Entry) → Option Minimum
least_by zero turns = last_minimum None turns
least_by (suc status) turns = None

-- What the last minimize of the script was answered by, where that is a least value and no command is refused. Its entry decides that
-- minimize (`Decides` of dtp_entry), so the value is the best one of its term there, and the schedule satisfies the assertions and gives it.
abbrev pub IsLeastOf : List ℕ → Option Minimum → Type 0
IsLeastOf script least = (out : Output) × (h : IsOutput Verdicts script out) × (least ≡ least_by out.status h.turns)
