-- What is written of a script: a relation of its bytes, the bytes of the output and the status.
-- Source: SMT-LIB 2.6, section 4.1 (responses, and the error behavior `immediate-exit`), section 4.2.1 (`exit`) and section
-- 4.2.5 (`check-sat`). The lines of a minimize are this project's choice.
use Rattle.std.specs.Prelude.{◌≡◌, ℕ, List, [], ◌∷◌, ◌++◌, length, map, Bool, true, false, if◌then◌else◌, Option, Some, None}
use Rattle.std.specs.List.{AllByRecursion}
use Rattle.smt_sexpr.specs.Tree.{Sexpr, Items}
use Rattle.smt_script.specs.declared.state.Question.{Question}
use Rattle.smt_script.specs.declared.state.Notice.{Notice}
use Rattle.smt_script.specs.declared.state.Notice.TheVariants.{Success, Unsupported, Model, Values, Proof, Core, Assumptions, Inform, Echo}
use Rattle.smt_script.specs.Commands.{asked_terms, echoed_text, minimized}
use Rattle.smt_script.specs.States.{State, Assumed, asked_of, levels_of}
use Rattle.smt_answer.specs.Texts.{verdict_line, minimum_line, unbounded_line, success_line, unsupported_line, model_lines, values_line, cited_names, core_line, cited_items, assumptions_line, information_line, echo_line, error_line}
use Rattle.cert_text.specs.declared.entry.Version.{Version}
use Rattle.cert_text.specs.declared.entry.Version.TheVariants.{One, Two}
use Rattle.cert_text.specs.declared.entry.Entry.{Entry}
use Rattle.cert_text.specs.declared.entry.Entry.TheVariants.{Sat, Unsat, Best, Unbounded}
use Rattle.cert_text.specs.Form.{header_sexpr, entry_sexpr, file_entry_sexpr, shown_by, values_by, end_sexpr, line_of}
use Rattle.kept_lemmas.specs.declared.item.Item.{Item}
use Rattle.kept_lemmas.specs.Facts.{Shelf}
use Rattle.stn_core.specs.declared.named.NamedValue.{NamedValue}
use Rattle.refute_tree.specs.declared.lemma.Lemma.{Lemma}
use Rattle.clause_form.specs.Restricting.{restricted}
use Rattle.idl_term.specs.Contexts.{Context, environment, IsSatisfiable}
use Rattle.idl_term.specs.Scopes.{sorts_of}
use Rattle.idl_term.specs.Values.{value}
use Rattle.dtp_entry.specs.declared.report.Report.{Report}
use Rattle.dtp_entry.specs.declared.report.Report.TheVariants.{Verdicts, Certificate}
use Rattle.dtp_entry.specs.Reports.{version_of}
use Rattle.dtp_entry.specs.Bests.{IsBestFor, HasNoBest}
use Rattle.dtp_entry.specs.Cores.{cites_assertion, NoneTogether}
use Rattle.dtp_entry.specs.Entries.{IsEntryOf, verdict_of}
use Rattle.dtp_entry.specs.Keeping.{IsShownBy}
use Rattle.script_walk.specs.Course.{start_with, Turn, Outcome, tells, answers, asks, ends, fails, IsCourseOf, status_of, answers_of, IsFit}
use Rattle.dtp_entry.specs.Written.{IsFront}

-- ---- the parts of a report

-- what is written before the first command, and at the end without an error
abbrev pub opening : Report → List ℕ
opening Verdicts = []
opening (Certificate version) = line_of (header_sexpr version)

abbrev pub closing : Report → List ℕ
closing Verdicts = []
closing (Certificate version) = line_of end_sexpr

-- the line of a question, by the entry that decides it
abbrev pub decision_line : Report → Entry → List ℕ
decision_line Verdicts (Sat schedule) = verdict_line true
decision_line Verdicts (Unsat lemmas) = verdict_line false
decision_line Verdicts (Best m schedule lemmas) = minimum_line m
decision_line Verdicts (Unbounded values set) = unbounded_line
decision_line (Certificate version) entry = line_of (entry_sexpr entry)

-- what the mode holds: the entry that decided the last question, of which models, proofs, cores and assumptions can be told
abbrev pub Held : Type 0
Held = Option Entry

-- The schedule of an entry: where it has values of the time points, the one that they give. A refutation has none.
abbrev pub schedule_in : Context → Entry → Option (List NamedValue)
schedule_in c entry = values_by (λ values. Some (restricted (sorts_of c.declared) values)) entry

abbrev pub schedule_held : Context → Held → Option (List NamedValue)
schedule_held c (Some entry) = schedule_in c entry
schedule_held c None = None

-- of a schedule, where there is one
abbrev pub told_of : Option (List NamedValue) → (List NamedValue → List ℕ) → List ℕ
told_of (Some schedule) text = text schedule
told_of None text = []

-- behind an `unsat` the mode holds the refutation, and else a schedule
abbrev pub told_model : Held → State → List ℕ
told_model held s = told_of (schedule_held s.context held) (λ schedule. model_lines s.context.declared schedule)

abbrev pub told_values : Held → State → Items → List ℕ
told_values held s terms =
    told_of (schedule_held s.context held) (λ schedule. values_line (value (environment s.context schedule)) terms)

abbrev pub told_proof : Held → List ℕ
told_proof (Some (Unsat lemmas)) = line_of (entry_sexpr (Unsat lemmas))
told_proof (Some (Sat schedule)) = []
told_proof (Some (Best m schedule lemmas)) = []
told_proof (Some (Unbounded values set)) = []
told_proof None = []

-- the names of the assertions that the refutation rests on; behind a check-sat-assuming it is one of its assumptions too
abbrev pub told_core : Held → State → List ℕ
told_core (Some (Unsat lemmas)) s = core_line (cited_names (cites_assertion (asked_of s) lemmas) 0 s.labels)
told_core (Some (Sat schedule)) s = []
told_core (Some (Best m schedule lemmas)) s = []
told_core (Some (Unbounded values set)) s = []
told_core None s = []

-- the assumptions that it rests on, which stand behind the assertions
abbrev pub assumptions_of : List Lemma → Option Assumed → List ℕ
assumptions_of lemmas None = []
assumptions_of lemmas (Some assumed) =
    assumptions_line (cited_items (cites_assertion assumed.asked lemmas) (length assumed.active.assertions) assumed.literals)

abbrev pub told_assumptions : Held → State → List ℕ
told_assumptions (Some (Unsat lemmas)) s = assumptions_of lemmas s.assumed
told_assumptions (Some (Sat schedule)) s = []
told_assumptions (Some (Best m schedule lemmas)) s = []
told_assumptions (Some (Unbounded values set)) s = []
told_assumptions None s = []

-- what is told of command x, which asks for no decision, in the state behind it; `success` where that is to be printed
abbrev pub told : Report → Held → State → Sexpr → Notice → List ℕ
told Verdicts held s x Success = if s.print_success then success_line else []
told Verdicts held s x Unsupported = unsupported_line
told Verdicts held s x Model = told_model held s
told Verdicts held s x Values = told_values held s (asked_terms x)
told Verdicts held s x Proof = told_proof held
told Verdicts held s x Core = told_core held s
told Verdicts held s x Assumptions = told_assumptions held s
told Verdicts held s x (Inform information) = information_line information (levels_of s)
told Verdicts held s x Echo = echo_line (echoed_text x)
told (Certificate version) held s x notice = []

-- ---- a command

-- What an entry for the question of command x says is so: `sat` where some schedule satisfies all the assertions, `unsat` where
-- none does, nor even those that the refutation cites; a minimum where it is the term's best value, and `unbounded` where some
-- schedule satisfies the assertions and no value is best.
abbrev pub IsSo : Sexpr → Context → Entry → Type 0
IsSo x c (Sat schedule) = IsSatisfiable c
IsSo x c (Unsat lemmas) = (¬ IsSatisfiable c) × NoneTogether c lemmas
IsSo x c (Best m schedule lemmas) = IsBestFor c (minimized x) m
IsSo x c (Unbounded values set) = HasNoBest c (minimized x)

-- the entry decides the question: it is right, in the version's form, and what it says is so
pub record Decides (version : Version) (question : Question) (x : Sexpr) (c : Context) (entry : Entry) : Type 0 where
  pub right : IsEntryOf version question x c entry
  pub so : IsSo x c entry

-- ---- a script

-- what is written: the text, the entries that decided the questions, in order, and the status
pub record Output : Type 0 where
  pub text : List ℕ
  pub found : List Entry
  pub status : ℕ

-- what is written of a turn
abbrev pub piece_by : Report → Turn Entry → Outcome Entry → List ℕ
piece_by report t (tells x notice) = told report t.before.held t.state x notice
piece_by report t (answers question x entry) = decision_line report entry
piece_by report t (asks question x) = []
piece_by report t ends = closing report
piece_by report t (fails kind) = error_line t.before.number kind

-- of turns, where each entry stands as it is
abbrev pub pieces : Report → List (Turn Entry) → List ℕ
pieces report [] = []
pieces report (t ∷ ts) = piece_by report t t.outcome ++ pieces report ts

-- The line of a question in a report, by the entry that decides it. On the first shelf stands what the entries before state, on the
-- second one what is stated behind this one: in a certificate of the second version items stand in the place of the entry's
-- lemmas, and may keep some of them. Else the entry stands as it is, and nothing is kept.
abbrev pub IsLine : Report → Shelf → Question → Context → Entry → List ℕ → Shelf → Type 0
IsLine Verdicts shelf question c entry line now = (line ≡ decision_line Verdicts entry) × (now ≡ shelf)
IsLine (Certificate One) shelf question c entry line now = (line ≡ decision_line (Certificate One) entry) × (now ≡ shelf)
IsLine (Certificate Two) shelf question c entry line now =
    (items : List Item) × IsShownBy shelf question c entry items now × (line ≡ line_of (file_entry_sexpr (shown_by entry items)))

-- what is written of a turn
abbrev pub IsPiece : Report → Shelf → Turn Entry → Outcome Entry → List ℕ → Shelf → Type 0
IsPiece report shelf t (answers question x entry) piece now = IsLine report shelf question t.state.context entry piece now
IsPiece report shelf t (tells x notice) piece now = (piece ≡ piece_by report t (tells x notice)) × (now ≡ shelf)
IsPiece report shelf t (asks question x) piece now = (piece ≡ []) × (now ≡ shelf)
IsPiece report shelf t ends piece now = (piece ≡ closing report) × (now ≡ shelf)
IsPiece report shelf t (fails kind) piece now = (piece ≡ error_line t.before.number kind) × (now ≡ shelf)

-- of turns, one behind the other
abbrev pub IsWritten : Report → Shelf → List (Turn Entry) → List ℕ → Type 0
IsWritten report shelf [] text = text ≡ []
IsWritten report shelf (t ∷ ts) text =
    (piece rest : List ℕ) × (now : Shelf) × (text ≡ piece ++ rest) × IsPiece report shelf t t.outcome piece now × IsWritten report now ts rest

-- what the mode holds is told: a model, values, a proof, a core or assumptions
abbrev pub is_of_held : Notice → Bool
is_of_held Success = false
is_of_held Unsupported = false
is_of_held Model = true
is_of_held Values = true
is_of_held Proof = true
is_of_held Core = true
is_of_held Assumptions = true
is_of_held (Inform information) = false
is_of_held Echo = false

abbrev pub tells_held : Outcome Entry → Bool
tells_held (tells x notice) = is_of_held notice
tells_held (answers question x entry) = false
tells_held (asks question x) = false
tells_held ends = false
tells_held (fails kind) = false

-- The lines of a transcript, turn by turn, with a gap for each model, for values, for each proof, each core and each list of assumptions: these are of the
-- schedule or the refutation that was found.
abbrev pub line_with_gaps : Turn Entry → Option (List ℕ)
line_with_gaps t = if tells_held t.outcome then None else Some (piece_by Verdicts t t.outcome)

abbrev pub lines_with_gaps : List (Turn Entry) → List (Option (List ℕ))
lines_with_gaps turns = map line_with_gaps turns

-- the entry of a question decides it
abbrev pub DecidesIn : Version → Question → Sexpr → State → Entry → Type 0
DecidesIn version question x s entry = Decides version question x s.context entry

abbrev pub IsLegal : Report → Turn Entry → Type 0
IsLegal report t = IsFit (DecidesIn (version_of report)) t

-- the turns of a front of the script, or of all of it, with these entries
pub record AreTurns (report : Report) (script : List ℕ) (found : List Entry) (turns : List (Turn Entry)) : Type 0 where
  pub are : IsCourseOf verdict_of script 0 (start_with found) turns
  pub legal : AllByRecursion (IsLegal report) turns

-- what is written of a script, with the entries that decided its questions: what is written of all its turns
pub record IsOutput (report : Report) (script : List ℕ) (out : Output) : Type 0 where
  pub turns : List (Turn Entry)
  pub are : AreTurns report script out.found turns
  pub over : status_of turns ≡ Some out.status
  pub used : answers_of turns ≡ out.found
  pub written : List ℕ
  pub writes : IsWritten report [] turns written
  pub text : out.text ≡ opening report ++ written

-- a legal front of what is written of a script: a front of what is written of some turns
pub record IsReportPart (report : Report) (script text : List ℕ) : Type 0 where
  pub found : List Entry
  pub turns : List (Turn Entry)
  pub are : AreTurns report script found turns
  pub written : List ℕ
  pub writes : IsWritten report [] turns written
  pub front : IsFront text (opening report ++ written)

-- what is written of a script, and the status
abbrev pub IsReport : Report → List ℕ → List ℕ → ℕ → Type 0
IsReport report script text status =
    (found : List Entry) × IsOutput report script (record { text = text; found = found; status = status })

-- the transcript of a script: what it is answered
abbrev pub IsTranscript : List ℕ → List ℕ → ℕ → Type 0
IsTranscript script text status = IsReport Verdicts script text status

-- the certificate of a script, of a version: its header, an entry for each question, and the end or the error line
abbrev pub IsCertificate : Version → List ℕ → List ℕ → ℕ → Type 0
IsCertificate version script text status = IsReport (Certificate version) script text status
