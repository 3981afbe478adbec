-- Where the line of a certificate's one entry stands: behind the header's.
use Rattle.std.proofs.Common.{arith, ◌≡◌, ◌≤◌, ◌+◌, ◌==◌, ◌&&◌, ℕ, List, [], ◌∷◌, ◌++◌, length, take, drop, Option, Some, None, Result, Ok, Err, Bool, true, false, refl, sym, ap, ◌∙◌, subst, append_assoc}
use Rattle.std.specs.Prelude.{codes}
use Rattle.std.specs.List.{starts_with}
use Rattle.std.proofs.lemmas.List.{append-nil, length-append}
use Rattle.smt_lex.specs.Bytes.{is_symbol_byte}
use Rattle.smt_sexpr.specs.Tree.{Sexpr}
use Rattle.smt_sexpr.specs.Commands.{Ending, ended, stopped, unread}
use Rattle.smt_script.specs.declared.state.Effect.{Effect}
use Rattle.smt_script.specs.declared.state.Effect.TheVariants.{Ask, Exit, Tell}
use Rattle.smt_script.specs.declared.state.Question.{Question}
use Rattle.smt_script.specs.declared.state.Satisfiability.{Satisfiability}
use Rattle.smt_script.specs.declared.state.Satisfiability.TheVariants as verdict
use Rattle.smt_script.specs.declared.error.Refusal.{Refusal}
use Rattle.smt_script.specs.States.{State, Step, after}
use Rattle.smt_answer.specs.declared.kind.Kind.{Kind}
use Rattle.script_walk.specs.Questions.{refusal_of}
use Rattle.script_walk.specs.Course.{Place, start_with, Turn, Outcome, turn, ends, behind_told, behind_answer, asked, taken, by_effect, by_command, last_turn, course, status_of, with_answer, answers_of}
use Rattle.cert_text.specs.declared.entry.Version.TheVariants.{One}
use Rattle.cert_text.specs.declared.entry.Entry.{Entry}
use Rattle.cert_text.specs.declared.entry.Entry.TheVariants.{Sat, Unsat, Best, Unbounded}
use Rattle.cert_text.specs.Form.{header_sexpr, entry_sexpr, end_sexpr, line_of}
use Rattle.dtp_entry.specs.declared.report.Report.TheVariants.{Certificate}
use Rattle.dtp_entry.specs.Entries.{verdict_of}
use Rattle.dtp_entry.specs.Transcripts.{Output, piece_by, pieces, IsOutput, IsReport}
use Rattle.dtp_entry.proofs.Pieces.{pieces_are}
use Rattle.dtp_session.specs.Ends.{status_of as end_status}
use Rattle.dtp_session.specs.declared.session.Solved.{Solved}
use Rattle.dtp_session.specs.declared.session.Solved.TheVariants.{ScriptStopped}
use Rattle.dtp_check.specs.Answered.{IsAnswer, checked_of}
use Rattle.dtp_check.specs.Judged.{IsJudged}
use Rattle.dtp_check.specs.Laws.{OneJudgement}
use Rattle.dtp_check.specs.declared.check.Checked.{Checked}
use Rattle.dtp_check.specs.declared.check.Checked.TheVariants.{NotAccepted, Accepted as AcceptedAnswer}
use Rattle.dtp_check.specs.declared.judgement.Judgement.TheVariants.{Accepted}
use Rattle.bench_law.specs.Laws.{EndsWell}
use Rattle.dtp_bench.specs.code.Outcomes.{IsPair, HasVerdict}

-- ---- the lines of a certificate

abbrev entry_lines : List Entry → List ℕ
entry_lines [] = []
entry_lines (entry ∷ entries) = line_of (entry_sexpr entry) ++ entry_lines entries

-- what is written of the turns is the entries' lines and the end
abbrev IsWritten : List (Turn Entry) → Type 0
IsWritten turns = pieces (Certificate One) turns ≡ entry_lines (answers_of turns) ++ line_of end_sexpr

no_status : ◌≡◌ {A = Option ℕ} None (Some 0) → ⊥
no_status e = absurd cc

failed_status : ◌≡◌ {A = Option ℕ} (Some 1) (Some 0) → ⊥
failed_status e = absurd cc

written_end : (t : Turn Entry) → t.outcome ≡ ends → IsWritten (t ∷ [])
written_end t e =
    ap (λ (o : Outcome Entry). piece_by (Certificate One) t o ++ []) e ∙ append-nil (line_of end_sexpr)
    ∙ ap (λ (o : Outcome Entry). entry_lines (with_answer o []) ++ line_of end_sexpr) (sym e)

module _ (p : Place Entry) (x : Sexpr) (make : Place Entry → List (Turn Entry)) (rest : (q : Place Entry) → status_of (make q) ≡ Some 0 → IsWritten (make q)) where
  written_asked : (s : State) (question : Question) (left : List Entry) → status_of (asked verdict_of p s question x left make) ≡ Some 0 → IsWritten (asked verdict_of p s question x left make)
  written_asked s question [] over = absurd (no_status over)
  written_asked s question (entry ∷ left) over =
      let turns = make (behind_answer verdict_of p s entry left) in
      ap (λ (t : List ℕ). line_of (entry_sexpr entry) ++ t) (rest (behind_answer verdict_of p s entry left) over)
      ∙ sym (append_assoc (line_of (entry_sexpr entry)) (entry_lines (answers_of turns)) (line_of end_sexpr))

  written_taken : (s : State) (question : Question) (why : Option Kind) → status_of (taken verdict_of p s question x why make) ≡ Some 0 → IsWritten (taken verdict_of p s question x why make)
  written_taken s question (Some kind) over = absurd (failed_status over)
  written_taken s question None over = written_asked s question p.left over

  written_effect : (effect : Effect) (s : State) → status_of (by_effect verdict_of p s x effect make) ≡ Some 0 → IsWritten (by_effect verdict_of p s x effect make)
  written_effect (Tell notice) s over = rest (behind_told p s) over
  written_effect (Ask question) s over = written_taken s question (refusal_of question s x) over
  written_effect Exit s over = written_end (turn p s ends) refl

  written_by : (r : Result Step Refusal) → status_of (by_command verdict_of p x r make) ≡ Some 0 → IsWritten (by_command verdict_of p x r make)
  written_by (Ok step) over = written_effect step.effect step.state over
  written_by (Err why) over = absurd (failed_status over)

written_close : (p : Place Entry) (ending : Ending) → status_of (last_turn p ending) ≡ Some 0 → IsWritten (last_turn p ending)
written_close p ended over = written_end (turn p p.state ends) refl
written_close p (unread why) over = absurd (failed_status over)
written_close p stopped over = absurd (no_status over)

-- of a certificate that was written to its end
course_written : (xs : List Sexpr) (p : Place Entry) (ending : Ending) → status_of (course verdict_of p xs ending) ≡ Some 0 → IsWritten (course verdict_of p xs ending)
unfolding course
course_written [] p ending over = written_close p ending over
course_written (x ∷ xs) p ending over = written_by p x (λ next. course verdict_of next xs ending) (λ q left. course_written xs q ending left) (after p.state x) over

abbrev IsWrittenOf : List ℕ → List ℕ → List Entry → Type 0
IsWrittenOf script text found = IsOutput (Certificate One) script (record { text = text; found = found; status = 0 })

pub lines_are : (script text : List ℕ) (found : List Entry) → IsWrittenOf script text found → text ≡ line_of (header_sexpr One) ++ (entry_lines found ++ line_of end_sexpr)
lines_are script text found output =
    let w = output.are.are in
    let over : status_of (course verdict_of (start_with found) w.commands w.ending) ≡ Some 0 = ap (λ (ts : List (Turn Entry)). status_of ts) (sym w.are) ∙ output.over in
    let h : IsWritten output.turns = subst IsWritten (sym w.are) (course_written w.commands (start_with found) w.ending over) in
    output.text
    ∙ ap (λ (t : List ℕ). line_of (header_sexpr One) ++ t)
    (pieces_are (Certificate One) tt [] output.turns output.written output.writes ∙ h ∙ ap (λ (es : List Entry). entry_lines es ++ line_of end_sexpr) output.used)

-- ---- the first of them

abbrev is_unsat : Satisfiability → Bool
is_unsat verdict.Sat = false
is_unsat verdict.Unsat = true

begins : (entry : Entry) (rest : List ℕ) → starts_with (λ (a b : ℕ). a == b) ((line_of (entry_sexpr entry) ++ []) ++ rest) (codes "(unsat") ≡ is_unsat (verdict_of entry)
unfolding is_symbol_byte
begins (Sat values) rest = refl
begins (Unsat lemmas) rest = refl
begins (Best m values lemmas) rest = refl
begins (Unbounded values points) rest = refl

behind : (xs ys : List ℕ) → drop (length xs) (xs ++ ys) ≡ ys
behind [] ys = refl
behind (x ∷ xs) ys = behind xs ys

sat_by : (v : Satisfiability) → is_unsat v ≡ false → verdict.Sat ≡ v
sat_by verdict.Sat e = refl
sat_by verdict.Unsat e = absurd cc

unsat_by : (v : Satisfiability) → is_unsat v ≡ true → verdict.Unsat ≡ v
unsat_by verdict.Sat e = absurd cc
unsat_by verdict.Unsat e = refl

module _ (script text : List ℕ) (well : (out : Output) → IsOutput (Certificate One) script out → EndsWell out) (report : IsReport (Certificate One) script text 0) where
  -- the one entry
  one : EndsWell (record { text = text; found = report.0; status = 0 })
  one = well (record { text = text; found = report.0; status = 0 }) report.1

  decided : IsWrittenOf script text (one.found.0 ∷ [])
  decided = subst (λ (es : List Entry). IsWrittenOf script text es) one.found.1 report.1

  lines : text ≡ line_of (header_sexpr One) ++ (entry_lines (one.found.0 ∷ []) ++ line_of end_sexpr)
  lines = lines_are script text (one.found.0 ∷ []) decided

  pub header_within : (header : List ℕ) → header ≡ line_of (header_sexpr One) → length header ≤ length text
  header_within header is = omega (
    arith,
    ap length is,
    ap length lines,
    length-append (line_of (header_sexpr One)) (entry_lines (one.found.0 ∷ []) ++ line_of end_sexpr),
  )

  module _ (header line : List ℕ) (is : header ≡ line_of (header_sexpr One)) (there : line ≡ drop (length header) text) (b : Bool) (test : b ≡ starts_with (λ (a b : ℕ). a == b) line (codes "(unsat")) where
    line_is : line ≡ entry_lines (one.found.0 ∷ []) ++ line_of end_sexpr
    line_is =
        there ∙ ap (λ (h : List ℕ). drop (length h) text) is ∙ ap (λ (t : List ℕ). drop (length (line_of (header_sexpr One))) t) lines
        ∙ behind (line_of (header_sexpr One)) (entry_lines (one.found.0 ∷ []) ++ line_of end_sexpr)

    told : b ≡ is_unsat (verdict_of one.found.0)
    told = test ∙ ap (λ (l : List ℕ). starts_with (λ (a b : ℕ). a == b) l (codes "(unsat")) line_is ∙ begins one.found.0 (line_of end_sexpr)

    pub is_sat_there : b ≡ false → HasVerdict script text verdict.Sat
    is_sat_there e = (one.found.0, decided, sat_by (verdict_of one.found.0) (sym told ∙ e))

    pub is_unsat_there : b ≡ true → HasVerdict script text verdict.Unsat
    is_unsat_there e = (one.found.0, decided, unsat_by (verdict_of one.found.0) (sym told ∙ e))

-- ---- what doesn't come

not_stopped : (script text : List ℕ) → ((out : Output) → IsOutput (Certificate One) script out → EndsWell out) → IsReport (Certificate One) script text 1 → ⊥
not_stopped script text well report = absurd (omega (arith, (well (record { text = text; found = report.0; status = 1 }) report.1).status))

pub never_stopped : (script given text : List ℕ) (solved : Solved) → given ≡ script → solved ≡ ScriptStopped → ((out : Output) → IsOutput (Certificate One) script out → EndsWell out) → IsReport (Certificate One) given text (end_status solved) → ⊥
never_stopped script given text solved same is well report =
    not_stopped script text well
    (subst (λ (bytes : List ℕ). IsReport (Certificate One) bytes text 1) same (subst (λ (end : Solved). IsReport (Certificate One) given text (end_status end)) is report))

pub pair_accepted : (script pair : List ℕ) → IsPair script pair → ((certificate : List ℕ) (status : ℕ) → IsReport (Certificate One) script certificate status → IsJudged (script ++ certificate) Accepted) → IsJudged pair Accepted
pair_accepted script pair (certificate, is, report) law = subst (λ (bytes : List ℕ). IsJudged bytes Accepted) (sym is) (law certificate 0 report)

pub never_refused : OneJudgement → (bytes line : List ℕ) (checked : Checked) → IsJudged bytes Accepted → IsAnswer bytes line checked → checked ≡ NotAccepted → ⊥
never_refused one bytes line checked accepted (judgement, judged, text, is) e =
    let same : judgement ≡ Accepted = one bytes judgement Accepted judged accepted in
    let other : NotAccepted ≡ AcceptedAnswer = sym e ∙ is ∙ ap checked_of same in
    absurd cc
