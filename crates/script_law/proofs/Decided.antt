-- The one question of a script is decided.
use Rattle.std.proofs.Common.{◌≡◌, ◌∙◌, refl, sym, subst, ℕ, List, [], ◌∷◌, ◌++◌, Option, Some, None}
use Rattle.std.specs.List.{AllByRecursion}
use Rattle.smt_sexpr.specs.Tree.{Sexpr}
use Rattle.smt_sexpr.specs.Laws.{OneOutcome, SexprReadsBack}
use Rattle.cert_text.specs.declared.entry.Entry.{Entry}
use Rattle.smt_script.specs.declared.state.Question.{Question}
use Rattle.smt_script.specs.States.{State, start_state}
use Rattle.script_walk.specs.Course.{start_with, Turn, turn, answers, last_of, status_at, status_of}
use Rattle.dtp_entry.specs.declared.report.Report.{Report}
use Rattle.dtp_entry.specs.Entries.{verdict_of}
use Rattle.dtp_entry.specs.Reports.{version_of}
use Rattle.dtp_entry.specs.Transcripts.{Output, IsOutput, IsLegal, Decides}
use Rattle.script_law.specs.Laws.{IsDecided, OneQuestionIsDecided}
use Rattle.script_law.specs.Told.{AsksOnce}
use Rattle.script_law.proofs.Leading.{leads_of}
use Rattle.script_law.proofs.Lists.{all_back}
use Rattle.script_law.proofs.Reading.{script_back}
use Rattle.script_law.proofs.Ending.{IsOver, IsAnswered, ends_asked, ends_answered}

none_apart : (n : ℕ) → ◌≡◌ {A = Option ℕ} None (Some n) → ⊥
none_apart n e = absurd cc

same_status : (n m : ℕ) → ◌≡◌ {A = Option ℕ} (Some n) (Some m) → n ≡ m
same_status n m e = cc

-- a status is that of a last turn
over_by : (last : Option (Turn Entry)) (n : ℕ) → status_at last ≡ Some n → (t : Turn Entry) × (last ≡ Some t)
over_by None n e = absurd cc
over_by (Some t) n e = (t, refl)

some_status : (turns : List (Turn Entry)) (n : ℕ) → status_of turns ≡ Some n → IsOver verdict_of turns
some_status turns n e = over_by (last_of turns) n e

no_answer : (turns : List (Turn Entry)) (n : ℕ) → status_of turns ≡ Some n → status_of turns ≡ None → ⊥
no_answer turns n e f = let z : ◌≡◌ {A = Option ℕ} None (Some n) = sym f ∙ e in absurd (none_apart n z)

module _ (back : SexprReadsBack) (one : OneOutcome) (script : List ℕ) (done : List Sexpr) (ask : Sexpr) (question : Question) (t : State) (once : AsksOnce script done ask question t)
    (report : Report) (out : Output) (h : IsOutput report script out) where
  decides : (a : Entry) → IsAnswered verdict_of ask question t once.asks once.taken a h.turns → Decides (version_of report) question ask t.context a
  decides a w =
      let each : AllByRecursion (IsLegal report) (w.front ++ (turn w.q w.q.state (answers question ask a) ∷ w.behind)) = subst (AllByRecursion (IsLegal report)) w.among h.are.legal in
      let legal : AllByRecursion (IsLegal report) (turn w.q w.q.state (answers question ask a) ∷ w.behind) =
      all_back (IsLegal report) w.front (turn w.q w.q.state (answers question ask a) ∷ w.behind) each in
      subst (λ (s : State). Decides (version_of report) question ask s.context a) w.state legal.0

  -- by whether an entry is given
  decided_by : (found : List Entry) → out.found ≡ found → IsDecided report ask question t.context out
  decided_by [] e =
      let mine = script_back back script done ask once.text once.lines in
      let last = ends_asked verdict_of ask question t once.asks once.taken one script done mine.here (start_with out.found) (leads_of done start_state t once.tells) mine.reads h.turns h.are.are (some_status h.turns out.status h.over) e in
      absurd (no_answer h.turns out.status h.over last.3)
  decided_by (a ∷ left) e =
      let mine = script_back back script done ask once.text once.lines in
      let w = ends_answered verdict_of ask question t once.asks once.taken one script done mine.here (start_with out.found) (leads_of done start_state t once.tells) mine.reads h.turns h.are.are (some_status h.turns out.status h.over) a left e in
      record { status = same_status out.status 0 (sym h.over ∙ w.status); entry = a; found = sym h.used ∙ w.used; decides = decides a w }

pub decided : SexprReadsBack → OneOutcome → OneQuestionIsDecided
decided back one script done ask question t once report out h = decided_by back one script done ask question t once report out h out.found refl
