-- A script that asks once is accepted with what is written of it as its certificate.
use Rattle.std.proofs.Common.{◌≡◌, refl, sym, subst, ℕ, Bool, true, false, List, [], ◌∷◌, ◌++◌, drop}
use Rattle.smt_lex.specs.Bytes.{is_space}
use Rattle.smt_lex.specs.Grammar.{is_gap}
use Rattle.smt_sexpr.specs.Tree.{Sexpr}
use Rattle.smt_sexpr.specs.Commands.{Commands}
use Rattle.smt_sexpr.specs.Laws.{OneOutcome, SexprReadsBack}
use Rattle.cert_read.specs.Written.{IsClosedGap}
use Rattle.smt_script.specs.Commands.{command_of, naming_command, changing_command, asking_command, is_exit}
use Rattle.smt_script.specs.Laws.{OnlyExitEnds}
use Rattle.smt_script.specs.States.{State, start_state}
use Rattle.smt_script.specs.declared.state.Effect.TheVariants.{Ask, Tell}
use Rattle.dtp_entry.specs.declared.report.Report.TheVariants.{Certificate}
use Rattle.dtp_entry.specs.Transcripts.{IsReport}
use Rattle.dtp_check.specs.Judged.{FollowsExit}
use Rattle.dtp_check.specs.Laws.{CertifiedIsAccepted}
use Rattle.dtp_check.specs.Whole.{IsWhole, IsWholeFrom}
use Rattle.dtp_check.proofs.Judging.{not_exit, told_apart, ask_apart}
use Rattle.job_shop.specs.Scripts.{exit}
use Rattle.script_law.specs.Laws.{CertificateIsAccepted}
use Rattle.script_law.specs.Told.{step_of}
use Rattle.script_law.proofs.Leading.{Leads, leads_of}
use Rattle.script_law.proofs.Reading.{script_back}
use Rattle.script_law.proofs.Decided.{decided}

exit_ends : is_exit exit ≡ true
unfolding command_of naming_command changing_command asking_command
exit_ends = refl

line_feed : IsClosedGap (10 ∷ [])
unfolding is_gap is_space
line_feed rest = refl

module _ (bytes : List ℕ) where
  -- behind a command that is no `(exit)`, and behind `(exit)`
  goes_on : (x : Sexpr) (mid : ℕ) (xs : List Sexpr) → is_exit x ≡ false → IsWholeFrom bytes mid xs → FollowsExit (is_exit x) ((xs ≡ []) × IsClosedGap (drop mid bytes)) (IsWholeFrom bytes mid xs)
  goes_on x mid xs e h = subst (λ (b : Bool). FollowsExit b ((xs ≡ []) × IsClosedGap (drop mid bytes)) (IsWholeFrom bytes mid xs)) (sym e) h

  ends : (x : Sexpr) (mid : ℕ) (xs : List Sexpr) → is_exit x ≡ true → xs ≡ [] → IsClosedGap (drop mid bytes) → FollowsExit (is_exit x) ((xs ≡ []) × IsClosedGap (drop mid bytes)) (IsWholeFrom bytes mid xs)
  ends x mid xs e over h = subst (λ (b : Bool). FollowsExit b ((xs ≡ []) × IsClosedGap (drop mid bytes)) (IsWholeFrom bytes mid xs)) (sym e) (over, h)

  module _ (only : OnlyExitEnds) (here : ℕ) (closed : IsClosedGap (drop here bytes)) (ask : Sexpr) (asks_on : is_exit ask ≡ false) where
    whole_end : (place : ℕ) → Commands bytes place (ask ∷ exit ∷ []) here → IsWholeFrom bytes place (ask ∷ exit ∷ [])
    whole_end place (mid, asked, (later, exits, at)) =
        let there : IsClosedGap (drop later bytes) = subst (λ (k : ℕ). IsClosedGap (drop k bytes)) (sym at) closed in
        (mid, asked, goes_on ask mid (exit ∷ []) asks_on (later, exits, ends exit later [] exit_ends refl there))

    whole : (done : List Sexpr) (s t : State) → Leads s done t → (place : ℕ) → Commands bytes place (done ++ (ask ∷ exit ∷ [])) here → IsWholeFrom bytes place (done ++ (ask ∷ exit ∷ []))
    whole [] s t tells place reads = whole_end place reads
    whole (x ∷ done) s t (next, notice, e, tells) place (mid, spells, reads) =
        (mid, spells, goes_on x mid (done ++ (ask ∷ exit ∷ [])) (not_exit only s x (step_of next (Tell notice)) e (told_apart notice)) (whole done next t tells mid reads))

pub accepted : SexprReadsBack → OneOutcome → OnlyExitEnds → CertifiedIsAccepted → CertificateIsAccepted
accepted back one only law script done ask question t once version certificate status (found, output) =
    let mine = script_back back script done ask once.text once.lines in
    let closed : IsClosedGap (drop mine.here script) = subst IsClosedGap (sym mine.left) line_feed in
    let on : is_exit ask ≡ false = not_exit only t ask (step_of t (Ask question)) once.asks (ask_apart question) in
    let is_whole : IsWhole script = (done ++ (ask ∷ exit ∷ []), whole script only mine.here closed ask on done start_state t (leads_of done start_state t once.tells) 0 mine.reads) in
    let well = decided back one script done ask question t once (Certificate version) (record { text = certificate; found = found; status = status }) output in
    let report : IsReport (Certificate version) script certificate 0 = subst (λ (n : ℕ). IsReport (Certificate version) script certificate n) well.status (found, output) in
    law version script certificate report is_whole
