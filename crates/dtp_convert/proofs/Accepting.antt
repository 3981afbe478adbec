-- A script with what it was converted to is accepted.
use Rattle.std.proofs.Common.{refl, sym, ap, subst, arith, ◌∙◌, ◌≡◌, ◌≢◌, ◌+◌, ◌≤◌, ℕ, List, [], ◌∷◌, ◌++◌, length, drop, Bool, true, false, Option, Some, None, Result, Ok, Err}
use Rattle.smt_sexpr.specs.Tree.{Sexpr, list}
use Rattle.smt_sexpr.specs.Laws.{OneOutcome, ListIsWithin}
use Rattle.smt_sexpr.specs.Reading.{Spells}
use Rattle.smt_sexpr.specs.Commands.{Commands, ended}
use Rattle.cert_read.specs.Written.{IsClosedGap}
use Rattle.cert_text.specs.declared.entry.Version.TheVariants.{One}
use Rattle.cert_text.specs.declared.entry.Entry.{Entry}
use Rattle.cert_text.specs.Laws.{OneHeader}
use Rattle.smt_script.specs.declared.error.Refusal.{Refusal}
use Rattle.smt_script.specs.declared.state.Effect.{Effect}
use Rattle.smt_script.specs.declared.state.Effect.TheVariants.{Ask, Exit, Tell}
use Rattle.smt_script.specs.declared.state.Question.{Question}
use Rattle.smt_script.specs.Commands.{is_exit}
use Rattle.smt_script.specs.Laws.{OnlyExitEnds}
use Rattle.smt_script.specs.States.{State, Step, after}
use Rattle.smt_answer.specs.declared.kind.Kind.{Kind}
use Rattle.script_walk.specs.Questions.{refusal_of}
use Rattle.script_walk.specs.Course.{Place, start_with, Turn, behind_told, behind_answer, asked, taken, by_effect, by_command, course, status_of}
use Rattle.dtp_entry.specs.declared.report.Report.TheVariants.{Certificate}
use Rattle.dtp_entry.specs.Entries.{verdict_of}
use Rattle.dtp_entry.specs.Transcripts.{pieces, IsReport}
use Rattle.dtp_entry.proofs.Pieces.{are_pieces}
use Rattle.dtp_check.specs.Judged.{FollowsExit}
use Rattle.dtp_check.specs.Laws.{CertifiedIsAccepted}
use Rattle.dtp_check.specs.Whole.{IsWholeFrom}
use Rattle.dtp_check.proofs.Accepting.{carried_list, closed_ends}
use Rattle.dtp_check.proofs.Judging.{step_of}
use Rattle.dtp_check.proofs.Reading.{same_part}
use Rattle.dtp_convert.specs.Converted.{IsConverted}
use Rattle.dtp_convert.specs.Laws.{ConvertedIsAccepted}
use Rattle.dtp_convert.specs.Turns.{turns_of}

-- ---- the commands are the script's

record IsRead (script : List ℕ) (place : ℕ) (xs : List Sexpr) : Type 0 where
  here : ℕ
  reads : Commands script place xs here
  within : here ≤ length script
  closed : IsClosedGap (drop here script)

no_status : ◌≡◌ {A = Option ℕ} None (Some 0) → ⊥
no_status e = absurd cc

failed_status : ◌≡◌ {A = Option ℕ} (Some 1) (Some 0) → ⊥
failed_status e = absurd cc

module _ (inside : ListIsWithin) (only : OnlyExitEnds) (script : List ℕ) where
  module _ (place mid : ℕ) (p : Place Entry) (x : Sexpr) (xs : List Sexpr) (spells : Spells script place x mid) where
    read_more : IsRead script mid xs → IsRead script place (x ∷ xs)
    read_more h = record { here = h.here; reads = (mid, spells, h.reads); within = h.within; closed = h.closed }

    command_within : (step : Step) → after p.state x ≡ Ok step → mid ≤ length script
    command_within step e =
        let l = carried_list p.state x step e in
        inside script place mid l.0 (subst (λ (z : Sexpr). Spells script place z mid) l.1 spells)

    read_end : xs ≡ [] → mid ≤ length script → IsClosedGap (drop mid script) → IsRead script mid xs
    read_end e le closed = record { here = mid; reads = subst (λ (ys : List Sexpr). Commands script mid ys mid) (sym e) refl; within = le; closed = closed }

    read_behind : (exits : Bool) → mid ≤ length script → FollowsExit exits ((xs ≡ []) × IsClosedGap (drop mid script)) (IsWholeFrom script mid xs)
        → (IsWholeFrom script mid xs → IsRead script mid xs) → IsRead script mid xs
    read_behind true le h rest = read_end h.0 le h.1
    read_behind false le h rest = rest h

    module _ (is : FollowsExit (is_exit x) ((xs ≡ []) × IsClosedGap (drop mid script)) (IsWholeFrom script mid xs)) (make : Place Entry → List (Turn Entry))
        (rest : (q : Place Entry) → status_of (make q) ≡ Some 0 → mid ≤ length script → IsWholeFrom script mid xs → IsRead script mid xs) where
      read_next : (step : Step) → after p.state x ≡ Ok step → (q : Place Entry) → status_of (make q) ≡ Some 0 → IsRead script place (x ∷ xs)
      read_next step e q over =
          let le = command_within step e in
          read_more (read_behind (is_exit x) le is (λ whole. rest q over le whole))

      read_asked : (s : State) (question : Question) → after p.state x ≡ Ok (step_of s (Ask question)) → (left : List Entry) → status_of (asked verdict_of p s question x left make) ≡ Some 0 → IsRead script place (x ∷ xs)
      read_asked s question e [] over = absurd (no_status over)
      read_asked s question e (entry ∷ left) over = read_next (step_of s (Ask question)) e (behind_answer verdict_of p s entry left) over

      read_taken : (s : State) (question : Question) → after p.state x ≡ Ok (step_of s (Ask question)) → (why : Option Kind) → status_of (taken verdict_of p s question x why make) ≡ Some 0 → IsRead script place (x ∷ xs)
      read_taken s question e (Some kind) over = absurd (failed_status over)
      read_taken s question e None over = read_asked s question e p.left over

      read_effect : (effect : Effect) (s : State) → after p.state x ≡ Ok (step_of s effect) → status_of (by_effect verdict_of p s x effect make) ≡ Some 0 → IsRead script place (x ∷ xs)
      read_effect (Tell notice) s e over = read_next (step_of s (Tell notice)) e (behind_told p s) over
      read_effect (Ask question) s e over = read_taken s question e (refusal_of question s x) over
      read_effect Exit s e over =
          let step = step_of s Exit in
          let w : (xs ≡ []) × IsClosedGap (drop mid script) = subst (λ (b : Bool). FollowsExit b ((xs ≡ []) × IsClosedGap (drop mid script)) (IsWholeFrom script mid xs)) ((only p.state x step e).0 refl) is in
          read_more (read_end w.0 (command_within step e) w.1)

      read_by : (r : Result Step Refusal) → after p.state x ≡ r → status_of (by_command verdict_of p x r make) ≡ Some 0 → IsRead script place (x ∷ xs)
      read_by (Err why) e over = absurd (failed_status over)
      read_by (Ok step) e over = read_effect step.effect step.state e over

  read : (place : ℕ) (xs : List Sexpr) (p : Place Entry) → status_of (course verdict_of p xs ended) ≡ Some 0 → place ≤ length script → IsWholeFrom script place xs → IsRead script place xs
  unfolding course
  read place [] p over le whole = record { here = place; reads = refl; within = le; closed = whole }
  read place (x ∷ xs) p over le (mid, spells, follows) =
      read_by place mid p x xs spells follows (λ q. course verdict_of q xs ended) (λ q left there whole. read mid xs q left there whole) (after p.state x) refl over

pub accepted : OneOutcome → OneHeader → ListIsWithin → OnlyExitEnds → CertifiedIsAccepted → ConvertedIsAccepted
accepted one headers inside only law source script text h is =
    let found = h.entries in
    let same = same_part one headers source 0 is.commands h.commands is.end h.end is.behind h.behind is.part h.script in
    let whole : IsWholeFrom script 0 h.commands = subst (IsWholeFrom script 0) same.commands is.whole in
    let r = read inside only script 0 h.commands (start_with found) h.decide.over (omega arith) whole in
    let report : IsReport (Certificate One) script text 0 = (
      found,
      record {
        turns = turns_of h.commands found;
        are = record {
          are = record { commands = h.commands; behind = r.here; ending = ended; reads = r.reads; ends = (length script, closed_ends script r.here r.within r.closed); are = refl };
          legal = h.decide.fit;
        };
        over = h.decide.over;
        used = h.decide.used;
        written = pieces (Certificate One) (turns_of h.commands found);
        writes = are_pieces (Certificate One) tt [] (turns_of h.commands found);
        text = h.is;
      },
    ) in
    law One script text report (h.commands, whole)
