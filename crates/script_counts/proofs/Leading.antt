-- Where a walk without answers leads.
use Rattle.std.proofs.Common.{arith, refl, subst, ◌≡◌, ◌∙◌, ℕ, List, [], ◌∷◌, Option, Some, None}
use Rattle.smt_script.specs.declared.state.Notice.{Notice}
use Rattle.smt_script.specs.declared.state.Question.{Question}
use Rattle.smt_script.specs.declared.state.Satisfiability.{Satisfiability}
use Rattle.smt_script.specs.States.{start_state}
use Rattle.smt_answer.specs.declared.kind.Kind.{Kind}
use Rattle.script_walk.specs.Questions.{refusal_of}
use Rattle.script_walk.specs.Course.{start_with, tells, asks, ends, fails, turn, behind_told, IsCourseOf}
use Rattle.script_walk.specs.code.Events.{IsStart, IsReady, IsEvent, IsNextEvent}
use Rattle.script_walk.specs.declared.walk.Event.TheVariants.{Told, Asked, Ended, Failed}
use Rattle.script_walk.specs.declared.walk.Walk.{Walk}
use Rattle.script_walk.proofs.Turns.{told_from, unanswered_from, barred_from, ends_with, fails_with}
use Rattle.script_counts.specs.Counting.{IsLast}
use Rattle.script_counts.specs.code.Walking.{IsSoFar, IsBetween, Leads}

abbrev says : Satisfiability → Satisfiability
says verdict = verdict

pub ready_at_start : (w : Walk) → IsStart w → IsReady w
ready_at_start w start =
    let place = start.place in
    let number = start.number in
    record {
      fresh = start.fresh;
      same = start.same;
      within = omega (arith, place);
      counted = omega (arith, place, number);
      few = start.few;
      stands = (start_state, start.stands);
    }

pub so_far_starts : (w : Walk) → IsStart w → IsSoFar w.lexer.bytes w
so_far_starts w start = record {
  here = start_with [];
  none = refl;
  stands = start.stands;
  leads = λ turns are last e. record {
    turns = turns;
    are = subst (λ (n : ℕ). IsCourseOf says w.lexer.bytes n (start_with []) turns) start.place are;
    is_last = e;
  };
}

module _ (script : List ℕ) (v w : Walk) (h : IsSoFar script v) where
  pub so_far_goes : (id : ℕ) (notice : Notice) → IsEvent v w h.here.state (Told id notice) → w.lexer.bytes ≡ v.lexer.bytes → IsSoFar script w
  so_far_goes id notice event bytes =
      let to = event.carries.1 in record {
        here = behind_told h.here to.next;
        none = h.none;
        stands = to.stands;
        leads = λ turns are last e. h.leads (turn h.here to.next (tells event.x notice) ∷ turns)
            (told_from says v.lexer.bytes v.lexer.place w.lexer.place h.here event.x event.spells to.next notice to.leads turns
            (subst (λ (b : List ℕ). IsCourseOf says b w.lexer.place (behind_told h.here to.next) turns) bytes are)) last e;
      }

  -- the state is the same whether the question is refused or not
  asked_last : (id : ℕ) (question : Question) (event : IsEvent v w h.here.state (Asked id question)) (found : Option Kind)
      → refusal_of question event.carries.1.next event.x ≡ found → IsLast script event.carries.1.next
  asked_last id question event None e =
      let to = event.carries.1 in
      h.leads (turn h.here to.next (asks question event.x) ∷ [])
      (unanswered_from says v.lexer.bytes v.lexer.place w.lexer.place h.here event.x event.spells to.next question to.leads e h.none)
      to.next refl
  asked_last id question event (Some kind) e =
      let to = event.carries.1 in
      h.leads (turn h.here to.next (fails kind) ∷ [])
      (barred_from says v.lexer.bytes v.lexer.place w.lexer.place h.here event.x event.spells to.next question kind to.leads e)
      to.next refl

  pub asked_leads : (id : ℕ) (question : Question) → IsEvent v w h.here.state (Asked id question) → Leads script w
  asked_leads id question event =
      let to = event.carries.1 in record {
        last = to.next;
        stands = to.stands;
        is = asked_last id question event (refusal_of question to.next event.x) refl;
      }

  pub ended_leads : IsEvent v w h.here.state Ended → Leads script w
  ended_leads event =
      let end = ends_with says v w h.here h.stands event in
      record { last = end.last; stands = end.stands; is = h.leads (turn h.here end.last ends ∷ []) end.is end.last refl }

  pub failed_leads : (kind : Kind) → IsEvent v w h.here.state (Failed kind) → Leads script w
  failed_leads kind event =
      let end = fails_with says v w h.here h.stands kind event in
      record { last = end.last; stands = end.stands; is = h.leads (turn h.here end.last (fails kind) ∷ []) end.is end.last refl }

-- ---- between two events

pub between_at_start : (w : Walk) → IsStart w → IsBetween w w
between_at_start w start = record { ready = ready_at_start w start; bytes = refl; so_far = so_far_starts w start }

module _ (first v w : Walk) (h : IsBetween first v) where
  pub told_between : (id : ℕ) (notice : Notice) → IsNextEvent v w (Told id notice) → IsBetween first w
  told_between id notice next = record {
    ready = next.ready tt;
    bytes = next.bytes ∙ h.bytes;
    so_far = so_far_goes first.lexer.bytes v w h.so_far id notice (next.is h.so_far.here.state h.so_far.stands) next.bytes;
  }

  pub asked_between : (id : ℕ) (question : Question) → IsNextEvent v w (Asked id question) → Leads first.lexer.bytes w
  asked_between id question next = asked_leads first.lexer.bytes v w h.so_far id question (next.is h.so_far.here.state h.so_far.stands)

  pub ended_between : IsNextEvent v w Ended → Leads first.lexer.bytes w
  ended_between next = ended_leads first.lexer.bytes v w h.so_far (next.is h.so_far.here.state h.so_far.stands)

  pub failed_between : (kind : Kind) → IsNextEvent v w (Failed kind) → Leads first.lexer.bytes w
  failed_between kind next = failed_leads first.lexer.bytes v w h.so_far kind (next.is h.so_far.here.state h.so_far.stands)
