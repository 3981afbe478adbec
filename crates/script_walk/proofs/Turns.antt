-- The first turn of a course, and the course of a text from what stands next in it.
use Rattle.std.proofs.Common.{refl, sym, ap, subst, inl, inr, ◌≡◌, ◌∙◌, ℕ, List, [], ◌∷◌, Option, Some, None, Result, Ok, Err}
use Rattle.smt_sexpr.specs.Tree.{Sexpr}
use Rattle.smt_sexpr.specs.Reading.{Spells, Outcomes, finished, refused}
use Rattle.smt_sexpr.specs.Commands.{Ending, ended, stopped, unread}
use Rattle.smt_sexpr.specs.declared.error.SexprRefusal.{SexprRefusal}
use Rattle.smt_script.specs.declared.state.Effect.{Effect}
use Rattle.smt_script.specs.declared.state.Effect.TheVariants.{Ask, Exit, Tell}
use Rattle.smt_script.specs.declared.state.Notice.{Notice}
use Rattle.smt_script.specs.declared.state.Question.{Question}
use Rattle.smt_script.specs.declared.state.Satisfiability.{Satisfiability}
use Rattle.smt_script.specs.declared.error.Refusal.{Refusal}
use Rattle.smt_script.specs.States.{State, Step, after}
use Rattle.smt_answer.specs.declared.kind.Kind.{Kind}
use Rattle.smt_answer.specs.Kinds.{kind_of, kind_of_unreadable}
use Rattle.script_walk.specs.Questions.{refusal_of}
use Rattle.script_walk.specs.Course.{Place, Turn, Outcome, tells, answers, asks, ends, fails, turn, behind_told, behind_answer, asked, taken, by_command, course, IsCourseOf}
use Rattle.script_walk.specs.code.Standing.{Stands}
use Rattle.script_walk.specs.code.Events.{IsEvent}
use Rattle.script_walk.specs.declared.walk.Event.TheVariants.{Ended, Failed}
use Rattle.script_walk.specs.declared.walk.Walk.{Walk}

pub step_of : State → Effect → Step
step_of next effect = record { state = next; effect = effect }

-- ---- the first turn, by the first command

module _ {A : Type 0} (says : A → Satisfiability) (p : Place A) (x : Sexpr) where
  by_after : (r : Result Step Refusal) → after p.state x ≡ r → (xs : List Sexpr) (ending : Ending)
      → course says p (x ∷ xs) ending ≡ by_command says p x r (λ next. course says next xs ending)
  unfolding course
  by_after r e xs ending = ap (λ (q : Result Step Refusal). by_command says p x q (λ next. course says next xs ending)) e

  pub told_turn : (next : State) (notice : Notice) → after p.state x ≡ Ok (record { state = next; effect = Tell notice })
      → (xs : List Sexpr) (ending : Ending)
      → course says p (x ∷ xs) ending ≡ turn p next (tells x notice) ∷ course says (behind_told p next) xs ending
  told_turn next notice e xs ending = by_after (Ok (record { state = next; effect = Tell notice })) e xs ending

  -- a question that is refused
  pub barred_turn : (next : State) (question : Question) (kind : Kind) → after p.state x ≡ Ok (record { state = next; effect = Ask question })
      → refusal_of question next x ≡ Some kind → (xs : List Sexpr) (ending : Ending)
      → course says p (x ∷ xs) ending ≡ turn p next (fails kind) ∷ []
  barred_turn next question kind e barred xs ending =
      by_after (Ok (record { state = next; effect = Ask question })) e xs ending
      ∙ ap (λ (r : Option Kind). taken says p next question x r (λ now. course says now xs ending)) barred

  asked_turn : (next : State) (question : Question) → after p.state x ≡ Ok (record { state = next; effect = Ask question })
      → refusal_of question next x ≡ None → (xs : List Sexpr) (ending : Ending)
      → course says p (x ∷ xs) ending ≡ asked says p next question x p.left (λ now. course says now xs ending)
  asked_turn next question e none xs ending =
      by_after (Ok (record { state = next; effect = Ask question })) e xs ending
      ∙ ap (λ (r : Option Kind). taken says p next question x r (λ now. course says now xs ending)) none

  pub answered_turn : (next : State) (question : Question) (a : A) (left : List A)
      → after p.state x ≡ Ok (record { state = next; effect = Ask question })
      → refusal_of question next x ≡ None → p.left ≡ a ∷ left → (xs : List Sexpr) (ending : Ending)
      → course says p (x ∷ xs) ending ≡ turn p next (answers question x a) ∷ course says (behind_answer says p next a left) xs ending
  answered_turn next question a left e none more xs ending =
      asked_turn next question e none xs ending
      ∙ ap (λ (l : List A). asked says p next question x l (λ now. course says now xs ending)) more

  pub unanswered_turn : (next : State) (question : Question)
      → after p.state x ≡ Ok (record { state = next; effect = Ask question })
      → refusal_of question next x ≡ None → p.left ≡ [] → (xs : List Sexpr) (ending : Ending)
      → course says p (x ∷ xs) ending ≡ turn p next (asks question x) ∷ []
  unanswered_turn next question e none nothing xs ending =
      asked_turn next question e none xs ending
      ∙ ap (λ (l : List A). asked says p next question x l (λ now. course says now xs ending)) nothing

  pub exit_turn : (next : State) → after p.state x ≡ Ok (record { state = next; effect = Exit })
      → (xs : List Sexpr) (ending : Ending) → course says p (x ∷ xs) ending ≡ turn p next ends ∷ []
  exit_turn next e xs ending = by_after (Ok (record { state = next; effect = Exit })) e xs ending

  pub refused_turn : (why : Refusal) → after p.state x ≡ Err why
      → (xs : List Sexpr) (ending : Ending) → course says p (x ∷ xs) ending ≡ turn p p.state (fails (kind_of why)) ∷ []
  refused_turn why e xs ending = by_after (Err why) e xs ending

-- ---- the course of a text, by what stands next in it

module _ {A : Type 0} (says : A → Satisfiability) (bytes : List ℕ) (here : ℕ) (p : Place A) where
  pub stopped_from : IsCourseOf says bytes here p []
  unfolding course
  stopped_from = record { commands = []; behind = here; ending = stopped; reads = refl; ends = tt; are = refl }

  pub end_from : (behind : ℕ) → Outcomes bytes here finished behind → IsCourseOf says bytes here p (turn p p.state ends ∷ [])
  unfolding course
  end_from behind h = record { commands = []; behind = here; ending = ended; reads = refl; ends = (behind, h); are = refl }

  pub unread_from : (behind : ℕ) (why : SexprRefusal) → Outcomes bytes here (refused why) behind
      → IsCourseOf says bytes here p (turn p p.state (fails (kind_of_unreadable why)) ∷ [])
  unfolding course
  unread_from behind why h = record { commands = []; behind = here; ending = unread why; reads = refl; ends = (behind, h); are = refl }

module _ {A : Type 0} (says : A → Satisfiability) (bytes : List ℕ) (here mid : ℕ) (p : Place A) (x : Sexpr) (spells : Spells bytes here x mid) where
  last_from : (t : Turn A) → course says p (x ∷ []) stopped ≡ t ∷ [] → IsCourseOf says bytes here p (t ∷ [])
  last_from t e = record { commands = x ∷ []; behind = mid; ending = stopped; reads = (mid, spells, refl); ends = tt; are = sym e }

  more_from : (t : Turn A) (now : Place A)
      → ((xs : List Sexpr) (ending : Ending) → course says p (x ∷ xs) ending ≡ t ∷ course says now xs ending)
      → (turns : List (Turn A)) → IsCourseOf says bytes mid now turns → IsCourseOf says bytes here p (t ∷ turns)
  more_from t now on turns h = record {
    commands = x ∷ h.commands;
    behind = h.behind;
    ending = h.ending;
    reads = (mid, spells, h.reads);
    ends = h.ends;
    are = ap (λ (ts : List (Turn A)). t ∷ ts) h.are ∙ sym (on h.commands h.ending);
  }

  pub told_from : (next : State) (notice : Notice) → after p.state x ≡ Ok (record { state = next; effect = Tell notice })
      → (turns : List (Turn A)) → IsCourseOf says bytes mid (behind_told p next) turns
      → IsCourseOf says bytes here p (turn p next (tells x notice) ∷ turns)
  told_from next notice e turns h = more_from (turn p next (tells x notice)) (behind_told p next) (told_turn says p x next notice e) turns h

  pub answered_from : (next : State) (question : Question) (a : A) (left : List A)
      → after p.state x ≡ Ok (record { state = next; effect = Ask question })
      → refusal_of question next x ≡ None → p.left ≡ a ∷ left
      → (turns : List (Turn A)) → IsCourseOf says bytes mid (behind_answer says p next a left) turns
      → IsCourseOf says bytes here p (turn p next (answers question x a) ∷ turns)
  answered_from next question a left e none more turns h =
      more_from (turn p next (answers question x a)) (behind_answer says p next a left) (answered_turn says p x next question a left e none more) turns h

  pub unanswered_from : (next : State) (question : Question)
      → after p.state x ≡ Ok (record { state = next; effect = Ask question })
      → refusal_of question next x ≡ None → p.left ≡ []
      → IsCourseOf says bytes here p (turn p next (asks question x) ∷ [])
  unanswered_from next question e none nothing = last_from (turn p next (asks question x)) (unanswered_turn says p x next question e none nothing [] stopped)

  pub barred_from : (next : State) (question : Question) (kind : Kind)
      → after p.state x ≡ Ok (record { state = next; effect = Ask question })
      → refusal_of question next x ≡ Some kind
      → IsCourseOf says bytes here p (turn p next (fails kind) ∷ [])
  barred_from next question kind e barred = last_from (turn p next (fails kind)) (barred_turn says p x next question kind e barred [] stopped)

  pub exit_from : (next : State) → after p.state x ≡ Ok (record { state = next; effect = Exit })
      → IsCourseOf says bytes here p (turn p next ends ∷ [])
  exit_from next e = last_from (turn p next ends) (exit_turn says p x next e [] stopped)

  pub refused_from : (why : Refusal) → after p.state x ≡ Err why
      → IsCourseOf says bytes here p (turn p p.state (fails (kind_of why)) ∷ [])
  refused_from why e = last_from (turn p p.state (fails (kind_of why))) (refused_turn says p x why e [] stopped)

-- ---- the course of a text, by the next event of a walk

-- the course from here on is one turn
pub record IsLast {A : Type 0} (says : A → Satisfiability) (v w : Walk) (p : Place A) (outcome : Outcome A) : Type 0 where
  pub last : State
  pub stands : Stands w.state last
  pub number : w.number ≡ v.number
  pub is : IsCourseOf says v.lexer.bytes v.lexer.place p (turn p last outcome ∷ [])

module _ {A : Type 0} (says : A → Satisfiability) (v w : Walk) (p : Place A) (stands : Stands v.state p.state) where
  pub ends_with : IsEvent v w p.state Ended → IsLast says v w p ends
  ends_with (inl h) = record {
    last = h.carries.0.next;
    stands = h.carries.0.stands;
    number = h.carries.1;
    is = exit_from says v.lexer.bytes v.lexer.place w.lexer.place p h.x h.spells h.carries.0.next h.carries.0.leads;
  }
  ends_with (inr h) = record {
    last = p.state;
    stands = subst (λ kept. Stands kept p.state) (sym h.state) stands;
    number = h.number;
    is = end_from says v.lexer.bytes v.lexer.place p h.behind h.reads;
  }

  pub fails_with : (kind : Kind) → IsEvent v w p.state (Failed kind) → IsLast says v w p (fails kind)
  fails_with kind (inl h) = record {
    last = p.state;
    stands = subst (λ kept. Stands kept p.state) (sym h.carries.0.same) stands;
    number = h.carries.1;
    is = subst (λ (k : Kind). IsCourseOf says v.lexer.bytes v.lexer.place p (turn p p.state (fails k) ∷ [])) (sym h.carries.0.is)
        (refused_from says v.lexer.bytes v.lexer.place w.lexer.place p h.x h.spells h.carries.0.why h.carries.0.refuses);
  }
  fails_with kind (inr h) = record {
    last = p.state;
    stands = subst (λ kept. Stands kept p.state) (sym h.state) stands;
    number = h.number;
    is = subst (λ (k : Kind). IsCourseOf says v.lexer.bytes v.lexer.place p (turn p p.state (fails k) ∷ [])) (sym h.is)
        (unread_from says v.lexer.bytes v.lexer.place p h.behind h.why h.reads);
  }
