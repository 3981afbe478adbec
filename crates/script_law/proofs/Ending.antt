-- The course of commands that are told of, up to a question and an exit.
use Rattle.std.proofs.Common.{◌≡◌, ◌∙◌, refl, sym, ap, subst, ℕ, List, [], ◌∷◌, ◌++◌, Option, Some, None, Result, Ok, Err}
use Rattle.smt_sexpr.specs.Tree.{Sexpr}
use Rattle.smt_sexpr.specs.Reading.{Spells, Outcomes, expression, finished, refused}
use Rattle.smt_sexpr.specs.Commands.{Commands, Ending, ended, stopped, unread, EndsAs}
use Rattle.smt_sexpr.specs.Laws.{OneOutcome}
use Rattle.smt_sexpr.specs.declared.error.SexprRefusal.{SexprRefusal}
use Rattle.smt_script.specs.Commands.{command_of, naming_command, changing_command, asking_command}
use Rattle.smt_script.specs.declared.state.Effect.{Effect}
use Rattle.smt_script.specs.declared.state.Effect.TheVariants.{Ask, Exit, Tell}
use Rattle.smt_script.specs.declared.state.Question.{Question}
use Rattle.smt_script.specs.declared.state.Satisfiability.{Satisfiability}
use Rattle.smt_script.specs.declared.error.Refusal.{Refusal}
use Rattle.smt_script.specs.States.{State, Step, after}
use Rattle.smt_answer.specs.declared.kind.Kind.{Kind}
use Rattle.script_walk.specs.Questions.{refusal_of}
use Rattle.script_walk.specs.Course.{Place, Turn, turn, tells, answers, asks, ends, behind_told, behind_answer, asked, taken, by_effect, by_command, last_turn, course, IsCourseOf, last_of, status_at, status_of, answers_of}
use Rattle.script_walk.proofs.Turns.{told_turn, answered_turn, unanswered_turn, exit_turn}
use Rattle.job_shop.specs.Scripts.{exit}
use Rattle.script_law.specs.Told.{step_of}
use Rattle.script_law.proofs.Leading.{Leads}

pub after_exit : (s : State) → after s exit ≡ Ok (step_of s Exit)
unfolding after command_of naming_command changing_command asking_command
after_exit s = refl

-- ---- two readings

module _ (one : OneOutcome) (bytes : List ℕ) (place : ℕ) (x : Sexpr) (mid : ℕ) (spells : Spells bytes place x mid) where
  not_ended : (n : ℕ) → Outcomes bytes place finished n → ⊥
  not_ended n h = let w = one bytes place (expression x) finished mid n spells h in let z = w.0 in cc

  not_unread : (why : SexprRefusal) (n : ℕ) → Outcomes bytes place (refused why) n → ⊥
  not_unread why n h = let w = one bytes place (expression x) (refused why) mid n spells h in let z = w.0 in cc

  same_sexpr : (y : Sexpr) (there : ℕ) → Spells bytes place y there → (y ≡ x) × (there ≡ mid)
  same_sexpr y there h =
      let w = one bytes place (expression x) (expression y) mid there spells h in
      let first = w.0 in
      let same : y ≡ x = cc in
      (same, sym w.1)

-- ---- one course

module _ {A : Type 0} (says : A → Satisfiability) where
  -- some turn ends the course
  abbrev pub IsOver : List (Turn A) → Type 0
  IsOver turns = (t : Turn A) × (last_of turns ≡ Some t)

  -- where both go on alike, they are the same
  module _ (p : Place A) (x : Sexpr) (make other : Place A → List (Turn A)) (rest : (q : Place A) → IsOver (make q) → IsOver (other q) → make q ≡ other q) where
    same_asked : (s : State) (question : Question) (left : List A) → IsOver (asked says p s question x left make) → IsOver (asked says p s question x left other) → asked says p s question x left make ≡ asked says p s question x left other
    same_asked s question [] h k = refl
    same_asked s question (a ∷ left) h k = ap (λ (ts : List (Turn A)). turn p s (answers question x a) ∷ ts) (rest (behind_answer says p s a left) h k)

    same_taken : (s : State) (question : Question) (why : Option Kind) → IsOver (taken says p s question x why make) → IsOver (taken says p s question x why other) → taken says p s question x why make ≡ taken says p s question x why other
    same_taken s question (Some kind) h k = refl
    same_taken s question None h k = same_asked s question p.left h k

    same_effect : (effect : Effect) (s : State) → IsOver (by_effect says p s x effect make) → IsOver (by_effect says p s x effect other) → by_effect says p s x effect make ≡ by_effect says p s x effect other
    same_effect (Tell notice) s h k = ap (λ (ts : List (Turn A)). turn p s (tells x notice) ∷ ts) (rest (behind_told p s) h k)
    same_effect (Ask question) s h k = same_taken s question (refusal_of question s x) h k
    same_effect Exit s h k = refl

    same_command : (r : Result Step Refusal) → IsOver (by_command says p x r make) → IsOver (by_command says p x r other) → by_command says p x r make ≡ by_command says p x r other
    same_command (Ok step) h k = same_effect step.effect step.state h k
    same_command (Err why) h k = refl

  module _ (one : OneOutcome) (bytes : List ℕ) where
    -- the text isn't at its end
    not_over : (place : ℕ) (x : Sexpr) (mid here : ℕ) (p : Place A) (ending : Ending) → Spells bytes place x mid → place ≡ here → EndsAs bytes here ending → IsOver (last_turn p ending) → ⊥
    not_over place x mid here p ended spells e (n, h) over = not_ended one bytes place x mid spells n (subst (λ (k : ℕ). Outcomes bytes k finished n) (sym e) h)
    not_over place x mid here p (unread why) spells e (n, h) over = not_unread one bytes place x mid spells why n (subst (λ (k : ℕ). Outcomes bytes k (refused why) n) (sym e) h)
    not_over place x mid here p stopped spells e h (t, over) = absurd cc

    -- of two readings whose courses end
    one_course : (zs xs : List Sexpr) (place there here : ℕ) (ending : Ending) (p : Place A) → Commands bytes place zs there → Commands bytes place xs here → EndsAs bytes here ending
        → IsOver (course says p xs ending) → IsOver (course says p zs stopped) → course says p xs ending ≡ course says p zs stopped
    unfolding course
    one_course [] xs place there here ending p reads theirs ends_as h (t, none) = absurd cc
    one_course (z ∷ zs) [] place there here ending p (mid, spells, reads) theirs ends_as h k = absurd (not_over place z mid here p ending spells theirs ends_as h)
    one_course (z ∷ zs) (x ∷ xs) place there here ending p (mid, spells, reads) (later, spells_x, theirs) ends_as h k =
        let same = same_sexpr one bytes place z mid spells x later spells_x in
        let left : Commands bytes mid xs here = subst (λ (m : ℕ). Commands bytes m xs here) same.1 theirs in
        let make : Place A → List (Turn A) = λ next. course says next xs ending in
        let as_z : by_command says p x (after p.state x) make ≡ by_command says p z (after p.state z) make = ap (λ (y : Sexpr). by_command says p y (after p.state y) make) same.0 in
        as_z ∙ same_command p z make (λ next. course says next zs stopped) (λ q over there_over. one_course zs xs mid there here ending q reads left ends_as over there_over)
        (after p.state z) (subst IsOver as_z h) k

  -- ---- the tells before a question

  -- behind the tells the course goes on in the state that they lead to
  record IsTold (p : Place A) (done ys : List Sexpr) (ending : Ending) (t : State) : Type 0 where
    q : Place A
    state : q.state ≡ t
    left : q.left ≡ p.left
    front : List (Turn A)
    whole : course says p (done ++ ys) ending ≡ front ++ course says q ys ending
    last : last_of (course says p (done ++ ys) ending) ≡ last_of (course says q ys ending)
    answered : answers_of (course says p (done ++ ys) ending) ≡ answers_of (course says q ys ending)

  told_course : (done ys : List Sexpr) (ending : Ending) (p : Place A) (t : State) → Leads p.state done t → IsTold p done ys ending t
  told_course [] ys ending p t e = record { q = p; state = e; left = refl; front = []; whole = refl; last = refl; answered = refl }
  told_course (x ∷ done) ys ending p t (next, notice, e, leading) =
      let w = told_course done ys ending (behind_told p next) t leading in
      let first = told_turn says p x next notice e (done ++ ys) ending in
      record {
        q = w.q;
        state = w.state;
        left = w.left;
        front = turn p next (tells x notice) ∷ w.front;
        whole = first ∙ ap (λ (ts : List (Turn A)). turn p next (tells x notice) ∷ ts) w.whole;
        last = ap (λ (ts : List (Turn A)). last_of ts) first ∙ w.last;
        answered = ap (λ (ts : List (Turn A)). answers_of ts) first ∙ w.answered;
      }

  -- ---- a question, and an exit

  module _ (ask : Sexpr) (question : Question) (t : State) (leads : after t ask ≡ Ok (step_of t (Ask question))) (free : refusal_of question t ask ≡ None) where
    leads_from : (q : Place A) → q.state ≡ t → after q.state ask ≡ Ok (step_of q.state (Ask question))
    leads_from q e = subst (λ (s : State). after s ask ≡ Ok (step_of s (Ask question))) (sym e) leads

    free_from : (q : Place A) → q.state ≡ t → refusal_of question q.state ask ≡ None
    free_from q e = subst (λ (s : State). refusal_of question s ask ≡ None) (sym e) free

    -- without an answer
    unanswered : (q : Place A) → q.state ≡ t → q.left ≡ [] → course says q (ask ∷ exit ∷ []) stopped ≡ turn q q.state (asks question ask) ∷ []
    unanswered q e none = unanswered_turn says q ask q.state question (leads_from q e) (free_from q e) none (exit ∷ []) stopped

    -- and with one
    with_answer : (q : Place A) (a : A) (left : List A) → q.state ≡ t → q.left ≡ a ∷ left
        → (now : Place A) × (course says q (ask ∷ exit ∷ []) stopped ≡ turn q q.state (answers question ask a) ∷ turn now now.state ends ∷ [])
    with_answer q a left e more =
        let now = behind_answer says q q.state a left in (
          now,
          answered_turn says q ask q.state question a left (leads_from q e) (free_from q e) more (exit ∷ []) stopped
              ∙ ap (λ (ts : List (Turn A)). turn q q.state (answers question ask a) ∷ ts) (exit_turn says now exit now.state (after_exit now.state) [] stopped),
        )

    -- the question has this answer, and the script ends without an error
    pub record IsAnswered (a : A) (turns : List (Turn A)) : Type 0 where
      pub status : status_of turns ≡ Some 0
      pub used : answers_of turns ≡ a ∷ []
      pub q : Place A
      pub state : q.state ≡ t
      pub front : List (Turn A)
      pub behind : List (Turn A)
      pub among : turns ≡ front ++ (turn q q.state (answers question ask a) ∷ behind)

    -- the course of a text of tells, the question and an exit
    module _ (one : OneOutcome) (bytes : List ℕ) (done : List Sexpr) (there : ℕ) (p : Place A) (leading : Leads p.state done t) (reads : Commands bytes 0 (done ++ (ask ∷ exit ∷ [])) there) (turns : List (Turn A)) (are : IsCourseOf says bytes 0 p turns) (over : IsOver turns) where
      is_mine : IsOver (course says p (done ++ (ask ∷ exit ∷ [])) stopped) → turns ≡ course says p (done ++ (ask ∷ exit ∷ [])) stopped
      is_mine mine = are.are ∙ one_course one bytes (done ++ (ask ∷ exit ∷ [])) are.commands 0 there are.behind are.ending p reads are.reads are.ends (subst IsOver are.are over) mine

      -- without an answer it ends in the state that the tells lead to
      pub ends_asked : p.left ≡ [] → (last : Turn A) × (last_of turns ≡ Some last) × (last.state ≡ t) × (status_of turns ≡ None)
      ends_asked none =
          let w = told_course done (ask ∷ exit ∷ []) stopped p t leading in
          let last = turn w.q w.q.state (asks question ask) in
          let mine : last_of (course says p (done ++ (ask ∷ exit ∷ [])) stopped) ≡ Some last = w.last ∙ ap (λ (ts : List (Turn A)). last_of ts) (unanswered w.q w.state (w.left ∙ none)) in
          let same : last_of turns ≡ Some last = ap (λ (ts : List (Turn A)). last_of ts) (is_mine (last, mine)) ∙ mine in
          (last, same, w.state, ap (λ (l : Option (Turn A)). status_at l) same)

      -- with answers, the first is taken
      pub ends_answered : (a : A) (left : List A) → p.left ≡ a ∷ left → IsAnswered a turns
      ends_answered a left some =
          let w = told_course done (ask ∷ exit ∷ []) stopped p t leading in
          let c = with_answer w.q a left w.state (w.left ∙ some) in
          let last = turn c.0 c.0.state ends in
          let mine : last_of (course says p (done ++ (ask ∷ exit ∷ [])) stopped) ≡ Some last = w.last ∙ ap (λ (ts : List (Turn A)). last_of ts) c.1 in
          let same = is_mine (last, mine) in
          record {
            status = ap (λ (ts : List (Turn A)). status_of ts) same ∙ ap (λ (l : Option (Turn A)). status_at l) mine;
            used = ap (λ (ts : List (Turn A)). answers_of ts) same ∙ w.answered ∙ ap (λ (ts : List (Turn A)). answers_of ts) c.1;
            q = w.q;
            state = w.state;
            front = w.front;
            behind = last ∷ [];
            among = same ∙ w.whole ∙ ap (λ (ts : List (Turn A)). w.front ++ ts) c.1;
          }
