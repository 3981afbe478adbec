-- Commands that are told of, by recursion over them, and by their course.
use Rattle.std.proofs.Common.{refl, sym, ap, arith, ◌∙◌, ◌≡◌, ◌+◌, ℕ, List, [], ◌∷◌, length, Option, Some, None, Result, Ok, Err}
use Rattle.smt_sexpr.specs.Tree.{Sexpr}
use Rattle.smt_sexpr.specs.Commands.{ended}
use Rattle.smt_script.specs.declared.state.Effect.{Effect}
use Rattle.smt_script.specs.declared.state.Effect.TheVariants.{Ask, Exit, Tell}
use Rattle.smt_script.specs.declared.state.Notice.{Notice}
use Rattle.smt_script.specs.declared.state.Question.{Question}
use Rattle.smt_script.specs.declared.state.Satisfiability.{Satisfiability}
use Rattle.smt_script.specs.declared.error.Refusal.{Refusal}
use Rattle.smt_script.specs.States.{State, Step, after}
use Rattle.smt_answer.specs.declared.kind.Kind.{Kind}
use Rattle.script_walk.specs.Questions.{refusal_of}
use Rattle.script_walk.specs.Course.{Place, Turn, ends, turn, course, last_of, status_at}
use Rattle.script_walk.proofs.Turns.{told_turn, barred_turn, unanswered_turn, exit_turn, refused_turn}
use Rattle.script_law.specs.Told.{step_of, Tells}

-- for proofs by induction over the commands
abbrev pub Leads : State → List Sexpr → State → Type 0
Leads s [] t = s ≡ t
Leads s (x ∷ xs) t = (next : State) × (notice : Notice) × (after s x ≡ Ok (step_of next (Tell notice))) × Leads next xs t

abbrev says : Satisfiability → Satisfiability
says verdict = verdict

abbrev at : ℕ → State → Place Satisfiability
at n s = record { number = n; state = s; held = None; left = [] }

abbrev turns_from : ℕ → State → List Sexpr → List (Turn Satisfiability)
turns_from n s xs = course says (at n s) xs ended

-- the same as is said of them, from any number on
record Ends (n : ℕ) (s : State) (xs : List Sexpr) (t : State) : Type 0 where
  last : Place Satisfiability
  is_last : last_of (turns_from n s xs) ≡ Some (turn last t ends)
  count : last.number ≡ length xs + n

ends_of : (xs : List Sexpr) (n : ℕ) (s t : State) → Leads s xs t → Ends n s xs t
unfolding course
ends_of [] n s t e = record { last = at n s; is_last = ap (λ (v : State). Some (turn (at n s) v ends)) e; count = omega arith }
ends_of (x ∷ xs) n s t (next, notice, e, h) =
    let w = ends_of xs (n + 1) next t h in
    let count = w.count in
    record {
      last = w.last;
      is_last = ap (λ (ts : List (Turn Satisfiability)). last_of ts) (told_turn says (at n s) x next notice e xs ended) ∙ w.is_last;
      count = omega (arith, count);
    }

-- ---- back

abbrev state_in : State → Option (Turn Satisfiability) → State
state_in s (Some u) = u.state
state_in s None = s

abbrev number_in : Option (Turn Satisfiability) → ℕ
number_in (Some u) = u.before.number
number_in None = 0

none_apart : {x : ℕ} → ◌≡◌ {A = Option ℕ} None (Some x) → ⊥
none_apart e = absurd cc

one_apart : ◌≡◌ {A = Option ℕ} (Some 1) (Some 0) → ⊥
one_apart e = absurd cc

module _ (x : Sexpr) (xs : List Sexpr) (n : ℕ) (s t : State) (h : Ends n s (x ∷ xs) t) (rest : (next : State) → Ends (n + 1) next xs t → Leads next xs t) where
  -- where these are the turns
  as_turns : (ts : List (Turn Satisfiability)) → turns_from n s (x ∷ xs) ≡ ts → last_of ts ≡ Some (turn h.last t ends)
  as_turns ts e = sym (ap (λ (us : List (Turn Satisfiability)). last_of us) e) ∙ h.is_last

  by_refusal : (next : State) (question : Question) (found : Option Kind) → after s x ≡ Ok (step_of next (Ask question)) → refusal_of question next x ≡ found → Leads s (x ∷ xs) t
  by_refusal next question None e none = absurd (none_apart (ap status_at (as_turns _ (unanswered_turn says (at n s) x next question e none refl xs ended))))
  by_refusal next question (Some kind) e barred = absurd (one_apart (ap status_at (as_turns _ (barred_turn says (at n s) x next question kind e barred xs ended))))

  by_effect : (next : State) (effect : Effect) → after s x ≡ Ok (step_of next effect) → Leads s (x ∷ xs) t
  by_effect next (Tell notice) e =
      let count = h.count in
      (next, notice, e, rest next (record { last = h.last; is_last = as_turns _ (told_turn says (at n s) x next notice e xs ended); count = omega (arith, count) }))
  by_effect next (Ask question) e = by_refusal next question (refusal_of question next x) e refl
  by_effect next Exit e =
      let count = h.count in
      let here : n ≡ h.last.number = ap number_in (as_turns _ (exit_turn says (at n s) x next e xs ended)) in
      absurd (omega (arith, count, here))

  by_result : (r : Result Step Refusal) → after s x ≡ r → Leads s (x ∷ xs) t
  by_result (Ok step) e = by_effect step.state step.effect e
  by_result (Err why) e = absurd (one_apart (ap status_at (as_turns _ (refused_turn says (at n s) x why e xs ended))))

leads_by : (xs : List Sexpr) (n : ℕ) (s t : State) → Ends n s xs t → Leads s xs t
unfolding course
leads_by [] n s t h = ap (state_in s) h.is_last
leads_by (x ∷ xs) n s t h = by_result x xs n s t h (λ next k. leads_by xs (n + 1) next t k) (after s x) refl

-- ---- both

pub tells_of : (xs : List Sexpr) (s t : State) → Leads s xs t → Tells s xs t
tells_of xs s t h =
    let w = ends_of xs 1 s t h in
    record { last = w.last; is_last = w.is_last; count = w.count }

pub leads_of : (xs : List Sexpr) (s t : State) → Tells s xs t → Leads s xs t
leads_of xs s t h = leads_by xs 1 s t (record { last = h.last; is_last = h.is_last; count = h.count })
