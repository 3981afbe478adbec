-- What a walk's next command comes to.
use Rattle.std.proofs.Common.{subst, inr, ◌⊎◌, ◌≡◌, ℕ, ◌+◌, Ok, Err}
use Rattle.smt_sexpr.specs.Tree.{Sexpr}
use Rattle.smt_sexpr.specs.Table.{Table, Means}
use Rattle.smt_script.specs.declared.state.Effect.{Effect}
use Rattle.smt_script.specs.declared.state.Effect.TheVariants.{Ask, Exit, Tell}
use Rattle.smt_script.specs.declared.state.Notice.{Notice}
use Rattle.smt_script.specs.declared.state.Question.{Question}
use Rattle.smt_script.specs.declared.error.Refusal.{Refusal}
use Rattle.smt_script.specs.code.Kept.{Steps}
use Rattle.smt_script.specs.Laws.{StepMade}
use Rattle.smt_script.specs.States.{State, IsMadeState, after}
use Rattle.smt_answer.specs.declared.kind.Kind.{Kind}
use Rattle.smt_answer.specs.Kinds.{kind_of}
use Rattle.script_walk.specs.code.Events.{IsNext, Leads, Carries, IsCommand, IsEnd}
use Rattle.script_walk.specs.declared.reader.Next.{Next}
use Rattle.script_walk.specs.declared.reader.Next.TheVariants.{End}
use Rattle.script_walk.specs.declared.walk.Event.TheVariants.{Told, Asked, Ended, Failed}
use Rattle.script_walk.specs.declared.walk.Walk.{Walk}
use Rattle.script_walk.proofs.Standing.{stands_after}

module _ (law : StepMade) (v w : Walk) (s : State) (x : Sexpr) where
  leads_as : (effect other : Effect) → effect ≡ other → Steps s x effect w.state → IsMadeState s → Leads w s x other
  leads_as effect other e h made = record {
    next = h.state;
    leads = subst (λ (f : Effect). after s x ≡ Ok (record { state = h.state; effect = f })) e h.leads;
    stands = stands_after law s x effect w.state h made;
  }

  pub told_carries : (id : ℕ) (effect : Effect) (notice : Notice) → effect ≡ Tell notice → Means w.sexprs id x → Steps s x effect w.state → IsMadeState s
      → w.number ≡ v.number + 1 → Carries v w s x (Told id notice)
  told_carries id effect notice e means h made number = (means, leads_as effect (Tell notice) e h made, number)

  pub asked_carries : (id : ℕ) (effect : Effect) (question : Question) → effect ≡ Ask question → Means w.sexprs id x → Steps s x effect w.state → IsMadeState s
      → w.number ≡ v.number → Carries v w s x (Asked id question)
  asked_carries id effect question e means h made number = (means, leads_as effect (Ask question) e h made, number)

  pub exit_carries : (effect : Effect) → effect ≡ Exit → Steps s x effect w.state → IsMadeState s → w.number ≡ v.number → Carries v w s x Ended
  exit_carries effect e h made number = (leads_as effect Exit e h made, number)

pub refused_carries : (v w : Walk) (s : State) (x : Sexpr) (why : Refusal) (kind : Kind) → after s x ≡ Err why → kind ≡ kind_of why → w.state ≡ v.state → w.number ≡ v.number
    → Carries v w s x (Failed kind)
refused_carries v w s x why kind e is same number = (record { why = why; refuses = e; is = is; same = same }, number)

pub end_event : (v w : Walk) (s : State) (t : Table) (behind : ℕ) (next : Next) → next ≡ End → IsNext v.lexer.bytes v.lexer.place t behind next → w.state ≡ v.state → w.number ≡ v.number
    → IsCommand v w s Ended ⊎ IsEnd v w
end_event v w s t behind next e h same number =
    inr (record { behind = behind; reads = subst (λ (n : Next). IsNext v.lexer.bytes v.lexer.place t behind n) e h; state = same; number = number })
