-- The problem that was made, from one state to the next.
use Rattle.std.proofs.Common.{refl, sym, ap, subst, inl, inr, ◌∙◌, ◌≡◌, ◌≢◌, ◌+◌, ◌⊎◌, ℕ, List, length, Option, Some, None}
use Rattle.stn_core.specs.declared.problem.Problem.{Problem}
use Rattle.idl_node.specs.Nodes.{NodeValue}
use Rattle.idl_term.specs.Scopes.{Declaration, Scope}
use Rattle.clause_form.specs.ClauseForm as clause_form
use Rattle.smt_sexpr.specs.Tree.{Sexpr}
use Rattle.smt_script.specs.declared.state.Effect.{Effect}
use Rattle.smt_script.specs.declared.state.Satisfiability.{Satisfiability}
use Rattle.smt_script.specs.declared.state.Satisfiability.TheVariants as verdict
use Rattle.smt_script.specs.code.Kept.{Kept, AssumedStands, StandsFor}
use Rattle.smt_script.specs.declared.state.Active.{Active}
use Rattle.smt_script.specs.Laws.{ModeIsKept}
use Rattle.smt_script.specs.States.{State, Assumed, released, settled}
use Rattle.script_walk.specs.code.Events.{Leads}
use Rattle.script_walk.specs.code.Standing.{Stands}
use Rattle.script_walk.specs.declared.walk.Walk.{Walk}
use Rattle.dtp_entry.specs.Entries.{points_of, problem_of}
use Rattle.dtp_check.specs.declared.judge.Progress.{Progress}
use Rattle.dtp_check.specs.declared.judge.Progress.TheVariants.{Going}
use Rattle.dtp_check.specs.code.Made.{IsProblemOf, IsMadeOf, IsMadeStill, GoesOn}
use Rattle.dtp_check.proofs.Judging.{step_of}

-- states that the code keeps alike have one problem
module _ (k : Kept) (s t : State) (h : StandsFor k s) (l : StandsFor k t) where
  same_declared : s.context.declared ≡ t.context.declared
  same_declared = ap (λ (scope : Scope). scope.declared) (sym h.scope ∙ l.scope)

  same_nodes : s.context.nodes ≡ t.context.nodes
  same_nodes = sym h.nodes ∙ l.nodes

  same_roots : s.context.roots ≡ t.context.roots
  same_roots = sym h.roots ∙ l.roots

  same_points : points_of s.context ≡ points_of t.context
  same_points =
      ap (λ (ds : List Declaration). clause_form.points_of (length ds + 1) s.context.nodes s.context.roots) same_declared
      ∙ ap (λ (ns : List NodeValue). clause_form.points_of (length t.context.declared + 1) ns s.context.roots) same_nodes
      ∙ ap (λ (rs : List ℕ). clause_form.points_of (length t.context.declared + 1) t.context.nodes rs) same_roots

  same_problem : problem_of s.context ≡ problem_of t.context
  same_problem =
      ap (λ (ds : List Declaration). clause_form.clauses_of (length ds + 1) s.context.nodes s.context.roots) same_declared
      ∙ ap (λ (ns : List NodeValue). clause_form.clauses_of (length t.context.declared + 1) ns s.context.roots) same_nodes
      ∙ ap (λ (rs : List ℕ). clause_form.clauses_of (length t.context.declared + 1) t.context.nodes rs) same_roots

-- what is active didn't change, so the problem is the same
module _ (old new : Kept) (s next : State) (at : Stands old s) (there : Stands new next) (same : next.context ≡ s.context) where
  problem_carried : (p : Problem) → IsProblemOf old p → IsProblemOf new p
  problem_carried p h other stands =
      let was = h s at in (
        was.0 ∙ ap points_of (sym same) ∙ same_points new next other there.stands stands.stands,
        was.1 ∙ ap problem_of (sym same) ∙ same_problem new next other there.stands stands.stands,
      )

  made_carried : (made : Option Problem) → IsMadeOf old made → IsMadeOf new made
  made_carried None h = h
  made_carried (Some p) h = problem_carried p h

-- behind a command
pub made_after : ModeIsKept → (v w : Walk) (s : State) (x : Sexpr) (effect : Effect) (made : Option Problem) → Stands v.state s → Leads w s x effect → IsMadeStill v.state made → IsMadeStill w.state made
made_after law v w s x effect made at h still = λ apart. elim (law s x (step_of h.next effect) h.leads) [
  | inl none ↦ absurd (apart (h.stands.stands.mode ∙ none))
  | inr same ↦ made_carried v.state w.state s h.next at h.stands same.1 made (still (λ none. apart (h.stands.stands.mode ∙ same.0 ∙ sym at.stands.mode ∙ none)))
]

-- where nothing is assumed, what is active stays
released_context : (s : State) (a : Option Assumed) → a ≡ None → (released s a).context ≡ s.context
released_context s None e = refl
released_context s (Some a) e = absurd cc

settled_context : (v : Satisfiability) (s : State) → s.assumed ≡ None → (settled v s).context ≡ s.context
settled_context verdict.Sat s e = released_context s s.assumed e
settled_context verdict.Unsat s e = released_context s s.assumed e

assumed_alike : (kept : Kept) (n : Option Active) (a : Option Assumed) → AssumedStands kept n a → (a ≡ None) ⊎ (n ≢ None)
assumed_alike kept n None h = inl refl
assumed_alike kept None (Some a) h = absurd h
assumed_alike kept (Some n) (Some a) h = inr (λ e. absurd cc)

-- behind an answer
pub made_settled : (old new : Kept) (s : State) (v : Satisfiability) (made : Option Problem) → Stands old s → Stands new (settled v s) → IsMadeOf old made → (old.assumed ≢ None → made ≡ None) → IsMadeStill new made
made_settled old new s v made at there h gone = λ apart. elim (assumed_alike old old.assumed s.assumed at.stands.assumed) [
  | inl none ↦ made_carried old new s (settled v s) at there (settled_context v s none) made h
  | inr some ↦ subst (IsMadeOf new) (sym (gone some)) tt
]

-- nothing was made yet
pub nothing_made : (kept : Kept) (made : Option Problem) → made ≡ None → IsMadeStill kept made
nothing_made kept made none = λ apart. subst (IsMadeOf kept) (sym none) tt

pub made_as : (old new : Kept) (made : Option Problem) → new ≡ old → IsMadeStill old made → IsMadeStill new made
made_as old new made e h = subst (λ (k : Kept). IsMadeStill k made) (sym e) h

pub going_on : (progress : Progress) → progress ≡ Going → GoesOn progress
going_on progress e = subst GoesOn (sym e) tt
