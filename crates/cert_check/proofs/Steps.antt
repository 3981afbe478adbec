-- A turn of the loop over the steps.
use Rattle.std.proofs.Common.{◌≡◌, ◌+◌, ◌-◌, ℕ, suc, length, List, [], ◌∷◌, ◌++◌, None, Bool, true, false, sym, ap, ◌∙◌, subst, map}
use Rattle.std.specs.Prelude.{Err}
use Rattle.stn_core.specs.declared.literal.Literal.{Literal}
use Rattle.stn_core.specs.Literal.{negation_of}
use Rattle.refute_tree.specs.declared.step.Step.{Step}
use Rattle.cert_check.specs.declared.flaw.FlawKind.{FlawKind}
use Rattle.cert_check.specs.declared.flaw.FlawKind.TheVariants.{StepsMissing, StepsLeftOver}
use Rattle.cert_check.specs.declared.walk.Frame.{Frame}
use Rattle.cert_check.specs.Flaws.{flaw_at, after_step, opened, steps_flaw}
use Rattle.cert_check.specs.code.Walks.{waiting, open_cases, AreAlike, LeavesOpen}
use Rattle.cert_check.proofs.Alike.{same_flaw}

module _ (points : ℕ) (clauses earlier : List (List Literal)) where
  -- the root
  pub begun : (clause given : List Literal) (frames : List Frame) (assumed : List Literal) (steps : List Step) → given ≡ clause → AreAlike (open_cases true frames assumed) (map negation_of given ∷ [])
      → steps_flaw points clauses earlier (open_cases true frames assumed) 0 steps ≡ steps_flaw points clauses earlier (map negation_of clause ∷ []) 0 steps
  begun clause given frames assumed steps e h = subst (λ (c : List Literal). steps_flaw points clauses earlier (open_cases true frames assumed) 0 steps ≡ steps_flaw points clauses earlier (map negation_of c ∷ []) 0 steps) e (same_flaw points clauses earlier steps 0 (open_cases true frames assumed) (map negation_of given ∷ []) h)

  module _ (step : Step) (left steps : List Step) (at : ℕ) (here : left ≡ step ∷ steps) where
    -- the step was read, and some behind it
    pub turned : (frames : List Frame) (assumed : List Literal) (open_ : Bool) (now : List (List Literal)) (rest : List Step) → open_ ≡ true → LeavesOpen points clauses earlier assumed (waiting frames assumed) step steps now rest
        → steps_flaw points clauses earlier now (suc at + (length steps - length rest)) rest ≡ steps_flaw points clauses earlier (open_cases open_ frames assumed) at left
    turned frames assumed open_ now rest e h =
        let others : List (List Literal) = waiting frames assumed in
        sym (h.2.same points clauses earlier (suc at))
        ∙ sym (ap (after_step earlier at (λ more. steps_flaw points clauses earlier (more ++ others) (suc at) steps)) h.1)
        ∙ sym (ap (λ (b : Bool). steps_flaw points clauses earlier (open_cases b frames assumed) at left) e ∙ ap (steps_flaw points clauses earlier (assumed ∷ others) at) here)

    -- the step is flawed
    pub flawed_step : (frames : List Frame) (assumed : List Literal) (open_ : Bool) (kind : FlawKind) → open_ ≡ true → opened points clauses earlier assumed step ≡ Err kind
        → steps_flaw points clauses earlier (open_cases open_ frames assumed) at left ≡ flaw_at earlier at kind
    flawed_step frames assumed open_ kind e h =
        let others : List (List Literal) = waiting frames assumed in
        ap (λ (b : Bool). steps_flaw points clauses earlier (open_cases b frames assumed) at left) e
        ∙ ap (steps_flaw points clauses earlier (assumed ∷ others) at) here
        ∙ ap (after_step earlier at (λ more. steps_flaw points clauses earlier (more ++ others) (suc at) steps)) h

    -- no case is open
    pub left_over : (frames : List Frame) (assumed : List Literal) (open_ : Bool) → open_ ≡ false
        → steps_flaw points clauses earlier (open_cases open_ frames assumed) at left ≡ flaw_at earlier at StepsLeftOver
    left_over frames assumed open_ e =
        ap (λ (b : Bool). steps_flaw points clauses earlier (open_cases b frames assumed) at left) e
        ∙ ap (steps_flaw points clauses earlier [] at) here

  -- no step is left
  pub ended : (left : List Step) (at : ℕ) (frames : List Frame) (assumed : List Literal) (open_ : Bool) → left ≡ [] → open_ ≡ false
      → steps_flaw points clauses earlier (open_cases open_ frames assumed) at left ≡ None
  ended left at frames assumed open_ all e =
      ap (λ (b : Bool). steps_flaw points clauses earlier (open_cases b frames assumed) at left) e
      ∙ ap (steps_flaw points clauses earlier [] at) all

  pub missing : (left : List Step) (at : ℕ) (frames : List Frame) (assumed : List Literal) (open_ : Bool) → left ≡ [] → open_ ≡ true
      → steps_flaw points clauses earlier (open_cases open_ frames assumed) at left ≡ flaw_at earlier at StepsMissing
  missing left at frames assumed open_ all e =
      ap (λ (b : Bool). steps_flaw points clauses earlier (open_cases b frames assumed) at left) e
      ∙ ap (steps_flaw points clauses earlier (assumed ∷ waiting frames assumed) at) all
