-- Steps, and what is known of each of a list.
use Rattle.std.proofs.Common.{arith, ◌≡◌, ◌<◌, ◌≤◌, ◌+◌, ◌^◌, ℕ, ℤ, List, [], ◌∷◌, ◌++◌, map, Some, All, get_or, sym, ap, subst, ◌∙◌, append_assoc}
use Rattle.std.specs.Prelude.{slice_get}
use Rattle.std.proofs.lemmas.List.Elements.{All-weaker}
use Rattle.std.proofs.lemmas.Option.{slice_get_within, get_or_from_slice_get}
use Rattle.stn_core.specs.declared.literal.Literal.{Literal}
use Rattle.refute_tree.specs.declared.step.Step.{Step}
use Rattle.refute_tree.specs.declared.step.Step.TheVariants.{Cycle, Input, Lemma as Earlier, Clash, Either}
use Rattle.refute_tree.specs.declared.lemma.Lemma.{Lemma}
use Rattle.refute_tree.specs.Batches.{RefersBelow, LemmaRefersBelow}
use Rattle.atom_elimination.specs.declared.derivation.Origin.{Origin}
use Rattle.reduced_problem.specs.code.Restating.{restated_step, restated, Fits, LemmaFits}

pub at_place : {X : Type 0} (P : X → Type 0) (xs : List X) (k : ℕ) (x : X) → All P xs → slice_get xs k ≡ Some x → P x
at_place P xs k x all e = subst P (get_or_from_slice_get xs k x x e) (all k x (slice_get_within xs k x e))

-- what is known of one value, of an equal one
pub of_same : (P : ℤ → Type 0) (v w : ℤ) → P v → v ≡ w → P w
of_same P v w h e = subst P e h

-- one step more
pub step_more : (origins : List Origin) (clauses : List (List Literal)) (base : ℕ) (all left rest : List Step) (step : Step) (before after : List Step)
    → left ≡ step ∷ rest → before ++ restated origins clauses base left ≡ restated origins clauses base all
    → after ≡ before ++ restated_step origins clauses base step
    → after ++ restated origins clauses base rest ≡ restated origins clauses base all
step_more origins clauses base all left rest step before after read made added =
    ap (λ (ss : List Step). ss ++ restated origins clauses base rest) added
    ∙ append_assoc before (restated_step origins clauses base step) (restated origins clauses base rest)
    ∙ ap (λ (ss : List Step). before ++ restated origins clauses base ss) (sym read)
    ∙ made

step_fits : (base count : ℕ) → base + count ≤ 2 ^ 64 → (s : Step) → RefersBelow count s → Fits base s
step_fits base count le (Cycle cycle) h = tt
step_fits base count le (Input i) h = tt
step_fits base count le (Earlier j) h = omega arith
step_fits base count le (Clash i) h = tt
step_fits base count le (Either l) h = tt

pub each_fits : (base count : ℕ) (lemmas : List Lemma) → base + count ≤ 2 ^ 64 → All (LemmaRefersBelow count) lemmas → All (LemmaFits base) lemmas
each_fits base count lemmas le h =
    All-weaker (LemmaRefersBelow count) (LemmaFits base) (λ lemma b. All-weaker (RefersBelow count) (Fits base) (step_fits base count le) lemma.steps b) lemmas h
