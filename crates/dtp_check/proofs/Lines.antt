-- The lines for flaws.
use Rattle.std.proofs.Common.{refl, ◌≡◌, ℕ}
use Rattle.cert_check.specs.declared.flaw.FlawKind.{FlawKind}
use Rattle.cert_check.specs.declared.flaw.FlawKind.TheVariants.{NoSuchPoint, NoSuchClause, NotAssumed, NotACycle, NotDenied, StepsMissing, StepsLeftOver, NoSuchKeptLemma, NotActive, LastLemmaNotEmpty}
use Rattle.dtp_check.specs.Texts.{flaw_text, step_line, lemma_line}

pub step_kind : (entry lemma step : ℕ) (kind : FlawKind) → (kind ≡ LastLemmaNotEmpty → ⊥) → step_line entry lemma step (flaw_text kind) ≡ lemma_line entry lemma step kind
step_kind entry lemma step NoSuchPoint h = refl
step_kind entry lemma step NoSuchClause h = refl
step_kind entry lemma step NotAssumed h = refl
step_kind entry lemma step NotACycle h = refl
step_kind entry lemma step NotDenied h = refl
step_kind entry lemma step StepsMissing h = refl
step_kind entry lemma step StepsLeftOver h = refl
step_kind entry lemma step NoSuchKeptLemma h = refl
step_kind entry lemma step NotActive h = refl
step_kind entry lemma step LastLemmaNotEmpty h = absurd (h refl)
