-- Lemmas that are shortened: they name no more than before, and are short.
use Rattle.std.proofs.Common.{◌≡◌, ◌∙◌, ap, refl, ℕ, zero, suc, Bool, true, false, List, [], ◌∷◌, map, Option, Some, None}
use Rattle.std.specs.Prelude.{All, ◌&&◌, if◌then◌else◌, slice_get}
use Rattle.std.specs.List.{AllByRecursion}
use Rattle.std.proofs.lemmas.List.Elements.{All-nil, All-from_recursion, recursion_from_All}
use Rattle.stn_core.specs.declared.literal.Literal.{Literal}
use Rattle.stn_core.specs.Literal.{IsOver}
use Rattle.refute_tree.specs.declared.step.Step.{Step}
use Rattle.refute_tree.specs.declared.step.Step.TheVariants.{Cycle, Input, Lemma as Earlier, Clash, Either}
use Rattle.refute_tree.specs.declared.lemma.Lemma.{Lemma}
use Rattle.refute_tree.specs.Batches.{NamesOver, LemmaIsOver}
use Rattle.refute_tree.specs.Lengths.{is_pair_of, begin_with_pairs, closes, cases_count, shortened_behind, shortened_lemma}
use Rattle.cert_text.specs.declared.entry.Version.TheVariants.{Two}
use Rattle.dtp_entry.specs.Entries.{IsShort}
use Rattle.dtp_session.proofs.Fitting.{MayStand, IsFormed}

module _ (clauses : List (List Literal)) where
  abbrev short : ℕ → List Step → List Step
  short skip steps = shortened_behind clauses skip steps

  -- ---- what a step names

  module _ (points : ℕ) where
    input_over : (b : Bool) (i : ℕ) (few many : List Step) → AllByRecursion (NamesOver points) few → AllByRecursion (NamesOver points) many
        → AllByRecursion (NamesOver points) (if b then Clash i ∷ few else Input i ∷ many)
    input_over true i few many h k = (All-nil (IsOver points), h)
    input_over false i few many h k = (All-nil (IsOver points), k)

    short_over : (skip : ℕ) (steps : List Step) → AllByRecursion (NamesOver points) steps → AllByRecursion (NamesOver points) (short skip steps)
    short_over zero [] h = tt
    short_over (suc skip) [] h = tt
    short_over (suc skip) (step ∷ steps) h = short_over skip steps h.1
    short_over zero (Cycle cycle ∷ steps) h = (h.0, short_over 0 steps h.1)
    short_over zero (Input i ∷ steps) h =
        input_over (closes (slice_get clauses i) steps) i _ _ (short_over (cases_count (slice_get clauses i)) steps h.1) (short_over 0 steps h.1)
    short_over zero (Earlier j ∷ steps) h = (h.0, short_over 0 steps h.1)
    short_over zero (Clash i ∷ steps) h = (h.0, short_over 0 steps h.1)
    short_over zero (Either l ∷ steps) h = (h.0, short_over 0 steps h.1)

    lemmas_over : (lemmas : List Lemma) → AllByRecursion (LemmaIsOver points) lemmas → AllByRecursion (LemmaIsOver points) (map (shortened_lemma clauses) lemmas)
    lemmas_over [] h = tt
    lemmas_over (lemma ∷ lemmas) h = (
      record {
        clause = h.0.clause;
        steps = All-from_recursion (NamesOver points) (short 0 lemma.steps) (short_over 0 lemma.steps (recursion_from_All (NamesOver points) lemma.steps h.0.steps));
      },
      lemmas_over lemmas h.1,
    )

    pub short_lemmas_over : (lemmas : List Lemma) → All (LemmaIsOver points) lemmas → All (LemmaIsOver points) (map (shortened_lemma clauses) lemmas)
    short_lemmas_over lemmas h =
        All-from_recursion (LemmaIsOver points) (map (shortened_lemma clauses) lemmas) (lemmas_over lemmas (recursion_from_All (LemmaIsOver points) lemmas h))

  -- ---- they are short

  begins_with_input : (b : Bool) (l : Literal) (ls : List Literal) (i : ℕ) (few many : List Step)
      → begin_with_pairs (l ∷ ls) (if b then Clash i ∷ few else Input i ∷ many) ≡ false
  begins_with_input true l ls i few many = refl
  begins_with_input false l ls i few many = refl

  pairs_stay : (literals : List Literal) (steps : List Step) → begin_with_pairs literals (short 0 steps) ≡ begin_with_pairs literals steps
  pairs_stay [] steps = refl
  pairs_stay (l ∷ ls) [] = refl
  pairs_stay (l ∷ ls) (Cycle cycle ∷ steps) = ap (λ (b : Bool). is_pair_of l (Cycle cycle) && b) (pairs_stay ls steps)
  pairs_stay (l ∷ ls) (Input i ∷ steps) = begins_with_input (closes (slice_get clauses i) steps) l ls i _ _
  pairs_stay (l ∷ ls) (Earlier j ∷ steps) = refl
  pairs_stay (l ∷ ls) (Clash i ∷ steps) = refl
  pairs_stay (l ∷ ls) (Either m ∷ steps) = refl

  closes_stays : (clause : Option (List Literal)) (steps : List Step) → closes clause (short 0 steps) ≡ closes clause steps
  closes_stays None steps = refl
  closes_stays (Some clause) steps = pairs_stay clause steps

  input_stays : (b : Bool) (i n : ℕ) (steps : List Step) → closes (slice_get clauses i) steps ≡ b
      → short 0 (short n steps) ≡ short n steps → short 0 (short 0 steps) ≡ short 0 steps
      → short 0 (if b then Clash i ∷ short n steps else Input i ∷ short 0 steps) ≡ (if b then Clash i ∷ short n steps else Input i ∷ short 0 steps)
  input_stays true i n steps e h k = ap (λ (xs : List Step). Clash i ∷ xs) h
  input_stays false i n steps e h k = rw (closes_stays (slice_get clauses i) steps ∙ e) (ap (λ (xs : List Step). Input i ∷ xs) k)

  short_stays : (skip : ℕ) (steps : List Step) → short 0 (short skip steps) ≡ short skip steps
  short_stays zero [] = refl
  short_stays (suc skip) [] = refl
  short_stays (suc skip) (step ∷ steps) = short_stays skip steps
  short_stays zero (Cycle cycle ∷ steps) = ap (λ (xs : List Step). Cycle cycle ∷ xs) (short_stays 0 steps)
  short_stays zero (Input i ∷ steps) =
      input_stays (closes (slice_get clauses i) steps) i (cases_count (slice_get clauses i)) steps refl (short_stays (cases_count (slice_get clauses i)) steps) (short_stays 0 steps)
  short_stays zero (Earlier j ∷ steps) = ap (λ (xs : List Step). Earlier j ∷ xs) (short_stays 0 steps)
  short_stays zero (Clash i ∷ steps) = ap (λ (xs : List Step). Clash i ∷ xs) (short_stays 0 steps)
  short_stays zero (Either l ∷ steps) = ap (λ (xs : List Step). Either l ∷ xs) (short_stays 0 steps)

  each_short : (lemmas : List Lemma) → AllByRecursion (IsShort clauses) (map (shortened_lemma clauses) lemmas)
  each_short [] = tt
  each_short (lemma ∷ lemmas) = (short_stays 0 lemma.steps, each_short lemmas)

  pub lemmas_short : (lemmas : List Lemma) → All (IsShort clauses) (map (shortened_lemma clauses) lemmas)
  lemmas_short lemmas = All-from_recursion (IsShort clauses) (map (shortened_lemma clauses) lemmas) (each_short lemmas)

-- every step may stand in the second version
any_step : (steps : List Step) → AllByRecursion (MayStand Two) steps
any_step [] = tt
any_step (step ∷ steps) = (tt, any_step steps)

any_lemma : (lemmas : List Lemma) → AllByRecursion (IsFormed Two) lemmas
any_lemma [] = tt
any_lemma (lemma ∷ lemmas) = (All-from_recursion (MayStand Two) lemma.steps (any_step lemma.steps), any_lemma lemmas)

pub formed_second : (lemmas : List Lemma) → All (IsFormed Two) lemmas
formed_second lemmas = All-from_recursion (IsFormed Two) lemmas (any_lemma lemmas)
