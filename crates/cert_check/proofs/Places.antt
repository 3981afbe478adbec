-- Where the first flaw stands.
use Rattle.std.proofs.Common.{arith, ◌≡◌, ◌<◌, ◌≤◌, ◌+◌, ℕ, zero, suc, List, [], ◌∷◌, ◌++◌, length, map, take, Option, Some, None, Bool, true, false, refl, sym, ap, ◌∙◌, subst, append-nil, append_assoc}
use Rattle.std.specs.Prelude.{slice_get, Result, Ok, Err, if◌then◌else◌}
use Rattle.std.specs.List.{list_all}
use Rattle.std.proofs.lemmas.Option.{same_Some}
use Rattle.stn_core.specs.declared.literal.Literal.{Literal}
use Rattle.stn_core.specs.Literal.{negation_of}
use Rattle.refute_tree.specs.declared.step.Step.{Step}
use Rattle.refute_tree.specs.declared.lemma.Lemma.{Lemma}
use Rattle.refute_tree.specs.Trees.{IsRefuted, stated}
use Rattle.cert_check.specs.declared.flaw.FlawKind.{FlawKind}
use Rattle.cert_check.specs.declared.flaw.FlawKind.TheVariants.{NoSuchPoint, StepsMissing, StepsLeftOver, LastLemmaNotEmpty}
use Rattle.cert_check.specs.declared.flaw.Flaw.{Flaw}
use Rattle.cert_check.specs.FirstFlaws.{IsFlawOfEnd}
use Rattle.cert_check.specs.Tests.{is_on_points}
use Rattle.cert_check.specs.Flaws.{opened, flaw_at, after_step, steps_flaw, lemma_flaw, ends_empty, first_of, lemmas_flaw, refutation_flaw}
use Rattle.cert_check.proofs.Lemmas.{ends_at}
use Rattle.cert_check.proofs.Reading.{unflawed_lemma}

flaw_place : (earlier : List (List Literal)) (step : ℕ) (kind : FlawKind) (flaw : Flaw) → flaw_at earlier step kind ≡ Some flaw → length earlier ≡ flaw.lemma
flaw_place earlier step kind flaw e = ap (λ (f : Flaw). f.lemma) (same_Some (record { lemma = length earlier; step = step; kind = kind }) flaw e)

length_push : (earlier : List (List Literal)) (clause : List Literal) → length (earlier ++ clause ∷ []) ≡ suc (length earlier)
length_push [] clause = refl
length_push (c ∷ earlier) clause = ap suc (length_push earlier clause)

module _ (points : ℕ) (clauses : List (List Literal)) where
  place_by : (earlier others : List (List Literal)) (number : ℕ) (steps : List Step) (flaw : Flaw) (found : Result (List (List Literal)) FlawKind)
      → ((open_ : List (List Literal)) → steps_flaw points clauses earlier open_ (suc number) steps ≡ Some flaw → length earlier ≡ flaw.lemma)
      → after_step earlier number (λ opening. steps_flaw points clauses earlier (opening ++ others) (suc number) steps) found ≡ Some flaw → length earlier ≡ flaw.lemma
  place_by earlier others number steps flaw (Ok opening) ih e = ih (opening ++ others) e
  place_by earlier others number steps flaw (Err kind) ih e = flaw_place earlier number kind flaw e

  steps_place : (earlier : List (List Literal)) (steps : List Step) (open_ : List (List Literal)) (number : ℕ) (flaw : Flaw) → steps_flaw points clauses earlier open_ number steps ≡ Some flaw → length earlier ≡ flaw.lemma
  steps_place earlier [] [] number flaw e = absurd (cc)
  steps_place earlier [] (assumed ∷ others) number flaw e = flaw_place earlier number StepsMissing flaw e
  steps_place earlier (step ∷ steps) [] number flaw e = flaw_place earlier number StepsLeftOver flaw e
  steps_place earlier (step ∷ steps) (assumed ∷ others) number flaw e =
      place_by earlier others number steps flaw (opened points clauses earlier assumed step) (λ open_ h. steps_place earlier steps open_ (suc number) flaw h) e

  lemma_place_by : (earlier : List (List Literal)) (lemma : Lemma) (flaw : Flaw) (b : Bool) → (if b then steps_flaw points clauses earlier (map negation_of lemma.clause ∷ []) 0 lemma.steps else flaw_at earlier 0 NoSuchPoint) ≡ Some flaw → length earlier ≡ flaw.lemma
  lemma_place_by earlier lemma flaw true e = steps_place earlier lemma.steps (map negation_of lemma.clause ∷ []) 0 flaw e
  lemma_place_by earlier lemma flaw false e = flaw_place earlier 0 NoSuchPoint flaw e

  lemma_place : (earlier : List (List Literal)) (lemma : Lemma) (flaw : Flaw) → lemma_flaw points clauses earlier lemma ≡ Some flaw → length earlier ≡ flaw.lemma
  lemma_place earlier lemma flaw e = lemma_place_by earlier lemma flaw (list_all (is_on_points points) lemma.clause) e

  end_by : (earlier : List (List Literal)) (flaw : Flaw) (b : Bool) → (if b then None else flaw_at earlier 0 LastLemmaNotEmpty) ≡ Some flaw → length earlier ≡ flaw.lemma
  end_by earlier flaw true e = absurd (cc)
  end_by earlier flaw false e = flaw_place earlier 0 LastLemmaNotEmpty flaw e

  late_by : (earlier : List (List Literal)) (lemma : Lemma) (flaw : Flaw) (first later : Option Flaw) → lemma_flaw points clauses earlier lemma ≡ first → (later ≡ Some flaw → length earlier ≤ flaw.lemma) → first_of first later ≡ Some flaw → length earlier ≤ flaw.lemma
  late_by earlier lemma flaw None later is ih e = ih e
  late_by earlier lemma flaw (Some other) later is ih e = let at = lemma_place earlier lemma flaw (is ∙ e) in omega arith

  -- no flaw stands before the lemmas that are looked at
  late : (earlier : List (List Literal)) (lemmas : List Lemma) (flaw : Flaw) → lemmas_flaw points clauses earlier lemmas ≡ Some flaw → length earlier ≤ flaw.lemma
  late earlier [] flaw e = let at = end_by earlier flaw (ends_empty earlier) e in omega arith
  late earlier (lemma ∷ lemmas) flaw e =
      late_by earlier lemma flaw (lemma_flaw points clauses earlier lemma) (lemmas_flaw points clauses (earlier ++ lemma.clause ∷ []) lemmas) refl
      (λ h. (let rest = late (earlier ++ lemma.clause ∷ []) lemmas flaw h in let more = length_push earlier lemma.clause in omega (arith, rest, more))) e

  -- the lemmas before the flaw are refuted, and it is the one's at its number
  abbrev IsAt : Flaw → List (List Literal) → ℕ → Lemma → Type 0
  IsAt flaw before number lemma = (number < flaw.lemma → IsRefuted points clauses before lemma) × (number ≡ flaw.lemma → lemma_flaw points clauses before lemma ≡ Some flaw)

  first_at : (earlier : List (List Literal)) (lemma : Lemma) (flaw : Flaw) (first later : Option Flaw) → lemma_flaw points clauses earlier lemma ≡ first → (later ≡ Some flaw → suc (length earlier) ≤ flaw.lemma) → first_of first later ≡ Some flaw → IsAt flaw earlier (length earlier) lemma
  first_at earlier lemma flaw None later is after e = let le = after e in (λ lt. unflawed_lemma points clauses earlier lemma is, λ at. absurd (omega (arith, le, at)))
  first_at earlier lemma flaw (Some other) later is after e =
      let at = lemma_place earlier lemma flaw (is ∙ e) in
      (λ lt. absurd (omega (arith, lt, at)), λ same. is ∙ e)

  -- a flaw behind the first lemma
  beyond : (earlier : List (List Literal)) (lemma : Lemma) (flaw : Flaw) (first later : Option Flaw) → lemma_flaw points clauses earlier lemma ≡ first → first_of first later ≡ Some flaw → suc (length earlier) ≤ flaw.lemma → later ≡ Some flaw
  beyond earlier lemma flaw None later is e le = e
  beyond earlier lemma flaw (Some other) later is e le = let at = lemma_place earlier lemma flaw (is ∙ e) in absurd (omega (arith, le, at))

  placed : (earlier : List (List Literal)) (lemmas : List Lemma) (flaw : Flaw) → lemmas_flaw points clauses earlier lemmas ≡ Some flaw → (j : ℕ) (other : Lemma) → slice_get lemmas j ≡ Some other → IsAt flaw (earlier ++ map stated (take j lemmas)) (length earlier + j) other
  placed earlier [] flaw e j other is = absurd (cc)
  placed earlier (lemma ∷ lemmas) flaw e zero other is =
      let s : lemma ≡ other = cc in
      let more = length_push earlier lemma.clause in
      let here = first_at earlier lemma flaw (lemma_flaw points clauses earlier lemma) (lemmas_flaw points clauses (earlier ++ lemma.clause ∷ []) lemmas) refl
      (λ h. (let rest = late (earlier ++ lemma.clause ∷ []) lemmas flaw h in omega (arith, rest, more))) e in
      let n : length earlier + 0 ≡ length earlier = omega arith in
      subst (IsAt flaw (earlier ++ []) (length earlier + 0)) s
      (subst (λ (k : ℕ). IsAt flaw (earlier ++ []) k lemma) (sym n) (subst (λ (b : List (List Literal)). IsAt flaw b (length earlier) lemma) (sym (append-nil earlier)) here))
  placed earlier (lemma ∷ lemmas) flaw e (suc j) other is =
      let rest : lemmas_flaw points clauses (earlier ++ lemma.clause ∷ []) lemmas ≡ Some flaw → IsAt flaw ((earlier ++ lemma.clause ∷ []) ++ map stated (take j lemmas)) (length (earlier ++ lemma.clause ∷ []) + j) other = λ later. placed (earlier ++ lemma.clause ∷ []) lemmas flaw later j other is in
      (λ lt. (at rest (omega arith)).0 lt, λ same. (at rest (omega arith)).1 same)
    where
      at : (lemmas_flaw points clauses (earlier ++ lemma.clause ∷ []) lemmas ≡ Some flaw → IsAt flaw ((earlier ++ lemma.clause ∷ []) ++ map stated (take j lemmas)) (length (earlier ++ lemma.clause ∷ []) + j) other) → suc (length earlier) ≤ flaw.lemma
          → IsAt flaw (earlier ++ map stated (take (suc j) (lemma ∷ lemmas))) (length earlier + suc j) other
      at rest le =
          let later = beyond earlier lemma flaw (lemma_flaw points clauses earlier lemma) (lemmas_flaw points clauses (earlier ++ lemma.clause ∷ []) lemmas) refl e le in
          let more = length_push earlier lemma.clause in
          let n : length (earlier ++ lemma.clause ∷ []) + j ≡ length earlier + suc j = omega (arith, more) in
          subst (λ (k : ℕ). IsAt flaw (earlier ++ map stated (take (suc j) (lemma ∷ lemmas))) k other) n
          (subst (λ (b : List (List Literal)). IsAt flaw b (length (earlier ++ lemma.clause ∷ []) + j) other) (append_assoc earlier (lemma.clause ∷ []) (map stated (take j lemmas))) (rest later))

  pub first_flaw_at : (lemmas : List Lemma) (flaw : Flaw) → refutation_flaw points clauses lemmas ≡ Some flaw → (j : ℕ) (lemma : Lemma) → slice_get lemmas j ≡ Some lemma
      → (j < flaw.lemma → IsRefuted points clauses (map stated (take j lemmas)) lemma) × (j ≡ flaw.lemma → lemma_flaw points clauses (map stated (take j lemmas)) lemma ≡ Some flaw)
  first_flaw_at lemmas flaw e j lemma is =
      let n : 0 + j ≡ j = omega arith in
      subst (λ (k : ℕ). IsAt flaw (map stated (take j lemmas)) k lemma) n (placed [] lemmas flaw e j lemma is)

  -- a flaw behind all lemmas
  end_is : (earlier : List (List Literal)) (flaw : Flaw) (b : Bool) → ends_empty earlier ≡ b → (if b then None else flaw_at earlier 0 LastLemmaNotEmpty) ≡ Some flaw → (flaw.step ≡ 0) × (flaw.kind ≡ LastLemmaNotEmpty) × (ends_empty earlier ≡ false)
  end_is earlier flaw true is e = absurd (cc)
  end_is earlier flaw false is e =
      let same = same_Some (record { lemma = length earlier; step = 0; kind = LastLemmaNotEmpty }) flaw e in
      (sym (ap (λ (f : Flaw). f.step) same), sym (ap (λ (f : Flaw). f.kind) same), is)

  abbrev IsBehind : List (List Literal) → List Lemma → Flaw → Type 0
  IsBehind earlier lemmas flaw =
      (flaw.lemma ≤ length earlier + length lemmas) × (flaw.lemma ≡ length earlier + length lemmas → (flaw.step ≡ 0) × (flaw.kind ≡ LastLemmaNotEmpty) × (ends_empty (earlier ++ map stated lemmas) ≡ false))

  behind : (earlier : List (List Literal)) (lemmas : List Lemma) (flaw : Flaw) → lemmas_flaw points clauses earlier lemmas ≡ Some flaw → IsBehind earlier lemmas flaw
  behind earlier [] flaw e =
      let at = end_by earlier flaw (ends_empty earlier) e in
      let found = end_is earlier flaw (ends_empty earlier) refl e in
      (omega arith, λ same. (found.0, found.1, ap ends_empty (append-nil earlier) ∙ found.2))
  behind earlier (lemma ∷ lemmas) flaw e = by (λ later. behind (earlier ++ lemma.clause ∷ []) lemmas flaw later) (lemma_flaw points clauses earlier lemma) refl e
    where
      by : (lemmas_flaw points clauses (earlier ++ lemma.clause ∷ []) lemmas ≡ Some flaw → IsBehind (earlier ++ lemma.clause ∷ []) lemmas flaw) → (first : Option Flaw) → lemma_flaw points clauses earlier lemma ≡ first → first_of first (lemmas_flaw points clauses (earlier ++ lemma.clause ∷ []) lemmas) ≡ Some flaw
          → IsBehind earlier (lemma ∷ lemmas) flaw
      by ih None is later =
          let rest = ih later in
          let more = length_push earlier lemma.clause in
          let within = rest.0 in
          (omega (arith, more, within), λ same. (let found = rest.1 (omega (arith, more, same)) in (found.0, found.1, ap ends_empty (sym (append_assoc earlier (lemma.clause ∷ []) (map stated lemmas))) ∙ found.2)))
      by ih (Some other) is later =
          let at = lemma_place earlier lemma flaw (is ∙ later) in
          (omega (arith, at), λ same. absurd (omega (arith, at, same)))

  pub last_flaw_at : (lemmas : List Lemma) (flaw : Flaw) → refutation_flaw points clauses lemmas ≡ Some flaw → (flaw.lemma ≤ length lemmas) × (flaw.lemma ≡ length lemmas → IsFlawOfEnd lemmas flaw)
  last_flaw_at lemmas flaw e =
      let found = behind [] lemmas flaw e in
      let within = found.0 in (
        omega arith,
        λ same. (let end = found.1 (omega (arith, same)) in record {
          step = end.0;
          kind = end.1;
          last = λ lemma is empty. (let full = end.2 in let none = ends_at lemmas lemma is empty in absurd (cc));
        }),
      )
