-- What is read under some assumptions is read under any other list of the same literals.
use Rattle.std.proofs.Common.{◌≡◌, ℕ, suc, List, [], ◌∷◌, ◌++◌, Option, Some, None, Bool, true, false, ◌&&◌, ◌||◌, inl, inr, refl, sym, ap, ◌∙◌, subst, map}
use Rattle.std.specs.Prelude.{slice_get, Result, Ok, Err, if◌then◌else◌}
use Rattle.std.specs.List.{list_all}
use Rattle.std.proofs.lemmas.Bool.{or_left, cases_Bool}
use Rattle.std.proofs.lemmas.List.Folds.{list_any-append}
use Rattle.stn_core.specs.declared.literal.Literal.{Literal}
use Rattle.stn_core.specs.Literal.{negation_of}
use Rattle.refute_tree.specs.declared.step.Step.{Step}
use Rattle.refute_tree.specs.declared.step.Step.TheVariants.{Cycle, Input, Lemma as Earlier, Clash, Either}
use Rattle.cert_check.specs.declared.flaw.FlawKind.{FlawKind}
use Rattle.cert_check.specs.declared.flaw.FlawKind.TheVariants.{NoSuchPoint, NotDenied}
use Rattle.stn_core.specs.Literal.{same_literal}
use Rattle.cert_check.specs.Tests.{is_assumed, is_on_points, is_negative_cycle}
use Rattle.cert_check.specs.Flaws.{cases_of, cases_in, opened_by_clash, opened, flaw_at, after_step, steps_flaw}
use Rattle.cert_check.specs.code.Walks.{with_literal, IsAlike, AreAlike}
use Rattle.stn_core.proofs.SameLiteral.{same_literal_decides}
use Rattle.cert_check.proofs.Reading.{leaf_opened}

pub IsAlike-itself : (xs : List Literal) → IsAlike xs xs
IsAlike-itself xs l = refl

pub IsAlike-push : (xs ys : List Literal) (m : Literal) → IsAlike xs ys → IsAlike (xs ++ m ∷ []) (ys ++ m ∷ [])
IsAlike-push xs ys m h l =
    list_any-append (same_literal l) xs (m ∷ [])
    ∙ ap (λ (b : Bool). b || is_assumed (m ∷ []) l) (h l)
    ∙ sym (list_any-append (same_literal l) ys (m ∷ []))

same_again : (xs : List Literal) (m l : Literal) → is_assumed xs m ≡ true → is_assumed xs l ≡ (is_assumed xs l || (same_literal l m || false))
same_again xs m l e = elim (cases_Bool (same_literal l m)) [
  | inl same ↦
      let s : l ≡ m = (same_literal_decides l m).0 same in
      let there : is_assumed xs l ≡ true = subst (λ (k : Literal). is_assumed xs k ≡ true) (sym s) e in
      there ∙ sym (or_left (is_assumed xs l) (same_literal l m || false) there)
  | inr other ↦ by (is_assumed xs l) (same_literal l m) other
]
  where
    by : (a b : Bool) → b ≡ false → a ≡ (a || (b || false))
    by true b e = refl
    by false b e = sym (ap (λ (c : Bool). c || false) e)

with_by : (xs : List Literal) (m : Literal) (b : Bool) → is_assumed xs m ≡ b → IsAlike (if b then xs else xs ++ m ∷ []) (xs ++ m ∷ [])
with_by xs m true e l = same_again xs m l e ∙ sym (list_any-append (same_literal l) xs (m ∷ []))
with_by xs m false e l = refl

-- a literal that is assumed may be assumed again
pub assumed_again : (xs : List Literal) (m : Literal) → is_assumed xs m ≡ true → IsAlike xs (xs ++ m ∷ [])
assumed_again xs m e = with_by xs m true e

pub with_literal_alike : (xs : List Literal) (m : Literal) → IsAlike (with_literal xs m) (xs ++ m ∷ [])
with_literal_alike xs m = with_by xs m (is_assumed xs m) refl

pub AreAlike-itself : (xss : List (List Literal)) → AreAlike xss xss
AreAlike-itself [] = tt
AreAlike-itself (xs ∷ xss) = (IsAlike-itself xs, AreAlike-itself xss)

pub AreAlike-trans : (xss yss zss : List (List Literal)) → AreAlike xss yss → AreAlike yss zss → AreAlike xss zss
AreAlike-trans [] [] [] a b = tt
AreAlike-trans [] [] (z ∷ zss) a b = absurd b
AreAlike-trans [] (y ∷ yss) zss a b = absurd a
AreAlike-trans (x ∷ xss) [] zss a b = absurd a
AreAlike-trans (x ∷ xss) (y ∷ yss) [] a b = absurd b
AreAlike-trans (x ∷ xss) (y ∷ yss) (z ∷ zss) a b = (λ l. a.0 l ∙ b.0 l, AreAlike-trans xss yss zss a.1 b.1)

pub AreAlike-append : (xss yss uss vss : List (List Literal)) → AreAlike xss yss → AreAlike uss vss → AreAlike (xss ++ uss) (yss ++ vss)
AreAlike-append [] [] uss vss a b = b
AreAlike-append [] (y ∷ yss) uss vss a b = absurd a
AreAlike-append (x ∷ xss) [] uss vss a b = absurd a
AreAlike-append (x ∷ xss) (y ∷ yss) uss vss a b = (a.0, AreAlike-append xss yss uss vss a.1 b)

pub cases_alike : (xs ys clause : List Literal) → IsAlike xs ys → AreAlike (cases_of xs clause) (cases_of ys clause)
cases_alike xs ys [] h = tt
cases_alike xs ys (l ∷ clause) h = (IsAlike-push xs ys l h, cases_alike (xs ++ negation_of l ∷ []) (ys ++ negation_of l ∷ []) clause (IsAlike-push xs ys (negation_of l) h))

all_alike : (xs ys cycle : List Literal) → IsAlike xs ys → list_all (is_assumed xs) cycle ≡ list_all (is_assumed ys) cycle
all_alike xs ys [] h = refl
all_alike xs ys (l ∷ cycle) h = ap (λ (b : Bool). b && list_all (is_assumed xs) cycle) (h l) ∙ ap (λ (b : Bool). is_assumed ys l && b) (all_alike xs ys cycle h)

-- the same flaw, or cases that are alike
abbrev FoundAlike : Result (List (List Literal)) FlawKind → Result (List (List Literal)) FlawKind → Type 0
FoundAlike (Ok xss) (Ok yss) = AreAlike xss yss
FoundAlike (Ok xss) (Err kind) = ⊥
FoundAlike (Err kind) (Ok yss) = ⊥
FoundAlike (Err kind) (Err other) = kind ≡ other

FoundAlike-itself : (found : Result (List (List Literal)) FlawKind) → FoundAlike found found
FoundAlike-itself (Ok xss) = AreAlike-itself xss
FoundAlike-itself (Err kind) = refl

cases_in_alike : (xs ys : List Literal) (found : Option (List Literal)) → IsAlike xs ys → FoundAlike (cases_in xs found) (cases_in ys found)
cases_in_alike xs ys None h = refl
cases_in_alike xs ys (Some clause) h = cases_alike xs ys clause h

-- the test of a clash
abbrev clash_opened : Bool → Result (List (List Literal)) FlawKind
clash_opened denied = if denied then Ok [] else Err NotDenied

clash_alike : (xs ys : List Literal) (found : Option (List Literal)) → IsAlike xs ys → FoundAlike (opened_by_clash xs found) (opened_by_clash ys found)
clash_alike xs ys None h = refl
clash_alike xs ys (Some clause) h =
    subst (λ (b : Bool). FoundAlike (clash_opened (list_all (is_assumed xs) (map negation_of clause))) (clash_opened b)) (all_alike xs ys (map negation_of clause) h)
    (FoundAlike-itself (clash_opened (list_all (is_assumed xs) (map negation_of clause))))

either_alike : (xs ys : List Literal) (l : Literal) (b : Bool) → IsAlike xs ys → FoundAlike (if b then Ok (cases_of xs (l ∷ negation_of l ∷ [])) else Err NoSuchPoint) (if b then Ok (cases_of ys (l ∷ negation_of l ∷ [])) else Err NoSuchPoint)
either_alike xs ys l true h = cases_alike xs ys (l ∷ negation_of l ∷ []) h
either_alike xs ys l false h = refl

opened_alike : (points : ℕ) (clauses earlier : List (List Literal)) (xs ys : List Literal) (step : Step) → IsAlike xs ys → FoundAlike (opened points clauses earlier xs step) (opened points clauses earlier ys step)
opened_alike points clauses earlier xs ys (Cycle cycle) h =
    subst (λ (b : Bool). FoundAlike (leaf_opened (list_all (is_assumed xs) cycle) (is_negative_cycle cycle)) (leaf_opened b (is_negative_cycle cycle))) (all_alike xs ys cycle h)
    (FoundAlike-itself (leaf_opened (list_all (is_assumed xs) cycle) (is_negative_cycle cycle)))
opened_alike points clauses earlier xs ys (Input i) h = cases_in_alike xs ys (slice_get clauses i) h
opened_alike points clauses earlier xs ys (Earlier j) h = cases_in_alike xs ys (slice_get earlier j) h
opened_alike points clauses earlier xs ys (Clash i) h = clash_alike xs ys (slice_get clauses i) h
opened_alike points clauses earlier xs ys (Either l) h = either_alike xs ys l (is_on_points points l) h

module _ (points : ℕ) (clauses earlier : List (List Literal)) where
  found_alike : (number : ℕ) (steps : List Step) (xss yss : List (List Literal)) (a b : Result (List (List Literal)) FlawKind) → FoundAlike a b → AreAlike xss yss
      → ((uss vss : List (List Literal)) → AreAlike uss vss → steps_flaw points clauses earlier uss (suc number) steps ≡ steps_flaw points clauses earlier vss (suc number) steps)
      → after_step earlier number (λ opening. steps_flaw points clauses earlier (opening ++ xss) (suc number) steps) a ≡ after_step earlier number (λ opening. steps_flaw points clauses earlier (opening ++ yss) (suc number) steps) b
  found_alike number steps xss yss (Ok p) (Ok q) f h ih = ih (p ++ xss) (q ++ yss) (AreAlike-append p q xss yss f h)
  found_alike number steps xss yss (Ok p) (Err kind) f h ih = absurd f
  found_alike number steps xss yss (Err kind) (Ok q) f h ih = absurd f
  found_alike number steps xss yss (Err kind) (Err other) f h ih = ap (flaw_at earlier number) f

  -- the flaw is the same
  pub same_flaw : (steps : List Step) (number : ℕ) (xss yss : List (List Literal)) → AreAlike xss yss → steps_flaw points clauses earlier xss number steps ≡ steps_flaw points clauses earlier yss number steps
  same_flaw [] number [] [] h = refl
  same_flaw [] number [] (ys ∷ yss) h = absurd h
  same_flaw [] number (xs ∷ xss) [] h = absurd h
  same_flaw [] number (xs ∷ xss) (ys ∷ yss) h = refl
  same_flaw (step ∷ steps) number [] [] h = refl
  same_flaw (step ∷ steps) number [] (ys ∷ yss) h = absurd h
  same_flaw (step ∷ steps) number (xs ∷ xss) [] h = absurd h
  same_flaw (step ∷ steps) number (xs ∷ xss) (ys ∷ yss) h =
      found_alike number steps xss yss (opened points clauses earlier xs step) (opened points clauses earlier ys step) (opened_alike points clauses earlier xs ys step h.0) h.1 (λ uss vss k. same_flaw steps (suc number) uss vss k)
