-- The sums in all choices of a case of each term, as cases that are added term by term.
use Rattle.std.proofs.Common.{refl, ap, sym, arith, ◌∙◌, ◌≡◌, ◌<◌, ◌≤◌, ◌+◌, ◌^◌, ℕ, List, [], ◌∷◌, ◌++◌, length, map, take, drop, get_or, Bool, true, false, Bor}
use Rattle.std.specs.Prelude.{Ok, Err, if◌then◌else◌}
use Rattle.std.specs.List.{AllByRecursion}
use Rattle.std.proofs.lemmas.Bool.Decides.{nat_tests}
use Rattle.std.proofs.lemmas.List.{at_drop_more, at_drop_all, length-append, length-map, map-append}
use Rattle.idl_linear.specs.declared.error.LinearError.{LinearError}
use Rattle.idl_linear.specs.declared.error.LinearError.TheVariants as linear
use Rattle.idl_linear.specs.Linear.{LinearValue, negative_of, sum_of, less_others}
use Rattle.idl_linear.specs.code.Steps.{Refuses}
use Rattle.idl_node.specs.Nodes.{NodeValue}
use Rattle.idl_cases.specs.Guarded.{CaseValue}
use Rattle.idl_cases.specs.Limits.{cases_limit}
use Rattle.idl_cases.specs.code.CaseSums.{added, added_each, added_all, pair_sum, signed_cases, signed_linear}
use Rattle.idl_apply.specs.Applied.{a_number, are_limited, as_number, sum_case, sum_cases, summed}
use Rattle.idl_apply.specs.code.Applying.{SumsTerms, of_linear, taken_from}
use Rattle.idl_apply.specs.Choices.{Choice, no_choice, with_case, with_term, choices, choices_from, count_from, are_few}
use Rattle.idl_apply.specs.declared.error.TermRefusal.TheVariants.{BoundTooLarge, TooManyCases}
use Rattle.idl_apply.specs.declared.error.TermError.TheVariants.{OutOfMemory, Refused}
use Rattle.idl_apply.specs.declared.operator.Sign.{Sign}
use Rattle.idl_apply.specs.declared.operator.Sign.TheVariants.{Plus, Minus}
use Rattle.idl_apply.proofs.Arguments.{seen}
use Rattle.idl_apply.proofs.CaseSteps.{choices_counted}
use Rattle.idl_apply.proofs.SumsBehind.{sum_behind}

abbrev case_of : List ℕ → LinearValue → CaseValue
case_of guards l = record { guards = guards; linear = l }

abbrev nothing : CaseValue
nothing = record { guards = []; linear = sum_of [] }

-- ---- what holds of the linear terms of each choice

abbrev Each : (List LinearValue → Type 0) → List Choice → Type 0
Each P cs = AllByRecursion (λ (c : Choice). P c.linears) cs

module _ (P Q : List LinearValue → Type 0) (more : (ls : List LinearValue) (l : LinearValue) → P ls → Q (ls ++ l ∷ [])) where
  each_case : (c : Choice) (cases : List CaseValue) (rest : List Choice) → P c.linears → Each Q rest → Each Q (map (with_case c) cases ++ rest)
  each_case c [] rest p h = h
  each_case c (x ∷ xs) rest p h = (more c.linears x.linear p, each_case c xs rest p h)

  each_term : (cs : List Choice) (cases : List CaseValue) → Each P cs → Each Q (with_term cs cases)
  each_term [] cases h = tt
  each_term (c ∷ cs) cases h = each_case c cases (with_term cs cases) h.0 (each_term cs cases h.1)

each_choice : (P : List LinearValue → Type 0) → ((ls : List LinearValue) (l : LinearValue) → P ls → P (ls ++ l ∷ [])) → (terms : List (List CaseValue)) (cs : List Choice) → Each P cs → Each P (choices_from cs terms)
each_choice P more [] cs h = h
each_choice P more (cases ∷ terms) cs h = each_choice P more terms (with_term cs cases) (each_term P P more cs cases h)

-- ---- totals

module _ (total : List LinearValue → LinearValue) where
  abbrev of_choice : Choice → CaseValue
  of_choice c = record { guards = c.guards; linear = total c.linears }

  module _ (P : List LinearValue → Type 0) where
    abbrev Adds : Bool → Type 0
    Adds negated = (ls : List LinearValue) (l : LinearValue) → P ls → total (ls ++ l ∷ []) ≡ pair_sum (total ls) (signed_linear negated l)

    total_row : (negated : Bool) → Adds negated → (c : Choice) → P c.linears → (cases : List CaseValue) → map of_choice (map (with_case c) cases) ≡ map (added (of_choice c)) (signed_cases negated cases)
    total_row true adds c p [] = refl
    total_row true adds c p (x ∷ xs) =
        ap (λ (l : LinearValue). case_of (c.guards ++ x.guards) l ∷ map of_choice (map (with_case c) xs)) (adds c.linears x.linear p)
        ∙ ap (λ (cs : List CaseValue). case_of (c.guards ++ x.guards) (pair_sum (total c.linears) (negative_of x.linear)) ∷ cs) (total_row true adds c p xs)
    total_row false adds c p [] = refl
    total_row false adds c p (x ∷ xs) =
        ap (λ (l : LinearValue). case_of (c.guards ++ x.guards) l ∷ map of_choice (map (with_case c) xs)) (adds c.linears x.linear p)
        ∙ ap (λ (cs : List CaseValue). case_of (c.guards ++ x.guards) (pair_sum (total c.linears) x.linear) ∷ cs) (total_row false adds c p xs)

    total_term : (negated : Bool) → Adds negated → (cs : List Choice) → Each P cs → (cases : List CaseValue) → map of_choice (with_term cs cases) ≡ added_each (map of_choice cs) (signed_cases negated cases)
    total_term negated adds [] h cases = refl
    total_term negated adds (c ∷ cs) h cases =
        map-append of_choice (map (with_case c) cases) (with_term cs cases)
        ∙ ap (λ (xs : List CaseValue). xs ++ map of_choice (with_term cs cases)) (total_row negated adds c h.0 cases)
        ∙ ap (λ (xs : List CaseValue). map (added (of_choice c)) (signed_cases negated cases) ++ xs) (total_term negated adds cs h.1 cases)

    total_choices : (negated : Bool) → Adds negated → ((ls : List LinearValue) (l : LinearValue) → P ls → P (ls ++ l ∷ [])) → (terms : List (List CaseValue)) (cs : List Choice) → Each P cs
        → map of_choice (choices_from cs terms) ≡ added_all (map of_choice cs) (map (signed_cases negated) terms)
    total_choices negated adds more [] cs h = refl
    total_choices negated adds more (cases ∷ terms) cs h =
        total_choices negated adds more terms (with_term cs cases) (each_term P P more cs cases h)
        ∙ ap (λ (xs : List CaseValue). added_all xs (map (signed_cases negated) terms)) (total_term negated adds cs h cases)

-- ---- `+`

abbrev Any : List LinearValue → Type 0
Any ls = Unit {0}

plus_all : (terms : List (List CaseValue)) → map (sum_case Plus) (choices terms) ≡ added_all (nothing ∷ []) (map (signed_cases false) terms)
plus_all terms = total_choices sum_of Any false (λ ls l p. sym (sum_behind ls l)) (λ ls l p. tt) terms (no_choice ∷ []) (tt, tt)

-- ---- `-`

less_none : less_others [] ≡ sum_of []
unfolding sum_of
less_none = refl

-- the first, and the negatives of the others
abbrev less_first : List LinearValue → LinearValue
less_first [] = sum_of []
less_first (l ∷ ls) = sum_of (l ∷ map negative_of ls)

first_adds : (ls : List LinearValue) (l : LinearValue) → 0 < length ls → less_first (ls ++ l ∷ []) ≡ pair_sum (less_first ls) (negative_of l)
first_adds [] l h = absurd (omega arith)
first_adds (a ∷ ls) l h = ap (λ (ms : List LinearValue). sum_of (a ∷ ms)) (map-append negative_of ls (l ∷ [])) ∙ sym (sum_behind (a ∷ map negative_of ls) (negative_of l))

one_longer : (n : ℕ) (ls : List LinearValue) (l : LinearValue) → n ≤ length ls → n < length (ls ++ l ∷ [])
one_longer n ls l h = omega (arith, length-append ls (l ∷ []), h)

less_is : (ls : List LinearValue) → 1 < length ls → less_others ls ≡ less_first ls
less_is [] h = absurd (omega arith)
less_is (l ∷ []) h = absurd (omega arith)
less_is (l ∷ m ∷ ms) h = refl

less_each : (cs : List Choice) → Each (λ ls. 1 < length ls) cs → map (sum_case Minus) cs ≡ map (of_choice less_first) cs
less_each [] h = refl
less_each (c ∷ cs) h = ap (λ (l : LinearValue). case_of c.guards l ∷ map (sum_case Minus) cs) (less_is c.linears h.0) ∙ ap (λ (xs : List CaseValue). of_choice less_first c ∷ xs) (less_each cs h.1)

-- of one term
minus_one : (cases : List CaseValue) → map (sum_case Minus) (choices (cases ∷ [])) ≡ added_all (nothing ∷ []) (signed_cases true cases ∷ [])
minus_one cases =
    total_term less_others (λ ls. ls ≡ []) true
    (λ ls l e.
    ap (λ (ms : List LinearValue). less_others (ms ++ l ∷ [])) e
    ∙ sym (sum_behind [] (negative_of l))
    ∙ ap (λ (m : LinearValue). pair_sum m (negative_of l)) (sym (ap less_others e ∙ less_none)))
    (no_choice ∷ []) (refl, tt) cases
    ∙ ap (λ (l : LinearValue). added_each (case_of [] l ∷ []) (signed_cases true cases)) less_none

-- of more
minus_more : (first second : List CaseValue) (others : List (List CaseValue))
    → map (sum_case Minus) (choices (first ∷ second ∷ others)) ≡ added_all (added_all (nothing ∷ []) (first ∷ [])) (map (signed_cases true) (second ∷ others))
minus_more first second others =
    let one : Each (λ ls. 0 < length ls) (with_term (no_choice ∷ []) first) = each_term Any (λ ls. 0 < length ls) (λ ls l p. one_longer 0 ls l (omega arith)) (no_choice ∷ []) first (tt, tt) in
    let two : Each (λ ls. 1 < length ls) (with_term (with_term (no_choice ∷ []) first) second) =
    each_term (λ ls. 0 < length ls) (λ ls. 1 < length ls) (λ ls l p. one_longer 1 ls l (omega (arith, p))) (with_term (no_choice ∷ []) first) second one in
    less_each (choices (first ∷ second ∷ others)) (each_choice (λ ls. 1 < length ls) (λ ls l p. one_longer 1 ls l (omega (arith, p))) others (with_term (with_term (no_choice ∷ []) first) second) two)
    ∙ total_choices less_first (λ ls. 0 < length ls) true first_adds (λ ls l p. one_longer 0 ls l (omega arith)) (second ∷ others) (with_term (no_choice ∷ []) first) one
    ∙ ap (λ (xs : List CaseValue). added_all xs (map (signed_cases true) (second ∷ others)))
    (total_term less_first (λ ls. ls ≡ []) false
    (λ ls l e. ap (λ (ms : List LinearValue). less_first (ms ++ l ∷ [])) e ∙ sym (sum_behind [] l) ∙ ap (λ (m : LinearValue). pair_sum m l) (sym (ap less_first e)))
    (no_choice ∷ []) (refl, tt) first)

-- ---- either

abbrev total_of : List (List CaseValue) → List (List CaseValue) → List CaseValue
total_of front back = added_all (added_all (nothing ∷ []) (map (signed_cases false) front)) (map (signed_cases true) back)

taken_all : {A : Type 0} (xs : List A) → take (length xs) xs ≡ xs
taken_all [] = refl
taken_all {A = A} (x ∷ xs) = ap (λ (ys : List A). x ∷ ys) (taken_all xs)

same_each : (xs : List (List CaseValue)) → map (signed_cases false) xs ≡ xs
same_each [] = refl
same_each (x ∷ xs) = ap (λ (ys : List (List CaseValue)). x ∷ ys) (same_each xs)

total_is : (s : Sign) (bs : List (Bor (List CaseValue))) → total_of (seen (take (taken_from s (length bs)) bs)) (seen (drop (taken_from s (length bs)) bs)) ≡ sum_cases s (seen bs)
total_is Plus bs =
    ap (λ (xs : List (Bor (List CaseValue))). total_of (seen xs) (seen (drop (length bs) bs))) (taken_all bs)
    ∙ at_drop_all (λ (xs : List (Bor (List CaseValue))). total_of (seen bs) (seen xs)) bs (length bs) (omega arith)
    ∙ sym (plus_all (seen bs))
total_is Minus [] = ap (λ (l : LinearValue). case_of [] l ∷ []) (sym less_none)
total_is Minus (b ∷ []) = sym (minus_one b.now)
total_is Minus (b ∷ c ∷ bs) = sym (minus_more b.now c.now (seen bs))

-- what the code adds
pub added_total : (s : Sign) (bs front back : List (Bor (List CaseValue))) (n : ℕ) (start first last : List CaseValue) → n ≡ taken_from s (length bs) → front ≡ take n bs → back ≡ drop n bs → start ≡ nothing ∷ []
    → first ≡ added_all start (map (signed_cases false) (seen front)) → last ≡ added_all first (map (signed_cases true) (seen back)) → last ≡ sum_cases s (seen bs)
added_total s bs front back n start first last e f g begin one two =
    two
    ∙ ap (λ (xs : List CaseValue). added_all xs (map (signed_cases true) (seen back))) (one ∙ ap (λ (xs : List CaseValue). added_all xs (map (signed_cases false) (seen front))) begin)
    ∙ ap (λ (xs : List (Bor (List CaseValue))). total_of (seen xs) (seen back)) (f ∙ ap (λ (k : ℕ). take k bs) e)
    ∙ ap (λ (xs : List (Bor (List CaseValue))). total_of (seen (take (taken_from s (length bs)) bs)) (seen xs)) (g ∙ ap (λ (k : ℕ). drop k bs) e)
    ∙ total_is s bs

-- one more of them
pub one_more_added : (negated : Bool) (terms : List (Bor (List CaseValue))) (k : ℕ) (term : Bor (List CaseValue)) (before after : List CaseValue) → k < length terms → after ≡ added_each before (signed_cases negated term.now)
    → term ≡ get_or terms k term
    → added_all before (map (signed_cases negated) (seen (drop k terms))) ≡ added_all after (map (signed_cases negated) (seen (drop (k + 1) terms)))
one_more_added negated terms k term before after within e at =
    at_drop_more (λ (ts : List (Bor (List CaseValue))). added_all before (map (signed_cases negated) (seen ts))) terms k term within
    ∙ ap (λ (t : Bor (List CaseValue)). added_all (added_each before (signed_cases negated t.now)) (map (signed_cases negated) (seen (drop (k + 1) terms)))) (sym at)
    ∙ ap (λ (xs : List CaseValue). added_all xs (map (signed_cases negated) (seen (drop (k + 1) terms)))) (sym e)

-- ---- the limits

module _ (s : Sign) (terms : List (List CaseValue)) where
  pub sums_many : are_few (count_from 1 terms) ≡ false → SumsTerms s terms (Err (Refused TooManyCases))
  sums_many e = λ nodes. ap (λ (b : Bool). if b then as_number nodes (sum_cases s terms) else Err TooManyCases) e

  module _ (few : are_few (count_from 1 terms) ≡ true) (total : List CaseValue) (is : total ≡ sum_cases s terms) where
    pub total_few : length total < 2 ^ 32
    total_few =
        let count : length total ≡ count_from 1 terms = ap length is ∙ length-map (choices terms) (sum_case s) ∙ choices_counted (no_choice ∷ []) terms in
        let small : count_from 1 terms ≤ cases_limit = grind (arith, nat_tests) in
        omega (arith, count, small)

    summed_is : (nodes : List NodeValue) → summed s nodes terms ≡ as_number nodes total
    summed_is nodes = rw few (ap (as_number nodes) (sym is))

    pub sums_made : (cases : List CaseValue) → cases ≡ total → are_limited total ≡ true → SumsTerms s terms (Ok cases)
    sums_made cases e limited = λ nodes. summed_is nodes ∙ rw limited (ap (λ (cs : List CaseValue). Ok (a_number nodes cs)) (sym e))

    pub sums_refused : (why : LinearError) → Refuses why (are_limited total) → SumsTerms s terms (Err (of_linear why))
    sums_refused linear.OutOfMemory h = tt
    sums_refused linear.BoundTooLarge h = λ nodes. summed_is nodes ∙ rw h refl
