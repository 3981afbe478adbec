-- A walk over what a lemma rests on.
use Rattle.std.proofs.Common.{arith, ◌≡◌, ℕ, zero, suc, ◌<◌, ◌≤◌, ◌+◌, inl, inr, List, [], ◌∷◌, ◌++◌, length, take, Option, Some, None, Bool, true, false, ◌==◌, All, Contains, refl, sym, ap, subst, ◌∙◌, append-nil, append_assoc}
use Rattle.std.specs.Prelude.{slice_get, is_some, MatchOption, if◌then◌else◌}
use Rattle.std.specs.List.{list_all, list_any}
use Rattle.std.proofs.lemmas.Bool.{both_ways, and_parts, and_from, or_cases, eqb-true, cases_lt}
use Rattle.std.proofs.lemmas.List.{length-take-le}
use Rattle.std.proofs.lemmas.List.Elements.{All-nil, All-cons, All-head, All-tail, All-append, All-weaker, All-contains, Contains-append_left}
use Rattle.std.proofs.lemmas.Option.{slice_get_within, get_or_from_slice_get, same_Some}
use Rattle.stn_core.specs.declared.literal.Literal.{Literal}
use Rattle.refute_tree.specs.declared.step.Step.{Step}
use Rattle.refute_tree.specs.declared.step.Step.TheVariants.{Cycle, Input, Lemma as Earlier, Clash, Either}
use Rattle.refute_tree.specs.declared.lemma.Lemma.{Lemma}
use Rattle.kept_lemmas.specs.Facts.{Fact, Facts, support_of_clause, support_of_fact, step_support}
use Rattle.kept_lemmas.proofs.FactLists.{all_at}
use Rattle.lemma_shelf.specs.code.Tables.{table_facts, fact_at, IsKnownStep, IsTable, IsPresent, with_number, step_passes, with_cited, with_all_cited, steps_at, StepIsClosed, IsClosed, AreClosed, is_active}
use Rattle.lemma_shelf.proofs.Lists.{get_longer, get_last, get_parts, some_there, at_contained, all_flat, all_parts}
use Rattle.lemma_shelf.proofs.TableFacts.{table_length, table_fact, table_taken, fact_is}
use Rattle.lemma_shelf.proofs.Tested.{all_clauses_decide}

-- ---- what is reached only grows

number_there : (reached : List ℕ) (n : ℕ) → list_any (λ (m : ℕ). n == m) reached ≡ true → Contains reached n
number_there [] n e = absurd (cc)
number_there (x ∷ xs) n e = elim (or_cases (n == x) (list_any (λ (m : ℕ). n == m) xs) e) [
  | inl a ↦ (0, omega arith, sym (eqb-true n x a))
  | inr b ↦ let h = number_there xs n b in (suc h.0, omega (arith, h.1), h.2)
]

-- the number is there now, and what else is new is that number
pub record IsWith (reached : List ℕ) (Sources : ℕ → Type 0) (now : List ℕ) : Type 0 where
  pub more : List ℕ
  pub longer : now ≡ reached ++ more
  pub sources : All Sources more

pub with_number_there : (reached : List ℕ) (n : ℕ) → Contains (with_number reached n) n
with_number_there reached n = by (list_any (λ (m : ℕ). n == m) reached) refl
  where
    by : (b : Bool) → list_any (λ (m : ℕ). n == m) reached ≡ b → Contains (if b then reached else reached ++ n ∷ []) n
    by true e = number_there reached n e
    by false e = at_contained (reached ++ n ∷ []) (length reached) n (get_last reached n)

pub with_number_longer : (reached : List ℕ) (n : ℕ) → IsWith reached (λ (m : ℕ). m ≡ n) (with_number reached n)
with_number_longer reached n = by (list_any (λ (m : ℕ). n == m) reached)
  where
    by : (b : Bool) → IsWith reached (λ (m : ℕ). m ≡ n) (if b then reached else reached ++ n ∷ [])
    by true = record { more = []; longer = sym (append-nil reached); sources = All-nil (λ (m : ℕ). m ≡ n) }
    by false = record { more = n ∷ []; longer = refl; sources = All-cons (λ (m : ℕ). m ≡ n) n [] refl (All-nil (λ (m : ℕ). m ≡ n)) }

abbrev pub CitedBy : List Step → ℕ → Type 0
CitedBy steps j = Contains steps (Earlier j)

later_cited : (steps : List Step) (t : Step) (j : ℕ) → CitedBy steps j → CitedBy (t ∷ steps) j
later_cited steps t j h = (suc h.0, omega (arith, h.1), h.2)

cited_first : (reached : List ℕ) (steps : List Step) → ((r : List ℕ) → IsWith r (CitedBy steps) (with_all_cited r steps)) → (t : Step) → IsWith reached (CitedBy (t ∷ steps)) (with_all_cited (with_cited reached t) steps)
cited_first reached steps others (Cycle cycle) = let w = others reached in record { more = w.more; longer = w.longer; sources = All-weaker (CitedBy steps) (CitedBy (Cycle cycle ∷ steps)) (later_cited steps (Cycle cycle)) w.more w.sources }
cited_first reached steps others (Input i) = let w = others reached in record { more = w.more; longer = w.longer; sources = All-weaker (CitedBy steps) (CitedBy (Input i ∷ steps)) (later_cited steps (Input i)) w.more w.sources }
cited_first reached steps others (Clash i) = let w = others reached in record { more = w.more; longer = w.longer; sources = All-weaker (CitedBy steps) (CitedBy (Clash i ∷ steps)) (later_cited steps (Clash i)) w.more w.sources }
cited_first reached steps others (Either l) = let w = others reached in record { more = w.more; longer = w.longer; sources = All-weaker (CitedBy steps) (CitedBy (Either l ∷ steps)) (later_cited steps (Either l)) w.more w.sources }
cited_first reached steps others (Earlier j) =
    let first = with_number_longer reached j in
    let rest = others (with_number reached j) in
    record {
      more = first.more ++ rest.more;
      longer = rest.longer ∙ ap (λ (xs : List ℕ). xs ++ rest.more) first.longer ∙ append_assoc reached first.more rest.more;
      sources =
          All-append (CitedBy (Earlier j ∷ steps)) first.more rest.more
          (All-weaker (λ (m : ℕ). m ≡ j) (CitedBy (Earlier j ∷ steps)) (λ m e. (0, omega arith, ap (λ (k : ℕ). Earlier k) (sym e))) first.more first.sources)
          (All-weaker (CitedBy steps) (CitedBy (Earlier j ∷ steps)) (later_cited steps (Earlier j)) rest.more rest.sources);
    }

pub cited_longer : (reached : List ℕ) (steps : List Step) → IsWith reached (CitedBy steps) (with_all_cited reached steps)
cited_longer reached [] = record { more = []; longer = sym (append-nil reached); sources = All-nil (CitedBy []) }
cited_longer reached (s ∷ steps) = cited_first reached steps (λ r. cited_longer r steps) s

closed_longer : (place : ℕ → Option ℕ) (reached more : List ℕ) (s : Step) → StepIsClosed place reached s → StepIsClosed place (reached ++ more) s
closed_longer place reached more (Cycle cycle) h = h
closed_longer place reached more (Input i) h = h
closed_longer place reached more (Earlier j) h = Contains-append_left reached more j h
closed_longer place reached more (Clash i) h = h
closed_longer place reached more (Either l) h = h

all_closed_longer : (place : ℕ → Option ℕ) (reached more now : List ℕ) (steps : List Step) → now ≡ reached ++ more → All (StepIsClosed place reached) steps → All (StepIsClosed place now) steps
all_closed_longer place reached more now steps e all =
    subst (λ (xs : List ℕ). All (StepIsClosed place xs) steps) (sym e) (All-weaker (StepIsClosed place reached) (StepIsClosed place (reached ++ more)) (closed_longer place reached more) steps all)

-- steps that pass are closed when what they cite is reached
closes : (place : ℕ → Option ℕ) (reached : List ℕ) (steps : List Step) → list_all (step_passes place) steps ≡ true → All (StepIsClosed place (with_all_cited reached steps)) steps
closes place reached [] e = All-nil (StepIsClosed place reached)
closes place reached (s ∷ steps) e =
    let parts = and_parts (step_passes place s) (list_all (step_passes place) steps) e in
    let rest = closes place (with_cited reached s) steps parts.1 in
    let longer = cited_longer (with_cited reached s) steps in
    let first : StepIsClosed place (with_all_cited (with_cited reached s) steps) s = subst (λ (xs : List ℕ). StepIsClosed place xs s) (sym longer.longer) (closed_longer place (with_cited reached s) longer.more s (here s parts.0)) in
    All-cons (StepIsClosed place (with_all_cited (with_cited reached s) steps)) s steps first rest
  where
    here : (t : Step) → step_passes place t ≡ true → StepIsClosed place (with_cited reached t) t
    here (Cycle cycle) p = tt
    here (Input i) p = p
    here (Earlier j) p = with_number_there reached j
    here (Clash i) p = p
    here (Either l) p = tt

-- what a walk from the root has come to: the first so many lemmas are closed, and the others are active where the root is
pub record IsWalking (book : List (List Literal)) (lemmas : List Lemma) (clauses : List (List Literal)) (place : ℕ → Option ℕ) (root : ℕ) (reached : List ℕ) (at : ℕ) : Type 0 where
  pub within : All (λ (n : ℕ). n < length lemmas) reached
  pub closed : (k n : ℕ) → k < at → slice_get reached k ≡ Some n → IsClosed lemmas place reached n
  pub needed : (k n : ℕ) → at ≤ k → slice_get reached k ≡ Some n → All (Contains clauses) (fact_at (table_facts book lemmas) root).support → All (Contains clauses) (fact_at (table_facts book lemmas) n).support
  pub there : Contains reached root

module _ (book : List (List Literal)) (lemmas : List Lemma) (points : List ℕ) (table : IsTable book lemmas points)
    (clauses : List (List Literal)) (place : ℕ → Option ℕ) (present : IsPresent book clauses clauses place) where
  abbrev T : Facts
  T = table_facts book lemmas

  abbrev Active : ℕ → Type 0
  Active n = All (Contains clauses) (fact_at (table_facts book lemmas) n).support

  abbrev StepActive : ℕ → Step → Type 0
  StepActive n s = All (Contains clauses) (step_support book (table_facts book (take n lemmas)) s)

  abbrev Known : ℕ → Step → Type 0
  Known n s = IsKnownStep (length book) n s

  lemma_there : (n : ℕ) → n < length lemmas → (lemma : Lemma) × (slice_get lemmas n ≡ Some lemma) × (steps_at lemmas n ≡ lemma.steps)
  lemma_there n lt =
      let found = some_there lemmas n lt in
      (found.0, found.1, ap (λ (l : Lemma). l.steps) (get_or_from_slice_get lemmas n found.0 (record { clause = []; steps = [] }) found.1))

  fact_there : (j : ℕ) (fact : Fact) → slice_get T j ≡ Some fact → fact_at T j ≡ fact
  fact_there j fact e = fact_is book lemmas j fact e

  -- ---- from the steps to the fact, and back

  active_forth : (n : ℕ) (lemma : Lemma) → slice_get lemmas n ≡ Some lemma → All (StepActive n) lemma.steps → Active n
  active_forth n lemma e all =
      subst (λ (fact : Fact). All (Contains clauses) fact.support) (sym (fact_there n _ (table_fact book lemmas n lemma e)))
      (all_flat (Contains clauses) (step_support book (table_facts book (take n lemmas))) lemma.steps all)

  active_back : (n : ℕ) (lemma : Lemma) → slice_get lemmas n ≡ Some lemma → Active n → All (StepActive n) lemma.steps
  active_back n lemma e a =
      all_parts (Contains clauses) (step_support book (table_facts book (take n lemmas))) lemma.steps
      (subst (λ (fact : Fact). All (Contains clauses) fact.support) (fact_there n _ (table_fact book lemmas n lemma e)) a)

  input_forth : (i : ℕ) (found : Option ℕ) (there : Option (List Literal)) → place i ≡ found → slice_get book i ≡ there → is_some found ≡ true → All (Contains clauses) (support_of_clause there)
  input_forth i None there p b e = absurd (cc)
  input_forth i (Some k) None p b e = All-nil (Contains clauses)
  input_forth i (Some k) (Some clause) p b e =
      let at : slice_get clauses k ≡ Some clause = subst (λ (o : Option ℕ). MatchOption o (Contains clauses clause → ⊥) (λ m. slice_get clauses m ≡ Some clause)) p (present i clause b) in
      All-cons (Contains clauses) clause [] (at_contained clauses k clause at) (All-nil (Contains clauses))

  input_back : (i : ℕ) (found : Option ℕ) → i < length book → place i ≡ found → All (Contains clauses) (support_of_clause (slice_get book i)) → is_some found ≡ true
  input_back i (Some k) lt p all = refl
  input_back i None lt p all =
      let there = some_there book i lt in
      let absent : Contains clauses there.0 → ⊥ = subst (λ (o : Option ℕ). MatchOption o (Contains clauses there.0 → ⊥) (λ m. slice_get clauses m ≡ Some there.0)) p (present i there.0 there.1) in
      let held : All (Contains clauses) (there.0 ∷ []) = subst (λ (o : Option (List Literal)). All (Contains clauses) (support_of_clause o)) there.1 all in
      absurd (absent (All-head (Contains clauses) there.0 [] held))

  earlier_forth : (n j : ℕ) (found : Option Fact) → slice_get (table_facts book (take n lemmas)) j ≡ found → Active j → All (Contains clauses) (support_of_fact found)
  earlier_forth n j None e a = All-nil (Contains clauses)
  earlier_forth n j (Some fact) e a = subst (λ (f : Fact). All (Contains clauses) f.support) (fact_there j fact (table_taken book lemmas n j fact e)) a

  -- a lemma that is cited by an active one is active
  earlier_back : (n j : ℕ) → n ≤ length lemmas → j < n → StepActive n (Earlier j) → Active j
  earlier_back n j le lt a =
      let long = table_length book (take n lemmas) in
      let taken = length-take-le n lemmas le in
      let there = some_there (table_facts book (take n lemmas)) j (omega (arith, long, taken)) in
      let held : All (Contains clauses) there.0.support = subst (λ (o : Option Fact). All (Contains clauses) (support_of_fact o)) there.1 a in
      subst (λ (f : Fact). All (Contains clauses) f.support) (sym (fact_there j there.0 (table_taken book lemmas n j there.0 there.1))) held

  step_forth : (n : ℕ) (reached : List ℕ) → ((j : ℕ) → j < n → Contains reached j → Active j) → (s : Step) → Known n s → StepIsClosed place reached s → StepActive n s
  step_forth n reached below (Cycle cycle) k h = All-nil (Contains clauses)
  step_forth n reached below (Input i) k h = input_forth i (place i) (slice_get book i) refl refl h
  step_forth n reached below (Earlier j) k h = earlier_forth n j (slice_get (table_facts book (take n lemmas)) j) refl (below j k h)
  step_forth n reached below (Clash i) k h = input_forth i (place i) (slice_get book i) refl refl h
  step_forth n reached below (Either l) k h = All-nil (Contains clauses)

  step_back : (n : ℕ) (s : Step) → Known n s → StepActive n s → step_passes place s ≡ true
  step_back n (Cycle cycle) k a = refl
  step_back n (Input i) k a = input_back i (place i) k refl a
  step_back n (Earlier j) k a = refl
  step_back n (Clash i) k a = input_back i (place i) k refl a
  step_back n (Either l) k a = refl

  steps_forth : (n : ℕ) (reached : List ℕ) → ((j : ℕ) → j < n → Contains reached j → Active j) → (steps : List Step) → All (Known n) steps → All (StepIsClosed place reached) steps → All (StepActive n) steps
  steps_forth n reached below [] k h = All-nil (StepActive n)
  steps_forth n reached below (s ∷ steps) k h =
      All-cons (StepActive n) s steps (step_forth n reached below s (All-head (Known n) s steps k) (All-head (StepIsClosed place reached) s steps h))
      (steps_forth n reached below steps (All-tail (Known n) s steps k) (All-tail (StepIsClosed place reached) s steps h))

  steps_back : (n : ℕ) (steps : List Step) → All (Known n) steps → All (StepActive n) steps → list_all (step_passes place) steps ≡ true
  steps_back n [] k a = refl
  steps_back n (s ∷ steps) k a =
      and_from (step_passes place s) (list_all (step_passes place) steps) (step_back n s (All-head (Known n) s steps k) (All-head (StepActive n) s steps a))
      (steps_back n steps (All-tail (Known n) s steps k) (All-tail (StepActive n) s steps a))

  -- ---- closed lemmas are active

  pub closed_active : (reached : List ℕ) → AreClosed lemmas place reached → (bound n : ℕ) → n < bound → Contains reached n → Active n
  closed_active reached c zero n lt in_ = absurd (omega arith)
  closed_active reached c (suc bound) n lt in_ =
      let within : n < length lemmas = All-contains (λ (m : ℕ). m < length lemmas) reached n c.within in_ in
      let found = lemma_there n within in
      let steps : All (StepIsClosed place reached) found.0.steps = subst (All (StepIsClosed place reached)) found.2 (All-contains (IsClosed lemmas place reached) reached n c.closed in_) in
      active_forth n found.0 found.1 (steps_forth n reached (λ j below h. closed_active reached c bound j (omega (arith, below, lt)) h) found.0.steps (table.each n found.0 found.1).known steps)

  -- ---- turn by turn

  abbrev Walks : ℕ → List ℕ → ℕ → Type 0
  Walks root reached at = IsWalking book lemmas clauses place root reached at

  pub begun : (root : ℕ) (reached now : List ℕ) (at : ℕ) → AreClosed lemmas place reached → root < length lemmas → now ≡ with_number reached root → at ≡ length reached → Walks root now at
  begun root reached now at c lt e is =
      let w = with_number_longer reached root in
      let e2 : now ≡ reached ++ w.more = e ∙ w.longer in
      record {
        within = subst (All (λ (n : ℕ). n < length lemmas)) (sym e2) (All-append (λ (n : ℕ). n < length lemmas) reached w.more c.within (All-weaker (λ (m : ℕ). m ≡ root) (λ (n : ℕ). n < length lemmas) (λ m s. omega (arith, s, lt)) w.more w.sources));
        closed = λ k n below got. closed k n (omega (arith, below, is)) (ap (λ (xs : List ℕ). slice_get xs k) (sym e2) ∙ got);
        needed = λ k n above got. needed k n (omega (arith, above, is)) (ap (λ (xs : List ℕ). slice_get xs k) (sym e2) ∙ got);
        there = subst (λ (xs : List ℕ). Contains xs root) (sym e) (with_number_there reached root);
      }
    where
      closed : (k n : ℕ) → k < length reached → slice_get (reached ++ (with_number_longer reached root).more) k ≡ Some n → IsClosed lemmas place now n
      closed k n below got =
          let w = with_number_longer reached root in
          elim (get_parts reached w.more k n got) [
            | inl h ↦ all_closed_longer place reached w.more now (steps_at lemmas n) (e ∙ w.longer) (all_at (IsClosed lemmas place reached) reached k n c.closed h.1)
            | inr h ↦ absurd (omega (arith, h.0, below))
          ]

      needed : (k n : ℕ) → length reached ≤ k → slice_get (reached ++ (with_number_longer reached root).more) k ≡ Some n → Active root → Active n
      needed k n above got a =
          let w = with_number_longer reached root in
          elim (get_parts reached w.more k n got) [
            | inl h ↦ absurd (omega (arith, h.0, above))
            | inr h ↦ subst Active (sym (All-contains (λ (m : ℕ). m ≡ root) w.more n w.sources h.1)) a
          ]

  module _ (root : ℕ) (reached : List ℕ) (at n : ℕ) (w : Walks root reached at) (got : slice_get reached at ≡ Some n) where
    number_within : n < length lemmas
    number_within = all_at (λ (m : ℕ). m < length lemmas) reached at n w.within got

    pub turn : (now : List ℕ) → list_all (step_passes place) (steps_at lemmas n) ≡ true → now ≡ with_all_cited reached (steps_at lemmas n) → Walks root now (at + 1)
    turn now passes e = record {
      within = subst (All (λ (m : ℕ). m < length lemmas)) (sym e2) (All-append (λ (m : ℕ). m < length lemmas) reached longer.more w.within (All-weaker (CitedBy (steps_at lemmas n)) (λ (m : ℕ). m < length lemmas) cited_within longer.more longer.sources));
      closed = λ k m below is. closed k m below (ap (λ (xs : List ℕ). slice_get xs k) (sym e2) ∙ is);
      needed = λ k m above is. needed k m above (ap (λ (xs : List ℕ). slice_get xs k) (sym e2) ∙ is);
      there = subst (λ (xs : List ℕ). Contains xs root) (sym e2) (Contains-append_left reached longer.more root w.there);
    }
      where
        longer : IsWith reached (CitedBy (steps_at lemmas n)) (with_all_cited reached (steps_at lemmas n))
        longer = cited_longer reached (steps_at lemmas n)

        e2 : now ≡ reached ++ longer.more
        e2 = e ∙ longer.longer

        cited_below : (j : ℕ) → CitedBy (steps_at lemmas n) j → j < n
        cited_below j h =
            let found = lemma_there n number_within in
            All-contains (Known n) found.0.steps (Earlier j) (table.each n found.0 found.1).known (subst (λ (steps : List Step). Contains steps (Earlier j)) found.2 h)

        cited_within : (j : ℕ) → CitedBy (steps_at lemmas n) j → j < length lemmas
        cited_within j h = let below = cited_below j h in let lt = number_within in omega (arith, below, lt)

        cited_active : (j : ℕ) → CitedBy (steps_at lemmas n) j → Active n → Active j
        cited_active j h a =
            let found = lemma_there n number_within in
            let steps = active_back n found.0 found.1 a in
            let lt = number_within in
            earlier_back n j (omega (arith, lt)) (cited_below j h) (All-contains (StepActive n) found.0.steps (Earlier j) steps (subst (λ (ss : List Step). Contains ss (Earlier j)) found.2 h))

        closed : (k m : ℕ) → k < at + 1 → slice_get (reached ++ longer.more) k ≡ Some m → IsClosed lemmas place now m
        closed k m below is = elim (cases_lt k at) [
          | inl lt ↦ elim (get_parts reached longer.more k m is) [
            | inl h ↦ all_closed_longer place reached longer.more now (steps_at lemmas m) e2 (w.closed k m lt h.1)
            | inr h ↦ let in_reached = slice_get_within reached at n got in absurd (omega (arith, h.0, lt, in_reached))
          ]
          | inr ge ↦
              let same : k ≡ at = omega (arith, below, ge) in
              let here : n ≡ m = same_Some n m (sym (get_longer reached longer.more at n got) ∙ ap (λ (i : ℕ). slice_get (reached ++ longer.more) i) (sym same) ∙ is) in
              subst (IsClosed lemmas place now) here (subst (λ (xs : List ℕ). All (StepIsClosed place xs) (steps_at lemmas n)) (sym e) (closes place reached (steps_at lemmas n) passes))
        ]

        needed : (k m : ℕ) → at + 1 ≤ k → slice_get (reached ++ longer.more) k ≡ Some m → Active root → Active m
        needed k m above is a = elim (get_parts reached longer.more k m is) [
          | inl h ↦ w.needed k m (omega (arith, above)) h.1 a
          | inr h ↦ cited_active m (All-contains (CitedBy (steps_at lemmas n)) longer.more m longer.sources h.1) (w.needed at n (omega arith) got a)
        ]

    pub stopped : list_all (step_passes place) (steps_at lemmas n) ≡ false → false ≡ is_active clauses (table_facts book lemmas) root
    stopped fails = by (is_active clauses (table_facts book lemmas) root) refl
      where
        by : (b : Bool) → is_active clauses (table_facts book lemmas) root ≡ b → false ≡ b
        by false e = refl
        by true e =
            let a : Active root = (all_clauses_decide clauses (fact_at (table_facts book lemmas) root).support).0 e in
            let found = lemma_there n number_within in
            let passes = steps_back n found.0.steps (table.each n found.0 found.1).known (active_back n found.0 found.1 (w.needed at n (omega arith) got a)) in
            absurd (both_ways (list_all (step_passes place) found.0.steps) (ap (list_all (step_passes place)) (sym found.2) ∙ fails) passes)

  module _ (root : ℕ) (reached : List ℕ) (at : ℕ) (w : Walks root reached at) (end : length reached ≤ at) where
    pub all_closed : AreClosed lemmas place reached
    all_closed = record { within = w.within; closed = by_place reached (λ k n is. (let lt = slice_get_within reached k n is in w.closed k n (omega (arith, lt, end)) is)) }
      where
        by_place : (xs : List ℕ) → ((k n : ℕ) → slice_get xs k ≡ Some n → IsClosed lemmas place reached n) → All (IsClosed lemmas place reached) xs
        by_place [] h = All-nil (IsClosed lemmas place reached)
        by_place (x ∷ xs) h = All-cons (IsClosed lemmas place reached) x xs (h 0 x refl) (by_place xs (λ k n is. h (suc k) n is))

    pub ended : true ≡ is_active clauses (table_facts book lemmas) root
    ended = sym ((all_clauses_decide clauses (fact_at (table_facts book lemmas) root).support).1 (closed_active reached all_closed (suc root) root (omega arith) w.there))

pub number_in : (book : List (List Literal)) (lemmas : List Lemma) (clauses : List (List Literal)) (place : ℕ → Option ℕ) (root : ℕ) (reached : List ℕ) (at n : ℕ) → IsWalking book lemmas clauses place root reached at → slice_get reached at ≡ Some n → n < length lemmas
number_in book lemmas clauses place root reached at n w got = all_at (λ (m : ℕ). m < length lemmas) reached at n w.within got

pub steps_are : (lemmas : List Lemma) (n : ℕ) (lemma : Lemma) (steps : List Step) → slice_get lemmas n ≡ Some lemma → steps ≡ lemma.steps → steps ≡ steps_at lemmas n
steps_are lemmas n lemma steps e is = is ∙ sym (ap (λ (l : Lemma). l.steps) (get_or_from_slice_get lemmas n lemma (record { clause = []; steps = [] }) e))
