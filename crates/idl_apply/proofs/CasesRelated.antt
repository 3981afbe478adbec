-- What is made of a pair of terms in each case of their difference, step by step.
use Rattle.std.proofs.Common.{refl, ap, sym, subst, arith, ◌∙◌, ◌≡◌, ◌<◌, ◌≤◌, ◌+◌, ◌*◌, ◌-◌, ◌^◌, min, ℕ, List, [], ◌∷◌, ◌++◌, length, map, drop, true, pos, append-nil}
use Rattle.std.specs.Prelude.{Result, Ok, Err}
use Rattle.std.proofs.lemmas.Bool.Decides.{nat_tests}
use Rattle.std.proofs.lemmas.List.{at_drop_more, at_drop_all, length-map}
use Rattle.idl_linear.specs.Differences.{difference_in, difference_of}
use Rattle.idl_linear.specs.Linear.{LinearValue, sum_of, negative_of, number_alone}
use Rattle.idl_node.specs.Making.{denied, disjoined}
use Rattle.idl_node.specs.Nodes.{NodeValue, Placed}
use Rattle.idl_cases.specs.Guarded.{CaseValue}
use Rattle.idl_cases.specs.Limits.{cases_limit}
use Rattle.idl_cases.specs.code.CaseSums.{added, added_each, case_at, negated_case, pair_sum, summed_cases, Summed}
use Rattle.idl_cases.proofs.CaseLaws.{length-added}
use Rattle.idl_apply.specs.Choices.{are_few}
use Rattle.idl_apply.specs.Comparing.{follows, or_too_large, related_by, case_compared, case_pairs, each_case_compared, cases_compared}
use Rattle.idl_apply.specs.code.Pairing.{case_related, each_related}
use Rattle.idl_apply.specs.code.Shapes.{GoesOn, Places}
use Rattle.idl_apply.specs.declared.comparing.Relation.{Relation}
use Rattle.idl_apply.specs.declared.error.TermError.{TermError}
use Rattle.idl_apply.specs.declared.error.TermError.TheVariants.{OutOfMemory, Refused}
use Rattle.idl_apply.specs.declared.error.TermRefusal.{TermRefusal}
use Rattle.idl_apply.proofs.SumsBehind.{sum_behind}

-- ---- a pair of terms by its difference

follows_alike : (o : Result Placed TermRefusal) (f g : Placed → Result Placed TermRefusal) → ((p : Placed) → f p ≡ g p) → follows o f ≡ follows o g
follows_alike (Ok p) f g h = h p
follows_alike (Err why) f g h = refl

abbrev nothing : CaseValue
nothing = record { guards = []; linear = sum_of [] }

difference_same : (a b : LinearValue) → difference_of a b ≡ difference_in (pair_sum (pair_sum (sum_of []) a) (negative_of b))
unfolding difference_of
difference_same a b =
    ap difference_in (sym (sum_behind (a ∷ []) (negative_of b)) ∙ ap (λ (l : LinearValue). pair_sum l (negative_of b)) (sym (sum_behind [] a)))

module _ (r : Relation) where
  case_same : (a b l : LinearValue) → difference_of a b ≡ difference_in l → (guards : List ℕ) (nodes : List NodeValue) (members : List ℕ) → case_compared r nodes members guards a b ≡ case_related r nodes members guards l
  case_same a b l e [] nodes members = ap (λ d. follows (related_by r nodes d) (λ (p : Placed). or_too_large (disjoined p.nodes (members ++ p.number ∷ [])))) e
  case_same a b l e (g ∷ guards) nodes members =
      follows_alike (or_too_large (denied nodes g)) (λ p. case_compared r p.nodes (members ++ p.number ∷ []) guards a b) (λ p. case_related r p.nodes (members ++ p.number ∷ []) guards l)
      (λ p. case_same a b l e guards p.nodes (members ++ p.number ∷ []))

  module _ (a : CaseValue) (pairs : List (CaseValue × CaseValue)) (cases : List CaseValue) (rest : (nodes : List NodeValue) (members : List ℕ) → each_case_compared r nodes members pairs ≡ each_related r nodes members cases) where
    row_same : (bs : List CaseValue) (nodes : List NodeValue) (members : List ℕ)
        → each_case_compared r nodes members (map (λ (b : CaseValue). (a, b)) bs ++ pairs) ≡ each_related r nodes members (map (added (added nothing a)) (map negated_case bs) ++ cases)
    row_same [] nodes members = rest nodes members
    row_same (b ∷ bs) nodes members =
        ap (λ (o : Result Placed TermRefusal). follows o (λ (q : Placed). each_case_compared r q.nodes (members ++ q.number ∷ []) (map (λ (c : CaseValue). (a, c)) bs ++ pairs)))
        (case_same a.linear b.linear (pair_sum (pair_sum (sum_of []) a.linear) (negative_of b.linear)) (difference_same a.linear b.linear) (a.guards ++ b.guards) nodes [])
        ∙ follows_alike (case_related r nodes [] (a.guards ++ b.guards) (pair_sum (pair_sum (sum_of []) a.linear) (negative_of b.linear)))
        (λ q. each_case_compared r q.nodes (members ++ q.number ∷ []) (map (λ (c : CaseValue). (a, c)) bs ++ pairs))
        (λ q. each_related r q.nodes (members ++ q.number ∷ []) (map (added (added nothing a)) (map negated_case bs) ++ cases))
        (λ q. row_same bs q.nodes (members ++ q.number ∷ []))

  pairs_same : (bs firsts : List CaseValue) (nodes : List NodeValue) (members : List ℕ) → each_case_compared r nodes members (case_pairs firsts bs) ≡ each_related r nodes members (added_each (map (added nothing) firsts) (map negated_case bs))
  pairs_same bs [] nodes members = refl
  pairs_same bs (a ∷ firsts) nodes members =
      row_same a (case_pairs firsts bs) (added_each (map (added nothing) firsts) (map negated_case bs)) (λ later more. pairs_same bs firsts later more) bs nodes members

  module _ (nodes : List NodeValue) (firsts bs whole : List CaseValue) (is : whole ≡ added_each (added_each (nothing ∷ []) firsts) (map negated_case bs)) where
    whole_is : whole ≡ added_each (map (added nothing) firsts) (map negated_case bs)
    whole_is = is ∙ ap (λ (cs : List CaseValue). added_each cs (map negated_case bs)) (append-nil (map (added nothing) firsts))

    pub whole_count : length whole ≡ length firsts * length bs
    whole_count =
        ap length whole_is
        ∙ length-added (map (added nothing) firsts) (map negated_case bs)
        ∙ ap (λ (n : ℕ). n * length (map negated_case bs)) (length-map firsts (added nothing))
        ∙ ap (λ (n : ℕ). length firsts * n) (length-map bs negated_case)

    module _ (count : ℕ) (counted : count ≡ min (length firsts * length bs) (2 ^ 64 - 1)) (few : count ≤ cases_limit) where
      pub whole_few : length whole < 2 ^ 32
      whole_few = omega (arith, whole_count, counted, few)

      few_pairs : are_few (length firsts * length bs) ≡ true
      few_pairs =
          let small : length firsts * length bs ≤ cases_limit = omega (arith, counted, few) in
          grind (arith, nat_tests)

      pub whole_related : (now : List NodeValue) (result : Result ℕ TermError) → Places now (each_related r nodes [] whole) result → Places now (cases_compared r nodes firsts bs) result
      whole_related now result h =
          let all : each_related r nodes [] whole ≡ each_case_compared r nodes [] (case_pairs firsts bs) = ap (each_related r nodes []) whole_is ∙ sym (pairs_same bs firsts nodes []) in
          rw few_pairs (subst (λ (o : Result Placed TermRefusal). Places now o result) all h)

-- the difference of two terms
pub difference_is : (s0 s1 s2 : Summed) (a b : List CaseValue) → s0 ≡ record { start = nothing; choices = [] } → summed_cases s1 ≡ added_each (summed_cases s0) a → summed_cases s2 ≡ added_each (summed_cases s1) (map negated_case b)
    → summed_cases s2 ≡ added_each (added_each (nothing ∷ []) a) (map negated_case b)
difference_is s0 s1 s2 a b begin one two = two ∙ ap (λ (cs : List CaseValue). added_each cs (map negated_case b)) (one ∙ ap (λ (s : Summed). added_each (summed_cases s) a) begin)

-- ---- the pair in one case

module _ (r : Relation) (c : CaseValue) (n0 n1 : List NodeValue) (m0 m1 gs : List ℕ) (e0 : m0 ≡ []) (eg : gs ≡ c.guards) where
  abbrev whole_case : Result Placed TermRefusal
  whole_case = case_related r n0 [] c.guards c.linear

  case_begins : whole_case ≡ case_related r n0 m0 (gs ++ []) c.linear
  case_begins =
      ap (λ (ms : List ℕ). case_related r n0 ms c.guards c.linear) (sym e0)
      ∙ ap (λ (ks : List ℕ). case_related r n0 m0 ks c.linear) (sym (append-nil gs ∙ eg))

  pub guards_fail : (now : List NodeValue) (error : TermError) → GoesOn (case_related r n0 m0 (gs ++ []) c.linear) (case_related r n1 m1 [] c.linear) (Err error) → Places now whole_case (Err error)
  guards_fail now OutOfMemory h = tt
  guards_fail now (Refused why) h = case_begins ∙ h

  module _ (goes : case_related r n0 m0 (gs ++ []) c.linear ≡ case_related r n1 m1 [] c.linear) where
    abbrev ends : Placed → Result Placed TermRefusal
    ends p = or_too_large (disjoined p.nodes (m1 ++ p.number ∷ []))

    case_left : whole_case ≡ follows (related_by r n1 (difference_in c.linear)) ends
    case_left = case_begins ∙ goes

    pub pair_fails : (now : List NodeValue) (error : TermError) → Places now (related_by r n1 (difference_in c.linear)) (Err error) → Places now whole_case (Err error)
    pair_fails now OutOfMemory h = tt
    pair_fails now (Refused why) h = case_left ∙ ap (λ (o : Result Placed TermRefusal). follows o ends) h

    pub pair_made : (n2 now : List NodeValue) (number : ℕ) (members : List ℕ) (result : Result ℕ TermError) → related_by r n1 (difference_in c.linear) ≡ Ok (record { nodes = n2; number = number }) → members ≡ m1 ++ number ∷ []
        → Places now (or_too_large (disjoined n2 members)) result → Places now whole_case result
    pair_made n2 now number members result made are h =
        subst (λ (o : Result Placed TermRefusal). Places now o result)
        (ap (λ (ms : List ℕ). or_too_large (disjoined n2 ms)) are ∙ sym (case_left ∙ ap (λ (o : Result Placed TermRefusal). follows o ends) made)) h

-- ---- one case after another

module _ (r : Relation) (cases : List CaseValue) (k : ℕ) (within : k < length cases) (nodes : List NodeValue) (members : List ℕ) (c : CaseValue) (at : c ≡ case_at cases k) where
  abbrev case_made : Result Placed TermRefusal
  case_made = case_related r nodes [] c.guards c.linear

  abbrev after : Placed → Result Placed TermRefusal
  after q = each_related r q.nodes (members ++ q.number ∷ []) (drop (k + 1) cases)

  each_at : each_related r nodes members (drop k cases) ≡ follows case_made after
  each_at =
      at_drop_more (λ (cs : List CaseValue). each_related r nodes members cs) cases k (record { guards = []; linear = number_alone (pos 0) }) within
      ∙ ap (λ (d : CaseValue). each_related r nodes members (d ∷ drop (k + 1) cases)) (sym at)

  pub each_step : (later : List NodeValue) (number : ℕ) (more : List ℕ) → case_made ≡ Ok (record { nodes = later; number = number }) → more ≡ members ++ number ∷ []
      → each_related r nodes members (drop k cases) ≡ each_related r later more (drop (k + 1) cases)
  each_step later number more made are =
      each_at ∙ ap (λ (o : Result Placed TermRefusal). follows o after) made ∙ ap (λ (ms : List ℕ). each_related r later ms (drop (k + 1) cases)) (sym are)

  pub each_fails : (whole : Result Placed TermRefusal) (now : List NodeValue) (error : TermError) → whole ≡ each_related r nodes members (drop k cases) → Places now case_made (Err error) → Places now whole (Err error)
  each_fails whole now OutOfMemory e h = tt
  each_fails whole now (Refused why) e h = e ∙ each_at ∙ ap (λ (o : Result Placed TermRefusal). follows o after) h

-- behind the last
pub each_ends : (r : Relation) (cases : List CaseValue) (k : ℕ) (nodes now : List NodeValue) (members : List ℕ) (whole : Result Placed TermRefusal) (result : Result ℕ TermError) → length cases ≤ k → whole ≡ each_related r nodes members (drop k cases)
    → Places now (each_related r nodes members []) result → Places now whole result
each_ends r cases k nodes now members whole result all e h =
    subst (λ (o : Result Placed TermRefusal). Places now o result) (sym (e ∙ at_drop_all (λ (cs : List CaseValue). each_related r nodes members cs) cases k all)) h
