-- Cases in a longer table, and comparisons of Int terms case by case.
use Rattle.std.proofs.Common.{refl, ap, sym, subst, append-nil, arith, ◌∙◌, ◌≡◌, ◌<◌, ◌+◌, ◌*◌, ℕ, suc, List, [], ◌∷◌, ◌++◌, length, map, Bool, true, false, cond, not, ◌&&◌, ◌||◌, ℤ}
use Rattle.std.specs.Prelude.{Ok, Err}
use Rattle.std.specs.List.{AllByRecursion, list_all, list_any}
use Rattle.std.proofs.lemmas.List.Folds.{list_all-append, list_any-append, list_all-map}
use Rattle.stn_core.specs.declared.literal.Literal.{Literal}
use Rattle.idl_linear.specs.Linear.{LinearValue}
use Rattle.idl_linear.specs.Values.{linear_value}
use Rattle.idl_node.specs.declared.sort.Sort.{Sort}
use Rattle.idl_node.specs.Making.{conjoined, denied, disjoined, neighbours, pairs}
use Rattle.idl_node.specs.Nodes.{NodeValue, Placed}
use Rattle.idl_node.specs.Sorts.{IsAtomFor}
use Rattle.idl_node.specs.Tables.{IsTableOf}
use Rattle.idl_node.specs.Truth.{truth, chain, all_pairs}
use Rattle.idl_node.proofs.Growing.{AreThere, are_there_push, made-are_there, made-keeps, made-on, IsLonger, longer-itself, longer-there, longer-keeps, longer-made}
use Rattle.idl_node.proofs.Makers.{and_true, conjoined-made, denied-made, disjoined-made}
use Rattle.idl_node.proofs.Pairs.{neighbours-chain, pairs-all_pairs, neighbours-are, pairs-are}
use Rattle.idl_node.proofs.Truths.{list_all-agree, list_any-agree}
use Rattle.idl_node.specs.Meaning.{IsMade}
use Rattle.idl_cases.specs.Guarded.{CaseValue, guarded, branched}
use Rattle.idl_apply.specs.Choices.{are_few}
use Rattle.idl_apply.specs.declared.comparing.Relation.{Relation}
use Rattle.idl_apply.specs.declared.error.TermRefusal.TheVariants.{TooManyCases}
use Rattle.idl_apply.specs.Comparing.{or_too_large, compared, case_compared, both_cases, case_pairs, each_case_compared, cases_compared, each_compared}
use Rattle.idl_value.specs.CaseValues.{holds, holding, cases_value, IsLinearFor, IsCaseIn, AreCasesIn}
use Rattle.idl_term.proofs.MeaningAtoms.{follows-is, placed_is, atom_negates, relation_test, IsTested, compared_made}

-- ---- a longer table

module _ (sorts : List Sort) (base nodes : List NodeValue) (longer : IsLonger base nodes) where
  there_later : (ks : List ℕ) → AreThere base ks → AreThere nodes ks
  there_later [] h = tt
  there_later (k ∷ ks) h = (longer-there base nodes longer k h.0, there_later ks h.1)

  each_later : (cases : List CaseValue) → AllByRecursion (IsCaseIn sorts base) cases → AllByRecursion (IsCaseIn sorts nodes) cases
  each_later [] h = tt
  each_later (case ∷ cases) h = (record { guards = there_later case.guards h.0.guards; linear = h.0.linear }, each_later cases h.1)

  module _ (table : IsTableOf (IsAtomFor sorts) base) (values : List ℤ) where
    holds_later : (case : CaseValue) → AreThere base case.guards → holds nodes values case ≡ holds base values case
    holds_later case h = list_all-agree (truth nodes values) (truth base values) (length base) (longer-keeps base nodes longer (IsAtomFor sorts) table values) case.guards h

    holding_later : (cases : List CaseValue) → AllByRecursion (IsCaseIn sorts base) cases → holding nodes values cases ≡ holding base values cases
    holding_later [] h = refl
    holding_later (case ∷ cases) h =
        ap (λ (b : Bool). cond b (suc (holding nodes values cases)) (holding nodes values cases)) (holds_later case h.0.guards)
        ∙ ap (λ (n : ℕ). cond (holds base values case) (suc n) n) (holding_later cases h.1)

    pub cases_value-later : (cases : List CaseValue) → AllByRecursion (IsCaseIn sorts base) cases → cases_value nodes values cases ≡ cases_value base values cases
    cases_value-later [] h = refl
    cases_value-later (case ∷ cases) h =
        ap (λ (b : Bool). cond b (linear_value values case.linear) (cases_value nodes values cases)) (holds_later case h.0.guards)
        ∙ ap (λ (z : ℤ). cond (holds base values case) (linear_value values case.linear) z) (cases_value-later cases h.1)

  pub cases_later : IsTableOf (IsAtomFor sorts) base → (cases : List CaseValue) → AreCasesIn sorts base cases → AreCasesIn sorts nodes cases
  cases_later table cases h = record {
    each = each_later cases h.each;
    one = λ values. holding_later table values cases h.each ∙ h.one values;
  }

-- ---- exactly one case

nothing_behind : {A : Type 0} (xs : List A) → xs ≡ xs ++ []
nothing_behind xs = sym (append-nil xs)

one_more : (b : Bool) (n more : ℕ) → cond b (suc (n + more)) (n + more) ≡ cond b (suc n) n + more
one_more true n more = omega arith
one_more false n more = refl

no_more : (n : ℕ) → suc n ≡ 1 → n ≡ 0
no_more n e = omega (arith, e)

none_counts : (b : Bool) (n : ℕ) (v rest : Bool) → cond b (suc n) n ≡ 0 → (n ≡ 0 → rest ≡ true) → (cond b v true && rest) ≡ true
none_counts true n v rest e h = absurd (omega (arith, e))
none_counts false n v rest e h = h e

one_counts : (b : Bool) (n : ℕ) (v w rest : Bool) → cond b (suc n) n ≡ 1 → (n ≡ 0 → rest ≡ true) → (n ≡ 1 → rest ≡ w) → (cond b v true && rest) ≡ cond b v w
one_counts true n v w rest e h k = ap (λ (u : Bool). v && u) (h (no_more n e)) ∙ and_true v
one_counts false n v w rest e h k = k e

cond_of : (f : ℤ → Bool) (b : Bool) (x y : ℤ) → f (cond b x y) ≡ cond b (f x) (f y)
cond_of f true x y = refl
cond_of f false x y = refl

-- a test of a term's value is the test of the one case that holds
module _ (nodes : List NodeValue) (values : List ℤ) (f : ℤ → Bool) where
  abbrev pub case_says : CaseValue → Bool
  case_says case = cond (holds nodes values case) (f (linear_value values case.linear)) true

  none_says : (cases : List CaseValue) → holding nodes values cases ≡ 0 → list_all case_says cases ≡ true
  none_says [] e = refl
  none_says (case ∷ cases) e =
      none_counts (holds nodes values case) (holding nodes values cases) (f (linear_value values case.linear)) (list_all case_says cases) e (none_says cases)

  one_says : (cases : List CaseValue) → holding nodes values cases ≡ 1 → list_all case_says cases ≡ f (cases_value nodes values cases)
  one_says [] e = absurd (omega (arith, e))
  one_says (case ∷ cases) e =
      one_counts (holds nodes values case) (holding nodes values cases) (f (linear_value values case.linear)) (f (cases_value nodes values cases)) (list_all case_says cases) e (none_says cases) (one_says cases)
      ∙ sym (cond_of f (holds nodes values case) (linear_value values case.linear) (cases_value nodes values cases))

all_true : {A : Type 0} (xs : List A) → list_all (λ (x : A). true) xs ≡ true
all_true [] = refl
all_true (x ∷ xs) = all_true xs

-- ---- pairs of cases

module _ (nodes : List NodeValue) (values : List ℤ) (test : ℤ → ℤ → Bool) where
  -- the test holds in both cases, where their guards are true
  abbrev pub pair_says : CaseValue × CaseValue → Bool
  pair_says p = cond (list_all (truth nodes values) (p.0.guards ++ p.1.guards)) (test (linear_value values p.0.linear) (linear_value values p.1.linear)) true

  -- the same where the guards of the two are told apart
  abbrev apart_says : Bool → ℤ → CaseValue → Bool
  apart_says first x b = cond (first && holds nodes values b) (test x (linear_value values b.linear)) true

  told_apart : (a : CaseValue) (bs : List CaseValue) → list_all (λ (b : CaseValue). pair_says (a, b)) bs ≡ list_all (apart_says (holds nodes values a) (linear_value values a.linear)) bs
  told_apart a [] = refl
  told_apart a (b ∷ bs) =
      ap (λ (u : Bool). cond u (test (linear_value values a.linear) (linear_value values b.linear)) true && list_all (λ (c : CaseValue). pair_says (a, c)) bs) (list_all-append (truth nodes values) a.guards b.guards)
      ∙ ap (λ (u : Bool). apart_says (holds nodes values a) (linear_value values a.linear) b && u) (told_apart a bs)

  row_says : (first : Bool) (x : ℤ) (bs : List CaseValue) → holding nodes values bs ≡ 1 → list_all (apart_says first x) bs ≡ cond first (test x (cases_value nodes values bs)) true
  row_says true x bs e = one_says nodes values (test x) bs e
  row_says false x bs e = all_true bs

  rows_say : (xs bs : List CaseValue) → holding nodes values bs ≡ 1 → list_all pair_says (case_pairs xs bs) ≡ list_all (case_says nodes values (λ (x : ℤ). test x (cases_value nodes values bs))) xs
  rows_say [] bs e = refl
  rows_say (a ∷ xs) bs e =
      list_all-append pair_says (map (λ (b : CaseValue). (a, b)) bs) (case_pairs xs bs)
      ∙ ap (λ (u : Bool). u && list_all pair_says (case_pairs xs bs)) (list_all-map pair_says (λ (b : CaseValue). (a, b)) bs ∙ told_apart a bs ∙ row_says (holds nodes values a) (linear_value values a.linear) bs e)
      ∙ ap (λ (u : Bool). case_says nodes values (λ (x : ℤ). test x (cases_value nodes values bs)) a && u) (rows_say xs bs e)

  -- in all pairs of cases: of the values of the two terms
  pub pairs_say : (xs bs : List CaseValue) → holding nodes values xs ≡ 1 → holding nodes values bs ≡ 1 → list_all pair_says (case_pairs xs bs) ≡ test (cases_value nodes values xs) (cases_value nodes values bs)
  pairs_say xs bs d e = rows_say xs bs e ∙ one_says nodes values (λ (x : ℤ). test x (cases_value nodes values bs)) xs d

or_false : (b : Bool) → (b || false) ≡ b
or_false true = refl
or_false false = refl

and_and : (a b c : Bool) → ((a && b) && c) ≡ (a && (b && c))
and_and true b c = refl
and_and false b c = refl

-- one more guard
guard_said : (m t guards x : Bool) → ((m || not t) || cond guards x true) ≡ (m || cond (t && guards) x true)
guard_said true t guards x = refl
guard_said false true guards x = refl
guard_said false false guards x = refl

module _ (sorts : List Sort) (relation : Relation) where
  abbrev Good : Literal → Type 0
  Good = IsAtomFor sorts

  abbrev test : ℤ → ℤ → Bool
  test = relation_test relation

  module _ (a b : LinearValue) (is_a : IsLinearFor sorts a) (is_b : IsLinearFor sorts b) where
    abbrev linears_say : List ℤ → Bool
    linears_say values = test (linear_value values a) (linear_value values b)

    case_made : (nodes : List NodeValue) (members guards : List ℕ) (q : Placed) → IsTableOf Good nodes → AreThere nodes members → AreThere nodes guards → case_compared relation nodes members guards a b ≡ Ok q
        → IsTested Good nodes q (λ values. list_any (truth nodes values) members || cond (list_all (truth nodes values) guards) (linears_say values) true)
    case_made nodes members [] q table h i e =
        let t = follows-is (compared relation nodes a b) (λ p. or_too_large (disjoined p.nodes (members ++ p.number ∷ []))) q e in
        let p : Placed = t.middle in
        let one = compared_made sorts nodes table relation a b is_a is_b p t.begins in
        let there = are_there_push p.nodes members p.number (made-are_there Good nodes p one.meaning one.made members h) one.made.in_range in
        let last = disjoined-made Good p.nodes one.made.table (members ++ p.number ∷ []) q there (placed_is (disjoined p.nodes (members ++ p.number ∷ [])) q t.goes_on) in
        record {
          meaning = λ values. list_any (truth p.nodes values) (members ++ p.number ∷ []);
          made = made-on Good nodes p one.meaning one.made q (λ values. list_any (truth p.nodes values) (members ++ p.number ∷ [])) last;
          same = λ values none.
              list_any-append (truth p.nodes values) members (p.number ∷ [])
              ∙ ap (λ (u : Bool). u || (truth p.nodes values p.number || false)) (list_any-agree (truth p.nodes values) (truth nodes values) (length nodes) (made-keeps Good nodes p one.meaning one.made table values) members h)
              ∙ ap (λ (u : Bool). list_any (truth nodes values) members || u) (or_false (truth p.nodes values p.number) ∙ one.made.says values ∙ one.same values none);
        }
    case_made nodes members (g ∷ guards) q table h i e =
        let t = follows-is (or_too_large (denied nodes g)) (λ p. case_compared relation p.nodes (members ++ p.number ∷ []) guards a b) q e in
        let p : Placed = t.middle in
        let one = denied-made Good (atom_negates sorts) nodes table g i.0 p (placed_is (denied nodes g) p t.begins) in
        let meaning : List ℤ → Bool = λ values. not (truth nodes values g) in
        let there = are_there_push p.nodes members p.number (made-are_there Good nodes p meaning one members h) one.in_range in
        let later = case_made p.nodes (members ++ p.number ∷ []) guards q one.table there (made-are_there Good nodes p meaning one guards i.1) t.goes_on in
        record {
          meaning = later.meaning;
          made = made-on Good nodes p meaning one q later.meaning later.made;
          same = λ values none.
              (let keeps = made-keeps Good nodes p meaning one table values in
              later.same values none
              ∙ ap (λ (u : Bool). u || cond (list_all (truth p.nodes values) guards) (linears_say values) true)
              (list_any-append (truth p.nodes values) members (p.number ∷ [])
              ∙ ap (λ (u : Bool). u || (truth p.nodes values p.number || false)) (list_any-agree (truth p.nodes values) (truth nodes values) (length nodes) keeps members h)
              ∙ ap (λ (u : Bool). list_any (truth nodes values) members || u) (or_false (truth p.nodes values p.number) ∙ one.says values))
              ∙ ap (λ (u : Bool). (list_any (truth nodes values) members || not (truth nodes values g)) || cond u (linears_say values) true) (list_all-agree (truth p.nodes values) (truth nodes values) (length nodes) keeps guards i.1)
              ∙ guard_said (list_any (truth nodes values) members) (truth nodes values g) (list_all (truth nodes values) guards) (linears_say values));
        }

  there_append : (nodes : List NodeValue) (ks ms : List ℕ) → AreThere nodes ks → AreThere nodes ms → AreThere nodes (ks ++ ms)
  there_append nodes [] ms h i = i
  there_append nodes (k ∷ ks) ms h i = (h.0, there_append nodes ks ms h.1 i)

  -- one of the pairs that are made in order, whose meaning is told by the table that they began with
  module _ (base : List NodeValue) (base_table : IsTableOf Good base) where
    abbrev ArePair : CaseValue × CaseValue → Type 0
    ArePair p = IsCaseIn sorts base p.0 × IsCaseIn sorts base p.1

    module _ (nodes : List NodeValue) (longer : IsLonger base nodes) (table : IsTableOf Good nodes) where
      both_made : (p : CaseValue × CaseValue) (q : Placed) → ArePair p → both_cases relation nodes p ≡ Ok q → IsTested Good nodes q (λ values. pair_says base values test p)
      both_made p q h e =
          let there = there_append base p.0.guards p.1.guards h.0.guards h.1.guards in
          let is = case_made p.0.linear p.1.linear h.0.linear h.1.linear nodes [] (p.0.guards ++ p.1.guards) q table tt (there_later sorts base nodes longer (p.0.guards ++ p.1.guards) there) e in
          record {
            meaning = is.meaning;
            made = is.made;
            same = λ values none.
                is.same values none
                ∙ ap (λ (u : Bool). cond u (test (linear_value values p.0.linear) (linear_value values p.1.linear)) true)
                (list_all-agree (truth nodes values) (truth base values) (length base) (longer-keeps base nodes longer Good base_table values) (p.0.guards ++ p.1.guards) there);
          }

    each_case_made : (nodes : List NodeValue) (members : List ℕ) (ps : List (CaseValue × CaseValue)) (q : Placed) → IsLonger base nodes → IsTableOf Good nodes → AreThere nodes members → AllByRecursion ArePair ps
        → each_case_compared relation nodes members ps ≡ Ok q → IsTested Good nodes q (λ values. list_all (truth nodes values) members && list_all (pair_says base values test) ps)
    each_case_made nodes members [] q longer table h i e = record {
      meaning = λ values. list_all (truth nodes values) members;
      made = conjoined-made Good nodes table members q h (placed_is (conjoined nodes members) q e);
      same = λ values none. sym (and_true (list_all (truth nodes values) members));
    }
    each_case_made nodes members (pair ∷ rest) q longer table h i e =
        let t = follows-is (both_cases relation nodes pair) (λ p. each_case_compared relation p.nodes (members ++ p.number ∷ []) rest) q e in
        let p : Placed = t.middle in
        let one = both_made nodes longer table pair p i.0 t.begins in
        let there = are_there_push p.nodes members p.number (made-are_there Good nodes p one.meaning one.made members h) one.made.in_range in
        let later = each_case_made p.nodes (members ++ p.number ∷ []) rest q (longer-made base nodes longer Good p one.meaning one.made) one.made.table there i.1 t.goes_on in
        record {
          meaning = later.meaning;
          made = made-on Good nodes p one.meaning one.made q later.meaning later.made;
          same = λ values none.
              later.same values none
              ∙ ap (λ (u : Bool). u && list_all (pair_says base values test) rest)
              (list_all-append (truth p.nodes values) members (p.number ∷ [])
              ∙ ap (λ (u : Bool). u && (truth p.nodes values p.number && true)) (list_all-agree (truth p.nodes values) (truth nodes values) (length nodes) (made-keeps Good nodes p one.meaning one.made table values) members h)
              ∙ ap (λ (u : Bool). list_all (truth nodes values) members && u) (and_true (truth p.nodes values p.number) ∙ one.made.says values ∙ one.same values none))
              ∙ and_and (list_all (truth nodes values) members) (pair_says base values test pair) (list_all (pair_says base values test) rest);
        }

  pairs_in : (nodes : List NodeValue) (a : CaseValue) (bs : List CaseValue) (ps : List (CaseValue × CaseValue)) → IsCaseIn sorts nodes a → AllByRecursion (IsCaseIn sorts nodes) bs
      → AllByRecursion (λ (p : CaseValue × CaseValue). IsCaseIn sorts nodes p.0 × IsCaseIn sorts nodes p.1) ps → AllByRecursion (λ (p : CaseValue × CaseValue). IsCaseIn sorts nodes p.0 × IsCaseIn sorts nodes p.1) (map (λ (b : CaseValue). (a, b)) bs ++ ps)
  pairs_in nodes a [] ps h i j = j
  pairs_in nodes a (b ∷ bs) ps h i j = ((h, i.0), pairs_in nodes a bs ps h i.1 j)

  case_pairs_in : (nodes : List NodeValue) (xs bs : List CaseValue) → AllByRecursion (IsCaseIn sorts nodes) xs → AllByRecursion (IsCaseIn sorts nodes) bs
      → AllByRecursion (λ (p : CaseValue × CaseValue). IsCaseIn sorts nodes p.0 × IsCaseIn sorts nodes p.1) (case_pairs xs bs)
  case_pairs_in nodes [] bs h i = tt
  case_pairs_in nodes (a ∷ xs) bs h i = pairs_in nodes a bs (case_pairs xs bs) h.0 i (case_pairs_in nodes xs bs h.1 i)

  -- ---- what is made of a pair

  module _ (nodes : List NodeValue) (table : IsTableOf Good nodes) (a b : List CaseValue) (is_a : AreCasesIn sorts nodes a) (is_b : AreCasesIn sorts nodes b) (q : Placed) where
    cases_made_by : (few : Bool) → cond few (each_case_compared relation nodes [] (case_pairs a b)) (Err TooManyCases) ≡ Ok q
        → IsTested Good nodes q (λ values. test (cases_value nodes values a) (cases_value nodes values b))
    cases_made_by false e = absurd cc
    cases_made_by true e =
        let is = each_case_made nodes table nodes [] (case_pairs a b) q (longer-itself nodes) table tt (case_pairs_in nodes a b is_a.each is_b.each) e in
        record { meaning = is.meaning; made = is.made; same = λ values none. is.same values none ∙ pairs_say nodes values test a b (is_a.one values) (is_b.one values) }

    cases_made : cases_compared relation nodes a b ≡ Ok q → IsTested Good nodes q (λ values. test (cases_value nodes values a) (cases_value nodes values b))
    cases_made e = cases_made_by (are_few (length a * length b)) e

  -- ---- what is made of each pair

  module _ (base : List NodeValue) (base_table : IsTableOf Good base) where
    abbrev AreCases : List CaseValue × List CaseValue → Type 0
    AreCases p = AreCasesIn sorts base p.0 × AreCasesIn sorts base p.1

    abbrev terms_say : List ℤ → List CaseValue × List CaseValue → Bool
    terms_say values p = test (cases_value base values p.0) (cases_value base values p.1)

    each_compared_made : (nodes : List NodeValue) (members : List ℕ) (ps : List (List CaseValue × List CaseValue)) (q : Placed) → IsLonger base nodes → IsTableOf Good nodes → AreThere nodes members → AllByRecursion AreCases ps
        → each_compared relation nodes members ps ≡ Ok q → IsTested Good nodes q (λ values. list_all (truth nodes values) members && list_all (terms_say values) ps)
    each_compared_made nodes members [] q longer table h i e = record {
      meaning = λ values. list_all (truth nodes values) members;
      made = conjoined-made Good nodes table members q h (placed_is (conjoined nodes members) q e);
      same = λ values none. sym (and_true (list_all (truth nodes values) members));
    }
    each_compared_made nodes members (pair ∷ rest) q longer table h i e =
        let t = follows-is (cases_compared relation nodes pair.0 pair.1) (λ p. each_compared relation p.nodes (members ++ p.number ∷ []) rest) q e in
        let p : Placed = t.middle in
        let one = cases_made nodes table pair.0 pair.1 (cases_later sorts base nodes longer base_table pair.0 i.0.0) (cases_later sorts base nodes longer base_table pair.1 i.0.1) p t.begins in
        let there = are_there_push p.nodes members p.number (made-are_there Good nodes p one.meaning one.made members h) one.made.in_range in
        let later = each_compared_made p.nodes (members ++ p.number ∷ []) rest q (longer-made base nodes longer Good p one.meaning one.made) one.made.table there i.1 t.goes_on in
        record {
          meaning = later.meaning;
          made = made-on Good nodes p one.meaning one.made q later.meaning later.made;
          same = λ values none.
              later.same values none
              ∙ ap (λ (u : Bool). u && list_all (terms_say values) rest)
              (list_all-append (truth p.nodes values) members (p.number ∷ [])
              ∙ ap (λ (u : Bool). u && (truth p.nodes values p.number && true)) (list_all-agree (truth p.nodes values) (truth nodes values) (length nodes) (made-keeps Good nodes p one.meaning one.made table values) members h)
              ∙ ap (λ (u : Bool). list_all (truth nodes values) members && u)
              (and_true (truth p.nodes values p.number) ∙ one.made.says values ∙ one.same values none
              ∙ ap (λ (x : ℤ). test x (cases_value nodes values pair.1)) (cases_value-later sorts base nodes longer base_table values pair.0 i.0.0.each)
              ∙ ap (test (cases_value base values pair.0)) (cases_value-later sorts base nodes longer base_table values pair.1 i.0.1.each)))
              ∙ and_and (list_all (truth nodes values) members) (terms_say values pair) (list_all (terms_say values) rest);
        }

    module _ (terms : List (List CaseValue)) (h : AllByRecursion (AreCasesIn sorts base) terms) (q : Placed) where
      pub neighbours_made : each_compared relation base [] (neighbours terms) ≡ Ok q → IsTested Good base q (λ values. chain (relation_test relation) (map (cases_value base values) terms))
      neighbours_made e =
          let made = each_compared_made base [] (neighbours terms) q (longer-itself base) base_table tt (neighbours-are (AreCasesIn sorts base) (λ a b. AreCasesIn sorts base a × AreCasesIn sorts base b) (λ a b f g. (f, g)) terms h) e in
          record { meaning = made.meaning; made = made.made; same = λ values none. made.same values none ∙ neighbours-chain (relation_test relation) (cases_value base values) terms }

      pub pairs_made : each_compared relation base [] (pairs terms) ≡ Ok q → IsTested Good base q (λ values. all_pairs (relation_test relation) (map (cases_value base values) terms))
      pairs_made e =
          let made = each_compared_made base [] (pairs terms) q (longer-itself base) base_table tt (pairs-are (AreCasesIn sorts base) (λ a b. AreCasesIn sorts base a × AreCasesIn sorts base b) (λ a b f g. (f, g)) terms h) e in
          record { meaning = made.meaning; made = made.made; same = λ values none. made.same values none ∙ pairs-all_pairs (relation_test relation) (cases_value base values) terms }

-- ---- `ite`

module _ (sorts : List Sort) (nodes : List NodeValue) (table : IsTableOf (IsAtomFor sorts) nodes) (p : Placed) (c : ℕ) (in_c : c < length nodes) (denial : IsMade (IsAtomFor sorts) nodes p (λ values. not (truth nodes values c))) where
  longer : IsLonger nodes p.nodes
  longer = record { added = denial.added; grows = denial.grows }

  -- cases with one more guard
  guarded_in : (g : ℕ) (cases : List CaseValue) (more : List CaseValue) → g < length p.nodes → AllByRecursion (IsCaseIn sorts nodes) cases → AllByRecursion (IsCaseIn sorts p.nodes) more → AllByRecursion (IsCaseIn sorts p.nodes) (map (guarded g) cases ++ more)
  guarded_in g [] more here h i = i
  guarded_in g (case ∷ cases) more here h i =
      (record { guards = (here, there_later sorts nodes p.nodes longer case.guards h.0.guards); linear = h.0.linear }, guarded_in g cases more here h.1 i)

  module _ (values : List ℤ) where
    guarded_holding : (g : ℕ) (b : Bool) (cases more : List CaseValue) → truth p.nodes values g ≡ b → holding p.nodes values (map (guarded g) cases ++ more) ≡ cond b (holding p.nodes values cases) 0 + holding p.nodes values more
    guarded_holding g true [] more e = omega arith
    guarded_holding g false [] more e = omega arith
    guarded_holding g true (case ∷ cases) more e =
        let rest : ℕ = holding p.nodes values (map (guarded g) cases ++ more) in
        ap (λ (u : Bool). cond (u && holds p.nodes values case) (suc rest) rest) e
        ∙ ap (λ (n : ℕ). cond (holds p.nodes values case) (suc n) n) (guarded_holding g true cases more e)
        ∙ one_more (holds p.nodes values case) (holding p.nodes values cases) (holding p.nodes values more)
    guarded_holding g false (case ∷ cases) more e =
        let rest : ℕ = holding p.nodes values (map (guarded g) cases ++ more) in
        ap (λ (u : Bool). cond (u && holds p.nodes values case) (suc rest) rest) e ∙ guarded_holding g false cases more e

    guarded_passed : (g : ℕ) (cases more : List CaseValue) → truth p.nodes values g ≡ false → cases_value p.nodes values (map (guarded g) cases ++ more) ≡ cases_value p.nodes values more
    guarded_passed g [] more e = refl
    guarded_passed g (case ∷ cases) more e =
        ap (λ (u : Bool). cond (u && holds p.nodes values case) (linear_value values case.linear) (cases_value p.nodes values (map (guarded g) cases ++ more))) e ∙ guarded_passed g cases more e

    guarded_by : (b : Bool) (z first rest : ℤ) (n : ℕ) → cond b (suc n) n ≡ 1 → (n ≡ 1 → rest ≡ first) → cond b z rest ≡ cond b z first
    guarded_by true z first rest n e h = refl
    guarded_by false z first rest n e h = h e

    guarded_taken : (g : ℕ) (cases more : List CaseValue) → truth p.nodes values g ≡ true → holding p.nodes values cases ≡ 1 → cases_value p.nodes values (map (guarded g) cases ++ more) ≡ cases_value p.nodes values cases
    guarded_taken g [] more e h = absurd (omega (arith, h))
    guarded_taken g (case ∷ cases) more e h =
        let rest : ℤ = cases_value p.nodes values (map (guarded g) cases ++ more) in
        ap (λ (u : Bool). cond (u && holds p.nodes values case) (linear_value values case.linear) rest) e
        ∙ guarded_by (holds p.nodes values case) (linear_value values case.linear) (cases_value p.nodes values cases) rest (holding p.nodes values cases) h (guarded_taken g cases more e)

    abbrev there : Bool
    there = truth nodes values c

    condition_kept : truth p.nodes values c ≡ there
    condition_kept = longer-keeps nodes p.nodes longer (IsAtomFor sorts) table values c in_c

    branches_holding : (b : Bool) (xs bs : List CaseValue) → there ≡ b → holding p.nodes values xs ≡ 1 → holding p.nodes values bs ≡ 1 → holding p.nodes values (branched c p.number xs bs) ≡ 1
    branches_holding true xs bs e h i =
        let first : holding p.nodes values (branched c p.number xs bs) ≡ holding p.nodes values xs + holding p.nodes values (map (guarded p.number) bs) = guarded_holding c true xs (map (guarded p.number) bs) (condition_kept ∙ e) in
        let second : holding p.nodes values (map (guarded p.number) bs) ≡ 0 + 0 = ap (holding p.nodes values) (nothing_behind (map (guarded p.number) bs)) ∙ guarded_holding p.number false bs [] (denial.says values ∙ ap not e) in
        omega (arith, first, second, h)
    branches_holding false xs bs e h i =
        let first : holding p.nodes values (branched c p.number xs bs) ≡ 0 + holding p.nodes values (map (guarded p.number) bs) = guarded_holding c false xs (map (guarded p.number) bs) (condition_kept ∙ e) in
        let second : holding p.nodes values (map (guarded p.number) bs) ≡ holding p.nodes values bs + 0 = ap (holding p.nodes values) (nothing_behind (map (guarded p.number) bs)) ∙ guarded_holding p.number true bs [] (denial.says values ∙ ap not e) in
        omega (arith, first, second, i)

    branches_value : (b : Bool) (xs bs : List CaseValue) → there ≡ b → holding p.nodes values xs ≡ 1 → holding p.nodes values bs ≡ 1
        → cases_value p.nodes values (branched c p.number xs bs) ≡ cond b (cases_value p.nodes values xs) (cases_value p.nodes values bs)
    branches_value true xs bs e h i = guarded_taken c xs (map (guarded p.number) bs) (condition_kept ∙ e) h
    branches_value false xs bs e h i =
        guarded_passed c xs (map (guarded p.number) bs) (condition_kept ∙ e)
        ∙ ap (cases_value p.nodes values) (nothing_behind (map (guarded p.number) bs)) ∙ guarded_taken p.number bs [] (denial.says values ∙ ap not e) i

  pub record AreBranched (xs bs : List CaseValue) : Type 0 where
    pub are : AreCasesIn sorts p.nodes (branched c p.number xs bs)
    pub worth : (values : List ℤ) → cases_value p.nodes values (branched c p.number xs bs) ≡ cond (truth nodes values c) (cases_value nodes values xs) (cases_value nodes values bs)

  pub branched_are : (xs bs : List CaseValue) → AreCasesIn sorts nodes xs → AreCasesIn sorts nodes bs → AreBranched xs bs
  branched_are xs bs h i =
      let later_as = cases_later sorts nodes p.nodes longer table xs h in
      let later_bs = cases_later sorts nodes p.nodes longer table bs i in
      record {
        are = record {
          each = guarded_in c xs (map (guarded p.number) bs) (longer-there nodes p.nodes longer c in_c) h.each
              (subst (AllByRecursion (IsCaseIn sorts p.nodes)) (sym (nothing_behind (map (guarded p.number) bs))) (guarded_in p.number bs [] denial.in_range i.each tt));
          one = λ values. branches_holding values (truth nodes values c) xs bs refl (later_as.one values) (later_bs.one values);
        };
        worth = λ values.
            branches_value values (truth nodes values c) xs bs refl (later_as.one values) (later_bs.one values)
            ∙ ap (λ (z : ℤ). cond (truth nodes values c) z (cases_value p.nodes values bs)) (cases_value-later sorts nodes p.nodes longer table values xs h.each)
            ∙ ap (λ (z : ℤ). cond (truth nodes values c) (cases_value nodes values xs) z) (cases_value-later sorts nodes p.nodes longer table values bs i.each);
      }
