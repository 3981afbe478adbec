-- One sweep over the lemmas, from the last to the first.
use Rattle.std.proofs.Common.{arith, ◌≡◌, ◌<◌, ◌≤◌, ◌+◌, ◌-◌, ◌||◌, ℕ, zero, suc, Bool, true, false, nat_eq, List, [], ◌∷◌, length, Contains, refl, sym, ap, subst, ◌∙◌, get_or, replicate, drop}
use Rattle.std.specs.List.{list_any}
use Rattle.std.proofs.lemmas.Bool.Decides.{nat_tests}
use Rattle.refute_tree.specs.declared.step.Step.{Step}
use Rattle.refute_tree.specs.declared.lemma.Lemma.{Lemma}
use Rattle.unsat_cores.specs.Cited.{names_clause, cites_lemma, some_marked, is_needed, needed_from, cites_clause, Ascend, AreCited}
use Rattle.unsat_cores.specs.code.Sweeping.{MarksMore, MarksWithin, true_places}
use Rattle.unsat_cores.proofs.Marks.{or_swapped, is_other, no_marks, ascends, to_places, from_places}

-- the test's steps of the needed lemmas from this number on
abbrev pub some_from : (Step → Bool) → ℕ → List Lemma → Bool
some_from test number lemmas = some_marked test (needed_from number (drop number lemmas)) (drop number lemmas)

-- the lemmas from this number on are done
pub record AreSwept (lemmas : List Lemma) (number : ℕ) (needed cited : List Bool) : Type 0 where
  pub count : length needed ≡ length lemmas
  pub within : number ≤ length lemmas
  pub before : (j : ℕ) → j < number → get_or needed j false ≡ (nat_eq (suc j) (length lemmas) || some_from (cites_lemma j) number lemmas)
  pub clauses : (i : ℕ) → get_or cited i false ≡ some_from (names_clause i) number lemmas

drop_whole : (lemmas : List Lemma) → drop (length lemmas) lemmas ≡ []
drop_whole [] = refl
drop_whole (l ∷ lemmas) = drop_whole lemmas

drop_at : (lemmas : List Lemma) (m : ℕ) (lemma : Lemma) → m < length lemmas → lemma ≡ get_or lemmas m lemma → drop m lemmas ≡ lemma ∷ drop (suc m) lemmas
drop_at [] m lemma lt e = absurd (omega arith)
drop_at (l ∷ lemmas) zero lemma lt e = ap (λ (x : Lemma). x ∷ lemmas) (sym e)
drop_at (l ∷ lemmas) (suc m) lemma lt e = drop_at lemmas m lemma (omega arith) e

drop_count : (lemmas : List Lemma) (m : ℕ) → length (drop m lemmas) ≡ length lemmas - m
drop_count lemmas zero = omega arith
drop_count [] (suc m) = omega arith
drop_count (l ∷ lemmas) (suc m) = drop_count lemmas m ∙ omega arith

-- a lemma's mark says whether it is needed
needed_by_rest : (m n : ℕ) (rest : List Lemma) (marks : List Bool) → n ≡ suc m + length rest → (nat_eq (suc m) n || some_marked (cites_lemma m) marks rest) ≡ is_needed m rest marks
needed_by_rest m n [] marks e = (let last : nat_eq (suc m) n ≡ true = grind (arith, nat_tests) in ap (λ (b : Bool). b || some_marked (cites_lemma m) marks []) last)
needed_by_rest m n (l ∷ rest) marks e = ap (λ (b : Bool). b || some_marked (cites_lemma m) marks (l ∷ rest)) (is_other (suc m) n (omega arith))

module _ (lemmas : List Lemma) (m : ℕ) (lemma : Lemma) (lt : m < length lemmas) (at : lemma ≡ get_or lemmas m lemma) (needed cited : List Bool) (h : AreSwept lemmas (suc m) needed cited) where
  is_here : Bool
  is_here = is_needed m (drop (suc m) lemmas) (needed_from (suc m) (drop (suc m) lemmas))

  here : get_or needed m false ≡ is_here
  unfolding is_here
  here = h.before m (omega arith) ∙ needed_by_rest m (length lemmas) (drop (suc m) lemmas) (needed_from (suc m) (drop (suc m) lemmas)) (let c = drop_count lemmas (suc m) in omega arith)

  next_from : (test : Step → Bool) (b : Bool) → is_here ≡ b → some_marked test (b ∷ needed_from (suc m) (drop (suc m) lemmas)) (lemma ∷ drop (suc m) lemmas) ≡ some_from test m lemmas
  unfolding is_here
  next_from test b e =
      ap (λ (c : Bool). some_marked test (c ∷ needed_from (suc m) (drop (suc m) lemmas)) (lemma ∷ drop (suc m) lemmas)) (sym e)
      ∙ ap (λ (ls : List Lemma). some_marked test (needed_from m ls) ls) (sym (drop_at lemmas m lemma lt at))

  turned : (newly : List Bool) (more : List Bool) → is_here ≡ true
      → MarksWithin (λ j. list_any (cites_lemma j) lemma.steps) needed newly → MarksMore (λ i. list_any (names_clause i) lemma.steps) cited more
      → AreSwept lemmas m newly more
  turned newly more e marked named = record {
    count = marked.0 ∙ h.count;
    within = omega arith;
    before = λ j less. marked.1 j (let c = h.count in omega arith)
        ∙ ap (λ (b : Bool). list_any (cites_lemma j) lemma.steps || b) (h.before j (omega arith))
        ∙ or_swapped (list_any (cites_lemma j) lemma.steps) (nat_eq (suc j) (length lemmas)) (some_from (cites_lemma j) (suc m) lemmas)
        ∙ ap (λ (b : Bool). nat_eq (suc j) (length lemmas) || b) (next_from (cites_lemma j) true e);
    clauses = λ i. named i ∙ ap (λ (b : Bool). list_any (names_clause i) lemma.steps || b) (h.clauses i) ∙ next_from (names_clause i) true e;
  }

  stayed : is_here ≡ false → AreSwept lemmas m needed cited
  stayed e = record {
    count = h.count;
    within = omega arith;
    before = λ j less. h.before j (omega arith) ∙ ap (λ (b : Bool). nat_eq (suc j) (length lemmas) || b) (next_from (cites_lemma j) false e);
    clauses = λ i. h.clauses i ∙ next_from (names_clause i) false e;
  }

  pub swept_needed : (newly more : List Bool) → get_or needed m false ≡ true
      → MarksWithin (λ j. list_any (cites_lemma j) lemma.steps) needed newly → MarksMore (λ i. list_any (names_clause i) lemma.steps) cited more
      → AreSwept lemmas m newly more
  swept_needed newly more e marked named = turned newly more (sym here ∙ e) marked named

  pub swept_other : get_or needed m false ≡ false → AreSwept lemmas m needed cited
  swept_other e = stayed (sym here ∙ e)

get_there : {X : Type 0} (xs : List X) (k : ℕ) (d e : X) → k < length xs → get_or xs k d ≡ get_or xs k e
get_there [] k d e lt = absurd (omega arith)
get_there (x ∷ xs) zero d e lt = refl
get_there (x ∷ xs) (suc k) d e lt = get_there xs k d e (omega arith)

-- one turn of the loop
module _ (lemmas : List Lemma) (number : ℕ) (some : 0 < number) (needed cited : List Bool) (h : AreSwept lemmas number needed cited) (mark : Bool) (read : mark ≡ get_or needed (number - 1) mark) where
  in_range : number - 1 < length lemmas
  in_range = (let w = h.within in omega arith)

  before_is : AreSwept lemmas (suc (number - 1)) needed cited
  before_is = (let is : number ≡ suc (number - 1) = omega arith in subst (λ (n : ℕ). AreSwept lemmas n needed cited) is h)

  read_there : mark ≡ get_or needed (number - 1) false
  read_there = read ∙ get_there needed (number - 1) mark false (let w = in_range in let c = h.count in omega arith)

  pub turn_other : mark ≡ false → AreSwept lemmas (number - 1) needed cited
  turn_other e =
      let none : Lemma = record { clause = []; steps = [] } in
      let lemma : Lemma = get_or lemmas (number - 1) none in
      swept_other lemmas (number - 1) lemma in_range (get_there lemmas (number - 1) none lemma in_range) needed cited before_is (sym read_there ∙ e)

  pub turn_needed : (lemma : Lemma) → lemma ≡ get_or lemmas (number - 1) lemma → (lent newly written more : List Bool) (steps : List Step) → mark ≡ true → lent ≡ needed → written ≡ newly → steps ≡ (get_or lemmas (number - 1) lemma).steps
      → MarksWithin (λ j. list_any (cites_lemma j) steps) lent newly → MarksMore (λ i. list_any (names_clause i) steps) cited more
      → AreSwept lemmas (number - 1) written more
  turn_needed lemma at lent newly written more steps e same back is marked named =
      let these : steps ≡ lemma.steps = is ∙ ap (λ (l : Lemma). l.steps) (sym at) in
      let newly_marked : MarksWithin (λ j. list_any (cites_lemma j) lemma.steps) needed newly =
      subst (λ (bs : List Bool). MarksWithin (λ j. list_any (cites_lemma j) lemma.steps) bs newly) same (subst (λ (ss : List Step). MarksWithin (λ j. list_any (cites_lemma j) ss) lent newly) these marked) in
      let more_named : MarksMore (λ i. list_any (names_clause i) lemma.steps) cited more = subst (λ (ss : List Step). MarksMore (λ i. list_any (names_clause i) ss) cited more) these named in
      subst (λ (bs : List Bool). AreSwept lemmas (number - 1) bs more) (sym back)
      (swept_needed lemmas (number - 1) lemma in_range at needed cited before_is newly more (sym read_there ∙ e) newly_marked more_named)

-- the numbers of the marks are those of the cited clauses
pub are_cited : (lemmas : List Lemma) (marks : List Bool) (numbers : List ℕ) → ((i : ℕ) → get_or marks i false ≡ cites_clause lemmas i) → numbers ≡ true_places 0 marks → AreCited lemmas numbers
are_cited lemmas marks numbers each is = record {
  ascend = subst Ascend (sym is) (λ a b less lt. ascends 0 marks a b less lt);
  right = λ i. (
    λ c. (
        let h = from_places 0 marks i (subst (λ (ns : List ℕ). Contains ns i) is c) in
        let from = h.1 in
        let same : i ≡ h.0 = omega arith in
        sym (each i) ∙ ap (λ (n : ℕ). get_or marks n false) same ∙ h.2),
    λ c. (
        let zero_on : 0 + i ≡ i = omega arith in
        subst (λ (ns : List ℕ). Contains ns i) (sym is) (subst (Contains (true_places 0 marks)) zero_on (to_places 0 marks i (each i ∙ c)))),
  );
}
