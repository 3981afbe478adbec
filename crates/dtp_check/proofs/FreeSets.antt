-- What is wrong with the values and the set of an unbounded entry, and what they show where nothing is.
use Rattle.std.proofs.Common.{refl, ap, subst, arith, inl, inr, ◌⊎◌, ◌∙◌, ◌≡◌, ◌<◌, ◌≤◌, ◌+◌, ◌==◌, ℕ, zero, suc, List, [], ◌∷◌, ◌++◌, length, get_or, Bool, true, false, Option, Some, None, ℤ, ◌-ℤ◌, ◌≤ℤ◌, int_le}
use Rattle.std.specs.Prelude.{All, Contains, MatchOption, ◌&&◌, ◌||◌, not, nat_lt, option_map, if◌then◌else◌}
use Rattle.std.specs.List.{list_all, list_any}
use Rattle.std.specs.List.Sorted.{IsStrictlyIncreasing}
use Rattle.std.proofs.lemmas.Bool.{cases_lt, eqb-true}
use Rattle.std.proofs.lemmas.Bool.Decides.{nat_tests}
use Rattle.std.proofs.lemmas.Int.{ints}
use Rattle.std.proofs.lemmas.List.{get_or_append_left, length-append}
use Rattle.std.proofs.lemmas.List.Elements.{All-nil, All-cons, All-push, All-contains, Contains-push, Contains-push_cases, Contains-append_left}
use Rattle.std.proofs.lemmas.List.Folds.{list_any_at}
use Rattle.std.proofs.lemmas.List.Sums.{AllPass-from_list_all, list_all-from_AllPass}
use Rattle.std.proofs.Math.Seq.{get_or-append_seam}
use Rattle.stn_core.specs.declared.literal.Literal.{Literal}
use Rattle.stn_core.specs.declared.problem.Problem.{Problem}
use Rattle.stn_core.specs.Literal.{value_at, IsOver}
use Rattle.best_values.specs.Bests.{IsKept, ClauseIsKept, IsFreeSet}
use Rattle.best_values.specs.FreeSets.{IsFirstNotKept}
use Rattle.best_values.proofs.Sets.{cases_set}
use Rattle.clause_form.specs.Polarity.{is_among}
use Rattle.smt_script.specs.declared.objective.Objective.{Objective}
use Rattle.dtp_check.specs.declared.judgement.EntryFlaw.{EntryFlaw}
use Rattle.dtp_check.specs.declared.judgement.EntryFlaw.TheVariants.{WrongCount, NoSuchPoint, NotOfObjective, NotKept}
use Rattle.dtp_check.specs.MinimizeFlaws.{is_kept, first_not_kept, is_of_objective, unbounded_flaw}

-- ---- tests

le_test : (a b : ℤ) → int_le a b ≡ true → a ≤ℤ b
le_test a b e = grind (arith, ints)

test_le : (a b : ℤ) → a ≤ℤ b → int_le a b ≡ true
test_le a b e = grind (arith, ints)

lt_test : (a b : ℕ) → nat_lt a b ≡ true → a < b
lt_test a b e = grind (arith, nat_tests)

test_lt : (a b : ℕ) → a < b → nat_lt a b ≡ true
test_lt a b h = grind (arith, nat_tests)

both : (a b : Bool) → (a && b) ≡ true → (a ≡ true) × (b ≡ true)
both true b e = (refl, e)
both false b e = absurd cc

both_test : (a b : Bool) → a ≡ true → b ≡ true → (a && b) ≡ true
both_test true b e f = f
both_test false b e f = absurd cc

denied : (b : Bool) → not b ≡ true → b ≡ false
denied true e = absurd cc
denied false e = refl

denied_test : (b : Bool) → b ≡ false → not b ≡ true
denied_test true e = absurd cc
denied_test false e = refl

false_by : (b : Bool) → (b ≡ true → ⊥) → b ≡ false
false_by true h = absurd (h refl)
false_by false h = refl

-- ---- a point is in the set

contained : (set : List ℕ) (p : ℕ) → is_among p set ≡ true → Contains set p
contained set p e = elim (cases_set set p) [
  | inl i ↦ i.fact
  | inr o ↦ (let f = o.test in absurd cc)
]

not_contained : (set : List ℕ) (p : ℕ) → is_among p set ≡ false → Contains set p → ⊥
not_contained set p e h = elim (cases_set set p) [
  | inl i ↦ (let f = i.test in absurd cc)
  | inr o ↦ o.fact h
]

among : (set : List ℕ) (p : ℕ) → Contains set p → is_among p set ≡ true
among set p h = elim (cases_set set p) [
  | inl i ↦ i.test
  | inr o ↦ absurd (o.fact h)
]

not_among : (set : List ℕ) (p : ℕ) → (Contains set p → ⊥) → is_among p set ≡ false
not_among set p h = elim (cases_set set p) [
  | inl i ↦ absurd (h i.fact)
  | inr o ↦ o.test
]

-- ---- which clauses are kept

-- the test of a literal, by whether it holds, and whether its two points are in the set
not_cut : (y x : Bool) → not (y && not x) ≡ true → y ≡ true → x ≡ false → ⊥
not_cut true true e f g = absurd cc
not_cut true false e f g = absurd cc
not_cut false x e f g = absurd cc

test_kept : (h y x : Bool) → h ≡ true → (y ≡ true → x ≡ false → ⊥) → (h && not (y && not x)) ≡ true
test_kept true true true e f = refl
test_kept true true false e f = absurd (f refl refl)
test_kept true false x e f = refl
test_kept false y x e f = absurd cc

module _ (values : List ℤ) (set : List ℕ) where
  literal_kept : (l : Literal) → is_kept values set l ≡ true → IsKept values set l
  literal_kept l e =
      let w = both (int_le (value_at values l.x -ℤ value_at values l.y) l.c) (not (is_among l.y set && not (is_among l.x set))) e in
      (le_test (value_at values l.x -ℤ value_at values l.y) l.c w.0, λ cut. not_cut (is_among l.y set) (is_among l.x set) w.1 (among set l.y cut.0) (not_among set l.x cut.1))

  literal_test : (l : Literal) → IsKept values set l → is_kept values set l ≡ true
  literal_test l k =
      test_kept (int_le (value_at values l.x -ℤ value_at values l.y) l.c) (is_among l.y set) (is_among l.x set) (test_le (value_at values l.x -ℤ value_at values l.y) l.c k.0)
      (λ y_in x_out. k.1 (contained set l.y y_in, not_contained set l.x x_out))

  clause_by : (l : Literal) (ls : List Literal) (b : Bool) → is_kept values set l ≡ b → (b || list_any (is_kept values set) ls) ≡ true → (list_any (is_kept values set) ls ≡ true → ClauseIsKept values set ls) → ClauseIsKept values set (l ∷ ls)
  clause_by l ls true is e rest = (l, (0, omega arith, refl), literal_kept l is)
  clause_by l ls false is e rest =
      let h = rest e in
      let lt = h.1.1 in
      (h.0, (suc h.1.0, omega (arith, lt), h.1.2), h.2)

  clause_kept : (clause : List Literal) → list_any (is_kept values set) clause ≡ true → ClauseIsKept values set clause
  clause_kept [] e = absurd cc
  clause_kept (l ∷ ls) e = clause_by l ls (is_kept values set l) refl e (λ f. clause_kept ls f)

  clause_test : (clause : List Literal) → ClauseIsKept values set clause → list_any (is_kept values set) clause ≡ true
  clause_test clause (l, (k, lt, e), kept) = list_any_at (is_kept values set) clause k l lt (ap (is_kept values set) e ∙ literal_test l kept)

  abbrev next_of : ℕ → List (List Literal) → Bool → Option ℕ
  next_of k clauses b = if b then first_not_kept (k + 1) values set clauses else Some k

  none_found : (k : ℕ) (clauses : List (List Literal)) → All (ClauseIsKept values set) clauses → first_not_kept k values set clauses ≡ None
  none_found k [] all = refl
  none_found k (clause ∷ clauses) all = ap (next_of k clauses) (clause_test clause (all 0 clause (omega arith))) ∙ none_found (k + 1) clauses (λ j d h. all (suc j) d (omega (arith, h)))

  first_found : (k i : ℕ) (clauses : List (List Literal)) → IsFirstNotKept values set clauses i → first_not_kept k values set clauses ≡ Some (k + i)
  first_found k i [] h = let within = h.within in absurd (omega (arith, within))
  first_found k zero (clause ∷ clauses) h =
      let e : k ≡ k + 0 = omega arith in
      ap (next_of k clauses) (false_by (list_any (is_kept values set) clause) (λ t. h.fails (clause_kept clause t))) ∙ ap Some e
  first_found k (suc i) (clause ∷ clauses) h =
      let within = h.within in
      let e : (k + 1) + i ≡ k + suc i = omega arith in
      ap (next_of k clauses) (clause_test clause (h.before 0 clause (omega arith)))
      ∙ first_found (k + 1) i clauses (record { within = omega (arith, within); before = λ j d lt. h.before (suc j) d (omega (arith, lt)); fails = h.fails })
      ∙ ap Some e

  -- what the code finds
  pub found_kept : (clauses : List (List Literal)) (number : Option ℕ) → MatchOption number (All (ClauseIsKept values set) clauses) (IsFirstNotKept values set clauses) → first_not_kept 0 values set clauses ≡ number
  found_kept clauses None h = none_found 0 clauses h
  found_kept clauses (Some i) h = let e : 0 + i ≡ i = omega arith in first_found 0 i clauses h ∙ ap Some e

  all_by : (k : ℕ) (clause : List Literal) (clauses : List (List Literal)) (b : Bool) → list_any (is_kept values set) clause ≡ b → next_of k clauses b ≡ None → (first_not_kept (k + 1) values set clauses ≡ None → All (ClauseIsKept values set) clauses) → All (ClauseIsKept values set) (clause ∷ clauses)
  all_by k clause clauses true is e rest = All-cons (ClauseIsKept values set) clause clauses (clause_kept clause is) (rest e)
  all_by k clause clauses false is e rest = absurd cc

  all_kept : (k : ℕ) (clauses : List (List Literal)) → first_not_kept k values set clauses ≡ None → All (ClauseIsKept values set) clauses
  all_kept k [] e = All-nil (ClauseIsKept values set)
  all_kept k (clause ∷ clauses) e = all_by k clause clauses (list_any (is_kept values set) clause) refl e (λ f. all_kept (k + 1) clauses f)

-- ---- the flaw

-- the set's points are points of the problem, the objective's first is among them and its second isn't, and each clause is kept
pub record IsSetRight (o : Objective) (points : ℕ) (clauses : List (List Literal)) (values : List ℤ) (set : List ℕ) : Type 0 where
  pub count : length values ≡ points
  pub within : All (λ (p : ℕ). p < points) set
  pub x_in : Contains set o.x
  pub y_out : Contains set o.y → ⊥
  pub kept : All (ClauseIsKept values set) clauses

abbrev flaw_by : Bool → Bool → Bool → Option ℕ → Option EntryFlaw
flaw_by counted within of found = if counted then (if within then (if of then option_map NotKept found else Some NotOfObjective) else Some NoSuchPoint) else Some WrongCount

none_mapped : (found : Option ℕ) → option_map NotKept found ≡ None → found ≡ None
none_mapped None e = refl
none_mapped (Some i) e = absurd cc

no_flaw_by : (a b c : Bool) (n : Option ℕ) → a ≡ true → b ≡ true → c ≡ true → n ≡ None → flaw_by a b c n ≡ None
no_flaw_by true true true None e f g h = refl
no_flaw_by true true true (Some i) e f g h = absurd cc
no_flaw_by true true false n e f g h = absurd cc
no_flaw_by true false c n e f g h = absurd cc
no_flaw_by false b c n e f g h = absurd cc

module _ (o : Objective) (points : ℕ) (clauses : List (List Literal)) (values : List ℤ) (set : List ℕ) where
  abbrev are_points : Bool
  are_points = list_all (λ (p : ℕ). nat_lt p points) set

  set_by : (a b c : Bool) → (length values == points) ≡ a → are_points ≡ b → is_of_objective o set ≡ c → flaw_by a b c (first_not_kept 0 values set clauses) ≡ None → IsSetRight o points clauses values set
  set_by true true true e f g h =
      let w = both (is_among o.x set) (not (is_among o.y set)) g in
      record {
        count = eqb-true (length values) points e;
        within = λ k d lt. lt_test (get_or set k d) points (AllPass-from_list_all (λ (p : ℕ). nat_lt p points) set f k d lt);
        x_in = contained set o.x w.0;
        y_out = not_contained set o.y (denied (is_among o.y set) w.1);
        kept = all_kept values set 0 clauses (none_mapped (first_not_kept 0 values set clauses) h);
      }
  set_by true true false e f g h = absurd cc
  set_by true false c e f g h = absurd cc
  set_by false b c e f g h = absurd cc

  -- no flaw is found exactly where the set is right
  pub set_right : unbounded_flaw o points clauses values set ≡ None → IsSetRight o points clauses values set
  set_right h = set_by (length values == points) are_points (is_of_objective o set) refl refl refl h

  pub right_set : IsSetRight o points clauses values set → unbounded_flaw o points clauses values set ≡ None
  right_set h =
      let count = h.count in
      let counted : (length values == points) ≡ true = grind (arith, nat_tests) in
      let within : are_points ≡ true = list_all-from_AllPass (λ (p : ℕ). nat_lt p points) set (λ k d lt. test_lt (get_or set k d) points (h.within k d lt)) in
      let of : is_of_objective o set ≡ true = both_test (is_among o.x set) (not (is_among o.y set)) (among set o.x h.x_in) (denied_test (is_among o.y set) (not_among set o.y h.y_out)) in
      no_flaw_by (length values == points) are_points (is_of_objective o set) (first_not_kept 0 values set clauses) counted within of (none_found values set 0 clauses h.kept)

  -- what the code finds where the count and the points are right
  pub kept_flaw : (found : Option ℕ) → length values ≡ points → are_points ≡ true → is_of_objective o set ≡ true → first_not_kept 0 values set clauses ≡ found → unbounded_flaw o points clauses values set ≡ option_map NotKept found
  kept_flaw found e f g h =
      let counted : (length values == points) ≡ true = grind (arith, nat_tests) in
      ap (λ (b : Bool). flaw_by b are_points (is_of_objective o set) (first_not_kept 0 values set clauses)) counted
      ∙ ap (λ (b : Bool). flaw_by true b (is_of_objective o set) (first_not_kept 0 values set clauses)) f
      ∙ ap (λ (b : Bool). flaw_by true true b (first_not_kept 0 values set clauses)) g
      ∙ ap (option_map NotKept) h

-- ---- the set in ascending order

-- the points of the set below n, in ascending order
record IsOrdered (n : ℕ) (set out : List ℕ) : Type 0 where
  below : All (λ (p : ℕ). p < n) out
  ascending : IsStrictlyIncreasing out
  sound : (p : ℕ) → Contains out p → Contains set p
  whole : (p : ℕ) → p < n → Contains set p → Contains out p

none_ordered : (set : List ℕ) → IsOrdered 0 set []
none_ordered set = record {
  below = All-nil (λ (p : ℕ). p < 0);
  ascending = λ k h. absurd (omega (arith, h));
  sound = λ p h. (let lt = h.1 in absurd (omega (arith, lt)));
  whole = λ p h c. absurd (omega (arith, h));
}

module _ (n : ℕ) (set out : List ℕ) (h : IsOrdered n set out) where
  ascending_by : (k : ℕ) → k + 1 < length (out ++ n ∷ []) → ((k + 1 < length out) ⊎ (length out ≤ k + 1)) → get_or (out ++ n ∷ []) k 0 < get_or (out ++ n ∷ []) (k + 1) 0
  ascending_by k lt (inl inner) =
      let a = get_or_append_left out (n ∷ []) 0 k (omega (arith, inner)) in
      let b = get_or_append_left out (n ∷ []) 0 (k + 1) inner in
      let c = h.ascending k inner in
      omega (arith, a, b, c)
  ascending_by k lt (inr outer) =
      let more = length-append out (n ∷ []) in
      let e : k + 1 ≡ length out = omega (arith, lt, outer, more) in
      let a = get_or_append_left out (n ∷ []) 0 k (omega (arith, e)) in
      let b : get_or (out ++ n ∷ []) (k + 1) 0 ≡ n = ap (λ (j : ℕ). get_or (out ++ n ∷ []) j 0) e ∙ get_or-append_seam out n [] 0 in
      let c : get_or out k 0 < n = h.below k 0 (omega (arith, e)) in
      omega (arith, a, b, c)

  whole_by : (p : ℕ) → Contains set p → p < suc n → ((p < n) ⊎ (n ≤ p)) → Contains (out ++ n ∷ []) p
  whole_by p c lt (inl inner) = Contains-append_left out (n ∷ []) p (h.whole p inner c)
  whole_by p c lt (inr outer) = let e : n ≡ p = omega (arith, lt, outer) in subst (λ (q : ℕ). Contains (out ++ n ∷ []) q) e (Contains-push out n)

  one_more : Contains set n → IsOrdered (suc n) set (out ++ n ∷ [])
  one_more c = record {
    below = All-push (λ (p : ℕ). p < suc n) out n (λ k d lt. let low = h.below k d lt in omega (arith, low)) (omega arith);
    ascending = λ k lt. ascending_by k lt (cases_lt (k + 1) (length out));
    sound = λ p m. elim (Contains-push_cases out n p m) [
      | inl old ↦ h.sound p old
      | inr e ↦ subst (λ (q : ℕ). Contains set q) e c
    ];
    whole = λ p lt m. whole_by p m lt (cases_lt p n);
  }

  absent_by : (p : ℕ) → (Contains set n → ⊥) → Contains set p → p < suc n → ((p < n) ⊎ (n ≤ p)) → Contains out p
  absent_by p none c lt (inl inner) = h.whole p inner c
  absent_by p none c lt (inr outer) = let e : p ≡ n = omega (arith, lt, outer) in absurd (none (subst (λ (q : ℕ). Contains set q) e c))

  no_more : (Contains set n → ⊥) → IsOrdered (suc n) set out
  no_more none = record {
    below = λ k d lt. let low = h.below k d lt in omega (arith, low);
    ascending = h.ascending;
    sound = h.sound;
    whole = λ p lt m. absent_by p none m lt (cases_lt p n);
  }

  next : (out : List ℕ) × IsOrdered (suc n) set out
  next = elim (cases_set set n) [
    | inl i ↦ (out ++ n ∷ [], one_more i.fact)
    | inr o ↦ (out, no_more o.fact)
  ]

ordered : (n : ℕ) (set : List ℕ) → (out : List ℕ) × IsOrdered n set out
ordered zero set = ([], none_ordered set)
ordered (suc n) set = let w = ordered n set in next n set w.0 w.1

-- ---- the free set

module _ (problem : Problem) (o : Objective) (values : List ℤ) (set out : List ℕ) (h : IsOrdered problem.points set out) (right : IsSetRight o problem.points problem.clauses values set) where
  kept_as : (clause : List Literal) → All (IsOver problem.points) clause → ClauseIsKept values set clause → ClauseIsKept values out clause
  kept_as clause over (l, there, kept) =
      let at : IsOver problem.points l = All-contains (IsOver problem.points) clause l over there in
      (l, there, (kept.0, λ cut. kept.1 (h.sound l.y cut.0, λ inside. cut.1 (h.whole l.x at.x_in inside))))

  free_as : IsFreeSet problem o.x o.y values out
  free_as = record {
    among = h.below;
    ascending = h.ascending;
    x_in = h.whole o.x (All-contains (λ (p : ℕ). p < problem.points) set o.x right.within right.x_in) right.x_in;
    y_out = λ inside. right.y_out (h.sound o.y inside);
    kept = λ k d lt. kept_as (get_or problem.clauses k d) (problem.over k d lt) (right.kept k d lt);
  }

-- a right set, in ascending order, can be lowered together without end
pub free_set : (problem : Problem) (o : Objective) (values : List ℤ) (set : List ℕ) → IsSetRight o problem.points problem.clauses values set → (out : List ℕ) × IsFreeSet problem o.x o.y values out
free_set problem o values set right =
    let w = ordered problem.points set in
    (w.0, free_as problem o values set w.0 w.1 right)
