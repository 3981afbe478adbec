-- What a literal of each clause says.
use Rattle.std.proofs.Common.{arith, ap, sym, ◌∙◌, subst, inl, inr, ◌≡◌, ℕ, ◌+◌, ◌<◌, ◌≤◌, List, [], ◌∷◌, ◌++◌, length, take, All, Contains, get_or, ℤ, pos, neg_ℤ, ◌≤ℤ◌}
use Rattle.std.proofs.lemmas.Int.{ints}
use Rattle.std.proofs.lemmas.Bool.{cases_lt}
use Rattle.std.proofs.lemmas.List.{get_or_default, get_or_append_left, length-append, length-take-le, get_or-take}
use Rattle.std.proofs.Math.Seq.{get_or-append_seam}
use Rattle.std.proofs.lemmas.List.Elements.{All-push, All-take}
use Rattle.stn_core.specs.declared.literal.Literal.{Literal}
use Rattle.stn_core.specs.declared.problem.Problem.{Problem}
use Rattle.stn_core.specs.declared.schedule.Greatest.{Greatest}
use Rattle.stn_core.specs.declared.schedule.Greatest.TheVariants.{Greatest as AsGreatest, Negative}
use Rattle.stn_core.specs.Answer.{IsBest, IsAnswer, IsCycleAmong}
use Rattle.stn_core.specs.Laws.{CycleLaw}
use Rattle.stn_core.specs.Literal.{value_at, literal_at, Holds, IsOver}
use Rattle.stn_core.specs.Schedule.{IsInRange, AreNear}
use Rattle.stn_core.specs.Problem.{ClauseHolds, ProblemHolds}
use Rattle.stn_core.specs.Solution.{IsSolution}
use Rattle.best_values.specs.Widths.{width_of}
use Rattle.better_schedules.specs.Laws.{NearLaw, WidthLaw}
use Rattle.better_schedules.specs.code.Choices.{IsTrueOf, IsChoice, IsFlat}

-- none of a clause's literals holds
pub none_true : (values : List ℤ) (clause : List Literal) (n : ℕ) → length clause ≤ n → ((k : ℕ) → k < n → Holds values (literal_at clause k) → ⊥) → ClauseHolds values clause → ⊥
none_true values clause n all past h =
    let at : Contains clause h.0 = h.1 in
    let zero_at : literal_at clause at.0 ≡ h.0 = get_or_default clause at.0 (record { x = 0; y = 0; c = pos 0 }) h.0 at.1 ∙ at.2 in
    past at.0 (omega (arith, all, at.1)) (subst (Holds values) (sym zero_at) h.2)

-- one more clause
pub choice_push : (values : List ℤ) (clauses : List (List Literal)) (old new : List Literal) (l : Literal) (i : ℕ) → new ≡ old ++ l ∷ [] → length old ≡ i → ((k : ℕ) → k < i → IsTrueOf values (get_or clauses k []) (literal_at old k)) → IsTrueOf values (get_or clauses i []) l → (k : ℕ) → k < i + 1 → IsTrueOf values (get_or clauses k []) (literal_at new k)
choice_push values clauses old new l i e count each at k lt =
    subst (λ (ls : List Literal). IsTrueOf values (get_or clauses k []) (literal_at ls k)) (sym e)
    (elim (cases_lt k i) [
      | inl below ↦
          let same : literal_at (old ++ l ∷ []) k ≡ literal_at old k = get_or_append_left old (l ∷ []) (record { x = 0; y = 0; c = pos 0 }) k (omega (arith, count, below)) in
          subst (IsTrueOf values (get_or clauses k [])) (sym same) (each k below)
      | inr above ↦
          let is : length old ≡ k = omega (arith, count, lt, above) in
          let i_is : i ≡ k = omega (arith, lt, above) in
          let seam : literal_at (old ++ l ∷ []) k ≡ l = ap (λ (j : ℕ). literal_at (old ++ l ∷ []) j) (sym is) ∙ get_or-append_seam old l [] (record { x = 0; y = 0; c = pos 0 }) in
          subst (IsTrueOf values (get_or clauses k [])) (sym seam) (subst (λ (j : ℕ). IsTrueOf values (get_or clauses j []) l) i_is at)
    ])

pub all_left : {X : Type 0} (P : X → Type 0) (xs ys : List X) → All P (xs ++ ys) → All P xs
all_left P xs ys all k d h = subst P (get_or_append_left xs ys d k h) (all k d (omega (arith, length-append xs ys, h)))

pub all_last : {X : Type 0} (P : X → Type 0) (xs : List X) (y : X) → All P (xs ++ y ∷ []) → P y
all_last P xs y all = subst P (get_or-append_seam xs y [] y) (all (length xs) y (omega (arith, length-append xs (y ∷ []))))

module _ (problem : Problem) (values : List ℤ) (chosen : List Literal) (choice : IsChoice values problem.clauses chosen) where
  -- the literal at a place, whatever stands for one past the end
  chosen_at : (k : ℕ) (d : Literal) → k < length chosen → literal_at chosen k ≡ get_or chosen k d
  chosen_at k d h = get_or_default chosen k (record { x = 0; y = 0; c = pos 0 }) d h

  in_clauses : (k : ℕ) → k < length chosen → k < length problem.clauses
  in_clauses k h = let c = choice.count in omega (arith, c, h)

  pub chosen_hold : All (Holds values) chosen
  chosen_hold k d h = subst (Holds values) (chosen_at k d h) (choice.each k (in_clauses k h)).1

  pub chosen_over : All (IsOver problem.points) chosen
  chosen_over k d h =
      let at = (choice.each k (in_clauses k h)).0 in
      let over : IsOver problem.points (get_or (get_or problem.clauses k []) at.0 (literal_at chosen k)) = problem.over k [] (in_clauses k h) at.0 (literal_at chosen k) at.1 in
      subst (IsOver problem.points) (at.2 ∙ chosen_at k d h) over

  pub chosen_near : WidthLaw → AreNear (width_of problem.clauses) chosen
  chosen_near widths k d h =
      let at = (choice.each k (in_clauses k h)).0 in
      let among : Contains problem.clauses (get_or problem.clauses k []) = (k, in_clauses k h, get_or_default problem.clauses k (get_or problem.clauses k []) [] (in_clauses k h)) in
      let low = (widths problem.clauses (get_or problem.clauses k []) (literal_at chosen k) among at).0 in
      subst (λ (l : Literal). neg_ℤ (pos (width_of problem.clauses)) ≤ℤ l.c) (chosen_at k d h) low

  -- where they hold the problem does
  pub chosen_decide : (others : List ℤ) → All (Holds others) chosen → ProblemHolds others problem.clauses
  chosen_decide others hold k d h =
      let zero_literal : Literal = record { x = 0; y = 0; c = pos 0 } in
      let c = choice.count in
      let at : Contains (get_or problem.clauses k []) (literal_at chosen k) = (choice.each k h).0 in
      let holds : Holds others (literal_at chosen k) = hold k zero_literal (omega (arith, c, h)) in
      let clause : ClauseHolds others (get_or problem.clauses k []) = (literal_at chosen k, at, holds) in
      subst (ClauseHolds others) (get_or_default problem.clauses k [] d h) clause

  -- the greatest schedule of them is near 0
  pub flat : NearLaw → WidthLaw → (answer : Greatest) (schedule : List ℤ) → IsAnswer problem.points chosen answer → answer ≡ AsGreatest schedule → IsFlat problem schedule
  flat near widths answer schedule a is =
      let best : IsBest problem.points chosen schedule = subst (IsAnswer problem.points chosen) is a in
      record {
        solution = record { count = best.greatest.schedule.count; range = best.range; holds = chosen_decide schedule best.greatest.schedule.holds };
        near = near problem.points (width_of problem.clauses) chosen schedule (chosen_near widths) chosen_over best.greatest;
      }

  -- they have one
  pub no_cycle : CycleLaw → (answer : Greatest) (cycle : List Literal) → IsAnswer problem.points chosen answer → answer ≡ Negative cycle → ⊥
  no_cycle law answer cycle a is =
      let among : IsCycleAmong chosen cycle = subst (IsAnswer problem.points chosen) is a in
      law cycle values among.negative (λ k d h.
      let at : Contains chosen (get_or cycle k d) = among.given k d h in
      subst (Holds values) at.2 (chosen_hold at.0 (get_or cycle k d) at.1))

  -- of them and two more, a greatest schedule over two more points
  pub tight : (l m : Literal) (mid all : List Literal) (answer : Greatest) (schedule result : List ℤ) → mid ≡ chosen ++ l ∷ [] → all ≡ mid ++ m ∷ [] → IsAnswer (problem.points + 2) all answer → answer ≡ AsGreatest schedule → result ≡ take problem.points schedule → IsSolution problem result
  tight l m mid all answer schedule result mid_is all_is a is result_is =
      let best : IsBest (problem.points + 2) all schedule = subst (IsAnswer (problem.points + 2) all) is a in
      let s = best.greatest.schedule in
      let count = s.count in
      let in_mid : All (Holds schedule) mid = all_left (Holds schedule) mid (m ∷ []) (subst (All (Holds schedule)) all_is s.holds) in
      let hold : All (Holds schedule) chosen = all_left (Holds schedule) chosen (l ∷ []) (subst (All (Holds schedule)) mid_is in_mid) in
      subst (IsSolution problem) (sym result_is) (record {
        count = length-take-le problem.points schedule (omega (arith, count));
        range = All-take IsInRange problem.points schedule best.range;
        holds = chosen_decide (take problem.points schedule) (λ k d h. taken_holds schedule (get_or chosen k d) (chosen_over k d h) (hold k d h));
      })
    where
      taken_holds : (vs : List ℤ) (n : Literal) → IsOver problem.points n → Holds vs n → Holds (take problem.points vs) n
      taken_holds vs n over h =
          let x_at : value_at (take problem.points vs) n.x ≡ value_at vs n.x = get_or-take problem.points vs n.x (pos 0) over.x_in in
          let y_at : value_at (take problem.points vs) n.y ≡ value_at vs n.y = get_or-take problem.points vs n.y (pos 0) over.y_in in
          omega (arith, ints)

  -- the two more are within the limits, and so are these
  pub tight_over : (l m : Literal) (mid all : List Literal) → mid ≡ chosen ++ l ∷ [] → all ≡ mid ++ m ∷ [] → IsOver (problem.points + 2) l → IsOver (problem.points + 2) m → All (IsOver (problem.points + 2)) all
  tight_over l m mid all mid_is all_is l_over m_over =
      let wide : All (IsOver (problem.points + 2)) chosen = λ k d h. wider (get_or chosen k d) (chosen_over k d h) in
      let in_mid : All (IsOver (problem.points + 2)) mid = subst (All (IsOver (problem.points + 2))) (sym mid_is) (All-push (IsOver (problem.points + 2)) chosen l wide l_over) in
      subst (All (IsOver (problem.points + 2))) (sym all_is) (All-push (IsOver (problem.points + 2)) mid m in_mid m_over)
    where
      wider : (n : Literal) → IsOver problem.points n → IsOver (problem.points + 2) n
      wider n o = let x_in = o.x_in in let y_in = o.y_in in record { x_in = omega (arith, x_in); y_in = omega (arith, y_in); low = o.low; high = o.high }
