-- What the code finds of a best entry.
use Rattle.std.proofs.Common.{refl, sym, ap, subst, arith, ◌∙◌, ◌≡◌, ◌<◌, ◌+◌, List, [], ◌∷◌, ◌++◌, length, Bool, true, false, Option, Some, None, Result, Ok, Err, ℤ, ◌+ℤ◌, ◌-ℤ◌, to_z, of_z}
use Rattle.std.specs.Int.{w128}
use Rattle.std.specs.Prelude.{◌↔◌, IsTrue, MatchOption, if◌then◌else◌}
use Rattle.smt_sexpr.specs.Tree.{Sexpr}
use Rattle.stn_core.specs.declared.literal.Literal.{Literal}
use Rattle.stn_core.specs.declared.named.NamedValue.{NamedValue}
use Rattle.stn_core.specs.Literal.{value_at}
use Rattle.best_values.specs.Widths.{IsWithinLimit}
use Rattle.kept_lemmas.specs.declared.item.Item.{Item}
use Rattle.kept_lemmas.specs.Entries.{Placed}
use Rattle.clause_form.specs.Laws.{PointsGrow}
use Rattle.idl_node.specs.Truth.{point_values}
use Rattle.idl_term.specs.Contexts.{Context, IsScheduleFor, environment}
use Rattle.idl_term.specs.Scopes.{sorts_of}
use Rattle.smt_script.specs.Commands.{minimized}
use Rattle.smt_script.specs.code.Kept.{Kept}
use Rattle.smt_script.specs.declared.objective.Objective.{Objective}
use Rattle.smt_script.specs.declared.state.Effect.TheVariants.{Ask}
use Rattle.smt_script.specs.declared.state.Question.TheVariants.{Minimize}
use Rattle.smt_script.specs.Laws.{MinimizedIsWorth}
use Rattle.smt_script.specs.Objectives.{IsObjectiveOf}
use Rattle.smt_script.specs.States.{State}
use Rattle.dtp_entry.specs.Entries.{points_of, problem_below}
use Rattle.dtp_entry.proofs.Verdicts.{sorts_count}
use Rattle.dtp_check.specs.declared.judgement.EntryFlaw.{EntryFlaw}
use Rattle.dtp_check.specs.declared.judgement.EntryFlaw.TheVariants.{NotAttained, OutOfRange}
use Rattle.dtp_check.specs.MinimizeFlaws.{attained_flaw, range_flaw}
use Rattle.dtp_check.specs.Judged.{first_of_two, values_flaw, refutation_flaw, least_flaw, placed_items}
use Rattle.dtp_check.specs.declared.earlier.Earlier.{Earlier}
use Rattle.dtp_check.specs.code.Asked.{IsAsked, IsLeastFound, asked_clauses}
use Rattle.dtp_check.specs.code.Earlier.{Holds}
use Rattle.dtp_check.proofs.Judging.{of_sorts_count}
use Rattle.dtp_check.proofs.Leasts.{attained_test, values_wrong, value_wrong, range_wrong, least_found, read_back}
use Rattle.dtp_check.proofs.Truths.{values_right}

-- ---- the value and the values

module _ (worth : MinimizedIsWorth) (kept : Kept) (x : Sexpr) (o : Objective) (s : State) (asked : IsAsked kept (Minimize o) x s) where
  term : (t : Sexpr) × (minimized x ≡ Some t) × IsObjectiveOf s.context t o
  term = worth asked.before x (record { state = s; effect = Ask (Minimize o) }) o asked.made asked.asks refl

  -- the objective's points are points of the problem
  pub x_point : PointsGrow → o.x < points_of s.context
  x_point some =
      let grow = some (length s.context.declared + 1) s.context.nodes s.context.roots in
      let low = term.2.x_below in
      omega (arith, grow, low)

  pub y_point : PointsGrow → o.y < points_of s.context
  y_point some =
      let grow = some (length s.context.declared + 1) s.context.nodes s.context.roots in
      let low = term.2.y_below in
      omega (arith, grow, low)

  module _ (values : List NamedValue) (m : ℤ) (found : Option EntryFlaw) (e : found ≡ values_flaw s.context values) where
    pub values_found : (flaw : EntryFlaw) → found ≡ Some flaw → IsLeastFound x o s.context m values (Err flaw)
    values_found flaw is = values_wrong x o s.context m values flaw (sym e ∙ is)

    module _ (none : found ≡ None) (given : List NamedValue) (same : given ≡ values) where
      fits : IsScheduleFor s.context values
      fits = (values_right s.context values (sym e ∙ none)).0

      counted : length given ≡ length s.context.declared
      counted = ap (λ (vs : List NamedValue). length vs) same ∙ of_sorts_count (sorts_of s.context.declared) values fits ∙ sorts_count s.context.declared

      pub x_there : o.x < length given + 1
      x_there = let low = term.2.x_below in let count = counted in omega (arith, low, count)

      pub y_there : o.y < length given + 1
      y_there = let low = term.2.y_below in let count = counted in omega (arith, low, count)

      module _ (b : Bool) (test : IsTrue b ↔ (((value_at (point_values given) o.x -ℤ value_at (point_values given) o.y) +ℤ o.k) ≡ m)) where
        tested : attained_flaw (environment s.context values) (minimized x) m ≡ (if b then None else Some NotAttained)
        tested =
            let h = term in
            attained_test s.context values x h.0 o m b h.1 h.2 fits
            (subst (λ (vs : List NamedValue). (IsTrue b → ((value_at (point_values vs) o.x -ℤ value_at (point_values vs) o.y) +ℤ o.k) ≡ m) × (((value_at (point_values vs) o.x -ℤ value_at (point_values vs) o.y) +ℤ o.k) ≡ m → IsTrue b)) same test)

        pub value_found : b ≡ false → IsLeastFound x o s.context m values (Err NotAttained)
        value_found is = value_wrong x o s.context m values NotAttained (sym e ∙ none) (tested ∙ ap (λ (t : Bool). if t then None else Some NotAttained) is)

        attained : b ≡ true → attained_flaw (environment s.context values) (minimized x) m ≡ None
        attained is = tested ∙ ap (λ (t : Bool). if t then None else Some NotAttained) is

        abbrev IsDifference : Option ℤ → Type 0
        IsDifference o' = MatchOption o' (range_flaw (m -ℤ o.k) ≡ Some OutOfRange) (λ d. (range_flaw (m -ℤ o.k) ≡ None) × (d ≡ m -ℤ o.k) × IsWithinLimit d)

        pub range_found : b ≡ true → (d : Option ℤ) → d ≡ None → IsDifference d → IsLeastFound x o s.context m values (Err OutOfRange)
        range_found is d none_there h = range_wrong x o s.context m values (sym e ∙ none) (attained is) (subst IsDifference none_there h)

        pub difference_found : b ≡ true → (d : Option ℤ) (n : ℤ) → d ≡ Some n → IsDifference d → IsLeastFound x o s.context m values (Ok (to_z w128 (of_z w128 n)))
        difference_found is d n there h =
            let w : IsDifference (Some n) = subst IsDifference there h in
            subst (λ (z : ℤ). IsLeastFound x o s.context m values (Ok z)) (sym (read_back n w.2)) (least_found x o s.context m values n (sym e ∙ none) (attained is) w.0 w.1 w.2)

-- ---- both

-- the code reads the value m and the difference d from their bits
module _ (before : List Placed) (x : Sexpr) (o : Objective) (c : Context) (m n : ℤ) (same : n ≡ m) (values : List NamedValue) (items : List Item) (found : Result ℤ EntryFlaw) (is : IsLeastFound x o c n values found) where
  abbrev refuted : Option EntryFlaw
  refuted = refutation_flaw before c (problem_below c o m) items

  found_as : (r : Result ℤ EntryFlaw) → found ≡ r → IsLeastFound x o c m values r
  found_as r e = subst (λ (q : Result ℤ EntryFlaw). IsLeastFound x o c m values q) e (subst (λ (k : ℤ). IsLeastFound x o c k values found) same is)

  pub best_wrong : (flaw : EntryFlaw) → found ≡ Err flaw → Some flaw ≡ first_of_two (least_flaw x o c m values) refuted
  best_wrong flaw e = sym (ap (λ (f : Option EntryFlaw). first_of_two f refuted) (found_as (Err flaw) e))

  module _ (d : ℤ) (e : found ≡ Ok d) where
    least_is : IsLeastFound x o c m values (Ok d)
    least_is = found_as (Ok d) e

    pub within : IsWithinLimit (to_z w128 (of_z w128 d))
    within = let w = least_is.2 in subst IsWithinLimit (sym (read_back d w)) w

    same_clauses : asked_clauses c o (to_z w128 (of_z w128 d)) ≡ problem_below c o m
    same_clauses = ap (asked_clauses c o) (read_back d least_is.2 ∙ least_is.1)

    pub best_items : (flaw : Option EntryFlaw) → flaw ≡ refutation_flaw before c (asked_clauses c o (to_z w128 (of_z w128 d))) items → flaw ≡ first_of_two (least_flaw x o c m values) refuted
    best_items flaw f =
        f ∙ ap (λ (cs : List (List Literal)). refutation_flaw before c cs items) same_clauses
        ∙ sym (ap (λ (g : Option EntryFlaw). first_of_two g refuted) least_is.0)

    pub best_held : (earlier : Earlier) → Holds earlier (before ++ placed_items c (asked_clauses c o (to_z w128 (of_z w128 d))) items ∷ []) → Holds earlier (before ++ placed_items c (problem_below c o m) items ∷ [])
    best_held earlier h = subst (λ (cs : List (List Literal)). Holds earlier (before ++ placed_items c cs items ∷ [])) same_clauses h
