-- What the code finds by flags is what may be used in the new problem.
use Rattle.std.proofs.Common.{arith, ◌≡◌, ◌↔◌, ◌<◌, ◌≤◌, ◌+◌, ℕ, zero, suc, Bool, true, false, is_some, List, [], ◌∷◌, ◌++◌, length, map, flat_map, Option, Some, None, All, Contains, refl, sym, ap, subst, ◌∙◌, get_or, drop, length-append}
use Rattle.std.specs.Prelude.{slice_get, nat_lt}
use Rattle.std.specs.List.{list_all}
use Rattle.std.proofs.lemmas.Bool.{and_parts, and_from, ltb-true, lt-ltb}
use Rattle.std.proofs.lemmas.List.{get_or_default, get_or_past, at_drop_more}
use Rattle.std.proofs.lemmas.List.Elements.{All-nil, All-cons, All-head, All-tail, All-append}
use Rattle.std.proofs.lemmas.Option.{slice_get_within}
use Rattle.stn_core.specs.declared.literal.Literal.{Literal}
use Rattle.refute_tree.specs.declared.step.Step.{Step}
use Rattle.refute_tree.specs.declared.step.Step.TheVariants.{Cycle, Input, Lemma as Earlier, Clash, Either}
use Rattle.refute_tree.specs.declared.lemma.Lemma.{Lemma}
use Rattle.refute_tree.specs.Trees.{IsOnPoints}
use Rattle.kept_lemmas.specs.declared.item.Item.TheVariants.{Own}
use Rattle.kept_lemmas.specs.Facts.{Fact, Facts, support_of_clause, support_of_fact, named_by_fact, step_support, step_named, own_fact, facts_from}
use Rattle.kept_lemmas.specs.Entries.{IsUsable}
use Rattle.kept_lemmas.proofs.Usable.{at_contained}
use Rattle.carried_lemmas.specs.Carried.{lemma_facts, IsEqualAt, AreEqualAt, AreKept}
use Rattle.carried_lemmas.specs.code.Carrying.{is_on, step_stays, lemma_stays, flags_from}
use Rattle.carried_lemmas.proofs.Lists.{all_before, all_behind}

-- ---- literals

literal_right : (points : ℕ) (l : Literal) → (is_on points l ≡ true) ↔ IsOnPoints points l
literal_right points l = (
  λ e. (let parts = and_parts (nat_lt l.x points) (nat_lt l.y points) e in record { x_in = ltb-true l.x points parts.0; y_in = ltb-true l.y points parts.1 }),
  λ h. and_from (nat_lt l.x points) (nat_lt l.y points) (lt-ltb l.x points h.x_in) (lt-ltb l.y points h.y_in),
)

literals_right : (points : ℕ) (ls : List Literal) → (list_all (is_on points) ls ≡ true) ↔ All (IsOnPoints points) ls
literals_right points [] = (λ e. All-nil (IsOnPoints points), λ h. refl)
literals_right points (l ∷ ls) =
    let one = literal_right points l in
    let others = literals_right points ls in (
      λ e. (let parts = and_parts (is_on points l) (list_all (is_on points) ls) e in All-cons (IsOnPoints points) l ls (one.0 parts.0) (others.0 parts.1)),
      λ h. and_from (is_on points l) (list_all (is_on points) ls) (one.1 (All-head (IsOnPoints points) l ls h)) (others.1 (All-tail (IsOnPoints points) l ls h)),
    )

none_within : {X : Type 0} (xs : List X) (i : ℕ) → slice_get xs i ≡ None → length xs ≤ i
none_within [] i e = omega arith
none_within (x ∷ xs) zero e = absurd (cc)
none_within (x ∷ xs) (suc i) e = (let h = none_within xs i e in omega arith)

-- ---- steps

module _ (old : List (List Literal)) (points : ℕ) (new : List (List Literal)) (numbers : List (Option ℕ)) (equal : AreEqualAt old new numbers) where
  abbrev Usable : Fact → Type 0
  Usable fact = IsUsable points new fact

  -- the flags are right for what the lemmas so far state
  record AreRight (facts : Facts) (kept : List Bool) : Type 0 where
    pub one_each : length kept ≡ length facts
    pub right : (j : ℕ) (fact : Fact) → slice_get facts j ≡ Some fact → (get_or kept j true ≡ true) ↔ Usable fact

  there : (clause : List Literal) (n : Option ℕ) → IsEqualAt new clause n → (is_some n ≡ true) ↔ All (Contains new) (clause ∷ [])
  there clause None h = (λ e. absurd (cc), λ all. absurd (h (All-head (Contains new) clause [] all)))
  there clause (Some n) h = (λ e. All-cons (Contains new) clause [] (at_contained new n clause h.at) (All-nil (Contains new)), λ all. refl)

  clause_right : (i : ℕ) (o : Option (List Literal)) → slice_get old i ≡ o → (is_some (get_or numbers i (Some i)) ≡ true) ↔ All (Contains new) (support_of_clause o)
  clause_right i None e =
      let past : get_or numbers i (Some i) ≡ Some i = get_or_past numbers i (Some i) (omega (arith, none_within old i e, equal.one_each)) in
      (λ is. All-nil (Contains new), λ all. ap (λ (n : Option ℕ). is_some n) past)
  clause_right i (Some clause) e =
      let within : i < length numbers = omega (arith, slice_get_within old i clause e, equal.one_each) in
      let same : get_or numbers i (Some i) ≡ get_or numbers i None = get_or_default numbers i (Some i) None within in
      subst (λ (n : Option ℕ). (is_some n ≡ true) ↔ All (Contains new) (clause ∷ [])) (sym same) (there clause (get_or numbers i None) (equal.each i clause e))

  -- the points that a step names and what it rests on
  abbrev Rests : List Literal → List (List Literal) → Type 0
  Rests named support = All (IsOnPoints points) named × All (Contains new) support

  module _ (facts : Facts) (kept : List Bool) (h : AreRight facts kept) where
    fact_right : (j : ℕ) (o : Option Fact) → slice_get facts j ≡ o → (get_or kept j true ≡ true) ↔ Rests (named_by_fact o) (support_of_fact o)
    fact_right j None e =
        let past : get_or kept j true ≡ true = get_or_past kept j true (omega (arith, none_within facts j e, h.one_each)) in
        (λ is. (All-nil (IsOnPoints points), All-nil (Contains new)), λ all. past)
    fact_right j (Some fact) e =
        let one = h.right j fact e in
        (λ is. (let u = one.0 is in (u.on_points, u.active)), λ all. one.1 (record { on_points = all.0; active = all.1 }))

    step_right : (s : Step) → (step_stays points numbers kept s ≡ true) ↔ Rests (step_named facts s) (step_support old facts s)
    step_right (Cycle cycle) = (λ is. (All-nil (IsOnPoints points), All-nil (Contains new)), λ all. refl)
    step_right (Input i) =
        let one = clause_right i (slice_get old i) refl in
        (λ is. (All-nil (IsOnPoints points), one.0 is), λ all. one.1 all.1)
    step_right (Earlier j) = fact_right j (slice_get facts j) refl
    step_right (Clash i) =
        let one = clause_right i (slice_get old i) refl in
        (λ is. (All-nil (IsOnPoints points), one.0 is), λ all. one.1 all.1)
    step_right (Either l) =
        let one = literal_right points l in
        (λ is. (All-cons (IsOnPoints points) l [] (one.0 is) (All-nil (IsOnPoints points)), All-nil (Contains new)), λ all. one.1 (All-head (IsOnPoints points) l [] all.0))

    steps_right : (steps : List Step) → (list_all (step_stays points numbers kept) steps ≡ true) ↔ Rests (flat_map (step_named facts) steps) (flat_map (step_support old facts) steps)
    steps_right [] = (λ is. (All-nil (IsOnPoints points), All-nil (Contains new)), λ all. refl)
    steps_right (s ∷ steps) =
        let one = step_right s in
        let others = steps_right steps in
        let stays = step_stays points numbers kept in
        let named = step_named facts in
        let support = step_support old facts in (
          λ is. (let parts = and_parts (stays s) (list_all stays steps) is in (let a = one.0 parts.0 in (let b = others.0 parts.1 in
              (All-append (IsOnPoints points) (named s) (flat_map named steps) a.0 b.0, All-append (Contains new) (support s) (flat_map support steps) a.1 b.1)))),
          λ all. and_from (stays s) (list_all stays steps)
              (one.1 (all_before (IsOnPoints points) (named s) (flat_map named steps) all.0, all_before (Contains new) (support s) (flat_map support steps) all.1))
              (others.1 (all_behind (IsOnPoints points) (named s) (flat_map named steps) all.0, all_behind (Contains new) (support s) (flat_map support steps) all.1)),
        )

    lemma_right : (lemma : Lemma) → (lemma_stays points numbers kept lemma ≡ true) ↔ Usable (own_fact old facts lemma)
    lemma_right lemma =
        let clause = literals_right points lemma.clause in
        let steps = steps_right lemma.steps in
        let on = list_all (is_on points) lemma.clause in
        let stay = list_all (step_stays points numbers kept) lemma.steps in
        let named = flat_map (step_named facts) lemma.steps in (
          λ is. (let parts = and_parts on stay is in (let rest = steps.0 parts.1 in record {
            on_points = All-append (IsOnPoints points) lemma.clause named (clause.0 parts.0) rest.0;
            active = rest.1;
          })),
          λ u. and_from on stay
              (clause.1 (all_before (IsOnPoints points) lemma.clause named u.on_points))
              (steps.1 (all_behind (IsOnPoints points) lemma.clause named u.on_points, u.active)),
        )

  -- one more flag behind the others
  right_more : (kept : List Bool) (facts : Facts) (b : Bool) (fact : Fact) → length kept ≡ length facts
      → ((j : ℕ) (f : Fact) → slice_get facts j ≡ Some f → (get_or kept j true ≡ true) ↔ Usable f)
      → ((b ≡ true) ↔ Usable fact)
      → (j : ℕ) (f : Fact) → slice_get (facts ++ fact ∷ []) j ≡ Some f → (get_or (kept ++ b ∷ []) j true ≡ true) ↔ Usable f
  right_more [] [] b fact long h new_ zero f at = let same : fact ≡ f = cc in subst (λ (g : Fact). (b ≡ true) ↔ Usable g) same new_
  right_more [] [] b fact long h new_ (suc j) f at = absurd (cc)
  right_more [] (g ∷ facts) b fact long h new_ j f at = absurd (omega arith)
  right_more (c ∷ kept) [] b fact long h new_ j f at = absurd (omega arith)
  right_more (c ∷ kept) (g ∷ facts) b fact long h new_ zero f at = h 0 f at
  right_more (c ∷ kept) (g ∷ facts) b fact long h new_ (suc j) f at = right_more kept facts b fact (omega arith) (λ i x is. h (suc i) x is) new_ j f at

  all_right : (facts : Facts) (kept : List Bool) (lemmas : List Lemma) → AreRight facts kept
      → AreRight (facts_from [] old facts (map (λ (lemma : Lemma). Own lemma) lemmas)) (flags_from points numbers kept lemmas)
  all_right facts kept [] h = h
  all_right facts kept (lemma ∷ lemmas) h =
      let fact = own_fact old facts lemma in
      let b = lemma_stays points numbers kept lemma in
      all_right (facts ++ fact ∷ []) (kept ++ b ∷ []) lemmas (record {
        one_each = omega (arith, length-append kept (b ∷ []), length-append facts (fact ∷ []), h.one_each);
        right = right_more kept facts b fact h.one_each h.right (lemma_right facts kept h lemma);
      })

  pub flags_right : (lemmas : List Lemma) → AreKept points new (lemma_facts old lemmas) (flags_from points numbers [] lemmas)
  flags_right lemmas =
      let none_ : AreRight [] [] = record { one_each = refl; right = λ j fact e. absurd (cc) } in
      let r = all_right [] [] lemmas none_ in
      let facts = lemma_facts old lemmas in
      let kept = flags_from points numbers [] lemmas in
      record {
        one_each = r.one_each;
        right = λ j fact e. (
            let within : j < length kept = omega (arith, slice_get_within facts j fact e, r.one_each) in
            subst (λ (b : Bool). (b ≡ true) ↔ IsUsable points new fact) (get_or_default kept j true false within) (r.right j fact e)
            );
      }

flags_count : (points : ℕ) (numbers : List (Option ℕ)) (kept : List Bool) (lemmas : List Lemma) → length (flags_from points numbers kept lemmas) ≡ length kept + length lemmas
flags_count points numbers kept [] = omega arith
flags_count points numbers kept (lemma ∷ lemmas) =
    let b = lemma_stays points numbers kept lemma in
    let rest = flags_count points numbers (kept ++ b ∷ []) lemmas in
    omega (arith, rest, length-append kept (b ∷ []))

pub flags_each : (points : ℕ) (numbers : List (Option ℕ)) (lemmas : List Lemma) → length (flags_from points numbers [] lemmas) ≡ length lemmas
flags_each points numbers lemmas = (let h = flags_count points numbers [] lemmas in omega arith)

-- one more flag, of a shared lemma
pub flags_next : {A : Type 0} (value : A → Lemma) (points : ℕ) (numbers : List (Option ℕ)) (shared : List A) (i : ℕ) (item : A) (kept lent more whole : List Bool) (lemma : Lemma) (flag : Bool)
    → i < length shared → item ≡ get_or shared i item → lent ≡ kept → lemma ≡ value item → flag ≡ lemma_stays points numbers lent lemma → more ≡ kept ++ flag ∷ []
    → flags_from points numbers kept (map value (drop i shared)) ≡ whole → flags_from points numbers more (map value (drop (i + 1) shared)) ≡ whole
flags_next value points numbers shared i item kept lent more whole lemma flag lt is lent_is lemma_is flag_is e h =
    let stays : flag ≡ lemma_stays points numbers kept (value (get_or shared i item)) =
    flag_is ∙ ap (λ (bs : List Bool). lemma_stays points numbers bs lemma) lent_is ∙ ap (lemma_stays points numbers kept) (lemma_is ∙ ap value is) in
    ap (λ (bs : List Bool). flags_from points numbers bs (map value (drop (i + 1) shared))) (e ∙ ap (λ (b : Bool). kept ++ b ∷ []) stays)
    ∙ sym (at_drop_more (λ xs. flags_from points numbers kept (map value xs)) shared i item lt)
    ∙ h
