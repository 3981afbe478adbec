-- Which literals stand at leaves, over plain lists.
use Rattle.std.proofs.Common.{arith, ◌≡◌, ◌≢◌, ℕ, ◌<◌, ◌≤◌, ◌+◌, inl, inr, ◌⊎◌, List, length, Bool, true, false, set, subst, sym, ap, ◌∙◌, refl}
use Rattle.std.specs.Prelude.{slice_index}
use Rattle.std.proofs.lemmas.Bool.{cases_eq}
use Rattle.std.proofs.lemmas.List.{length-set, get_or-set_same, get_or-set_other}
use Rattle.stn_core.specs.declared.literal.Literal.{Literal}
use Rattle.stn_core.specs.Literal.{negation_of, literal_at}
use Rattle.conflict_analysis.specs.declared.entry.Source.TheVariants.{Input as OfInput, Lemma as OfLemma}
use Rattle.conflict_analysis.specs.declared.entry.Reason.{Reason}
use Rattle.conflict_analysis.specs.declared.entry.Reason.TheVariants.{Given, Decision, Clause as ByClause, Pair as ByPair, Cycle as ByCycle}
use Rattle.conflict_analysis.specs.declared.entry.Entry.{Entry}
use Rattle.conflict_analysis.specs.declared.entry.Conflict.{Conflict}
use Rattle.conflict_analysis.specs.declared.entry.Conflict.TheVariants.{Cycle as OfCycle}
use Rattle.conflict_analysis.specs.declared.entry.Role.{Role}
use Rattle.conflict_analysis.specs.declared.entry.Role.TheVariants.{Resolved}
use Rattle.conflict_analysis.specs.code.Trails.{source_clause, pair_cycle, entry_at, on_trail, role_at, IsUsed, IsByClause, IsByCycle, Follows, StandsUsed, IsClosed, IsConflict}
use Rattle.conflict_analysis.specs.code.Places.{ArePassed}
use Rattle.conflict_analysis.specs.code.Leaves.{at_leaves, IsFewer, StandsAssumed, IsLeafReason, IsAssuming, HasPassed, IsChosen, IsAssumedConflict}

false_or_true : (b : Bool) → (b ≡ false) ⊎ (b ≡ true)
false_or_true false = inl refl
false_or_true true = inr refl

not_both : (b : Bool) → b ≡ false → b ≡ true → ⊥
not_both b f t = let no : false ≡ true = sym f ∙ t in absurd cc

pub fewer_none : (leaves : List Bool) → IsFewer leaves leaves
fewer_none leaves = record { count = refl; only = λ j t. t }

pub fewer_twice : (old mid new : List Bool) → IsFewer old mid → IsFewer mid new → IsFewer old new
fewer_twice old mid new a b = record { count = b.count ∙ a.count; only = λ j t. a.only j (b.only j t) }

-- what doesn't stand at leaves stays so
still_false : (old new : List Bool) (j : ℕ) → IsFewer old new → at_leaves old j ≡ false → at_leaves new j ≡ false
still_false old new j f o = elim (false_or_true (at_leaves new j)) [
  | inl e ↦ e
  | inr t ↦ absurd (not_both (at_leaves old j) o (f.only j t))
]

module _ (trail : List Entry) (roles : List Role) where
  pub assumed_one : (old new : List Bool) (k below : ℕ) (l : Literal) → k < length old → k < below → new ≡ set old k false → IsUsed (role_at roles k) → on_trail trail k ≡ l → StandsAssumed trail roles new below l
  assumed_one old new k below l within lt e used is = (k, lt, used, ap (λ (bs : List Bool). at_leaves bs k) e ∙ get_or-set_same old k false false within, is)

  pub assumed_fewer : (old new : List Bool) (below : ℕ) (l : Literal) → IsFewer old new → StandsAssumed trail roles old below l → StandsAssumed trail roles new below l
  assumed_fewer old new below l f s = (s.0, s.1, s.2, still_false old new s.0 f s.3, s.4)

  pub assumed_higher : (leaves : List Bool) (low high : ℕ) (l : Literal) → low ≤ high → StandsAssumed trail roles leaves low l → StandsAssumed trail roles leaves high l
  assumed_higher leaves low high l le s = (s.0, (let lt = s.1 in omega (arith, lt)), s.2, s.3, s.4)

  -- a literal from this place on stands at leaves now
  assumed_set : (old new : List Bool) (below k : ℕ) (l : Literal) → below ≤ k → new ≡ set old k true → StandsAssumed trail roles old below l → StandsAssumed trail roles new below l
  assumed_set old new below k l le e s =
      let lt = s.1 in
      let other : s.0 ≢ k = λ same. absurd (omega (arith, lt, same)) in
      (s.0, s.1, s.2, ap (λ (bs : List Bool). at_leaves bs s.0) e ∙ get_or-set_other old k s.0 true false other ∙ s.3, s.4)

  pub denied_more : (leaves : List Bool) (below : ℕ) (clause : List Literal) (place q : ℕ) (m : Literal) → ((i : ℕ) → i < q → i ≢ place → StandsAssumed trail roles leaves below (negation_of (literal_at clause i))) → m ≡ negation_of (literal_at clause q) → StandsAssumed trail roles leaves below m → (i : ℕ) → i < q + 1 → i ≢ place → StandsAssumed trail roles leaves below (negation_of (literal_at clause i))
  denied_more leaves below clause place q m h e s i lt ne = elim (cases_eq i q) [
    | inl same ↦ subst (λ (j : ℕ). StandsAssumed trail roles leaves below (negation_of (literal_at clause j))) (sym same) (subst (StandsAssumed trail roles leaves below) e s)
    | inr other ↦ h i (omega arith) ne
  ]

  pub denied_past : (leaves : List Bool) (below : ℕ) (clause : List Literal) (place q : ℕ) → ((i : ℕ) → i < q → i ≢ place → StandsAssumed trail roles leaves below (negation_of (literal_at clause i))) → q ≡ place → (i : ℕ) → i < q + 1 → i ≢ place → StandsAssumed trail roles leaves below (negation_of (literal_at clause i))
  denied_past leaves below clause place q h e i lt ne = elim (cases_eq i q) [
    | inl same ↦ absurd (ne (same ∙ e))
    | inr other ↦ h i (omega arith) ne
  ]

  -- one more literal of a cycle
  pub others_more : (old new : List Bool) (below : ℕ) (cycle : List Literal) (l : Literal) (q : ℕ) → IsFewer old new → ((i : ℕ) → i < q → (literal_at cycle i ≡ negation_of l) ⊎ StandsAssumed trail roles old below (literal_at cycle i)) → ((literal_at cycle q ≡ negation_of l) ⊎ StandsAssumed trail roles new below (literal_at cycle q)) → (i : ℕ) → i < q + 1 → (literal_at cycle i ≡ negation_of l) ⊎ StandsAssumed trail roles new below (literal_at cycle i)
  others_more old new below cycle l q f h here i lt = elim (cases_eq i q) [
    | inl same ↦ subst (λ (j : ℕ). (literal_at cycle j ≡ negation_of l) ⊎ StandsAssumed trail roles new below (literal_at cycle j)) (sym same) here
    | inr other ↦ elim (h i (omega arith)) [
      | inl e ↦ inl e
      | inr s ↦ inr (assumed_fewer old new below (literal_at cycle i) f s)
    ]
  ]

  pub all_more : (old new : List Bool) (below : ℕ) (cycle : List Literal) (q : ℕ) → IsFewer old new → ((i : ℕ) → i < q → StandsAssumed trail roles old below (literal_at cycle i)) → StandsAssumed trail roles new below (literal_at cycle q) → (i : ℕ) → i < q + 1 → StandsAssumed trail roles new below (literal_at cycle i)
  all_more old new below cycle q f h here i lt = elim (cases_eq i q) [
    | inl same ↦ subst (λ (j : ℕ). StandsAssumed trail roles new below (literal_at cycle j)) (sym same) here
    | inr other ↦ assumed_fewer old new below (literal_at cycle i) f (h i (omega arith))
  ]

  module _ (inputs lemmas : List (List Literal)) where
    -- what holds of assumed literals holds of those that are more
    leaf_by : (old new : List Bool) (k : ℕ) (l : Literal) (reason : Reason) → ((m : Literal) → StandsAssumed trail roles old k m → StandsAssumed trail roles new k m) → IsLeafReason inputs lemmas trail roles old k l reason → IsLeafReason inputs lemmas trail roles new k l reason
    leaf_by old new k l Given more h = h
    leaf_by old new k l Decision more h = h
    leaf_by old new k l (ByClause (OfInput i) place) more h = record {
      known = h.known;
      within = h.within;
      at = h.at;
      others = λ q lt ne. more (negation_of (literal_at (source_clause inputs lemmas (OfInput i)) q)) (h.others q lt ne);
    }
    leaf_by old new k l (ByClause (OfLemma j) place) more h = h
    leaf_by old new k l (ByPair tighter) more h = h
    leaf_by old new k l (ByCycle cycle) more h = h

    cycle_by : (old new : List Bool) (k : ℕ) (l : Literal) (cycle : List Literal) → ((m : Literal) → StandsAssumed trail roles old k m → StandsAssumed trail roles new k m) → IsByCycle (StandsAssumed trail roles old k) l cycle → IsByCycle (StandsAssumed trail roles new k) l cycle
    cycle_by old new k l cycle more h = record {
      negative = h.negative;
      others = λ q lt. elim (h.others q lt) [
        | inl e ↦ inl e
        | inr s ↦ inr (more (literal_at cycle q) s)
      ];
    }

    assuming_by : (old new : List Bool) (k : ℕ) (l : Literal) (reason : Reason) → ((m : Literal) → StandsAssumed trail roles old k m → StandsAssumed trail roles new k m) → IsAssuming trail roles old k l reason → IsAssuming trail roles new k l reason
    assuming_by old new k l Given more h = h
    assuming_by old new k l Decision more h = h
    assuming_by old new k l (ByClause source place) more h = h
    assuming_by old new k l (ByPair tighter) more h = cycle_by old new k l (pair_cycle tighter l) more h
    assuming_by old new k l (ByCycle cycle) more h = cycle_by old new k l cycle more h

    -- a clause needs no assumption once it is opened
    leaf_assumes : (old new : List Bool) (k : ℕ) (l : Literal) (reason : Reason) → IsLeafReason inputs lemmas trail roles old k l reason → IsAssuming trail roles new k l reason
    leaf_assumes old new k l Given h = absurd h
    leaf_assumes old new k l Decision h = absurd h
    leaf_assumes old new k l (ByClause source place) h = tt
    leaf_assumes old new k l (ByPair tighter) h = absurd h
    leaf_assumes old new k l (ByCycle cycle) h = absurd h

    module _ (passed : List ℕ) where
      pub chosen_start : (leaves : List Bool) (i : ℕ) → length trail ≤ length leaves → ((k : ℕ) → at_leaves leaves k ≡ false) → length passed ≤ i → IsChosen inputs lemmas trail roles passed i leaves
      chosen_start leaves i count clean end = record {
        count = count;
        behind = λ k t. absurd (not_both (at_leaves leaves k) (clean k) t);
        reasons = λ k t. absurd (not_both (at_leaves leaves k) (clean k) t);
        assuming = λ k has is f. (let from = has.1 in let lt = has.2 in absurd (omega (arith, from, lt)));
      }

      pub chosen_fewer : (i : ℕ) (old new : List Bool) → IsChosen inputs lemmas trail roles passed i old → IsFewer old new → IsChosen inputs lemmas trail roles passed i new
      chosen_fewer i old new c f = record {
        count = (let a = c.count in let b = f.count in omega (arith, a, b));
        behind = λ k t. c.behind k (f.only k t);
        reasons = λ k t. leaf_by old new k (on_trail trail k) (entry_at trail k).reason (λ m s. assumed_fewer old new k m f s) (c.reasons k (f.only k t));
        assuming = λ k has is e. elim (false_or_true (at_leaves old k)) [
          | inl o ↦ assuming_by old new k (on_trail trail k) (entry_at trail k).reason (λ m s. assumed_fewer old new k m f s) (c.assuming k has is o)
          | inr t ↦ leaf_assumes old new k (on_trail trail k) (entry_at trail k).reason (c.reasons k t)
        ];
      }

      -- one index more, whose literal is resolved and assumed, or isn't resolved
      pub chosen_next : (i : ℕ) (leaves : List Bool) → IsChosen inputs lemmas trail roles passed (i + 1) leaves → (role_at roles (slice_index passed i) ≡ Resolved → IsAssuming trail roles leaves (slice_index passed i) (on_trail trail (slice_index passed i)) (entry_at trail (slice_index passed i)).reason) → IsChosen inputs lemmas trail roles passed i leaves
      chosen_next i leaves c here = record {
        count = c.count;
        behind = λ k t. (let has = c.behind k t in let from = has.1 in (has.0, omega (arith, from), has.2, has.3));
        reasons = c.reasons;
        assuming = λ k has is e. elim (cases_eq has.0 i) [
          | inl same ↦ (let at : slice_index passed i ≡ k = ap (λ (a : ℕ). slice_index passed a) (sym same) ∙ has.3 in
              let P : ℕ → Type 0 = λ j. role_at roles j ≡ Resolved → IsAssuming trail roles leaves j (on_trail trail j) (entry_at trail j).reason in
              subst P at here is)
          | inr other ↦ (let from = has.1 in c.assuming k (has.0, omega (arith, from, other), has.2, has.3) is e)
        ];
      }

      -- one index more, whose literal stands at leaves
      pub chosen_set : (count i k number place : ℕ) (old new : List Bool) → ArePassed 0 count roles passed → i < length passed → k ≡ slice_index passed i → k < length old → IsChosen inputs lemmas trail roles passed (i + 1) old → (entry_at trail k).reason ≡ ByClause (OfInput number) place → IsByClause inputs lemmas (StandsAssumed trail roles old k) (on_trail trail k) (OfInput number) place → new ≡ set old k true → IsChosen inputs lemmas trail roles passed i new
      chosen_set count i k number place old new p inside at within c reason h e =
          let here : at_leaves new k ≡ true = ap (λ (bs : List Bool). at_leaves bs k) e ∙ get_or-set_same old k true false within in
          let before : (j : ℕ) → HasPassed passed (i + 1) j → j < k = λ j has.
          (let from = has.1 in let is = has.3 in let h = p.falling i has.0 (omega (arith, from)) has.2 in omega (arith, at, is, h)) in
          let old_by : (j : ℕ) → j ≢ k → at_leaves new j ≡ at_leaves old j = λ j other. ap (λ (bs : List Bool). at_leaves bs j) e ∙ get_or-set_other old k j true false other in
          let carried : (j : ℕ) → j ≤ k → (m : Literal) → StandsAssumed trail roles old j m → StandsAssumed trail roles new j m = λ j le m s. assumed_set old new j k m le e s in
          record {
            count = (let a = c.count in let b = ap length e in let d = length-set old k true in omega (arith, a, b, d));
            behind = λ j t. elim (cases_eq j k) [
              | inl same ↦ (i, omega arith, inside, sym at ∙ sym same)
              | inr other ↦ (let has = c.behind j (sym (old_by j other) ∙ t) in let from = has.1 in (has.0, omega (arith, from), has.2, has.3))
            ];
            reasons = λ j t. elim (cases_eq j k) [
              | inl same ↦ (let P : ℕ → Type 0 = λ n. IsLeafReason inputs lemmas trail roles new n (on_trail trail n) (entry_at trail n).reason in
                  let Q : Reason → Type 0 = IsLeafReason inputs lemmas trail roles new k (on_trail trail k) in
                  subst P (sym same) (subst Q (sym reason) (leaf_by old new k (on_trail trail k) (ByClause (OfInput number) place) (carried k (omega arith)) h)))
              | inr other ↦ (let was : at_leaves old j ≡ true = sym (old_by j other) ∙ t in
                  let lt = before j (c.behind j was) in
                  leaf_by old new j (on_trail trail j) (entry_at trail j).reason (carried j (omega (arith, lt))) (c.reasons j was))
            ];
            assuming = λ j has is f. elim (cases_eq has.0 i) [
              | inl same ↦ (let there : j ≡ k = sym has.3 ∙ ap (λ (a : ℕ). slice_index passed a) same ∙ sym at in
                  absurd (not_both (at_leaves new k) (ap (λ (n : ℕ). at_leaves new n) (sym there) ∙ f) here))
              | inr other ↦ (let from = has.1 in
                  let later : HasPassed passed (i + 1) j = (has.0, omega (arith, from, other), has.2, has.3) in
                  let lt = before j later in
                  let apart : j ≢ k = λ same. absurd (omega (arith, lt, same)) in
                  assuming_by old new j (on_trail trail j) (entry_at trail j).reason (carried j (omega (arith, lt))) (c.assuming j later is (sym (old_by j apart) ∙ f)))
            ];
          }

      follows_at : (k : ℕ) (reason : Reason) → IsClosed inputs lemmas trail roles → role_at roles k ≡ Resolved → (entry_at trail k).reason ≡ reason → Follows inputs lemmas (StandsUsed trail roles k) (on_trail trail k) reason
      follows_at k reason closed is e = subst (Follows inputs lemmas (StandsUsed trail roles k) (on_trail trail k)) e (closed k is)

      -- the clause at the place is a leaf from now on
      pub chosen_clause : (count i number place : ℕ) (clause : List Literal) (old new : List Bool) → ArePassed 0 count roles passed → i < length passed → count ≡ length trail → IsClosed inputs lemmas trail roles → role_at roles (slice_index passed i) ≡ Resolved → IsChosen inputs lemmas trail roles passed (i + 1) old → (entry_at trail (slice_index passed i)).reason ≡ ByClause (OfInput number) place → clause ≡ source_clause inputs lemmas (OfInput number) → ((q : ℕ) → q < length clause → q ≢ place → StandsAssumed trail roles old (slice_index passed i) (negation_of (literal_at clause q))) → new ≡ set old (slice_index passed i) true → IsChosen inputs lemmas trail roles passed i new
      chosen_clause count i number place clause old new p inside all closed is c reason same denied e =
          let k = slice_index passed i in
          let f = follows_at k (ByClause (OfInput number) place) closed is reason in
          let P : List Literal → Type 0 = λ ls. (q : ℕ) → q < length ls → q ≢ place → StandsAssumed trail roles old k (negation_of (literal_at ls q)) in
          let here : k < length old = (let a = p.within i inside in let b = c.count in omega (arith, a, b, all)) in
          chosen_set count i k number place old new p inside refl here c reason (record { known = f.known; within = f.within; at = f.at; others = subst P same denied }) e

      -- the literals of the cycle at the place are assumed from now on
      assuming_cycle : (i : ℕ) (reason : Reason) (old new : List Bool) → IsChosen inputs lemmas trail roles passed (i + 1) old → IsFewer old new → (entry_at trail (slice_index passed i)).reason ≡ reason → IsAssuming trail roles new (slice_index passed i) (on_trail trail (slice_index passed i)) reason → IsChosen inputs lemmas trail roles passed i new
      assuming_cycle i reason old new c f e h =
          chosen_next i new (chosen_fewer (i + 1) old new c f) (λ is. subst (IsAssuming trail roles new (slice_index passed i) (on_trail trail (slice_index passed i))) (sym e) h)

      pub chosen_cycle : (i : ℕ) (cycle given : List Literal) (l : Literal) (old new : List Bool) → IsClosed inputs lemmas trail roles → role_at roles (slice_index passed i) ≡ Resolved → IsChosen inputs lemmas trail roles passed (i + 1) old → IsFewer old new → (entry_at trail (slice_index passed i)).reason ≡ ByCycle cycle → given ≡ cycle → l ≡ on_trail trail (slice_index passed i) → ((q : ℕ) → q < length given → (literal_at given q ≡ negation_of l) ⊎ StandsAssumed trail roles new (slice_index passed i) (literal_at given q)) → IsChosen inputs lemmas trail roles passed i new
      chosen_cycle i cycle given l old new closed is c f reason g a assumed =
          let k = slice_index passed i in
          let h = follows_at k (ByCycle cycle) closed is reason in
          let P : List Literal → Type 0 = λ ls. (q : ℕ) → q < length ls → (literal_at ls q ≡ negation_of l) ⊎ StandsAssumed trail roles new k (literal_at ls q) in
          let Q : Literal → Type 0 = λ m. (q : ℕ) → q < length cycle → (literal_at cycle q ≡ negation_of m) ⊎ StandsAssumed trail roles new k (literal_at cycle q) in
          let by : IsByCycle (StandsAssumed trail roles new k) (on_trail trail k) cycle = record { negative = h.negative; others = subst Q a (subst P g assumed) } in
          assuming_cycle i (ByCycle cycle) old new c f reason by

      pub chosen_pair : (i : ℕ) (tighter : Literal) (given : List Literal) (l : Literal) (old new : List Bool) → IsClosed inputs lemmas trail roles → role_at roles (slice_index passed i) ≡ Resolved → IsChosen inputs lemmas trail roles passed (i + 1) old → IsFewer old new → (entry_at trail (slice_index passed i)).reason ≡ ByPair tighter → given ≡ pair_cycle tighter l → l ≡ on_trail trail (slice_index passed i) → ((q : ℕ) → q < length given → (literal_at given q ≡ negation_of l) ⊎ StandsAssumed trail roles new (slice_index passed i) (literal_at given q)) → IsChosen inputs lemmas trail roles passed i new
      chosen_pair i tighter given l old new closed is c f reason g a assumed =
          let k = slice_index passed i in
          let h = follows_at k (ByPair tighter) closed is reason in
          let P : List Literal → Type 0 = λ ls. (q : ℕ) → q < length ls → (literal_at ls q ≡ negation_of l) ⊎ StandsAssumed trail roles new k (literal_at ls q) in
          let Q : Literal → Type 0 = λ m. (q : ℕ) → q < length (pair_cycle tighter m) → (literal_at (pair_cycle tighter m) q ≡ negation_of m) ⊎ StandsAssumed trail roles new k (literal_at (pair_cycle tighter m) q) in
          let by : IsByCycle (StandsAssumed trail roles new k) (on_trail trail k) (pair_cycle tighter (on_trail trail k)) = record { negative = h.negative; others = subst Q a (subst P g assumed) } in
          assuming_cycle i (ByPair tighter) old new c f reason by

    pub cycle_stands : (conflict : Conflict) (cycle given : List Literal) → IsConflict inputs lemmas (StandsUsed trail roles (length trail)) conflict → conflict ≡ OfCycle cycle → given ≡ cycle → (q : ℕ) → q < length given → StandsUsed trail roles (length trail) (literal_at given q)
    cycle_stands conflict cycle given h e g =
        let c : IsConflict inputs lemmas (StandsUsed trail roles (length trail)) (OfCycle cycle) = subst (IsConflict inputs lemmas (StandsUsed trail roles (length trail))) e h in
        subst (λ (ls : List Literal). (q : ℕ) → q < length ls → StandsUsed trail roles (length trail) (literal_at ls q)) (sym g) c.1

  pub conflict_assumed : (leaves : List Bool) (conflict : Conflict) (cycle given : List Literal) → conflict ≡ OfCycle cycle → given ≡ cycle → ((q : ℕ) → q < length given → StandsAssumed trail roles leaves (length trail) (literal_at given q)) → IsAssumedConflict trail roles leaves conflict
  conflict_assumed leaves conflict cycle given e g h =
      subst (IsAssumedConflict trail roles leaves) (sym e) (subst (λ (ls : List Literal). (q : ℕ) → q < length ls → StandsAssumed trail roles leaves (length trail) (literal_at ls q)) g h)
