-- What holds of the values on which a problem holds: each fact of right items whose support holds.
use Rattle.std.proofs.Common.{arith, ◌≡◌, ℕ, zero, suc, ◌<◌, ◌≤◌, ◌+◌, ◌-◌, inl, inr, ◌⊎◌, List, [], ◌∷◌, ◌++◌, length, map, flat_map, take, Option, Some, None, All, Contains, ℤ, subst, sym, ap, refl, ◌∙◌}
use Rattle.std.specs.Prelude.{slice_get, option_map, option_and_then, slice_index_or}
use Rattle.std.proofs.lemmas.List.Elements.{All-nil, All-cons, All-push, All-append, All-head, All-tail, All-weaker, All-contains}
use Rattle.std.proofs.lemmas.Option.{slice_get-map, slice_get-get_or}
use Rattle.stn_core.specs.declared.literal.Literal.{Literal}
use Rattle.stn_core.specs.Literal.{Holds, negation_of}
use Rattle.stn_core.specs.Cycle.{IsNegativeCycle}
use Rattle.stn_core.specs.Problem.{ClauseHolds, ProblemHolds}
use Rattle.refute_tree.specs.declared.step.Step.{Step}
use Rattle.refute_tree.specs.declared.step.Step.TheVariants.{Cycle, Input, Lemma as Earlier, Clash, Either}
use Rattle.refute_tree.specs.declared.lemma.Lemma.{Lemma}
use Rattle.refute_tree.specs.Trees.{clause_of, Tree, Forest, IsDenied, leaf, clash, cases, none, more, IsRefuted}
use Rattle.kept_lemmas.specs.declared.item.Kept.{Kept}
use Rattle.kept_lemmas.specs.declared.item.Item.{Item}
use Rattle.kept_lemmas.specs.declared.item.Item.TheVariants.{Own, Keep}
use Rattle.kept_lemmas.specs.Facts.{Fact, Facts, Shelf, stated_by, support_of_clause, support_of_fact, step_support, own_fact, entry_numbered, kept_fact, fact_or_none, item_fact, facts_from, facts_of}
use Rattle.kept_lemmas.specs.Entries.{IsUsable, IsItemRight, AreRight, Placed, IsEntryRight, shelf_behind, shelf_of, AreEntriesRight}
use Rattle.kept_lemmas.proofs.FactLists.{all_at, facts-length, facts-each}
use Rattle.kept_lemmas.proofs.Usable.{usable}

-- the clause holds by its first literal, or by another
first_or_other : (values : List ℤ) (l : Literal) (clause : List Literal) → ClauseHolds values (l ∷ clause) → Holds values l ⊎ ClauseHolds values clause
first_or_other values l clause (m, (zero, lt, e), h) = inl (subst (Holds values) (sym e) h)
first_or_other values l clause (m, (suc k, lt, e), h) = inr (m, (k, omega arith, e), h)

by_first : (values : List ℤ) (l : Literal) (clause : List Literal) → Holds values l → ClauseHolds values (l ∷ clause)
by_first values l clause h = (l, (0, omega arith, refl), h)

by_other : (values : List ℤ) (l : Literal) (clause : List Literal) → ClauseHolds values clause → ClauseHolds values (l ∷ clause)
by_other values l clause h = (h.0, (suc h.1.0, omega (arith, h.1.1), h.1.2), h.2)

contains_negation : (clause : List Literal) (l : Literal) → Contains clause l → Contains (map negation_of clause) (negation_of l)
contains_negation [] l (k, lt, e) = absurd (omega arith)
contains_negation (m ∷ clause) l (zero, lt, e) = (zero, omega arith, ap negation_of e)
contains_negation (m ∷ clause) l (suc k, lt, e) =
    let rest = contains_negation clause l (k, omega arith, e) in
    (suc rest.0, omega (arith, rest.1), rest.2)

module _ (values : List ℤ)
    (cycle_fails : (cycle : List Literal) → IsNegativeCycle cycle → All (Holds values) cycle → ⊥)
    (either : (l : Literal) → Holds values l ⊎ Holds values (negation_of l))
    (not_both : (l : Literal) → Holds values l → Holds values (negation_of l) → ⊥) where
  -- its clause holds where its support does
  abbrev IsSound : Fact → Type 0
  IsSound fact = All (ClauseHolds values) fact.support → ClauseHolds values fact.clause

  -- the clauses that the step rests on hold
  abbrev RestsWell : List (List Literal) → Facts → Step → Type 0
  RestsWell clauses facts s = All (ClauseHolds values) (step_support clauses facts s)

  input_holds : (found : Option (List Literal)) (clause : List Literal) → found ≡ Some clause → All (ClauseHolds values) (support_of_clause found) → ClauseHolds values clause
  input_holds None clause e h = absurd (cc)
  input_holds (Some c) clause e h = let s : c ≡ clause = cc in subst (ClauseHolds values) s (All-head (ClauseHolds values) c [] h)

  fact_holds : (facts : Facts) (j : ℕ) (found : Option Fact) (clause : List Literal) → All IsSound facts → slice_get facts j ≡ found → option_map stated_by found ≡ Some clause → All (ClauseHolds values) (support_of_fact found) → ClauseHolds values clause
  fact_holds facts j None clause all at e h = absurd (cc)
  fact_holds facts j (Some fact) clause all at e h = let s : fact.clause ≡ clause = cc in subst (ClauseHolds values) s (all_at IsSound facts j fact all at h)

  opened_holds : (clauses : List (List Literal)) (facts : Facts) (s : Step) (clause : List Literal) → All IsSound facts → RestsWell clauses facts s → clause_of clauses (map stated_by facts) s ≡ Some clause → ClauseHolds values clause
  opened_holds clauses facts (Cycle cycle) clause all h e = absurd (cc)
  opened_holds clauses facts (Input i) clause all h e = input_holds (slice_get clauses i) clause e h
  opened_holds clauses facts (Earlier j) clause all h e = fact_holds facts j (slice_get facts j) clause all refl (sym (slice_get-map stated_by facts j) ∙ e) h
  opened_holds clauses facts (Clash i) clause all h e = absurd (cc)
  opened_holds clauses facts (Either l) clause all h e =
      let s : (l ∷ negation_of l ∷ []) ≡ clause = cc in
      subst (ClauseHolds values) s (elim (either l) [ inl x ↦ by_first values l (negation_of l ∷ []) x | inr y ↦ by_other values l (negation_of l ∷ []) (by_first values (negation_of l) [] y) ])

  -- a denied clause doesn't hold
  denied_fails : (assumed clause : List Literal) → IsDenied assumed clause → All (Holds values) assumed → ClauseHolds values clause → ⊥
  denied_fails assumed clause h all (l, in_, holds) =
      let denied : Contains (map negation_of clause) (negation_of l) = contains_negation clause l in_ in
      let given : Contains assumed (negation_of l) = All-contains (Contains assumed) (map negation_of clause) (negation_of l) h denied in
      not_both l holds (All-contains (Holds values) assumed (negation_of l) all given)

  module _ (clauses : List (List Literal)) (facts : Facts) (sound : All IsSound facts) where
    abbrev Well : Step → Type 0
    Well s = RestsWell clauses facts s

    abbrev Stated : List (List Literal)
    Stated = map stated_by facts

    mutual
      tree_rest : {assumed : List Literal} {steps rest : List Step} → Tree clauses (map stated_by facts) assumed steps rest → All Well steps → All Well rest
      tree_rest (leaf {cycle = cycle} {rest = rest} h) well = All-tail Well (Cycle cycle) rest well
      tree_rest (clash {i = i} {rest = rest} e h) well = All-tail Well (Clash i) rest well
      tree_rest (cases {step = step} {steps = steps} e f) well = forest_rest f (All-tail Well step steps well)

      forest_rest : {assumed clause : List Literal} {steps rest : List Step} → Forest clauses (map stated_by facts) assumed clause steps rest → All Well steps → All Well rest
      forest_rest none well = well
      forest_rest (more t f) well = forest_rest f (tree_rest t well)

    mutual
      tree_sound : {assumed : List Literal} {steps rest : List Step} → Tree clauses (map stated_by facts) assumed steps rest → All Well steps → All (Holds values) assumed → ⊥
      tree_sound (leaf {assumed = assumed} {cycle = cycle} h) well all =
          cycle_fails cycle h.negative (All-weaker (Contains assumed) (Holds values) (λ l c. All-contains (Holds values) assumed l all c) cycle h.given)
      tree_sound (clash {assumed = assumed} {clause = clause} {i = i} {rest = rest} e h) well all =
          denied_fails assumed clause h all (input_holds (slice_get clauses i) clause e (All-head Well (Clash i) rest well))
      tree_sound (cases {clause = clause} {step = step} {steps = steps} e f) well all =
          forest_sound f (All-tail Well step steps well) all (opened_holds clauses facts step clause sound (All-head Well step steps well) e)

      forest_sound : {assumed clause : List Literal} {steps rest : List Step} → Forest clauses (map stated_by facts) assumed clause steps rest → All Well steps → All (Holds values) assumed → ClauseHolds values clause → ⊥
      forest_sound none well all h = absurd (omega (arith, h.1.1))
      forest_sound (more {assumed = assumed} {clause = clause} {l = l} t f) well all h = elim (either l) [
        | inl x ↦ tree_sound t well (All-push (Holds values) assumed l all x)
        | inr y ↦ elim (first_or_other values l clause h) [
          | inl x ↦ tree_sound t well (All-push (Holds values) assumed l all x)
          | inr z ↦ forest_sound f (tree_rest t well) (All-push (Holds values) assumed (negation_of l) all y) z
        ]
      ]

  -- a clause holds, or all its literals' negations do
  holds_or_denied : (clause : List Literal) → ClauseHolds values clause ⊎ All (Holds values) (map negation_of clause)
  holds_or_denied [] = inr (All-nil (Holds values))
  holds_or_denied (l ∷ clause) = elim (either l) [
    | inl x ↦ inl (by_first values l clause x)
    | inr y ↦ elim (holds_or_denied clause) [
      | inl z ↦ inl (by_other values l clause z)
      | inr w ↦ inr (All-cons (Holds values) (negation_of l) (map negation_of clause) y w)
    ]
  ]

  all_parts : (P : List Literal → Type 0) (f : Step → List (List Literal)) (steps : List Step) → All P (flat_map f steps) → All (λ (s : Step). All P (f s)) steps
  all_parts P f [] all = All-nil (λ (s : Step). All P (f s))
  all_parts P f (s ∷ steps) all =
      All-cons (λ (t : Step). All P (f t)) s steps (before P (f s) (flat_map f steps) all) (all_parts P f steps (behind P (f s) (flat_map f steps) all))
    where
      before : (Q : List Literal → Type 0) (xs ys : List (List Literal)) → All Q (xs ++ ys) → All Q xs
      before Q [] ys h = All-nil Q
      before Q (x ∷ xs) ys h = All-cons Q x xs (All-head Q x (xs ++ ys) h) (before Q xs ys (All-tail Q x (xs ++ ys) h))

      behind : (Q : List Literal → Type 0) (xs ys : List (List Literal)) → All Q (xs ++ ys) → All Q ys
      behind Q [] ys h = h
      behind Q (x ∷ xs) ys h = behind Q xs ys (All-tail Q x (xs ++ ys) h)

  own_sound : (points : ℕ) (clauses : List (List Literal)) (facts : Facts) (lemma : Lemma) → All IsSound facts → IsRefuted points clauses (map stated_by facts) lemma → IsSound (own_fact clauses facts lemma)
  own_sound points clauses facts lemma sound r held = elim (holds_or_denied lemma.clause) [
    | inl h ↦ h
    | inr all ↦ absurd (tree_sound clauses facts sound r.tree (all_parts (ClauseHolds values) (step_support clauses facts) lemma.steps held) all)
  ]

  abbrev AreSound : Facts → Type 0
  AreSound facts = All IsSound facts

  kept_in : (shelf : Shelf) (entry item : ℕ) (facts : Option Facts) (fact : Fact) → All AreSound shelf → entry_numbered shelf entry ≡ facts → option_and_then (λ (found : Facts). slice_get found item) facts ≡ Some fact → IsSound fact
  kept_in shelf entry item None fact all at e = absurd (cc)
  kept_in shelf zero item (Some facts) fact all at e = absurd (cc)
  kept_in shelf (suc k) item (Some facts) fact all at e = all_at IsSound facts item fact (all_at AreSound shelf k facts all at) e

  item_sound : (shelf : Shelf) (points : ℕ) (clauses : List (List Literal)) (facts : Facts) (item : Item) → All AreSound shelf → All IsSound facts → IsItemRight shelf points clauses facts item → IsSound (item_fact shelf clauses facts item)
  item_sound shelf points clauses facts (Own lemma) all sound h = own_sound points clauses facts lemma sound h
  item_sound shelf points clauses facts (Keep kept) all sound h =
      let there = h.there in
      let fact = h.fact in
      rw there (kept_in shelf kept.entry kept.item (entry_numbered shelf kept.entry) fact all refl there)

  items_sound : (shelf : Shelf) (points : ℕ) (clauses : List (List Literal)) (items : List Item) → All AreSound shelf → AreRight shelf points clauses items → AreSound (facts_of shelf clauses items)
  items_sound shelf points clauses items all r =
      facts-each shelf clauses IsSound [] items (All-nil IsSound) (λ j item is sound. item_sound shelf points clauses (facts_of shelf clauses (take j items)) item all sound (r.each j item is))

  entry_sound : (shelf : Shelf) (p : Placed) → All AreSound shelf → IsEntryRight shelf p → AreSound (facts_of shelf p.clauses p.items)
  entry_sound shelf p all (inl e) = rw e (All-nil IsSound)
  entry_sound shelf p all (inr r) = items_sound shelf p.points p.clauses p.items all r

  shelf_sound : (shelf : Shelf) (entries : List Placed) → All AreSound shelf → ((k : ℕ) (p : Placed) → slice_get entries k ≡ Some p → IsEntryRight (shelf_behind shelf (take k entries)) p) → All AreSound (shelf_behind shelf entries)
  shelf_sound shelf [] all each = all
  shelf_sound shelf (p ∷ entries) all each =
      shelf_sound (shelf ++ facts_of shelf p.clauses p.items ∷ []) entries
      (All-push AreSound shelf (facts_of shelf p.clauses p.items) all (entry_sound shelf p all (each 0 p refl)))
      (λ k q is. each (suc k) q is)

  pub entries_sound : (entries : List Placed) (points : ℕ) (clauses : List (List Literal)) (items : List Item) → AreEntriesRight entries → AreRight (shelf_of entries) points clauses items → ProblemHolds values clauses → ⊥
  entries_sound entries points clauses items right r held =
      let shelf : Shelf = shelf_of entries in
      let facts : Facts = facts_of shelf clauses items in
      let sound : AreSound facts = items_sound shelf points clauses items (shelf_sound [] entries (All-nil AreSound) right.each) r in
      let some = r.some in
      let long : length facts ≡ length items = facts-length shelf clauses [] items ∙ omega arith in
      let lt : length items - 1 < length facts = omega (arith, long, some) in
      let last : Fact = slice_index_or facts (length items - 1) (record { clause = []; support = []; named = [] }) in
      let is : slice_get facts (length items - 1) ≡ Some last = slice_get-get_or facts (length items - 1) _ lt in
      let may = all_at (IsUsable points clauses) facts (length items - 1) last (usable shelf points clauses items r) is in
      let rests : All (ClauseHolds values) last.support = All-weaker (Contains clauses) (ClauseHolds values) (λ c in_. All-contains (ClauseHolds values) clauses c held in_) last.support may.active in
      let h : ClauseHolds values last.clause = all_at IsSound facts (length items - 1) last sound is rests in
      let none_ : ClauseHolds values [] = subst (ClauseHolds values) (r.last last is) h in
      absurd (omega (arith, none_.1.1))
