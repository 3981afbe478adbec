-- A literal that holds without a decision gets a lemma of its own, over plain lists.
use Rattle.std.proofs.Common.{arith, ◌≡◌, ◌≢◌, ℕ, zero, suc, ◌<◌, ◌≤◌, ◌+◌, inl, inr, List, [], ◌∷◌, ◌++◌, length, take, get_or, set, Option, Some, subst, sym, ap, ◌∙◌, refl}
use Rattle.std.specs.Prelude.{IfSome}
use Rattle.std.proofs.lemmas.Bool.{cases_lt, cases_eq}
use Rattle.std.proofs.lemmas.List.{get_or-take, get_or-set_same, get_or-set_other, length-set, length-take-le, ext_get_or}
use Rattle.stn_core.specs.declared.literal.Literal.{Literal}
use Rattle.stn_core.specs.Literal.{negation_of, IsOver, literal_at}
use Rattle.stn_core.proofs.Consequences.{IsOver-negation_of}
use Rattle.refute_tree.specs.declared.lemma.Lemma.{Lemma}
use Rattle.conflict_analysis.specs.declared.entry.Source.{Source}
use Rattle.conflict_analysis.specs.declared.entry.Reason.{Reason}
use Rattle.conflict_analysis.specs.declared.entry.Reason.TheVariants.{Given, Decision, Clause as ByClause, Pair as ByPair, Cycle as ByCycle}
use Rattle.conflict_analysis.specs.declared.entry.Entry.{Entry}
use Rattle.conflict_analysis.specs.declared.entry.Level.{Level}
use Rattle.conflict_analysis.specs.declared.entry.Conflict.{Conflict}
use Rattle.conflict_analysis.specs.declared.entry.Conflict.TheVariants.{Clause as OfClause, Cycle as OfCycle}
use Rattle.conflict_analysis.specs.code.Trails.{no_literal, source_clause, IsByClause, IsByCycle, pair_cycle, entry_at, on_trail, Stands, Follows, IsReason, IsTrail, AreOver, IsConflict}
use Rattle.conflict_analysis.specs.Proved.{IsProved}
use Rattle.branch_search.specs.code.Roots.{denial_of}
use Rattle.branch_search.specs.code.Search.{all_lemmas, AllStand, in_net_of, start_of, IsSearch}
use Rattle.branch_search.specs.Slices.{Question}
use Rattle.branch_search.proofs.States.{length_part, reason_moved, state_learned}

-- the first places, of which the last has the literal's negation
module _ (es fs : List Entry) (k n : ℕ) (l : Literal) (within : k < length es) (is : fs ≡ take (k + 1) (set es k (record { literal = negation_of l; number = n; reason = Decision }))) where
  count : length fs ≡ k + 1
  count =
      let d : Entry = record { literal = negation_of l; number = n; reason = Decision } in
      let all : length (set es k d) ≡ length es = length-set es k d in
      ap (length {A = Entry}) is ∙ length-take-le (k + 1) (set es k d) (omega arith)

  before : (j : ℕ) → j < k → entry_at fs j ≡ entry_at es j
  before j lt =
      let d : Entry = record { literal = negation_of l; number = n; reason = Decision } in
      let none : Entry = record { literal = no_literal; number = 0; reason = Given } in
      ap (λ (gs : List Entry). entry_at gs j) is ∙ get_or-take (k + 1) (set es k d) j none (omega arith) ∙ get_or-set_other es k j d none (λ same. absurd (omega arith))

  at_end : entry_at fs k ≡ record { literal = negation_of l; number = n; reason = Decision }
  at_end =
      let d : Entry = record { literal = negation_of l; number = n; reason = Decision } in
      let none : Entry = record { literal = no_literal; number = 0; reason = Given } in
      ap (λ (gs : List Entry). entry_at gs k) is ∙ get_or-take (k + 1) (set es k d) k none (omega arith) ∙ get_or-set_same es k d none within

  stands_before : (j : ℕ) (m : Literal) → j ≤ k → Stands es j m → Stands fs j m
  stands_before j m le s = let lt = s.1 in (s.0, s.1, ap (λ (f : Entry). f.literal) (before s.0 (omega arith)) ∙ s.2)

  pub prefix_trail : (inputs lemmas : List (List Literal)) (cube : List Literal) → IsTrail inputs lemmas cube es → IsTrail inputs lemmas cube fs
  prefix_trail inputs lemmas cube h j lt =
      let c = count in
      let P : Entry → Type 0 = λ f. IsReason inputs lemmas cube fs j f.literal f.reason in
      elim (cases_lt j k) [
        | inl less ↦ subst P (sym (before j less)) (reason_moved inputs lemmas cube es fs j (on_trail es j) (entry_at es j).reason (λ m s. stands_before j m (omega arith) s) (h j (omega arith)))
        | inr past ↦ (let same : k ≡ j = omega arith in
            let there : entry_at fs j ≡ record { literal = negation_of l; number = n; reason = Decision } = ap (λ (i : ℕ). entry_at fs i) (sym same) ∙ at_end in
            subst P (sym there) tt)
      ]

  pub prefix_over : (points : ℕ) → l ≡ on_trail es k → AreOver points es → AreOver points fs
  prefix_over points e over j lt =
      let c = count in
      let P : Entry → Type 0 = λ f. IsOver points f.literal in
      elim (cases_lt j k) [
        | inl less ↦ subst P (sym (before j less)) (over j (omega arith))
        | inr past ↦ (let same : k ≡ j = omega arith in
            let there : entry_at fs j ≡ record { literal = negation_of l; number = n; reason = Decision } = ap (λ (i : ℕ). entry_at fs i) (sym same) ∙ at_end in
            subst P (sym there) (IsOver-negation_of points l (subst (IsOver points) (sym e) (over k within))))
      ]

  stands_all : (m : Literal) → Stands es k m → Stands fs (length fs) m
  stands_all m s =
      let c = count in
      let there = stands_before k m (omega arith) s in
      let lt = there.1 in
      (there.0, omega arith, there.2)

  denial_stands : Stands fs (length fs) (negation_of l)
  denial_stands = let c = count in (k, omega arith, ap (λ (f : Entry). f.literal) at_end)

  cycle_conflict : (inputs lemmas : List (List Literal)) (cycle : List Literal) → IsByCycle (Stands es k) l cycle → IsConflict inputs lemmas (Stands fs (length fs)) (OfCycle cycle)
  cycle_conflict inputs lemmas cycle h = (
    h.negative,
    λ p lt. elim (h.others p lt) [
      | inl e ↦ subst (Stands fs (length fs)) (sym e) denial_stands
      | inr s ↦ stands_all (literal_at cycle p) s
    ],
  )

  denied_by_reason : (inputs lemmas : List (List Literal)) (r : Reason) (conflict : Conflict) → Follows inputs lemmas (Stands es k) l r → denial_of l r ≡ Some conflict → IsConflict inputs lemmas (Stands fs (length fs)) conflict
  denied_by_reason inputs lemmas Given conflict h e = absurd cc
  denied_by_reason inputs lemmas Decision conflict h e = absurd cc
  denied_by_reason inputs lemmas (ByClause source place) conflict h e =
      let same : OfClause source ≡ conflict = cc in
      subst (IsConflict inputs lemmas (Stands fs (length fs))) same (
        h.known,
        λ p lt. elim (cases_eq p place) [
          | inl here ↦ (let at_p : literal_at (source_clause inputs lemmas source) p ≡ l = ap (λ (i : ℕ). literal_at (source_clause inputs lemmas source) i) here ∙ h.at in
              subst (Stands fs (length fs)) (sym (ap negation_of at_p)) denial_stands)
          | inr other ↦ stands_all (negation_of (literal_at (source_clause inputs lemmas source) p)) (h.others p lt other)
        ],
      )
  denied_by_reason inputs lemmas (ByPair tighter) conflict h e =
      let same : OfCycle (pair_cycle tighter l) ≡ conflict = cc in
      subst (IsConflict inputs lemmas (Stands fs (length fs))) same (cycle_conflict inputs lemmas (pair_cycle tighter l) h)
  denied_by_reason inputs lemmas (ByCycle cycle) conflict h e =
      let same : OfCycle cycle ≡ conflict = cc in
      subst (IsConflict inputs lemmas (Stands fs (length fs))) same (cycle_conflict inputs lemmas cycle h)

  pub prefix_conflict : (inputs lemmas : List (List Literal)) (found : Option Conflict) (conflict : Conflict) → l ≡ on_trail es k → IfSome found (λ c. denial_of (on_trail es k) (entry_at es k).reason ≡ Some c) → IfSome found (λ c. Follows inputs lemmas (Stands es k) (on_trail es k) (entry_at es k).reason) → found ≡ Some conflict → IsConflict inputs lemmas (Stands fs (length fs)) conflict
  prefix_conflict inputs lemmas found conflict same denial follows is_some =
      let made : denial_of (on_trail es k) (entry_at es k).reason ≡ Some conflict = subst (λ (o : Option Conflict). IfSome o (λ c. denial_of (on_trail es k) (entry_at es k).reason ≡ Some c)) is_some denial in
      let there : Follows inputs lemmas (Stands es k) (on_trail es k) (entry_at es k).reason = subst (λ (o : Option Conflict). IfSome o (λ c. Follows inputs lemmas (Stands es k) (on_trail es k) (entry_at es k).reason)) is_some follows in
      denied_by_reason inputs lemmas (entry_at es k).reason conflict (subst (λ (m : Literal). Follows inputs lemmas (Stands es k) m (entry_at es k).reason) (sym same) there)
      (ap (λ (m : Literal). denial_of m (entry_at es k).reason) same ∙ made)

-- an entry that was replaced and put back
pub put_back : (es : List Entry) (k : ℕ) (d e f : Entry) → k < length es → get_or es k f ≡ e → set (set es k d) k e ≡ es
put_back es k d e f within is =
    let none : Entry = record { literal = no_literal; number = 0; reason = Given } in
    let a = length-set es k d in
    let b = length-set (set es k d) k e in
    ext_get_or none (set (set es k d) k e) es (omega arith) (λ j lt. elim (cases_eq j k) [
      | inl same ↦ ap (λ (i : ℕ). get_or (set (set es k d) k e) i none) same ∙ get_or-set_same (set es k d) k e none (omega arith) ∙ sym is ∙ any_default es k f none within ∙ ap (λ (i : ℕ). get_or es i none) (sym same)
      | inr other ↦ get_or-set_other (set es k d) k j e none other ∙ get_or-set_other es k j d none other
    ])
  where
    any_default : (xs : List Entry) (i : ℕ) (x y : Entry) → i < length xs → get_or xs i x ≡ get_or xs i y
    any_default [] i x y lt = absurd (omega arith)
    any_default (z ∷ xs) zero x y lt = refl
    any_default (z ∷ xs) (suc i) x y lt = any_default xs i x y (omega arith)

pub derived : (q : Question) (own lent new : List Lemma) (lemma : Lemma) (es now : List Entry) (levels : List Level) (literals : List Literal) → IsSearch q own es levels literals → now ≡ es → lent ≡ own → IsProved q.problem.points q.problem.clauses (all_lemmas q.handed lent) lemma → new ≡ own ++ lemma ∷ [] → IsSearch q new now levels literals
derived q own lent new lemma es now levels literals s same is r grown =
    let proved = subst (λ (ls : List Lemma). IsProved q.problem.points q.problem.clauses (all_lemmas q.handed ls) lemma) is r in
    subst (λ (fs : List Entry). IsSearch q new fs levels literals) (sym same) (subst (λ (ls : List Lemma). IsSearch q ls es levels literals) (sym grown) (state_learned q own lemma es levels literals s proved))

-- another reason for the literal at a place
module _ (q : Question) (own : List Lemma) (es now : List Entry) (k n : ℕ) (r : Reason) (within : k < length es) (is : now ≡ set es k (record { literal = (entry_at es k).literal; number = n; reason = r })) where
  same_count : length now ≡ length es
  same_count = ap (length {A = Entry}) is ∙ length-set es k _

  same_entry : (j : ℕ) → j ≢ k → entry_at now j ≡ entry_at es j
  same_entry j ne =
      let d : Entry = record { literal = (entry_at es k).literal; number = n; reason = r } in
      let none : Entry = record { literal = no_literal; number = 0; reason = Given } in
      ap (λ (gs : List Entry). entry_at gs j) is ∙ get_or-set_other es k j d none ne

  new_entry : entry_at now k ≡ record { literal = (entry_at es k).literal; number = n; reason = r }
  new_entry =
      let d : Entry = record { literal = (entry_at es k).literal; number = n; reason = r } in
      let none : Entry = record { literal = no_literal; number = 0; reason = Given } in
      ap (λ (gs : List Entry). entry_at gs k) is ∙ get_or-set_same es k d none within

  same_literal : (j : ℕ) → on_trail now j ≡ on_trail es j
  same_literal j = elim (cases_eq j k) [
    | inl here ↦ subst (λ (i : ℕ). on_trail now i ≡ on_trail es i) (sym here) (ap (λ (f : Entry). f.literal) new_entry)
    | inr other ↦ ap (λ (f : Entry). f.literal) (same_entry j other)
  ]

  still : (j : ℕ) (m : Literal) → Stands es j m → Stands now j m
  still j m s = (s.0, s.1, same_literal s.0 ∙ s.2)

  all_still : (j : ℕ) (ls : List Literal) → AllStand es j ls → AllStand now j ls
  all_still j ls all i d lt = still j (get_or ls i d) (all i d lt)

  pub rested : (levels : List Level) (literals : List Literal) → (r ≡ Decision → ⊥) → IsReason q.problem.clauses (all_lemmas q.handed own) q.cube es k (on_trail es k) r → IsSearch q own es levels literals → IsSearch q own now levels literals
  rested levels literals not reason s =
      let count_ = same_count in
      record {
        trail = λ j lt. (let P : Entry → Type 0 = λ f. IsReason q.problem.clauses (all_lemmas q.handed own) q.cube now j f.literal f.reason in
            elim (cases_eq j k) [
              | inl here ↦ subst (λ (i : ℕ). IsReason q.problem.clauses (all_lemmas q.handed own) q.cube now i (on_trail now i) (entry_at now i).reason) (sym here)
                  (subst (λ (f : Entry). IsReason q.problem.clauses (all_lemmas q.handed own) q.cube now k f.literal f.reason) (sym new_entry) (reason_moved q.problem.clauses (all_lemmas q.handed own) q.cube es now k (on_trail es k) r (λ m t. still k m t) reason))
              | inr other ↦ subst P (sym (same_entry j other)) (reason_moved q.problem.clauses (all_lemmas q.handed own) q.cube es now j (on_trail es j) (entry_at es j).reason (λ m t. still j m t) (s.trail j (omega arith)))
            ]);
        over = λ j lt. subst (IsOver q.problem.points) (sym (same_literal j)) (s.over j (omega arith));
        lemmas = s.lemmas;
        net = subst (λ (i : ℕ). AllStand now i literals) (sym count_) (all_still (length es) literals s.net);
        each = λ i lt. (let v = s.each i lt in
            let low = v.on_trail in
            record { on_trail = omega arith; in_net = v.in_net; stand = all_still (start_of levels i) (take (in_net_of levels i) literals) v.stand });
        starts = s.starts;
        in_nets = s.in_nets;
        rooted = λ j chosen. elim (cases_eq j k) [
          | inl here ↦ (let is_r : r ≡ Decision = sym (ap (λ (f : Entry). f.reason) new_entry) ∙ ap (λ (i : ℕ). (entry_at now i).reason) (sym here) ∙ chosen in absurd (not is_r))
          | inr other ↦ s.rooted j (sym (ap (λ (f : Entry). f.reason) (same_entry j other)) ∙ chosen)
        ];
        proved = s.proved;
      }

-- what stands on the first places
part_stands : (es fs : List Entry) (k : ℕ) (m : Literal) → fs ≡ take k es → Stands fs (length fs) m → Stands es k m
part_stands es fs k m is s =
    let t : Stands (take k es) (length (take k es)) m = subst (λ (gs : List Entry). Stands gs (length gs) m) is s in
    let part = length_part k es t.0 t.1 in
    let none : Entry = record { literal = no_literal; number = 0; reason = Given } in
    (t.0, part.0, sym (ap (λ (f : Entry). f.literal) (get_or-take k es t.0 none part.0)) ∙ t.2)

pub part_clause : (q : Question) (own lent : List Lemma) (es fs : List Entry) (k : ℕ) (l : Literal) (source : Source) (place : ℕ) → lent ≡ own → fs ≡ take k es → IsByClause q.problem.clauses (all_lemmas q.handed lent) (Stands fs (length fs)) l source place → IsByClause q.problem.clauses (all_lemmas q.handed own) (Stands es k) l source place
part_clause q own lent es fs k l source place same is h =
    let moved : IsByClause q.problem.clauses (all_lemmas q.handed lent) (Stands es k) l source place = record {
      known = h.known;
      within = h.within;
      at = h.at;
      others = λ p lt ne. part_stands es fs k _ is (h.others p lt ne);
    } in
    subst (λ (ls : List Lemma). IsByClause q.problem.clauses (all_lemmas q.handed ls) (Stands es k) l source place) same moved
