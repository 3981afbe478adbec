-- What marking keeps, over plain lists of roles.
use Rattle.std.proofs.Common.{arith, ◌≡◌, ◌≢◌, ℕ, zero, suc, ◌<◌, ◌≤◌, ◌+◌, inl, inr, ◌⊎◌, List, [], ◌∷◌, ◌++◌, length, get_or, All, Contains, Bool, true, false, not, set, subst, sym, ap, ◌∙◌, refl}
use Rattle.std.proofs.lemmas.Bool.{cases_eq}
use Rattle.std.proofs.lemmas.List.{length-set, get_or-set_same, get_or-set_other}
use Rattle.std.proofs.lemmas.List.Elements.{All-push, Contains-push, Contains-append_left}
use Rattle.stn_core.specs.declared.literal.Literal.{Literal}
use Rattle.stn_core.specs.Literal.{negation_of, literal_at}
use Rattle.conflict_analysis.specs.declared.entry.Source.{Source}
use Rattle.conflict_analysis.specs.declared.entry.Reason.{Reason}
use Rattle.conflict_analysis.specs.declared.entry.Reason.TheVariants.{Given, Decision, Clause as ByClause, Pair as ByPair, Cycle as ByCycle}
use Rattle.conflict_analysis.specs.declared.entry.Entry.{Entry}
use Rattle.conflict_analysis.specs.declared.entry.Conflict.{Conflict}
use Rattle.conflict_analysis.specs.declared.entry.Conflict.TheVariants.{Clause as OfClause, Cycle as OfCycle}
use Rattle.conflict_analysis.specs.declared.entry.Role.{Role}
use Rattle.conflict_analysis.specs.declared.entry.Role.TheVariants.{Unused, Kept, Resolved}
use Rattle.conflict_analysis.specs.code.Trails.{source_clause, pair_cycle, entry_at, on_trail, role_at, IsByClause, IsByCycle, Follows, Stands, IsReason, IsTrail, IsConflict, IsUsed, StandsUsed, IsClosed, IsMarkedMore, MayStay, MayStayAt, IsStatedAt, IsTurned, IsMarked, DeniesKept, IsDenial}
use Rattle.std.specs.Prelude.{slice_index}

pub marked_none : (below : ℕ) (roles : List Role) → IsMarkedMore below roles roles
marked_none below roles = record { count = refl; used = λ j u. u; resolved = λ j is. is; above = λ j le. refl }

pub marked_twice : (below : ℕ) (old mid new : List Role) → IsMarkedMore below old mid → IsMarkedMore below mid new → IsMarkedMore below old new
marked_twice below old mid new a b = record {
  count = b.count ∙ a.count;
  used = λ j u. b.used j (a.used j u);
  resolved = λ j is. a.resolved j (b.resolved j is);
  above = λ j le. b.above j le ∙ a.above j le;
}

pub stands_still : (trail : List Entry) (old new : List Role) (below : ℕ) (l : Literal) → ((j : ℕ) → IsUsed (role_at old j) → IsUsed (role_at new j)) → StandsUsed trail old below l → StandsUsed trail new below l
stands_still trail old new below l used s = (s.0, s.1, used s.0 s.2, s.3)

cycle_still : (trail : List Entry) (old new : List Role) (k : ℕ) (l : Literal) (cycle : List Literal) → ((j : ℕ) → IsUsed (role_at old j) → IsUsed (role_at new j)) → IsByCycle (StandsUsed trail old k) l cycle → IsByCycle (StandsUsed trail new k) l cycle
cycle_still trail old new k l cycle used h = record {
  negative = h.negative;
  others = λ q lt. elim (h.others q lt) [
    | inl e ↦ inl e
    | inr u ↦ inr (stands_still trail old new k (literal_at cycle q) used u)
  ];
}

pub follows_still : (inputs lemmas : List (List Literal)) (trail : List Entry) (old new : List Role) (k : ℕ) (l : Literal) (reason : Reason) → ((j : ℕ) → IsUsed (role_at old j) → IsUsed (role_at new j)) → Follows inputs lemmas (StandsUsed trail old k) l reason → Follows inputs lemmas (StandsUsed trail new k) l reason
follows_still inputs lemmas trail old new k l Given used h = h
follows_still inputs lemmas trail old new k l Decision used h = h
follows_still inputs lemmas trail old new k l (ByClause source place) used h = record {
  known = h.known;
  within = h.within;
  at = h.at;
  others = λ q lt ne. stands_still trail old new k (negation_of (literal_at (source_clause inputs lemmas source) q)) used (h.others q lt ne);
}
follows_still inputs lemmas trail old new k l (ByPair tighter) used h = cycle_still trail old new k l (pair_cycle tighter l) used h
follows_still inputs lemmas trail old new k l (ByCycle cycle) used h = cycle_still trail old new k l cycle used h

pub conflict_still : (inputs lemmas : List (List Literal)) (trail : List Entry) (old new : List Role) (k : ℕ) (conflict : Conflict) → ((j : ℕ) → IsUsed (role_at old j) → IsUsed (role_at new j)) → IsConflict inputs lemmas (StandsUsed trail old k) conflict → IsConflict inputs lemmas (StandsUsed trail new k) conflict
conflict_still inputs lemmas trail old new k (OfClause source) used h = (h.0, λ q lt. stands_still trail old new k (negation_of (literal_at (source_clause inputs lemmas source) q)) used (h.1 q lt))
conflict_still inputs lemmas trail old new k (OfCycle cycle) used h = (h.0, λ q lt. stands_still trail old new k (literal_at cycle q) used (h.1 q lt))

-- the reasons of a trail
pub cycle_reason : (inputs lemmas : List (List Literal)) (cube : List Literal) (trail : List Entry) (k : ℕ) (cycle : List Literal) → IsTrail inputs lemmas cube trail → k < length trail → (entry_at trail k).reason ≡ ByCycle cycle → IsByCycle (Stands trail k) (on_trail trail k) cycle
cycle_reason inputs lemmas cube trail k cycle h lt e = subst (IsReason inputs lemmas cube trail k (on_trail trail k)) e (h k lt)

pub pair_reason : (inputs lemmas : List (List Literal)) (cube : List Literal) (trail : List Entry) (k : ℕ) (tighter : Literal) → IsTrail inputs lemmas cube trail → k < length trail → (entry_at trail k).reason ≡ ByPair tighter → IsByCycle (Stands trail k) (on_trail trail k) (pair_cycle tighter (on_trail trail k))
pair_reason inputs lemmas cube trail k tighter h lt e = subst (IsReason inputs lemmas cube trail k (on_trail trail k)) e (h k lt)

pub closed_more : (inputs lemmas : List (List Literal)) (trail : List Entry) (old new : List Role) (below : ℕ) → IsMarkedMore below old new → IsClosed inputs lemmas trail old → IsClosed inputs lemmas trail new
closed_more inputs lemmas trail old new below more closed k is =
    follows_still inputs lemmas trail old new k (on_trail trail k) (entry_at trail k).reason more.used (closed k (more.resolved k is))

-- a literal is resolved, when all is used that it follows from
pub turned_resolved : (inputs lemmas : List (List Literal)) (trail : List Entry) (whole : Bool) (old mid new : List Role) (k : ℕ) → k < length old → IsClosed inputs lemmas trail old → IsMarkedMore k old mid → Follows inputs lemmas (StandsUsed trail mid k) (on_trail trail k) (entry_at trail k).reason → new ≡ set mid k Resolved → IsTurned inputs lemmas trail whole k old new
turned_resolved inputs lemmas trail whole old mid new k within closed more follows e =
    let count = more.count in
    let inside : k < length mid = omega arith in
    let here : role_at (set mid k Resolved) k ≡ Resolved = get_or-set_same mid k Resolved Unused inside in
    let used : (j : ℕ) → IsUsed (role_at mid j) → IsUsed (role_at (set mid k Resolved) j) = λ j u. elim (cases_eq j k) [
      | inl same ↦ subst IsUsed (sym (ap (λ (i : ℕ). role_at (set mid k Resolved) i) same ∙ here)) tt
      | inr other ↦ subst IsUsed (sym (get_or-set_other mid k j Resolved Unused other)) u
    ] in
    let P : ℕ → Type 0 = λ i. Follows inputs lemmas (StandsUsed trail (set mid k Resolved) i) (on_trail trail i) (entry_at trail i).reason in
    subst (IsTurned inputs lemmas trail whole k old) (sym e) (record {
      count = length-set mid k Resolved ∙ count;
      closed = λ i is. elim (cases_eq i k) [
        | inl same ↦ subst P (sym same) (follows_still inputs lemmas trail mid (set mid k Resolved) k (on_trail trail k) (entry_at trail k).reason used follows)
        | inr other ↦ (let before : role_at old i ≡ Resolved = more.resolved i (sym (get_or-set_other mid k i Resolved Unused other) ∙ is) in
            follows_still inputs lemmas trail old (set mid k Resolved) i (on_trail trail i) (entry_at trail i).reason (λ j u. used j (more.used j u)) (closed i before))
      ];
      used = λ j u. used j (more.used j u);
      above = λ j lt. get_or-set_other mid k j Resolved Unused (λ same. absurd (omega arith)) ∙ more.above j (omega arith);
      first = λ w is. (let no : Resolved ≡ Kept = sym here ∙ is in absurd cc);
    })

pub turned_by_clause : (inputs lemmas : List (List Literal)) (trail : List Entry) (whole : Bool) (old mid new : List Role) (k : ℕ) (source : Source) (place : ℕ) (clause : List Literal) → k < length trail → length trail ≤ length old → IsStatedAt inputs lemmas (on_trail trail k) source place → (entry_at trail k).reason ≡ ByClause source place → clause ≡ source_clause inputs lemmas source → IsClosed inputs lemmas trail old → IsMarkedMore k old mid → ((q : ℕ) → q < length clause → q ≢ place → StandsUsed trail mid k (negation_of (literal_at clause q))) → new ≡ set mid k Resolved → IsTurned inputs lemmas trail whole k old new
turned_by_clause inputs lemmas trail whole old mid new k source place clause within count r e c closed more used is =
    let P : List Literal → Type 0 = λ ls. (q : ℕ) → q < length ls → q ≢ place → StandsUsed trail mid k (negation_of (literal_at ls q)) in
    let follows : IsByClause inputs lemmas (StandsUsed trail mid k) (on_trail trail k) source place = record { known = r.known; within = r.within; at = r.at; others = subst P c used } in
    turned_resolved inputs lemmas trail whole old mid new k (omega arith) closed more (subst (Follows inputs lemmas (StandsUsed trail mid k) (on_trail trail k)) (sym e) follows) is

-- the clause isn't its reason, and so it stays
pub turned_by_none : (inputs lemmas : List (List Literal)) (trail : List Entry) (whole : Bool) (old new : List Role) (k : ℕ) (source : Source) (place : ℕ) → (entry_at trail k).reason ≡ ByClause source place → (IsByClause inputs lemmas (Stands trail k) (on_trail trail k) source place → ⊥) → IsClosed inputs lemmas trail old → IsMarkedMore k old new → IsTurned inputs lemmas trail whole k old new
turned_by_none inputs lemmas trail whole old new k source place e not closed more = record {
  count = more.count;
  closed = closed_more inputs lemmas trail old new k more closed;
  used = more.used;
  above = λ j lt. more.above j (omega arith);
  first = λ w is. subst (MayStay inputs lemmas trail k (on_trail trail k)) (sym e) not;
}

-- no reason: the literal doesn't stand there
pub not_stated : (inputs lemmas : List (List Literal)) (trail : List Entry) (k : ℕ) (source : Source) (place : ℕ) → (IsStatedAt inputs lemmas (on_trail trail k) source place → ⊥) → IsByClause inputs lemmas (Stands trail k) (on_trail trail k) source place → ⊥
not_stated inputs lemmas trail k source place not r = not (record { known = r.known; within = r.within; at = r.at })

-- or not all others are denied
pub not_denied : (inputs lemmas : List (List Literal)) (trail : List Entry) (k : ℕ) (source : Source) (place : ℕ) (clause : List Literal) → clause ≡ source_clause inputs lemmas source → (((q : ℕ) → q < length clause → q ≢ place → Stands trail k (negation_of (literal_at clause q))) → ⊥) → IsByClause inputs lemmas (Stands trail k) (on_trail trail k) source place → ⊥
not_denied inputs lemmas trail k source place clause c not r =
    let P : List Literal → Type 0 = λ ls. (q : ℕ) → q < length ls → q ≢ place → Stands trail k (negation_of (literal_at ls q)) in
    not (subst P (sym c) r.others)

pub turned_by_cycle : (inputs lemmas : List (List Literal)) (cube : List Literal) (trail : List Entry) (whole : Bool) (old mid new : List Role) (k : ℕ) (cycle given : List Literal) (l : Literal) → k < length trail → length trail ≤ length old → IsTrail inputs lemmas cube trail → (entry_at trail k).reason ≡ ByCycle cycle → given ≡ cycle → l ≡ on_trail trail k → IsClosed inputs lemmas trail old → IsMarkedMore k old mid → ((q : ℕ) → q < length given → (literal_at given q ≡ negation_of l) ⊎ StandsUsed trail mid k (literal_at given q)) → new ≡ set mid k Resolved → IsTurned inputs lemmas trail whole k old new
turned_by_cycle inputs lemmas cube trail whole old mid new k cycle given l within count h e g a closed more used is =
    let r = cycle_reason inputs lemmas cube trail k cycle h within e in
    let P : List Literal → Type 0 = λ ls. (q : ℕ) → q < length ls → (literal_at ls q ≡ negation_of l) ⊎ StandsUsed trail mid k (literal_at ls q) in
    let Q : Literal → Type 0 = λ m. (q : ℕ) → q < length cycle → (literal_at cycle q ≡ negation_of m) ⊎ StandsUsed trail mid k (literal_at cycle q) in
    let follows : IsByCycle (StandsUsed trail mid k) (on_trail trail k) cycle = record { negative = r.negative; others = subst Q a (subst P g used) } in
    turned_resolved inputs lemmas trail whole old mid new k (omega arith) closed more (subst (Follows inputs lemmas (StandsUsed trail mid k) (on_trail trail k)) (sym e) follows) is

pub turned_by_pair : (inputs lemmas : List (List Literal)) (cube : List Literal) (trail : List Entry) (whole : Bool) (old mid new : List Role) (k : ℕ) (tighter : Literal) (given : List Literal) (l : Literal) → k < length trail → length trail ≤ length old → IsTrail inputs lemmas cube trail → (entry_at trail k).reason ≡ ByPair tighter → given ≡ pair_cycle tighter l → l ≡ on_trail trail k → IsClosed inputs lemmas trail old → IsMarkedMore k old mid → ((q : ℕ) → q < length given → (literal_at given q ≡ negation_of l) ⊎ StandsUsed trail mid k (literal_at given q)) → new ≡ set mid k Resolved → IsTurned inputs lemmas trail whole k old new
turned_by_pair inputs lemmas cube trail whole old mid new k tighter given l within count h e g a closed more used is =
    let r = pair_reason inputs lemmas cube trail k tighter h within e in
    let P : List Literal → Type 0 = λ ls. (q : ℕ) → q < length ls → (literal_at ls q ≡ negation_of l) ⊎ StandsUsed trail mid k (literal_at ls q) in
    let Q : Literal → Type 0 = λ m. (q : ℕ) → q < length (pair_cycle tighter m) → (literal_at (pair_cycle tighter m) q ≡ negation_of m) ⊎ StandsUsed trail mid k (literal_at (pair_cycle tighter m) q) in
    let follows : IsByCycle (StandsUsed trail mid k) (on_trail trail k) (pair_cycle tighter (on_trail trail k)) = record { negative = r.negative; others = subst Q a (subst P g used) } in
    turned_resolved inputs lemmas trail whole old mid new k (omega arith) closed more (subst (Follows inputs lemmas (StandsUsed trail mid k) (on_trail trail k)) (sym e) follows) is

pub marked_start : (inputs lemmas : List (List Literal)) (trail : List Entry) (whole : Bool) (roles : List Role) (k : ℕ) → length trail ≤ k → length trail ≤ length roles → IsClosed inputs lemmas trail roles → IsMarked inputs lemmas trail whole k roles roles
marked_start inputs lemmas trail whole roles k past count closed = record { count = count; closed = closed; used = λ j u. u; first = λ w j le lt is. absurd (omega arith) }

-- a loop that marks the negations of a clause's literals: one more of them
pub denials_more : (trail : List Entry) (first mid new : List Role) (below : ℕ) (clause : List Literal) (place q : ℕ) → IsMarkedMore below first mid → ((i : ℕ) → i < q → i ≢ place → StandsUsed trail mid below (negation_of (literal_at clause i))) → IsMarkedMore below mid new → StandsUsed trail new below (negation_of (literal_at clause q)) → (i : ℕ) → i < q + 1 → i ≢ place → StandsUsed trail new below (negation_of (literal_at clause i))
denials_more trail first mid new below clause place q a before b here i lt ne = elim (cases_eq i q) [
  | inl same ↦ subst (λ (k : ℕ). StandsUsed trail new below (negation_of (literal_at clause k))) (sym same) here
  | inr other ↦ stands_still trail mid new below (negation_of (literal_at clause i)) b.used (before i (omega arith) ne)
]

pub denials_past : (trail : List Entry) (roles : List Role) (below : ℕ) (clause : List Literal) (place q : ℕ) → q ≡ place → ((i : ℕ) → i < q → i ≢ place → StandsUsed trail roles below (negation_of (literal_at clause i))) → (i : ℕ) → i < q + 1 → i ≢ place → StandsUsed trail roles below (negation_of (literal_at clause i))
denials_past trail roles below clause place q e before i lt ne = elim (cases_eq i q) [
  | inl same ↦ absurd (ne (same ∙ e))
  | inr other ↦ before i (omega arith) ne
]

pub all_more : (trail : List Entry) (mid new : List Role) (below : ℕ) (cycle : List Literal) (q : ℕ) → ((i : ℕ) → i < q → StandsUsed trail mid below (literal_at cycle i)) → IsMarkedMore below mid new → StandsUsed trail new below (literal_at cycle q) → (i : ℕ) → i < q + 1 → StandsUsed trail new below (literal_at cycle i)
all_more trail mid new below cycle q before b here i lt = elim (cases_eq i q) [
  | inl same ↦ subst (λ (k : ℕ). StandsUsed trail new below (literal_at cycle k)) (sym same) here
  | inr other ↦ stands_still trail mid new below (literal_at cycle i) b.used (before i (omega arith))
]

pub cycle_more : (trail : List Entry) (mid new : List Role) (below : ℕ) (cycle : List Literal) (l : Literal) (q : ℕ) → ((i : ℕ) → i < q → (literal_at cycle i ≡ negation_of l) ⊎ StandsUsed trail mid below (literal_at cycle i)) → IsMarkedMore below mid new → (literal_at cycle q ≡ negation_of l) ⊎ StandsUsed trail new below (literal_at cycle q) → (i : ℕ) → i < q + 1 → (literal_at cycle i ≡ negation_of l) ⊎ StandsUsed trail new below (literal_at cycle i)
cycle_more trail mid new below cycle l q before b here i lt = elim (cases_eq i q) [
  | inl same ↦ subst (λ (k : ℕ). (literal_at cycle k ≡ negation_of l) ⊎ StandsUsed trail new below (literal_at cycle k)) (sym same) here
  | inr other ↦ elim (before i (omega arith)) [
    | inl e ↦ inl e
    | inr s ↦ inr (stands_still trail mid new below (literal_at cycle i) b.used s)
  ]
]

-- the literal that isn't the negation stands on the trail
pub cycle_stands : (trail : List Entry) (below : ℕ) (l m d : Literal) (same : Bool) → (m ≡ negation_of l) ⊎ Stands trail below m → d ≡ negation_of l → same ≡ false → ((same ≡ true → m ≡ d) × (m ≡ d → same ≡ true)) → Stands trail below m
cycle_stands trail below l m d same h e off decides = elim h [
  | inl is ↦ (let on : same ≡ true = decides.1 (is ∙ sym e) in let no : true ≡ false = sym on ∙ off in absurd cc)
  | inr s ↦ s
]

pub denied_by : (inputs lemmas : List (List Literal)) (trail : List Entry) (below : ℕ) (conflict : Conflict) (source : Source) (clause : List Literal) → IsConflict inputs lemmas (Stands trail below) conflict → conflict ≡ OfClause source → clause ≡ source_clause inputs lemmas source → (q : ℕ) → q < length clause → q ≢ length clause → Stands trail below (negation_of (literal_at clause q))
denied_by inputs lemmas trail below conflict source clause h e is =
    let P : List Literal → Type 0 = λ ls. (q : ℕ) → q < length ls → q ≢ length clause → Stands trail below (negation_of (literal_at ls q)) in
    let there : IsConflict inputs lemmas (Stands trail below) (OfClause source) = subst (IsConflict inputs lemmas (Stands trail below)) e h in
    subst P (sym is) (λ q lt ne. there.1 q lt)

pub used_by_clause : (inputs lemmas : List (List Literal)) (trail : List Entry) (roles : List Role) (below : ℕ) (conflict : Conflict) (source : Source) (clause : List Literal) → IsConflict inputs lemmas (Stands trail below) conflict → conflict ≡ OfClause source → clause ≡ source_clause inputs lemmas source → ((q : ℕ) → q < length clause → q ≢ length clause → StandsUsed trail roles below (negation_of (literal_at clause q))) → IsConflict inputs lemmas (StandsUsed trail roles below) conflict
used_by_clause inputs lemmas trail roles below conflict source clause h e is used =
    let there : IsConflict inputs lemmas (Stands trail below) (OfClause source) = subst (IsConflict inputs lemmas (Stands trail below)) e h in
    let P : List Literal → Type 0 = λ ls. (q : ℕ) → q < length ls → StandsUsed trail roles below (negation_of (literal_at ls q)) in
    let all : (q : ℕ) → q < length clause → StandsUsed trail roles below (negation_of (literal_at clause q)) = λ q lt. used q lt (λ same. absurd (omega arith)) in
    subst (IsConflict inputs lemmas (StandsUsed trail roles below)) (sym e) (there.0, subst P is all)

pub standing_cycle : (inputs lemmas : List (List Literal)) (trail : List Entry) (below : ℕ) (conflict : Conflict) (cycle given : List Literal) → IsConflict inputs lemmas (Stands trail below) conflict → conflict ≡ OfCycle cycle → given ≡ cycle → (q : ℕ) → q < length given → Stands trail below (literal_at given q)
standing_cycle inputs lemmas trail below conflict cycle given h e is =
    let P : List Literal → Type 0 = λ ls. (q : ℕ) → q < length ls → Stands trail below (literal_at ls q) in
    let there : IsConflict inputs lemmas (Stands trail below) (OfCycle cycle) = subst (IsConflict inputs lemmas (Stands trail below)) e h in
    subst P (sym is) there.1

pub used_by_cycle : (inputs lemmas : List (List Literal)) (trail : List Entry) (roles : List Role) (below : ℕ) (conflict : Conflict) (cycle given : List Literal) → IsConflict inputs lemmas (Stands trail below) conflict → conflict ≡ OfCycle cycle → given ≡ cycle → ((q : ℕ) → q < length given → StandsUsed trail roles below (literal_at given q)) → IsConflict inputs lemmas (StandsUsed trail roles below) conflict
used_by_cycle inputs lemmas trail roles below conflict cycle given h e is used =
    let there : IsConflict inputs lemmas (Stands trail below) (OfCycle cycle) = subst (IsConflict inputs lemmas (Stands trail below)) e h in
    let P : List Literal → Type 0 = λ ls. (q : ℕ) → q < length ls → StandsUsed trail roles below (literal_at ls q) in
    subst (IsConflict inputs lemmas (StandsUsed trail roles below)) (sym e) (there.0, subst P is used)

-- an entry that was read, whatever stands beyond the end
pub entry_is : (trail : List Entry) (k : ℕ) (d : Entry) → k < length trail → get_or trail k d ≡ entry_at trail k
entry_is [] k d within = absurd (omega arith)
entry_is (f ∷ trail) zero d within = refl
entry_is (f ∷ trail) (suc k) d within = entry_is trail k d (omega arith)

pub reason_is : (trail : List Entry) (k : ℕ) (d : Entry) (r : Reason) → k < length trail → (get_or trail k d).reason ≡ r → (entry_at trail k).reason ≡ r
reason_is trail k d r within is = sym (ap (λ (f : Entry). f.reason) (entry_is trail k d within)) ∙ is

pub literal_is : (trail : List Entry) (k : ℕ) (d : Entry) → k < length trail → (get_or trail k d).literal ≡ on_trail trail k
literal_is trail k d within = ap (λ (f : Entry). f.literal) (entry_is trail k d within)

pub pair_others : (inputs lemmas : List (List Literal)) (cube : List Literal) (trail : List Entry) (k : ℕ) (tighter : Literal) (given : List Literal) (l : Literal) → IsTrail inputs lemmas cube trail → k < length trail → (entry_at trail k).reason ≡ ByPair tighter → given ≡ pair_cycle tighter l → l ≡ on_trail trail k → (q : ℕ) → q < length given → (literal_at given q ≡ negation_of l) ⊎ Stands trail k (literal_at given q)
pair_others inputs lemmas cube trail k tighter given l h within e is a =
    let r = pair_reason inputs lemmas cube trail k tighter h within e in
    let P : List Literal → Type 0 = λ ls. (q : ℕ) → q < length ls → (literal_at ls q ≡ negation_of l) ⊎ Stands trail k (literal_at ls q) in
    let Q : Literal → Type 0 = λ m. (q : ℕ) → q < length (pair_cycle tighter m) → (literal_at (pair_cycle tighter m) q ≡ negation_of m) ⊎ Stands trail k (literal_at (pair_cycle tighter m) q) in
    subst P (sym is) (subst Q (sym a) r.others)

-- the literals of the learned clause
pub denials_of : (inputs lemmas : List (List Literal)) (trail : List Entry) (whole : Bool) (first roles : List Role) (clause : List Literal) → IsMarked inputs lemmas trail whole 0 first roles → All (DeniesKept trail roles) clause → All (IsDenial inputs lemmas trail whole) clause
denials_of inputs lemmas trail whole first roles clause m denies k d lt =
    let h = denies k d lt in
    (h.0, h.1, h.3, λ w. m.first w h.0 (omega arith) h.1 h.2)

-- the clause so far: the negations of the kept literals at the first places passed
abbrev pub KeepsPassed : List Entry → List Role → List ℕ → ℕ → List Literal → Type 0
KeepsPassed trail roles passed i clause = (a : ℕ) → a < i → role_at roles (slice_index passed a) ≡ Kept → Contains clause (negation_of (on_trail trail (slice_index passed a)))

pub kept_push : (trail : List Entry) (roles : List Role) (passed : List ℕ) (i : ℕ) (clause new : List Literal) (l : Literal) → KeepsPassed trail roles passed i clause → new ≡ clause ++ l ∷ [] → l ≡ negation_of (on_trail trail (slice_index passed i)) → KeepsPassed trail roles passed (i + 1) new
kept_push trail roles passed i clause new l keeps e is a lt kept = subst (λ (ls : List Literal). Contains ls (negation_of (on_trail trail (slice_index passed a)))) (sym e) (elim (cases_eq a i) [
  | inl same ↦ subst (Contains (clause ++ l ∷ [])) (is ∙ ap (λ (b : ℕ). negation_of (on_trail trail (slice_index passed b))) (sym same)) (Contains-push clause l)
  | inr other ↦ Contains-append_left clause (l ∷ []) (negation_of (on_trail trail (slice_index passed a))) (keeps a (omega arith) kept)
])

pub kept_past : (trail : List Entry) (roles : List Role) (passed : List ℕ) (i : ℕ) (clause : List Literal) → KeepsPassed trail roles passed i clause → (role_at roles (slice_index passed i) ≡ Kept → ⊥) → KeepsPassed trail roles passed (i + 1) clause
kept_past trail roles passed i clause keeps not a lt kept = elim (cases_eq a i) [
  | inl same ↦ absurd (not (subst (λ (b : ℕ). role_at roles (slice_index passed b) ≡ Kept) same kept))
  | inr other ↦ keeps a (omega arith) kept
]

pub denies_push : (trail : List Entry) (roles : List Role) (k : ℕ) (clause new : List Literal) (l : Literal) → All (DeniesKept trail roles) clause → new ≡ clause ++ l ∷ [] → l ≡ negation_of (on_trail trail k) → k < length trail → role_at roles k ≡ Kept → All (DeniesKept trail roles) new
denies_push trail roles k clause new l denies e is within kept = subst (All (DeniesKept trail roles)) (sym e) (All-push (DeniesKept trail roles) clause l denies (k, within, kept, is))
