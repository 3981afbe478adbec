-- Which places a way back has passed, over plain lists.
use Rattle.std.proofs.Common.{arith, ◌≡◌, ◌≢◌, ℕ, zero, suc, ◌<◌, ◌≤◌, inl, inr, ◌⊎◌, List, [], ◌∷◌, ◌++◌, length, Contains, Bool, set, subst, sym, ap, ◌∙◌, refl}
use Rattle.std.specs.Prelude.{slice_index, IsPermutation}
use Rattle.std.proofs.lemmas.Bool.{cases_eq, cases_lt}
use Rattle.std.proofs.lemmas.List.{length_push, get_or-set_other}
use Rattle.std.proofs.lemmas.List.Elements.{All-contains}
use Rattle.std.proofs.lemmas.List.Sorted.{Contains-permutation, le_from_greatest}
use Rattle.std.specs.BinaryHeap.{IsUpperBound}
use Rattle.std.specs.Ordering.{nat_cmp}
use Rattle.conflict_analysis.specs.declared.entry.Entry.{Entry}
use Rattle.conflict_analysis.specs.declared.entry.Role.{Role}
use Rattle.conflict_analysis.specs.declared.entry.Role.TheVariants.{Unused, Kept, Resolved}
use Rattle.stn_core.specs.declared.literal.Literal.{Literal}
use Rattle.conflict_analysis.specs.code.Trails.{role_at, IsUsed, IsTurned, IsMarked, MayStayAt}
use Rattle.conflict_analysis.specs.code.Places.{HasMore, IsGreatestBelow, AreWaiting, KeepsWaiting, ArePassed}

pub not_used : (r : Role) → r ≡ Unused → IsUsed r → ⊥
not_used r e u = let P : Role → Type 0 = IsUsed in subst P e u

-- one place more is used, and waits
pub waiting_more : (old new : List Role) (before after : List ℕ) (k : ℕ) → new ≡ set old k Kept → HasMore before k after → KeepsWaiting old before new after
waiting_more old new before after k e more low w j lt u = elim (cases_eq j k) [
  | inl same ↦ subst (Contains after) (sym same) more.here
  | inr other ↦ more.others j (w j lt (subst IsUsed (ap (λ (rs : List Role). role_at rs j) e ∙ get_or-set_other old k j Kept Unused other) u))
]

pub waiting_twice : (old mid new : List Role) (first between last : List ℕ) → KeepsWaiting old first mid between → KeepsWaiting mid between new last → KeepsWaiting old first new last
waiting_twice old mid new first between last a b low w = b low (a low w)

-- a used literal is resolved
pub waiting_resolved : (old mid new : List Role) (before after : List ℕ) (k : ℕ) → KeepsWaiting old before mid after → IsUsed (role_at mid k) → new ≡ set mid k Resolved → KeepsWaiting old before new after
waiting_resolved old mid new before after k keeps here e low w j lt u = elim (cases_eq j k) [
  | inl same ↦ keeps low w j lt (subst (λ (i : ℕ). IsUsed (role_at mid i)) (sym same) here)
  | inr other ↦ keeps low w j lt (subst IsUsed (ap (λ (rs : List Role). role_at rs j) e ∙ get_or-set_other mid k j Resolved Unused other) u)
]

pub kept_used : (roles : List Role) (k : ℕ) → role_at roles k ≡ Kept → IsUsed (role_at roles k)
kept_used roles k e = subst IsUsed (sym e) tt

-- at first no place is used
pub waiting_start : (n : ℕ) (first roles : List Role) (before waiting : List ℕ) → ((j : ℕ) → role_at first j ≡ Unused) → KeepsWaiting first before roles waiting → AreWaiting n roles waiting
waiting_start n first roles before waiting clean keeps = keeps n (λ j lt u. absurd (not_used (role_at first j) (clean j) u))

-- the next place, where no used one stands between
pub gap : (n k : ℕ) (roles : List Role) (before after : List ℕ) → AreWaiting n roles before → IsGreatestBelow before after n k → (j : ℕ) → k < j → j < n → IsUsed (role_at roles j) → ⊥
gap n k roles before after w next j low high u =
    let h = next.others j (w j high u) high (λ same. absurd (omega arith)) in
    let less = h.0 in absurd (omega arith)

pub waiting_next : (n k : ℕ) (roles : List Role) (before after : List ℕ) → AreWaiting n roles before → IsGreatestBelow before after n k → AreWaiting k roles after
waiting_next n k roles before after w next j lt u =
    let within = next.within in
    let h = next.others j (w j (omega arith) u) (omega arith) (λ same. absurd (omega arith)) in h.1

push_at : (xs : List ℕ) (k : ℕ) → slice_index (xs ++ k ∷ []) (length xs) ≡ k
push_at [] k = refl
push_at (x ∷ xs) k = push_at xs k

push_before : (xs : List ℕ) (k i : ℕ) → i < length xs → slice_index (xs ++ k ∷ []) i ≡ slice_index xs i
push_before [] k i lt = absurd (omega arith)
push_before (x ∷ xs) k zero lt = refl
push_before (x ∷ xs) k (suc i) lt = push_before xs k i (omega arith)

-- an index of the longer list is the last one, or one of the others
last_or : (xs : List ℕ) (k i : ℕ) → i < length (xs ++ k ∷ []) → (i < length xs) ⊎ (i ≡ length xs)
last_or xs k i lt =
    let count = length_push xs k in
    elim (cases_lt i (length xs)) [
      | inl less ↦ inl less
      | inr past ↦ inr (omega arith)
    ]

all_pushed : (xs : List ℕ) (k : ℕ) (P : ℕ → Type 0) → ((i : ℕ) → i < length xs → P (slice_index xs i)) → P k → (i : ℕ) → i < length (xs ++ k ∷ []) → P (slice_index (xs ++ k ∷ []) i)
all_pushed xs k P all here i lt = elim (last_or xs k i lt) [
  | inl less ↦ subst P (sym (push_before xs k i less)) (all i less)
  | inr last ↦ subst P (sym (ap (slice_index (xs ++ k ∷ [])) last ∙ push_at xs k)) here
]

pushed : (n k count : ℕ) (roles new : List Role) (passed : List ℕ) → ArePassed n count roles passed → k < n → n ≤ count → ((j : ℕ) → k < j → j < n → IsUsed (role_at roles j) → ⊥) → ((j : ℕ) → k < j → role_at new j ≡ role_at roles j) → ArePassed k count new (passed ++ k ∷ [])
pushed n k count roles new passed p lt le none above = record {
  from = all_pushed passed k (λ (m : ℕ). k ≤ m) (λ i less. let h = p.from i less in omega arith) (omega arith);
  within = all_pushed passed k (λ (m : ℕ). m < count) p.within (omega arith);
  falling = λ i j less within. elim (last_or passed k j within) [
    | inl inside ↦ (let a = push_before passed k i (omega arith) in let b = push_before passed k j inside in let h = p.falling i j less inside in omega (arith, a, b, h))
    | inr last ↦ (let a = push_before passed k i (omega arith) in
        let b : slice_index (passed ++ k ∷ []) j ≡ k = ap (slice_index (passed ++ k ∷ [])) last ∙ push_at passed k in
        let h = p.from i (omega arith) in omega (arith, a, b, h))
  ];
  all = λ j from u. elim (cases_eq j k) [
    | inl same ↦ (let count = length_push passed k in (length passed, omega arith, push_at passed k ∙ sym same))
    | inr other ↦ (let past : k < j = omega arith in
        let before = subst IsUsed (above j past) u in
        elim (cases_lt j n) [
          | inl less ↦ absurd (none j past less before)
          | inr beyond ↦ (let h = p.all j beyond before in let count = length_push passed k in
              let in_ = h.1 in (h.0, omega arith, push_before passed k h.0 h.1 ∙ h.2))
        ])
  ];
}

module _ (inputs lemmas : List (List Literal)) (trail : List Entry) (whole : Bool) where
  -- a turn more, down to the next place
  pub passed_more : (n k : ℕ) (roles new : List Role) (before after passed now : List ℕ) → ArePassed n (length trail) roles passed → n ≤ length trail → AreWaiting n roles before → IsGreatestBelow before after n k → IsTurned inputs lemmas trail whole k roles new → now ≡ passed ++ k ∷ [] → ArePassed k (length trail) new now
  passed_more n k roles new before after passed now p le w next t e =
      subst (ArePassed k (length trail) new) (sym e) (pushed n k (length trail) roles new passed p next.within le (gap n k roles before after w next) t.above)

  pub marked_to : (first mid new : List Role) (k n : ℕ) (before after : List ℕ) → AreWaiting n mid before → IsGreatestBelow before after n k → IsMarked inputs lemmas trail whole n first mid → IsTurned inputs lemmas trail whole k mid new → IsMarked inputs lemmas trail whole k first new
  marked_to first mid new k n before after waits next m t =
      let count = t.count in let old = m.count in record {
        count = omega arith;
        closed = t.closed;
        used = λ j u. t.used j (m.used j u);
        first = λ w j le lt is. elim (cases_eq j k) [
          | inl same ↦ subst (MayStayAt inputs lemmas trail) (sym same) (t.first w (subst (λ (i : ℕ). role_at new i ≡ Kept) same is))
          | inr other ↦ (let past : k < j = omega arith in
              let was : role_at mid j ≡ Kept = sym (t.above j past) ∙ is in
              elim (cases_lt j n) [
                | inl less ↦ absurd (gap n k mid before after waits next j past less (kept_used mid j was))
                | inr beyond ↦ m.first w j beyond lt was
              ])
        ];
      }

  -- no place waits any more
  none_left : (n : ℕ) (roles : List Role) (waiting : List ℕ) → AreWaiting n roles waiting → ((j : ℕ) → Contains waiting j → n ≤ j) → (j : ℕ) → j < n → IsUsed (role_at roles j) → ⊥
  none_left n roles waiting w none j lt u = let le = none j (w j lt u) in absurd (omega arith)

  pub marked_end : (n : ℕ) (first roles : List Role) (waiting : List ℕ) → AreWaiting n roles waiting → ((j : ℕ) → Contains waiting j → n ≤ j) → IsMarked inputs lemmas trail whole n first roles → IsMarked inputs lemmas trail whole 0 first roles
  marked_end n first roles waiting waits none m = record {
    count = m.count;
    closed = m.closed;
    used = m.used;
    first = λ w j le lt is. elim (cases_lt j n) [
      | inl less ↦ absurd (none_left n roles waiting waits none j less (kept_used roles j is))
      | inr beyond ↦ m.first w j beyond lt is
    ];
  }

  pub passed_end : (n : ℕ) (roles : List Role) (waiting passed : List ℕ) → AreWaiting n roles waiting → ((j : ℕ) → Contains waiting j → n ≤ j) → ArePassed n (length trail) roles passed → ArePassed 0 (length trail) roles passed
  passed_end n roles waiting passed waits none p = record {
    from = λ i lt. omega arith;
    within = p.within;
    falling = p.falling;
    all = λ j le u. elim (cases_lt j n) [
      | inl less ↦ absurd (none_left n roles waiting waits none j less u)
      | inr beyond ↦ p.all j beyond u
    ];
  }

-- the heap: a place more, and the greatest below another
pub has_more : (old new : List ℕ) (k : ℕ) → IsPermutation (k ∷ old) new → HasMore old k new
has_more old new k same = record {
  here = Contains-permutation (k ∷ old) new k same (0, omega arith, refl);
  others = λ j c. Contains-permutation (k ∷ old) new j same (suc c.0, (let h = c.1 in omega arith), c.2);
}

behind : (k j : ℕ) (rest : List ℕ) → j ≢ k → Contains (k ∷ rest) j → Contains rest j
behind k j rest other (zero, lt, is) = absurd (other (sym is))
behind k j rest other (suc i, lt, is) = (i, omega arith, is)

module _ (first old rest : List ℕ) (below k : ℕ) (kept : (j : ℕ) → Contains first j → j < below → Contains old j) (popped : IsPermutation old (k ∷ rest)) where
  still : (j : ℕ) → Contains first j → j < below → j ≢ k → Contains rest j
  still j c lt other = behind k j rest other (Contains-permutation old (k ∷ rest) j popped (kept j c lt))

  pub popped_past : below ≤ k → (j : ℕ) → Contains first j → j < below → Contains rest j
  popped_past past j c lt = still j c lt (λ same. absurd (omega arith))

  pub popped_next : k < below → IsUpperBound nat_cmp k old → IsGreatestBelow first rest below k
  popped_next within greatest = record {
    within = within;
    others = λ j c lt other. (
      (let le : j ≤ k = All-contains (λ (y : ℕ). y ≤ k) old j (le_from_greatest k old greatest) (kept j c lt) in omega arith),
      still j c lt other,
    );
  }

pub nothing_left : (first old : List ℕ) (below : ℕ) → ((j : ℕ) → Contains first j → j < below → Contains old j) → length old ≡ 0 → (j : ℕ) → Contains first j → below ≤ j
nothing_left first old below kept none j c = elim (cases_lt j below) [
  | inl less ↦ (let h = kept j c less in let lt = h.1 in absurd (omega arith))
  | inr past ↦ past
]
