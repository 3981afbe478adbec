-- The literals that begin at a point, and the queue, turn by turn.
use Rattle.std.proofs.Common.{arith, refl, ap, sym, subst, ◌∙◌, inl, inr, ◌⊎◌, ◌≡◌, ℕ, ◌<◌, ◌≤◌, List, [], ◌∷◌, length, take, Contains, IsPermutation, sum_by, ℤ, pos}
use Rattle.std.proofs.lemmas.Bool.{cases_lt}
use Rattle.std.proofs.lemmas.Int.{ints}
use Rattle.std.proofs.lemmas.List.{get_or_default}
use Rattle.std.proofs.lemmas.List.Sorted.{Contains-permutation, IsPermutation-sym, length_permutation}
use Rattle.stn_core.specs.declared.literal.Literal.{Literal}
use Rattle.stn_core.specs.Literal.{value_at, Holds, literal_at}
use Rattle.stn_core.specs.Schedule.{IsGreatestSchedule}
use Rattle.inc_paths.specs.declared.labels.Lowering.{Lowering}
use Rattle.inc_paths.specs.code.Graphs.{IsNewest}
use Rattle.inc_paths.specs.code.Trails.{Labelled, entry_at, first_of}
use Rattle.inc_paths.specs.code.Trails.{first_in, older_in}
use Rattle.inc_paths.specs.code.Work.{IsStart, IsKept, IsBetween, IsLowering, IsPending, IsTaken, IsScanning, height, room}
use Rattle.inc_paths.proofs.Lowers.{contains_cases, contains_rest, contains_first}

pub taken_scanning : (ls : List Literal) (labels : Labelled) (place : ℕ) → IsTaken ls labels place → IsScanning ls labels (entry_at labels.trail place).literal.x (length ls)
taken_scanning ls labels place taken = λ k lt. elim (taken k lt) [
  | inl h ↦ inl h
  | inr o ↦ elim o [
    | inl w ↦ inr (inl w)
    | inr at ↦ inr (inr (sym at.0, lt))
  ]
]

-- between two numbers no literal begins there
pub narrowed : (ls : List Literal) (labels : Labelled) (point m n : ℕ) → IsScanning ls labels point m → IsNewest ls point m n → IsScanning ls labels point n
narrowed ls labels point m n sc newest = λ k lt. elim (sc k lt) [
  | inl h ↦ inl h
  | inr o ↦ elim o [
    | inl w ↦ inr (inl w)
    | inr at ↦ elim (cases_lt k n) [
      | inl below ↦ inr (inr (at.0, below))
      | inr above ↦ absurd (newest.last k above at.1 at.0)
    ]
  ]
]

pub all_scanned : (ls : List Literal) (labels : Labelled) (point : ℕ) → IsScanning ls labels point 0 → IsPending ls labels
all_scanned ls labels point sc = λ k lt. elim (sc k lt) [
  | inl h ↦ inl h
  | inr o ↦ elim o [
    | inl w ↦ inr w
    | inr at ↦ let no = at.1 in absurd (omega arith)
  ]
]

pub first_on : (begin mid : Labelled) → mid.start ≡ begin.start → IsKept begin.start (first_in begin) (older_in begin) mid.trail mid.values → first_in mid ≡ first_in begin
first_on begin mid e k = ap (λ (s : ℕ). first_of s mid.trail mid.values) e ∙ k.back

pub kept_on : (begin mid next : Labelled) → mid.start ≡ begin.start → IsKept begin.start (first_in begin) (older_in begin) mid.trail mid.values → IsKept mid.start (first_in mid) (older_in mid) next.trail next.values → IsKept begin.start (first_in begin) (older_in begin) next.trail next.values
kept_on begin mid next e k h =
    let older : older_in mid ≡ older_in begin = ap (λ (s : ℕ). take s mid.trail) e ∙ k.front in
    let within = h.within in
    record {
      within = omega (arith, e);
      front = ap (λ (s : ℕ). take s next.trail) (sym e) ∙ h.front ∙ older;
      back = ap (λ (s : ℕ). first_of s next.trail next.values) (sym e) ∙ h.back ∙ first_on begin mid e k;
    }

pub kept_at : (labels : Labelled) → labels.start ≤ length labels.trail → IsKept labels.start (first_in labels) (older_in labels) labels.trail labels.values
kept_at labels within = record { within = within; front = refl; back = refl }

-- one is taken from the queue
module _ (points : ℕ) (ls : List Literal) (new : Literal) (first : List ℤ) (labels next : Labelled) (item : ℕ × ℕ)
    (v : next.values ≡ labels.values) (t : next.trail ≡ labels.trail) (s : next.start ≡ labels.start) (q : IsPermutation labels.queue (item ∷ next.queue)) where
  queue_taken : (x : ℕ × ℕ) → Contains labels.queue x → (item ≡ x) ⊎ Contains next.queue x
  queue_taken x h = contains_cases next.queue item x (Contains-permutation labels.queue (item ∷ next.queue) x q h)

  queue_rest : (x : ℕ × ℕ) → Contains next.queue x → Contains labels.queue x
  queue_rest x h = Contains-permutation (item ∷ next.queue) labels.queue x (IsPermutation-sym labels.queue (item ∷ next.queue) q) (contains_rest next.queue item x h)

  pub taken_there : IsLowering points ls new first labels → (labels.start ≤ item.1) × (item.1 < length labels.trail)
  taken_there b = b.queued item.0 item.1 (Contains-permutation (item ∷ next.queue) labels.queue item (IsPermutation-sym labels.queue (item ∷ next.queue) q) (contains_first next.queue item))

  pub popped_first : first_in next ≡ first_in labels
  popped_first = ap (λ (k : ℕ). first_of k next.trail next.values) s ∙ ap (λ (es : List Lowering). first_of labels.start es next.values) t ∙ ap (first_of labels.start labels.trail) v

  pub popped_lowering : IsLowering points ls new first labels → IsLowering points ls new first next
  popped_lowering b = record {
    between = subst (IsBetween points ls new first) (sym v) b.between;
    traced = rw (s, t) b.traced;
    away = rw (s, t) b.away;
    queued = λ f place h. rw (s, t) (b.queued f place (queue_rest (f, place) h));
  }

  pub popped_taken : IsPending ls labels → IsTaken ls next item.1
  popped_taken p = λ k lt. elim (p k lt) [
    | inl h ↦ inl (subst (λ (vs : List ℤ). Holds vs (literal_at ls k)) (sym v) h)
    | inr w ↦ elim (queue_taken (w.0, w.1) w.2) [
      | inl e ↦
          let place : item.1 ≡ w.1 = ap (λ (x : ℕ × ℕ). x.1) e in
          let entry : entry_at next.trail item.1 ≡ entry_at labels.trail w.1 = ap (λ (es : List Lowering). entry_at es item.1) t ∙ ap (entry_at labels.trail) place in
          inr (inr (ap (λ (d : Lowering). d.literal.x) entry ∙ w.3, ap (λ (d : Lowering). d.now) entry ∙ w.4 ∙ ap (λ (vs : List ℤ). value_at vs (literal_at ls k).y) (sym v)))
      | inr old ↦
          let entry : entry_at next.trail w.1 ≡ entry_at labels.trail w.1 = ap (λ (es : List Lowering). entry_at es w.1) t in
          inr (inl (w.0, w.1, old, ap (λ (d : Lowering). d.literal.x) entry ∙ w.3, ap (λ (d : Lowering). d.now) entry ∙ w.4 ∙ ap (λ (vs : List ℤ). value_at vs (literal_at ls k).y) (sym v)))
    ]
  ]

  pub popped_room : room next < room labels
  popped_room =
      let count = length_permutation labels.queue (item ∷ next.queue) q in
      let same = ap (λ (vs : List ℤ). sum_by height vs) v in
      omega (arith, count, same)

pub nothing : (x : ℕ × ℕ) → Contains [] x → ⊥
nothing x (k, lt, e) = omega arith

-- an empty queue
pub none_waits : (ls : List Literal) (labels : Labelled) → labels.queue ≡ [] → IsPending ls labels → (k : ℕ) → k < length ls → Holds labels.values (literal_at ls k)
none_waits ls labels e p = λ k lt. elim (p k lt) [
  | inl h ↦ h
  | inr w ↦ absurd (nothing (w.0, w.1) (subst (λ (xs : List (ℕ × ℕ)). Contains xs (w.0, w.1)) e w.2))
]

pub settled : (points : ℕ) (ls : List Literal) (new : Literal) (first : List ℤ) (values : List ℤ) → IsStart points ls new first → IsBetween points ls new first values → ((k : ℕ) → k < length ls → Holds values (literal_at ls k)) → IsGreatestSchedule points ls values
settled points ls new first values start b holds = record {
  schedule = record {
    count = b.count;
    at_most_0 = λ p p_in. (let f = (start.range p).high in let g = b.below p in omega (arith, ints, f, g));
    holds = λ k d lt. subst (Holds values) (get_or_default ls k (record { x = 0; y = 0; c = pos 0 }) d lt) (holds k lt);
  };
  greatest = b.bounds;
}
