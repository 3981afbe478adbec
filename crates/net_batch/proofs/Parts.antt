-- Parts of a batch in a net.
use Rattle.std.proofs.Common.{arith, ◌≡◌, ◌∙◌, sym, ap, subst, cond, ℕ, zero, suc, ◌<◌, ◌≤◌, ◌+◌, List, [], ◌∷◌, ◌++◌, length, take, get_or, set, replicate, All, Contains, Bool, true, false, inl, inr, length-set, take_all, take_at, take-add, length-append, min}
use Rattle.std.proofs.lemmas.List.Elements.{All-push, All-weaker, All-contains, All-contains_itself, All-from_get_or, All-push, Contains-append_left, Contains-append_right, Contains-push, Contains-push_cases, Contains-get_or}
use Rattle.std.proofs.lemmas.Grind.{common_steps}
use Rattle.std.proofs.lemmas.List.{get_or-replicate}
use Rattle.std.proofs.lemmas.Bool.{cases_eq}
use Rattle.stn_core.specs.declared.literal.Literal.{Literal}
use Rattle.stn_core.specs.Literal.{literal_at}
use Rattle.stn_core.specs.Answer.{IsCycleAmong}
use Rattle.std.specs.Prelude.{IsPermutation}
use Rattle.std.specs.List.{items_where_true}
use Rattle.std.proofs.Common.{refl, append_assoc}
use Rattle.std.proofs.lemmas.List.Sorted.{IsPermutation-refl, IsPermutation-sym, IsPermutation-trans, IsPermutation-to_front, IsPermutation-append_left, IsPermutation-cons}
use Rattle.stn_core.specs.Limits.{adds_limit}
use Rattle.net_batch.specs.Batches.{IsLonger, IsPart, IsRisen, IsMarkedRisen, is_marked}

-- nothing of it is in the net yet
pub longer-none : (old batch : List Literal) → IsLonger old batch old
longer-none old batch = record {
  front = grind (arith, common_steps);
  among = All-weaker (Contains old) (Contains (old ++ batch)) (λ x h. Contains-append_left old batch x h) old (All-contains_itself old);
}

pub part-none : (old batch : List Literal) (marks : List Bool) → marks ≡ replicate (length batch) false → IsPart old batch marks old
part-none old batch marks e = record {
  longer = longer-none old batch;
  count = grind (arith, common_steps, e);
  marked = λ j within is. (let unmarked : get_or marks j false ≡ false = rw e (get_or-replicate (length batch) j false false within) in cc);
}

-- the literal at a place is in the net too
pub part-more : (old batch : List Literal) (marks : List Bool) (new : List Literal) (k : ℕ) → k < length batch → IsPart old batch marks new → IsPart old batch (set marks k true) (new ++ literal_at batch k ∷ [])
part-more old batch marks new k within h =
    let l : Literal = literal_at batch k in
    record {
      longer = record {
        front = grind (arith, common_steps, h.longer.front);
        among = All-push (Contains (old ++ batch)) new l h.longer.among (Contains-append_right old batch l (Contains-get_or batch k _ within));
      };
      count = length-set _ _ _ ∙ h.count;
      marked = λ j below is. elim (cases_eq j k) [
        | inl same ↦ (let P : ℕ → Type 0 = λ i. Contains (new ++ l ∷ []) (literal_at batch i) in subst P (sym same) (Contains-push new l))
        | inr other ↦ Contains-append_left new (l ∷ []) (literal_at batch j) (h.marked j below (grind (arith, common_steps, is, other)))
      ];
    }

-- a cycle of the net's literals and of one of the batch
pub cycle-part : (old batch new cycle : List Literal) (k : ℕ) → k < length batch → All (Contains (old ++ batch)) new → IsCycleAmong (new ++ literal_at batch k ∷ []) cycle → IsCycleAmong (old ++ batch) cycle
cycle-part old batch new cycle k within among h =
    let l : Literal = literal_at batch k in
    let all : All (Contains (old ++ batch)) (new ++ l ∷ []) = All-push (Contains (old ++ batch)) new l among (Contains-append_right old batch l (Contains-get_or batch k _ within)) in
    record {
      negative = h.negative;
      given = All-weaker (Contains (new ++ l ∷ [])) (Contains (old ++ batch)) (λ x c. All-contains (Contains (old ++ batch)) (new ++ l ∷ []) x all c) cycle h.given;
    }

-- a cycle of the batch alone
pub cycle-batch : (old batch cycle : List Literal) → IsCycleAmong batch cycle → IsCycleAmong (old ++ batch) cycle
cycle-batch old batch cycle h = record {
  negative = h.negative;
  given = All-weaker (Contains batch) (Contains (old ++ batch)) (λ x c. Contains-append_right old batch x c) cycle h.given;
}

-- all are marked
pub part-all : (old batch : List Literal) (marks : List Bool) (new : List Literal) → IsPart old batch marks new → ((j : ℕ) → j < length batch → is_marked marks j ≡ true) → All (Contains new) batch
part-all old batch marks new h all = All-from_get_or (Contains new) batch _ (λ j within. h.marked j within (all j within))

none-marked : (batch : List Literal) (n : ℕ) → items_where_true (replicate n false) batch ≡ []
none-marked batch zero = refl
none-marked [] (suc n) = refl
none-marked (l ∷ batch) (suc n) = none-marked batch n

all-marked : (batch : List Literal) (marks : List Bool) → length marks ≡ length batch → ((j : ℕ) → j < length batch → is_marked marks j ≡ true) → items_where_true marks batch ≡ batch
all-marked [] [] count all = refl
all-marked [] (b ∷ marks) count all = absurd (omega (arith, count))
all-marked (l ∷ batch) [] count all = absurd (omega (arith, count))
all-marked (l ∷ batch) (true ∷ marks) count all = ap (λ (ls : List Literal). l ∷ ls) (all-marked batch marks (omega (arith, count)) (λ j within. all (suc j) (omega (arith, within))))
all-marked (l ∷ batch) (false ∷ marks) count all = (let unmarked : false ≡ true = all 0 (omega arith) in absurd cc)

one-marked : (batch : List Literal) (marks : List Bool) (k : ℕ) → k < length batch → length marks ≡ length batch → is_marked marks k ≡ false → IsPermutation (items_where_true (set marks k true) batch) (items_where_true marks batch ++ literal_at batch k ∷ [])
one-marked [] marks k within count unmarked = absurd (omega (arith, within))
one-marked (l ∷ batch) [] k within count unmarked = absurd (omega (arith, count))
one-marked (l ∷ batch) (true ∷ marks) zero within count unmarked = absurd cc
one-marked (l ∷ batch) (false ∷ marks) zero within count unmarked = IsPermutation-sym (items_where_true marks batch ++ l ∷ []) (l ∷ items_where_true marks batch) (IsPermutation-to_front (items_where_true marks batch) l)
one-marked (l ∷ batch) (true ∷ marks) (suc k) within count unmarked = IsPermutation-cons l (items_where_true (set marks k true) batch) (items_where_true marks batch ++ literal_at batch k ∷ []) (one-marked batch marks k (omega (arith, within)) (omega (arith, count)) unmarked)
one-marked (l ∷ batch) (false ∷ marks) (suc k) within count unmarked = one-marked batch marks k (omega (arith, within)) (omega (arith, count)) unmarked

more-marked : (batch : List Literal) (marks : List Bool) (k : ℕ) → k < length batch → length marks ≡ length batch → is_marked marks k ≡ false → length (items_where_true (set marks k true) batch) ≡ length (items_where_true marks batch) + 1
more-marked [] marks k within count unmarked = absurd (omega (arith, within))
more-marked (l ∷ batch) [] k within count unmarked = absurd (omega (arith, count))
more-marked (l ∷ batch) (true ∷ marks) zero within count unmarked = absurd cc
more-marked (l ∷ batch) (false ∷ marks) zero within count unmarked = omega arith
more-marked (l ∷ batch) (true ∷ marks) (suc k) within count unmarked = omega (arith, more-marked batch marks k (omega (arith, within)) (omega (arith, count)) unmarked)
more-marked (l ∷ batch) (false ∷ marks) (suc k) within count unmarked = more-marked batch marks k (omega (arith, within)) (omega (arith, count)) unmarked

pub risen-none : (old batch : List Literal) (before : ℕ) (marks : List Bool) → marks ≡ replicate (length batch) false → IsMarkedRisen old batch before marks old before
risen-none old batch before marks e =
    let none : items_where_true marks batch ≡ [] = ap (λ (bs : List Bool). items_where_true bs batch) e ∙ none-marked batch (length batch) in
    record {
      order = [];
      once = subst (λ (ls : List Literal). IsPermutation ls []) (sym none) (IsPermutation-refl []);
      behind = grind (arith, common_steps);
      risen = ap (λ (n : ℕ). min n adds_limit) (omega (arith, ap length none));
    }

pub risen-more : (old batch : List Literal) (before : ℕ) (marks : List Bool) (new : List Literal) (after now k : ℕ) → k < length batch → length marks ≡ length batch → is_marked marks k ≡ false → now ≡ min (after + 1) adds_limit → IsMarkedRisen old batch before marks new after → IsMarkedRisen old batch before (set marks k true) (new ++ literal_at batch k ∷ []) now
risen-more old batch before marks new after now k within count unmarked e h =
    let l : Literal = literal_at batch k in
    let was : List Literal = items_where_true marks batch in
    let is : List Literal = items_where_true (set marks k true) batch in
    let one : IsPermutation is (was ++ l ∷ []) = one-marked batch marks k within count unmarked in
    let many : length is ≡ length was + 1 = more-marked batch marks k within count unmarked in
    record {
      order = h.order ++ l ∷ [];
      once = IsPermutation-trans is (was ++ l ∷ []) (h.order ++ l ∷ []) one (IsPermutation-append_left (l ∷ []) was h.order h.once);
      behind = ap (λ (ls : List Literal). ls ++ l ∷ []) h.behind ∙ append_assoc old h.order (l ∷ []);
      risen = omega (arith, e, h.risen, many);
    }

pub risen-all : (old batch : List Literal) (before : ℕ) (marks : List Bool) (new : List Literal) (after : ℕ) → length marks ≡ length batch → ((j : ℕ) → j < length batch → is_marked marks j ≡ true) → IsMarkedRisen old batch before marks new after → IsRisen old batch before new after
risen-all old batch before marks new after count all h = subst (λ (ls : List Literal). IsRisen old ls before new after) (all-marked batch marks count all) h
