-- A slice's answer, over plain lists.
use Rattle.std.proofs.Common.{arith, ◌≡◌, ℕ, ◌<◌, ◌≤◌, ◌+◌, Bool, true, false, List, length, All, Contains, Option, Some, get_or, ℤ, subst, sym, ap, ◌∙◌}
use Rattle.stn_core.specs.declared.literal.Literal.{Literal}
use Rattle.stn_core.specs.Literal.{negation_of}
use Rattle.refute_tree.specs.declared.lemma.Lemma.{Lemma}
use Rattle.refute_tree.specs.Batches.{LemmaBatch, AreRefuted}
use Rattle.trim_lemmas.specs.declared.trimming.TrimmedBatch.{TrimmedBatch}
use Rattle.trim_lemmas.specs.Trimming.{root, place, IsTrimmedBatch, StaysRefuted, StaysOver, StaysStated}
use Rattle.branch_search.specs.declared.divide.Division.{Division}
use Rattle.branch_search.specs.declared.divide.Division.TheVariants.{Model, Excluded, Split}
use Rattle.branch_search.specs.declared.search.Found.{Found}
use Rattle.branch_search.specs.declared.search.Found.TheVariants.{Model as FoundModel, Excluded as FoundExcluded, Spent}
use Rattle.branch_search.specs.declared.answer.Slice.{Slice}
use Rattle.branch_search.specs.declared.answer.Slice.TheVariants.{Model as AsModel, Refuted as AsRefuted, Split as AsSplit}
use Rattle.branch_search.specs.Slices.{Question, AreProved, Excludes, IsBatch, IsSlice}
use Rattle.branch_search.specs.code.Turns.{AreFound}
use Rattle.branch_search.specs.code.Divisions.{IsDivision, excluding}
use Rattle.branch_search.specs.code.Deliveries.{IsLeft, IsOfKind, IsSplitBehind}

-- ---- what is left of the lemmas

pub left_by : (seen : ℕ) (given own : List Lemma) (found : Option ℕ) (batch : LemmaBatch) (wanted : List Bool) (left : TrimmedBatch) → given ≡ own → batch.seen ≡ seen → batch.lemmas ≡ given
    → IsTrimmedBatch wanted batch left.needed.items left.batch → StaysRefuted batch left.batch → StaysOver batch.lemmas left.batch.lemmas → StaysStated left.needed.items batch.lemmas left.batch.lemmas
    → ((j : ℕ) → j < length given → found ≡ Some j → get_or wanted j false ≡ true) → IsLeft seen own found left
left_by seen given own found batch wanted left same at lemmas t refuted over stated kept =
    let is = lemmas ∙ same in
    record {
      seen_same = t.seen ∙ at;
      each = t.are.one_each ∙ ap (length {A = Lemma}) is;
      refuted = λ points clauses earlier count h. refuted points clauses earlier (count ∙ sym at) (subst (AreRefuted points clauses earlier) (sym is) h);
      over = subst (λ (ls : List Lemma). StaysOver ls left.batch.lemmas) is over;
      stated = subst (λ (ls : List Lemma). StaysStated left.needed.items ls left.batch.lemmas) is stated;
      found_too = λ j lt e. (let h = t.are.right j in
          let a = ap (length {A = Lemma}) same in
          let b = ap (length {A = Lemma}) lemmas in
          h.1 (root (omega (arith, lt, a, b)) (kept j (omega (arith, lt, a)) e)));
    }

module _ (q : Question) (own : List Lemma) (seen : ℕ) (found : Option ℕ) (left : TrimmedBatch) (l : IsLeft seen own found left) (count : seen ≡ length q.handed) where
  left_proved : AreProved q own → AreProved q left.batch.lemmas
  left_proved p = (l.refuted q.problem.points q.problem.clauses q.handed (sym count) p.0, l.over q.problem.points p.1)

  pub left_batch : AreProved q own → IsBatch q left.batch
  left_batch p = record { seen = l.seen_same ∙ count; proved = left_proved p }

  pub answered_model : (division : Division) (schedule : List ℤ) → division ≡ Model schedule → IsDivision q own division → IsSlice q (AsModel schedule left.batch)
  answered_model division schedule e h =
      let there : IsDivision q own (Model schedule) = subst (IsDivision q own) e h in
      (there.0, left_batch there.1)

  pub answered_refuted : (division : Division) (j k : ℕ) → division ≡ Excluded j → found ≡ excluding division → k ≡ place left.needed.items j → IsDivision q own division → IsSlice q (AsRefuted left.batch k)
  answered_refuted division j k e is at h =
      let there : IsDivision q own (Excluded j) = subst (IsDivision q own) e h in
      let lemma = there.1 in
      let other = l.stated j lemma.0 lemma.1 (l.found_too j there.0 (is ∙ ap excluding e)) in
      let Denies : List Literal → Type 0 = λ c. All (λ (m : Literal). (n : Literal) × Contains q.cube n × (m ≡ negation_of n)) c in
      let here : Excludes q.cube left.batch.lemmas (place left.needed.items j) =
      (other.0, other.1, subst Denies (sym other.2) lemma.2) in
      (subst (λ (n : ℕ). Excludes q.cube left.batch.lemmas n) (sym at) here, left_batch there.2)

  pub answered_split : (division : Division) (m : Literal) → division ≡ Split m → IsDivision q own division → IsSlice q (AsSplit m left.batch)
  answered_split division m e h =
      let there : IsDivision q own (Split m) = subst (IsDivision q own) e h in
      (there.0, left_batch there.1)

-- of a model and of an excluded cube nothing is owed
pub model_spent : (target adds : ℕ) (schedule : List ℤ) (slice : Slice) → IsOfKind (Model schedule) slice → IsSplitBehind target adds slice
model_spent target adds schedule (AsModel values batch) h = tt
model_spent target adds schedule (AsRefuted batch k) h = tt
model_spent target adds schedule (AsSplit l batch) h = absurd cc

pub excluded_spent : (target adds j : ℕ) (slice : Slice) → IsOfKind (Excluded j) slice → IsSplitBehind target adds slice
excluded_spent target adds j (AsModel values batch) h = tt
excluded_spent target adds j (AsRefuted batch k) h = tt
excluded_spent target adds j (AsSplit l batch) h = absurd cc

pub divided_spent : (target adds : ℕ) (slice : Slice) → target ≤ adds → IsSplitBehind target adds slice
divided_spent target adds (AsModel values batch) h = tt
divided_spent target adds (AsRefuted batch k) h = tt
divided_spent target adds (AsSplit l batch) h = h
