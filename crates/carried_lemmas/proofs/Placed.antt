-- The kept lemmas by the tables, one after the other.
use Rattle.std.proofs.Common.{arith, ◌≡◌, ◌<◌, ◌≤◌, ◌+◌, ℕ, Bool, true, false, List, [], ◌∷◌, ◌++◌, length, map, take, Option, Some, All, refl, sym, ap, subst, ◌∙◌, get_or, append-nil, append_assoc}
use Rattle.std.specs.Prelude.{slice_get}
use Rattle.std.specs.List.{items_where_true}
use Rattle.std.proofs.lemmas.List.{length_push, take_all}
use Rattle.std.proofs.lemmas.List.Elements.{All-head, All-tail}
use Rattle.std.proofs.lemmas.Option.{slice_get_read}
use Rattle.refute_tree.specs.declared.step.Step.{Step}
use Rattle.refute_tree.specs.declared.step.Step.TheVariants.{Cycle, Input, Lemma as Earlier, Clash, Either}
use Rattle.refute_tree.specs.declared.lemma.Lemma.{Lemma}
use Rattle.refute_tree.specs.Batches.{RefersBelow, LemmaRefersBelow}
use Rattle.trim_lemmas.specs.Trimming.{place}
use Rattle.trim_lemmas.proofs.Picked.{one_if, picked_more, map_get}
use Rattle.trim_lemmas.proofs.Counted.{place_zero, place_more, get_pushed}
use Rattle.carried_lemmas.specs.Carried.{carried_step, carried_lemma}
use Rattle.carried_lemmas.specs.code.Carrying.{step_by, lemma_by, ReferBack}

-- the first k lemmas are gone through: the table has the place of each, and the kept ones are made
pub record AreMade (numbers : List (Option ℕ)) (kept : List Bool) (lemmas : List Lemma) (places : List ℕ) (all : List Lemma) (k : ℕ) : Type 0 where
  pub long : length places ≡ k
  pub each : (j : ℕ) → j < k → get_or places j 0 ≡ place kept j
  pub made : all ≡ map (carried_lemma numbers kept) (items_where_true (take k kept) (take k lemmas))
  pub count : length all ≡ place kept k

pub none_made : (numbers : List (Option ℕ)) (kept : List Bool) (lemmas : List Lemma) (places : List ℕ) (all : List Lemma) → length places ≡ 0 → all ≡ [] → AreMade numbers kept lemmas places all 0
none_made numbers kept lemmas places all long none_ = record {
  long = long;
  each = λ j lt. absurd (omega arith);
  made = none_ ∙ empty kept lemmas;
  count = ap length none_ ∙ sym (place_zero kept);
}
  where
    empty : (bs : List Bool) (ls : List Lemma) → [] ≡ map (carried_lemma numbers kept) (items_where_true (take 0 bs) (take 0 ls))
    empty [] ls = refl
    empty (b ∷ bs) [] = refl
    empty (b ∷ bs) (l ∷ ls) = refl

module _ (numbers : List (Option ℕ)) (kept : List Bool) (places : List ℕ) (count : ℕ) (each : (j : ℕ) → j < count → get_or places j 0 ≡ place kept j) where
  step_same : (s : Step) → RefersBelow count s → step_by numbers places s ≡ carried_step numbers kept s
  step_same (Cycle cycle) h = refl
  step_same (Input i) h = refl
  step_same (Earlier j) h = ap (λ (n : ℕ). Earlier n) (each j h)
  step_same (Clash i) h = refl
  step_same (Either l) h = refl

  steps_same : (steps : List Step) → All (RefersBelow count) steps → map (step_by numbers places) steps ≡ map (carried_step numbers kept) steps
  steps_same [] h = refl
  steps_same (s ∷ steps) h =
      ap (λ (t : Step). t ∷ map (step_by numbers places) steps) (step_same s (All-head (RefersBelow count) s steps h))
      ∙ ap (λ (ts : List Step). carried_step numbers kept s ∷ ts) (steps_same steps (All-tail (RefersBelow count) s steps h))

  lemma_same : (lemma : Lemma) → LemmaRefersBelow count lemma → lemma_by numbers places lemma ≡ carried_lemma numbers kept lemma
  lemma_same lemma h = ap (λ (steps : List Step). record { clause = lemma.clause; steps = steps }) (steps_same lemma.steps h)

module _ (numbers : List (Option ℕ)) (kept : List Bool) (lemmas : List Lemma) (places : List ℕ) (all : List Lemma) (k : ℕ)
    (h : AreMade numbers kept lemmas places all k) (within : k < length lemmas) (same : length kept ≡ length lemmas)
    (wider : List ℕ) (pushed : wider ≡ places ++ length all ∷ []) where
  longer : length wider ≡ k + 1
  longer = ap length pushed ∙ length_push places (length all) ∙ ap (λ (n : ℕ). n + 1) h.long

  placed : (j : ℕ) → j < k + 1 → get_or wider j 0 ≡ place kept j
  placed j lt =
      let all_is : length all ≡ 0 + place kept k = omega (arith, h.count) in
      let each_is : (i : ℕ) → i < k → get_or places i 0 ≡ 0 + place kept i = λ i below. (let e = h.each i below in omega (arith, e)) in
      let p = get_pushed 0 kept places k (length all) h.long all_is each_is j lt in
      ap (λ (xs : List ℕ). get_or xs j 0) pushed ∙ (let e : get_or (places ++ length all ∷ []) j 0 ≡ place kept j = omega (arith, p) in e)

  abbrev Made : List Lemma → Type 0
  Made more = more ≡ map (carried_lemma numbers kept) (items_where_true (take (k + 1) kept) (take (k + 1) lemmas))

  made_next : (b : Bool) (lemma : Lemma) → get_or kept k false ≡ b → get_or lemmas k lemma ≡ lemma → Made (all ++ map (carried_lemma numbers kept) (one_if b lemma))
  made_next b lemma is here =
      let f = carried_lemma numbers kept in
      let before = items_where_true (take k kept) (take k lemmas) in
      let step = picked_more kept lemmas k lemma within same in
      let these : one_if (get_or kept k false) (get_or lemmas k lemma) ≡ one_if b lemma = ap (λ (c : Bool). one_if c (get_or lemmas k lemma)) is ∙ ap (λ (l : Lemma). one_if b l) here in
      sym (ap (map f) (step ∙ ap (λ (ls : List Lemma). before ++ ls) these) ∙ mapped f before (one_if b lemma) ∙ ap (λ (ls : List Lemma). ls ++ map f (one_if b lemma)) (sym h.made))
    where
      mapped : (f : Lemma → Lemma) (xs ys : List Lemma) → map f (xs ++ ys) ≡ map f xs ++ map f ys
      mapped f [] ys = refl
      mapped f (x ∷ xs) ys = ap (λ (zs : List Lemma). f x ∷ zs) (mapped f xs ys)

  pub made_not : (lemma : Lemma) → get_or kept k false ≡ false → get_or lemmas k lemma ≡ lemma → AreMade numbers kept lemmas wider all (k + 1)
  made_not lemma is here = record {
    long = longer;
    each = placed;
    made = sym (append-nil all) ∙ made_next false lemma is here;
    count = (let p = place_more kept k false is in omega (arith, h.count, p));
  }

  pub made_one : (lemma : Lemma) → get_or kept k false ≡ true → get_or lemmas k lemma ≡ lemma → LemmaRefersBelow (k + 1) lemma
      → (more : List Lemma) → more ≡ all ++ lemma_by numbers wider lemma ∷ [] → AreMade numbers kept lemmas wider more (k + 1)
  made_one lemma is here back more e =
      let one : all ++ lemma_by numbers wider lemma ∷ [] ≡ all ++ carried_lemma numbers kept lemma ∷ [] = ap (λ (l : Lemma). all ++ l ∷ []) (lemma_same numbers kept wider (k + 1) placed lemma back) in
      record {
        long = longer;
        each = placed;
        made = e ∙ one ∙ made_next true lemma is here;
        count = (let p = place_more kept k true is in omega (arith, ap length e, length_push all (lemma_by numbers wider lemma), h.count, p));
      }

-- one more step by its new numbers
pub made_step : (f : Step → Step) (all before after : List Step) (s : Step) (made next : List Step)
    → before ≡ s ∷ after → made ++ map f before ≡ map f all → next ≡ made ++ f s ∷ [] → next ++ map f after ≡ map f all
made_step f all before after s made next e h is =
    ap (λ (xs : List Step). xs ++ map f after) is ∙ append_assoc made (f s ∷ []) (map f after) ∙ ap (λ (xs : List Step). made ++ map f xs) (sym e) ∙ h

-- a shared lemma where it stands
module _ {A : Type 0} (value : A → Lemma) (shared : List A) (k : ℕ) (item : A) (within : k < length shared) (is : item ≡ get_or shared k item) (lemma : Lemma) (lent : lemma ≡ value item) where
  pub shared_at : slice_get (map value shared) k ≡ Some lemma
  shared_at = map_get value shared k item (slice_get_read shared (length shared) k item refl within is) ∙ ap (λ (l : Lemma). Some l) (sym lent)

  pub shared_below : (wider : List ℕ) → ReferBack (map value shared) → length wider ≡ k + 1 → LemmaRefersBelow (length wider) lemma
  shared_below wider back long = subst (λ (n : ℕ). LemmaRefersBelow n lemma) (sym long) (back k lemma shared_at)

pub all_made : (numbers : List (Option ℕ)) (kept : List Bool) (lemmas : List Lemma) (places : List ℕ) (all : List Lemma) (k : ℕ)
    → AreMade numbers kept lemmas places all k → length lemmas ≤ k → length kept ≡ length lemmas → all ≡ map (carried_lemma numbers kept) (items_where_true kept lemmas)
all_made numbers kept lemmas places all k h le same =
    h.made ∙ ap (λ (bs : List Bool). map (carried_lemma numbers kept) (items_where_true bs (take k lemmas))) (take_all k kept (omega arith))
    ∙ ap (λ (ls : List Lemma). map (carried_lemma numbers kept) (items_where_true kept ls)) (take_all k lemmas le)
