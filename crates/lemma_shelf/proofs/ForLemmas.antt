-- Items that stand for the lemmas of a refutation have no flaw.
use Rattle.std.proofs.Common.{arith, ◌≡◌, ◌+◌, ℕ, List, [], ◌∷◌, ◌++◌, length, map, take, Option, None, Some, inl, inr, refl, sym, ap, subst, ◌∙◌, length-append}
use Rattle.std.specs.Prelude.{slice_get}
use Rattle.std.specs.List.{AllZip}
use Rattle.std.proofs.lemmas.Option.{slice_get_within}
use Rattle.stn_core.specs.declared.literal.Literal.{Literal}
use Rattle.refute_tree.specs.declared.lemma.Lemma.{Lemma}
use Rattle.cert_check.specs.declared.flaw.Flaw.{Flaw}
use Rattle.cert_check.specs.declared.flaw.FlawKind.{FlawKind}
use Rattle.cert_check.specs.Flaws.{lemma_flaw, first_of, lemmas_flaw}
use Rattle.kept_lemmas.specs.declared.item.Kept.{Kept}
use Rattle.kept_lemmas.specs.declared.item.Item.{Item}
use Rattle.kept_lemmas.specs.declared.item.Item.TheVariants.{Own, Keep}
use Rattle.kept_lemmas.specs.Facts.{Shelf, kept_fact, fact_or_none}
use Rattle.kept_lemmas.specs.Entries.{AreRight}
use Rattle.kept_lemmas.specs.Laws.{OwnLaw}
use Rattle.refute_tree.specs.Trees.{IsRefutation}
use Rattle.lemma_shelf.specs.ItemFlaws.{flaw_there, item_clause, item_flaw, items_flaw_from}
use Rattle.lemma_shelf.specs.InPlace.{StandsInPlace, IsPicked}
use Rattle.lemma_shelf.specs.code.Citing.{States, StandsFor, IsPickedBy}
use Rattle.lemma_shelf.specs.code.Tables.{own_item}
use Rattle.lemma_shelf.proofs.Lists.{take_more, get_parts, get_last}
use Rattle.lemma_shelf.proofs.Unflawed.{both_none, kept_rightly, kept_unflawed, unflawed_items, right_items, own_flaw}

zip_push : {A B : Type 0} (R : A → B → Type 0) (xs : List A) (ys : List B) (x : A) (y : B) → AllZip R xs ys → R x y → AllZip R (xs ++ x ∷ []) (ys ++ y ∷ [])
zip_push R [] [] x y all h = (h, tt)
zip_push R [] (z ∷ ys) x y all h = absurd all
zip_push R (z ∷ xs) [] x y all h = absurd all
zip_push R (w ∷ xs) (z ∷ ys) x y all h = (all.0, zip_push R xs ys x y all.1 h)

-- one more of the first list, and one for it
pub zip_more : {A B : Type 0} (R : A → B → Type 0) (xs : List A) (ys more : List B) (k : ℕ) (x : A) (y : B) → slice_get xs k ≡ Some x → more ≡ ys ++ y ∷ [] → AllZip R (take k xs) ys → R x y → AllZip R (take (k + 1) xs) more
zip_more {A = A} {B = B} R xs ys more k x y at is all h =
    subst (λ (ms : List B). AllZip R (take (k + 1) xs) ms) (sym is)
    (subst (λ (ls : List A). AllZip R ls (ys ++ y ∷ [])) (sym (take_more xs k x at)) (zip_push R (take k xs) ys x y all h))

-- one more of the second list, for the member of the first at its place
pub each_more : {A B : Type 0} (R : ℕ → A → B → Type 0) (xs : List A) (ys more : List B) (k : ℕ) (x : A) (y : B) → length ys ≡ k → slice_get xs k ≡ Some x → more ≡ ys ++ y ∷ []
    → ((j : ℕ) (a : A) (b : B) → slice_get xs j ≡ Some a → slice_get ys j ≡ Some b → R j a b) → R k x y
    → (j : ℕ) (a : A) (b : B) → slice_get xs j ≡ Some a → slice_get more j ≡ Some b → R j a b
each_more {A = A} {B = B} R xs ys more k x y count at is all here j a b ea eb =
    let there : slice_get (ys ++ y ∷ []) j ≡ Some b = ap (λ (zs : List B). slice_get zs j) (sym is) ∙ eb in
    elim (get_parts ys (y ∷ []) j b there) [
      | inl h ↦ all j a b ea h.1
      | inr h ↦
          let low = h.0 in
          let within = slice_get_within (ys ++ y ∷ []) j b there in
          let long = length-append ys (y ∷ []) in
          let same : j ≡ k = omega (arith, low, within, long, count) in
          let last : slice_get (ys ++ y ∷ []) j ≡ Some y = ap (slice_get (ys ++ y ∷ [])) (same ∙ sym count) ∙ get_last ys y in
          let one : x ≡ a = some_same (sym at ∙ ap (slice_get xs) (sym same) ∙ ea) in
          let two : y ≡ b = some_same (sym last ∙ there) in
          subst (λ (n : ℕ). R n a b) (sym same) (subst (λ (c : A). R k c b) one (subst (λ (d : B). R k x d) two here))
    ]
  where
    some_same : {C : Type 0} {c d : C} → Some c ≡ Some d → c ≡ d
    some_same e = cc

module _ (shelf : Shelf) (points : ℕ) (clauses : List (List Literal)) where
  abbrev Stands : Lemma → Item → Type 0
  Stands lemma item = StandsFor shelf points clauses lemma item

  -- an item that stands for a lemma without a flaw has none
  stands_unflawed : (earlier : List (List Literal)) (lemma : Lemma) (item : Item) → Stands lemma item → lemma_flaw points clauses earlier lemma ≡ None → item_flaw shelf points clauses earlier item ≡ None
  stands_unflawed earlier lemma (Own own) s h = ap (lemma_flaw points clauses earlier) s ∙ h
  stands_unflawed earlier lemma (Keep kept) s h = ap (flaw_there earlier) s.0

  stands_states : (lemma : Lemma) (item : Item) → Stands lemma item → item_clause shelf item ≡ lemma.clause
  stands_states lemma (Own own) s = ap (λ (l : Lemma). l.clause) s
  stands_states lemma (Keep kept) s = s.1

  abbrev LemmasFlaw : List Lemma → List (List Literal) → Option Flaw
  LemmasFlaw lemmas earlier = lemmas_flaw points clauses earlier lemmas

  abbrev ItemsFlaw : List Item → List (List Literal) → Option Flaw
  ItemsFlaw items earlier = items_flaw_from shelf points clauses earlier items

  pub standing_unflawed : (earlier : List (List Literal)) (lemmas : List Lemma) (items : List Item) → AllZip Stands lemmas items → LemmasFlaw lemmas earlier ≡ None → ItemsFlaw items earlier ≡ None
  standing_unflawed earlier [] [] all h = h
  standing_unflawed earlier [] (item ∷ items) all h = absurd all
  standing_unflawed earlier (lemma ∷ lemmas) [] all h = absurd all
  standing_unflawed earlier (lemma ∷ lemmas) (item ∷ items) all h =
      let parts = both_none (lemma_flaw points clauses earlier lemma) (LemmasFlaw lemmas (earlier ++ lemma.clause ∷ [])) h in
      let here = stands_unflawed earlier lemma item all.0 parts.0 in
      let states = stands_states lemma item all.0 in
      let rest = standing_unflawed (earlier ++ lemma.clause ∷ []) lemmas items all.1 parts.1 in
      ap (λ (f : Option Flaw). first_of f (ItemsFlaw items (earlier ++ item_clause shelf item ∷ []))) here
      ∙ ap (λ (c : List Literal). ItemsFlaw items (earlier ++ c ∷ [])) states
      ∙ rest

  -- so they are right, where the lemmas are a refutation
  pub standing_right : OwnLaw → (lemmas : List Lemma) (items : List Item) → AllZip Stands lemmas items → IsRefutation points clauses lemmas → AreRight shelf points clauses items
  standing_right law lemmas items all refutes =
      let own : AreRight shelf points clauses (map own_item lemmas) = (law shelf points clauses lemmas).1 refutes in
      let none : LemmasFlaw lemmas [] ≡ None = sym (own_flaw shelf points clauses [] lemmas) ∙ right_items shelf points clauses (map own_item lemmas) own in
      unflawed_items shelf points clauses items (standing_unflawed [] lemmas items all none)

-- what stands for lemmas, whatever the problem
pub standing_in_place : (shelf : Shelf) (points : ℕ) (clauses : List (List Literal)) (lemmas : List Lemma) (items : List Item) → AllZip (StandsFor shelf points clauses) lemmas items → AllZip (StandsInPlace shelf) lemmas items
standing_in_place shelf points clauses [] [] all = tt
standing_in_place shelf points clauses [] (item ∷ items) all = absurd all
standing_in_place shelf points clauses (lemma ∷ lemmas) [] all = absurd all
standing_in_place shelf points clauses (lemma ∷ lemmas) (Own own ∷ items) all = (all.0, standing_in_place shelf points clauses lemmas items all.1)
standing_in_place shelf points clauses (lemma ∷ lemmas) (Keep kept ∷ items) all = (all.0.1, standing_in_place shelf points clauses lemmas items all.1)

-- a place that states the clause without literals refutes the problem by itself
pub kept_alone : (shelf : Shelf) (points : ℕ) (clauses : List (List Literal)) (kept : Kept) → States shelf points clauses [] kept → AreRight shelf points clauses (Keep kept ∷ [])
kept_alone shelf points clauses kept s =
    let earlier : List (List Literal) → Option Flaw = λ cs. items_flaw_from shelf points clauses cs [] in
    unflawed_items shelf points clauses (Keep kept ∷ [])
    (ap (λ (f : Option FlawKind). first_of (flaw_there [] f) (earlier (item_clause shelf (Keep kept) ∷ []))) s.0 ∙ ap (λ (c : List Literal). earlier (c ∷ [])) s.1)

-- and where it does, it states that clause
pub alone_states : (shelf : Shelf) (points : ℕ) (clauses : List (List Literal)) (kept : Kept) → AreRight shelf points clauses (Keep kept ∷ []) → States shelf points clauses [] kept
alone_states shelf points clauses kept r = (kept_unflawed shelf points clauses kept (r.each 0 (Keep kept) refl), r.last (fact_or_none (kept_fact shelf kept)) refl)

-- what is picked, in the words of the format
pub picked_as : (shelf : Shelf) (points : ℕ) (clauses : List (List Literal)) (lemma : Lemma) (place : Option Kept) (item : Item) → IsPickedBy shelf points clauses lemma place item → IsPicked shelf points clauses lemma place item
picked_as shelf points clauses lemma None item h = h
picked_as shelf points clauses lemma (Some kept) item h = (
  λ may. h.0 (kept_unflawed shelf points clauses kept may.0, may.1),
  λ none. h.1 (λ states. none (kept_rightly shelf points clauses kept states.0, states.1)),
)
