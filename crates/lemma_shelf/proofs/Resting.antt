-- What a walk from a root comes to, the root rests on.
use Rattle.std.proofs.Common.{◌≡◌, ℕ, List, [], Some, All, sym, subst, ◌∙◌}
use Rattle.std.specs.Prelude.{slice_get}
use Rattle.std.proofs.lemmas.List.Elements.{All-nil, All-append, All-weaker}
use Rattle.refute_tree.specs.declared.lemma.Lemma.{Lemma}
use Rattle.kept_lemmas.proofs.FactLists.{all_at}
use Rattle.lemma_shelf.specs.code.Tables.{with_number, with_all_cited, steps_at}
use Rattle.lemma_shelf.specs.code.WrittenOut.{RestsOn, itself, cited}
use Rattle.lemma_shelf.proofs.Walking.{CitedBy, with_number_longer, cited_longer}

module _ (lemmas : List Lemma) (root : ℕ) where
  pub rests_none : (reached : List ℕ) → reached ≡ [] → All (RestsOn lemmas root) reached
  rests_none reached e = subst (All (RestsOn lemmas root)) (sym e) (All-nil (RestsOn lemmas root))

  pub rests_begun : (reached now : List ℕ) → now ≡ with_number reached root → All (RestsOn lemmas root) reached → All (RestsOn lemmas root) now
  rests_begun reached now e all =
      let w = with_number_longer reached root in
      subst (All (RestsOn lemmas root)) (sym (e ∙ w.longer))
      (All-append (RestsOn lemmas root) reached w.more all (All-weaker (λ (m : ℕ). m ≡ root) (RestsOn lemmas root) (λ m s. subst (RestsOn lemmas root) (sym s) itself) w.more w.sources))

  pub rests_turn : (reached now : List ℕ) (at n : ℕ) → slice_get reached at ≡ Some n → now ≡ with_all_cited reached (steps_at lemmas n) → All (RestsOn lemmas root) reached → All (RestsOn lemmas root) now
  rests_turn reached now at n got e all =
      let w = cited_longer reached (steps_at lemmas n) in
      let here : RestsOn lemmas root n = all_at (RestsOn lemmas root) reached at n all got in
      subst (All (RestsOn lemmas root)) (sym (e ∙ w.longer))
      (All-append (RestsOn lemmas root) reached w.more all (All-weaker (CitedBy (steps_at lemmas n)) (RestsOn lemmas root) (λ j h. cited here h) w.more w.sources))
