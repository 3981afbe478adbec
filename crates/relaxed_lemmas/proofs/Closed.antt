-- Lemmas and one that ends them.
use Rattle.std.proofs.Common.{arith, ◌≡◌, ◌-◌, ◌<◌, ℕ, List, [], ◌∷◌, ◌++◌, length, Some, ap, refl, sym, subst, ◌∙◌, length-append}
use Rattle.std.specs.Prelude.{slice_get, All}
use Rattle.std.proofs.lemmas.List.Elements.{All-push}
use Rattle.stn_core.specs.Literal.{IsOver}
use Rattle.stn_core.specs.declared.literal.Literal.{Literal}
use Rattle.stn_core.specs.declared.problem.Problem.{Problem}
use Rattle.refute_tree.specs.declared.step.Step.{Step}
use Rattle.refute_tree.specs.declared.lemma.Lemma.{Lemma}
use Rattle.refute_tree.specs.Trees.{IsRefutation, literals_named}
use Rattle.refute_tree.specs.Batches.{AreRefuted, JoinedLaw, LemmaIsOver, NamesOver}
use Rattle.refute_tree.proofs.Numbered.{each_refuted}
use Rattle.book_core.specs.Books.{IsOpening}
use Rattle.relaxed_lemmas.specs.code.Closing.{Closes, NamesNone}

get_last : {A : Type 0} (xs : List A) (x : A) → slice_get (xs ++ x ∷ []) (length xs) ≡ Some x
get_last [] x = refl
get_last (y ∷ xs) x = get_last xs x

module _ (law : JoinedLaw) (problem : Problem) (lemmas : List Lemma) (last : Lemma) (opens : IsOpening problem lemmas) (closes : Closes problem lemmas last) where
  abbrev all : List Lemma
  all = lemmas ++ last ∷ []

  are_refuted : AreRefuted problem.points problem.clauses [] all
  are_refuted = law problem.points problem.clauses [] lemmas (last ∷ []) opens.refuted (closes.refuted, tt)

  some_of : 0 < length all
  some_of = let long = length-append lemmas (last ∷ []) in omega (arith, long)

  ends : (lemma : Lemma) → slice_get all (length all - 1) ≡ Some lemma → lemma.clause ≡ []
  ends lemma at =
      let long = length-append lemmas (last ∷ []) in
      let same : length all - 1 ≡ length lemmas = omega (arith, long) in
      let there : Some last ≡ Some lemma = sym (get_last lemmas last) ∙ ap (slice_get all) (sym same) ∙ at in
      let one : last ≡ lemma = cc in
      subst (λ (l : Lemma). l.clause ≡ []) one closes.empty

  -- as a refutation
  pub ended_right : IsRefutation problem.points problem.clauses all × All (LemmaIsOver problem.points) all
  ended_right = (record { some = some_of; each = each_refuted problem.points problem.clauses [] all are_refuted; last = ends }, All-push (LemmaIsOver problem.points) lemmas last opens.over closes.over)
