-- What always holds of a seat's lemmas and cube.
use Rattle.std.proofs.Common.{ℕ, List, [], ◌∷◌, ◌++◌, length, All, Option, sym, subst}
use Rattle.std.specs.Prelude.{IfSome, AllPairs}
use Rattle.std.proofs.Math.Seq.{take-append_seam}
use Rattle.std.proofs.lemmas.List.Elements.{All-take}
use mathlib.Core.List.{IsPrefix}
use Rattle.stn_core.specs.declared.literal.Literal.{Literal}
use Rattle.refute_tree.specs.declared.lemma.Lemma.{Lemma}
use Rattle.refute_tree.specs.Batches.{AreRefuted, LemmaIsOver}
use Rattle.book_core.specs.Books.{IsDecidable}
use Rattle.book_core.specs.Facts.{IsSound, IsApart, SoundLaw}
use Rattle.book_lock.specs.Begun.{Opens, Runs, reached}
use Rattle.book_lock.specs.declared.cube.Cube.{Cube}
use Rattle.book_lock.specs.declared.view.View.{View}
use Rattle.book_lock.specs.Seats.{WasTaken}
use Rattle.book_lock.proofs.Turning.{run_prefix, some_also}

refuted_first : (points : ℕ) (clauses earlier : List (List Literal)) (xs ys : List Lemma) → AreRefuted points clauses earlier (xs ++ ys) → AreRefuted points clauses earlier xs
refuted_first points clauses earlier [] ys h = tt
refuted_first points clauses earlier (x ∷ xs) ys h = (h.0, refuted_first points clauses (earlier ++ x.clause ∷ []) xs ys h.1)

all_first : {A : Type 0} (P : A → Type 0) (xs ys : List A) → All P (xs ++ ys) → All P xs
all_first {A = A} P xs ys h = subst (λ (zs : List A). All P zs) (take-append_seam xs ys) (All-take P (length xs) (xs ++ ys) h)

module _ (law : SoundLaw) (v : View) (lemmas : List Lemma) (holding : Option Cube) (opens : Opens v.begun) (run : Runs v.begun v.front) where
  pub sound_refuted : IsPrefix lemmas (reached v.begun v.front).lemmas → AreRefuted v.begun.problem.points v.begun.problem.clauses [] lemmas
  sound_refuted seen = refuted_first v.begun.problem.points v.begun.problem.clauses [] lemmas seen.0
      (subst (λ (ls : List Lemma). AreRefuted v.begun.problem.points v.begun.problem.clauses [] ls) (sym seen.1) (law v.begun.problem v.begun.opening v.front opens run).refuted)

  pub sound_over : IsPrefix lemmas (reached v.begun v.front).lemmas → All (LemmaIsOver v.begun.problem.points) lemmas
  sound_over seen = all_first (LemmaIsOver v.begun.problem.points) lemmas seen.0
      (subst (λ (ls : List Lemma). All (LemmaIsOver v.begun.problem.points) ls) (sym seen.1) (law v.begun.problem v.begun.opening v.front opens run).over)

  past : (cube : Cube) (h : WasTaken v cube) → IsSound v.begun.problem (reached v.begun h.0)
  past cube h = law v.begun.problem v.begun.opening h.0 opens (run_prefix v.begun h.0 v.front h.1 run)

  pub sound_decided : IfSome holding (WasTaken v) → IfSome holding (λ (cube : Cube). All (IsDecidable v.begun.problem) cube.literals)
  sound_decided = some_also holding (WasTaken v) (λ (cube : Cube). All (IsDecidable v.begun.problem) cube.literals)
      (λ cube h. subst (λ (ls : List Literal). All (IsDecidable v.begun.problem) ls) (sym h.3.1) ((past cube h).decided cube.id))

  pub sound_apart : IfSome holding (WasTaken v) → IfSome holding (λ (cube : Cube). AllPairs IsApart cube.literals)
  sound_apart = some_also holding (WasTaken v) (λ (cube : Cube). AllPairs IsApart cube.literals)
      (λ cube h. subst (λ (ls : List Literal). AllPairs IsApart ls) (sym h.3.1) ((past cube h).apart cube.id))
