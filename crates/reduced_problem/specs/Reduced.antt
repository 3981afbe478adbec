-- A problem each of whose clauses is one of another problem, or is stated by a lemma that is refuted over that. What is a
-- consequence of clauses may be put to them, and then be used as they are (Robinson 1965, A machine-oriented logic based on the
-- resolution principle, section 2).
use Rattle.std.specs.Prelude.{◌≡◌, ℕ, List, length, map, Some, slice_get}
use Rattle.stn_core.specs.declared.literal.Literal.{Literal}
use Rattle.stn_core.specs.declared.problem.Problem.{Problem}
use Rattle.refute_tree.specs.declared.lemma.Lemma.{Lemma}
use Rattle.refute_tree.specs.Trees.{stated}
use Rattle.book_core.specs.Books.{IsOpening}
use Rattle.atom_elimination.specs.declared.derivation.Origin.{Origin}
use Rattle.atom_elimination.specs.declared.derivation.Origin.TheVariants.{Input, Lemma as Derived}

-- the clause is the problem's with this number, or the lemma with this number states it
abbrev pub IsFrom : List (List Literal) → List Lemma → Origin → List Literal → Type 0
IsFrom inputs lemmas (Input i) clause = slice_get inputs i ≡ Some clause
IsFrom inputs lemmas (Derived j) clause = slice_get (map stated lemmas) j ≡ Some clause

-- so is each of these clauses, by its own origin
pub record AreFrom (inputs : List (List Literal)) (lemmas : List Lemma) (origins : List Origin) (clauses : List (List Literal)) : Type 0 where
  pub one_each : length origins ≡ length clauses
  pub each : (i : ℕ) (origin : Origin) (clause : List Literal) → slice_get origins i ≡ Some origin → slice_get clauses i ≡ Some clause → IsFrom inputs lemmas origin clause

-- a problem, with the lemmas of which it knows, and where each of its clauses comes from
pub record Reduced : Type 0 where
  pub problem : Problem
  pub lemmas : List Lemma
  pub origins : List Origin

-- it takes the place of this problem
pub record IsReductionOf (problem : Problem) (r : Reduced) : Type 0 where
  pub points : r.problem.points ≡ problem.points
  pub opening : IsOpening problem r.lemmas
  pub from : AreFrom problem.clauses r.lemmas r.origins r.problem.clauses
