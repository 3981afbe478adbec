-- The laws of the first flaw.
use Rattle.std.specs.Prelude.{◌≡◌, ◌↔◌, ℕ, ℤ, List, IsTrue, None, Some, Contains}
use Rattle.stn_core.specs.declared.literal.Literal.{Literal}
use Rattle.stn_core.specs.Cycle.{IsNegativeCycle}
use Rattle.stn_core.specs.Problem.{ProblemHolds}
use Rattle.refute_tree.specs.declared.lemma.Lemma.{Lemma}
use Rattle.refute_tree.specs.Trees.{IsOnPoints, IsRefuted, IsRefutation}
use Rattle.cert_check.specs.declared.flaw.Flaw.{Flaw}
use Rattle.cert_check.specs.Tests.{is_assumed, is_on_points, is_negative_cycle}
use Rattle.cert_check.specs.Flaws.{lemma_flaw, refutation_flaw}
use Rattle.cert_check.specs.FirstFlaws.{IsFirstFlaw}

-- the tests answer what the definition of refutations says
pub record TestsLaw : Type 0 where
  pub assumed : (assumed : List Literal) (l : Literal) → IsTrue (is_assumed assumed l) ↔ Contains assumed l
  pub on_points : (points : ℕ) (l : Literal) → IsTrue (is_on_points points l) ↔ IsOnPoints points l
  pub cycle : (cycle : List Literal) → IsTrue (is_negative_cycle cycle) ↔ IsNegativeCycle cycle

-- a lemma has no flaw exactly where its steps refute the denial of its clause
abbrev pub LemmaLaw : Type 0
LemmaLaw =
    (points : ℕ) (clauses earlier : List (List Literal)) (lemma : Lemma)
    → (lemma_flaw points clauses earlier lemma ≡ None) ↔ IsRefuted points clauses earlier lemma

-- lemmas have no flaw exactly where they are a refutation
abbrev pub FlawLaw : Type 0
FlawLaw =
    (points : ℕ) (clauses : List (List Literal)) (lemmas : List Lemma)
    → (refutation_flaw points clauses lemmas ≡ None) ↔ IsRefutation points clauses lemmas

-- a flaw that is found is the first one
abbrev pub FirstFlawLaw : Type 0
FirstFlawLaw =
    (points : ℕ) (clauses : List (List Literal)) (lemmas : List Lemma) (flaw : Flaw)
    → refutation_flaw points clauses lemmas ≡ Some flaw → IsFirstFlaw points clauses lemmas flaw

-- a problem whose refutation has no flaw holds on no values of its points
abbrev pub AcceptedLaw : Type 0
AcceptedLaw =
    (points : ℕ) (clauses : List (List Literal)) (lemmas : List Lemma)
    → refutation_flaw points clauses lemmas ≡ None → (values : List ℤ) → ProblemHolds values clauses → ⊥
