-- The laws of refutation trees.
use Rattle.std.specs.Prelude.{◌≡◌, ℕ, ℤ, List, All, map}
use Rattle.stn_core.specs.declared.literal.Literal.{Literal}
use Rattle.stn_core.specs.Problem.{ProblemHolds}
use Rattle.refute_tree.specs.declared.step.Step.{Step}
use Rattle.refute_tree.specs.declared.lemma.Lemma.{Lemma}
use Rattle.refute_tree.specs.Trees.{IsRefuted, IsRefutation}
use Rattle.refute_tree.specs.Lengths.{IsNoClash, lengthened}

-- a problem that has a refutation holds on no values of its points
abbrev pub RefutationLaw : Type 0
RefutationLaw =
    (points : ℕ) (clauses : List (List Literal)) (lemmas : List Lemma)
    → IsRefutation points clauses lemmas → (values : List ℤ) → ProblemHolds values clauses → ⊥

-- steps without a clash are lengthened to themselves
abbrev pub PlainLengthened : Type 0
PlainLengthened = (clauses : List (List Literal)) (steps : List Step) → All IsNoClash steps → lengthened clauses steps ≡ steps

-- a refuted lemma has no clash when it is lengthened
abbrev pub LengthenedPlain : Type 0
LengthenedPlain =
    (points : ℕ) (clauses earlier : List (List Literal)) (lemma : Lemma)
    → IsRefuted points clauses earlier lemma → All IsNoClash (lengthened clauses lemma.steps)

-- a refutation stays one when each of its lemmas is changed so
abbrev pub RefutationStays : (List (List Literal) → Lemma → Lemma) → Type 0
RefutationStays change =
    (points : ℕ) (clauses : List (List Literal)) (lemmas : List Lemma)
    → IsRefutation points clauses lemmas → IsRefutation points clauses (map (change clauses) lemmas)
