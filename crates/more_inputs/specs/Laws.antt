-- Clauses at the end of a problem.
use Rattle.std.specs.Prelude.{ℕ, List, ◌++◌}
use Rattle.stn_core.specs.declared.literal.Literal.{Literal}
use Rattle.refute_tree.specs.declared.lemma.Lemma.{Lemma}
use Rattle.refute_tree.specs.Trees.{IsRefuted, IsRefutation}
use Rattle.refute_tree.specs.Batches.{AreRefuted}

-- a refuted lemma is one over more clauses
abbrev pub MoreInputsRefute : Type 0
MoreInputsRefute =
    (points : ℕ) (clauses later earlier : List (List Literal)) (lemma : Lemma)
    → IsRefuted points clauses earlier lemma → IsRefuted points (clauses ++ later) earlier lemma

-- so are lemmas that are refuted one after the other
abbrev pub MoreInputsRefuteEach : Type 0
MoreInputsRefuteEach =
    (points : ℕ) (clauses later earlier : List (List Literal)) (lemmas : List Lemma)
    → AreRefuted points clauses earlier lemmas → AreRefuted points (clauses ++ later) earlier lemmas

-- and a refutation
abbrev pub MoreInputsKeep : Type 0
MoreInputsKeep =
    (points : ℕ) (clauses later : List (List Literal)) (lemmas : List Lemma)
    → IsRefutation points clauses lemmas → IsRefutation points (clauses ++ later) lemmas
