-- Batches of lemmas, made over the first lemmas of a list, and moved to the list's end.
use Rattle.std.specs.Prelude.{ℕ, ◌<◌, ◌+◌, List, [], ◌∷◌, ◌++◌, length, map, All}
use Rattle.stn_core.specs.declared.literal.Literal.{Literal}
use Rattle.stn_core.specs.Literal.{IsOver}
use Rattle.refute_tree.specs.declared.step.Step.{Step}
use Rattle.refute_tree.specs.declared.step.Step.TheVariants.{Lemma as Earlier}
use Rattle.refute_tree.specs.declared.lemma.Lemma.{Lemma}
use Rattle.refute_tree.specs.Trees.{IsRefuted, literals_named, stated}
use Rattle.refute_tree.specs.Moves.{moved_step, MovesWithin}

-- lemmas that were made over the first `seen` ones of a list; the numbers from `seen` on are the batch's own
pub record LemmaBatch : Type 0 where
  pub seen : ℕ
  pub lemmas : List Lemma

-- each lemma is refuted over the problem, the earlier clauses and those of the lemmas before it
abbrev pub AreRefuted : ℕ → List (List Literal) → List (List Literal) → List Lemma → Type 0
AreRefuted points clauses earlier [] = Unit {0}
AreRefuted points clauses earlier (lemma ∷ lemmas) =
    IsRefuted points clauses earlier lemma × AreRefuted points clauses (earlier ++ lemma.clause ∷ []) lemmas

-- the literals that the step names are within the limits
abbrev pub NamesOver : ℕ → Step → Type 0
NamesOver points step = All (IsOver points) (literals_named step)

-- the literals of the lemma's clause, and those that its steps name, are within the limits
pub record LemmaIsOver (points : ℕ) (lemma : Lemma) : Type 0 where
  pub clause : All (IsOver points) lemma.clause
  pub steps : All (NamesOver points) lemma.steps

-- a reference to a lemma is to one of the first so many
abbrev pub RefersBelow : ℕ → Step → Type 0
RefersBelow limit (Earlier j) = j < limit
RefersBelow limit step = Unit {0}

abbrev pub LemmaRefersBelow : ℕ → Lemma → Type 0
LemmaRefersBelow limit lemma = All (RefersBelow limit) lemma.steps

-- the lemma with its references moved: those below `seen` stay, and the others follow the first `base` lemmas
abbrev pub moved_lemma : ℕ → ℕ → Lemma → Lemma
moved_lemma seen base lemma = record { clause = lemma.clause; steps = map (moved_step seen base) lemma.steps }

-- what its references move to are numbers of the machine
abbrev pub LemmaMovesWithin : ℕ → ℕ → Lemma → Type 0
LemmaMovesWithin seen base lemma = All (MovesWithin seen base) lemma.steps

-- the batch behind the first `base` lemmas
abbrev pub moved : ℕ → LemmaBatch → LemmaBatch
moved base batch = record { seen = base; lemmas = map (moved_lemma batch.seen base) batch.lemmas }

-- refuted over the first lemmas, and after the move over a list that begins with them
abbrev pub MovedBatchLaw : Type 0
MovedBatchLaw =
    (points : ℕ) (clauses first later : List (List Literal)) (lemmas : List Lemma)
    → AreRefuted points clauses first lemmas
    → AreRefuted points clauses (first ++ later)
    (map (moved_lemma (length first) (length first + length later)) lemmas)

-- refuted lemmas, and others that are refuted over them
abbrev pub JoinedLaw : Type 0
JoinedLaw =
    (points : ℕ) (clauses earlier : List (List Literal)) (lemmas others : List Lemma)
    → AreRefuted points clauses earlier lemmas
    → AreRefuted points clauses (earlier ++ map stated lemmas) others
    → AreRefuted points clauses earlier (lemmas ++ others)

-- refuted lemmas refer to those before them alone
abbrev pub ReferencesLaw : Type 0
ReferencesLaw =
    (points : ℕ) (clauses earlier : List (List Literal)) (lemmas : List Lemma)
    → AreRefuted points clauses earlier lemmas
    → All (LemmaRefersBelow (length earlier + length lemmas)) lemmas
